use Rattle.std.proofs.Common.{◌<◌, length, refl, rules}
use Rattle.bank.proofs.ReloadEach.{entries_read, entries_same, turn_read, displaced}
use Rattle.bank.proofs.reload_rows.ReloadRows.take.Goals as goal

pub returns : goal.returns
returns c =
    let h : c.args.pair.core < length c.args.self.now.rows = search rules in
    let is = entries_read c.args.self.now.rows c.args.pair.core c.index-self-pair.result h in
    let e = entries_same c.args.self.now.rows c.args.pair.core c.take.new.self h in
    let turn = turn_read c.args.self.now.rows c.args.pair.core c.index-self-pair.result h in
    record {
      here = simp e c.take.ensures.here;
      rest = displaced _ _ _ _ c.take.new.self _ h is c.take.ensures.rest c.take.ensures.inside;
      exact = record { row = c.take.new.self; writes = refl; takes = simp (is, turn) c.take.ensures.exact };
    }
