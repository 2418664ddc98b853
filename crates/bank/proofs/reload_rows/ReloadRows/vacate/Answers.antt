use Rattle.std.proofs.Common.{◌<◌, length, refl, rules}
use Rattle.bank.proofs.ReloadEach.{entries_read, turn_read, dropped}
use Rattle.bank.proofs.reload_rows.ReloadRows.vacate.Goals as goal

pub returns : goal.returns
returns c =
    let h : c.args.core < length c.args.self.now.rows = search rules in
    let is = entries_read c.args.self.now.rows c.args.core c.index-self-core.result h in
    let turn = turn_read c.args.self.now.rows c.args.core c.index-self-core.result h in
    record {
      means = dropped _ _ _ _ c.vacate.new.self h is c.vacate.ensures.here c.vacate.ensures.rest;
      exact = record { row = c.vacate.new.self; writes = refl; vacates = simp is c.vacate.ensures.exact; stays = simp turn c.vacate.ensures.turn };
    }
