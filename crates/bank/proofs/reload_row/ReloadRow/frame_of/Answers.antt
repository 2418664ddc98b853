use Rattle.std.proofs.Common.{sym, ◌∙◌, arith, rules}
use Rattle.bank.proofs.ReloadFound.{nowhere, found, here_hit}
use Rattle.bank.proofs.reload_row.ReloadRow.frame_of.Goals as goal

pub returns-in_err-place_of : goal.returns-in_err-place_of
returns-in_err-place_of c = c.from_residual.ensures ∙ sym (nowhere c.args.page c.args.self.now.entries c.in_err-place_of.ensures)

pub returns : goal.returns
returns c =
    let r = c.args.self.now in
    let s = found c.args.page c.in_ok-place_of.field-0 r.entries (search rules) c.in_ok-place_of.ensures in
    let here = here_hit s r.single in
    let map = rw s.at at c.map.ensures.cases in
    grind arith
