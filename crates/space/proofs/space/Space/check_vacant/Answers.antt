use Rattle.std.proofs.Common.{◌≡◌, ◌∙◌, ◌-◌, Err, refl, rules}
use Rattle.model.specs.Pages.{closing_by, mapped_state}
use Rattle.tree.specs.Nodes.{shows}
use Rattle.space.proofs.Passing.{vacant_passed, vacant_refused}
use Rattle.space.proofs.space.Space.check_vacant.Goals as goal

pub returns-in_err-check_none : goal.returns-in_err-check_none
returns-in_err-check_none g c =
    let p = c.args.pages in
    let a = c.check_none.ensures closing_by (refl, λ m r h. search rules) in
    let is : c.from_residual.result ≡ Err c.in_err-check_none.field-0.0 = search rules in
    is ∙ vacant_refused p.first (p.last - p.first) (shows c.args.self.now.tree) c.check_none.result a _ c.in_err-check_none.was

pub returns : goal.returns
returns g c =
    let p = c.args.pages in
    let a = c.check_none.ensures closing_by (refl, λ m r h. search rules) in
    let b = c.check_none-2.ensures mapped_state (refl, λ m r h. search rules) in
    vacant_passed p.first (p.last - p.first) (shows c.args.self.now.tree) c.check_none.result a c.check_none-2.result c.in_ok-check_none.was b
