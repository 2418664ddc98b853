use Rattle.std.proofs.Common.{◌≡◌, ◌<◌, sym, refl, subst}
use Rattle.tree.specs.declared.slot.Slot.TheVariants.{Vacant, Value}
use Rattle.tree.specs.Shape.{Shape}
use Rattle.tree.specs.Nodes.{slot_at, link_at}
use Rattle.tree.specs.Changes.{written}
use Rattle.tree.proofs.Filling.{put_sound}
use Rattle.tree.proofs.table.Tree.put.Goals as goal

pub invariant_of-self : goal.invariant_of-self
invariant_of-self c =
    let t : Shape = record { slots = c.self.inside.slots; links = c.self.inside.links; pool = c.self.inside.pool } in
    let live = subst (λ (u : Shape). 0 < (link_at u.links c.args.n).level) (sym c.self.view_is) c.requires.live in
    let was = subst (λ (u : Shape). slot_at u.slots c.args.n c.args.s ≡ Vacant) (sym c.self.view_is) c.requires.vacant in
    rw c.row.ensures.is (put_sound t (written c.args.n c.args.s (Value c.args.e) t) c.self.invariant c.args.n c.args.s c.args.e refl c.requires.place live was c.requires.fits)
