use Rattle.std.proofs.Common.{ap, ◌∙◌}
use Rattle.tree.specs.Shape.{Shape}
use Rattle.tree.specs.Pools.{next_object}
use Rattle.tree.specs.Changes.{grown}
use Rattle.tree.proofs.Hanging.{grown_is, grown_hung}
use Rattle.tree.proofs.table.Tree.grow.Goals as goal

pub invariant_of-self : goal.invariant_of-self
invariant_of-self c =
    let t : Shape = record { slots = c.self.inside.slots; links = c.self.inside.links; pool = c.self.inside.pool } in
    let k = c.place-k.ensures ∙ c.draw.ensures.number in
    let is = grown_is t c.args.n c.args.s _ _ k c.draw.ensures.after in
    let r = c.requires in
    rw c.row.ensures.is (grown_hung t c.args.self.now _ c.args.n c.args.s _ c.self.view_is c.self.invariant k is r.some r.node r.place r.live r.above r.vacant).sound

pub returns : goal.returns
returns c =
    let t : Shape = record { slots = c.self.inside.slots; links = c.self.inside.links; pool = c.self.inside.pool } in
    let k = c.place-k.ensures ∙ c.draw.ensures.number in
    let is = grown_is t c.args.n c.args.s _ _ k c.draw.ensures.after in
    let r = c.requires in
    record {
      child = k ∙ ap (λ (u : Shape). next_object u.pool) c.self.view_is;
      exact = rw c.row.ensures.is (is ∙ ap (grown c.args.n c.args.s) c.self.view_is);
      hung = rw c.row.ensures.is (grown_hung t c.args.self.now _ c.args.n c.args.s _ c.self.view_is c.self.invariant k is r.some r.node r.place r.live r.above r.vacant);
    }
