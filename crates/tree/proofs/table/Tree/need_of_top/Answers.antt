use Rattle.std.proofs.Common.{◌+◌, ◌-◌, ◌/◌, ◌%◌, eqb, sym, ap, arith}
use Rattle.std.proofs.lemmas.Bool.{cond-false, ne_eqb}
use Rattle.tree.specs.declared.slot.Slot.{Slot}
use Rattle.tree.specs.declared.slot.Slot.TheVariants.{Vacant}
use Rattle.tree.specs.Nodes.{slot_at}
use Rattle.tree.specs.Need.{need_by, root_part}
use Rattle.tree.proofs.Filling.{live_small}
use Rattle.tree.proofs.Needing.{need_same}
use Rattle.tree.proofs.table.Tree.need_of_top.Goals as goal

pub need_of_middle-requires-in-Child : goal.need_of_middle-requires-in-Child
need_of_middle-requires-in-Child c = record {
  node = live_small _ c.sound.ensures c.in-Child.m (omega (arith, c.sound.ensures.linked.level 1 (c.args.pages.first / 4096) c.in-Child.m (omega arith) (sym c.in-Child.ensures)));
}

pub returns-else-len-eq4096-clause-is : goal.returns-else-len-eq4096-clause-is
returns-else-len-eq4096-clause-is c =
    let first = c.args.pages.first in
    let last = c.args.pages.last in
    let xs = c.args.self.now.slots in
    let a = ap (λ (x : Slot). root_part xs x first last) (sym c.in-Vacant.ensures) in
    let b = cond-false (eqb (last - first) 4096) 0 (1 + need_by (λ _. Vacant) first last) (ne_eqb (last - first) 4096 (rw c.len.ensures at c.if-len-eq4096.false)) in
    let d = need_same (λ x. slot_at xs 0 (x % 64)) (λ _. Vacant) first last (λ x _ _ _. c.sound.ensures.linked.free 0 (x % 64) (omega arith) c.sound.ensures.linked.none) in
    omega (arith, a, b, d, c.need_of_middle.ensures.is)
