use Rattle.std.proofs.Common.{◌≡◌, ℕ, ◌%◌, sym, refl, ap, ◌∙◌, subst, arith}
use Rattle.tree.specs.declared.table.Tree.{Tree}
use Rattle.tree.specs.declared.slot.Slot.TheVariants.{Value}
use Rattle.tree.specs.Changes.{written}
use Rattle.tree.proofs.Exact.{leaf_start, leaf_to}
use Rattle.tree.specs.Filled.{Filled}
use Rattle.tree.proofs.Filling.{filled_none}
use Rattle.tree.proofs.Leaves.{leaf_was, leaf_live, leaf_again, leaf_left, leaf_others, leaf_gained}
use Rattle.tree.proofs.table.Tree.fill_leaf.Goals as goal

pub loop-page-init : goal.loop-page-init
loop-page-init c = (filled_none _ _ _ c.sound.ensures, refl, (λ a t _ _ _. refl), refl, refl, sym (leaf_start c.args.n c.args.pages.first c.args.e c.args.self.now))

pub put-requires-clause-live : goal.put-requires-clause-live
put-requires-clause-live c =
    leaf_live _ _ (written c.args.n (c.loop-page.page % 64) (Value c.args.e) c.loop-page.self) _ _ c.args.pages.last c.loop-page.page _ c.requires.path c.requires.block
    (omega arith) (omega arith) c.args.pages.small c.requires.free c.loop-page.invariant.0 refl

pub put-requires-clause-vacant : goal.put-requires-clause-vacant
put-requires-clause-vacant c =
    leaf_was _ _ (written c.args.n (c.loop-page.page % 64) (Value c.args.e) c.loop-page.self) _ _ c.args.pages.last c.loop-page.page _ c.requires.path c.requires.block
    (omega arith) (omega arith) c.args.pages.small c.requires.free c.loop-page.invariant.0 refl

pub loop-page-preserved : goal.loop-page-preserved
loop-page-preserved c =
    let i = c.loop-page.invariant in (
      leaf_again _ _ _ _ _ c.args.pages.last c.loop-page.page _ c.requires.path c.requires.block (omega arith) (omega arith) c.args.pages.small c.requires.free i.0 c.put.ensures c.requires.fits,
      leaf_left _ _ _ _ _ c.args.pages.last c.loop-page.page _ c.requires.path c.requires.block (omega arith) (omega arith) c.args.pages.small c.requires.free i.0 c.put.ensures i.1,
      leaf_others _ _ _ _ _ c.args.pages.last c.loop-page.page _ c.requires.path c.requires.block (omega arith) (omega arith) c.args.pages.small c.requires.free i.0 c.put.ensures i.2,
      ap (λ (u : Tree). u.links) c.put.ensures ∙ i.3,
      omega (arith, i.4, leaf_gained _ _ _ _ _ c.args.pages.last c.loop-page.page c.args.e c.requires.path c.requires.block (omega arith) (omega arith) c.args.pages.small c.requires.free i.0 c.put.ensures),
      c.put.ensures ∙ leaf_to c.args.n c.args.pages.first c.args.e c.args.self.now c.loop-page.page c.loop-page.self (omega arith) i.5,
    )

pub returns-clause-filled : goal.returns-clause-filled
returns-clause-filled c =
    let end : c.loop-page.page ≡ c.args.pages.last = omega arith in
    subst (λ (x : ℕ). Filled c.args.pages.first x c.args.e c.args.self.now c.loop-page.self) end c.loop-page.invariant.0
