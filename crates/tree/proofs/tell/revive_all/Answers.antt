use Rattle.std.proofs.Common.{List, sym, subst}
use Rattle.counter.specs.Meaning.{Operation}
use Rattle.tree.specs.Holders.{Follows}
use Rattle.tree.proofs.Counting.{changed_none, changed_more, raised_changed, raised_aside, aside_none, aside_then, follows_none, follows_one, follows_then, revivals_none, revivals_more}
use Rattle.tree.proofs.tell.revive_all.Goals as goal

pub loop-init : goal.loop-init
loop-init g c = (
  changed_none c.args.node (g.C.Counter.meaning c.args.counter.now).holders c.requires.known,
  aside_none _,
  subst (λ (os : List Operation). Follows g.C.Counter.steps os c.args.counter.now c.args.counter.now) (sym (revivals_none c.args.core c.args.node))
      (follows_none g.C.Counter.steps _),
)

pub loop-preserved : goal.loop-preserved
loop-preserved g c =
    let i = c.loop.invariant in
    let e = c.revive.ensures.means in (
      changed_more c.args.node _ _ _ _ i.0 (raised_changed c.args.node _ _ e),
      aside_then _ _ _ i.1 (raised_aside c.args.node _ _ e),
      subst (λ (os : List Operation). Follows g.C.Counter.steps os c.args.counter.now c.revive.new.self) (sym (revivals_more c.args.core c.args.node _))
          (follows_then g.C.Counter.steps _ _ _ _ _ i.2 (follows_one g.C.Counter.steps _ _ _ c.revive.ensures.exact)),
    )
