use Rattle.std.proofs.Common.{Bool, sym, subst}
use Rattle.tree.specs.Holders.{Follows}
use Rattle.tree.specs.Fill.{gain}
use Rattle.tree.proofs.Counting.{follows_none, follows_one}
use Rattle.tree.proofs.tell.tell.Goals as goal

pub returns-then-not-older-clause-told : goal.returns-then-not-older-clause-told
returns-then-not-older-clause-told g c =
    subst (λ (b : Bool). Follows g.C.Counter.steps (gain b c.args.core c.args.node) c.args.counter.now c.args.counter.now) (sym c.if-not-older.true) (follows_none g.C.Counter.steps _)

pub returns-clause-told : goal.returns-clause-told
returns-clause-told g c =
    subst (λ (b : Bool). Follows g.C.Counter.steps (gain b c.args.core c.args.node) c.args.counter.now c.revive.new.self) (sym c.if-not-older.false)
    (follows_one g.C.Counter.steps _ _ _ c.revive.ensures.exact)
