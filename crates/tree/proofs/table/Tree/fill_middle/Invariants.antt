use Rattle.std.proofs.Common.{◌≡◌, ◌-◌, ◌/◌, false}
use Rattle.tree.specs.Walks.{Goes}
use Rattle.tree.specs.Holders.{CountedBut, Idle, Aside, Follows}
use Rattle.tree.specs.Fill.{walk, told_walk, fill_block, told_block}
use Rattle.tree.proofs.Exact.{reached}
use Rattle.tree.proofs.Middles.{Under}
use Rattle.tree.proofs.table.Tree.fill_middle.Given as goal

abbrev pub invariant-loop-block : goal.invariant-loop-block
invariant-loop-block g l = record {
  tree : Under l.m l.pages.first l.pages.last l.e l.initial.self (reached 64 l.pages.first l.pages.last l.block) l.self;
  goes : Goes l.m l.pages.first l.pages.last l.block l.initial.self l.self;
  exact : l.self ≡ walk 64 (λ a z. fill_block l.m a z l.e) l.pages.first l.pages.last (l.block - l.pages.first / 64) l.initial.self;
  told : Follows g.C.Counter.steps
      (told_walk 64 (λ a z. fill_block l.m a z l.e) (told_block l.older l.core l.m) l.pages.first l.pages.last (l.block - l.pages.first / 64) l.initial.self)
      l.initial.counter l.counter;
  counted : CountedBut l.older l.m (g.C.Counter.meaning l.counter).holders l.self;
  idle : Idle (g.C.Counter.meaning l.counter).holders l.self;
  aside : Aside (g.C.Counter.meaning l.initial.counter) (g.C.Counter.meaning l.counter);
  quiet : l.older ≡ false → (g.C.Counter.meaning l.counter).holders l.m ≡ (g.C.Counter.meaning l.initial.counter).holders l.m;
}
