use Rattle.std.proofs.Common.{◌≡◌, ◌-◌, ◌/◌}
use Rattle.tree.specs.Holders.{Counted, Idle, Aside, Follows}
use Rattle.tree.specs.Fill.{walk, told_walk, fill_top, told_top}
use Rattle.tree.proofs.Exact.{reached}
use Rattle.tree.proofs.Tops.{Come}
use Rattle.tree.proofs.table.Tree.fill.Given as goal

abbrev pub invariant-loop-top : goal.invariant-loop-top
invariant-loop-top g l = record {
  tree : Come l.pages.first l.pages.last l.e l.initial.self (reached 4096 l.pages.first l.pages.last l.top) l.self;
  exact : l.self ≡ walk 4096 (λ a z. fill_top a z l.e) l.pages.first l.pages.last (l.top - l.pages.first / 4096) l.initial.self;
  told : Follows g.C.Counter.steps
      (told_walk 4096 (λ a z. fill_top a z l.e) (λ a z. told_top l.core a z l.e) l.pages.first l.pages.last (l.top - l.pages.first / 4096) l.initial.self)
      l.initial.counter l.counter;
  counted : Counted (g.C.Counter.meaning l.counter).holders l.self;
  idle : Idle (g.C.Counter.meaning l.counter).holders l.self;
  aside : Aside (g.C.Counter.meaning l.initial.counter) (g.C.Counter.meaning l.counter);
}
