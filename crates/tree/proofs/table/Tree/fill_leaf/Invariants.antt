use Rattle.std.proofs.Common.{◌≡◌, ◌+◌, ◌-◌}
use Rattle.tree.specs.Soundness.{left}
use Rattle.tree.specs.Holders.{holders}
use Rattle.tree.specs.Filled.{Filled}
use Rattle.tree.specs.Walks.{Others}
use Rattle.tree.specs.Fill.{fill_leaf}
use Rattle.tree.proofs.table.Tree.fill_leaf.Given as goal

abbrev pub invariant-loop-page : goal.invariant-loop-page
invariant-loop-page l =
    Filled l.fn.pages.first l.page l.e l.initial.self l.self
    × (left l.self ≡ left l.initial.self)
    × Others (λ a t. a ≡ l.n → ⊥) l.initial.self l.self
    × (l.self.links ≡ l.initial.self.links)
    × (holders l.self.slots l.n + l.fn.pages.first ≡ holders l.initial.self.slots l.n + l.page)
    × (l.self ≡ fill_leaf l.n l.fn.pages.first l.e (l.page - l.fn.pages.first) l.initial.self)
