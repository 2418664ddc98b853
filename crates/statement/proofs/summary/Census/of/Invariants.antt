use Rattle.std.proofs.Common.{◌≡◌, ◌+◌, ◌≤◌}
use Rattle.space.specs.Memories.{memory_state}
use Rattle.statement.specs.Counts.{count_below, mapped_at, closing_at}
use Rattle.statement.proofs.summary.Census.of.Given as goal

abbrev pub invariant-loop-page : goal.invariant-loop-page
invariant-loop-page l =
    (l.census.mapped ≡ count_below l.page (mapped_at (memory_state l.memory)))
    × (l.census.closing ≡ count_below l.page (closing_at (memory_state l.memory)))
    × (l.census.mapped + l.census.closing ≤ l.page)
