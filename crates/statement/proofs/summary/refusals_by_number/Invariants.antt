use Rattle.std.proofs.Common.{take}
use Rattle.statement.specs.Tables.{Tabled}
use Rattle.statement.proofs.summary.refusals_by_number.Given as goal

abbrev pub invariant-loop-reply : goal.invariant-loop-reply
invariant-loop-reply l = Tabled (take l.reply-index l.replies) l.refusals
