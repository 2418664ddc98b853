use Rattle.std.proofs.Common.{rules}
use Rattle.tree.proofs.table.Tree.need_of_middle.Goals as goal

pub returns-clause-few : goal.returns-clause-few
returns-clause-few c = c.at_ends.ensures.few 1 (λ part r h. search rules)
