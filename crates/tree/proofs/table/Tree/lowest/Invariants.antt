use Rattle.std.proofs.Common.{◌*◌, Bool}
use Rattle.model.specs.Pages.{PageState}
use Rattle.tree.specs.Search.{Clear, Tells}
use Rattle.tree.proofs.table.Tree.lowest.Given as goal

abbrev pub invariant-loop-page : goal.invariant-loop-page
invariant-loop-page g l = (test : PageState → Bool) → Tells (goal.F-post g l.fits) test → Clear test l.self l.pages.first l.pages.last l.page

abbrev pub invariant-loop-block : goal.invariant-loop-block
invariant-loop-block g l = (test : PageState → Bool) → Tells (goal.F-post g l.fits) test → Clear test l.self l.pages.first l.pages.last (l.block * 64)

abbrev pub invariant-loop-top : goal.invariant-loop-top
invariant-loop-top g l = (test : PageState → Bool) → Tells (goal.F-post g l.fits) test → Clear test l.self l.pages.first l.pages.last (l.top * 4096)
