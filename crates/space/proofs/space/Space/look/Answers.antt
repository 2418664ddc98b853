use Rattle.std.proofs.Common.{sym, ◌∙◌}
use Rattle.space.proofs.Passing.{page_good}
use Rattle.space.proofs.space.Space.look.Goals as goal

pub look-requires : goal.look-requires
look-requires g c = record {
  small = page_good c.args.page (sym c.check_page.ensures ∙ c.in_ok-check_page.was);
}
