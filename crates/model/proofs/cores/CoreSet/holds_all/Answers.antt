use Rattle.std.proofs.Common.{◌≡◌, ◌∙◌, true, false, sym, refl, rules, arith}
use Rattle.std.proofs.lemmas.Iterator.{cases_from_all, YieldsList-from_range}
use Rattle.model.specs.CoreSets.{member}
use Rattle.model.proofs.Sets.{all_each, each_all, all_found}
use Rattle.model.proofs.cores.CoreSet.holds_all.Goals as goal

pub returns : goal.returns
returns c =
    let f = member c.args.self.bits in
    let n = c.args.cores in
    let found = cases_from_all _ _ _ (λ k. f k ≡ true) (λ k. f k ≡ false) c.all.ensures.ran (YieldsList-from_range 0 n n refl (omega arith)) (λ x q k. search rules) (λ x q k. search rules) in
    let is = all_found c.all.result n f found in
    record { all = is; each = λ e. all_each n f (sym is ∙ e); only = λ each. is ∙ each_all n f each }
