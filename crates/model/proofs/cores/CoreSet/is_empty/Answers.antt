use Rattle.std.proofs.Common.{sym, refl, subst, rules}
use Rattle.std.proofs.lemmas.Bool.{eqb-true, eq-eqb}
use Rattle.model.specs.CoreSets.{Nobody}
use Rattle.model.proofs.Sets.{none_member, nobody_zero}
use Rattle.model.proofs.cores.CoreSet.is_empty.Goals as goal

pub returns : goal.returns
returns c =
    let bits = c.args.self.bits in
    record {
      bits = refl;
      empty = λ e. subst Nobody (sym (eqb-true bits 0 e)) none_member;
      only = λ none. eq-eqb bits 0 (nobody_zero 16 bits (search rules) none);
    }
