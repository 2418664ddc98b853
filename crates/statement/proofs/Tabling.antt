-- One reply more in the table of refusals.
use Rattle.std.proofs.Common.{◌≡◌, ℕ, ◌+◌, ◌≤◌, Bool, true, false, eqb, List, [], ◌∷◌, ◌++◌, length, IfSome, None, Ok, Err, refl, ap, arith, eqb-true}
use borrow.Author.Tests.{eqb-false}
use Rattle.std.proofs.lemmas.List.Sums.{sum_by_push, count_by-le-length}
use Rattle.std.specs.BTreeMap.{BTreeMap}
use Rattle.std.specs.BTreeMap.{IsOrdered, IsEmpty}
use Rattle.model.specs.declared.fault.Fault.{Fault}
use Rattle.model.specs.Faults.{number_of}
use Rattle.script.specs.declared.answer.Reply.{Reply}
use Rattle.statement.specs.declared.summary.Refusals.{Refusals}
use Rattle.statement.specs.Counts.{one, faults_as, refused_as}
use Rattle.statement.specs.Tables.{times_in, entry_at, OneMore, Tabled}
use Rattle.std.specs.Ordering.{nat_cmp}

refused_more : (n : ℕ) (rs : List Reply) (r : Reply) → refused_as n (rs ++ (r ∷ [])) ≡ refused_as n rs + one (faults_as n r.outcome)
refused_more n rs r = sum_by_push (λ q. one (faults_as n q.outcome)) rs r

module _ {m : BTreeMap ℕ Refusals} where
  pub none_tabled : IsEmpty m → IsOrdered nat_cmp m → Tabled [] m
  none_tabled empty ordered =
      let none : (n : ℕ) → entry_at m n ≡ None = λ n. rw empty refl in
      record {
        ordered = ordered;
        counts = λ n. ap times_in (none n);
        alike = λ n. rw (none n) tt;
      }

  pub times_few : {rs : List Reply} (n : ℕ) → Tabled rs m → times_in (entry_at m n) ≤ length rs
  times_few {rs} n h = omega (arith, h.counts n, count_by-le-length (λ q. faults_as n q.outcome) rs)

  pub accepted_tabled : {rs : List Reply} (r : Reply) (a : ℕ) → r.outcome ≡ Ok a → Tabled rs m → Tabled (rs ++ (r ∷ [])) m
  accepted_tabled {rs} r a e h = record {
    ordered = h.ordered;
    counts = λ n. let z : one (faults_as n r.outcome) ≡ 0 = ap (λ o. one (faults_as n o)) e in omega (arith, h.counts n, refused_more n rs r);
    alike = h.alike;
  }

module _ {m n : BTreeMap ℕ Refusals} {f : Fault} {rs : List Reply} (old : Tabled rs m) (new : OneMore m f n) where
  counted : (q : ℕ) (b : Bool) → eqb q (number_of f) ≡ b → times_in (entry_at n q) ≡ refused_as q rs + one b
  counted q true e = let here : q ≡ number_of f = eqb-true q (number_of f) e in rw here (rw new.here (omega (arith, old.counts (number_of f))))
  counted q false e = rw (new.other q (eqb-false q (number_of f) e)) (omega (arith, old.counts q))

  alike_after : (q : ℕ) (b : Bool) → eqb q (number_of f) ≡ b → IfSome (entry_at n q) (λ e. number_of e.fault ≡ q)
  alike_after q true e = let here : q ≡ number_of f = eqb-true q (number_of f) e in rw here (rw new.here refl)
  alike_after q false e = rw (new.other q (eqb-false q (number_of f) e)) (old.alike q)

  pub refused_tabled : (r : Reply) → r.outcome ≡ Err f → Tabled (rs ++ (r ∷ [])) n
  refused_tabled r e = record {
    ordered = new.ordered;
    counts = λ q. rw (refused_more q rs r) (rw e (counted q (eqb q (number_of f)) refl));
    alike = λ q. alike_after q (eqb q (number_of f)) refl;
  }

pub ruleset tabling = (none_tabled, times_few, accepted_tabled, refused_tabled)
