-- Counts of replies and of pages.
use Rattle.std.specs.Prelude.{ℕ, zero, suc, ◌+◌, Bool, false, cond, List, is_ok, Ok, Err, Result, count_by, ◌==◌}
use Rattle.model.specs.declared.fault.Fault.{Fault}
use Rattle.model.specs.Faults.{number_of}
use Rattle.script.specs.declared.answer.Reply.{Reply}
use Rattle.space.specs.States.{State}
use Rattle.statement.specs.Sights.{seen_at, is_mapped, is_closing}

-- 1 for yes, 0 for no
abbrev pub one : Bool → ℕ
one b = cond b 1 0

-- how many of the replies accept their record
abbrev pub accepted_in : List Reply → ℕ
accepted_in rs = count_by (λ r. is_ok r.outcome) rs

-- whether an outcome is a fault of this number
abbrev pub faults_as : ℕ → Result ℕ Fault → Bool
faults_as n (Ok a) = false
faults_as n (Err f) = n == number_of f

-- how many of the replies are faults of this number
abbrev pub refused_as : ℕ → List Reply → ℕ
refused_as n rs = count_by (λ r. faults_as n r.outcome) rs

-- how many numbers below n pass
unfoldable pub count_below : ℕ → (ℕ → Bool) → ℕ
count_below zero f = 0
count_below (suc n) f = count_below n f + one (f n)

-- whether a page is seen to be mapped
abbrev pub mapped_at : State → ℕ → Bool
mapped_at st page = is_mapped (seen_at st page)

-- whether a page is seen to be closing
abbrev pub closing_at : State → ℕ → Bool
closing_at st page = is_closing (seen_at st page)
