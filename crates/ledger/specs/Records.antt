-- The record of an object, and what folding a change and judging make of it.
use Rattle.std.specs.Prelude.{ℕ, ◌+◌, Bool, true, false, cond, not, ◌&&◌, ℤ, pos, negsuc, ◌+ℤ◌, is_some, Some, None, Option, ◌==◌, nat_le}
use Rattle.ledger.specs.declared.record.Record.{Record}

-- the record of a free object that never was in use
abbrev pub blank : Record
blank = record { shared = pos 0; list = None; listed = 0; disturbed = false; condemned = false }

abbrev pub is_zero : ℤ → Bool
is_zero (pos n) = n == 0
is_zero (negsuc n) = false

-- the record with another shared count
abbrev pub with_shared : ℤ → Record → Record
with_shared z r = record { shared = z; list = r.list; listed = r.listed; disturbed = r.disturbed; condemned = r.condemned }

-- in use with n holders, on no list
abbrev pub given_to : ℕ → Record → Record
given_to n r = record { shared = pos n; list = None; listed = r.listed; disturbed = r.disturbed; condemned = r.condemned }

-- a change was reported since the listing
abbrev pub disturbed_by : Record → Record
disturbed_by r = record { shared = r.shared; list = r.list; listed = r.listed; disturbed = true; condemned = r.condemned }

-- revived since the listing
abbrev pub spared : Record → Record
spared r = record { shared = r.shared; list = r.list; listed = r.listed; disturbed = r.disturbed; condemned = false }

-- on the core's list with the epoch, undisturbed and condemned
abbrev pub enlisted : ℕ → ℕ → Record → Record
enlisted core epoch r = record { shared = r.shared; list = Some core; listed = epoch; disturbed = false; condemned = true }

-- off the list
abbrev pub unlisted : Record → Record
unlisted r = record { shared = r.shared; list = None; listed = r.listed; disturbed = r.disturbed; condemned = r.condemned }

-- what becomes of a record whose shared count has just changed
abbrev pub settled : ℕ → ℕ → Record → Record
settled core epoch r = cond (is_some r.list) (disturbed_by r) (cond (is_zero r.shared) (enlisted core epoch r) r)

-- fold: the change is added; an object on a list is disturbed, one on none that is at 0 goes on the list
abbrev pub after_fold : ℕ → ℕ → ℤ → Record → Record
after_fold core epoch change r = settled core epoch (with_shared (r.shared +ℤ change) r)

abbrev pub lists : Option ℕ → ℕ → Bool
lists (Some lister) core = lister == core
lists None core = false

-- whether the record is on the core's list
abbrev pub on_list_of : ℕ → Record → Bool
on_list_of core r = lists r.list core

-- whether the core may judge the object now: it is on the core's list, since two epochs
abbrev pub is_due : ℕ → ℕ → Record → Bool
is_due core epoch r = on_list_of core r && nat_le (r.listed + 2) epoch

-- neither disturbed nor revived since the listing
abbrev pub firm : Record → Bool
firm r = not r.disturbed && r.condemned

-- judge: dead is an object that is due, at 0 and firm
abbrev pub verdict : ℕ → ℕ → Record → Bool
verdict core epoch r = is_due core epoch r && (is_zero r.shared && firm r)

-- judge: what is due and not at 0 goes off the list; at 0 it is off as dead, or listed anew if it is not firm
abbrev pub after_judge : ℕ → ℕ → Record → Record
after_judge core epoch r =
    cond (is_due core epoch r)
    (cond (is_zero r.shared)
    (cond (firm r) (unlisted r) (enlisted core epoch r))
    (spared (unlisted r)))
    r
