-- Which fields of a record each kind uses.
use Rattle.std.specs.Prelude.{ℕ, Bool, not, ◌==◌, nat_lt}
use Rattle.script.specs.declared.kind.Kind.{Kind}
use Rattle.script.specs.declared.kind.Kind.TheVariants.{SetUp, Map, Touch, Share, Begin, Acknowledge, Finish, Flush, Look}
use Rattle.script.specs.declared.fields.Fields.{Fields}
use Rattle.script.specs.Kinds.{kind_number}

-- every call but a look is made by a core; set up says there how many cores it wants
abbrev pub names_core : Kind → Bool
names_core k = not (kind_number k == kind_number Look)

-- only map gives a label
abbrev pub names_label : Kind → Bool
names_label k = kind_number k == kind_number Map

-- how many other numbers a call takes: they stand in A, B and C, in order
abbrev pub numbers_of : Kind → ℕ
numbers_of SetUp = 3
numbers_of Map = 2
numbers_of Touch = 1
numbers_of Share = 2
numbers_of Begin = 2
numbers_of Acknowledge = 1
numbers_of Finish = 0
numbers_of Flush = 0
numbers_of Look = 1

-- the fields that a kind uses
abbrev pub used_by : Kind → Fields
used_by k =
    record {
      core = names_core k;
      label = names_label k;
      a = nat_lt 0 (numbers_of k);
      b = nat_lt 1 (numbers_of k);
      c = nat_lt 2 (numbers_of k);
    }
