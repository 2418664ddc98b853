-- The plain count as its table.
use Rattle.counter.specs.declared.count.PlainCount.{PlainCount}
use Rattle.counter.specs.Plain.{Table}

-- the table of a plain count
abbrev pub table_of : {K : Type 0} → PlainCount K → Table
table_of s = record { counts = s.counts; clock = s.clock }
