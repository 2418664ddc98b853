-- The counter of the memory that is handed over.
use Rattle.counter.specs.declared.count.PlainCount.{PlainCount}
use Rattle.counter.specs.Meaning.{Meaning}
use Rattle.counter.specs.Plain.{table_meaning}
use Rattle.counter.specs.PlainView.{table_of}

-- what a plain count means
abbrev pub plain_meaning : {K : Type 0} → PlainCount K → Meaning
plain_meaning s = table_meaning (table_of s)
