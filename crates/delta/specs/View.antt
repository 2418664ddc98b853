-- A delta cache as its tables.
use Rattle.ledger.specs.States.{State}
use Rattle.ledger.specs.View.{state}
use Rattle.delta.specs.declared.cache.DeltaCache.{DeltaCache}

abbrev pub tables : {K : Type 0} → DeltaCache K → State
tables s = state s.ledger
