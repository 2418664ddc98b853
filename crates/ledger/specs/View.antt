-- A ledger as its tables.
use Rattle.ledger.specs.declared.ledger.Ledger.{Ledger}
use Rattle.ledger.specs.States.{State}

abbrev pub state : Ledger → State
state l = record { records = l.records.entries; rows = l.slots.rows; clock = l.clock }
