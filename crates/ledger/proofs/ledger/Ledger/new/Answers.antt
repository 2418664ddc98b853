use Rattle.ledger.proofs.ledger.Ledger.new.Goals as goal

pub returns : goal.returns
returns c = cc
