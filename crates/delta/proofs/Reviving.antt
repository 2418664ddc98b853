-- The small run, computed.
use Rattle.std.proofs.Common.{refl}
use Rattle.model.specs.CoreSets.{all_below}
use Rattle.ledger.specs.Slots.{sum_of}
use Rattle.ledger.specs.States.{fold_slot, fold_first, make_room}
use Rattle.delta.specs.Revival.{Revived}

pub revived : Revived 3
unfolding all_below sum_of fold_slot fold_first make_room
revived = record {
  answers = ((tt, (tt, (tt, (refl, (tt, tt))))), (tt, (tt, (refl, (tt, (tt, (refl, (tt, tt))))))));
  listed = refl;
  off = refl;
  inuse = refl;
  ends = refl;
}
