use Rattle.std.proofs.Common.{sym, subst}
use Rattle.ledger.specs.States.{State, slot_at, slot_of}
use Rattle.ledger.specs.View.{state}
use Rattle.ledger.proofs.Rooms.{Room, room_made}
use Rattle.ledger.proofs.ledger.Ledger.shift.Goals as goal

pub move_change-requires : goal.move_change-requires
move_change-requires c =
    let s = c.args.spot in
    let room = subst (λ (t : State). Room c.args.way s.object (slot_at t (slot_of s.core s.object))) (sym c.make_room.ensures)
    (room_made c.args.way s.core s.object (state c.args.self.now) s.serves c.requires) in
    room.low
