use Rattle.std.proofs.Common.{◌≡◌, take, vec_items}
use Rattle.space.specs.Memories.{memory_state}
use Rattle.script.specs.Playing.{replies_to, state_after}
use Rattle.script.proofs.player.play.Given as goal

abbrev pub invariant-loop-bytes : goal.invariant-loop-bytes
invariant-loop-bytes l =
    (vec_items l.out ≡ replies_to (take l.bytes-index l.records) (memory_state l.initial.memory))
    × (memory_state l.memory ≡ state_after (take l.bytes-index l.records) (memory_state l.initial.memory))
