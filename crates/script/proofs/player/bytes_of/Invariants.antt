use Rattle.std.proofs.Common.{◌≡◌, take, vec_items}
use Rattle.script.specs.Playing.{all_bytes}
use Rattle.script.proofs.player.bytes_of.Given as goal

abbrev pub invariant-loop-reply : goal.invariant-loop-reply
invariant-loop-reply l = vec_items l.out ≡ all_bytes (take l.reply-index l.replies)
