use Rattle.std.proofs.Common.{[], ◌∷◌, get_or, take}
use Rattle.std.proofs.lemmas.List.{take_more}
use Rattle.std.proofs.lemmas.Grind.{fold-append}
use Rattle.space.specs.Memories.{memory_state}
use Rattle.script.specs.Playing.{record_after, reply_to}
use Rattle.script.proofs.Playings.{scan_more}
use Rattle.script.proofs.player.play.Goals as goal

pub loop-bytes-preserved : goal.loop-bytes-preserved
loop-bytes-preserved c =
    let xs = c.as_chunks.result.0.now in
    let i = c.loop-bytes.bytes-index in
    let st = memory_state c.args.memory.now in
    let one = take_more xs i [] c.loop-bytes-test.true in
    let more = scan_more record_after reply_to st (take i xs) (get_or xs i []) in
    let after = fold-append record_after st (take i xs) (get_or xs i [] ∷ []) in
    (cc (c.in_ok-push.ensures.items), cc)
