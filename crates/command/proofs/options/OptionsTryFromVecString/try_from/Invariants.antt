use Rattle.std.proofs.Common.{◌≡◌, map, string_bytes}
use Rattle.std.specs.Vec.Iter.{into_iter_items}
use Rattle.command.specs.Arguments.{places_of, wished}
use Rattle.command.proofs.Reading.{wished_after}
use Rattle.command.proofs.options.OptionsTryFromVecString.try_from.Given as goal

-- what the words still to come make of those before them is what all of them ask for
abbrev pub invariant-loop-word : goal.invariant-loop-word
invariant-loop-word l =
    wished_after (places_of l.named) l.brief (map string_bytes (into_iter_items l.word-iterator))
    ≡ wished (map string_bytes l.fn.words.items)
