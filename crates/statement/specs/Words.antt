-- The words for what came of a record, as bytes.
use Rattle.std.specs.Prelude.{ℕ, List, [], ◌++◌, Some, None, Option, codes}
use Rattle.std.specs.Fmt.{decimal}
use Rattle.model.specs.declared.fault.Fault.{Fault}
use Rattle.model.specs.Faults.{number_of, part_of, place_of}
use Rattle.statement.specs.declared.sight.Sight.{Sight}
use Rattle.statement.specs.declared.sight.Sight.TheVariants.{Vacant, Mapped, Closing}
use Rattle.statement.specs.declared.outcome.Outcome.{Outcome}
use Rattle.statement.specs.declared.outcome.Outcome.TheVariants.{Answer, Seen, Refused}
use Rattle.statement.specs.Phrases.{fault_words, part_words}

-- the frame, after what else is told of a page, if it has one
abbrev pub frame_words : Option ℕ → List ℕ
frame_words None = []
frame_words (Some frame) = codes ", frame " ++ decimal frame

-- what was seen of a page
abbrev pub sight_words : Sight → List ℕ
sight_words Vacant = codes "vacant"
sight_words (Mapped label frame) = codes "mapped, label " ++ decimal label ++ frame_words frame
sight_words (Closing owner label frame) = codes "closing under core " ++ decimal owner ++ codes ", label " ++ decimal label ++ frame_words frame

-- the page that a fault is about, after its phrase, if there is one
abbrev pub place_words : Option ℕ → List ℕ
place_words None = []
place_words (Some page) = codes ", at page " ++ decimal page

-- which part refused a record, and why and where
abbrev pub refusal_words : Fault → List ℕ
refusal_words e = codes "refused by the " ++ part_words (part_of e) ++ codes ", fault " ++ decimal (number_of e) ++ codes ", " ++ fault_words e ++ place_words (place_of e)

-- what came of a record
abbrev pub outcome_words : Outcome → List ℕ
outcome_words (Answer n) = codes "answer " ++ decimal n
outcome_words (Seen n sight) = codes "answer " ++ decimal n ++ codes ", " ++ sight_words sight
outcome_words (Refused e) = refusal_words e
