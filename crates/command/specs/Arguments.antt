-- What the words that the program is started with ask for.
use Rattle.std.specs.Prelude.{ℕ, Bool, true, false, cond, not, ◌&&◌, ◌||◌, List, [], ◌∷◌, take, Some, None, Ok, Err, string_bytes, codes, Option, Result}
use Rattle.std.specs.Str.{bytes_eq}
use Rattle.command.specs.declared.options.Channel.{Channel}
use Rattle.command.specs.declared.options.Channel.TheVariants.{Standard, File}
use Rattle.command.specs.declared.options.Options.{Options}
use Rattle.command.specs.declared.options.Misuse.{Misuse}

-- where bytes come from or go to: the standard channel, or the file of this name
pub data Place : Type 0 where
  standard : Place
  file : List ℕ → Place

-- which script is played, where its answers go, and whether only the summary is stated
pub record Wish : Type 0 where
  pub from : Place
  pub to : Option Place
  pub short : Bool

-- a hyphen alone is the standard channel
abbrev pub place_named : List ℕ → Place
place_named w = cond (bytes_eq w (codes "-")) standard (file w)

-- a place as it is told, which is how it was named
abbrev pub shown : Place → List ℕ
shown standard = codes "-"
shown (file w) = w

-- a word that begins with two hyphens names no place
abbrev pub is_flag : List ℕ → Bool
is_flag w = bytes_eq (take 2 w) (codes "--")

-- the one flag that there is
abbrev pub is_brief : List ℕ → Bool
is_brief w = bytes_eq w (codes "--brief")

-- the places that the words name, in their order
unfoldable pub places : List (List ℕ) → List Place
places [] = []
places (w ∷ ws) = cond (is_flag w) (places ws) (place_named w ∷ places ws)

-- whether the summary alone is asked for
unfoldable pub any_brief : List (List ℕ) → Bool
any_brief [] = false
any_brief (w ∷ ws) = is_brief w || any_brief ws

-- whether there is no other flag
unfoldable pub all_known : List (List ℕ) → Bool
all_known [] = true
all_known (w ∷ ws) = (is_brief w || not (is_flag w)) && all_known ws

-- one place is the script's, a second is for the answers; none and more than two are refused
abbrev pub wish_for : List Place → Bool → Option Wish
wish_for [] b = None
wish_for (p ∷ []) b = Some (record { from = p; to = None; short = b })
wish_for (p ∷ (q ∷ [])) b = Some (record { from = p; to = Some q; short = b })
wish_for (p ∷ (q ∷ (r ∷ ps))) b = None

-- what words ask for, or none if they are refused
abbrev pub wished : List (List ℕ) → Option Wish
wished ws = cond (all_known ws) (wish_for (places ws) (any_brief ws)) None

-- a channel by its bytes
abbrev pub place_of : Channel → Place
place_of Standard = standard
place_of (File name) = file (string_bytes name)

-- an answer channel by its bytes, if there is one
abbrev pub answers_place : Option Channel → Option Place
answers_place None = None
answers_place (Some c) = Some (place_of c)

-- the options read, by their bytes; a refusal is none
abbrev pub wish_read : Result Options Misuse → Option Wish
wish_read (Ok o) = Some (record { from = place_of o.script; to = answers_place o.answers; short = o.brief })
wish_read (Err e) = None

-- the channels named so far, by their bytes
abbrev pub places_of : Option (Channel × Option Channel) → List Place
places_of None = []
places_of (Some (c, None)) = place_of c ∷ []
places_of (Some (c, Some d)) = place_of c ∷ (place_of d ∷ [])

-- the channels after one more; a refusal is none
abbrev pub places_read : Result (Option (Channel × Option Channel)) Misuse → Option (List Place)
places_read (Ok n) = Some (places_of n)
places_read (Err e) = None

-- one place more, if there are not two already
abbrev pub one_more : List Place → Place → Option (List Place)
one_more [] p = Some (p ∷ [])
one_more (q ∷ []) p = Some (q ∷ (p ∷ []))
one_more (q ∷ (r ∷ ps)) p = None
