-- What one word more asks for, after those before it.
use Rattle.std.proofs.Common.{◌≡◌, ℕ, Bool, true, false, cond, not, ◌&&◌, ◌||◌, List, [], ◌∷◌, ◌++◌, map, length, is_err, Some, None, Ok, Err, string_bytes, codes, Option, Result, String, sym, refl, ap, ◌∙◌, append-nil}
use Rattle.std.specs.declared.alloc.Global.{Global}
use Rattle.std.specs.Option.{ok_or}
use Rattle.std.proofs.Math.Bool.{or-true, or-false}
use Rattle.std.proofs.lemmas.List.{nil_from_length}
use Rattle.std.proofs.lemmas.Slice.Eq.{bytes_eq-Decides}
use Rattle.command.specs.declared.options.Channel.{Channel}
use Rattle.command.specs.declared.options.Misuse.{Misuse}
use Rattle.command.specs.declared.options.Options.{Options}
use Rattle.command.specs.Arguments.{Place, Wish, is_flag, is_brief, place_named, place_of, answers_place, places, places_of, any_brief, all_known, wish_for, one_more, wish_read}

-- what words ask for after those that named these places, and asked to be brief or not
abbrev pub wished_after : List Place → Bool → List (List ℕ) → Option Wish
wished_after ps b ws = cond (all_known ws) (wish_for (ps ++ places ws) (b || any_brief ws)) None

no_word : (ps : List Place) (b : Bool) → wished_after ps b [] ≡ wish_for ps b
unfolding places any_brief all_known
no_word ps b = ap (λ (qs : List Place). wish_for qs (b || false)) (append-nil ps) ∙ ap (wish_for ps) (or-false b)

pub brief_word : (ps : List Place) (b : Bool) (w : List ℕ) (ws : List (List ℕ)) → is_brief w ≡ true → wished_after ps true ws ≡ wished_after ps b (w ∷ ws)
unfolding places any_brief all_known
brief_word ps b w ws short =
    ap (λ (c : Bool). cond (all_known ws) (wish_for (ps ++ places ws) c) None) (sym (or-true b))
    ∙ ap (λ (v : List ℕ). wished_after ps b (v ∷ ws)) (sym ((bytes_eq-Decides w (codes "--brief")).0 short))

pub flag_word : (ps : List Place) (b : Bool) (w : List ℕ) (ws : List (List ℕ)) → is_brief w ≡ false → is_flag w ≡ true → None ≡ wished_after ps b (w ∷ ws)
unfolding places any_brief all_known
flag_word ps b w ws short flag =
    let none : (k : Bool) → k ≡ false → (o : Option Wish) → None ≡ cond (k && all_known ws) o None = λ k e o. rw e in
    none (is_brief w || not (is_flag w)) (ap (λ (t : Bool). t || not (is_flag w)) short ∙ ap not flag) _

named_word : (ps : List Place) (b : Bool) (w : List ℕ) (ws : List (List ℕ)) → is_brief w ≡ false → is_flag w ≡ false → wished_after ps b (w ∷ ws) ≡ cond (all_known ws) (wish_for (ps ++ (place_named w ∷ places ws)) (b || any_brief ws)) None
unfolding places any_brief all_known
named_word ps b w ws short flag = rw (short, flag)

pub next_word : (ps : List Place) (b : Bool) (w : List ℕ) (ws : List (List ℕ)) (qs : List Place) → is_brief w ≡ false → is_flag w ≡ false → Some qs ≡ one_more ps (place_named w) → wished_after qs b ws ≡ wished_after ps b (w ∷ ws)
next_word [] b w ws qs short flag more =
    let e : qs ≡ place_named w ∷ [] = cc in
    ap (λ (xs : List Place). wished_after xs b ws) e ∙ sym (named_word [] b w ws short flag)
next_word (p ∷ []) b w ws qs short flag more =
    let e : qs ≡ p ∷ (place_named w ∷ []) = cc in
    ap (λ (xs : List Place). wished_after xs b ws) e ∙ sym (named_word (p ∷ []) b w ws short flag)
next_word (p ∷ (q ∷ ps)) b w ws qs short flag more = cc

full : (p q r : Place) (ps rs : List Place) (b : Bool) → wish_for (p ∷ (q ∷ (ps ++ (r ∷ rs)))) b ≡ None
full p q r [] rs b = refl
full p q r (s ∷ ps) rs b = refl

refused : (k : Bool) (o : Option Wish) → o ≡ None → None ≡ cond k o None
refused true o e = sym e
refused false o e = refl

pub third_word : (ps : List Place) (b : Bool) (w : List ℕ) (ws : List (List ℕ)) → is_brief w ≡ false → is_flag w ≡ false → None ≡ one_more ps (place_named w) → None ≡ wished_after ps b (w ∷ ws)
third_word [] b w ws short flag more = cc
third_word (p ∷ []) b w ws short flag more = cc
third_word (p ∷ (q ∷ ps)) b w ws short flag more =
    refused (all_known ws) _ (full p q (place_named w) ps (places ws) (b || any_brief ws))
    ∙ sym (named_word (p ∷ (q ∷ ps)) b w ws short flag)

-- a refusal asks for nothing
pub refusal_read : (r : Result Options Misuse) → is_err r ≡ true → wish_read r ≡ None
refusal_read (Ok o) e = cc
refusal_read (Err m) e = refl

channels_wish : (s : Channel) (a : Option Channel) (b : Bool) → Some (record { from = place_of s; to = answers_place a; short = b }) ≡ wish_for (places_of (Some (s, a))) b
channels_wish s None b = refl
channels_wish s (Some d) b = refl

-- what is asked for once all channels are named
pub script_named : (n : Option (Channel × Option Channel)) (m : Misuse) (s : Channel) (a : Option Channel) (b : Bool) → ok_or n m ≡ Ok (s, a) → Some (record { from = place_of s; to = answers_place a; short = b }) ≡ wish_for (places_of n) b
script_named None m s a b e = cc
script_named (Some p) m s a b e =
    let same : p ≡ (s, a) = cc in
    channels_wish s a b ∙ ap (λ (q : Channel × Option Channel). wish_for (places_of (Some q)) b) (sym same)

pub no_script : (n : Option (Channel × Option Channel)) (m e : Misuse) (b : Bool) → ok_or n m ≡ Err e → None ≡ wish_for (places_of n) b
no_script None m e b h = refl
no_script (Some p) m e b h = cc

-- after the last word: what those before it ask for is what all ask for
pub at_end : (ps : List Place) (b : Bool) (items : List (String Global)) {all : Option Wish} → length items ≡ 0 → wished_after ps b (map string_bytes items) ≡ all → wish_for ps b ≡ all
at_end ps b items none before = sym (no_word ps b) ∙ ap (λ (xs : List (String Global)). wished_after ps b (map string_bytes xs)) (sym (nil_from_length items none)) ∙ before

pub ruleset words_read = (brief_word, flag_word, next_word, third_word)
