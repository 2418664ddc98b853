-- No bytes but the record of a call ask for that call.
use Rattle.std.proofs.Common.{◌≡◌, ℕ, zero, suc, ◌+◌, Bool, true, false, cond, eqb, List, [], ◌∷◌, ◌++◌, length, get_or, drop, Some, None, Ok, Err, Option, Result, sym, refl, ap, subst, ◌∙◌, add-one, arith, drop_of_length-le, drop-cons, eqb-true}
use Rattle.std.proofs.lemmas.Nat.{le_bytes_4}
use Rattle.std.proofs.lemmas.Bool.Decides.{nat_tests}
use Rattle.script.proofs.Trips.{byte_nil, byte_cons}
use Rattle.model.specs.declared.call.Call.{Call}
use Rattle.model.specs.declared.fault.Fault.{Fault}
use Rattle.model.specs.declared.fault.Fault.TheVariants.{BadRecord}
use Rattle.script.specs.declared.kind.Kind.{Kind}
use Rattle.script.specs.declared.kind.Kind.TheVariants.{SetUp, Map, Touch, Share, Begin, Acknowledge, Finish, Flush, Look}
use Rattle.script.specs.declared.record.Words.{Words}
use Rattle.script.specs.Kinds.{kind_of, kind_number}
use Rattle.script.specs.FieldUse.{used_by}
use Rattle.script.specs.Numbers.{word, word_bytes}
use Rattle.script.specs.Records.{words_at, unused_zero, call_of, asked, decoded}
use Rattle.script.specs.RecordLaws.{Byte, laid_out, encoded, OneRecord}

-- four bytes are the bytes of the number that they make
word_back : (p q r s : ℕ) → Byte p → Byte q → Byte r → Byte s → word_bytes (word (p ∷ q ∷ r ∷ s ∷ []) 0) ≡ p ∷ q ∷ r ∷ s ∷ []
word_back p q r s hp hq hr hs =
    le_bytes_4 (p ∷ q ∷ r ∷ s ∷ []) _ refl (byte_cons hp (byte_cons hq (byte_cons hr (byte_cons hs byte_nil)))).each refl

-- the n elements from place i on
abbrev cells : ℕ → ℕ → List ℕ → List ℕ
cells zero i xs = []
cells (suc n) i xs = get_or xs i 0 ∷ cells n (i + 1) xs

drop_cells : (n i : ℕ) (xs : List ℕ) → length xs ≡ i + n → drop i xs ≡ cells n i xs
drop_cells zero i xs h = drop_of_length-le xs (omega arith)
drop_cells (suc n) i xs h =
    drop-cons xs i 0 (omega arith)
    ∙ ap (λ (t : List ℕ). get_or xs i 0 ∷ t) (ap (λ (k : ℕ). drop k xs) (sym (add-one i)) ∙ drop_cells n (i + 1) xs (omega arith))

-- only the number of a kind has that kind
kind_found : (n : ℕ) (k : Kind) → kind_of n ≡ Some k → n ≡ kind_number k
kind_found n k h = grind (arith, nat_tests)

-- the record of the call that clean fields make has just these fields
canonical : (k : Kind) (core label gap : ℕ) (w : Words) → unused_zero (used_by k) core label gap w ≡ true → (encoded (call_of k core label w) ≡ laid_out (kind_number k) core label w.a w.b w.c) × (gap ≡ 0)
canonical SetUp core label gap w h = grind (arith, nat_tests)
canonical Map core label gap w h = grind (arith, nat_tests)
canonical Touch core label gap w h = grind (arith, nat_tests)
canonical Share core label gap w h = grind (arith, nat_tests)
canonical Begin core label gap w h = grind (arith, nat_tests)
canonical Acknowledge core label gap w h = grind (arith, nat_tests)
canonical Finish core label gap w h = grind (arith, nat_tests)
canonical Flush core label gap w h = grind (arith, nat_tests)
canonical Look core label gap w h = grind (arith, nat_tests)

-- an answer Ok comes only from a test that passed
passed : (b : Bool) (x : Result Call Fault) (call : Call) → cond b x (Err BadRecord) ≡ Ok call → (b ≡ true) × (x ≡ Ok call)
passed true x call h = (refl, h)
passed false x call h = absurd (cc)

-- fields that ask for a call are those of its record
asked_laid : (o : Option Kind) (n core label gap : ℕ) (w : Words) (call : Call) → kind_of n ≡ o → asked o core label gap w ≡ Ok call → (encoded call ≡ laid_out n core label w.a w.b w.c) × (gap ≡ 0)
asked_laid None n core label gap w call found h = absurd (cc)
asked_laid (Some k) n core label gap w call found h =
    let p = passed (unused_zero (used_by k) core label gap w) (Ok (call_of k core label w)) call h in
    let made : Ok (call_of k core label w) ≡ Ok call = p.1 in
    let laid = canonical k core label gap w p.0 in
    let number = kind_found n k found in
    (rw number (cc), laid.1)

same_record : (f : ℕ → List ℕ → List ℕ → List ℕ → List ℕ) {g g' : ℕ} {us us' vs vs' ws ws' : List ℕ} → g ≡ g' → us ≡ us' → vs ≡ vs' → ws ≡ ws' → f g us vs ws ≡ f g' us' vs' ws'
same_record f p q r s = cc

pub one_record_lem : OneRecord
one_record_lem xs call bytes h =
    let full : length xs ≡ 16 = eqb-true (length xs) 16 (passed (eqb (length xs) 16) _ call h).0 in
    let ys : List ℕ = cells 16 0 xs in
    let same : xs ≡ ys = drop_cells 16 0 xs full in
    let laid = asked_laid (kind_of (get_or ys 0 0)) (get_or ys 0 0) (get_or ys 1 0) (get_or ys 2 0) (get_or ys 3 0) (words_at ys 4) call refl (subst (λ (zs : List ℕ). decoded zs ≡ Ok call) same h) in
    laid.0
    ∙ same_record (λ gap us vs ws. get_or ys 0 0 ∷ get_or ys 1 0 ∷ get_or ys 2 0 ∷ gap ∷ us ++ vs ++ ws) (sym laid.1)
    (word_back _ _ _ _ (bytes 4) (bytes 5) (bytes 6) (bytes 7))
    (word_back _ _ _ _ (bytes 8) (bytes 9) (bytes 10) (bytes 11))
    (word_back _ _ _ _ (bytes 12) (bytes 13) (bytes 14) (bytes 15))
    ∙ sym same
