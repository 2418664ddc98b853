use Rattle.std.proofs.Common.{◌≡◌, ℕ, ◌∙◌, length, true, eqb, eq-eqb, arith, length-drop, length-take}
use Rattle.script.proofs.Reading.{words_past}
use Rattle.script.proofs.record.read.Goals as goal

pub returns : goal.returns
returns c =
    let xs = c.args.bytes.now in
    let full : eqb (length xs) 16 ≡ true = eq-eqb (length xs) 16 (omega (arith, c.in_ok-try_from-2.ensures.0, length-take {A = ℕ}, length-drop {A = ℕ})) in
    let words = c.in_ok-try_from-2.ensures.1 ∙ words_past xs in
    let clean = rw words at c.if-not-is_clean.ensures in
    simp (full, c.in_ok-try_from.ensures) (rw (← clean) (cc))
