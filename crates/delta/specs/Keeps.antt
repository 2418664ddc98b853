-- Every operation, where it may come, keeps the tables sound and does to the meaning what a counter promises.
use Rattle.std.specs.Prelude.{ℕ, ◌≤◌, Bool}
use Rattle.std.proofs.Common.{sym, ◌∙◌, ap, subst, arith}
use Rattle.counter.specs.Meaning.{Operation, raised, Judged}
use Rattle.counter.specs.Meaning.Operation.{Give, Up, Down, Revive, Fold, Judge, Close}
use Rattle.counter.specs.Operations.{Allowed, Does}
use Rattle.counter.specs.ClocksLemmas.{closes_means}
use Rattle.ledger.specs.declared.slot.Move.TheVariants.{Gain, Loss}
use Rattle.ledger.specs.States.{State, StateSteps, state_after, spare_at}
use Rattle.delta.specs.Safety.{Sound, delta_meaning, holders_in}
use Rattle.delta.specs.Safe.{give_sound, spare_sound, judge_sound, fold_all_sound, close_sound}
use Rattle.delta.specs.Means.{free_used, held_shift, revive_may, shift_sound, shift_means, spare_means, give_means, judge_means, fold_all_means}

after_sound : (capacity : ℕ) (revives : Bool) (st : State) (op : Operation) → capacity ≤ 1024 → Allowed capacity revives (delta_meaning st) op → Sound st → Sound (state_after op st)
after_sound capacity revives st (Give o n) small may sound =
    give_sound o n st may.0.0 (omega (arith, may.0.1)) may.3 sound (free_used st o may.1)
after_sound capacity revives st (Up c o) small may sound =
    shift_sound Gain c o st sound may.1 (held_shift Gain c o st sound may.1 may.0.0 (omega (arith, may.0.1)) may.2 may.3)
after_sound capacity revives st (Down c o) small may sound =
    shift_sound Loss c o st sound may.1 (held_shift Loss c o st sound may.1 may.0.0 (omega (arith, may.0.1)) may.2 may.2)
after_sound capacity revives st (Revive c o) small may sound =
    shift_sound Gain c o (spare_at o st) (spare_sound o st may.0.0 (omega (arith, may.0.1)) sound) may.1
    (revive_may c o st sound may.1 may.0.0 (omega (arith, may.0.1)) may.2 may.3)
after_sound capacity revives st (Fold c) small may sound = fold_all_sound c st (omega (arith, sound.ready.cores)) sound
after_sound capacity revives st (Judge c o dead) small may sound = judge_sound c o st may.0.0 (omega (arith, may.0.1)) sound
after_sound capacity revives st (Close c) small may sound = close_sound c st sound may.1

pub keeps_sound : (capacity : ℕ) (revives : Bool) (st u : State) (op : Operation) → capacity ≤ 1024 → Allowed capacity revives (delta_meaning st) op → StateSteps st op u → Sound st → Sound u
keeps_sound capacity revives st u op small may step sound = subst Sound (sym step.tables) (after_sound capacity revives st op small may sound)

pub keeps_meaning : (capacity : ℕ) (revives : Bool) (st u : State) (op : Operation) → capacity ≤ 1024 → Allowed capacity revives (delta_meaning st) op → StateSteps st op u → Sound st →
    Does op (delta_meaning st) (delta_meaning u)
keeps_meaning capacity revives st u (Give o n) small may step sound =
    ap delta_meaning step.tables ∙ give_means o n st may.0.0 (omega (arith, may.0.1)) may.2 sound (free_used st o may.1)
keeps_meaning capacity revives st u (Up c o) small may step sound =
    ap delta_meaning step.tables
    ∙ shift_means Gain c o st sound may.1 (held_shift Gain c o st sound may.1 may.0.0 (omega (arith, may.0.1)) may.2 may.3)
keeps_meaning capacity revives st u (Down c o) small may step sound =
    ap delta_meaning step.tables
    ∙ shift_means Loss c o st sound may.1 (held_shift Loss c o st sound may.1 may.0.0 (omega (arith, may.0.1)) may.2 may.2)
keeps_meaning capacity revives st u (Revive c o) small may step sound =
    ap delta_meaning step.tables
    ∙ shift_means Gain c o (spare_at o st) (spare_sound o st may.0.0 (omega (arith, may.0.1)) sound) may.1
    (revive_may c o st sound may.1 may.0.0 (omega (arith, may.0.1)) may.2 may.3)
    ∙ ap (raised o) (spare_means o st (omega (arith, may.0.1)) sound)
keeps_meaning capacity revives st u (Fold c) small may step sound =
    ap delta_meaning step.tables ∙ fold_all_means c st (omega (arith, sound.ready.cores)) sound
keeps_meaning capacity revives st u (Judge c o dead) small may step sound =
    subst (λ (t : State). Judged (delta_meaning st) o dead (delta_meaning t)) (sym step.tables)
    (judge_means c o st dead may.0.0 (omega (arith, may.0.1)) sound step.answer)
keeps_meaning capacity revives st u (Close c) small may step sound =
    ap delta_meaning step.tables ∙ closes_means c st.clock (holders_in st)
