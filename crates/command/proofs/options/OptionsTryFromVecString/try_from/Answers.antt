use Rattle.std.proofs.Common.{sym, ◌∙◌}
use Rattle.command.specs.Arguments.{places_of}
use Rattle.command.proofs.Reading.{at_end, script_named, no_script, refusal_read}
use Rattle.command.proofs.options.OptionsTryFromVecString.try_from.Goals as goal

pub returns : goal.returns
returns c =
    let named = c.loop-word.named in
    let b = c.loop-word.brief in
    script_named named _ c.in_ok-script.script c.in_ok-script.answers b (sym c.ok_or.ensures.value ∙ c.in_ok-script.was)
    ∙ at_end (places_of named) b _ (sym c.loop-word.word-iterator.rest.ok.0 ∙ c.in-None.ensures.steps.0) c.loop-word.invariant

pub returns-in_err-script : goal.returns-in_err-script
returns-in_err-script c =
    let named = c.loop-word.named in
    let b = c.loop-word.brief in
    refusal_read c.from_residual-in_err-script.result c.from_residual-in_err-script.ensures.0
    ∙ no_script named _ _ b (sym c.ok_or.ensures.value ∙ c.in_err-script.was)
    ∙ at_end (places_of named) b _ (sym c.loop-word.word-iterator.rest.ok.0 ∙ c.in-None.ensures.steps.0) c.loop-word.invariant
