use Rattle.std.proofs.Common.{sym, subst}
use Rattle.space.specs.States.{State}
use Rattle.space.specs.Linking.{Agrees}
use Rattle.space.proofs.Beginning.{begins, begun_state}
use Rattle.space.proofs.space.Space.begun.Goals as goal

pub invariant_of-result : goal.invariant_of-result
invariant_of-result g c =
    let is = begun_state c.args.cores c.args.frames c.args.nodes c.args.epoch c.full.result c.new.result c.full.ensures c.new.ensures.exact in
    record {
      sound = ∣ subst (λ (st : State). Agrees st (g.N.Counter.meaning c.rooted.result)) (sym is)
          (begins c.args.cores c.args.frames c.args.nodes c.args.epoch _ c.requires.cores c.requires.frames c.requires.nodes.0 c.requires.nodes.1 c.rooted.ensures) ∣₁;
    }

pub returns-clause-state : goal.returns-clause-state
returns-clause-state g c = begun_state c.args.cores c.args.frames c.args.nodes c.args.epoch c.full.result c.new.result c.full.ensures c.new.ensures.exact
