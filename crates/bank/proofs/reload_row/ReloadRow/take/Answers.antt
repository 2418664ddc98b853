use Rattle.std.proofs.Common.{◌<◌, length, Some, None, refl, arith, rules}
use Rattle.bank.proofs.ReloadFound.{nowhere, found, once_set, pages_set, alone_hit, others_hit, here_own, none_stays, displaces, replaced}
use Rattle.bank.proofs.reload_row.ReloadRow.take.Goals as goal

pub invariant_of-self : goal.invariant_of-self
invariant_of-self c =
    let r = c.args.self.now in
    let s = found c.args.newcomer.page c.in-Some.i r.entries (search rules) c.in-Some.ensures in
    let u = c.args.newcomer in
    let alone = alone_hit s r.single in
    record {
      within = search rules;
      single = once_set r.entries c.in-Some.i u r.single alone;
      pages = pages_set r.entries c.in-Some.i (Some u) 262144 r.pages c.requires;
    }

pub invariant_of-self-in-None : goal.invariant_of-self-in-None
invariant_of-self-in-None c =
    let r = c.args.self.now in
    let u = c.args.newcomer in
    let none = nowhere c.args.newcomer.page r.entries c.in-None.ensures in
    let alone = none_stays r.entries r.turn None c.args.newcomer.page none tt in
    let after = c.replace-displaced.ensures.after in
    record {
      within = search rules;
      single = rw after (once_set r.entries r.turn u r.single alone);
      pages = rw after (pages_set r.entries r.turn (Some u) 262144 r.pages c.requires);
    }

pub returns-in-Some : goal.returns-in-Some
returns-in-Some c =
    let r = c.args.self.now in
    let s = found c.args.newcomer.page c.in-Some.i r.entries (search rules) c.in-Some.ensures in
    let u = c.args.newcomer in
    let within : c.in-Some.i < length r.entries = omega (arith, s.within) in
    let alone = alone_hit s r.single in
    record {
      here = here_own r.entries c.in-Some.i u within alone;
      rest = λ q ne. others_hit s (Some u) q ne (grind arith);
      inside = search rules;
      exact = replaced u s r.turn r.single;
    }

pub returns-in-None : goal.returns-in-None
returns-in-None c =
    let r = c.args.self.now in
    let u = c.args.newcomer in
    let within : r.turn < length r.entries = omega arith in
    let none = nowhere c.args.newcomer.page r.entries c.in-None.ensures in
    let alone = none_stays r.entries r.turn None c.args.newcomer.page none tt in
    rw (c.replace-displaced.ensures.value, c.replace-displaced.ensures.after) (record {
      here = here_own r.entries r.turn u within alone;
      rest = displaces r.entries r.turn u r.single none;
      inside = r.pages r.turn;
      exact = simp none (record { writes = refl; goes_on = refl; displaced = refl });
    })
