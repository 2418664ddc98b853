use Rattle.std.proofs.Common.{None, refl, rules}
use Rattle.bank.proofs.ReloadFound.{once_none, pages_set, nowhere, found, alone_hit, others_hit, vacated}
use Rattle.bank.proofs.reload_row.ReloadRow.vacate.Goals as goal

pub invariant_of-self : goal.invariant_of-self
invariant_of-self c =
    let r = c.args.self.now in
    record {
      within = search rules;
      single = once_none r.entries c.in-Some.i r.single;
      pages = pages_set r.entries c.in-Some.i None 262144 r.pages (search rules);
    }

pub returns-in-Some : goal.returns-in-Some
returns-in-Some c =
    let r = c.args.self.now in
    let s = found c.args.page c.in-Some.i r.entries (search rules) c.in-Some.ensures in
    record {
      here = alone_hit s r.single;
      rest = λ q ne. others_hit s None q ne tt;
      turn = refl;
      exact = vacated s r.single;
    }

pub returns-in_default : goal.returns-in_default
returns-in_default c =
    let none = nowhere c.args.page c.args.self.now.entries c.in_default.ensures in
    record { here = none; rest = λ q ne. refl; turn = refl; exact = simp none refl }
