-- A script, record by record.
use Rattle.std.proofs.Common.{◌≡◌, List, [], ◌∷◌, ◌++◌, refl, ap}
use Rattle.std.specs.List.{fold, scan}

-- a scan of one element more
pub scan_more : {S X Y : Type 0} (next : S → X → S) (out : S → X → Y) (a : S) (xs : List X) (x : X) → scan next out a (xs ++ x ∷ []) ≡ scan next out a xs ++ out (fold next a xs) x ∷ []
scan_more next out a [] x = refl
scan_more {Y} next out a (y ∷ ys) x = ap (λ (zs : List Y). out a y ∷ zs) (scan_more next out (next a y) ys x)
