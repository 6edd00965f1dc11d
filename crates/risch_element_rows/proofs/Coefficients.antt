-- Dropping the coefficients at the end that are 0 makes no list longer.
use Rattle.std.specs.Prelude.{if◌then◌else◌}
use Rattle.std.proofs.Common.{suc, ◌≤◌, length, arith, Bool, true, false, List, [], ◌∷◌}
use Rattle.risch_level.specs.Levels.{Element, element}
use Rattle.risch_polynomial.specs.Poly as poly

leading-is_shorter : (c : Element) (p : List Element) → length (poly.leading element c p) ≤ suc (length p)
leading-is_shorter c [] = by_zero (element.is_zero c)
  where
    by_zero : (z : Bool) → length (if z then [] else c ∷ []) ≤ 1
    by_zero true = omega arith
    by_zero false = omega arith
leading-is_shorter c (d ∷ p) = omega arith

pub trimmed_is_shorter : (p : List Element) → length (poly.trimmed element p) ≤ length p
trimmed_is_shorter [] = omega arith
trimmed_is_shorter (c ∷ p) =
    let l = leading-is_shorter c (poly.trimmed element p) in
    let t = trimmed_is_shorter p in
    omega (arith, l, t)
