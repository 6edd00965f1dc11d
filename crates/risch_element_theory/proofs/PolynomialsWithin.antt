-- The rules on polynomials over the whole tower lead to no new variable: where the variables of the coefficients that are given are among the first n, so are those of the coefficients that are formed.
use Rattle.std.specs.Prelude.{IfSome, slice_get, if◌then◌else◌}
use Rattle.std.proofs.Common.{◌≡◌, ℕ, zero, suc, Bool, true, false, List, [], ◌∷◌, None, Some, Ok, sym, subst}
use Rattle.risch_level.specs.Levels.{Element, element}
use Rattle.risch_polynomial.specs.Poly as poly
use Rattle.risch_polynomial.specs.Modular as modular
use Rattle.risch_element_theory.specs.WholeTower.{Within, AllWithin}
use Rattle.risch_element_theory.proofs.CoefficientProperties as Properties
use Rattle.risch_element_theory.proofs.CoefficientProperties.{IsClosedUnder}
use Rattle.risch_element_theory.proofs.ElementWithin.{zero-element-within, one-element-within, whole-element-within, negative-element-within, sum-element-within, product-element-within, quotient-element-within}

pub within-closed : (n : ℕ) → IsClosedUnder element (Within n)
within-closed n = record {
  zero_in = zero-element-within n;
  one_in = one-element-within n;
  whole_in = whole-element-within n;
  negative_in = negative-element-within n;
  sum_in = sum-element-within n;
  product_in = product-element-within n;
  quotient_in = quotient-element-within n;
}

nonzero-within : (n : ℕ) (c : Element) (z : Bool) → Within n c → IfSome (if z then None else Some c) (Within n)
nonzero-within n c true w = tt
nonzero-within n c false w = w

-- the coefficient at an exponent, where it is not 0
pub coefficient-within : (n : ℕ) (p : List Element) (k : ℕ) → AllWithin n p → IfSome (poly.nonzero element (slice_get p k)) (Within n)
coefficient-within n [] k all = tt
coefficient-within n (c ∷ p) zero all = nonzero-within n c (element.is_zero c) all.0
coefficient-within n (c ∷ p) (suc k) all = coefficient-within n p k all.1

pub trimmed-within : (n : ℕ) (p r : List Element) → AllWithin n p → r ≡ poly.trimmed element p → AllWithin n r
trimmed-within n p r all is = subst (AllWithin n) (sym is) (Properties.trimmed-keeps (within-closed n) p all)

pub sum-within : (n : ℕ) (p q r : List Element) → AllWithin n p → AllWithin n q → poly.sum element p q ≡ Ok r → AllWithin n r
sum-within n p q r all_p all_q e = Properties.sum-keeps (within-closed n) p q r all_p all_q e

pub product-within : (n : ℕ) (p q r : List Element) → AllWithin n p → AllWithin n q → poly.product element p q ≡ Ok r → AllWithin n r
product-within n p q r all_p all_q e = Properties.product-keeps (within-closed n) p q r all_p all_q e

pub scaled-within : (n : ℕ) (c : Element) (p r : List Element) → Within n c → AllWithin n p → poly.scaled element c p ≡ Ok r → AllWithin n r
scaled-within n c p r v all e = Properties.scaled-keeps (within-closed n) c p r v all e

pub negatives-within : (n : ℕ) (p r : List Element) → AllWithin n p → r ≡ poly.negatives element p → AllWithin n r
negatives-within n p r all is = subst (AllWithin n) (sym is) (Properties.negatives-keep (within-closed n) p all)

pub partial-within : (n : ℕ) (p r : List Element) → AllWithin n p → poly.partial element p ≡ Ok r → AllWithin n r
partial-within n p r all e = Properties.partial-keeps (within-closed n) p r all e

pub monic-within : (n : ℕ) (p r : List Element) → AllWithin n p → poly.monic element p ≡ Ok r → AllWithin n r
monic-within n p r all e = Properties.monic-keeps (within-closed n) p r all e

pub quotient-within : (n : ℕ) (p q a r : List Element) → AllWithin n p → AllWithin n q → poly.division element p q ≡ Ok (a, r) → AllWithin n a
quotient-within n p q a r all_p all_q e = (Properties.division-keeps (within-closed n) p q (a, r) all_p all_q e).0

pub remainder-within : (n : ℕ) (p q a r : List Element) → AllWithin n p → AllWithin n q → poly.division element p q ≡ Ok (a, r) → AllWithin n r
remainder-within n p q a r all_p all_q e = (Properties.division-keeps (within-closed n) p q (a, r) all_p all_q e).1

pub gcd-within : (n : ℕ) (p q g : List Element) → AllWithin n p → AllWithin n q → poly.gcd element p q ≡ Ok g → AllWithin n g
gcd-within n p q g all_p all_q e = Properties.gcd-keeps (within-closed n) p q g all_p all_q e

pub inverse-within : (n : ℕ) (b a i : List Element) → AllWithin n b → AllWithin n a → modular.inverse element b a ≡ Ok (Some i) → AllWithin n i
inverse-within n b a i all_b all_a e = Properties.inverse-keeps (within-closed n) b a (Some i) all_b all_a e

pub left_solution-within : (n : ℕ) (a b c r z : List Element) → AllWithin n a → AllWithin n b → AllWithin n c → modular.solve element a b c ≡ Ok (Some (r, z)) → AllWithin n r
left_solution-within n a b c r z all_a all_b all_c e = (Properties.solve-keeps (within-closed n) a b c (Some (r, z)) all_a all_b all_c e).0

pub right_solution-within : (n : ℕ) (a b c r z : List Element) → AllWithin n a → AllWithin n b → AllWithin n c → modular.solve element a b c ≡ Ok (Some (r, z)) → AllWithin n z
right_solution-within n a b c r z all_a all_b all_c e = (Properties.solve-keeps (within-closed n) a b c (Some (r, z)) all_a all_b all_c e).1
