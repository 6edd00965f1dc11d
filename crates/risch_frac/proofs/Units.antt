-- Sums with 0, products with 1 and products with 0 do not overflow, and give what they give in the field.
use Rattle.std.specs.Prelude.{Ok}
use Rattle.std.proofs.Common.{◌≡◌, ℕ, ◌%◌, ◌^◌, ◌<◌, [], ◌∷◌, refl, sym, ◌∙◌, ap, ap₂, arith, subst, ℤ, pos, ◌+ℤ◌, ◌*ℤ◌, unsigned_abs}
use Rattle.std.proofs.Math.IntN.{*ℤ-zero, zero-*ℤ}
use Rattle.risch_ring.specs.Integers as Integers
use Rattle.risch_ring.proofs.Expression.{reading_ints}
use Rattle.risch_ring.proofs.Solver.{ring}
use Rattle.risch_frac.specs.Fraction.{Fraction, IsLowest, whole, lowest, sum, product}
use Rattle.risch_frac.proofs.CommonDivisor.{gcd-step, gcd-zero}
use Rattle.risch_frac.proofs.Lowest.{lowest-is}
use Rattle.risch_frac.proofs.Rules.{sum-fits, product-fits, pos-positive}

-- n/1 is in lowest terms
pub whole-is_lowest : (n : ℕ) → n < 2 ^ 127 → IsLowest (whole n)
whole-is_lowest n p = record {
  positive = omega arith;
  coprime = sym (gcd-step n 1 (omega arith)) ∙ (let rest : n % 1 ≡ 0 = omega arith in rw rest (gcd-zero 1 0 refl));
  num_fits = p;
  den_fits = omega arith;
}

one-mul : (z : ℤ) → pos 1 *ℤ z ≡ z
one-mul z = ring Integers.ints (z ∷ []) (search reading_ints depth 10 fits 2000) refl

mul-one : (z : ℤ) → z *ℤ pos 1 ≡ z
mul-one z = ring Integers.ints (z ∷ []) (search reading_ints depth 10 fits 2000) refl

zero-add : (z : ℤ) → pos 0 +ℤ z ≡ z
zero-add z = ring Integers.ints (z ∷ []) (search reading_ints depth 10 fits 2000) refl

add-zero : (z : ℤ) → z +ℤ pos 0 ≡ z
add-zero z = ring Integers.ints (z ∷ []) (search reading_ints depth 10 fits 2000) refl

fits_as : (z w : ℤ) → z ≡ w → unsigned_abs w < 2 ^ 127 → unsigned_abs z < 2 ^ 127
fits_as z w e h = subst (λ v. unsigned_abs v < 2 ^ 127) (sym e) h

module _ (p : Fraction) (lowest_p : IsLowest p) where
  itself : lowest p.num (pos p.den) ≡ p
  itself = lowest-is p.num (pos p.den) p (pos-positive p.den lowest_p.positive) lowest_p.num_fits lowest_p.den_fits lowest_p refl

  -- a sum or a product whose numbers are those of p is p
  sum-is : (q r : Fraction) (left right : ℤ) → q.num *ℤ pos r.den ≡ left → r.num *ℤ pos q.den ≡ right → unsigned_abs left < 2 ^ 127 → unsigned_abs right < 2 ^ 127 →
      left +ℤ right ≡ p.num → pos q.den *ℤ pos r.den ≡ pos p.den → sum q r ≡ Ok p
  sum-is q r left right left_is right_is left_fits right_fits num_is den_is =
      let num : q.num *ℤ pos r.den +ℤ r.num *ℤ pos q.den ≡ p.num = ap₂ ◌+ℤ◌ left_is right_is ∙ num_is in
      sum-fits q r (fits_as _ _ left_is left_fits) (fits_as _ _ right_is right_fits) (fits_as _ _ num lowest_p.num_fits) (fits_as _ _ den_is lowest_p.den_fits)
      ∙ ap Ok (ap₂ lowest num den_is ∙ itself)

  product-is : (q r : Fraction) → q.num *ℤ r.num ≡ p.num → pos q.den *ℤ pos r.den ≡ pos p.den → product q r ≡ Ok p
  product-is q r num den =
      product-fits q r (fits_as _ _ num lowest_p.num_fits) (fits_as _ _ den lowest_p.den_fits) ∙ ap Ok (ap₂ lowest num den ∙ itself)

  -- 0 + p = p
  pub sum-zero_left : sum (whole 0) p ≡ Ok p
  sum-zero_left = sum-is (whole 0) p (pos 0) p.num (zero-*ℤ (pos p.den)) (mul-one p.num) (omega arith) lowest_p.num_fits (zero-add p.num) (one-mul (pos p.den))

  -- p + 0 = p
  pub sum-zero_right : sum p (whole 0) ≡ Ok p
  sum-zero_right = sum-is p (whole 0) p.num (pos 0) (mul-one p.num) (zero-*ℤ (pos p.den)) lowest_p.num_fits (omega arith) (add-zero p.num) (mul-one (pos p.den))

  -- 1·p = p
  pub product-one_left : product (whole 1) p ≡ Ok p
  product-one_left = product-is (whole 1) p (one-mul p.num) (one-mul (pos p.den))

  -- p·1 = p
  pub product-one_right : product p (whole 1) ≡ Ok p
  product-one_right = product-is p (whole 1) (mul-one p.num) (mul-one (pos p.den))

-- 0/d = 0
zero_product : (q r : Fraction) (d : ℕ) → 0 < d → d < 2 ^ 127 → q.num *ℤ r.num ≡ pos 0 → pos q.den *ℤ pos r.den ≡ pos d → product q r ≡ Ok (whole 0)
zero_product q r d some below num den =
    product-fits q r (fits_as _ _ num (omega arith)) (fits_as _ _ den below)
    ∙ ap Ok (ap₂ lowest num den ∙ lowest-is (pos 0) (pos d) (whole 0) (pos-positive d some) (omega arith) below (whole-is_lowest 0 (omega arith)) (zero-*ℤ (pos d) ∙ sym (zero-*ℤ (pos 1))))

-- 0·p = 0
pub product-zero_left : (p : Fraction) → IsLowest p → product (whole 0) p ≡ Ok (whole 0)
product-zero_left p lowest_p = zero_product (whole 0) p p.den lowest_p.positive lowest_p.den_fits (zero-*ℤ p.num) (one-mul (pos p.den))

-- p·0 = 0
pub product-zero_right : (p : Fraction) → IsLowest p → product p (whole 0) ≡ Ok (whole 0)
product-zero_right p lowest_p = zero_product p (whole 0) p.den lowest_p.positive lowest_p.den_fits (*ℤ-zero p.num) (mul-one (pos p.den))
