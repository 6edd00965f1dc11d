-- The polynomials are a domain in which zero can be decided, and whether a numerator is 0 is the same for pairs that are the same fraction.
use Rattle.std.specs.Prelude.{◌≡◌, true}
use Rattle.std.proofs.Common.{sym, inl, inr}
use Rattle.std.specs.Prelude.{◌⊎◌}
use Rattle.std.specs.Cmp.{both_ways}
use Rattle.risch_mean.specs.Polynomial.{Polynomial, zero, mul, same}
use Rattle.risch_mean.specs.PolynomialLaws.{polynomials, discrete, one_nonzero, mul_nonzero, same_if, same_is}
use Rattle.risch_mean.specs.Pairs.{IsDecidableDomain, Pair, Same}
use Rattle.risch_mean.specs.PairLaws.{num-zero}

-- P·Q = 0 only where P = 0 or Q = 0
pub polynomial_product_zero : (p q : Polynomial) → mul p q ≡ zero → (p ≡ zero) ⊎ (q ≡ zero)
polynomial_product_zero p q h = by (discrete p zero) (discrete q zero)
  where
    by : Dec (p ≡ zero) → Dec (q ≡ zero) → (p ≡ zero) ⊎ (q ≡ zero)
    by (yes e) k = inl e
    by (no n) (yes e) = inr e
    by (no n) (no m) = absurd (mul_nonzero p q n m h)

-- the polynomials as a domain
abbrev pub domain : IsDecidableDomain polynomials
domain = record { domain = record { one-ne-zero = one_nonzero; zero_product = polynomial_product_zero }; is_zero = λ p. discrete p zero }

zero_either_way : (p q : Polynomial) → (p ≡ zero → q ≡ zero) → same p zero ≡ true → same q zero ≡ true
zero_either_way p q f h = same_if q zero (f (same_is p zero h))

-- the test whether the numerator is 0 gives the same for equal fractions
pub is_zero_test_pair : (a b : Pair polynomials) → Same polynomials domain a b → same a.num zero ≡ same b.num zero
is_zero_test_pair a b h = both_ways _ _ (zero_either_way a.num b.num (num-zero polynomials domain a b h)) (zero_either_way b.num a.num (num-zero polynomials domain b a (sym h)))
