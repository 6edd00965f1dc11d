-- K[t] as a commutative ring, and a + t·p in Horner's form.
use Rattle.risch_ring.specs.CommRing.{CommRing, Field}
use Rattle.risch_univariate.specs.Polynomial.{Polynomial, zero_polynomial, one_polynomial, add_polynomials, mul_polynomials, neg_polynomial, constant, variable}
use Rattle.risch_univariate.specs.PolynomialLaws.{Polynomial-set, add_polynomials_assoc, add_polynomials_comm, add_polynomials-zero, add_polynomials-neg, mul_polynomials_assoc, mul_polynomials_comm, mul_polynomials-one, mul_polynomials-add}

module _ {A : Type 0} (F : Field A) where
  -- the ring K[t]
  unfoldable pub polynomials : CommRing (Polynomial F)
  polynomials = record {
    zero = zero_polynomial F;
    one = one_polynomial F;
    add = add_polynomials F;
    mul = mul_polynomials F;
    neg = neg_polynomial F;
    is_set = Polynomial-set F;
    add_assoc = add_polynomials_assoc F;
    add_comm = add_polynomials_comm F;
    add-zero = add_polynomials-zero F;
    add-neg = add_polynomials-neg F;
    mul_assoc = mul_polynomials_assoc F;
    mul_comm = mul_polynomials_comm F;
    mul-one = mul_polynomials-one F;
    mul-add = mul_polynomials-add F;
  }

  -- a + t·p
  abbrev pub horner : A → Polynomial F → Polynomial F
  horner a p = polynomials.add (constant F a) (polynomials.mul (variable F) p)
