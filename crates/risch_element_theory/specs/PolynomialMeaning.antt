-- What lists of coefficients stand for in K[t], where each valid coefficient e stands for an element ⟦e⟧ of the field K.
use Rattle.std.specs.Prelude.{◌≡◌, ◌≤◌, List, length, map}
use Rattle.risch_ring.specs.CommRing.{Field}
use Rattle.risch_univariate.specs.Polynomial.{Polynomial, of_list}
use Rattle.risch_univariate.specs.Degree.{IsMonic}
use Rattle.risch_univariate.specs.Division.{IsDivision, IsGcd}
use Rattle.risch_univariate.specs.PolynomialRing.{polynomials}
use Rattle.risch_field.specs.Ops.{Ops}
use Rattle.risch_polynomial.specs.Poly as poly
use Rattle.risch_polynomial_theory.specs.Meaning.{AllValid}

-- ⟦p⟧ = ⟦p_0⟧ + ⟦p_1⟧·t + ..
unfoldable pub polynomial_of : {E A : Type 0} (F : Field A) → (E → A) → List E → Polynomial F
polynomial_of F meaning p = of_list F (map meaning p)

-- the coefficients of p are valid, the last one is not 0, and the degree is at most 255
pub record IsKept {E : Type 0} (o : Ops E) (valid : E → Type 0) (p : List E) : Type 0 where
  pub all_valid : AllValid valid p
  pub ends_not_zero : poly.trimmed o p ≡ p
  pub degree_small : length p ≤ 256

-- r is kept and stands for v
pub record KeepsPolynomial {E A : Type 0} (o : Ops E) (F : Field A) (valid : E → Type 0) (meaning : E → A) (r : List E) (v : Polynomial F) : Type 0 where
  pub kept : IsKept o valid r
  pub means : polynomial_of F meaning r ≡ v

-- a and r are kept, ⟦p⟧ = ⟦a⟧·⟦q⟧ + ⟦r⟧ and deg ⟦r⟧ < deg ⟦q⟧
pub record KeepsDivision {E A : Type 0} (o : Ops E) (F : Field A) (valid : E → Type 0) (meaning : E → A) (p q a r : List E) : Type 0 where
  pub quotient_kept : IsKept o valid a
  pub remainder_kept : IsKept o valid r
  pub is_division : IsDivision F (polynomial_of F meaning p) (polynomial_of F meaning q) (polynomial_of F meaning a) (polynomial_of F meaning r)

-- g is kept, and ⟦g⟧ is the monic greatest common divisor of ⟦p⟧ and ⟦q⟧
pub record KeepsGcd {E A : Type 0} (o : Ops E) (F : Field A) (valid : E → Type 0) (meaning : E → A) (g p q : List E) : Type 0 where
  pub kept : IsKept o valid g
  pub is_monic : IsMonic F (polynomial_of F meaning g)
  pub is_gcd : IsGcd F (polynomial_of F meaning g) (polynomial_of F meaning p) (polynomial_of F meaning q)

-- q is kept, and ⟦p⟧ = ⟦q⟧·⟦d⟧
pub record KeepsQuotient {E A : Type 0} (o : Ops E) (F : Field A) (valid : E → Type 0) (meaning : E → A) (p d q : List E) : Type 0 where
  pub kept : IsKept o valid q
  pub equation : polynomial_of F meaning p ≡ (polynomials F).mul (polynomial_of F meaning q) (polynomial_of F meaning d)
