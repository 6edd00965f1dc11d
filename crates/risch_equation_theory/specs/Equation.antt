-- The equation Dy + f·y = g in K(t), and a·D(q) + b·q = c in K(t) and in K[t] with its steps.
use Rattle.std.specs.Prelude.{◌≡◌}
use Rattle.risch_ring.specs.CommRing.{sub}
use Rattle.risch_ring.specs.CommRing.{CommRing, Field, Derivation}
use Rattle.risch_univariate.specs.Polynomial.{Polynomial}
use Rattle.risch_univariate.specs.PolynomialRing.{polynomials}
use Rattle.risch_fraction_field.specs.Fraction.{Fraction, of_polynomial}
use Rattle.risch_fraction_field.specs.FractionField.{fractions}
use Rattle.risch_fraction_field.specs.FractionDerivation.{fraction_derivation}
use Rattle.risch_univariate.specs.PolynomialOperators.{polynomial_operators}

module _ {A : Type 0} (F : Field A) (D : Derivation (polynomials F)) where
  abbrev R : CommRing (Polynomial F)
  R = polynomials F

  abbrev K : Field (Fraction F)
  K = fractions F

  open (polynomial_operators F) use {◌+◌ as ◌+ₚ◌, ◌*◌}

  -- Dy + f·y
  abbrev pub left_side : (f y : Fraction F) → Fraction F
  left_side f y = K.add ((fraction_derivation F D).derive y) (K.mul f y)

  -- a·D(q) + b·q in K(t)
  abbrev pub reduced_left_side : (a : Polynomial F) (b q : Fraction F) → Fraction F
  reduced_left_side a b q = K.add (K.mul (of_polynomial F a) ((fraction_derivation F D).derive q)) (K.mul b q)

  -- a·D(q) + b·q = c in K[t]
  abbrev pub Solves : (a b c q : Polynomial F) → Type 0
  Solves a b c q = a * D.derive q +ₚ b * q ≡ c

  -- q = r + a·s, and s solves a·D(s) + (b + D(a))·s = z - D(r)
  pub record IsStep (a b r z q : Polynomial F) : Type 0 where
    pub rest : Polynomial F
    pub equation : q ≡ r +ₚ a * rest
    pub solves : Solves a (b +ₚ D.derive a) (sub R z (D.derive r)) rest

  -- c = c'·g, and q solves a·D(q) + b·q = c'
  pub record IsDivided (a b c g q : Polynomial F) : Type 0 where
    pub right : Polynomial F
    pub equation : c ≡ right * g
    pub solves : Solves a b right q
