-- The solutions of Dy + f·y = g by their normal denominator: y·h is a polynomial for Dt = η, and has a power of t as its denominator for Dt = η·t.
-- The equations for y·h and for a multiple by a power of t.
use Rattle.std.specs.Prelude.{◌≡◌}
use Rattle.std.proofs.Common.{refl, sym, ap, subst, ◌∙◌}
use Rattle.risch_ring.specs.CommRing.{CommRing, Field, Derivation, power, sub, HasCharacteristicZero}
use Rattle.risch_univariate.specs.Polynomial.{Polynomial, constant, variable}
use Rattle.risch_univariate.specs.Degree.{degree, IsMonic}
use Rattle.risch_univariate.specs.Division.{Divides, IsIrreducible}
use Rattle.risch_ring.proofs.FieldLaws as FieldLaws
use Rattle.risch_univariate.proofs.Degree as Degree
use Rattle.risch_univariate.proofs.Divides as Divides
use Rattle.risch_univariate.proofs.Derivation as Derivation
use Rattle.risch_fraction_field.specs.Fraction.{Fraction, Represents, of_polynomial}
use Rattle.risch_equation_theory.proofs.Identities as Identities
use Rattle.risch_equation_theory.proofs.NormalDenominator as NormalDenominator
use Rattle.risch_equation_theory.proofs.Poles as Poles
use Rattle.risch_equation_theory.proofs.SpecialDenominators as SpecialDenominators
use Rattle.risch_univariate.specs.PolynomialRing.{polynomials}
use Rattle.risch_univariate.specs.SplittingFactorization.{SplittingFactorization}
use Rattle.risch_fraction_field.specs.Representation.{represents-add, represents-mul}
use Rattle.risch_fraction_field.specs.FractionLaws.{represents_same, represents_unique, represents-polynomial}
use Rattle.risch_fraction_field.specs.FractionField.{fractions}
use Rattle.risch_equation_theory.specs.Equation.{left_side}
use Rattle.risch_equation_theory.specs.WeakNormalization.{IsWeaklyNormalized}
use Rattle.risch_equation_theory.specs.Constants.{IsSoundPrimitive, IsSoundExponential}
use Rattle.risch_equation_theory.specs.NormalDenominator.{IsNormalDenominator}

-- in any field with a derivation
module _ {A : Type 0} (G : Field A) (D : Derivation G.ring) where
  -- q = y·h: d·h·D(q) + (d·h·f - d·D(h))·q = d·h²·(D(y) + f·y)
  pub denominator_left_side : (d h f y : A)
      → G.add (G.mul (G.mul d h) (D.derive (G.mul y h))) (G.mul (sub G.ring (G.mul (G.mul d h) f) (G.mul d (D.derive h))) (G.mul y h))
      ≡ G.mul (G.mul d (G.mul h h)) (G.add (D.derive y) (G.mul f y))
  denominator_left_side d h f y =
      ap (λ z. G.add (G.mul (G.mul d h) z) (G.mul (sub G.ring (G.mul (G.mul d h) f) (G.mul d (D.derive h))) (G.mul y h))) (D.derive-mul y h)
      ∙ Identities.denominator_equation G.ring d h f y (D.derive y) (D.derive h)

  -- y solves D(y) + f·y = g, then q = y·h solves a·D(q) + b·q = d·h²·g
  pub denominator_solution : (d h f g y : A) → G.add (D.derive y) (G.mul f y) ≡ g
      → G.add (G.mul (G.mul d h) (D.derive (G.mul y h))) (G.mul (sub G.ring (G.mul (G.mul d h) f) (G.mul d (D.derive h))) (G.mul y h)) ≡ G.mul (G.mul d (G.mul h h)) g
  denominator_solution d h f g y e = denominator_left_side d h f y ∙ ap (G.mul (G.mul d (G.mul h h))) e

  -- and the other way round
  pub solution_of_denominator : (d h f g y : A) → ¬ (d ≡ G.zero) → ¬ (h ≡ G.zero)
      → G.add (G.mul (G.mul d h) (D.derive (G.mul y h))) (G.mul (sub G.ring (G.mul (G.mul d h) f) (G.mul d (D.derive h))) (G.mul y h)) ≡ G.mul (G.mul d (G.mul h h)) g
      → G.add (D.derive y) (G.mul f y) ≡ g
  solution_of_denominator d h f g y nd nh e = FieldLaws.mul_left_cancel G (G.mul d (G.mul h h)) _ _ (FieldLaws.mul-nonzero G d (G.mul h h) nd (FieldLaws.mul-nonzero G h h nh nh))
      (sym (denominator_left_side d h f y) ∙ e)

  -- with D(x) = m·x: a·D(x·q) + b·(x·q) = x·(a·D(q) + (b + m·a)·q)
  pub shift_left_side : (a b m x q : A) → D.derive x ≡ G.mul m x
      → G.add (G.mul a (D.derive (G.mul x q))) (G.mul b (G.mul x q)) ≡ G.mul x (G.add (G.mul a (D.derive q)) (G.mul (G.add b (G.mul m a)) q))
  shift_left_side a b m x q e =
      ap (λ z. G.add (G.mul a z) (G.mul b (G.mul x q))) (D.derive-mul x q ∙ ap (λ z. G.add (G.mul z q) (G.mul x (D.derive q))) e)
      ∙ Identities.shift_equation G.ring a b m x q (D.derive q)

  -- x·q solves the equation for c, then q that for c' with c = x·c', and the other way round
  pub shift_solution : (a b m x q c' : A) → D.derive x ≡ G.mul m x → ¬ (x ≡ G.zero)
      → G.add (G.mul a (D.derive (G.mul x q))) (G.mul b (G.mul x q)) ≡ G.mul x c' → G.add (G.mul a (D.derive q)) (G.mul (G.add b (G.mul m a)) q) ≡ c'
  shift_solution a b m x q c' e n h = FieldLaws.mul_left_cancel G x _ _ n (sym (shift_left_side a b m x q e) ∙ h)

  -- and the other way round
  pub solution_of_shift : (a b m x q c' : A) → D.derive x ≡ G.mul m x
      → G.add (G.mul a (D.derive q)) (G.mul (G.add b (G.mul m a)) q) ≡ c' → G.add (G.mul a (D.derive (G.mul x q))) (G.mul b (G.mul x q)) ≡ G.mul x c'
  solution_of_shift a b m x q c' e h = shift_left_side a b m x q e ∙ ap (G.mul x) h

-- the fractions whose denominator divides M are closed under sums and multiples
module _ {A : Type 0} (F : Field A) where
  abbrev R : CommRing (Polynomial F)
  R = polynomials F

  abbrev K : Field (Fraction F)
  K = fractions F

  over : (f : Fraction F) (M : Polynomial F) (h : Divides F f.denominator M) → Represents F f (R.mul f.numerator h.cofactor) M
  over f M h = ap (R.mul f.numerator) h.equation ∙ sym (R.mul_assoc f.numerator h.cofactor f.denominator)

  -- den(f) | M and den(g) | M give den(f + g) | M
  pub denominator-add : (f g : Fraction F) (M : Polynomial F) → ¬ (M ≡ R.zero) → Divides F f.denominator M → Divides F g.denominator M → Divides F (K.add f g).denominator M
  denominator-add f g M n h k = Poles.denominator-divides F (K.add f g) (R.add (R.mul f.numerator h.cofactor) (R.mul g.numerator k.cofactor)) M
      (represents_same F (K.add f g) _ (R.mul M M) _ M (Degree.mul_polynomials-nonzero F M M n n)
      (represents-add F f g (R.mul f.numerator h.cofactor) M (R.mul g.numerator k.cofactor) M (over f M h) (over g M k))
      (Identities.common_denominator R (R.mul f.numerator h.cofactor) (R.mul g.numerator k.cofactor) M))

  -- den(f) | M gives den(c·f) | M for c in K
  pub denominator-multiple : (c : A) (f : Fraction F) (M : Polynomial F) → Divides F f.denominator M → Divides F (K.mul (of_polynomial F (constant F c)) f).denominator M
  denominator-multiple c f M h = Divides.divides_trans F (K.mul (of_polynomial F (constant F c)) f).denominator f.denominator M
      (Poles.denominator-divides F (K.mul (of_polynomial F (constant F c)) f) (R.mul (constant F c) f.numerator) f.denominator
      (subst (λ z. Represents F (K.mul (of_polynomial F (constant F c)) f) (R.mul (constant F c) f.numerator) z) (R.mul_comm R.one f.denominator ∙ R.mul-one f.denominator)
      (represents-mul F (of_polynomial F (constant F c)) f (constant F c) R.one f.numerator f.denominator (represents-polynomial F (constant F c)) refl))) h

  -- den(f) = 1 makes f a polynomial
  pub polynomial_of_denominator : (f : Fraction F) → f.denominator ≡ R.one → f ≡ of_polynomial F f.numerator
  polynomial_of_denominator f e = represents_unique F f (of_polynomial F f.numerator) f.numerator f.denominator f.numerator R.one
      (λ z. Degree.one-ne-zero F (sym e ∙ z)) (Degree.one-ne-zero F) refl (represents-polynomial F f.numerator) (ap (R.mul f.numerator) (sym e))

module _ {A : Type 0} (F : Field A) (char : HasCharacteristicZero F.ring) (D : Derivation F.ring) (η : A) where
  abbrev R' : CommRing (Polynomial F)
  R' = polynomials F

  abbrev K' : Field (Fraction F)
  K' = fractions F

  -- Dt = η
  module _ (sound : IsSoundPrimitive F D η) where
    abbrev E : Derivation R'
    E = Derivation.derivation F D (constant F η)

    -- y·h is a polynomial for each solution y
    pub reduced-primitive : (f g y : Fraction F) (e h S : Polynomial F) (sf : SplittingFactorization F E f.denominator)
        → ((p : Polynomial F) → IsIrreducible F p → IsMonic F p → Divides F p S → Divides F p (E.derive p)) → Divides F g.denominator (R'.mul e S)
        → IsWeaklyNormalized F E f → IsNormalDenominator F sf.normal e h → left_side F E f y ≡ g
        → (K'.mul y (of_polynomial F h)).denominator ≡ R'.one
    reduced-primitive f g y e h S sf special to_e weak is_denominator solution =
        SpecialDenominators.special_is_one F char D η sound (K'.mul y (of_polynomial F h)).denominator (K'.mul y (of_polynomial F h)).is_monic
        (NormalDenominator.special_denominator F char E f g y e h S sf special to_e weak is_denominator solution)

  -- Dt = η·t
  module _ (sound : IsSoundExponential F D η) where
    abbrev E' : Derivation R'
    E' = Derivation.derivation F D (R'.mul (constant F η) (variable F))

    -- the denominator of y·h is a power of t for each solution y
    pub reduced-exponential : (f g y : Fraction F) (e h S : Polynomial F) (sf : SplittingFactorization F E' f.denominator)
        → ((p : Polynomial F) → IsIrreducible F p → IsMonic F p → Divides F p S → Divides F p (E'.derive p)) → Divides F g.denominator (R'.mul e S)
        → IsWeaklyNormalized F E' f → IsNormalDenominator F sf.normal e h → left_side F E' f y ≡ g
        → (K'.mul y (of_polynomial F h)).denominator ≡ power R' (variable F) (degree F (K'.mul y (of_polynomial F h)).denominator)
    reduced-exponential f g y e h S sf special to_e weak is_denominator solution =
        SpecialDenominators.special_is_power F char D η sound (K'.mul y (of_polynomial F h)).denominator (K'.mul y (of_polynomial F h)).is_monic
        (NormalDenominator.special_denominator F char E' f g y e h S sf special to_e weak is_denominator solution)
