-- The derivative of the sum over the roots z of R of z·log S(z), for R with constant coefficients and S invertible modulo R over K(t): it is the trace of z·D(S)·T for every inverse T of S modulo R, and c·D(S(c))/S(c) where R = z - c.
use Rattle.std.specs.Prelude.{◌≡◌, List, [], ◌∷◌}
use Rattle.std.proofs.Common.{refl, sym, ap, ap₂, ◌∙◌, inl}
use Rattle.risch_ring.specs.CommRing.{CommRing, Field, Derivation, RingMap}
use Rattle.risch_ring.specs.LogarithmicDerivative.{logarithmic_derivative}
use Rattle.risch_ring.specs.Sums.{sum_over}
use Rattle.risch_ring.proofs.Laws as Laws
use Rattle.risch_ring.proofs.RingMaps.{identity_map}
use Rattle.risch_univariate.specs.Polynomial.{Polynomial}
use Rattle.risch_univariate.specs.PolynomialRing.{polynomials}
use Rattle.risch_univariate.specs.Division.{IsCoprime}
use Rattle.risch_univariate.proofs.Evaluation as Evaluation
use Rattle.risch_univariate.proofs.FormalDerivative.{coefficientwise}
use Rattle.risch_univariate.proofs.Gcd as Gcd
use Rattle.risch_univariate.proofs.PolynomialInduction.{polynomial_induction}
use Rattle.risch_fraction_field.specs.Fraction.{Fraction, denominator-nonzero}
use Rattle.risch_fraction_field.specs.FractionField.{fractions}
use Rattle.risch_fraction_field.specs.FractionLaws.{represents_unique}
use Rattle.risch_fraction_field.specs.DifferentialField.{constant_fraction}
use Rattle.risch_extension.specs.PolynomialMap.{map_polynomial}
use Rattle.risch_extension.specs.LinearFactors.{linear, product_of_linear}
use Rattle.risch_extension.specs.Extension.{Extension}
use Rattle.risch_extension.proofs.PolynomialMaps.{map_polynomial-identity, map_polynomial-nonzero}
use Rattle.risch_extension.proofs.LinearFactors.{map_polynomial-linear, product_of_linear-nil, product_of_linear-cons}
use Rattle.risch_residue_theory.specs.BivariatePolynomial.{lift, by_powers}
use Rattle.risch_residue_theory.specs.Logarithm.{Logarithm, derivative, ∂}
use Rattle.risch_residue_theory.specs.RuleLogarithm.{RuleLogarithm, IsRuleDerivative, at_point}
use Rattle.risch_residue_theory.proofs.BivariatePolynomials.{values_at}
use Rattle.risch_residue_theory.proofs.FractionMap.{fraction_map, represents-map}
use Rattle.risch_residue_theory.proofs.LazardRiobooTrager.{value-by_powers}
use Rattle.risch_residue_theory.proofs.LogarithmicTrace.{trace-logarithm, inverse-at}
use Rattle.risch_residue_theory.proofs.LogarithmsDerivative.{lift-constant}
use Rattle.risch_residue_theory.proofs.TracesModulo.{trace-any_inverse}

-- values of polynomials under two homomorphisms that agree
value-same : {A B : Type 0} (F : Field A) (S : CommRing B) (f g : RingMap F.ring S) → ((x : A) → f.apply x ≡ g.apply x) → (y : B) (p : Polynomial F)
    → Evaluation.value F S f y p ≡ Evaluation.value F S g y p
value-same F S f g h y = polynomial_induction F (λ p. Evaluation.value F S f y p ≡ Evaluation.value F S g y p)
    (Evaluation.value-zero F S f y ∙ sym (Evaluation.value-zero F S g y))
    (λ a p ih. Evaluation.value-horner F S f y a p ∙ ap₂ (λ u v. S.add u (S.mul y v)) (h a) ih ∙ sym (Evaluation.value-horner F S g y a p))

-- K(t) → K(t) for the identity of K is the identity
fraction_map-identity : {A : Type 0} (F : Field A) (x : Fraction F) → (fraction_map F F (identity_map F.ring)).apply x ≡ x
fraction_map-identity F x = represents_unique F _ x _ _ _ _
    (map_polynomial-nonzero F F (identity_map F.ring) x.denominator (denominator-nonzero F x)) (denominator-nonzero F x)
    (represents-map F F (identity_map F.ring) x x.numerator x.denominator refl) refl
    (ap₂ (polynomials F).mul (map_polynomial-identity F x.numerator) (sym (map_polynomial-identity F x.denominator)))

-- the value of S, ordered by powers of z, at z = c
value-at_point : {A : Type 0} (F : Field A) (c : A) (S : List (Polynomial F))
    → Evaluation.value (fractions F) (fractions F).ring (identity_map (fractions F).ring) ((constant_fraction F).apply c) (by_powers F S) ≡ at_point F c S
unfolding at_point values_at
value-at_point F c S =
    sym (value-same (fractions F) (fractions F).ring (fraction_map F F (identity_map F.ring)) (identity_map (fractions F).ring) (fraction_map-identity F) ((constant_fraction F).apply c) (by_powers F S))
    ∙ value-by_powers F F (identity_map F.ring) c S

module _ {A : Type 0} (F : Field A) (D : Derivation F.ring) (w : Polynomial F) where
  -- the sum over the roots of R as a `Logarithm`
  abbrev pub logarithm_of : (l : RuleLogarithm F) → ¬ (l.modulus ≡ (polynomials F).zero) → coefficientwise F D l.modulus ≡ (polynomials F).zero
      → IsCoprime (fractions F) (by_powers F l.argument) (lift F l.modulus) → Logarithm F D w
  logarithm_of l n k c = record { polynomial = l.modulus; nonzero = n; is_constant = k; argument = by_powers F l.argument; invertible = c }

  -- K(t) as an extension of itself
  itself : Extension (fractions F) (∂ F D w)
  itself = record { carrier = Fraction F; field = fractions F; derivation = ∂ F D w; map = identity_map (fractions F).ring; map-derive = λ x. refl }

  -- at R = z - c
  module _ (l : RuleLogarithm F) (n : ¬ (l.modulus ≡ (polynomials F).zero)) (k : coefficientwise F D l.modulus ≡ (polynomials F).zero)
      (i : IsCoprime (fractions F) (by_powers F l.argument) (lift F l.modulus)) (c : A) (e : l.modulus ≡ linear F c) where
    abbrev K : Field (Fraction F)
    K = fractions F

    abbrev root : Fraction F
    root = (constant_fraction F).apply c

    splits : map_polynomial (fractions F) (fractions F) (identity_map (fractions F).ring) (lift F l.modulus) ≡ product_of_linear (fractions F) (root ∷ [])
    splits =
        map_polynomial-identity K (lift F l.modulus) ∙ ap (lift F) e ∙ map_polynomial-linear F K (constant_fraction F) c
        ∙ sym (product_of_linear-cons K root [] ∙ ap ((polynomials K).mul (linear K root)) (product_of_linear-nil K) ∙ (polynomials K).mul-one (linear K root))

    -- S(c) ≠ 0
    at_point-nonzero : ¬ (at_point F c l.argument ≡ (fractions F).zero)
    unfolding itself
    at_point-nonzero z = K.one-ne-zero
        (sym (inverse-at K (∂ F D w) itself (lift F l.modulus) (map_polynomial-nonzero F K (constant_fraction F) l.modulus n) (root ∷ []) splits (tt, tt) (by_powers F l.argument) i root (inl refl))
        ∙ ap (K.mul _) (value-at_point F c l.argument ∙ z) ∙ Laws.mul-zero K.ring _)

    -- the trace is c·D(S(c))/S(c)
    derivative-at_point : derivative F D w (logarithm_of l n k i) ≡ (fractions F).mul ((constant_fraction F).apply c) (logarithmic_derivative (fractions F) (∂ F D w) (at_point F c l.argument))
    unfolding derivative itself sum_over
    derivative-at_point =
        trace-logarithm K (∂ F D w) itself (lift F l.modulus) (map_polynomial-nonzero F K (constant_fraction F) l.modulus n) (root ∷ []) splits (tt, tt) (lift-constant F D w l.modulus k) (by_powers F l.argument) i
        ∙ K.add-zero _ ∙ ap (λ z. K.mul root (logarithmic_derivative K (∂ F D w) z)) (value-at_point F c l.argument)

  -- the derivative of the sum
  pub derivative-is : (l : RuleLogarithm F) (n : ¬ (l.modulus ≡ (polynomials F).zero)) (k : coefficientwise F D l.modulus ≡ (polynomials F).zero)
      (i : IsCoprime (fractions F) (by_powers F l.argument) (lift F l.modulus)) → IsRuleDerivative F D w l (derivative F D w (logarithm_of l n k i))
  unfolding derivative
  derivative-is l n k i = record {
    invertible = i;
    of_trace = λ m T h. trace-any_inverse (fractions F) (lift F l.modulus) _ m (by_powers F l.argument) (coefficientwise (fractions F) (∂ F D w) (by_powers F l.argument)) i.left T
        (Gcd.modular_inverse (fractions F) (by_powers F l.argument) (lift F l.modulus) i) h;
    of_value = λ c e. (at_point-nonzero l n k i c e, derivative-at_point l n k i c e);
  }
