-- The logarithms by residues of a/d as pairs of a polynomial R in K[z] and a polynomial S in t over K[z] (Bronstein, sections 2.5 and 5.6): S is d, or a member of the remainder sequence of d and b = a - z·D(d), where b is not made primitive,
-- divided by its content and made monic modulo R; and their derivatives.
use Rattle.std.specs.Prelude.{◌≡◌, ◌⊎◌, ℕ, suc, ◌≤◌, List, [], ◌∷◌, map, length}
use Rattle.risch_ring.specs.CommRing.{Field, Derivation, sub}
use Rattle.risch_ring.specs.Lists.{Each, Member}
use Rattle.risch_ring.specs.LogarithmicDerivative.{logarithmic_derivative}
use Rattle.risch_ring.specs.Sums.{sum_over}
use Rattle.risch_univariate.specs.Polynomial.{Polynomial, of_list, constant, variable, coefficient}
use Rattle.risch_univariate.specs.PolynomialRing.{polynomials}
use Rattle.risch_univariate.specs.Degree.{size}
use Rattle.risch_univariate.specs.Division.{Divides, IsCoprime}
use Rattle.risch_univariate.proofs.FormalDerivative.{coefficientwise}
use Rattle.risch_fraction_field.specs.Fraction.{Fraction, of_polynomial}
use Rattle.risch_fraction_field.specs.FractionField.{fractions}
use Rattle.risch_fraction_field.specs.DifferentialField.{constant_fraction}
use Rattle.risch_extension.specs.Trace.{trace}
use Rattle.risch_extension.specs.LinearFactors.{value_at, linear}
use Rattle.risch_residue_theory.specs.BivariatePolynomial.{lift, bivariate, coefficient_at, by_powers, content, residue_polynomial}
use Rattle.risch_residue_theory.specs.RemainderSequence.{IsRemainderSequence}
use Rattle.risch_residue_theory.specs.Logarithm.{∂}

module _ {A : Type 0} (F : Field A) where
  -- b is a - z·e, and ms are the members after b of a remainder sequence of d and b, down to a degree below n or to a member that divides the one before; each of ms is primitive
  pub record IsRuleSequence (n : ℕ) (d a e : Polynomial F) (b : List (Polynomial F)) (ms : List (List (Polynomial F))) : Type 0 where
    pub first : bivariate F b ≡ residue_polynomial F a e
    pub is_sequence : IsRemainderSequence (fractions F) n (lift F d) (residue_polynomial F a e) (map (bivariate F) ms)
    pub is_primitive : Each (λ m. content F m ≡ (polynomials F).one) ms

  -- the sum over the roots z of R of z·log S(z), where S is given by its coefficients in K[z]
  pub record RuleLogarithm : Type 0 where
    pub modulus : Polynomial F
    pub argument : List (Polynomial F)

  module _ (d : Polynomial F) (n : ℕ) (b : List (Polynomial F)) (ms : List (List (Polynomial F))) where
    -- i = deg d, and S is d
    pub record IsDenominator (i : ℕ) (S : List (Polynomial F)) : Type 0 where
      pub same_size : size F d ≡ suc i
      pub equation : (j : ℕ) → coefficient_at F S j ≡ constant F (coefficient F d j)

    -- i ≠ deg d and i ≥ n - 1, and S is modulo R the primitive part of a member of degree i of b, ms.. times the inverse of its leading coefficient
    pub record IsMonicPart (i : ℕ) (R : Polynomial F) (S : List (Polynomial F)) : Type 0 where
      pub other_size : ¬ (size F d ≡ suc i)
      pub wanted : n ≤ suc i
      pub member : List (Polynomial F)
      pub among : Member member (b ∷ ms)
      pub same_size : size (fractions F) (bivariate F member) ≡ suc i
      pub factor : Polynomial F
      pub factor-nonzero : ¬ (factor ≡ (polynomials F).zero)
      pub primitive : List (Polynomial F)
      pub equation : (j : ℕ) → coefficient_at F member j ≡ (polynomials F).mul factor (coefficient_at F primitive j)
      pub is_primitive : content F primitive ≡ (polynomials F).one
      pub inverse : Polynomial F
      pub inverse-equation : Divides F R (sub (polynomials F) ((polynomials F).mul inverse (coefficient_at F primitive i)) (polynomials F).one)
      pub congruent : (j : ℕ) → Divides F R (sub (polynomials F) (coefficient_at F S j) ((polynomials F).mul inverse (coefficient_at F primitive j)))
      pub same_length : length S ≡ suc i

    -- S is the argument for the square-free part R with number i
    abbrev pub IsRuleArgument : ℕ → Polynomial F → List (Polynomial F) → Type 0
    IsRuleArgument i R S = IsDenominator i S ⊎ IsMonicPart i R S

    -- each part R_i, R_(i+1), .. but 1 has its logarithm, in this order
    abbrev pub AreRuleLogarithms : ℕ → List (Polynomial F) → List RuleLogarithm → Type 0
    AreRuleLogarithms i [] [] = Unit
    AreRuleLogarithms i [] (l ∷ ls) = ⊥
    AreRuleLogarithms i (R ∷ Rs) [] = (R ≡ (polynomials F).one) × AreRuleLogarithms (suc i) Rs []
    AreRuleLogarithms i (R ∷ Rs) (l ∷ ls) =
        ((R ≡ (polynomials F).one) × AreRuleLogarithms (suc i) Rs (l ∷ ls))
        ⊎ ((¬ (R ≡ (polynomials F).one) × ((l.modulus ≡ R) × IsRuleArgument i R l.argument)) × AreRuleLogarithms (suc i) Rs ls)

  -- S(c) in K(t), for S in t over K[z] and c in K
  unfoldable pub at_point : A → List (Polynomial F) → Fraction F
  at_point c S = of_polynomial F (of_list F (map (value_at F c) S))

  module _ (D : Derivation F.ring) (w : Polynomial F) where
    -- S is invertible modulo R over K(t), and f is the derivative of the sum over the roots z of R of z·log S(z): the trace over K(t)[z]/(R) of z·D(S)·T for each T with T·S = 1 modulo R,
    -- and c·D(S(c))/S(c) where R = z - c, with S(c) ≠ 0
    pub record IsRuleDerivative (l : RuleLogarithm) (f : Fraction F) : Type 0 where
      pub invertible : IsCoprime (fractions F) (by_powers F l.argument) (lift F l.modulus)
      pub of_trace : (nonzero : ¬ (lift F l.modulus ≡ (polynomials (fractions F)).zero)) (T : Polynomial (fractions F))
          → Divides (fractions F) (lift F l.modulus) (sub (polynomials (fractions F)) ((polynomials (fractions F)).mul T (by_powers F l.argument)) (polynomials (fractions F)).one)
          → f ≡ trace (fractions F) (lift F l.modulus) nonzero
          ((polynomials (fractions F)).mul (variable (fractions F)) ((polynomials (fractions F)).mul (coefficientwise (fractions F) (∂ F D w) (by_powers F l.argument)) T))
      pub of_value : (c : A) → l.modulus ≡ linear F c
          → ¬ (at_point c l.argument ≡ (fractions F).zero)
          × (f ≡ (fractions F).mul ((constant_fraction F).apply c) (logarithmic_derivative (fractions F) (∂ F D w) (at_point c l.argument)))

    -- one derivative for each logarithm, in this order
    abbrev pub AreRuleDerivatives : List RuleLogarithm → List (Fraction F) → Type 0
    AreRuleDerivatives [] [] = Unit
    AreRuleDerivatives [] (f ∷ fs) = ⊥
    AreRuleDerivatives (l ∷ ls) [] = ⊥
    AreRuleDerivatives (l ∷ ls) (f ∷ fs) = IsRuleDerivative l f × AreRuleDerivatives ls fs

    -- the derivatives of the logarithms add up to h
    pub record HaveDerivative (ls : List RuleLogarithm) (h : Fraction F) : Type 0 where
      pub derivatives : List (Fraction F)
      pub are_derivatives : AreRuleDerivatives ls derivatives
      pub total : sum_over (fractions F).ring (λ f. f) derivatives ≡ h
