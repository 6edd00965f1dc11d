-- The steps put together: the weak normalizer by the whole roots of the characteristic polynomial, and the denominator of each solution after it.
use Rattle.std.specs.Prelude.{◌≡◌, ℕ, suc, ◌⊎◌, List, ◌∷◌}
use Rattle.std.proofs.Common.{sym, ap, subst, ◌∙◌, inl, inr}
use Rattle.risch_ring.specs.CommRing.{CommRing, Field, Derivation, power, of_nat, sub, HasCharacteristicZero}
use Rattle.risch_ring.proofs.Laws as Laws
use Rattle.risch_univariate.specs.Polynomial.{Polynomial, constant, variable}
use Rattle.risch_univariate.specs.Degree.{degree, IsMonic}
use Rattle.risch_univariate.specs.Division.{Divides, IsCoprime, IsIrreducible}
use Rattle.risch_univariate.proofs.Divides as Divides
use Rattle.risch_univariate.proofs.Gcd as Gcd
use Rattle.risch_univariate.proofs.Derivation as Derivation
use Rattle.risch_univariate.proofs.Irreducible as Irreducible
use Rattle.risch_univariate.proofs.SplittingFactorization as SplittingFactorizations
use Rattle.risch_univariate.proofs.SquareFreeParts as SquareFreeParts
use Rattle.risch_fraction_field.specs.Fraction.{Fraction, of_polynomial}
use Rattle.risch_fraction_field.specs.FractionDerivation.{fraction_derivation}
use Rattle.risch_equation_theory.proofs.Poles as Poles
use Rattle.risch_equation_theory.proofs.ResidueRoots as ResidueRoots
use Rattle.risch_equation_theory.proofs.SimplePart as SimplePart
use Rattle.risch_equation_theory.proofs.Solutions as Solutions
use Rattle.risch_equation_theory.proofs.WeakNormalizer as WeakNormalizer
use Rattle.risch_ring.specs.Operators.{operators}
use Rattle.risch_univariate.specs.PolynomialRing.{polynomials}
use Rattle.risch_univariate.specs.SplittingFactorization.{SplittingFactorization}
use Rattle.risch_univariate.specs.SquareFreeParts.{product_of_powers, AreParts}
use Rattle.risch_fraction_field.specs.FractionField.{fractions}
use Rattle.risch_extension.specs.LinearFactors.{value_at}
use Rattle.risch_equation_theory.specs.Equation.{left_side}
use Rattle.risch_equation_theory.specs.WeakNormalization.{IsNormalPrime, IsWeaklyNormalized, normalized, weak_normalizer, IsOnce}
use Rattle.risch_equation_theory.specs.Constants.{IsSoundPrimitive, IsSoundExponential}
use Rattle.risch_equation_theory.specs.NormalDenominator.{IsNormalDenominator}
use Rattle.risch_equation_theory.specs.CharacteristicPolynomial.{IsCharacteristicPolynomial}

module _ {A : Type 0} (F : Field A) (char : HasCharacteristicZero F.ring) (D : Derivation (polynomials F)) where
  abbrev R : CommRing (Polynomial F)
  R = polynomials F

  open (operators R) use {𝟘, 𝟙, ◌+◌ as ◌+ₚ◌, ◌*◌}

  -- f without a normal pole is weakly normalized
  pub weakly_normalized_of_special : (f : Fraction F) → ((p : Polynomial F) → IsNormalPrime F D p → ¬ Divides F p f.denominator) → IsWeaklyNormalized F D f
  weakly_normalized_of_special f regular p np u v nv h i d =
      Irreducible.not_divides-mul F p _ _ np.irreducible (Poles.not_divides-of_nat F char p np.irreducible i) (Irreducible.not_divides-mul F p _ _ np.irreducible nv np.normal)
      (subst (Divides F p) (Laws.neg-neg R (of_nat R (suc i) * (v * D.derive p))) (Divides.divides-neg F p _ (Divides.divides_of_add F p u _ in_left d)))
    where
      in_left : Divides F p u
      in_left = go (Irreducible.irreducible-prime F p u f.denominator np.irreducible (subst (Divides F p) h (Divides.divides-mul_left F p f.numerator (p * v) (Divides.divides-mul_right F p v))))
        where
          go : Divides F p u ⊎ Divides F p f.denominator → Divides F p u
          go (inl x) = x
          go (inr x) = absurd (regular p np x)

  module _ (f : Fraction F) (x : SplittingFactorization F D f.denominator) (d1 : Polynomial F) (parts : List (Polynomial F)) (is_first : SquareFreeParts.square_free_parts F char x.normal ≡ d1 ∷ parts) where
    -- den(f)/d1
    abbrev pub rest : Polynomial F
    rest = SimplePart.others F char D f.denominator x d1 parts is_first * x.special

    -- the first part is normal
    pub first-normal : IsCoprime F d1 (D.derive d1)
    unfolding product_of_powers
    first-normal = SplittingFactorizations.normal_of_factors F char D d1 (Gcd.monic-nonzero F d1 are_parts.0) are_parts.1 (λ p i m h. from p i m h (SplittingFactorizations.normal_or_special F char D p i))
      where
        are_parts : AreParts F (d1 ∷ parts)
        are_parts = subst (AreParts F) is_first (SquareFreeParts.square_free_parts-are_parts F char x.normal x.normal_is_monic)

        from : (p : Polynomial F) → IsIrreducible F p → IsMonic F p → Divides F p d1 → IsCoprime F p (D.derive p) ⊎ Divides F p (D.derive p) → IsCoprime F p (D.derive p)
        from p i m h (inl c) = c
        from p i m h (inr s) = absurd (SplittingFactorizations.normal-not_special F char D p i (x.normal_factors p i m (Divides.divides_trans F p d1 x.normal h to_normal)) s)
          where
            to_normal : Divides F d1 x.normal
            to_normal = subst (Divides F d1) (sym whole) (Divides.divides-mul_right F d1 (product_of_powers F 2 parts))
              where
                whole : x.normal ≡ d1 * product_of_powers F 2 parts
                whole = SquareFreeParts.product-square_free_parts F char x.normal x.normal_is_monic ∙ ap (product_of_powers F 1) is_first ∙ ap (λ z. z * product_of_powers F 2 parts) (Laws.power-one R d1)

    -- with the whole roots i > 0 of the characteristic polynomial of ρ = α/D(d1) modulo d1, each once, f - D(q)/q is weakly normalized
    pub weakly_normalized_by_roots : (E : Derivation F.ring) (α z ρ C : Polynomial F) (solved : rest * α +ₚ d1 * z ≡ f.numerator)
        → Divides F d1 (sub R (ρ * D.derive d1) α) → IsCharacteristicPolynomial F E C ρ d1
        → (is : List ℕ) → ((i : ℕ) → value_at F (of_nat F.ring (suc i)) C ≡ F.zero
        → IsOnce (suc i) is)
        → IsWeaklyNormalized F D (normalized F D f (weak_normalizer F D d1 α is))
    weakly_normalized_by_roots E α z ρ C solved inverse is_characteristic is complete =
        WeakNormalizer.weakly_normalized F char D f d1 rest α z (SimplePart.simple_part F char D f.denominator x d1 parts is_first) solved is
        (λ i n. complete i (ResidueRoots.residue-is_root F char E C ρ d1 α (D.derive d1) (suc i)
        (WeakNormalizer.d1-nonzero F char D f d1 rest α z (SimplePart.simple_part F char D f.denominator x d1 parts is_first) solved) first-normal inverse n is_characteristic))

-- ---- y·q·h for each solution y, with the weak normalizer q

module _ {A : Type 0} (F : Field A) (char : HasCharacteristicZero F.ring) (D : Derivation F.ring) (η : A) where
  abbrev R' : CommRing (Polynomial F)
  R' = polynomials F

  abbrev K : Field (Fraction F)
  K = fractions F

  abbrev logarithmic : Derivation R'
  logarithmic = Derivation.derivation F D (constant F η)

  abbrev exponential : Derivation R'
  exponential = Derivation.derivation F D (R'.mul (constant F η) (variable F))

  -- Dt = η: y·q·h is a polynomial
  pub denominator-primitive : IsSoundPrimitive F D η → (f g y : Fraction F) (q e h S : Polynomial F) → ¬ (of_polynomial F q ≡ K.zero)
      → IsWeaklyNormalized F logarithmic (normalized F logarithmic f q)
      → (sf : SplittingFactorization F logarithmic (normalized F logarithmic f q).denominator)
      → IsNormalDenominator F sf.normal e h
      → ((p : Polynomial F) → IsIrreducible F p → IsMonic F p → Divides F p S → Divides F p (logarithmic.derive p)) → Divides F (K.mul (of_polynomial F q) g).denominator (R'.mul e S)
      → left_side F logarithmic f y ≡ g
      → (K.mul (K.mul (of_polynomial F q) y) (of_polynomial F h)).denominator ≡ R'.one
  denominator-primitive sound f g y q e h S nq weak sf is_denominator special to_e solution =
      Solutions.reduced-primitive F char D η sound (normalized F logarithmic f q) (K.mul (of_polynomial F q) g) (K.mul (of_polynomial F q) y) e h S sf special to_e weak is_denominator
      (WeakNormalizer.normalized_solution K (fraction_derivation F logarithmic) (of_polynomial F q) f g y nq solution)

  -- Dt = η·t: the denominator of y·q·h is a power of t
  pub denominator-exponential : IsSoundExponential F D η → (f g y : Fraction F) (q e h S : Polynomial F) → ¬ (of_polynomial F q ≡ K.zero)
      → IsWeaklyNormalized F exponential (normalized F exponential f q)
      → (sf : SplittingFactorization F exponential (normalized F exponential f q).denominator)
      → IsNormalDenominator F sf.normal e h
      → ((p : Polynomial F) → IsIrreducible F p → IsMonic F p → Divides F p S → Divides F p (exponential.derive p)) → Divides F (K.mul (of_polynomial F q) g).denominator (R'.mul e S)
      → left_side F exponential f y ≡ g
      → (K.mul (K.mul (of_polynomial F q) y) (of_polynomial F h)).denominator
      ≡ power R' (variable F) (degree F (K.mul (K.mul (of_polynomial F q) y) (of_polynomial F h)).denominator)
  denominator-exponential sound f g y q e h S nq weak sf is_denominator special to_e solution =
      Solutions.reduced-exponential F char D η sound (normalized F exponential f q) (K.mul (of_polynomial F q) g) (K.mul (of_polynomial F q) y) e h S sf special to_e weak is_denominator
      (WeakNormalizer.normalized_solution K (fraction_derivation F exponential) (of_polynomial F q) f g y nq solution)
