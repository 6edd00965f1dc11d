-- Residues as elements of K(t): for d = Π (t - x_i) with distinct x_i and α_i·D(d)(x_i) = a(x_i), deg a < deg d, it is
--   Σ α_i·D(t - x_i)/(t - x_i) = a/d where Dt = η is in K, and = a/d + η·Σ α_i where Dt = η·t.
use Rattle.std.specs.Prelude.{◌≡◌, ◌≤◌, List, [], ◌∷◌, length}
use Rattle.std.proofs.Common.{sym, ap, ap₂, ◌∙◌}
use Rattle.risch_ring.specs.CommRing.{CommRing, Field, Derivation, quotient}
use Rattle.risch_ring.specs.Sums.{sum_over}
use Rattle.risch_ring.proofs.Laws as Laws
use Rattle.risch_univariate.specs.Polynomial.{Polynomial, constant, variable}
use Rattle.risch_univariate.specs.Degree.{size}
use Rattle.risch_ring.proofs.FieldLaws as FieldLaws
use Rattle.risch_univariate.proofs.Derivation as Derivation
use Rattle.risch_fraction_field.specs.Fraction.{Fraction, of_polynomial}
use Rattle.risch_fraction_field.specs.FractionDerivation.{fraction_derivation-polynomial}
use Rattle.risch_extension.proofs.ResiduesAtRoots as ResiduesAtRoots
use Rattle.risch_univariate.specs.PolynomialRing.{polynomials}
use Rattle.risch_fraction_field.specs.Representation.{of_polynomial-mul, of_polynomial-add, of_polynomial-zero, of_polynomial-nonzero}
use Rattle.risch_fraction_field.specs.FractionField.{fractions}
use Rattle.risch_extension.specs.LinearFactors.{value_at, linear, product_of_linear}
use Rattle.risch_extension.proofs.LinearFactors.{linear-nonzero, product_of_linear-nonzero}
use Rattle.risch_ring.specs.Lists.{Distinct, Member, Each}
use Rattle.risch_extension.proofs.LagrangeInterpolation as Lagrange
use Rattle.risch_ring.proofs.Lists.{each-map}
use Rattle.risch_ring.specs.LogarithmicDerivative.{logarithmic_derivative}
use Rattle.risch_residue_theory.specs.Logarithm.{∂}

module _ {A : Type 0} (F : Field A) where
  abbrev R : CommRing (Polynomial F)
  R = polynomials F

  abbrev K : Field (Fraction F)
  K = fractions F

  module _ (D : Derivation F.ring) (w : Polynomial F) where
    -- α(x)·D(t - x)/(t - x)
    abbrev pub term : (A → A) → A → Fraction F
    term α x = (fractions F).mul (of_polynomial F (constant F (α x))) (logarithmic_derivative (fractions F) (∂ F D w) (of_polynomial F (linear F x)))

    one_term : (c l q dl d : Fraction F) → ¬ (l ≡ (fractions F).zero) → (fractions F).mul l q ≡ d
        → (fractions F).mul c ((fractions F).mul dl q) ≡ (fractions F).mul ((fractions F).mul c ((fractions F).mul dl ((fractions F).inverse l))) d
    one_term c l q dl d n e =
        ap (λ z. K.mul c (K.mul dl z)) (sym (FieldLaws.inverse-mul_cancel K l q n) ∙ ap (K.mul (K.inverse l)) e)
        ∙ sym (K.mul_assoc c (K.mul dl (K.inverse l)) d ∙ ap (K.mul c) (K.mul_assoc dl (K.inverse l) d))

    -- Σ α(x_i)·D(t - x_i)·q_i = (Σ α(x_i)·D(t - x_i)/(t - x_i))·d, where (t - x_i)·q_i = d
    sum_of_pairs : (α : A → A) (d : Polynomial F) (qs : List (A × Polynomial F)) → Each (λ q. (polynomials F).mul (linear F q.0) q.1 ≡ d) qs
        → of_polynomial F (ResiduesAtRoots.logarithmic_sum F D w α qs) ≡ (fractions F).mul (sum_over (fractions F).ring (term α) (Lagrange.keys F qs)) (of_polynomial F d)
    unfolding sum_over
    sum_of_pairs α d [] h = of_polynomial-zero F ∙ sym (Laws.zero-mul K.ring (of_polynomial F d))
    sum_of_pairs α d (q ∷ qs) h =
        of_polynomial-add F _ _
        ∙ ap₂ K.add
        (of_polynomial-mul F (constant F (α q.0)) _
        ∙ ap (K.mul (of_polynomial F (constant F (α q.0))))
        (of_polynomial-mul F _ q.1 ∙ ap (λ z. K.mul z (of_polynomial F q.1)) (sym (fraction_derivation-polynomial F (Derivation.derivation F D w) (linear F q.0))))
        ∙ one_term (of_polynomial F (constant F (α q.0))) (of_polynomial F (linear F q.0)) (of_polynomial F q.1) ((∂ F D w).derive (of_polynomial F (linear F q.0))) (of_polynomial F d)
        (of_polynomial-nonzero F (linear F q.0) (linear-nonzero F q.0)) (sym (of_polynomial-mul F (linear F q.0) q.1) ∙ ap (of_polynomial F) h.0))
        (sum_of_pairs α d qs h.1)
        ∙ sym (Laws.add-mul K.ring (term α q.0) (sum_over K.ring (term α) (Lagrange.keys F qs)) (of_polynomial F d))

    -- the same over the roots of d
    sum_of_roots : (α : A → A) (xs : List A) (b : Polynomial F) → ResiduesAtRoots.logarithmic_sum F D w α (Lagrange.cofactors F xs) ≡ b
        → sum_over (fractions F).ring (term α) xs ≡ quotient (fractions F) (of_polynomial F b) (of_polynomial F (product_of_linear F xs))
    sum_of_roots α xs b e = sym
        (ap (λ z. K.mul z (K.inverse d))
        (sym (ap (of_polynomial F) e)
        ∙ sum_of_pairs α (product_of_linear F xs) (Lagrange.cofactors F xs) (each-map (λ q h. h.1) (Lagrange.cofactors F xs) (Lagrange.cofactors-are_cofactors F xs))
        ∙ ap (λ ys. K.mul (sum_over K.ring (term α) ys) d) (Lagrange.keys-cofactors F xs))
        ∙ K.mul_assoc _ d (K.inverse d) ∙ ap (K.mul (sum_over K.ring (term α) xs)) (K.mul-inverse d (of_polynomial-nonzero F _ (product_of_linear-nonzero F xs)))
        ∙ K.mul-one (sum_over K.ring (term α) xs))
      where
        d : Fraction F
        d = of_polynomial F (product_of_linear F xs)

  -- Dt = η: Σ α_i·D(t - x_i)/(t - x_i) = a/d
  pub residue_sum-primitive : (D : Derivation F.ring) (η : A) (xs : List A) (a : Polynomial F) (α : A → A) → Distinct xs → size F a ≤ length xs
      → ((y : A) → Member y xs → F.mul (α y) (value_at F y (Derivation.derive_polynomial F D (constant F η) (product_of_linear F xs))) ≡ value_at F y a)
      → sum_over (fractions F).ring (term D (constant F η) α) xs ≡ quotient (fractions F) (of_polynomial F a) (of_polynomial F (product_of_linear F xs))
  residue_sum-primitive D η xs a α distinct l h =
      sum_of_roots D (constant F η) α xs a (sym (ResiduesAtRoots.residues-primitive F D η xs a α distinct l h))

  -- Dt = η·t: Σ α_i·D(t - x_i)/(t - x_i) = a/d + η·Σ α_i
  pub residue_sum-exponential : (D : Derivation F.ring) (η : A) (xs : List A) (a : Polynomial F) (α : A → A) → Distinct xs → size F a ≤ length xs
      → ((y : A) → Member y xs → F.mul (α y) (value_at F y (Derivation.derive_polynomial F D ((polynomials F).mul (constant F η) (variable F)) (product_of_linear F xs))) ≡ value_at F y a)
      → sum_over (fractions F).ring (term D ((polynomials F).mul (constant F η) (variable F)) α) xs
      ≡ (fractions F).add (quotient (fractions F) (of_polynomial F a) (of_polynomial F (product_of_linear F xs))) (of_polynomial F (constant F (F.mul η (sum_over F.ring α xs))))
  residue_sum-exponential D η xs a α distinct l h =
      sum_of_roots D (R.mul (constant F η) (variable F)) α xs _ (ResiduesAtRoots.residues-exponential F D η xs a α distinct l h)
      ∙ ap (λ z. K.mul z (K.inverse d)) (of_polynomial-add F _ a ∙ ap (λ z. K.add z (of_polynomial F a)) (of_polynomial-mul F _ (product_of_linear F xs)))
      ∙ Laws.add-mul K.ring _ (of_polynomial F a) (K.inverse d)
      ∙ K.add_comm _ _
      ∙ ap (K.add (K.mul (of_polynomial F a) (K.inverse d)))
      (K.mul_assoc c d (K.inverse d) ∙ ap (K.mul c) (K.mul-inverse d (of_polynomial-nonzero F _ (product_of_linear-nonzero F xs))) ∙ K.mul-one c)
    where
      d : Fraction F
      d = of_polynomial F (product_of_linear F xs)

      c : Fraction F
      c = of_polynomial F (constant F (F.mul η (sum_over F.ring α xs)))
