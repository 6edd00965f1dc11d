-- Members of K[z][t] as lists of coefficients in K[z], with their content, and their values at z = α.
use Rattle.std.specs.Prelude.{◌≡◌, ℕ, zero, suc, List, [], ◌∷◌, get_or, map}
use Rattle.std.proofs.Common.{refl, sym, ap, ap₂, ◌∙◌}
use Rattle.risch_ring.specs.CommRing.{CommRing, Field, RingMap}
use Rattle.risch_ring.proofs.Laws as Laws
use Rattle.risch_univariate.specs.Polynomial.{Polynomial, coefficient, of_list}
use Rattle.risch_univariate.proofs.Gcd as Gcd
use Rattle.risch_univariate.proofs.Evaluation as Evaluation
use Rattle.risch_fraction_field.specs.Fraction.{of_polynomial}
use Rattle.risch_residue_theory.proofs.Place.{HasValues, move}
use Rattle.risch_residue_theory.proofs.PlaceAtPoint.{place_at, at, polynomial_value}
use Rattle.risch_univariate.specs.PolynomialRing.{polynomials}
use Rattle.risch_univariate.specs.PolynomialLaws.{coefficient-of_list}
use Rattle.risch_univariate.proofs.Coefficients.{coefficient-zero}
use Rattle.risch_fraction_field.specs.Representation.{of_polynomial-zero}
use Rattle.risch_fraction_field.specs.FractionField.{fractions}
use Rattle.risch_residue_theory.specs.BivariatePolynomial.{bivariate, coefficient_at, content}

pub map-get : {A B : Type 0} (f : A → B) (x : A) (y : B) → f x ≡ y → (xs : List A) (i : ℕ) → get_or (map f xs) i y ≡ f (get_or xs i x)
map-get f x y e [] i = sym e
map-get f x y e (z ∷ zs) zero = refl
map-get f x y e (z ∷ zs) (suc i) = map-get f x y e zs i

module _ {A : Type 0} (F : Field A) where
  abbrev R : CommRing (Polynomial F)
  R = polynomials F

  -- the coefficient of t^i is c_i
  pub coefficient-bivariate : (cs : List (Polynomial F)) (i : ℕ) → coefficient (fractions F) (bivariate F cs) i ≡ of_polynomial F (coefficient_at F cs i)
  unfolding bivariate
  coefficient-bivariate cs i = coefficient-of_list (fractions F) (map (of_polynomial F) cs) i ∙ map-get (of_polynomial F) R.zero (fractions F).zero (of_polynomial-zero F) cs i

  module _ {C : Type 0} (E : Field C) (f : RingMap F.ring E.ring) (α : C) where
    -- Σ c_i(α)·t^i
    unfoldable pub values_at : List (Polynomial F) → Polynomial E
    values_at cs = of_list E (map (at F E f α) cs)

    -- (Σ c_i(α)·t^i)_i = c_i(α)
    pub coefficient-values_at : (cs : List (Polynomial F)) (i : ℕ) → coefficient E (values_at cs) i ≡ at F E f α (coefficient_at F cs i)
    unfolding values_at
    coefficient-values_at cs i = coefficient-of_list E (map (at F E f α) cs) i ∙ map-get (at F E f α) R.zero E.zero (Evaluation.value-zero F E.ring f α) cs i

    -- the member has these values at the place z = α
    pub bivariate-has_values : (cs : List (Polynomial F)) → HasValues (fractions F) E (place_at F E f α) (bivariate F cs) (values_at cs)
    bivariate-has_values cs i = move (fractions F) E (place_at F E f α) _ _ _ _ (sym (coefficient-bivariate cs i)) (sym (coefficient-values_at cs i))
        (polynomial_value F E f α (coefficient_at F cs i))

    -- where all coefficients are 0, so is the content
    content-at : (cs : List (Polynomial F)) → ((i : ℕ) → at F E f α (coefficient_at F cs i) ≡ E.zero) → at F E f α (content F cs) ≡ E.zero
    unfolding content
    content-at [] h = Evaluation.value-zero F E.ring f α
    content-at (c ∷ cs) h =
        let b = Gcd.gcd-bezout F c (content F cs) in
        ap (at F E f α) b.equation ∙ Evaluation.value-add F E.ring f α _ _
        ∙ ap₂ E.add
        (Evaluation.value-mul F E.ring f α b.left c ∙ ap (E.mul (at F E f α b.left)) (h 0) ∙ Laws.mul-zero E.ring _)
        (Evaluation.value-mul F E.ring f α b.right (content F cs) ∙ ap (E.mul (at F E f α b.right)) (content-at cs (λ i. h (suc i))) ∙ Laws.mul-zero E.ring _)
        ∙ E.add-zero E.zero

    -- a primitive member has no α where it vanishes
    pub primitive-nonzero : (cs : List (Polynomial F)) → content F cs ≡ R.one → ¬ (values_at cs ≡ (polynomials E).zero)
    primitive-nonzero cs p z = E.one-ne-zero
        (sym (ap (at F E f α) p ∙ (Evaluation.evaluation F E.ring f α).apply-one)
        ∙ content-at cs (λ i. sym (coefficient-values_at cs i) ∙ ap (λ x. coefficient E x i) z ∙ coefficient-zero E i))
