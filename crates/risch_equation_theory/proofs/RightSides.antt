-- Right sides over a common denominator w: a combination of them that is a polynomial P has the numerator P·w.
use Rattle.std.specs.Prelude.{◌≡◌, List, [], ◌∷◌, ◌<◌}
use Rattle.std.proofs.Common.{sym, ap, subst, ◌∙◌}
use Rattle.risch_ring.specs.CommRing.{CommRing, Field}
use Rattle.risch_ring.proofs.Laws as Laws
use Rattle.risch_univariate.specs.Polynomial.{Polynomial, constant}
use Rattle.risch_univariate.specs.Degree.{size}
use Rattle.risch_univariate.proofs.Degree as Degree
use Rattle.risch_fraction_field.specs.Fraction.{Fraction, Represents, of_polynomial, denominator-nonzero}
use Rattle.risch_equation_theory.proofs.Combinations as Combinations
use Rattle.risch_equation_theory.proofs.Identities as Identities
use Rattle.risch_univariate.specs.PolynomialRing.{polynomials}
use Rattle.risch_fraction_field.specs.Representation.{represents-add, represents-mul, represents-zero}
use Rattle.risch_fraction_field.specs.FractionLaws.{represents_same, represents-polynomial}
use Rattle.risch_fraction_field.specs.FractionField.{fractions}
use Rattle.risch_equation_theory.specs.Combination.{total}

module _ {A : Type 0} (F : Field A) where
  abbrev R : CommRing (Polynomial F)
  R = polynomials F

  abbrev K : Field (Fraction F)
  K = fractions F

  module _ {C : Type 0} where
    -- Σ κ_j·g(c_j) in K(t)
    pub total_fraction : (C → Fraction F) → List A → List C → Fraction F
    total_fraction g [] cs = K.zero
    total_fraction g (k ∷ ks) [] = K.zero
    total_fraction g (k ∷ ks) (c ∷ cs) = K.add (K.mul (of_polynomial F (constant F k)) (g c)) (total_fraction g ks cs)

    module _ (g : C → Fraction F) (x : C → Polynomial F) (w : Polynomial F) (nw : ¬ (w ≡ R.zero)) (over : (c : C) → Represents F (g c) (x c) w) where
      nothing : Represents F K.zero R.zero w
      nothing = represents_same F K.zero R.zero R.one R.zero w (Degree.one-ne-zero F) (represents-zero F) (Laws.zero-mul R w ∙ sym (Laws.zero-mul R R.one))

      one_w : ¬ (R.mul R.one w ≡ R.zero)
      one_w = Degree.mul_polynomials-nonzero F R.one w (Degree.one-ne-zero F) nw

      -- Σ κ_j·x_j/w
      pub represents-total : (ks : List A) (cs : List C) → Represents F (total_fraction g ks cs) (total F x ks cs) w
      unfolding total_fraction total
      represents-total [] cs = nothing
      represents-total (k ∷ ks) [] = nothing
      represents-total (k ∷ ks) (c ∷ cs) =
          represents_same F (K.add (K.mul (of_polynomial F (constant F k)) (g c)) (total_fraction g ks cs)) _ (R.mul (R.mul R.one w) w) _ w
          (Degree.mul_polynomials-nonzero F (R.mul R.one w) w one_w nw)
          (represents-add F (K.mul (of_polynomial F (constant F k)) (g c)) (total_fraction g ks cs) _ _ _ _
          (represents-mul F (of_polynomial F (constant F k)) (g c) (constant F k) R.one (x c) w (represents-polynomial F (constant F k)) (over c)) (represents-total ks cs))
          (Identities.total_identity R (constant F k) (x c) (total F x ks cs) w)

      -- the combination is the polynomial P: Σ κ_j·x_j = P·w
      pub numerator-total : (ks : List A) (cs : List C) (P : Polynomial F) → total_fraction g ks cs ≡ of_polynomial F P → total F x ks cs ≡ R.mul P w
      numerator-total ks cs P e = Degree.mul_polynomials_cancel F (of_polynomial F P).denominator (total F x ks cs) (R.mul P w) (denominator-nonzero F (of_polynomial F P))
          (R.mul_comm _ _ ∙ sym represented ∙ ap (λ z. R.mul z w) (sym (R.mul-one _) ∙ represents-polynomial F P ∙ R.mul_comm P _) ∙ R.mul_assoc _ P w)
        where
          represented : Represents F (of_polynomial F P) (total F x ks cs) w
          represented = subst (λ z. Represents F z (total F x ks cs) w) e (represents-total ks cs)

      -- with x_j = q_j·w + r_j, deg r_j < deg w: Σ κ_j·r_j = 0 and P = Σ κ_j·q_j
      pub polynomial_right-remainder : (q r : C → Polynomial F) → ((c : C) → x c ≡ R.add (R.mul (q c) w) (r c)) → ((c : C) → size F (r c) < size F w)
          → (ks : List A) (cs : List C) (P : Polynomial F) → total_fraction g ks cs ≡ of_polynomial F P → total F r ks cs ≡ R.zero
      polynomial_right-remainder q r division smaller ks cs P e = Combinations.remainder-zero F w nw x q r division smaller ks cs P (numerator-total ks cs P e)

      -- and P = Σ κ_j·q_j
      pub polynomial_right-quotient : (q r : C → Polynomial F) → ((c : C) → x c ≡ R.add (R.mul (q c) w) (r c)) → ((c : C) → size F (r c) < size F w)
          → (ks : List A) (cs : List C) (P : Polynomial F) → total_fraction g ks cs ≡ of_polynomial F P → P ≡ total F q ks cs
      polynomial_right-quotient q r division smaller ks cs P e = Combinations.quotient-total F w nw x q r division smaller ks cs P (numerator-total ks cs P e)
