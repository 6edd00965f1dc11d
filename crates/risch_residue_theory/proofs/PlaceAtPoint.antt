-- The place z = α of K(z), for α in a field E above K: a fraction has the value p(α)/q(α) where q(α) ≠ 0, and a pole elsewhere.
-- Members of K[z][t], as lists of coefficients in K[z]: those whose coefficients have the gcd 1 have a value that is not 0 at every α.
use Rattle.std.specs.Prelude.{◌≡◌, ◌⊎◌}
use Rattle.std.proofs.Common.{sym, ap, ap₂, ◌∙◌, inl, inr}
use Rattle.risch_ring.specs.CommRing.{CommRing, Field, RingMap}
use Rattle.risch_ring.proofs.Laws as Laws
use Rattle.risch_univariate.specs.Polynomial.{Polynomial}
use Rattle.risch_univariate.specs.Division.{IsCoprime}
use Rattle.risch_ring.proofs.FieldLaws as FieldLaws
use Rattle.risch_univariate.proofs.Evaluation as Evaluation
use Rattle.risch_fraction_field.specs.Fraction.{Fraction, Represents, of_polynomial}
use Rattle.risch_residue_theory.proofs.Place.{Place, Some}
use Rattle.risch_univariate.specs.PolynomialRing.{polynomials}
use Rattle.risch_fraction_field.specs.Representation.{represents-add, represents-mul, represents-zero, represents-one, represents-inverse, numerator-zero}
use Rattle.risch_fraction_field.specs.FractionLaws.{represents_self, fraction-coprime, represents-polynomial}
use Rattle.risch_fraction_field.specs.FractionField.{fractions}

module _ {A C : Type 0} (F : Field A) (E : Field C) (f : RingMap F.ring E.ring) (α : C) where
  abbrev R : CommRing (Polynomial F)
  R = polynomials F

  -- p(α)
  abbrev pub at : Polynomial F → C
  at = Evaluation.value F E.ring f α

  at-one : at R.one ≡ E.one
  at-one = (Evaluation.evaluation F E.ring f α).apply-one

  -- coprime polynomials have no common root
  pub coprime-at : (p q : Polynomial F) → IsCoprime F p q → at p ≡ E.zero → at q ≡ E.zero → ⊥
  coprime-at p q c e h = E.one-ne-zero
      (sym at-one ∙ ap at (sym c.equation) ∙ Evaluation.value-add F E.ring f α _ _
      ∙ ap₂ E.add
      (Evaluation.value-mul F E.ring f α c.left p ∙ ap (E.mul (at c.left)) e ∙ Laws.mul-zero E.ring (at c.left))
      (Evaluation.value-mul F E.ring f α c.right q ∙ ap (E.mul (at c.right)) h ∙ Laws.mul-zero E.ring (at c.right))
      ∙ E.add-zero E.zero)

  -- x = p/q with q(α) ≠ 0 and p(α)/q(α) = e
  abbrev pub HasValueAt : Fraction F → C → Type 0
  HasValueAt x e = ¬ (at x.denominator ≡ E.zero) × (at x.numerator ≡ E.mul e (at x.denominator))

  -- it does not matter which p and q
  pub value_of_represents : (x : Fraction F) (p q : Polynomial F) (e : C) → Represents F x p q → ¬ (at q ≡ E.zero) → at p ≡ E.mul e (at q) → HasValueAt x e
  value_of_represents x p q e h n k = (
    λ z. coprime-at x.numerator x.denominator (fraction-coprime F x)
        (FieldLaws.zero_of_mul E (at q) (at x.numerator) n
        (E.mul_comm (at q) (at x.numerator) ∙ cross ∙ ap (E.mul (E.mul e (at q))) z ∙ Laws.mul-zero E.ring (E.mul e (at q))))
        z,
    FieldLaws.mul_left_cancel E (at q) (at x.numerator) (E.mul e (at x.denominator)) n
        (E.mul_comm (at q) (at x.numerator) ∙ cross ∙ E.mul_assoc e (at q) (at x.denominator) ∙ Laws.mul_left_comm E.ring e (at q) (at x.denominator)),
  )
    where
      cross : E.mul (at x.numerator) (at q) ≡ E.mul (E.mul e (at q)) (at x.denominator)
      cross =
          sym (Evaluation.value-mul F E.ring f α x.numerator q) ∙ ap at h ∙ Evaluation.value-mul F E.ring f α p x.denominator
          ∙ ap (λ z. E.mul z (at x.denominator)) k

  -- the value of a polynomial
  pub value_of_polynomial : (p : Polynomial F) → HasValueAt (of_polynomial F p) (at p)
  value_of_polynomial p = value_of_represents (of_polynomial F p) p R.one (at p) (represents-polynomial F p)
      (λ z. E.one-ne-zero (sym at-one ∙ z)) (sym (ap (E.mul (at p)) at-one ∙ E.mul-one (at p)))

  one-nonzero : ¬ (at R.one ≡ E.zero)
  one-nonzero z = E.one-ne-zero (sym at-one ∙ z)

  product-nonzero : (p q : Polynomial F) → ¬ (at p ≡ E.zero) → ¬ (at q ≡ E.zero) → ¬ (at (R.mul p q) ≡ E.zero)
  product-nonzero p q n m z = FieldLaws.mul-nonzero E (at p) (at q) n m (sym (Evaluation.value-mul F E.ring f α p q) ∙ z)

  value_or_pole_at : (x : Fraction F) → Some (HasValueAt x) ⊎ (¬ (x ≡ (fractions F).zero) × HasValueAt ((fractions F).inverse x) E.zero)
  value_or_pole_at x = go (E.is_zero (at x.denominator))
    where
      go : Dec (at x.denominator ≡ E.zero) → Some (HasValueAt x) ⊎ (¬ (x ≡ (fractions F).zero) × HasValueAt ((fractions F).inverse x) E.zero)
      go (no n) = inl (record {
        value = E.mul (at x.numerator) (E.inverse (at x.denominator));
        has_value = (
          n,
          sym (E.mul_assoc (at x.numerator) (E.inverse (at x.denominator)) (at x.denominator)
              ∙ ap (E.mul (at x.numerator)) (FieldLaws.inverse-mul E (at x.denominator) n) ∙ E.mul-one (at x.numerator)),
        );
      })
      go (yes z) =
          let numerator-nonzero : ¬ (at x.numerator ≡ E.zero) = λ e. coprime-at x.numerator x.denominator (fraction-coprime F x) e z in
          let nonzero : ¬ (x ≡ (fractions F).zero) = λ e. numerator-nonzero
          (ap (λ y. at y.numerator) e ∙ ap at (numerator-zero F) ∙ Evaluation.value-zero F E.ring f α) in
          inr (
            nonzero,
            value_of_represents ((fractions F).inverse x) x.denominator x.numerator E.zero
                (represents-inverse F x x.numerator x.denominator nonzero (represents_self F x)) numerator-nonzero
                (z ∙ sym (Laws.zero-mul E.ring (at x.numerator))),
          )

  -- the place z = α
  pub place_at : Place (fractions F) E
  place_at = record {
    HasValue = HasValueAt;
    value-zero = value_of_represents (fractions F).zero R.zero R.one E.zero (represents-zero F) one-nonzero
        (Evaluation.value-zero F E.ring f α ∙ sym (Laws.zero-mul E.ring (at R.one)));
    value-one = value_of_represents (fractions F).one R.one R.one E.one (represents-one F) one-nonzero (sym (Laws.one-mul E.ring (at R.one)));
    value-add = λ x y a b h k. value_of_represents ((fractions F).add x y) _ _ (E.add a b)
        (represents-add F x y x.numerator x.denominator y.numerator y.denominator (represents_self F x) (represents_self F y))
        (product-nonzero x.denominator y.denominator h.0 k.0)
        (Evaluation.value-add F E.ring f α _ _
        ∙ ap₂ E.add (Evaluation.value-mul F E.ring f α x.numerator y.denominator ∙ ap (λ z. E.mul z (at y.denominator)) h.1)
        (Evaluation.value-mul F E.ring f α y.numerator x.denominator ∙ ap (λ z. E.mul z (at x.denominator)) k.1)
        ∙ add_identity a b (at x.denominator) (at y.denominator)
        ∙ ap (E.mul (E.add a b)) (sym (Evaluation.value-mul F E.ring f α x.denominator y.denominator)));
    value-mul = λ x y a b h k. value_of_represents ((fractions F).mul x y) _ _ (E.mul a b)
        (represents-mul F x y x.numerator x.denominator y.numerator y.denominator (represents_self F x) (represents_self F y))
        (product-nonzero x.denominator y.denominator h.0 k.0)
        (Evaluation.value-mul F E.ring f α x.numerator y.numerator ∙ ap₂ E.mul h.1 k.1
        ∙ Laws.mul_exchange E.ring a (at x.denominator) b (at y.denominator)
        ∙ ap (E.mul (E.mul a b)) (sym (Evaluation.value-mul F E.ring f α x.denominator y.denominator)));
    value_unique = λ x a b h k. FieldLaws.mul_left_cancel E (at x.denominator) a b h.0
        (E.mul_comm (at x.denominator) a ∙ sym h.1 ∙ k.1 ∙ E.mul_comm b (at x.denominator));
    value_or_pole = value_or_pole_at;
  }
    where
      add_identity : (a b x y : C) → E.add (E.mul (E.mul a x) y) (E.mul (E.mul b y) x) ≡ E.mul (E.add a b) (E.mul x y)
      add_identity a b x y =
          ap₂ E.add (E.mul_assoc a x y) (E.mul_assoc b y x ∙ ap (E.mul b) (E.mul_comm y x)) ∙ sym (Laws.add-mul E.ring a b (E.mul x y))

  -- p in K(z) has the value p(α)
  pub polynomial_value : (p : Polynomial F) → place_at.HasValue (of_polynomial F p) (at p)
  unfolding place_at
  polynomial_value p = value_of_polynomial p
