-- The value of a rational function at an element x of a field L above K that is transcendental over K: p/q ↦ p(x)/q(x), an injective homomorphism K(t) → L. It commutes with derivations D of K(t) and E of L
-- where E extends D on K and E(x) is the value of Dt at x.
--     evaluation      the homomorphism.  represents-evaluation: f = p/q is mapped to p(x)/q(x).  evaluation-polynomial: p is mapped to p(x)
--     evaluation-injective, evaluation-derive
use Rattle.std.specs.Prelude.{◌≡◌, [], ◌∷◌}
use Rattle.std.proofs.Common.{refl, sym, ap, ap₂, ◌∙◌}
use Rattle.risch_ring.specs.CommRing.{CommRing, Field, RingMap, Derivation, quotient, sub}
use Rattle.risch_ring.proofs.RingMaps as RingMaps
use Rattle.risch_ring.proofs.FieldLaws as FieldLaws
use Rattle.risch_ring.proofs.Fields.{fractions as fraction_rules, field}
use Rattle.risch_ring.proofs.QuotientRule.{derive-quotient}
use Rattle.risch_univariate.specs.Polynomial.{Polynomial}
use Rattle.risch_univariate.specs.PolynomialRing.{polynomials}
use Rattle.risch_univariate.proofs.Degree as Degree
use Rattle.risch_univariate.proofs.Derivation as PolynomialDerivation
use Rattle.risch_univariate.proofs.Evaluation as Evaluation
use Rattle.risch_univariate.proofs.FormalDerivative as FormalDerivative
use Rattle.risch_fraction_field.specs.Fraction.{Fraction, Represents, of_polynomial, denominator-nonzero}
use Rattle.risch_fraction_field.specs.FractionField.{fractions}
use Rattle.risch_fraction_field.specs.FractionLaws.{represents-polynomial}
use Rattle.risch_fraction_field.specs.FractionDerivation.{fraction_derivation, quotient_numerator, represents-derive}
use Rattle.risch_fraction_field.specs.Representation.{represents-add, represents-mul, represents-one}
use Rattle.risch_extension.specs.Extension.{Extension}
use Rattle.risch_extension.proofs.Extensions.{derive-at}

module _ {B : Type 0} (G : Field B) where
  -- n·q = p·d gives p/q = n/d
  same_quotient : (n d p q : B) → ¬ (d ≡ G.zero) → ¬ (q ≡ G.zero) → G.mul n q ≡ G.mul p d → quotient G n d ≡ quotient G p q
  same_quotient n d p q nd nq e =
      FieldLaws.mul_left_cancel G (G.mul d q) (quotient G n d) (quotient G p q) (FieldLaws.mul-nonzero G d q nd nq)
      (left n d q nd ∙ e ∙ right p d q nq)
    where
      left : (n d q : B) → ¬ (d ≡ G.zero) → G.mul (G.mul d q) (quotient G n d) ≡ G.mul n q
      left n d q nd = field G (n ∷ d ∷ q ∷ []) (search fraction_rules depth 20 fits 9000) refl

      right : (p d q : B) → ¬ (q ≡ G.zero) → G.mul p d ≡ G.mul (G.mul d q) (quotient G p q)
      right p d q nq = field G (p ∷ d ∷ q ∷ []) (search fraction_rules depth 20 fits 9000) refl

  sum_quotient : (a b c d : B) → ¬ (b ≡ G.zero) → ¬ (d ≡ G.zero) → quotient G (G.add (G.mul a d) (G.mul c b)) (G.mul b d) ≡ G.add (quotient G a b) (quotient G c d)
  sum_quotient a b c d nb nd = field G (a ∷ b ∷ c ∷ d ∷ []) (search fraction_rules depth 20 fits 9000) refl

  product_quotient : (a b c d : B) → ¬ (b ≡ G.zero) → ¬ (d ≡ G.zero) → quotient G (G.mul a c) (G.mul b d) ≡ G.mul (quotient G a b) (quotient G c d)
  product_quotient a b c d nb nd = field G (a ∷ b ∷ c ∷ d ∷ []) (search fraction_rules depth 20 fits 9000) refl

-- p(x) ≠ 0 for p ≠ 0
abbrev pub IsTranscendentalOver : {A B : Type 0} (F : Field A) (G : Field B) → RingMap F.ring G.ring → B → Type 0
IsTranscendentalOver F G f x = (p : Polynomial F) → ¬ (p ≡ (polynomials F).zero) → ¬ (Evaluation.value F G.ring f x p ≡ G.zero)

module _ {A B : Type 0} (F : Field A) (G : Field B) (f : RingMap F.ring G.ring) (x : B) (transcendental : IsTranscendentalOver F G f x) where
  abbrev R : CommRing (Polynomial F)
  R = polynomials F

  -- p(x)
  abbrev v : Polynomial F → B
  v = Evaluation.value F G.ring f x

  abbrev value_mul : (p q : Polynomial F) → v (R.mul p q) ≡ G.mul (v p) (v q)
  value_mul = Evaluation.value-mul F G.ring f x

  abbrev value_add : (p q : Polynomial F) → v (R.add p q) ≡ G.add (v p) (v q)
  value_add = Evaluation.value-add F G.ring f x

  -- p(x)/q(x) for the numerator p and the denominator q
  fraction_value : Fraction F → B
  fraction_value r = quotient G (v r.numerator) (v r.denominator)

  -- r = p/q has the value p(x)/q(x)
  represents_value : (r : Fraction F) (p q : Polynomial F) → ¬ (q ≡ R.zero) → Represents F r p q → fraction_value r ≡ quotient G (v p) (v q)
  unfolding fraction_value
  represents_value r p q n h =
      same_quotient G (v r.numerator) (v r.denominator) (v p) (v q) (transcendental r.denominator (denominator-nonzero F r)) (transcendental q n)
      (sym (value_mul r.numerator q) ∙ ap v h ∙ value_mul p r.denominator)

  value-denominator : (r : Fraction F) → ¬ (v r.denominator ≡ G.zero)
  value-denominator r = transcendental r.denominator (denominator-nonzero F r)

  value-one : fraction_value (fractions F).one ≡ G.one
  value-one =
      represents_value (fractions F).one R.one R.one (Degree.one-ne-zero F) (represents-one F)
      ∙ ap₂ (quotient G) (Evaluation.value-one F G.ring f x) (Evaluation.value-one F G.ring f x) ∙ G.mul-inverse G.one G.one-ne-zero

  value-add : (r s : Fraction F) → fraction_value ((fractions F).add r s) ≡ G.add (fraction_value r) (fraction_value s)
  unfolding fraction_value
  value-add r s =
      represents_value ((fractions F).add r s) (R.add (R.mul r.numerator s.denominator) (R.mul s.numerator r.denominator)) (R.mul r.denominator s.denominator)
      (Degree.mul_polynomials-nonzero F r.denominator s.denominator (denominator-nonzero F r) (denominator-nonzero F s))
      (represents-add F r s r.numerator r.denominator s.numerator s.denominator refl refl)
      ∙ ap₂ (quotient G)
      (value_add (R.mul r.numerator s.denominator) (R.mul s.numerator r.denominator) ∙ ap₂ G.add (value_mul r.numerator s.denominator) (value_mul s.numerator r.denominator))
      (value_mul r.denominator s.denominator)
      ∙ sum_quotient G (v r.numerator) (v r.denominator) (v s.numerator) (v s.denominator) (value-denominator r) (value-denominator s)

  value-mul : (r s : Fraction F) → fraction_value ((fractions F).mul r s) ≡ G.mul (fraction_value r) (fraction_value s)
  unfolding fraction_value
  value-mul r s =
      represents_value ((fractions F).mul r s) (R.mul r.numerator s.numerator) (R.mul r.denominator s.denominator)
      (Degree.mul_polynomials-nonzero F r.denominator s.denominator (denominator-nonzero F r) (denominator-nonzero F s))
      (represents-mul F r s r.numerator r.denominator s.numerator s.denominator refl refl)
      ∙ ap₂ (quotient G) (value_mul r.numerator s.numerator) (value_mul r.denominator s.denominator)
      ∙ product_quotient G (v r.numerator) (v r.denominator) (v s.numerator) (v s.denominator) (value-denominator r) (value-denominator s)

  -- K(t) → L, p/q ↦ p(x)/q(x)
  pub evaluation : RingMap (fractions F).ring G.ring
  evaluation = record { apply = fraction_value; apply-one = value-one; apply-add = value-add; apply-mul = value-mul }

  -- r = p/q is mapped to p(x)/q(x)
  pub represents-evaluation : (r : Fraction F) (p q : Polynomial F) → ¬ (q ≡ (polynomials F).zero) → Represents F r p q
      → evaluation.apply r ≡ quotient G (Evaluation.value F G.ring f x p) (Evaluation.value F G.ring f x q)
  unfolding evaluation
  represents-evaluation = represents_value

  -- p is mapped to p(x)
  pub evaluation-polynomial : (p : Polynomial F) → evaluation.apply (of_polynomial F p) ≡ Evaluation.value F G.ring f x p
  evaluation-polynomial p =
      represents-evaluation (of_polynomial F p) p R.one (Degree.one-ne-zero F) (represents-polynomial F p)
      ∙ ap (quotient G (v p)) (Evaluation.value-one F G.ring f x) ∙ over_one (v p)
    where
      over_one : (y : B) → quotient G y G.one ≡ y
      over_one y = sym (G.mul-one (quotient G y G.one)) ∙ FieldLaws.quotient-mul G y G.one G.one-ne-zero

  -- it is injective
  pub evaluation-injective : (r s : Fraction F) → evaluation.apply r ≡ evaluation.apply s → r ≡ s
  evaluation-injective = RingMaps.apply-injective (fractions F) G evaluation

  module _ (D : Derivation F.ring) (E : Derivation G.ring) (extends : (a : A) → E.derive (f.apply a) ≡ f.apply (D.derive a)) (w : Polynomial F)
      (of_variable : E.derive x ≡ Evaluation.value F G.ring f x w) where
    abbrev D' : Polynomial F → Polynomial F
    D' = PolynomialDerivation.derive_polynomial F D w

    abbrev X : Extension F D
    X = record { carrier = B; field = G; derivation = E; map = f; map-derive = extends }

    -- E(p(x)) = (Dp)(x)
    pub derive-value : (p : Polynomial F) → E.derive (Evaluation.value F G.ring f x p) ≡ Evaluation.value F G.ring f x (PolynomialDerivation.derive_polynomial F D w p)
    derive-value p =
        derive-at F D X x p
        ∙ ap (G.add (v (FormalDerivative.coefficientwise F D p)))
        (ap (G.mul (v (FormalDerivative.formal_derivative F p))) of_variable ∙ G.mul_comm (v (FormalDerivative.formal_derivative F p)) (v w) ∙ sym (value_mul w (FormalDerivative.formal_derivative F p)))
        ∙ sym (value_add (FormalDerivative.coefficientwise F D p) (R.mul w (FormalDerivative.formal_derivative F p))) ∙ ap v (sym (FormalDerivative.derive_polynomial-split F D w p))

    -- the value of the numerator D(a)·b - a·D(b)
    value-quotient_numerator : (a b : Polynomial F) → v (quotient_numerator F (PolynomialDerivation.derivation F D w) a b)
        ≡ sub G.ring (G.mul (E.derive (v a)) (v b)) (G.mul (v a) (E.derive (v b)))
    value-quotient_numerator a b =
        RingMaps.apply-sub (Evaluation.evaluation F G.ring f x) (R.mul (D' a) b) (R.mul a (D' b))
        ∙ ap₂ (sub G.ring) (value_mul (D' a) b ∙ ap (λ y. G.mul y (v b)) (sym (derive-value a))) (value_mul a (D' b) ∙ ap (G.mul (v a)) (sym (derive-value b)))

    -- the value of the derivative is the derivative of the value
    pub evaluation-derive : (r : Fraction F) → evaluation.apply ((fraction_derivation F (PolynomialDerivation.derivation F D w)).derive r) ≡ E.derive (evaluation.apply r)
    evaluation-derive r =
        let a = r.numerator in
        let b = r.denominator in
        let n = denominator-nonzero F r in
        represents-evaluation ((fraction_derivation F (PolynomialDerivation.derivation F D w)).derive r) (quotient_numerator F (PolynomialDerivation.derivation F D w) a b) (R.mul b b)
        (Degree.mul_polynomials-nonzero F b b n n) (represents-derive F (PolynomialDerivation.derivation F D w) r a b refl)
        ∙ ap₂ (quotient G) (value-quotient_numerator a b) (value_mul b b)
        ∙ sym (ap E.derive (represents-evaluation r a b n refl) ∙ derive-quotient G E (v a) (v b) (transcendental b n))
