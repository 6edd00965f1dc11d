-- What a step of the reduction means: f = Dg + a/(u·v^(j + 1)) gives f = D(g + b/v^j) + (-(j·c) - u·Db)/(u·v^j).
use Rattle.std.proofs.Common.{◌≡◌, ℕ, zero, suc, ◌+◌, ◌≤◌, ◌<◌, ◌^◌, List, [], ◌∷◌, ◌≢◌, lit<, pos, negsuc, ◌*ℤ◌, refl, sym, ◌∙◌, ap, ap₂, subst, arith}
use Rattle.risch_ring.specs.CommRing.{CommRing, power, of_nat, of_int}
use Rattle.risch_ring.proofs.Derivations as Derivations
use Rattle.risch_ring.proofs.Expression.{reading}
use Rattle.risch_ring.proofs.FieldLaws as FieldLaws
use Rattle.risch_ring.proofs.Laws as Laws
use Rattle.risch_ring.proofs.RingMaps as RingMaps
use Rattle.risch_ring.proofs.RingMaps.{identity_map}
use Rattle.risch_ring.proofs.Solver.{ring}
use Rattle.risch_univariate.specs.Polynomial.{Polynomial, constant}
use Rattle.risch_univariate.specs.PolynomialRing.{polynomials}
use Rattle.risch_univariate.specs.Division.{IsCoprime}
use Rattle.risch_univariate.specs.SplittingFactorization.{IsNormal}
use Rattle.risch_univariate.proofs.Evaluation as Evaluation
use Rattle.risch_univariate.proofs.Degree as Degree
use Rattle.risch_mean.specs.Element as mean
use Rattle.risch_mean.specs.Element.{variable, integer, ◌+ₑ◌, ◌*ₑ◌}
use Rattle.risch_mean.specs.ElementField.{elements}
use Rattle.risch_mean.specs.Tower.{derive_in}
use Rattle.risch_mean.proofs.IntegerLaws.{integer-is, integer-mul, integer-neg, integer-one, integer-ne-zero}
use Rattle.risch_frac.specs.Fraction.{Fraction, IsLowest, quotient}
use Rattle.risch_frac.proofs.Lowest.{quotient-is_lowest, quotient-value}
use Rattle.risch_level.specs.Levels.{Element}
use Rattle.risch_polynomial_theory.specs.FractionMeaning.{fraction_meaning}
use Rattle.risch_element_theory.specs.ElementPolynomials.{◌+ₚ◌, ◌*ₚ◌, negative, multiple}
use Rattle.risch_element_theory.specs.WholeTower.{meaning, polynomial}
use Rattle.risch_element_theory.proofs.ElementParts.{number-stands}
use Rattle.risch_element_theory.proofs.DerivationTower.{derivation_in}
use Rattle.risch_element_theory.proofs.ElementsTranscendence as Transcendence
use Rattle.risch_tower.specs.declared.level.Level.{Level}
use Rattle.risch_tower.specs.TowerMeaning.{monomials}
use Rattle.risch_monomial.specs.LevelDerivation.{IsLevelOf, level_derivation}
use Rattle.risch_monomial.specs.LevelElements.{at}
use Rattle.risch_monomial.proofs.LevelPolynomials.{derivative, at-derivative}
use Rattle.risch_hermite.specs.declared.partial.Partial.{Partial}
use Rattle.risch_hermite.specs.HermiteReduction.{negative_inverse}
use Rattle.risch_hermite.specs.HermiteMeaning.{IsNextSum, IsReducedTo, IsStepSolution}
use Rattle.risch_hermite.proofs.HermiteIdentity.{hermite_step-identity}
use Rattle.risch_hermite.proofs.NormalProducts.{coprime-mul_right}

abbrev R : CommRing (Polynomial elements)
R = polynomials elements

abbrev E : CommRing mean.Element
E = elements.ring

-- v and u·Dv are coprime for a normal v that is coprime with u
pub multiple-coprime : (tower : List Level) (level : ℕ) (u v m : Polynomial elements) → IsCoprime elements v u → IsNormal elements (level_derivation (monomials tower) level) v →
    m ≡ u *ₚ derivative tower level v → IsCoprime elements v m
multiple-coprime tower level u v m c n e = subst (IsCoprime elements v) (sym e) (coprime-mul_right elements v u (derivative tower level v) c n)

module _ (level : ℕ) where
  at-power : (p : Polynomial elements) (n : ℕ) → at level (power R p n) ≡ power E (at level p) n
  at-power p n = RingMaps.apply-power (Evaluation.evaluation elements elements.ring (identity_map elements.ring) (variable level)) p n

  at-times : (p q : Polynomial elements) → at level (p *ₚ q) ≡ at level p *ₑ at level q
  at-times p q = Transcendence.at-mul elements (variable level) p q

  at-multiple : (c : mean.Element) (p : Polynomial elements) → at level (multiple c p) ≡ c *ₑ at level p
  at-multiple c p = at-times (constant elements c) p ∙ ap (λ x. x *ₑ at level p) (Transcendence.at-constant elements (variable level) c)

module _ (tower : List Level) (level : ℕ) (l : IsLevelOf tower level) where
  abbrev D : mean.Element → mean.Element
  D = derive_in (monomials tower)

  -- the numerator that a step leaves
  abbrev pub next : ℕ → Polynomial elements → Polynomial elements → Polynomial elements → Polynomial elements
  next j u b c = negative (multiple (of_nat elements.ring j) c) +ₚ negative (u *ₚ derivative tower level b)

  at-next : (j : ℕ) (u b c : Polynomial elements) → at level (next j u b c) ≡ E.add (E.neg (of_nat E j *ₑ at level c)) (E.neg (at level u *ₑ D (at level b)))
  at-next j u b c =
      Transcendence.at-add elements (variable level) (negative (multiple (of_nat elements.ring j) c)) (negative (u *ₚ derivative tower level b))
      ∙ ap₂ E.add
      (Transcendence.at-neg elements (variable level) (multiple (of_nat elements.ring j) c) ∙ ap E.neg (at-multiple level (of_nat elements.ring j) c))
      (Transcendence.at-neg elements (variable level) (u *ₚ derivative tower level b)
      ∙ ap E.neg (at-times level u (derivative tower level b) ∙ ap (λ x. at level u *ₑ x) (at-derivative tower level b l)))

  -- with j = i + 1
  module _ (rest e : mean.Element) (a b c u v : Polynomial elements) (i : ℕ) where
    abbrev x : mean.Element
    x = at level v

    abbrev w : mean.Element
    w = power E (at level v) i

    at-part : (n : ℕ) → n ≡ suc i → at level (power R v n) ≡ x *ₑ w
    at-part n s = rw s (at-power level v (suc i) ∙ Laws.power-suc E x i)

    at-part-more : at level (power R v (suc i + 1)) ≡ x *ₑ (x *ₑ w)
    at-part-more =
        let more : suc i + 1 ≡ suc (suc i) = omega arith in
        ap (λ n. at level (power R v n)) more ∙ at-power level v (suc (suc i)) ∙ Laws.power-suc E x (suc i) ∙ ap (λ y. x *ₑ y) (Laws.power-suc E x i)

    pub step-product : ¬ (at level v ≡ mean.zero) → rest *ₑ at level (u *ₚ power R v (suc i + 1)) ≡ at level a → e *ₑ at level (power R v (suc i)) ≡ at level b →
        multiple (of_nat E (suc i)) (u *ₚ derivative tower level v *ₚ b +ₚ v *ₚ c) ≡ negative a →
        E.add rest (E.neg (D e)) *ₑ at level (u *ₚ power R v (suc i)) ≡ at level (next (suc i) u b c)
    step-product some whole piece solved =
        let j = of_nat E (suc i) in
        let x' = D (at level v) in
        let part = at-part (suc i) refl in
        let whole' : rest *ₑ (at level u *ₑ (x *ₑ (x *ₑ w))) ≡ at level a = ap (E.mul rest) (sym (at-times level u (power R v (suc i + 1)) ∙ ap (E.mul (at level u)) at-part-more)) ∙ whole in
        let piece' : e *ₑ (x *ₑ w) ≡ at level b = ap (E.mul e) (sym part) ∙ piece in
        let power' : D (x *ₑ w) ≡ j *ₑ w *ₑ x' = ap D (sym (Laws.power-suc E x i)) ∙ Derivations.derive-power (derivation_in (monomials tower)) x i in
        let derived : E.add (D e *ₑ (x *ₑ w)) (e *ₑ (j *ₑ w *ₑ x')) ≡ D (at level b) =
        ap (λ y. E.add (D e *ₑ (x *ₑ w)) (e *ₑ y)) (sym power') ∙ sym ((derivation_in (monomials tower)).derive-mul e (x *ₑ w)) ∙ ap D piece' in
        let solved' : j *ₑ E.add (at level u *ₑ x' *ₑ at level b) (x *ₑ at level c) ≡ E.neg (at level a) =
        ap (E.mul j) (sym (Transcendence.at-add elements (variable level) (u *ₚ derivative tower level v *ₚ b) (v *ₚ c)
        ∙ ap₂ E.add (at-times level (u *ₚ derivative tower level v) b ∙ ap (λ y. y *ₑ at level b) (at-times level u (derivative tower level v) ∙ ap (λ y. at level u *ₑ y) (at-derivative tower level v l))) (at-times level v c)))
        ∙ sym (at-multiple level j (u *ₚ derivative tower level v *ₚ b +ₚ v *ₚ c)) ∙ ap (at level) solved ∙ Transcendence.at-neg elements (variable level) a in
        ap (E.mul (E.add rest (E.neg (D e)))) (at-times level u (power R v (suc i)) ∙ ap (E.mul (at level u)) part)
        ∙ FieldLaws.mul_left_cancel elements x (E.add rest (E.neg (D e)) *ₑ (at level u *ₑ (x *ₑ w))) (E.add (E.neg (j *ₑ at level c)) (E.neg (at level u *ₑ D (at level b)))) some
        (hermite_step-identity E rest e (D e) (at level a) (at level b) (D (at level b)) (at level c) (at level u) x x' w j whole' piece' derived solved')
        ∙ sym (at-next (suc i) u b c)

-- D(g + e) + (r - De) = Dg + r
moved : (d e r : mean.Element) → d +ₑ r ≡ d +ₑ e +ₑ (r +ₑ mean.neg e)
moved d e r = ring elements.ring (d ∷ e ∷ r ∷ []) (search reading depth 30 fits 4000) refl

-- a step keeps f = Dg + a/w
pub step-reduces : (tower : List Level) (level : ℕ) (l : IsLevelOf tower level) (f : mean.Element) (u v : Polynomial elements) (j : ℕ) (b c : List Element) (before after : Partial) → 1 ≤ j → ¬ (at level v ≡ mean.zero) →
    IsStepSolution tower level u v j (polynomial before.numerator) (polynomial b) (polynomial c) → IsNextSum level v j before.sum after.sum b →
    polynomial after.numerator ≡ next tower level l j u (polynomial b) (polynomial c) →
    IsReducedTo tower level f (u *ₚ power R v (j + 1)) before → IsReducedTo tower level f (u *ₚ power R v j) after
step-reduces tower level l f u v zero b c before after positive some solved summed numerator h = absurd (omega arith)
step-reduces tower level l f u v (suc i) b c before after positive some solved summed numerator h =
    let d = derive_in (monomials tower) in
    record {
      rest = h.rest +ₑ mean.neg (d summed.piece);
      product = step-product tower level l h.rest summed.piece (polynomial before.numerator) (polynomial b) (polynomial c) u v i some h.product summed.product solved.equation ∙ sym (ap (at level) numerator);
      sum =
          h.sum ∙ moved (d (meaning before.sum)) (d summed.piece) h.rest
          ∙ ap (λ y. y +ₑ (h.rest +ₑ mean.neg (d summed.piece))) (sym ((derivation_in (monomials tower)).derive-add (meaning before.sum) summed.piece) ∙ ap d (sym summed.sum));
    }

-- ---- -1/j
-- j·k = -1 and p = k·a give j·p = -a
pub solved-equation : (j k : mean.Element) (a p : Polynomial elements) → k *ₑ j ≡ E.neg E.one → p ≡ multiple k a → multiple j p ≡ negative a
solved-equation j k a p inverse e =
    ap (multiple j) e ∙ sym (R.mul_assoc (constant elements j) (constant elements k) a)
    ∙ ap (λ q. R.mul q a) (sym (Degree.constant-mul elements j k) ∙ ap (constant elements) (E.mul_comm j k ∙ inverse) ∙ Degree.constant-neg elements E.one ∙ ap R.neg (Degree.constant-one elements))
    ∙ Laws.neg-mul R R.one a ∙ ap R.neg (Laws.one-mul R a)

nat-is : (n : ℕ) → of_int E (pos n) ≡ of_nat E n
unfolding of_int
nat-is n = refl

negative-inverse : (q : Fraction) (j : ℕ) → IsLowest q → q.num *ℤ pos j ≡ negsuc 0 *ℤ pos q.den → fraction_meaning q *ₑ of_nat E j ≡ E.neg E.one
negative-inverse q j lowest value =
    let den = integer (pos q.den) in
    let x = fraction_meaning q in
    let some = integer-ne-zero (pos q.den) (λ (e : pos q.den ≡ pos 0). let positive = lowest.positive in let same : q.den ≡ 0 = cc in omega (arith, positive, same)) in
    FieldLaws.mul_left_cancel elements den (x *ₑ of_nat E j) (E.neg E.one) some
    (Laws.mul_swap E den x (of_nat E j) ∙ ap (λ y. y *ₑ of_nat E j) (FieldLaws.quotient-mul elements (integer q.num) den some)
    ∙ ap (E.mul (integer q.num)) (sym (integer-is (pos j) ∙ nat-is j)) ∙ sym (integer-mul q.num (pos j)) ∙ ap integer value ∙ integer-mul (negsuc 0) (pos q.den)
    ∙ E.mul_comm (integer (negsuc 0)) den ∙ ap (E.mul den) (integer-neg (pos 1) ∙ ap E.neg integer-one))

-- (-1/j)·j = -1
pub negative_inverse-stands : (j : ℕ) → 1 ≤ j → j < 2 ^ 16 → meaning (negative_inverse j) *ₑ of_nat E j ≡ E.neg E.one
negative_inverse-stands j positive small =
    let other : pos j ≢ pos 0 = λ (e : pos j ≡ pos 0). let same : j ≡ 0 = cc in omega (arith, same, positive) in
    ap (λ x. x *ₑ of_nat E j) (number-stands (quotient (negsuc 0) (pos j)))
    ∙ negative-inverse (quotient (negsuc 0) (pos j)) j (quotient-is_lowest (negsuc 0) (pos j) other (lit< tt) (omega arith)) (quotient-value (negsuc 0) (pos j) other)
