-- What the end of the reduction means: f = Dg + a/w with a = q·w + r gives f = Dg + r/w + q.
use Rattle.std.proofs.Common.{◌≡◌, ℕ, ◌+◌, ◌≤◌, ◌<◌, List, length, sym, ◌∙◌, ap, ap₂, subst, arith}
use Rattle.risch_ring.specs.CommRing.{CommRing}
use Rattle.risch_ring.proofs.FieldLaws as FieldLaws
use Rattle.risch_ring.proofs.Laws as Laws
use Rattle.risch_univariate.specs.Polynomial.{Polynomial}
use Rattle.risch_univariate.specs.PolynomialRing.{polynomials}
use Rattle.risch_univariate.specs.Degree.{size, IsMonic}
use Rattle.risch_univariate.specs.Division.{Divides}
use Rattle.risch_univariate.specs.SplittingFactorization.{IsNormal}
use Rattle.risch_univariate.proofs.Gcd as Gcd
use Rattle.risch_mean.specs.Element as mean
use Rattle.risch_mean.specs.Element.{variable, ◌+ₑ◌, ◌*ₑ◌, ◌/ₑ◌}
use Rattle.risch_mean.specs.ElementField.{elements}
use Rattle.risch_mean.specs.Tower.{derive_in}
use Rattle.risch_level.specs.Levels.{Element}
use Rattle.risch_element_theory.specs.WholeTower.{IsElement, IsPolynomial, meaning, polynomial, value_of, Within, AllWithin}
use Rattle.risch_element_theory.specs.ElementPolynomials.{◌*ₚ◌, ◌+ₚ◌, IsDivisionOf}
use Rattle.risch_element_theory.proofs.ElementsTranscendence as Transcendence
use Rattle.risch_element_theory.proofs.ElementWithin.{one-element-within}
use Rattle.risch_tower.specs.declared.level.Level.{Level}
use Rattle.risch_tower.specs.TowerMeaning.{monomials}
use Rattle.risch_monomial.specs.LevelDerivation.{level_derivation}
use Rattle.risch_monomial.specs.LevelElements.{at, one, numerator_at, denominator_at}
use Rattle.risch_monomial.proofs.LevelElements.{at-some}
use Rattle.risch_monomial.proofs.LevelPolynomials.{at-polynomial, Over, Over-polynomial}
use Rattle.risch_monomial.proofs.LowestTerms.{lowest-terms, lowest-proper, denominator-monic}
use Rattle.risch_monomial.proofs.MonicPolynomials.{monic-some, one-is_polynomial, one-stands}
use Rattle.risch_hermite.specs.declared.partial.Partial.{Partial}
use Rattle.risch_hermite.specs.HermiteMeaning.{IsReducedTo, IsHermiteReduction}
use Rattle.risch_hermite.proofs.NormalProducts.{normal-divisor}

abbrev R : CommRing (Polynomial elements)
R = polynomials elements

abbrev E : CommRing mean.Element
E = elements.ring

module _ (level : ℕ) (low : level ≤ 4) (w : List Element) (kw : IsPolynomial w) (ww : AllWithin level w) (monic : IsMonic elements (polynomial w)) where
  abbrev W : Polynomial elements
  W = polynomial w

  w_some : ¬ (at level W ≡ mean.zero)
  w_some = at-some level w low kw ww (monic-some w monic)

  over_w : Over level W
  over_w = Over-polynomial level w kw ww

  module _ (h : Element) (vh : IsElement h) (wh : Within (level + 1) h) (r : List Element) (kr : IsPolynomial r) (wr : AllWithin level r) (is : meaning h ≡ value_of r (variable level) /ₑ value_of w (variable level)) where
    -- h·w(t) = r(t)
    h-product : meaning h *ₑ at level W ≡ at level (polynomial r)
    h-product =
        let same = at-polynomial level w in
        ap₂ mean.mul is same ∙ FieldLaws.quotient-mul elements (value_of r (variable level)) (value_of w (variable level)) (λ z. w_some (same ∙ z)) ∙ sym (at-polynomial level r)

    h-divides : Divides elements (polynomial (denominator_at level h)) W
    h-divides = lowest-terms level h low vh wh (polynomial r) W (Over-polynomial level r kr wr) over_w h-product

    h-proper : size elements (polynomial r) < size elements W → length (numerator_at level h) < length (denominator_at level h)
    h-proper smaller = lowest-proper level h low vh wh (polynomial r) W (Over-polynomial level r kr wr) over_w h-product smaller

  -- the denominator of q(t) is 1
  rest-whole : (rest : Element) → IsElement rest → Within (level + 1) rest → (q : List Element) → IsPolynomial q → AllWithin level q → meaning rest ≡ at level (polynomial q) → polynomial (denominator_at level rest) ≡ R.one
  rest-whole rest v wi q kq wq is =
      let over_one = Over-polynomial level one one-is_polynomial (one-element-within level, tt) in
      let ratio = ap (λ p. meaning rest *ₑ at level p) one-stands ∙ ap (mean.mul (meaning rest)) (Transcendence.at-one elements (variable level)) ∙ E.mul-one (meaning rest) ∙ is in
      let d = polynomial (denominator_at level rest) in
      let divides = subst (Divides elements d) one-stands (lowest-terms level rest low v wi (polynomial q) (polynomial one) (Over-polynomial level q kq wq) over_one ratio) in
      let sized = Gcd.size_of_unit elements d divides in
      Gcd.one_of_monic elements d (denominator-monic level rest low v) (omega (arith, sized))

  -- a/w = r/w + q
  rest-sum : (x h rest : mean.Element) (a q r : Polynomial elements) → x *ₑ at level W ≡ at level a → a ≡ q *ₚ W +ₚ r → h *ₑ at level W ≡ at level r → rest ≡ at level q → x ≡ h +ₑ rest
  rest-sum x h rest a q r whole divided top quotient =
      FieldLaws.mul_left_cancel elements (at level W) x (h +ₑ rest) w_some
      (E.mul_comm (at level W) x ∙ whole ∙ ap (at level) divided ∙ Transcendence.at-add elements (variable level) (q *ₚ W) r
      ∙ ap₂ mean.add (Transcendence.at-mul elements (variable level) q W ∙ ap (λ y. y *ₑ at level W) (sym quotient)) (sym top)
      ∙ E.add_comm (rest *ₑ at level W) (h *ₑ at level W) ∙ sym (Laws.add-mul E h rest (at level W)) ∙ E.mul_comm (h +ₑ rest) (at level W))

  pub end-means : (q r : List Element) → IsPolynomial q → AllWithin level q → IsPolynomial r → AllWithin level r → (partial : Partial) → IsDivisionOf partial.numerator w (q, r) →
      (h rest : Element) → IsElement h → Within (level + 1) h → IsElement rest → Within (level + 1) rest → meaning h ≡ value_of r (variable level) /ₑ value_of w (variable level) → meaning rest ≡ at level (polynomial q) →
      (tower : List Level) (f : Element) → IsNormal elements (level_derivation (monomials tower) level) W → IsReducedTo tower level (meaning f) W partial →
      IsHermiteReduction tower level f (record { g = partial.sum; h = h; rest = rest })
  end-means q r kq wq kr wr partial division h rest vh wh vr wi is_h is_rest tower f normal reduced = record {
    sum =
        reduced.sum
        ∙ ap (mean.add (derive_in (monomials tower) (meaning partial.sum)))
        (rest-sum reduced.rest (meaning h) (meaning rest) (polynomial partial.numerator) (polynomial q) (polynomial r) reduced.product division.equation (h-product h vh wh r kr wr is_h) is_rest)
        ∙ sym (E.add_assoc (derive_in (monomials tower) (meaning partial.sum)) (meaning h) (meaning rest));
    normal = normal-divisor elements (level_derivation (monomials tower) level) (polynomial (denominator_at level h)) W (h-divides h vh wh r kr wr is_h) normal;
    proper = h-proper h vh wh r kr wr is_h division.smaller;
    rest_is_polynomial = rest-whole rest vr wi q kq wq is_rest;
  }
