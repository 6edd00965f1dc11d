-- Polynomials in x with other coefficients are other elements.
use Rattle.std.specs.Prelude.{◌&&◌, nat_eq}
use Rattle.std.specs.Ordering.{int_eq}
use Rattle.std.proofs.Common.{◌≡◌, Bool, true, false, List, [], ◌∷◌, pos, refl, sym, ap}
use Rattle.std.proofs.lemmas.Bool.{cond_both}
use Rattle.std.proofs.lemmas.Bool.Decides.{Decides-int_eq}
use Rattle.risch_frac.specs.Fraction.{Fraction}
use Rattle.risch_frac.specs.Fraction as fraction
use Rattle.risch_field.specs.Ground.{ground}
use Rattle.risch_polynomial.specs.Poly as poly
use Rattle.risch_level.specs.Levels.{element}
use Rattle.risch_element_theory.specs.WholeTower.{IsElement}
use Rattle.risch_element_theory.proofs.ElementLaws.{same-told}
use Rattle.risch_round.specs.Elements.{element_of}
use Rattle.risch_round.specs.AnswerMeaning.{AreOther}

-- ---- tests
first-true : (a b : Bool) → (a && b) ≡ true → a ≡ true
first-true true b h = refl
first-true false b h = cc

and-true : (a : Bool) → (a && true) ≡ false → a ≡ false
and-true true h = h
and-true false h = refl

both_ways : (b : Bool) → (b ≡ true → ⊥) → b ≡ false
both_ways true h = absurd (h refl)
both_ways false h = refl

-- a coefficient that ends a list is not 0
last-some : (c : Fraction) → poly.trimmed ground (c ∷ []) ≡ c ∷ [] → fraction.is_zero c ≡ false
last-some c t = cond_both (fraction.is_zero c) [] (c ∷ []) (λ p. p ≡ c ∷ [] → fraction.is_zero c ≡ false) (λ z e. cc) (λ z e. z) t

zero-left : (c : Fraction) → fraction.same ground.zero c ≡ true → fraction.is_zero c ≡ true
zero-left c h =
    let same : pos 0 ≡ c.num = (Decides-int_eq (pos 0) c.num).0 (first-true (int_eq (pos 0) c.num) (nat_eq 1 c.den) h) in
    (Decides-int_eq c.num (pos 0)).1 (sym same)

zero-right : (c : Fraction) → fraction.same c ground.zero ≡ true → fraction.is_zero c ≡ true
zero-right c h = first-true (int_eq c.num (pos 0)) (nat_eq c.den 1) h

contradicts : (b : Bool) → b ≡ true → b ≡ false → ⊥
contradicts b t f = cc

-- ---- elements
told : (p q : List Fraction) → poly.trimmed ground p ≡ p → poly.trimmed ground q ≡ q → poly.same ground p q ≡ false → element.same (element_of p) (element_of q) ≡ false
unfolding element element_of
told [] [] tp tq h = cc
told [] (c ∷ []) tp tq h = both_ways (fraction.same ground.zero c) (λ t. contradicts (fraction.is_zero c) (zero-left c t) (last-some c tq))
told [] (c ∷ (d ∷ q)) tp tq h = refl
told (c ∷ []) [] tp tq h = both_ways (fraction.same c ground.zero) (λ t. contradicts (fraction.is_zero c) (zero-right c t) (last-some c tp))
told (c ∷ []) (d ∷ []) tp tq h = and-true (fraction.same c d) h
told (c ∷ []) (d ∷ (e ∷ q)) tp tq h = refl
told (c ∷ (d ∷ p)) [] tp tq h = refl
told (c ∷ (d ∷ p)) (e ∷ []) tp tq h = refl
told (c ∷ (d ∷ p)) (e ∷ (f ∷ q)) tp tq h = ap (λ b. b && true) h

pub are-other : (p q : List Fraction) → IsElement (element_of p) → IsElement (element_of q) → poly.trimmed ground p ≡ p → poly.trimmed ground q ≡ q → poly.same ground p q ≡ false →
    AreOther (element_of p) (element_of q)
are-other p q v w tp tq h =
    let test = told p q tp tq h in
    (λ e. contradicts (element.same (element_of p) (element_of q)) ((same-told (element_of p) (element_of q) v w).1 e) test, test)
