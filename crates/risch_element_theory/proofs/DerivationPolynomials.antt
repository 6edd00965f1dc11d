-- The rule of the derivation gives the derivatives of polynomials.
--     derive_polynomial-polynomial      what is formed is a polynomial within the limits
--     derive_polynomial-means      its value at t is D(p(t))
use Rattle.std.specs.Prelude.{if◌then◌else◌}
use Rattle.std.proofs.Common.{◌≡◌, ℕ, suc, ◌+◌, ◌^◌, ◌<◌, Bool, true, false, List, [], ◌∷◌, ◌++◌, length, drop, Ok, refl, sym, ◌∙◌, ap, ap₂, arith, append_assoc, append-nil, subst}
use Rattle.risch_ring.specs.CommRing.{CommRing, Derivation, of_nat}
use Rattle.risch_ring.proofs.Laws as Laws
use Rattle.risch_ring.proofs.Derivations as Derivations
use Rattle.risch_ring.proofs.Expression.{reading}
use Rattle.risch_ring.proofs.Solver.{ring}
use Rattle.risch_field.specs.Checked.{Checked, and_then}
use Rattle.risch_field.specs.Ops.{Ops}
use Rattle.risch_polynomial.specs.Poly as poly
use Rattle.risch_polynomial.specs.Polynomial.{IsPolynomial}
use Rattle.risch_polynomial_theory.specs.Meaning.{Interprets, AllValid, value}
use Rattle.risch_field.proofs.CheckedSteps.{and_then-ok}
use Rattle.risch_polynomial_theory.proofs.PolynomialShapes as Shapes
use Rattle.risch_polynomial_theory.proofs.PolynomialValues as Values
use Rattle.risch_derivation.specs.Derivation as rules
use Rattle.risch_derivation.specs.declared.rate.Kind.{Kind}
use Rattle.risch_derivation.specs.declared.rate.Kind.TheVariants.{Primitive, Exponential}
use Rattle.risch_derivation.specs.declared.rate.Rate.{Rate}
use Rattle.risch_element_theory.specs.DerivationMeaning.{HasRate, Derives, IsRate}

pub derive_polynomial-polynomial : {E : Type 0} (o : Ops E) (rule : E → Checked E) (rate : Rate E) (p r : List E) → rules.derive_polynomial o rule rate p ≡ Ok r → IsPolynomial o r (poly.weight o r)
unfolding rules.derive_polynomial
derive_polynomial-polynomial o rule rate p r e =
    let s = and_then-ok (rules.derivatives_onto o rule rate [] 0 p) (λ s. poly.sized o (poly.trimmed o s)) r e in
    Shapes.formed-polynomial o s.value r s.next

-- the coefficients of r are valid, and r(t) = v
pub record Gives {E A : Type 0} (valid : E → Type 0) (value : List E → A) (r : List E) (v : A) : Type 0 where
  pub all_valid : AllValid valid r
  pub value_is : value r ≡ v

-- r is what is formed so far, and then valid coefficients with this value
record Extends {E A : Type 0} (valid : E → Type 0) (value : List E → A) (formed r : List E) (v : A) : Type 0 where
  rest : List E
  is : r ≡ formed ++ rest
  all : AllValid valid rest
  means : value rest ≡ v

-- e is valid, and ⟦e⟧ = v
record Stands {E A : Type 0} (valid : E → Type 0) (meaning : E → A) (e : E) (v : A) : Type 0 where
  is_valid : valid e
  means : meaning e ≡ v

module _ {E A : Type 0} {o : Ops E} {R : CommRing A} {valid : E → Type 0} {meaning : E → A} (h : Interprets o R valid meaning)
    {D : Derivation R} {rule : E → Checked E} (derives : Derives D valid meaning rule) {rate : Rate E} {t : A} (is_rate : IsRate D valid meaning rate t) where
  open R use {zero as 𝟘, one as 𝟙, add as ◌⊕◌, mul as ◌⊗◌, neg as ⊖◌}

  infixl 60 ◌⊕◌
  infixl 70 ◌⊗◌
  infix 80 ⊖◌
  -- p(t)
  abbrev at : List E → A
  at p = value R meaning t p

  -- ⟦η⟧
  abbrev η : A
  η = meaning rate.eta

  -- ---- one coefficient
  -- (n·η)·c
  multiple-stands : (n : ℕ) (c d : E) → n < 2 ^ 16 → valid c → poly.multiple o n c ≡ Ok d → Stands valid meaning d (of_nat R n ⊗ meaning c)
  multiple-stands n c d within v e = by_zero (o.is_zero c) refl e
    where
      by_zero : (z : Bool) → o.is_zero c ≡ z → (if z then Ok o.zero else o.product (o.whole n) c) ≡ Ok d → Stands valid meaning d (of_nat R n ⊗ meaning c)
      by_zero true z e =
          let is : o.zero ≡ d = cc in
          record { is_valid = subst valid is h.zero-valid; means = ap meaning (sym is) ∙ h.zero-means ∙ sym (ap (λ m. of_nat R n ⊗ m) (h.zero_is c v z) ∙ Laws.mul-zero R (of_nat R n)) }
      by_zero false z e = record {
        is_valid = h.product-valid (o.whole n) c d (h.whole-valid n within) v e;
        means = h.product-means (o.whole n) c d (h.whole-valid n within) v e ∙ ap (λ m. m ⊗ meaning c) (h.whole-means n within);
      }

  times_rate-stands : (n : ℕ) (c d : E) → n < 2 ^ 16 → valid c → rules.times_rate o rate n c ≡ Ok d → Stands valid meaning d (of_nat R n ⊗ η ⊗ meaning c)
  times_rate-stands n c d within v e = by_zero (o.is_zero c) refl e
    where
      by_zero : (z : Bool) → o.is_zero c ≡ z → (if z then Ok o.zero else and_then (poly.multiple o n rate.eta) (λ m. o.product m c)) ≡ Ok d → Stands valid meaning d (of_nat R n ⊗ η ⊗ meaning c)
      by_zero true z e =
          let is : o.zero ≡ d = cc in
          record { is_valid = subst valid is h.zero-valid; means = ap meaning (sym is) ∙ h.zero-means ∙ sym (ap (λ m. of_nat R n ⊗ η ⊗ m) (h.zero_is c v z) ∙ Laws.mul-zero R (of_nat R n ⊗ η)) }
      by_zero false z e =
          let m = and_then-ok (poly.multiple o n rate.eta) (λ m. o.product m c) d e in
          let s = multiple-stands n rate.eta m.value within is_rate.rate-valid m.is in
          record {
            is_valid = h.product-valid m.value c d s.is_valid v m.next;
            means = h.product-means m.value c d s.is_valid v m.next ∙ ap (λ m. m ⊗ meaning c) s.means;
          }

  -- what the variable adds at exponent j
  abbrev term : Kind → ℕ → E → List E → A
  term Primitive j c after = of_nat R (j + 1) ⊗ η ⊗ meaning (poly.coefficient o after 0)
  term Exponential j c after = of_nat R j ⊗ η ⊗ meaning c

  variable_term-stands : (k : Kind) (j : ℕ) (c : E) (after : List E) (d : E) → j + 1 < 2 ^ 16 → valid c → AllValid valid after → rules.variable_term o rate k j c after ≡ Ok d →
      Stands valid meaning d (term k j c after)
  variable_term-stands Primitive j c after d within v all e = times_rate-stands (j + 1) (poly.coefficient o after 0) d within (Values.coefficient-valid h after 0 all) e
  variable_term-stands Exponential j c after d within v all e = times_rate-stands j c d (omega arith) v e

  coefficient-stands : (j : ℕ) (c : E) (after : List E) (s : E) → j + 1 < 2 ^ 16 → valid c → AllValid valid after → rules.coefficient_derivative o rule rate j c after ≡ Ok s →
      Stands valid meaning s (D.derive (meaning c) ⊕ term rate.kind j c after)
  coefficient-stands j c after s within v all e =
      let d = and_then-ok (rule c) (λ d. and_then (rules.variable_term o rate rate.kind j c after) (λ f. o.sum d f)) s e in
      let f = and_then-ok (rules.variable_term o rate rate.kind j c after) (λ f. o.sum d.value f) s d.next in
      let added = variable_term-stands rate.kind j c after f.value within v all f.is in
      let derived = derives.derived-valid c d.value v d.is in
      record {
        is_valid = h.sum-valid d.value f.value s derived added.is_valid f.next;
        means = h.sum-means d.value f.value s derived added.is_valid f.next ∙ ap₂ R.add (derives.derived-means c d.value v d.is) added.means;
      }

  -- ---- the coefficients from exponent j on
  -- how far their value is from the derivative of p(t)
  abbrev excess : Kind → ℕ → List E → A
  excess Primitive j p = of_nat R j ⊗ η ⊗ at (drop 1 p)
  excess Exponential j p = of_nat R j ⊗ η ⊗ at p

  -- p(t) = p_0 + t·(p_1 + p_2·t + ..)
  at-split : (p : List E) → at p ≡ meaning (poly.coefficient o p 0) ⊕ t ⊗ at (drop 1 p)
  at-split [] = nothing t ∙ ap (λ m. m ⊕ t ⊗ 𝟘) (sym h.zero-means)
    where
      nothing : (t : A) → 𝟘 ≡ 𝟘 ⊕ t ⊗ 𝟘
      nothing t = ring R (t ∷ []) (search reading depth 20) refl
  at-split (c ∷ p) = refl

  of_nat-next : (j : ℕ) → of_nat R (j + 1) ≡ 𝟙 ⊕ of_nat R j
  of_nat-next j = let next : j + 1 ≡ suc j = omega arith in ap (of_nat R) next ∙ Laws.of_nat-suc R j

  nothing : (n e : A) → 𝟘 ≡ 𝟘 ⊕ n ⊗ e ⊗ 𝟘
  nothing n e = ring R (n ∷ e ∷ []) (search reading depth 20) refl

  none : (a e v : A) → a ⊕ 𝟘 ⊗ e ⊗ v ≡ a
  none a e v = ring R (a ∷ e ∷ v ∷ []) (search reading depth 20) refl

  derive-cons : (c : E) (p : List E) → D.derive (at (c ∷ p)) ≡ D.derive (meaning c) ⊕ (D.derive t ⊗ at p ⊕ t ⊗ D.derive (at p))
  derive-cons c p = D.derive-add (meaning c) (t ⊗ at p) ∙ ap (λ d. D.derive (meaning c) ⊕ d) (D.derive-mul t (at p))

  -- one exponent more
  excess-next : (k : Kind) → HasRate D k η t → (j : ℕ) (c : E) (p : List E) →
      D.derive (meaning c) ⊕ term k j c p ⊕ t ⊗ (D.derive (at p) ⊕ excess k (j + 1) p) ≡ D.derive (at (c ∷ p)) ⊕ excess k j (c ∷ p)
  excess-next Primitive has j c p =
      ap (λ n. D.derive (meaning c) ⊕ n ⊗ η ⊗ meaning (poly.coefficient o p 0) ⊕ t ⊗ (D.derive (at p) ⊕ n ⊗ η ⊗ at (drop 1 p))) (of_nat-next j)
      ∙ collect (D.derive (meaning c)) (of_nat R j) η (meaning (poly.coefficient o p 0)) (at (drop 1 p)) t (D.derive (at p))
      ∙ ap (λ v. D.derive (meaning c) ⊕ (η ⊗ v ⊕ t ⊗ D.derive (at p)) ⊕ of_nat R j ⊗ η ⊗ v) (sym (at-split p))
      ∙ ap (λ v. v ⊕ of_nat R j ⊗ η ⊗ at p) (sym (derive-cons c p ∙ ap (λ d. D.derive (meaning c) ⊕ (d ⊗ at p ⊕ t ⊗ D.derive (at p))) has))
    where
      collect : (a n e x y t w : A) → a ⊕ (𝟙 ⊕ n) ⊗ e ⊗ x ⊕ t ⊗ (w ⊕ (𝟙 ⊕ n) ⊗ e ⊗ y) ≡ a ⊕ (e ⊗ (x ⊕ t ⊗ y) ⊕ t ⊗ w) ⊕ n ⊗ e ⊗ (x ⊕ t ⊗ y)
      collect a n e x y t w = ring R (a ∷ n ∷ e ∷ x ∷ y ∷ t ∷ w ∷ []) (search reading depth 40 fits 8000) refl
  excess-next Exponential has j c p =
      ap (λ n. D.derive (meaning c) ⊕ of_nat R j ⊗ η ⊗ meaning c ⊕ t ⊗ (D.derive (at p) ⊕ n ⊗ η ⊗ at p)) (of_nat-next j)
      ∙ collect (D.derive (meaning c)) (of_nat R j) η (meaning c) (at p) t (D.derive (at p))
      ∙ ap (λ v. v ⊕ of_nat R j ⊗ η ⊗ at (c ∷ p)) (sym (derive-cons c p ∙ ap (λ d. D.derive (meaning c) ⊕ (d ⊗ at p ⊕ t ⊗ D.derive (at p))) has))
    where
      collect : (a n e c v t w : A) → a ⊕ n ⊗ e ⊗ c ⊕ t ⊗ (w ⊕ (𝟙 ⊕ n) ⊗ e ⊗ v) ≡ a ⊕ (e ⊗ t ⊗ v ⊕ t ⊗ w) ⊕ n ⊗ e ⊗ (c ⊕ t ⊗ v)
      collect a n e c v t w = ring R (a ∷ n ∷ e ∷ c ∷ v ∷ t ∷ w ∷ []) (search reading depth 40 fits 8000) refl

  -- the zero polynomial
  excess-nil : (k : Kind) (j : ℕ) → at [] ≡ D.derive (at []) ⊕ excess k j []
  excess-nil Primitive j = nothing (of_nat R j) η ∙ ap (λ d. d ⊕ of_nat R j ⊗ η ⊗ 𝟘) (sym (Derivations.derive-zero D))
  excess-nil Exponential j = nothing (of_nat R j) η ∙ ap (λ d. d ⊕ of_nat R j ⊗ η ⊗ 𝟘) (sym (Derivations.derive-zero D))

  -- from exponent 0 on nothing is left
  excess-zero : (k : Kind) (p : List E) → D.derive (at p) ⊕ excess k 0 p ≡ D.derive (at p)
  excess-zero Primitive p = ap (λ n. D.derive (at p) ⊕ n ⊗ η ⊗ at (drop 1 p)) (Laws.of_nat-zero R) ∙ none (D.derive (at p)) η (at (drop 1 p))
  excess-zero Exponential p = ap (λ n. D.derive (at p) ⊕ n ⊗ η ⊗ at p) (Laws.of_nat-zero R) ∙ none (D.derive (at p)) η (at p)

  derivatives_onto-extends : (formed : List E) (j : ℕ) (p r : List E) → j + length p < 2 ^ 16 → AllValid valid p → rules.derivatives_onto o rule rate formed j p ≡ Ok r →
      Extends valid at formed r (D.derive (at p) ⊕ excess rate.kind j p)
  derivatives_onto-extends formed j [] r within all e = record { rest = []; is = cc (append-nil formed); all = tt; means = excess-nil rate.kind j }
  derivatives_onto-extends formed j (c ∷ p) r within all e =
      let first = and_then-ok (rules.coefficient_derivative o rule rate j c p) (λ d. rules.derivatives_onto o rule rate (formed ++ d ∷ []) (j + 1) p) r e in
      let d = first.value in
      let s = coefficient-stands j c p d (omega arith) all.0 all.1 first.is in
      let others = derivatives_onto-extends (formed ++ d ∷ []) (j + 1) p r (omega arith) all.1 first.next in
      record {
        rest = d ∷ others.rest;
        is = others.is ∙ append_assoc formed (d ∷ []) others.rest;
        all = (s.is_valid, others.all);
        means = ap₂ (λ m v. m ⊕ t ⊗ v) s.means others.means ∙ excess-next rate.kind is_rate.rate-means j c p;
      }

  pub derive_polynomial-means : (p r : List E) → length p < 2 ^ 16 → AllValid valid p → rules.derive_polynomial o rule rate p ≡ Ok r → Gives valid at r (D.derive (at p))
  unfolding rules.derive_polynomial
  derive_polynomial-means p r within all e =
      let s = and_then-ok (rules.derivatives_onto o rule rate [] 0 p) (λ s. poly.sized o (poly.trimmed o s)) r e in
      let x = derivatives_onto-extends [] 0 p s.value (omega arith) all s.is in
      let is = Values.sized-is h (poly.trimmed o s.value) r s.next in
      let valid_s = subst (AllValid valid) (sym x.is) x.all in
      record {
        all_valid = subst (AllValid valid) is (Values.trimmed-valid h s.value valid_s);
        value_is = ap at (sym is) ∙ Values.trimmed-means h t s.value valid_s ∙ ap at x.is ∙ x.means ∙ excess-zero rate.kind p;
      }
