-- What the rules on lists of coefficients form in K[t]: sums, products, multiples, derivatives; and a list without a zero at the end is determined by its polynomial.
-- The coefficients stand for constants of the ring K[t], and ⟦p⟧ is the value of p at t in that ring.
use Rattle.std.specs.Prelude.{if◌then◌else◌}
use Rattle.std.proofs.Common.{◌≡◌, ℕ, zero, suc, ◌<◌, ◌^◌, Bool, true, false, List, [], ◌∷◌, length, map, Ok, refl, sym, ap, ap₂, ◌∙◌}
use Rattle.std.proofs.lemmas.List.{length-map}
use Rattle.risch_ring.specs.CommRing.{Field, power, of_nat}
use Rattle.risch_ring.proofs.Laws as Laws
use Rattle.risch_univariate.specs.Polynomial.{Polynomial, coefficient, constant, variable, with_head, trim, of_list}
use Rattle.risch_univariate.specs.PolynomialLaws.{coefficient-of_list, polynomial_ext}
use Rattle.risch_univariate.specs.Degree.{size}
use Rattle.risch_univariate.specs.PolynomialRing.{polynomials, horner}
use Rattle.risch_univariate.proofs.Coefficients.{coefficient-zero, coefficient-horner-zero, coefficient-horner-suc, coefficient-constant-zero}
use Rattle.risch_ring.proofs.Derivations as Derivations
use Rattle.risch_ring.proofs.Expression.{reading}
use Rattle.risch_ring.proofs.Solver.{ring}
use Rattle.risch_mean.specs.Univariate.{value_at, numbered, formal_derivative}
use Rattle.risch_univariate.proofs.Degree as Degree
use Rattle.risch_univariate.proofs.Derivation as Derivation
use Rattle.risch_univariate.proofs.FormalDerivative as FormalDerivative
use Rattle.risch_field.specs.Ops.{Ops}
use Rattle.risch_polynomial.specs.Poly as poly
use Rattle.risch_polynomial.specs.Polynomial.{IsPolynomial}
use Rattle.risch_polynomial_theory.specs.Meaning.{Interprets, AllValid, value}
use Rattle.risch_polynomial_theory.proofs.PolynomialShapes as Shapes
use Rattle.risch_polynomial_theory.proofs.PolynomialValues as Values
use Rattle.risch_element_theory.specs.PolynomialMeaning.{polynomial_of, IsKept, KeepsPolynomial}

module _ {E A : Type 0} {o : Ops E} (F : Field A) {valid : E → Type 0} {meaning : E → A} (h : Interprets o F.ring valid meaning) where
  open (polynomials F) use {zero as 𝟘, one as 𝟙, add as ◌⊕◌, mul as ◌⊗◌, neg as ⊖◌}

  infixl 60 ◌⊕◌
  infixl 70 ◌⊗◌
  infix 80 ⊖◌
  -- ⟦p⟧
  abbrev of : List E → Polynomial F
  of p = polynomial_of F meaning p

  -- r is kept and stands for v
  abbrev Keeps : List E → Polynomial F → Type 0
  Keeps r v = KeepsPolynomial o F valid meaning r v

  -- ⟦e⟧ as a constant of K[t]
  abbrev pub constant_of : E → Polynomial F
  constant_of e = constant F (meaning e)

  -- p_0 + p_1·t + .. in the ring K[t]
  abbrev pub value_in : List E → Polynomial F
  value_in p = value (polynomials F) constant_of (variable F) p

  -- ---- ⟦p⟧ is the value at t
  pub polynomial_of-nil : of [] ≡ 𝟘
  unfolding polynomial_of
  polynomial_of-nil = polynomial_ext F _ _ λ i. coefficient-of_list F [] i ∙ sym (coefficient-zero F i)

  pub polynomial_of-cons : (c : E) (p : List E) → of (c ∷ p) ≡ horner F (meaning c) (of p)
  unfolding polynomial_of
  polynomial_of-cons c p = polynomial_ext F _ _ same
    where
      same : (i : ℕ) → coefficient F (of_list F (meaning c ∷ map meaning p)) i ≡ coefficient F (horner F (meaning c) (of_list F (map meaning p))) i
      same zero = coefficient-of_list F (meaning c ∷ map meaning p) zero ∙ sym (coefficient-horner-zero F (meaning c) (of_list F (map meaning p)))
      same (suc i) =
          coefficient-of_list F (meaning c ∷ map meaning p) (suc i) ∙ sym (coefficient-of_list F (map meaning p) i)
          ∙ sym (coefficient-horner-suc F (meaning c) (of_list F (map meaning p)) i)

  pub value-polynomial_of : (p : List E) → value_in p ≡ of p
  value-polynomial_of [] = sym polynomial_of-nil
  value-polynomial_of (c ∷ p) = ap (λ v. constant_of c ⊕ variable F ⊗ v) (value-polynomial_of p) ∙ sym (polynomial_of-cons c p)

  -- the sum of n ones is a constant
  constant-of_nat : (n : ℕ) → constant F (of_nat F.ring n) ≡ of_nat (polynomials F) n
  constant-of_nat zero = ap (constant F) (Laws.of_nat-zero F.ring) ∙ Degree.constant-zero F ∙ sym (Laws.of_nat-zero (polynomials F))
  constant-of_nat (suc n) =
      ap (constant F) (Laws.of_nat-suc F.ring n) ∙ Degree.constant-add F F.one (of_nat F.ring n)
      ∙ ap₂ (polynomials F).add (Degree.constant-one F) (constant-of_nat n) ∙ sym (Laws.of_nat-suc (polynomials F) n)

  pub constant-injective : (a b : A) → constant F a ≡ constant F b → a ≡ b
  constant-injective a b e = sym (coefficient-constant-zero F a) ∙ ap (λ p. coefficient F p 0) e ∙ coefficient-constant-zero F b

  -- the coefficients stand for constants of K[t]
  pub over_polynomials : Interprets o (polynomials F) valid constant_of
  over_polynomials = record {
    zero-valid = h.zero-valid;
    one-valid = h.one-valid;
    whole-valid = h.whole-valid;
    negative-valid = h.negative-valid;
    sum-valid = h.sum-valid;
    product-valid = h.product-valid;
    quotient-valid = h.quotient-valid;
    zero-means = ap (constant F) h.zero-means ∙ Degree.constant-zero F;
    one-means = ap (constant F) h.one-means ∙ Degree.constant-one F;
    whole-means = λ n small. ap (constant F) (h.whole-means n small) ∙ constant-of_nat n;
    negative-means = λ e v. ap (constant F) (h.negative-means e v) ∙ Degree.constant-neg F (meaning e);
    sum-means = λ a b c v w e. ap (constant F) (h.sum-means a b c v w e) ∙ Degree.constant-add F (meaning a) (meaning b);
    product-means = λ a b c v w e. ap (constant F) (h.product-means a b c v w e) ∙ Degree.constant-mul F (meaning a) (meaning b);
    quotient-means = λ a b c v w z e. sym (Degree.constant-mul F (meaning c) (meaning b)) ∙ ap (constant F) (h.quotient-means a b c v w z e);
    zero_is = λ e v z. ap (constant F) (h.zero_is e v z) ∙ Degree.constant-zero F;
    zero_if = λ e v z. h.zero_if e v (constant-injective (meaning e) F.zero (z ∙ sym (Degree.constant-zero F)));
    same_is = h.same_is;
    same_if = h.same_if;
    injective = λ a b v w e. h.injective a b v w (constant-injective (meaning a) (meaning b) e);
  }

  -- a list with this value at t, that keeps its last coefficient
  pub keeps : (r : List E) (v : Polynomial F) → AllValid valid r → IsPolynomial o r (poly.weight o r) → value_in r ≡ v → Keeps r v
  keeps r v all is e = record { kept = record { all_valid = all; ends_not_zero = is.ends_not_zero; degree_small = is.degree_small }; means = sym (value-polynomial_of r) ∙ e }

  -- ---- the coefficients of ⟦p⟧
  with_head-meaning : (c : E) (p : List E) → valid c → with_head F (meaning c) (map meaning p) ≡ map meaning (poly.leading o c p)
  with_head-meaning c [] v = go (F.is_zero (meaning c)) (o.is_zero c) refl
    where
      go : (d : Dec (meaning c ≡ F.zero)) (z : Bool) → o.is_zero c ≡ z → elim d as (λ d. List A) [ yes e ↦ [] | no n ↦ meaning c ∷ [] ] ≡ map meaning (if z then [] else c ∷ [])
      go (yes e) true z = refl
      go (yes e) false z = cc (h.zero_if c v e)
      go (no n) true z = absurd (n (h.zero_is c v z))
      go (no n) false z = refl
  with_head-meaning c (d ∷ p) v = refl

  trim-meaning : (p : List E) → AllValid valid p → trim F (map meaning p) ≡ map meaning (poly.trimmed o p)
  trim-meaning [] all = refl
  trim-meaning (c ∷ p) all = ap (with_head F (meaning c)) (trim-meaning p all.1) ∙ with_head-meaning c (poly.trimmed o p) all.0

  pub coefficients-polynomial_of : (p : List E) → IsKept o valid p → (of p).coefficients ≡ map meaning p
  unfolding polynomial_of of_list
  coefficients-polynomial_of p k = trim-meaning p k.all_valid ∙ ap (map meaning) k.ends_not_zero

  pub size-polynomial_of : (p : List E) → IsKept o valid p → size F (of p) ≡ length p
  size-polynomial_of p k = ap length (coefficients-polynomial_of p k) ∙ length-map p meaning

  map-injective : (p q : List E) → AllValid valid p → AllValid valid q → map meaning p ≡ map meaning q → p ≡ q
  map-injective [] [] all_p all_q e = refl
  map-injective [] (d ∷ q) all_p all_q e = cc
  map-injective (c ∷ p) [] all_p all_q e = cc
  map-injective (c ∷ p) (d ∷ q) all_p all_q e =
      let first : meaning c ≡ meaning d = cc in
      let others : map meaning p ≡ map meaning q = cc in
      ap₂ (λ c p. c ∷ p) (h.injective c d all_p.0 all_q.0 first) (map-injective p q all_p.1 all_q.1 others)

  -- lists without a zero at the end are equal where their polynomials are
  pub polynomial_of-injective : (p q : List E) → IsKept o valid p → IsKept o valid q → of p ≡ of q → p ≡ q
  polynomial_of-injective p q k l e =
      map-injective p q k.all_valid l.all_valid (sym (coefficients-polynomial_of p k) ∙ ap (λ f. f.coefficients) e ∙ coefficients-polynomial_of q l)

  -- ---- the rules
  pub sum-polynomial : (p q r : List E) → AllValid valid p → AllValid valid q → poly.sum o p q ≡ Ok r → Keeps r (of p ⊕ of q)
  sum-polynomial p q r all_p all_q e =
      let s = Values.sum-means over_polynomials p q r all_p all_q e in
      keeps r (of p ⊕ of q) s.all_valid (Shapes.sum-polynomial o p q r e) (s.value_is (variable F) ∙ ap₂ (polynomials F).add (value-polynomial_of p) (value-polynomial_of q))

  pub scaled-polynomial : (c : E) (p r : List E) → valid c → AllValid valid p → poly.scaled o c p ≡ Ok r → Keeps r (constant F (meaning c) ⊗ of p)
  scaled-polynomial c p r v all e =
      let s = Values.scaled-means over_polynomials c p r v all e in
      keeps r (constant F (meaning c) ⊗ of p) s.all_valid (Shapes.scaled-polynomial o c p r e) (s.value_is (variable F) ∙ ap (λ v. constant_of c ⊗ v) (value-polynomial_of p))

  -- -c is 0 where c is
  negative-is_zero : (c : E) → valid c → o.is_zero (o.negative c) ≡ o.is_zero c
  negative-is_zero c v = go (o.is_zero (o.negative c)) (o.is_zero c) refl refl
    where
      zero_of_negative : F.neg (meaning c) ≡ F.zero → meaning c ≡ F.zero
      zero_of_negative e = sym (Laws.neg-neg F.ring (meaning c)) ∙ ap F.neg e ∙ Laws.neg-zero F.ring

      go : (y z : Bool) → o.is_zero (o.negative c) ≡ y → o.is_zero c ≡ z → y ≡ z
      go true true e f = refl
      go true false e f = cc (h.zero_if c v (zero_of_negative (sym (h.negative-means c v) ∙ h.zero_is (o.negative c) (h.negative-valid c v) e)))
      go false true e f = cc (h.zero_if (o.negative c) (h.negative-valid c v) (h.negative-means c v ∙ ap F.neg (h.zero_is c v f) ∙ Laws.neg-zero F.ring))
      go false false e f = refl

  leading-negative : (c : E) (p : List E) → valid c → poly.leading o (o.negative c) (poly.negatives o p) ≡ poly.negatives o (poly.leading o c p)
  leading-negative c [] v = rw (negative-is_zero c v) (by_zero (o.is_zero c))
    where
      by_zero : (z : Bool) → (if z then [] else o.negative c ∷ []) ≡ poly.negatives o (if z then [] else c ∷ [])
      by_zero true = refl
      by_zero false = refl
  leading-negative c (d ∷ p) v = refl

  trimmed-negatives : (p : List E) → AllValid valid p → poly.trimmed o (poly.negatives o p) ≡ poly.negatives o (poly.trimmed o p)
  trimmed-negatives [] all = refl
  trimmed-negatives (c ∷ p) all = ap (poly.leading o (o.negative c)) (trimmed-negatives p all.1) ∙ leading-negative c (poly.trimmed o p) all.0

  pub negatives-polynomial : (p : List E) → IsKept o valid p → Keeps (poly.negatives o p) (⊖ of p)
  negatives-polynomial p k =
      let n = Values.negatives-means over_polynomials p k.all_valid in
      record {
        kept = record { all_valid = n.all_valid; ends_not_zero = trimmed-negatives p k.all_valid ∙ ap (poly.negatives o) k.ends_not_zero; degree_small = rw (length-map p o.negative) k.degree_small };
        means = sym (value-polynomial_of (poly.negatives o p)) ∙ n.value_is (variable F) ∙ ap (polynomials F).neg (value-polynomial_of p);
      }

  pub product-polynomial : (p q r : List E) → AllValid valid p → AllValid valid q → poly.product o p q ≡ Ok r → Keeps r (of p ⊗ of q)
  product-polynomial p q r all_p all_q e =
      let s = Values.product-means over_polynomials p q r all_p all_q e in
      keeps r (of p ⊗ of q) s.all_valid (Shapes.product-polynomial o p q r e) (s.value_is (variable F) ∙ ap₂ (polynomials F).mul (value-polynomial_of p) (value-polynomial_of q))

  pub monomial-polynomial : (c : E) (e : ℕ) (r : List E) → valid c → poly.monomial o c e ≡ Ok r → Keeps r (constant F (meaning c) ⊗ power (polynomials F) (variable F) e)
  monomial-polynomial c e r v is =
      let s = Values.monomial-means over_polynomials c e r v is in
      keeps r (constant F (meaning c) ⊗ power (polynomials F) (variable F) e) s.all_valid (Shapes.monomial-polynomial o c e r is) (s.value_is (variable F))

  -- ---- the derivative by t
  -- n·p_0 + (n + 1)·p_1·t + ..
  abbrev numbered_value : ℕ → List E → Polynomial F
  numbered_value n p = value_at (polynomials F) (variable F) (numbered (polynomials F) n (map constant_of p))

  -- (n + 1)·p_0 + (n + 2)·p_1·t + .. = p + (n·p_0 + (n + 1)·p_1·t + ..)
  numbered_value-suc : (n : ℕ) (p : List E) → numbered_value (suc n) p ≡ value_in p ⊕ numbered_value n p
  numbered_value-suc n [] = sym ((polynomials F).add-zero 𝟘)
  numbered_value-suc n (c ∷ p) =
      ap₂ (λ x y. x ⊗ constant_of c ⊕ variable F ⊗ y) (Laws.of_nat-suc (polynomials F) n) (numbered_value-suc (suc n) p)
      ∙ spread (of_nat (polynomials F) n) (constant_of c) (variable F) (value_in p) (numbered_value (suc n) p)
    where
      spread : (n c t v w : Polynomial F) → (𝟙 ⊕ n) ⊗ c ⊕ t ⊗ (v ⊕ w) ≡ c ⊕ t ⊗ v ⊕ (n ⊗ c ⊕ t ⊗ w)
      spread n c t v w = ring (polynomials F) (n ∷ c ∷ t ∷ v ∷ w ∷ []) (search reading depth 40 fits 8000) refl

  -- p_1·t + 2·p_2·t² + .. = t·∂p
  numbered_value-zero : (p : List E) → numbered_value 0 p ≡ variable F ⊗ FormalDerivative.formal_derivative F (of p)
  numbered_value-zero [] =
      sym (ap (λ v. variable F ⊗ v) (ap (FormalDerivative.formal_derivative F) polynomial_of-nil ∙ Derivation.derive_polynomial-zero F (Derivations.zero_derivation F.ring) 𝟙)
      ∙ Laws.mul-zero (polynomials F) (variable F))
  numbered_value-zero (c ∷ p) =
      ap₂ (λ x y. x ⊗ constant_of c ⊕ variable F ⊗ y) (Laws.of_nat-zero (polynomials F)) (numbered_value-suc 0 p ∙ ap₂ (polynomials F).add (value-polynomial_of p) (numbered_value-zero p))
      ∙ ap (λ x. x ⊕ variable F ⊗ (of p ⊕ variable F ⊗ FormalDerivative.formal_derivative F (of p))) (Laws.zero-mul (polynomials F) (constant_of c))
      ∙ Laws.zero-add (polynomials F) (variable F ⊗ (of p ⊕ variable F ⊗ FormalDerivative.formal_derivative F (of p)))
      ∙ ap (λ v. variable F ⊗ v) (sym (ap (FormalDerivative.formal_derivative F) (polynomial_of-cons c p) ∙ FormalDerivative.formal_derivative-horner F (meaning c) (of p)))

  formal_derivative-value : (p : List E) → value_at (polynomials F) (variable F) (formal_derivative (polynomials F) (map constant_of p)) ≡ FormalDerivative.formal_derivative F (of p)
  formal_derivative-value [] =
      sym (ap (FormalDerivative.formal_derivative F) polynomial_of-nil ∙ Derivation.derive_polynomial-zero F (Derivations.zero_derivation F.ring) 𝟙)
  formal_derivative-value (c ∷ p) =
      numbered_value-suc 0 p ∙ ap₂ (polynomials F).add (value-polynomial_of p) (numbered_value-zero p)
      ∙ sym (ap (FormalDerivative.formal_derivative F) (polynomial_of-cons c p) ∙ FormalDerivative.formal_derivative-horner F (meaning c) (of p))

  -- ∂p
  pub partial-polynomial : (p r : List E) → length p < 2 ^ 16 → AllValid valid p → poly.partial o p ≡ Ok r → Keeps r (FormalDerivative.formal_derivative F (of p))
  partial-polynomial p r small all e =
      let s = Values.partial-means over_polynomials p r small all e in
      keeps r (FormalDerivative.formal_derivative F (of p)) s.all_valid (Shapes.partial-polynomial o p r e) (s.value_is (variable F) ∙ formal_derivative-value p)
