-- The rules of the algebra modulo a polynomial R with rational coefficients: they are the inverse, the product and the trace of the algebra, and lead to no new variable.
--     modulus-trimmed, modulus-weight, modulus-is_monic      R over the elements is a monic polynomial within the limits
--     inverse-means, product-stands, trace-stands      what the rules give
--     option-members, product-members      they give m members
--     inverse-within, product-within, trace-within      the variables that occur
use Rattle.std.specs.Prelude.{if◌then◌else◌, replicate, fold, option_map, IfSome}
use Rattle.std.proofs.Common.{◌≡◌, refl, sym, ap, ap₂, ◌∙◌, ℕ, suc, ◌+◌, ◌-◌, ◌≤◌, ◌<◌, Bool, true, false, List, [], ◌∷◌, ◌++◌, map, take, length, Option, None, Some, Ok, arith, subst, length-append}
use Rattle.std.proofs.lemmas.List.{length-map, length-replicate, length-take-le, map-append, take_all, take_more}
use Rattle.risch_frac.specs.Fraction.{Fraction}
use Rattle.risch_mean.specs.Element as mean
use Rattle.risch_mean.specs.ElementField.{elements}
use Rattle.risch_mean.specs.ElementPolynomials.{monic_polynomial, remainder_modulo, times_modulo, trace_modulo, IsInverseModulo}
use Rattle.risch_univariate.specs.Degree.{size}
use Rattle.risch_mean.proofs.AlgebraLaws.{length-times_mod}
use Rattle.risch_field.specs.Checked.{and_then}
use Rattle.risch_field.specs.Ground.{ground}
use Rattle.risch_field.proofs.CheckedSteps.{and_then-ok}
use Rattle.risch_polynomial.specs.Poly as poly
use Rattle.risch_polynomial.specs.Modular as modular
use Rattle.risch_polynomial.proofs.CoefficientLists.{ends_in_zero-push, trimmed-whole}
use Rattle.risch_polynomial_theory.specs.Meaning.{AllValid}
use Rattle.risch_polynomial_theory.specs.FractionMeaning.{fraction_meaning}
use Rattle.risch_polynomial_theory.proofs.FractionValues.{ground_means}
use Rattle.risch_level.specs.Levels.{Element, element}
use Rattle.risch_level.specs.Accessors.{number}
use Rattle.risch_element_theory.specs.WholeTower.{IsElement, IsPolynomial, meaning, polynomial, Within, AllWithin}
use Rattle.risch_element_theory.proofs.ElementParts.{number-stands, number-element-within}
use Rattle.risch_element_theory.proofs.ElementPolynomials.{element_interprets, trimmed-is_polynomial, trimmed-stands, product-is_polynomial, product-stands as product-polynomial, inverse-stands}
use Rattle.risch_element_theory.proofs.PolynomialRules as Rules
use Rattle.risch_element_theory.proofs.PolynomialsWithin as Within
use Rattle.risch_trace.specs.Traces as polynomials
use Rattle.risch_rootsum.specs.Algebra.{degree, IsModulus, IsMember, modulus, filled, inverse, product, trace}
use Rattle.risch_rootsum.specs.AlgebraMeaning.{below, member, InverseMeans}
use Rattle.risch_trace.proofs.Remainders as Remainders
use Rattle.risch_rootsum.proofs.Invertibles as Invertibles
use Rattle.risch_rootsum.proofs.ElementInvertibles as ElementInvertibles
use Rattle.risch_trace.proofs.TraceRules as TraceRules
use Rattle.risch_trace.proofs.TraceRules.{IsMonicWith, meaning-zeros, filled-within, remainder-polynomial}

-- ---- R over the elements
one-nonzero : element.is_zero (number 5 ground.one) ≡ false
unfolding element
one-nonzero = refl

number-weight : (q : Fraction) → element.weight (number 5 q) ≡ 1
unfolding element
number-weight q = refl

-- R ends with 1
modulus-split : (R : List Fraction) → IsModulus R → R ≡ poly.front ground R ++ ground.one ∷ []
modulus-split R h =
    let some = h.some in
    let whole : length R ≡ length R - 1 + 1 = omega arith in
    sym (take_all (length R) R (omega arith)) ∙ ap (λ (n : ℕ). take n R) whole ∙ take_more R (length R - 1) ground.zero (omega arith)
    ∙ ap (λ (q : Fraction). poly.front ground R ++ q ∷ []) h.monic

modulus-ends : (R : List Fraction) → IsModulus R → poly.ends_in_zero element (modulus R) ≡ false
modulus-ends R h =
    ap (λ l. poly.ends_in_zero element (modulus l)) (modulus-split R h)
    ∙ ap (poly.ends_in_zero element) (map-append (number 5) (poly.front ground R) (ground.one ∷ []))
    ∙ ends_in_zero-push element (modulus (poly.front ground R)) (number 5 ground.one) ∙ one-nonzero

pub modulus-trimmed : (R : List Fraction) → IsModulus R → poly.trimmed element (modulus R) ≡ modulus R
modulus-trimmed R h = trimmed-whole element (modulus R) (modulus-ends R h)

pub modulus-large : (R : List Fraction) → IsModulus R → 2 ≤ length (modulus R)
modulus-large R h = let two = h.some in omega (arith, two, length-map R (number 5))

pub modulus-degree : (R : List Fraction) → IsModulus R → length (poly.trimmed element (modulus R)) ≤ 256
modulus-degree R h = let small = h.small in omega (arith, small, ap length (modulus-trimmed R h), length-map R (number 5))

weight_in-number : (q : Fraction) → poly.weight_in element (number 5 q) ≤ 1
weight_in-number q = by_test (element.is_zero (number 5 q))
  where
    by_test : (z : Bool) → (if z then 0 else element.weight (number 5 q)) ≤ 1
    by_test true = omega arith
    by_test false = omega (arith, number-weight q)

weight_from-modulus : (a : ℕ) (R : List Fraction) → fold (λ w c. w + poly.weight_in element c) a (modulus R) ≤ a + length R
weight_from-modulus a [] = omega arith
weight_from-modulus a (q ∷ R) =
    let rest = weight_from-modulus (a + poly.weight_in element (number 5 q)) R in
    let one = weight_in-number q in
    omega (arith, rest, one)

pub modulus-weight : (R : List Fraction) → IsModulus R → poly.weight element (modulus R) ≤ 65536
modulus-weight R h = let low = weight_from-modulus 0 R in let small = h.small in omega (arith, low, small)

pub length-below : (R : List Fraction) → length (below R) ≡ degree R
length-below R = length-map (poly.front ground R) fraction_meaning ∙ length-take-le (length R - 1) R (omega arith)

pub some-below : (R : List Fraction) → IsModulus R → 1 ≤ length (below R)
some-below R h = let some = h.some in omega (arith, length-below R)

meaning-numbers : (R : List Fraction) → map meaning (modulus R) ≡ map fraction_meaning R
meaning-numbers [] = refl
meaning-numbers (q ∷ R) = ap₂ ◌∷◌ (number-stands q) (meaning-numbers R)

with_one : (r : List mean.Element) → r ++ mean.one ∷ [] ≡ monic_polynomial r
with_one [] = refl
with_one (c ∷ r) = ap (λ (l : List mean.Element). c ∷ l) (with_one r)

pub modulus-is_monic : (R : List Fraction) → IsModulus R → AllValid IsElement (modulus R) → IsMonicWith (modulus R) (below R)
modulus-is_monic R h all =
    let small = h.small in
    record {
      kept = record { all_valid = all; ends_not_zero = modulus-trimmed R h; degree_small = omega (arith, small, length-map R (number 5)) };
      some = some-below R h;
      means =
          meaning-numbers R ∙ ap (map fraction_meaning) (modulus-split R h) ∙ map-append fraction_meaning (poly.front ground R) (ground.one ∷ [])
          ∙ ap (λ (c : mean.Element). below R ++ c ∷ []) ground_means.one-means ∙ with_one (below R);
    }

-- R leads to no variable
pub modulus-within : (n : ℕ) (R : List Fraction) → AllWithin n (modulus R)
modulus-within n [] = tt
modulus-within n (q ∷ R) = (number-element-within n q, modulus-within n R)

-- ---- members
leading-length : (c : Element) (p : List Element) → length (poly.leading element c p) ≤ suc (length p)
leading-length c [] = by_test (element.is_zero c)
  where
    by_test : (z : Bool) → length (if z then [] else c ∷ []) ≤ 1
    by_test true = omega arith
    by_test false = omega arith
leading-length c (d ∷ p) = omega arith

pub trimmed_length : (u : List Element) → length (poly.trimmed element u) ≤ length u
trimmed_length [] = omega arith
trimmed_length (c ∷ u) = let rest = trimmed_length u in let here = leading-length c (poly.trimmed element u) in omega (arith, rest, here)

pub filled-meaning : (m : ℕ) (u : List Element) → map meaning (filled m u) ≡ map meaning u ++ replicate (m - length u) mean.zero
filled-meaning m u = map-append meaning u (replicate (m - length u) element.zero) ∙ ap (λ l. map meaning u ++ l) (meaning-zeros (m - length u))

pub trimmed-kept : (R : List Fraction) → IsModulus R → (u : List Element) → AllValid IsElement u → IsMember R u → IsPolynomial (poly.trimmed element u)
trimmed-kept R h u all k =
    let small = h.small in
    let short = k.degree_small in
    let less = trimmed_length u in
    trimmed-is_polynomial u (poly.trimmed element u) all (omega (arith, small, short, less)) refl

module _ (R : List Fraction) (h : IsModulus R) where
  abbrev r : List mean.Element
  r = below R

  some : 1 ≤ length r
  some = some-below R h

  -- a list of at most m coefficients is filled with zeros
  pub short-member : (p : List Element) → length p ≤ degree R → remainder_modulo r (map meaning p) ≡ member R p
  short-member p short =
      let same : length r - length (map meaning p) ≡ degree R - length p = omega (arith, length-below R, length-map p meaning) in
      Remainders.remainder-short elements r some (map meaning p) (omega (arith, short, length-below R, length-map p meaning))
      ∙ ap (λ (n : ℕ). map meaning p ++ replicate n mean.zero) same ∙ sym (filled-meaning (degree R) p)

  pub length-member : (u : List Element) → length u ≤ degree R → length (member R u) ≡ length r
  length-member u short =
      omega (arith, length-below R, length-map (filled (degree R) u) meaning, length-append u (replicate (degree R - length u) element.zero), length-replicate (degree R - length u) element.zero, short)

  pub remainder-filled : (u : List Element) → length u ≤ degree R → remainder_modulo r (member R u) ≡ member R u
  remainder-filled u short = Remainders.remainder-member elements r some (member R u) (length-member u short)

  -- the zeros at its end do not matter
  pub trimmed-member : (u : List Element) → AllValid IsElement u → length u ≤ degree R → remainder_modulo r (map meaning (poly.trimmed element u)) ≡ member R u
  trimmed-member u all short =
      sym (remainder-polynomial r some (poly.trimmed element u)) ∙ ap (Remainders.remainder_of elements r some) (trimmed-stands u (poly.trimmed element u) all refl)
      ∙ remainder-polynomial r some u ∙ short-member u short

  module _ (all : AllValid IsElement (modulus R)) where
    monic : IsMonicWith (modulus R) r
    monic = modulus-is_monic R h all

    -- ---- the inverse
    same_remainder : (u : List Element) → AllValid IsElement u → length u ≤ degree R → remainder_modulo r (map meaning (poly.trimmed element u)) ≡ remainder_modulo r (member R u)
    same_remainder u all_u short = trimmed-member u all_u short ∙ sym (remainder-filled u short)

    pub option-means : (u : List Element) → AllValid IsElement u → IsMember R u → (i : Option (List Element)) → modular.inverse element (poly.trimmed element u) (modulus R) ≡ Ok i →
        InverseMeans R u (option_map (filled (degree R)) i)
    option-means u all_u k None is =
        let none = inverse-stands (poly.trimmed element u) (modulus R) None (trimmed-kept R h u all_u k) monic.kept (modulus-large R h) is in
        let same = sym (same_remainder u all_u k.degree_small) in
        λ w. none
        (ElementInvertibles.coprime_of_invertible (modulus R) r monic (poly.trimmed element u)
        (Invertibles.invertible_of_same elements r some (member R u) (map meaning (poly.trimmed element u)) same w))
    option-means u all_u k (Some v) is =
        let kept = inverse-stands (poly.trimmed element u) (modulus R) (Some v) (trimmed-kept R h u all_u k) monic.kept (modulus-large R h) is in
        let below : size elements (polynomial v) < size elements (polynomial (modulus R)) = kept.smaller in
        let size_v : size elements (polynomial v) ≡ length v = Rules.size-polynomial_of elements element_interprets v kept.kept in
        let size_R : size elements (polynomial (modulus R)) ≡ length (modulus R) = Rules.size-polynomial_of elements element_interprets (modulus R) monic.kept in
        let short : length v ≤ degree R = omega (arith, below, size_v, size_R, length-map R (number 5)) in
        let inverse = ElementInvertibles.inverse_of_divides (modulus R) r monic (poly.trimmed element u) v kept.divides in
        subst (IsInverseModulo r (member R u)) (short-member v short)
        (Invertibles.inverse_of_same elements r some (map meaning (poly.trimmed element u)) (member R u) (remainder_modulo r (map meaning v)) (same_remainder u all_u k.degree_small) inverse)

    pub inverse-means : (u : List Element) → AllValid IsElement u → IsMember R u → (it : Option (List Element)) → inverse R u ≡ Ok it → InverseMeans R u it
    unfolding inverse
    inverse-means u all_u k it e =
        let s = and_then-ok (modular.inverse element (poly.trimmed element u) (modulus R)) (λ v. Ok (option_map (filled (degree R)) v)) it e in
        let same : option_map (filled (degree R)) s.value ≡ it = let next : Ok (option_map (filled (degree R)) s.value) ≡ Ok it = s.next in cc in
        subst (InverseMeans R u) same (option-means u all_u k s.value s.is)

    -- it has m members
    pub option-members : (u : List Element) (it : Option (List Element)) → InverseMeans R u it → IfSome it (λ v. length v ≡ degree R)
    option-members u None means = tt
    option-members u (Some v) means = sym (length-map v meaning) ∙ means.member ∙ length-below R

    -- ---- the product
    pub product-stands : (u v it : List Element) → AllValid IsElement u → AllValid IsElement v → IsMember R u → IsMember R v → product R u v ≡ Ok it →
        map meaning it ≡ times_modulo r (member R u) (member R v)
    unfolding product
    product-stands u v it all_u all_v k l e =
        let a = and_then-ok (poly.product element (poly.trimmed element u) (poly.trimmed element v)) (λ p. and_then (polynomials.remainder p (modulus R)) (λ x. Ok (filled (degree R) x))) it e in
        let b = and_then-ok (polynomials.remainder a.value (modulus R)) (λ x. Ok (filled (degree R) x)) it a.next in
        let same : filled (degree R) b.value ≡ it = let next : Ok (filled (degree R) b.value) ≡ Ok it = b.next in cc in
        let kept_u = trimmed-kept R h u all_u k in
        let kept_v = trimmed-kept R h v all_v l in
        let kept = product-is_polynomial (poly.trimmed element u) (poly.trimmed element v) a.value kept_u kept_v a.is in
        let rest = TraceRules.remainder-means (modulus R) r monic a.value b.value kept b.is in
        let least = rest.short in
        ap (map meaning) (sym same) ∙ sym (short-member b.value (omega (arith, least, length-below R))) ∙ sym rest.means ∙ sym (remainder-polynomial r some a.value)
        ∙ ap (Remainders.remainder_of elements r some) (product-polynomial (poly.trimmed element u) (poly.trimmed element v) a.value kept_u kept_v a.is)
        ∙ Remainders.remainder_of-mul elements r some (polynomial (poly.trimmed element u)) (polynomial (poly.trimmed element v))
        ∙ ap₂ (times_modulo r) (remainder-polynomial r some (poly.trimmed element u) ∙ trimmed-member u all_u k.degree_small)
        (remainder-polynomial r some (poly.trimmed element v) ∙ trimmed-member v all_v l.degree_small)

    -- it has m members
    pub product-members : (u v it : List Element) → AllValid IsElement u → AllValid IsElement v → IsMember R u → IsMember R v → product R u v ≡ Ok it → length it ≡ degree R
    product-members u v it all_u all_v k l e =
        sym (length-map it meaning) ∙ ap length (product-stands u v it all_u all_v k l e)
        ∙ length-times_mod elements.ring r (member R u) (member R v) (length-member v l.degree_small) ∙ length-below R

    -- ---- the trace
    pub trace-stands : (u : List Element) → AllValid IsElement u → IsMember R u → (e : Element) → trace R u ≡ Ok e → meaning e ≡ trace_modulo r (member R u)
    trace-stands u all_u k e is =
        TraceRules.trace-stands (modulus R) r monic (poly.trimmed element u) e (trimmed-kept R h u all_u k) is ∙ ap (trace_modulo r) (trimmed-member u all_u k.degree_small)

-- the product, where its values are formed
pub product-formed : (R : List Fraction) (u v p x : List Element) → poly.product element (poly.trimmed element u) (poly.trimmed element v) ≡ Ok p → polynomials.remainder p (modulus R) ≡ Ok x →
    product R u v ≡ Ok (filled (degree R) x)
unfolding product
product-formed R u v p x e f = rw (e, f) refl

-- ---- the variables that occur
pub option-within : (n : ℕ) (R : List Fraction) (u : List Element) (i : Option (List Element)) → AllWithin n u → modular.inverse element (poly.trimmed element u) (modulus R) ≡ Ok i →
    IfSome (option_map (filled (degree R)) i) (AllWithin n)
option-within n R u None all is = tt
option-within n R u (Some v) all is =
    filled-within n v (degree R - length v) (Within.inverse-within n (poly.trimmed element u) (modulus R) v (Within.trimmed-within n u (poly.trimmed element u) all refl) (modulus-within n R) is)

pub inverse-within : (n : ℕ) (R : List Fraction) (u : List Element) (it : Option (List Element)) → AllWithin n u → inverse R u ≡ Ok it → IfSome it (AllWithin n)
unfolding inverse
inverse-within n R u it all e =
    let s = and_then-ok (modular.inverse element (poly.trimmed element u) (modulus R)) (λ v. Ok (option_map (filled (degree R)) v)) it e in
    let same : option_map (filled (degree R)) s.value ≡ it = let next : Ok (option_map (filled (degree R)) s.value) ≡ Ok it = s.next in cc in
    subst (λ i. IfSome i (AllWithin n)) same (option-within n R u s.value all s.is)

pub product-within : (n : ℕ) (R : List Fraction) (u v it : List Element) → AllWithin n u → AllWithin n v → product R u v ≡ Ok it → AllWithin n it
unfolding product
product-within n R u v it all_u all_v e =
    let a = and_then-ok (poly.product element (poly.trimmed element u) (poly.trimmed element v)) (λ p. and_then (polynomials.remainder p (modulus R)) (λ x. Ok (filled (degree R) x))) it e in
    let b = and_then-ok (polynomials.remainder a.value (modulus R)) (λ x. Ok (filled (degree R) x)) it a.next in
    let same : filled (degree R) b.value ≡ it = let next : Ok (filled (degree R) b.value) ≡ Ok it = b.next in cc in
    let formed = Within.product-within n (poly.trimmed element u) (poly.trimmed element v) a.value (Within.trimmed-within n u (poly.trimmed element u) all_u refl) (Within.trimmed-within n v (poly.trimmed element v) all_v refl) a.is in
    subst (AllWithin n) same (filled-within n b.value (degree R - length b.value) (TraceRules.remainder-within n (modulus R) a.value b.value formed (modulus-within n R) b.is))

pub trace-within : (n : ℕ) (R : List Fraction) (u : List Element) (e : Element) → AllWithin n u → trace R u ≡ Ok e → Within n e
trace-within n R u e all is = TraceRules.trace-within n (modulus R) (poly.trimmed element u) e (modulus-within n R) (Within.trimmed-within n u (poly.trimmed element u) all refl) is

pub ruleset moduli = (modulus-trimmed, modulus-degree, modulus-weight)
