-- The terms of a polynomial, from the highest exponent down.
use Rattle.std.proofs.Common.{◌≡◌, ℕ, suc, ◌+◌, ◌-◌, ◌<◌, ◌≤◌, List, ◌∷◌, length, drop, take, get_or, Option, None, Some, Bool, true, false, not, length-take, sym, ap, ◌∙◌, arith}
use Rattle.std.specs.Prelude.{count_by, slice_get}
use Rattle.std.proofs.Math.Seq.{drop-cons}
use Rattle.std.proofs.lemmas.Bool.{cond-true, cond-false, cond_both}
use Rattle.std.proofs.lemmas.List.Sums.{count_by-le-length, count_by_more_yes, count_by_more_no}
use Rattle.std.proofs.lemmas.Option.{slice_get-get_or, get_or_from_slice_get}
use Rattle.risch_polynomial.specs.Poly as poly
use Rattle.risch_level.specs.Levels.{Element, element}
use Rattle.risch_cert.specs.Printing.{Printed, print_term, add_text, add_term, print_terms}

-- ---- a coefficient where it is there and not 0
pub some_nonzero : (found : Option Element) (c : Element) → Some c ≡ poly.nonzero element found → (found ≡ Some c) × (element.is_zero c ≡ false)
some_nonzero None c e = absurd (cc)
some_nonzero (Some x) c e =
    cond_both (element.is_zero x) None (Some x) (λ r. Some c ≡ r → (Some x ≡ Some c) × (element.is_zero c ≡ false))
    (λ zero is. absurd (cc)) (λ other is. let same : c ≡ x = cc in (ap Some (sym same), rw same other)) e

pub none_nonzero : (x : Element) → None ≡ poly.nonzero element (Some x) → element.is_zero x ≡ true
none_nonzero x e =
    cond_both (element.is_zero x) None (Some x) (λ r. None ≡ r → element.is_zero x ≡ true) (λ zero is. zero) (λ other is. absurd (cc)) e

-- ---- the terms that are written
module _ (print : Element → Printed) (name : List ℕ) where
  -- the term of exponent e after those of higher exponents
  terms_next : (p : List Element) (e : ℕ) (c : Element) → e < length p → c ≡ get_or p e c →
      print_terms print name e (drop e p) ≡ add_term print name (print_terms print name (suc e) (drop (suc e) p)) c e
  terms_next p e c inside is = ap (print_terms print name e) (drop-cons p e c inside ∙ ap (λ x. x ∷ drop (suc e) p) (sym is))

  -- the same from the exponent above it
  terms_below : (p : List Element) (next : ℕ) (c : Element) (higher : List ℕ) → 0 < next → next ≤ length p → c ≡ get_or p (next - 1) c →
      higher ≡ print_terms print name next (drop next p) → print_terms print name (next - 1) (drop (next - 1) p) ≡ add_term print name higher c (next - 1)
  terms_below p next c higher some most is before =
      let inside : next - 1 < length p = omega arith in
      let up : suc (next - 1) ≡ next = omega arith in
      terms_next p (next - 1) c inside is
      ∙ ap (λ n. add_term print name (print_terms print name n (drop n p)) c (next - 1)) up
      ∙ ap (λ h. add_term print name h c (next - 1)) (sym before)

  -- a coefficient that is 0 has no term
  pub terms_skip : (p : List Element) (next : ℕ) (c : Element) (higher : List ℕ) → 0 < next → next ≤ length p → c ≡ get_or p (next - 1) c → element.is_zero c ≡ true →
      higher ≡ print_terms print name next (drop next p) → higher ≡ print_terms print name (next - 1) (drop (next - 1) p)
  terms_skip p next c higher some most is zero before =
      sym (terms_below p next c higher some most is before ∙ cond-true (element.is_zero c) _ _ zero)

  -- any other one has its term
  pub terms_more : (p : List Element) (next : ℕ) (c : Element) (printed : Printed) (higher terms : List ℕ) → 0 < next → next ≤ length p → c ≡ get_or p (next - 1) c →
      element.is_zero c ≡ false → printed ≡ print c → higher ≡ print_terms print name next (drop next p) → terms ≡ add_text higher (print_term name c printed (next - 1)) →
      terms ≡ print_terms print name (next - 1) (drop (next - 1) p)
  terms_more p next c printed higher terms some most is other made before now =
      now ∙ ap (λ t. add_text higher (print_term name c t (next - 1))) made
      ∙ sym (terms_below p next c higher some most is before ∙ cond-false (element.is_zero c) _ _ other)

-- ---- how many coefficients are not 0
abbrev pub is_term : Element → Bool
is_term c = not (element.is_zero c)

-- among the first ones
abbrev pub terms_among : ℕ → List Element → ℕ
terms_among i p = count_by is_term (take i p)

pub terms_among_more : (p : List Element) (i : ℕ) (c : Element) → Some c ≡ poly.nonzero element (slice_get p i) → i < length p → terms_among (i + 1) p ≡ terms_among i p + 1
terms_among_more p i c found inside =
    let there = some_nonzero (slice_get p i) c found in
    let is : get_or p i c ≡ c = get_or_from_slice_get p i c c there.0 in
    count_by_more_yes is_term p i c inside (ap is_term is ∙ ap not there.1)

pub terms_among_same : (p : List Element) (i : ℕ) → None ≡ poly.nonzero element (slice_get p i) → i < length p → terms_among (i + 1) p ≡ terms_among i p
terms_among_same p i none inside =
    let c : Element = get_or p i element.zero in
    let found : slice_get p i ≡ Some c = slice_get-get_or p i element.zero inside in
    count_by_more_no is_term p i element.zero inside (ap not (none_nonzero c (none ∙ ap (poly.nonzero element) found)))

pub terms_among_few : (p : List Element) (i : ℕ) → terms_among i p ≤ i
terms_among_few p i = omega (arith, count_by-le-length is_term (take i p), length-take i p)
