-- What is printed of a polynomial in a variable, and of a quotient of two, is read as its value.
use Rattle.std.specs.Prelude.{◌==◌, ◌||◌, not, cond, if◌then◌else◌, count_by, codes}
use Rattle.std.proofs.Common.{◌≡◌, ℕ, zero, suc, ◌+◌, ◌≤◌, ◌<◌, List, [], ◌∷◌, ◌++◌, length, Bool, true, false, refl, sym, ap, ap₂, subst, ◌∙◌, arith, pos, ne_eqb}
use Rattle.std.proofs.lemmas.Bool.{leb-false}
use Rattle.std.proofs.lemmas.Fmt.{decimal_digit}
use Rattle.std.proofs.lemmas.List.Sums.{sum_by_from}
use Rattle.risch_ring.proofs.Expression.{reading}
use Rattle.risch_ring.proofs.Solver.{ring}
use Rattle.risch_mean.specs.Element as mean
use Rattle.risch_mean.specs.Element.{InField, neg, integer, ◌+ₑ◌, ◌*ₑ◌, ◌/ₑ◌}
use Rattle.risch_mean.specs.ElementField.{elements, ◌^ₑ◌}
use Rattle.risch_mean.proofs.IntegerLaws.{integer-zero, integer-one}
use Rattle.risch_mean.proofs.PowerLaws.{power-zero, power-suc}
use Rattle.risch_polynomial.specs.Poly as poly
use Rattle.risch_polynomial_theory.specs.Meaning.{AllValid}
use Rattle.risch_level.specs.Levels.{Element, element}
use Rattle.risch_element_theory.specs.WholeTower.{IsElement, meaning, IsPolynomial, value_of, Within, AllWithin}
use Rattle.risch_element_theory.proofs.ElementLaws.{zero-told}
use Rattle.risch_element_theory.proofs.Levels.{level_tells_one}
use Rattle.risch_cert.specs.Printing.{Printed, is_signed, print_term, add_text, or_zero, print_terms, print_polynomial, print_quotient, is_sum, print_ratio}
use Rattle.risch_expression.specs.declared.names.Names.{Names}
use Rattle.risch_round_trip.proofs.WrittenTexts.{following, IsAtom, IsTerm, IsSum, decimal-is_number, number-is_atom, atom-is_power, power-is_term, term-is_sum, sum-same, add-is_sum}
use Rattle.risch_round_trip.proofs.PrintedTerms.{over-one, IsSignedTerm, plain, IsPrinted, signed-same, signed-is_sum, high_term, term-sum, quotient-term}

-- ---- values
-- t^e·0 and t^e·(c + t·v)
no_value : (w : mean.Element) → w *ₑ mean.zero ≡ mean.zero
no_value w = ring elements.ring (w ∷ []) (search reading depth 20) refl

more_value : (w c t v : mean.Element) → (t *ₑ w) *ₑ v +ₑ c *ₑ w ≡ w *ₑ (c +ₑ t *ₑ v)
more_value w c t v = ring elements.ring (w ∷ (c ∷ (t ∷ (v ∷ [])))) (search reading depth 30) refl

zero_more : (w c t v : mean.Element) → c ≡ mean.zero → (t *ₑ w) *ₑ v ≡ w *ₑ (c +ₑ t *ₑ v)
zero_more w c t v e = shift w t v ∙ ap (λ d. w *ₑ (d +ₑ t *ₑ v)) (sym e)
  where
    shift : (w t v : mean.Element) → (t *ₑ w) *ₑ v ≡ w *ₑ (mean.zero +ₑ t *ₑ v)
    shift w t v = ring elements.ring (w ∷ (t ∷ (v ∷ []))) (search reading depth 30) refl

last_value : (w c t v : mean.Element) → v ≡ mean.zero → c *ₑ w ≡ w *ₑ (c +ₑ t *ₑ v)
last_value w c t v e = shift w c t ∙ ap (λ d. w *ₑ (c +ₑ t *ₑ d)) (sym e)
  where
    shift : (w c t : mean.Element) → c *ₑ w ≡ w *ₑ (c +ₑ t *ₑ mean.zero)
    shift w c t = ring elements.ring (w ∷ (c ∷ (t ∷ []))) (search reading depth 30) refl

nothing_more : (t : mean.Element) → mean.zero +ₑ t *ₑ mean.zero ≡ mean.zero
nothing_more t = ring elements.ring (t ∷ []) (search reading depth 20) refl

zero-plus : (u : mean.Element) → mean.zero +ₑ u ≡ u
zero-plus u = ring elements.ring (u ∷ []) (search reading depth 20) refl

-- ---- how many coefficients are not 0
abbrev some_of : Element → Bool
some_of c = not (element.is_zero c)

abbrev count : List Element → ℕ
count p = count_by some_of p

count-cons : (c : Element) (p : List Element) → count (c ∷ p) ≡ cond (some_of c) 1 0 + count p
count-cons c p = sum_by_from (λ x. cond (some_of x) 1 0) (0 + cond (some_of c) 1 0) p ∙ less (cond (some_of c) 1 0) (count p)
  where
    less : (a b : ℕ) → (0 + a) + b ≡ a + b
    less a b = omega arith

count-zero : (c : Element) (p : List Element) → element.is_zero c ≡ true → count (c ∷ p) ≡ count p
count-zero c p e = count-cons c p ∙ ap (λ z. cond (not z) 1 0 + count p) e ∙ same (count p)
  where
    same : (n : ℕ) → 0 + n ≡ n
    same n = omega arith

count-some : (c : Element) (p : List Element) → element.is_zero c ≡ false → count (c ∷ p) ≡ suc (count p)
count-some c p e = count-cons c p ∙ ap (λ z. cond (not z) 1 0 + count p) e ∙ more (count p)
  where
    more : (n : ℕ) → 1 + n ≡ suc n
    more n = omega arith

-- ---- texts of terms: nothing, or a sum
data AreTerms (names : Names) (open_left : ℕ) : List ℕ → mean.Element → Type 0 where
  none : {v : mean.Element} → v ≡ mean.zero → AreTerms names open_left [] v
  some : {text : List ℕ} {v : mean.Element} → IsSum names open_left text v → AreTerms names open_left text v

terms-same : (names : Names) (open_left : ℕ) (text : List ℕ) (u v : mean.Element) → u ≡ v → AreTerms names open_left text u → AreTerms names open_left text v
terms-same names open_left text u v e t = subst (AreTerms names open_left text) e t

add_text-is : (names : Names) (open_left : ℕ) (higher term : List ℕ) (u v : mean.Element) → AreTerms names open_left higher u → IsSum names open_left term v →
    AreTerms names open_left (add_text higher term) (u +ₑ v)
add_text-is names open_left [] term u v (none e) s = some (sum-same names open_left term v (u +ₑ v) (sym (ap (λ w. w +ₑ v) e ∙ zero-plus v)) s)
add_text-is names open_left higher term u v (some h) s =
    subst (λ text. AreTerms names open_left text (u +ₑ v)) (sym with_sign) (some (add-is_sum names open_left higher term u v h s))
  where
    no_nothing : (length higher == 0) ≡ false
    no_nothing = ap (λ text. length text == 0) h.begins.is ∙ ne_eqb (suc (length h.begins.more)) 0 (λ z. omega arith)

    with_sign : add_text higher term ≡ higher ++ following term
    with_sign = ap (λ (b : Bool). higher ++ ((if b || is_signed term then [] else codes "+") ++ term)) no_nothing

module _ (names : Names) (print : Element → Printed) (n height : ℕ)
    (printed : (c : Element) → IsElement c → Within n c → (k : ℕ) → height ≤ k → IsPrinted names k (print c) (meaning c))
    (name : List ℕ) (t : mean.Element) (named : (k : ℕ) → IsAtom names k name t) where
  -- ---- terms
  terms-printed : (k e : ℕ) (cs : List Element) → height ≤ k → e + length cs ≤ 9999 → AllValid IsElement cs → AllWithin n cs →
      AreTerms names (suc k) (print_terms print name e cs) (t ^ₑ e *ₑ value_of cs t)
  terms-printed k e [] low small valid within = none (no_value (t ^ₑ e))
  terms-printed k e (c ∷ cs) low small valid within =
      by_test (element.is_zero c) refl (terms-printed k (suc e) cs low (omega arith) valid.1 within.1)
    where
      by_test : (z : Bool) → element.is_zero c ≡ z → AreTerms names (suc k) (print_terms print name (suc e) cs) (t ^ₑ suc e *ₑ value_of cs t) →
          AreTerms names (suc k) (if z then print_terms print name (suc e) cs else add_text (print_terms print name (suc e) cs) (print_term name c (print c) e)) (t ^ₑ e *ₑ value_of (c ∷ cs) t)
      by_test true is higher =
          terms-same names (suc k) _ (t ^ₑ suc e *ₑ value_of cs t) (t ^ₑ e *ₑ value_of (c ∷ cs) t)
          (ap (λ w. w *ₑ value_of cs t) (power-suc t e) ∙ zero_more (t ^ₑ e) (meaning c) t (value_of cs t) ((zero-told c valid.0).0 is)) higher
      by_test false is higher =
          terms-same names (suc k) _ (t ^ₑ suc e *ₑ value_of cs t +ₑ meaning c *ₑ t ^ₑ e) (t ^ₑ e *ₑ value_of (c ∷ cs) t)
          (ap (λ w. w *ₑ value_of cs t +ₑ meaning c *ₑ t ^ₑ e) (power-suc t e) ∙ more_value (t ^ₑ e) (meaning c) t (value_of cs t))
          (add_text-is names (suc k) (print_terms print name (suc e) cs) (print_term name c (print c) e) (t ^ₑ suc e *ₑ value_of cs t) (meaning c *ₑ t ^ₑ e) higher
          (term-sum names k c (print c) (printed c valid.0 within.0 k low) (printed c valid.0 within.0 (suc k) (omega arith)) name t (named (suc k)) e (omega arith)))

  -- ---- polynomials
  zero-sum : (k : ℕ) → IsSum names k (codes "0") mean.zero
  zero-sum k =
      let digits : codes "0" ≡ 48 ∷ [] = refl in
      subst (λ text. IsSum names k text mean.zero) (decimal_digit 0 (omega arith))
      (sum-same names k _ (integer (pos 0)) mean.zero integer-zero
      (term-is_sum names k _ _ (power-is_term names k _ _ (atom-is_power names k _ _ (number-is_atom names k _ 0 (decimal-is_number 0 (omega arith)) (omega arith))))))

  or_zero-sum : (k : ℕ) (text : List ℕ) (v : mean.Element) → AreTerms names k text v → IsSum names k (or_zero text) v
  or_zero-sum k [] v (none e) = sum-same names k (codes "0") mean.zero v (sym e) (zero-sum k)
  or_zero-sum k text v (some h) = subst (λ (b : Bool). IsSum names k (if b then codes "0" else text) v) (sym no_nothing) h
    where
      no_nothing : (length text == 0) ≡ false
      no_nothing = ap (λ r. length r == 0) h.begins.is ∙ ne_eqb (suc (length h.begins.more)) 0 (λ z. omega arith)

  first-value : (v : mean.Element) → t ^ₑ 0 *ₑ v ≡ v
  first-value v = ap (λ w. w *ₑ v) (power-zero t) ∙ one-times v
    where
      one-times : (u : mean.Element) → mean.one *ₑ u ≡ u
      one-times u = ring elements.ring (u ∷ []) (search reading depth 20) refl

  -- a polynomial is printed as a sum of its value
  pub polynomial-printed : (k : ℕ) (p : List Element) → height ≤ k → IsPolynomial p → AllWithin n p → IsSum names (suc k) (print_polynomial print name p) (value_of p t)
  unfolding print_polynomial
  polynomial-printed k p low kept within =
      let small = kept.degree_small in
      or_zero-sum (suc k) (print_terms print name 0 p) (value_of p t)
      (terms-same names (suc k) (print_terms print name 0 p) (t ^ₑ 0 *ₑ value_of p t) (value_of p t) (first-value (value_of p t)) (terms-printed k 0 p low (omega arith) kept.all_valid within))

  -- ---- a single term
  record AreNone (e : ℕ) (cs : List Element) : Type 0 where
    text : print_terms print name e cs ≡ []
    value : value_of cs t ≡ mean.zero

  no_terms : (e : ℕ) (cs : List Element) → AllValid IsElement cs → count cs ≡ 0 → AreNone e cs
  no_terms e [] valid h = record { text = refl; value = refl }
  no_terms e (c ∷ cs) valid h = by_test (element.is_zero c) refl (λ g. no_terms (suc e) cs valid.1 g)
    where
      by_test : (z : Bool) → element.is_zero c ≡ z → (count cs ≡ 0 → AreNone (suc e) cs) → AreNone e (c ∷ cs)
      by_test true is rest =
          let r = rest (sym (count-zero c cs is) ∙ h) in
          record {
            text = ap (λ (z : Bool). if z then print_terms print name (suc e) cs else add_text (print_terms print name (suc e) cs) (print_term name c (print c) e)) is ∙ r.text;
            value = ap₂ (λ a b. a +ₑ t *ₑ b) ((zero-told c valid.0).0 is) r.value ∙ nothing_more t;
          }
      by_test false is rest = let more : suc (count cs) ≡ 0 = sym (count-some c cs is) ∙ h in absurd (omega (arith, more))

  one_term : (k e : ℕ) (cs : List Element) → height ≤ k → 0 < e → e + length cs ≤ 9999 → AllValid IsElement cs → AllWithin n cs → count cs ≡ 1 →
      IsSignedTerm names (suc k) (print_terms print name e cs) (t ^ₑ e *ₑ value_of cs t)
  one_term k e [] low some_e small valid within h = absurd (cc)
  one_term k e (c ∷ cs) low some_e small valid within h = by_test (element.is_zero c) refl (λ g. one_term k (suc e) cs low (omega arith) (omega arith) valid.1 within.1 g)
    where
      by_test : (z : Bool) → element.is_zero c ≡ z → (count cs ≡ 1 → IsSignedTerm names (suc k) (print_terms print name (suc e) cs) (t ^ₑ suc e *ₑ value_of cs t)) →
          IsSignedTerm names (suc k) (print_terms print name e (c ∷ cs)) (t ^ₑ e *ₑ value_of (c ∷ cs) t)
      by_test true is rest =
          subst (λ (z : Bool). IsSignedTerm names (suc k) (if z then print_terms print name (suc e) cs else add_text (print_terms print name (suc e) cs) (print_term name c (print c) e)) (t ^ₑ e *ₑ value_of (c ∷ cs) t)) (sym is)
          (signed-same names (suc k) _ (t ^ₑ suc e *ₑ value_of cs t) (t ^ₑ e *ₑ value_of (c ∷ cs) t)
          (ap (λ w. w *ₑ value_of cs t) (power-suc t e) ∙ zero_more (t ^ₑ e) (meaning c) t (value_of cs t) ((zero-told c valid.0).0 is)) (rest (sym (count-zero c cs is) ∙ h)))
      by_test false is rest =
          let more : suc (count cs) ≡ 1 = sym (count-some c cs is) ∙ h in
          let r = no_terms (suc e) cs valid.1 (omega (arith, more)) in
          subst (λ (z : Bool). IsSignedTerm names (suc k) (if z then print_terms print name (suc e) cs else add_text (print_terms print name (suc e) cs) (print_term name c (print c) e)) (t ^ₑ e *ₑ value_of (c ∷ cs) t)) (sym is)
          (subst (λ higher. IsSignedTerm names (suc k) (add_text higher (print_term name c (print c) e)) (t ^ₑ e *ₑ value_of (c ∷ cs) t)) (sym r.text)
          (signed-same names (suc k) _ (meaning c *ₑ t ^ₑ e) (t ^ₑ e *ₑ value_of (c ∷ cs) t) (last_value (t ^ₑ e) (meaning c) t (value_of cs t) r.value)
          (high_term names k c (print c) (printed c valid.0 within.0 k low) (printed c valid.0 within.0 (suc k) (omega arith)) name t (named (suc k)) e some_e (omega arith))))

  -- where all coefficients but the first are 0, the polynomial is a constant
  all_dropped : (cs : List Element) → count cs ≡ 0 → poly.trimmed element cs ≡ []
  all_dropped [] h = refl
  all_dropped (c ∷ cs) h = by_test (element.is_zero c) refl (λ g. all_dropped cs g)
    where
      by_test : (z : Bool) → element.is_zero c ≡ z → (count cs ≡ 0 → poly.trimmed element cs ≡ []) → poly.trimmed element (c ∷ cs) ≡ []
      by_test true is rest = ap (poly.leading element c) (rest (sym (count-zero c cs is) ∙ h)) ∙ ap (λ (z : Bool). if z then [] else c ∷ []) is
      by_test false is rest = let more : suc (count cs) ≡ 0 = sym (count-some c cs is) ∙ h in absurd (omega (arith, more))

  short_leading : (c : Element) → length (poly.leading element c []) ≤ 1
  short_leading c = by_test (element.is_zero c)
    where
      by_test : (z : Bool) → length (if z then [] else c ∷ []) ≤ 1
      by_test true = omega arith
      by_test false = omega arith

  some_higher : (c : Element) (cs : List Element) → poly.trimmed element (c ∷ cs) ≡ c ∷ cs → 0 < length cs → 0 < count cs
  some_higher c cs whole long = by_count (count cs) refl
    where
      by_count : (m : ℕ) → count cs ≡ m → 0 < m
      by_count zero h =
          let short = short_leading c in
          let same : length (poly.leading element c []) ≡ suc (length cs) = ap length (sym (ap (poly.leading element c) (all_dropped cs h)) ∙ whole) in
          absurd (omega (arith, short, same))
      by_count (suc m) h = omega arith

  -- a polynomial of degree at least 1 with one coefficient that is not 0 is printed as a single term
  pub single-printed : (k : ℕ) (p : List Element) → height ≤ k → IsPolynomial p → AllWithin n p → 1 < length p → is_sum p ≡ false →
      IsSignedTerm names (suc k) (print_polynomial print name p) (value_of p t)
  unfolding print_polynomial
  single-printed k [] low kept within long alone = absurd (omega arith)
  single-printed k (c ∷ cs) low kept within long alone = by_test (element.is_zero c) refl
    where
      small : suc (length cs) ≤ 256
      small = kept.degree_small

      higher : 0 < count cs
      higher = some_higher c cs kept.ends_not_zero (omega arith)

      few : count (c ∷ cs) ≤ 1
      few = let h = leb-false 2 (count (c ∷ cs)) alone in omega (arith, h)

      nonempty : (text : List ℕ) (v : mean.Element) → IsSignedTerm names (suc k) text v → IsSignedTerm names (suc k) (or_zero text) v
      nonempty text v s =
          let b = (signed-is_sum names (suc k) text v s).begins in
          let no_nothing : (length text == 0) ≡ false = ap (λ r. length r == 0) b.is ∙ ne_eqb (suc (length b.more)) 0 (λ z. omega arith) in
          subst (λ (z : Bool). IsSignedTerm names (suc k) (if z then codes "0" else text) v) (sym no_nothing) s

      by_test : (z : Bool) → element.is_zero c ≡ z → IsSignedTerm names (suc k) (or_zero (print_terms print name 0 (c ∷ cs))) (value_of (c ∷ cs) t)
      by_test true is =
          let same : count (c ∷ cs) ≡ count cs = count-zero c cs is in
          let one : count cs ≡ 1 = omega (arith, same, few, higher) in
          subst (λ (z : Bool). IsSignedTerm names (suc k) (or_zero (if z then print_terms print name 1 cs else add_text (print_terms print name 1 cs) (print_term name c (print c) 0))) (value_of (c ∷ cs) t)) (sym is)
          (nonempty (print_terms print name 1 cs) (value_of (c ∷ cs) t)
          (signed-same names (suc k) (print_terms print name 1 cs) (t ^ₑ 1 *ₑ value_of cs t) (value_of (c ∷ cs) t)
          (ap (λ w. w *ₑ value_of cs t) (power-suc t 0) ∙ zero_more (t ^ₑ 0) (meaning c) t (value_of cs t) ((zero-told c kept.all_valid.0).0 is) ∙ first-value (value_of (c ∷ cs) t))
          (one_term k 1 cs low (omega arith) (omega arith) kept.all_valid.1 within.1 one)))
      by_test false is = let more : count (c ∷ cs) ≡ suc (count cs) = count-some c cs is in absurd (omega (arith, more, few, higher))

  -- ---- quotients
  unit-value : (m : List Element) → AllValid IsElement m → poly.is_one element m ≡ true → value_of m t ≡ mean.one
  unfolding element IsElement meaning
  unit-value [] valid h = absurd (cc)
  unit-value (c ∷ []) valid h = ap (λ a. a +ₑ t *ₑ mean.zero) ((level_tells_one 5).one_is c valid.0 h) ∙ alone t
    where
      alone : (t : mean.Element) → mean.one +ₑ t *ₑ mean.zero ≡ mean.one
      alone t = ring elements.ring (t ∷ []) (search reading depth 20) refl
  unit-value (c ∷ (d ∷ m)) valid h = absurd (cc)

  -- p/q for p of degree at least 1 where q is 1
  pub ratio-printed : (k : ℕ) (p q : List Element) → height ≤ k → IsPolynomial p → IsPolynomial q → AllWithin n p → AllWithin n q → ¬ (value_of q t ≡ mean.zero) → InField 5 (value_of q t) →
      (poly.is_one element q ≡ true → 1 < length p) → IsPrinted names (suc (suc k)) (print_ratio print name p q) (value_of p t /ₑ value_of q t)
  unfolding print_ratio
  ratio-printed k p q low kp kq wp wq some_q inside_q occurs = by_test (poly.is_one element q) refl
    where
      by_test : (one : Bool) → poly.is_one element q ≡ one →
          IsPrinted names (suc (suc k)) (if one then record { text = print_polynomial print name p; long = is_sum p } else record { text = print_quotient (print_polynomial print name p) (print_polynomial print name q); long = false })
          (value_of p t /ₑ value_of q t)
      by_test true is =
          let same : value_of p t ≡ value_of p t /ₑ value_of q t = sym (ap (λ d. value_of p t /ₑ d) (unit-value q kq.all_valid is ∙ sym integer-one) ∙ over-one (value_of p t)) in
          record {
            is_sum = sum-same names (suc (suc k)) (print_polynomial print name p) (value_of p t) (value_of p t /ₑ value_of q t) same (polynomial-printed (suc k) p (omega arith) kp wp);
            short = λ alone. signed-same names (suc (suc k)) (print_polynomial print name p) (value_of p t) (value_of p t /ₑ value_of q t) same (single-printed (suc k) p (omega arith) kp wp (occurs is) alone);
          }
      by_test false is =
          let s : IsTerm names (suc (suc k)) (print_quotient (print_polynomial print name p) (print_polynomial print name q)) (value_of p t /ₑ value_of q t)
          = quotient-term names (suc k) (print_polynomial print name p) (print_polynomial print name q) (value_of p t) (value_of q t) (polynomial-printed k p low kp wp)
          (polynomial-printed (suc k) p (omega arith) kp wp) (polynomial-printed k q low kq wq) (polynomial-printed (suc k) q (omega arith) kq wq) some_q inside_q in
          record { is_sum = term-is_sum names (suc (suc k)) _ _ s; short = λ e. plain s }
