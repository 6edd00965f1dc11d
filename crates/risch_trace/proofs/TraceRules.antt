-- The rules of the remainder and the trace modulo a monic polynomial d over the elements: they are those of the algebra, and lead to no new variable.
--     remainder-means      p rem d stands for the remainder of ⟦p⟧
--     raised-means      t^i·p
--     trace-stands, trace-is_element      the trace
--     remainder-within, raised-within, trace-within      the variables that occur
use Rattle.std.specs.Prelude.{if◌then◌else◌, nat_le, replicate}
use Rattle.std.proofs.Common.{◌≡◌, refl, sym, ap, ap₂, ◌∙◌, ℕ, zero, suc, ◌+◌, ◌-◌, ◌≤◌, ◌<◌, leb, Bool, true, false, List, [], ◌∷◌, ◌++◌, map, length, Ok, Err, arith, subst, length-append, append-nil}
use Rattle.std.proofs.lemmas.List.{length-map, length-replicate, map-append}
use Rattle.std.proofs.lemmas.Bool.{leb-true}
use Rattle.risch_ring.proofs.Laws as Laws
use Rattle.risch_mean.specs.Element as mean
use Rattle.risch_mean.specs.ElementField.{elements}
use Rattle.risch_mean.specs.Univariate.{coefficient_at}
use Rattle.risch_mean.specs.Algebra as algebra
use Rattle.risch_mean.specs.ElementPolynomials.{monic_polynomial, remainder_modulo, z_times_modulo, trace_modulo}
use Rattle.risch_univariate.specs.Polynomial.{of_list}
use Rattle.risch_univariate.specs.PolynomialRing.{polynomials}
use Rattle.risch_univariate.specs.Degree.{size}
use Rattle.risch_field.specs.Checked.{and_then}
use Rattle.risch_field.specs.declared.Fail.TheVariants.{Size}
use Rattle.risch_field.proofs.CheckedSteps.{and_then-ok}
use Rattle.risch_polynomial.specs.Poly as poly
use Rattle.risch_polynomial_theory.specs.Meaning.{AllValid}
use Rattle.risch_polynomial_theory.proofs.PolynomialValues as Values
use Rattle.risch_level.specs.Levels.{Element, element}
use Rattle.risch_element_theory.specs.PolynomialMeaning.{polynomial_of}
use Rattle.risch_element_theory.specs.WholeTower.{IsElement, IsPolynomial, meaning, polynomial, Within, AllWithin}
use Rattle.risch_element_theory.proofs.ElementLaws.{zero-is_element, sum-is_element, sum-stands}
use Rattle.risch_element_theory.proofs.ElementPolynomials.{element_interprets, division-stands, remainder-is_polynomial}
use Rattle.risch_element_theory.proofs.ElementWithin.{zero-element-within, sum-element-within}
use Rattle.risch_element_theory.proofs.PolynomialRules as Rules
use Rattle.risch_element_theory.proofs.PolynomialsWithin as Within
use Rattle.risch_element_theory.proofs.PolynomialsWithin.{within-closed}
use Rattle.risch_element_theory.proofs.CoefficientProperties as Properties
use Rattle.risch_trace.specs.Traces.{raised, remainder, diagonal, trace_from, trace}
use Rattle.risch_trace.proofs.Remainders as Remainders
use Rattle.risch_trace.proofs.Remainders.{modulus_of}

-- ---- lists
map-replicate : (k : ℕ) (e : Element) → map meaning (replicate k e) ≡ replicate k (meaning e)
map-replicate zero e = refl
map-replicate (suc k) e = ap (λ (l : List mean.Element). meaning e ∷ l) (map-replicate k e)

-- zeros stand for zeros
pub meaning-zeros : (k : ℕ) → map meaning (replicate k element.zero) ≡ replicate k mean.zero
meaning-zeros k = map-replicate k element.zero ∙ ap (replicate k) element_interprets.zero-means

append-valid : (p q : List Element) → AllValid IsElement p → AllValid IsElement q → AllValid IsElement (p ++ q)
append-valid [] q all_p all_q = all_q
append-valid (c ∷ p) q all_p all_q = (all_p.0, append-valid p q all_p.1 all_q)

append-within : (n : ℕ) (p q : List Element) → AllWithin n p → AllWithin n q → AllWithin n (p ++ q)
append-within n [] q all_p all_q = all_q
append-within n (c ∷ p) q all_p all_q = (all_p.0, append-within n p q all_p.1 all_q)

zeros-within : (n k : ℕ) → AllWithin n (replicate k element.zero)
zeros-within n zero = tt
zeros-within n (suc k) = (zero-element-within n, zeros-within n k)

pub filled-within : (n : ℕ) (p : List Element) (k : ℕ) → AllWithin n p → AllWithin n (p ++ replicate k element.zero)
filled-within n p k all = append-within n p (replicate k element.zero) all (zeros-within n k)

pub filled-valid : (p : List Element) (k : ℕ) → AllValid IsElement p → AllValid IsElement (p ++ replicate k element.zero)
filled-valid p k all = append-valid p (replicate k element.zero) all (Values.zeros-valid element_interprets k)

coefficient-meaning : (p : List Element) (i : ℕ) → meaning (poly.coefficient element p i) ≡ coefficient_at elements.ring i (map meaning p)
coefficient-meaning [] i = element_interprets.zero-means
coefficient-meaning (c ∷ p) zero = refl
coefficient-meaning (c ∷ p) (suc i) = coefficient-meaning p i

coefficient_at-zeros : (i k : ℕ) → coefficient_at elements.ring i (replicate k mean.zero) ≡ mean.zero
coefficient_at-zeros i zero = refl
coefficient_at-zeros zero (suc k) = refl
coefficient_at-zeros (suc i) (suc k) = coefficient_at-zeros i k

coefficient_at-filled : (i : ℕ) (p : List mean.Element) (k : ℕ) → coefficient_at elements.ring i (p ++ replicate k mean.zero) ≡ coefficient_at elements.ring i p
coefficient_at-filled i [] k = coefficient_at-zeros i k
coefficient_at-filled zero (c ∷ p) k = refl
coefficient_at-filled (suc i) (c ∷ p) k = coefficient_at-filled i p k

-- the remainder of ⟦p⟧ is that of its coefficients
pub remainder-polynomial : (r : List mean.Element) (some : 1 ≤ length r) (p : List Element) → Remainders.remainder_of elements r some (polynomial p) ≡ remainder_modulo r (map meaning p)
unfolding polynomial_of
remainder-polynomial r some p = Remainders.remainder_of-of_list elements r some (map meaning p)

-- ---- t^i·p
trimmed-some : (c : Element) (p : List Element) → 0 < length p → poly.leading element c p ≡ c ∷ p
trimmed-some c [] some = absurd (omega arith)
trimmed-some c (d ∷ p) some = refl

pub trimmed-raised : (i : ℕ) (p : List Element) → 0 < length p → poly.trimmed element p ≡ p → poly.trimmed element (replicate i element.zero ++ p) ≡ replicate i element.zero ++ p
trimmed-raised zero p some e = e
trimmed-raised (suc i) p some e =
    ap (poly.leading element element.zero) (trimmed-raised i p some e)
    ∙ trimmed-some element.zero (replicate i element.zero ++ p) (omega (arith, length-append (replicate i element.zero) p))

record IsRaised (i : ℕ) (u p : List Element) : Type 0 where
  is : p ≡ replicate i element.zero ++ u
  small : i + length u ≤ 256

if-le : {A : Type 0} (m n : ℕ) (a b : A) → (if nat_le m n then Ok a else Err Size) ≡ Ok b → (b ≡ a) × (m ≤ n)
if-le {A = A} m n a b e = by_test (leb m n) refl e
  where
    by_test : (t : Bool) → leb m n ≡ t → (if t then Ok a else Err Size) ≡ Ok b → (b ≡ a) × (m ≤ n)
    by_test true h e = (let same : b ≡ a = cc in same, leb-true m n h)
    by_test false h e = cc

raised-is : (i : ℕ) (c : Element) (u p : List Element) → raised i (c ∷ u) ≡ Ok p → IsRaised i (c ∷ u) p
unfolding raised
raised-is i c u p e =
    let h = if-le (i + length (c ∷ u)) 256 (replicate i element.zero ++ c ∷ u) p e in
    record { is = h.0; small = h.1 }

pub raised-is_polynomial : (i : ℕ) (u p : List Element) → IsPolynomial u → raised i u ≡ Ok p → IsPolynomial p
unfolding raised
raised-is_polynomial i [] p k e = let none : [] ≡ p = cc in subst IsPolynomial none k
raised-is_polynomial i (c ∷ u) p k e =
    let h = raised-is i c u p e in
    let small = h.small in
    subst IsPolynomial (sym h.is) (record {
      all_valid = append-valid (replicate i element.zero) (c ∷ u) (Values.zeros-valid element_interprets i) k.all_valid;
      ends_not_zero = trimmed-raised i (c ∷ u) (omega arith) k.ends_not_zero;
      degree_small = omega (arith, small, length-append (replicate i element.zero) (c ∷ u), length-replicate i element.zero);
    })

pub raised-within : (n i : ℕ) (u p : List Element) → AllWithin n u → raised i u ≡ Ok p → AllWithin n p
unfolding raised
raised-within n i [] p all e = let none : [] ≡ p = cc in subst (AllWithin n) none all
raised-within n i (c ∷ u) p all e = subst (AllWithin n) (sym (raised-is i c u p e).is) (append-within n (replicate i element.zero) (c ∷ u) (zeros-within n i) all)

-- z^i·u has the same remainder
pub raised-means : (r : List mean.Element) → 1 ≤ length r → (i : ℕ) (u p : List Element) → raised i u ≡ Ok p →
    remainder_modulo r (map meaning p) ≡ remainder_modulo r (replicate i mean.zero ++ map meaning u)
unfolding raised
raised-means r some i [] p e =
    let none : p ≡ [] = cc in
    ap (λ q. remainder_modulo r (map meaning q)) none ∙ sym (ap (remainder_modulo r) (append-nil (replicate i mean.zero)) ∙ Remainders.remainder-replicate elements r some i)
raised-means r some i (c ∷ u) p e =
    ap (λ q. remainder_modulo r (map meaning q)) (raised-is i c u p e).is
    ∙ ap (remainder_modulo r) (map-append meaning (replicate i element.zero) (c ∷ u) ∙ ap (λ l. l ++ map meaning (c ∷ u)) (meaning-zeros i))

-- ---- modulo d
-- d is a polynomial of degree at least 1, monic, and r its coefficients below the leading one
pub record IsMonicWith (d : List Element) (r : List mean.Element) : Type 0 where
  pub kept : IsPolynomial d
  pub some : 1 ≤ length r
  pub means : map meaning d ≡ monic_polynomial r

-- p rem d = x has at most m coefficients, and is the remainder
pub record IsRemainder (r : List mean.Element) (p x : List Element) : Type 0 where
  pub kept : IsPolynomial x
  pub short : length x ≤ length r
  pub means : remainder_modulo r (map meaning p) ≡ remainder_modulo r (map meaning x)

module _ (d : List Element) (r : List mean.Element) (m : IsMonicWith d r) where
  pub length-modulus : length d ≡ suc (length r)
  length-modulus = sym (length-map d meaning) ∙ ap length m.means ∙ Remainders.length-with_leading_one elements r

  pub polynomial-modulus : polynomial d ≡ modulus_of elements r
  unfolding polynomial_of
  polynomial-modulus = ap (of_list elements) m.means

  pub remainder-means : (p x : List Element) → IsPolynomial p → remainder p d ≡ Ok x → IsRemainder r p x
  unfolding remainder
  remainder-means p x k e =
      let s = and_then-ok (poly.division element p d) (λ x. Ok x.1) x e in
      let is : poly.division element p d ≡ Ok (s.value.0, s.value.1) = s.is in
      let same : s.value.1 ≡ x = let next : Ok s.value.1 ≡ Ok x = s.next in cc in
      subst (IsRemainder r p) same (of_division s.value.0 s.value.1 is)
    where
      of_division : (a x : List Element) → poly.division element p d ≡ Ok (a, x) → IsRemainder r p x
      of_division a x is =
          let some : 0 < length d = omega (arith, length-modulus) in
          let kept = remainder-is_polynomial p d a x k m.kept some is in
          let division = division-stands p d a x k m.kept some is in
          let below : size elements (polynomial x) < size elements (polynomial d) = division.smaller in
          let size_d : size elements (polynomial d) ≡ suc (length r) = ap (size elements) polynomial-modulus ∙ Remainders.size-modulus elements r in
          let size_x : size elements (polynomial x) ≡ length x = Rules.size-polynomial_of elements element_interprets x kept in
          record {
            kept = kept;
            short = omega (arith, below, size_d, size_x);
            means =
                sym (remainder-polynomial r m.some p)
                ∙ Remainders.remainder_of-division elements r m.some (polynomial p) (polynomial a) (polynomial x)
                (record {
                  equation = division.equation ∙ ap (λ q. (polynomials elements).add ((polynomials elements).mul (polynomial a) q) (polynomial x)) polynomial-modulus;
                  smaller = subst (λ q. size elements (polynomial x) < size elements q) polynomial-modulus division.smaller;
                })
                ∙ remainder-polynomial r m.some x;
          }

  -- the coefficients of the remainder
  pub remainder-whole : (p x : List Element) → IsPolynomial p → remainder p d ≡ Ok x → remainder_modulo r (map meaning p) ≡ map meaning x ++ replicate (length r - length x) mean.zero
  remainder-whole p x k e =
      let h = remainder-means p x k e in
      let short = h.short in
      h.means ∙ Remainders.remainder-short elements r m.some (map meaning x) (omega (arith, short, length-map x meaning))
      ∙ ap (λ (n : ℕ). map meaning x ++ replicate (length r - n) mean.zero) (length-map x meaning)

  -- ---- the trace
  -- z^i·u modulo R
  abbrev power : (i : ℕ) (u : List Element) → List mean.Element
  power i u = remainder_modulo r (replicate i mean.zero ++ map meaning u)

  power-next : (i : ℕ) (u : List Element) → power (suc i) u ≡ z_times_modulo r (power i u)
  power-next i u = Remainders.remainder-shift elements r m.some (replicate i mean.zero ++ map meaning u)

  record IsDiagonal (u : List Element) (i : ℕ) (c : Element) : Type 0 where
    normal : IsElement c
    means : meaning c ≡ coefficient_at elements.ring i (power i u)

  diagonal-means : (u : List Element) (i : ℕ) (c : Element) → IsPolynomial u → diagonal d u i ≡ Ok c → IsDiagonal u i c
  unfolding diagonal
  diagonal-means u i c k e =
      let a = and_then-ok (raised i u) (λ p. and_then (remainder p d) (λ x. Ok (poly.coefficient element x i))) c e in
      let b = and_then-ok (remainder a.value d) (λ x. Ok (poly.coefficient element x i)) c a.next in
      let same : poly.coefficient element b.value i ≡ c = let next : Ok (poly.coefficient element b.value i) ≡ Ok c = b.next in cc in
      let kept = raised-is_polynomial i u a.value k a.is in
      let h = remainder-means a.value b.value kept b.is in
      let whole = remainder-whole a.value b.value kept b.is in
      subst (IsDiagonal u i) same (record {
        normal = Values.coefficient-valid element_interprets b.value i h.kept.all_valid;
        means =
            coefficient-meaning b.value i ∙ sym (coefficient_at-filled i (map meaning b.value) (length r - length b.value))
            ∙ ap (coefficient_at elements.ring i) (sym whole ∙ raised-means r m.some i u a.value a.is);
      })

  record IsSumFrom (u : List Element) (total : Element) (i steps : ℕ) (e : Element) : Type 0 where
    normal : IsElement e
    means : meaning e ≡ mean.add (meaning total) (algebra.trace_from elements.ring r steps i (power i u))

  trace_from-means : (u : List Element) → IsPolynomial u → (steps : ℕ) (total : Element) (i : ℕ) (e : Element) → IsElement total → trace_from d u total i steps ≡ Ok e →
      IsSumFrom u total i steps e
  trace_from-means u k zero total i e v is =
      let same : total ≡ e = cc in
      subst (IsSumFrom u total i zero) same (record { normal = v; means = sym (elements.ring.add-zero (meaning total)) })
  trace_from-means u k (suc steps) total i e v is =
      let a = and_then-ok (diagonal d u i) (λ c. and_then (element.sum total c) (λ s. trace_from d u s (i + 1) steps)) e is in
      let b = and_then-ok (element.sum total a.value) (λ s. trace_from d u s (i + 1) steps) e a.next in
      let c = diagonal-means u i a.value k a.is in
      let place : i + 1 ≡ suc i = omega arith in
      let next = trace_from-means u k steps b.value (i + 1) e (sum-is_element total a.value b.value v c.normal b.is) b.next in
      record {
        normal = next.normal;
        means =
            next.means
            ∙ ap₂ mean.add (sum-stands total a.value b.value v c.normal b.is ∙ ap (mean.add (meaning total)) c.means)
            (ap (λ (j : ℕ). algebra.trace_from elements.ring r steps j (power j u)) place ∙ ap (algebra.trace_from elements.ring r steps (suc i)) (power-next i u))
            ∙ elements.ring.add_assoc (meaning total) (coefficient_at elements.ring i (power i u)) (algebra.trace_from elements.ring r steps (suc i) (z_times_modulo r (power i u)));
      }

  trace-sum : (u : List Element) (e : Element) → IsPolynomial u → trace d u ≡ Ok e → IsSumFrom u element.zero 0 (length r) e
  unfolding trace
  trace-sum u e k is =
      let steps : length d - 1 ≡ length r = omega (arith, length-modulus) in
      trace_from-means u k (length r) element.zero 0 e zero-is_element (ap (trace_from d u element.zero 0) (sym steps) ∙ is)

  pub trace-is_element : (u : List Element) (e : Element) → IsPolynomial u → trace d u ≡ Ok e → IsElement e
  trace-is_element u e k is = (trace-sum u e k is).normal

  -- the trace of the remainder of ⟦u⟧
  pub trace-stands : (u : List Element) (e : Element) → IsPolynomial u → trace d u ≡ Ok e → meaning e ≡ trace_modulo r (remainder_modulo r (map meaning u))
  trace-stands u e k is =
      (trace-sum u e k is).means ∙ ap (λ (x : mean.Element). mean.add x (trace_modulo r (remainder_modulo r (map meaning u)))) element_interprets.zero-means
      ∙ Laws.zero-add elements.ring (trace_modulo r (remainder_modulo r (map meaning u)))

-- ---- the variables that occur
pub remainder-within : (n : ℕ) (d p x : List Element) → AllWithin n p → AllWithin n d → remainder p d ≡ Ok x → AllWithin n x
unfolding remainder
remainder-within n d p x all_p all_d e =
    let s = and_then-ok (poly.division element p d) (λ x. Ok x.1) x e in
    let is : poly.division element p d ≡ Ok (s.value.0, s.value.1) = s.is in
    let same : s.value.1 ≡ x = let next : Ok s.value.1 ≡ Ok x = s.next in cc in
    subst (AllWithin n) same (Within.remainder-within n p d s.value.0 s.value.1 all_p all_d is)

diagonal-within : (n : ℕ) (d u : List Element) (i : ℕ) (c : Element) → AllWithin n d → AllWithin n u → diagonal d u i ≡ Ok c → Within n c
unfolding diagonal
diagonal-within n d u i c all_d all_u is =
    let a = and_then-ok (raised i u) (λ p. and_then (remainder p d) (λ x. Ok (poly.coefficient element x i))) c is in
    let b = and_then-ok (remainder a.value d) (λ x. Ok (poly.coefficient element x i)) c a.next in
    let same : poly.coefficient element b.value i ≡ c = let next : Ok (poly.coefficient element b.value i) ≡ Ok c = b.next in cc in
    subst (Within n) same (Properties.coefficient-keeps (within-closed n) b.value i (remainder-within n d a.value b.value (raised-within n i u a.value all_u a.is) all_d b.is))

trace_from-within : (n : ℕ) (d u : List Element) → AllWithin n d → AllWithin n u → (steps : ℕ) (total : Element) (i : ℕ) (e : Element) → Within n total → trace_from d u total i steps ≡ Ok e → Within n e
trace_from-within n d u all_d all_u zero total i e v is = let same : total ≡ e = cc in subst (Within n) same v
trace_from-within n d u all_d all_u (suc steps) total i e v is =
    let a = and_then-ok (diagonal d u i) (λ c. and_then (element.sum total c) (λ s. trace_from d u s (i + 1) steps)) e is in
    let b = and_then-ok (element.sum total a.value) (λ s. trace_from d u s (i + 1) steps) e a.next in
    trace_from-within n d u all_d all_u steps b.value (i + 1) e (sum-element-within n total a.value b.value v (diagonal-within n d u i a.value all_d all_u a.is) b.is) b.next

pub trace-within : (n : ℕ) (d u : List Element) (e : Element) → AllWithin n d → AllWithin n u → trace d u ≡ Ok e → Within n e
unfolding trace
trace-within n d u e all_d all_u is = trace_from-within n d u all_d all_u (length d - 1) element.zero 0 e (zero-element-within n) is
