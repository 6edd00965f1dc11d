-- The rule of the square-free parts of a monic polynomial p over the elements: they are its parts in K[t], and lead to no new variable.
--     square_free_parts-mean      each is monic and square-free, they are pairwise coprime, and ⟦p⟧ = ⟦p_1⟧·⟦p_2⟧²·..
--     square_free_parts-within      the variables that occur
use Rattle.std.specs.Prelude.{if◌then◌else◌, pos}
use Rattle.std.proofs.Common.{◌≡◌, refl, sym, ap, ◌∙◌, ℕ, zero, suc, ◌+◌, ◌≤◌, Bool, true, false, List, [], ◌∷◌, ◌++◌, map, length, All, Ok, arith, subst, append_assoc, append-nil, ◌⊎◌, inl, inr}
use Rattle.std.proofs.lemmas.List.Elements.{All-nil, All-cons, All-push}
use Rattle.risch_ring.specs.CommRing.{HasCharacteristicZero, of_int}
use Rattle.risch_ring.proofs.Laws as Laws
use Rattle.risch_univariate.specs.Degree.{size, IsMonic}
use Rattle.risch_univariate.specs.Division.{IsGcd}
use Rattle.risch_univariate.specs.PolynomialRing.{polynomials}
use Rattle.risch_univariate.specs.SquareFreeParts.{product_of_powers, AreParts}
use Rattle.risch_univariate.proofs.Degree as Degree
use Rattle.risch_univariate.proofs.FormalDerivative as FormalDerivative
use Rattle.risch_univariate.proofs.Gcd as Gcd
use Rattle.risch_univariate.proofs.SquareFreeParts.{Invariant}
use Rattle.risch_mean.specs.ElementField.{elements}
use Rattle.risch_mean.proofs.IntegerLaws.{integer-is, integer-ne-zero}
use Rattle.risch_field.specs.Checked.{and_then}
use Rattle.risch_field.proofs.CheckedSteps.{and_then-ok}
use Rattle.risch_polynomial.specs.Poly as poly
use Rattle.risch_level.specs.Levels.{Element, element}
use Rattle.risch_element_theory.specs.ElementMeaning.{TellsOne}
use Rattle.risch_element_theory.specs.WholeTower.{IsElement, IsPolynomial, meaning, polynomial, AllWithin}
use Rattle.risch_element_theory.proofs.CoefficientProperties as Properties
use Rattle.risch_element_theory.proofs.DivisionRule as DivisionRule
use Rattle.risch_element_theory.proofs.ElementPolynomials.{element_interprets}
use Rattle.risch_element_theory.proofs.GcdRule as GcdRule
use Rattle.risch_element_theory.proofs.Levels.{level_tells_one}
use Rattle.risch_element_theory.proofs.PolynomialRules as Rules
use Rattle.risch_element_theory.proofs.PolynomialsWithin as Within
use Rattle.risch_element_theory.proofs.PolynomialsWithin.{within-closed}
use Rattle.risch_sub.specs.SquareFree.{parts_from, square_free_parts}
use Rattle.risch_sub.specs.SquareFreeMeaning.{AreSquareFreeParts}
use Rattle.risch_sub.proofs.SquareFreeParts as Parts
use Rattle.risch_sub.proofs.SquareFreeParts.{IsStep, ArePartsFrom}

-- no sum of ones is 0
elements_characteristic_zero : HasCharacteristicZero elements.ring
unfolding of_int
elements_characteristic_zero n e = integer-ne-zero (pos (suc n)) (λ (z : pos (suc n) ≡ pos 0). cc z) (integer-is (pos (suc n)) ∙ e)

-- ---- monic polynomials
element_tells_one : TellsOne elements element IsElement meaning
unfolding element IsElement meaning
element_tells_one = level_tells_one 5

size-is : (p : List Element) → IsPolynomial p → size elements (polynomial p) ≡ length p
size-is p k = Rules.size-polynomial_of elements element_interprets p k

pub monic-not_nil : (p : List Element) → IsMonic elements (polynomial p) → ¬ (p ≡ [])
monic-not_nil p m e = Gcd.monic-nonzero elements (polynomial p) m (ap polynomial e ∙ Rules.polynomial_of-nil elements element_interprets)

monic-size : (p : List Element) → IsMonic elements (polynomial p) → 1 ≤ size elements (polynomial p)
monic-size p m = let some = Degree.size_of_nonzero elements (polynomial p) (Gcd.monic-nonzero elements (polynomial p) m) in omega (arith, some)

-- of degree 0 it is 1
is_one-short : (p : List Element) → poly.is_one element p ≡ true → length p ≤ 1
is_one-short [] e = omega arith
is_one-short (c ∷ []) e = omega arith
is_one-short (c ∷ (d ∷ p)) e = cc

short-is_one : (p : List Element) → IsPolynomial p → IsMonic elements (polynomial p) → length p ≤ 1 → poly.is_one element p ≡ true
short-is_one [] k m l = absurd (monic-not_nil [] m refl)
short-is_one (c ∷ []) k m l = element_tells_one.one_if c k.all_valid.0 (sym (GcdRule.leading_coefficient-polynomial_of elements element_interprets (c ∷ []) k) ∙ m)
short-is_one (c ∷ (d ∷ p)) k m l = absurd (omega arith)

long_of_not_one : (p : List Element) → IsPolynomial p → IsMonic elements (polynomial p) → poly.is_one element p ≡ false → 2 ≤ size elements (polynomial p)
long_of_not_one p k m e = by_length (length p) refl
  where
    by_length : (n : ℕ) → length p ≡ n → 2 ≤ size elements (polynomial p)
    by_length zero l = absurd (let one : poly.is_one element p ≡ true = short-is_one p k m (omega (arith, l)) in cc)
    by_length (suc zero) l = absurd (let one : poly.is_one element p ≡ true = short-is_one p k m (omega (arith, l)) in cc)
    by_length (suc (suc n)) l = omega (arith, l, size-is p k)

-- ---- the values that are formed
-- those of one step
record Formed (steps : ℕ) (parts result : List (List Element)) (w c : List Element) : Type 0 where
  common : List Element
  part : List Element
  rest : List Element
  is_common : poly.gcd element w c ≡ Ok common
  is_part : poly.quo element w common ≡ Ok part
  is_rest : poly.quo element c common ≡ Ok rest
  next : parts_from steps (parts ++ part ∷ []) common rest ≡ Ok result

-- w is 1, or there is a step
parts_from-cases : (steps : ℕ) (parts result : List (List Element)) (w c : List Element) → parts_from (suc steps) parts w c ≡ Ok result →
    ((poly.is_one element w ≡ true) × (result ≡ parts)) ⊎ ((poly.is_one element w ≡ false) × Formed steps parts result w c)
parts_from-cases steps parts result w c e = by_test (poly.is_one element w) refl e
  where
    by_test : (one : Bool) → poly.is_one element w ≡ one
        → (if one then Ok parts else and_then (poly.gcd element w c) (λ y. and_then (poly.quo element w y) (λ part. and_then (poly.quo element c y) (λ rest.
        parts_from steps (parts ++ part ∷ []) y rest)))) ≡ Ok result
        → ((poly.is_one element w ≡ true) × (result ≡ parts)) ⊎ ((poly.is_one element w ≡ false) × Formed steps parts result w c)
    by_test true one e = inl (one, cc)
    by_test false one e =
        let first = and_then-ok (poly.gcd element w c) (λ y. and_then (poly.quo element w y) (λ part. and_then (poly.quo element c y) (λ rest. parts_from steps (parts ++ part ∷ []) y rest))) result e in
        let second = and_then-ok (poly.quo element w first.value) (λ part. and_then (poly.quo element c first.value) (λ rest. parts_from steps (parts ++ part ∷ []) first.value rest)) result first.next in
        let third = and_then-ok (poly.quo element c first.value) (λ rest. parts_from steps (parts ++ second.value ∷ []) first.value rest) result second.next in
        inr (
          one,
          record {
            common = first.value;
            part = second.value;
            rest = third.value;
            is_common = first.is;
            is_part = second.is;
            is_rest = third.is;
            next = third.next;
          },
        )

-- those of the start
record Started (p : List Element) (parts : List (List Element)) : Type 0 where
  derivative : List Element
  c : List Element
  w : List Element
  is_derivative : poly.partial element p ≡ Ok derivative
  is_c : poly.gcd element p derivative ≡ Ok c
  is_w : poly.quo element p c ≡ Ok w
  next : parts_from (length p) [] w c ≡ Ok parts

started : (p : List Element) (parts : List (List Element)) → square_free_parts p ≡ Ok parts → Started p parts
unfolding square_free_parts
started p parts e =
    let first = and_then-ok (poly.partial element p) (λ d. and_then (poly.gcd element p d) (λ c. and_then (poly.quo element p c) (λ w. parts_from (length p) [] w c))) parts e in
    let second = and_then-ok (poly.gcd element p first.value) (λ c. and_then (poly.quo element p c) (λ w. parts_from (length p) [] w c)) parts first.next in
    let third = and_then-ok (poly.quo element p second.value) (λ w. parts_from (length p) [] w second.value) parts second.next in
    record { derivative = first.value; c = second.value; w = third.value; is_derivative = first.is; is_c = second.is; is_w = third.is; next = third.next }

-- ---- one step
record IsRuleStep (w c y part rest : List Element) : Type 0 where
  common_kept : IsPolynomial y
  part_kept : IsPolynomial part
  rest_kept : IsPolynomial rest
  is_step : IsStep elements (polynomial w) (polynomial c) (polynomial y) (polynomial part) (polynomial rest)

rule_step : (w c y part rest : List Element) → IsPolynomial w → IsPolynomial c → IsMonic elements (polynomial w) →
    poly.gcd element w c ≡ Ok y → poly.quo element w y ≡ Ok part → poly.quo element c y ≡ Ok rest → IsRuleStep w c y part rest
rule_step w c y part rest k l m e f g =
    let x = GcdRule.gcd-is_gcd elements element_interprets w c y k l (λ none _. monic-not_nil w m none) e in
    let some = monic-not_nil y x.is_monic in
    let a = DivisionRule.quo-exact elements element_interprets w y part k x.kept some x.is_gcd.divides_left f in
    let b = DivisionRule.quo-exact elements element_interprets c y rest l x.kept some x.is_gcd.divides_right g in
    record {
      common_kept = x.kept;
      part_kept = a.kept;
      rest_kept = b.kept;
      is_step = record { is_monic = x.is_monic; is_gcd = x.is_gcd; left = a.equation; right = b.equation };
    }

-- ---- from w and c on
-- more parts follow those that are formed
record IsContinued (parts result : List (List Element)) (w c : List Element) : Type 0 where
  more : List (List Element)
  is : result ≡ parts ++ more
  kept : All IsPolynomial more
  from : ArePartsFrom elements (polynomial w) (polynomial c) (map polynomial more)

continued-step : (parts result : List (List Element)) (w c y part rest : List Element) → Invariant elements (polynomial w) (polynomial c) → IsRuleStep w c y part rest →
    IsContinued (parts ++ part ∷ []) result y rest → IsContinued parts result w c
continued-step parts result w c y part rest v s x = record {
  more = part ∷ x.more;
  is = x.is ∙ append_assoc parts (part ∷ []) x.more;
  kept = All-cons IsPolynomial part x.more s.part_kept x.kept;
  from = Parts.step-parts elements (polynomial w) (polynomial c) (polynomial y) (polynomial part) (polynomial rest) s.is_step v (map polynomial x.more) x.from;
}

continued : (steps : ℕ) (parts result : List (List Element)) (w c : List Element) → IsPolynomial w → IsPolynomial c → Invariant elements (polynomial w) (polynomial c) →
    size elements (polynomial w) + size elements (polynomial c) ≤ suc steps → parts_from steps parts w c ≡ Ok result → IsContinued parts result w c
continued zero parts result w c k l v small e =
    let left = monic-size w v.left_is_monic in
    let right = monic-size c v.right_is_monic in
    absurd (omega (arith, small, left, right))
continued (suc steps) parts result w c k l v small e = by_case (λ part y rest. continued steps (parts ++ part ∷ []) result y rest) (parts_from-cases steps parts result w c e)
  where
    by_case : ((part y rest : List Element) → IsPolynomial y → IsPolynomial rest → Invariant elements (polynomial y) (polynomial rest)
        → size elements (polynomial y) + size elements (polynomial rest) ≤ suc steps → parts_from steps (parts ++ part ∷ []) y rest ≡ Ok result
        → IsContinued (parts ++ part ∷ []) result y rest)
        → ((poly.is_one element w ≡ true) × (result ≡ parts)) ⊎ ((poly.is_one element w ≡ false) × Formed steps parts result w c) → IsContinued parts result w c
    by_case next (inl h) = record {
      more = [];
      is = h.1 ∙ sym (append-nil parts);
      kept = All-nil IsPolynomial;
      from = Parts.end-parts elements (polynomial w) (polynomial c) v (let short = is_one-short w h.0 in omega (arith, short, size-is w k));
    }
    by_case next (inr h) =
        let f = h.1 in
        let s = rule_step w c f.common f.part f.rest k l v.left_is_monic f.is_common f.is_part f.is_rest in
        continued-step parts result w c f.common f.part f.rest v s
        (next f.part f.common f.rest s.common_kept s.rest_kept
        (Parts.step-invariant elements (polynomial w) (polynomial c) (polynomial f.common) (polynomial f.part) (polynomial f.rest) s.is_step v)
        (Parts.step-smaller elements (polynomial w) (polynomial c) (polynomial f.common) (polynomial f.part) (polynomial f.rest) s.is_step v steps (long_of_not_one w k v.left_is_monic h.0) small)
        f.next)

-- ---- the parts of p
-- c = gcd(p, ∂p) and p = w·c
record IsStart (p w c : List Element) : Type 0 where
  left_kept : IsPolynomial w
  right_kept : IsPolynomial c
  is_monic : IsMonic elements (polynomial c)
  is_gcd : IsGcd elements (polynomial c) (polynomial p) (FormalDerivative.formal_derivative elements (polynomial p))
  equation : polynomial p ≡ (polynomials elements).mul (polynomial w) (polynomial c)

rule_start : (p d c w : List Element) → IsPolynomial p → IsMonic elements (polynomial p) → poly.partial element p ≡ Ok d → poly.gcd element p d ≡ Ok c → poly.quo element p c ≡ Ok w → IsStart p w c
rule_start p d c w k m e f g =
    let small = k.degree_small in
    let derivative = Rules.partial-polynomial elements element_interprets p d (omega (arith, small)) k.all_valid e in
    let x = GcdRule.gcd-is_gcd elements element_interprets p d c k derivative.kept (λ none _. monic-not_nil p m none) f in
    let y = DivisionRule.quo-exact elements element_interprets p c w k x.kept (monic-not_nil c x.is_monic) x.is_gcd.divides_left g in
    record {
      left_kept = y.kept;
      right_kept = x.kept;
      is_monic = x.is_monic;
      is_gcd = subst (IsGcd elements (polynomial c) (polynomial p)) derivative.means x.is_gcd;
      equation = y.equation;
    }

parts_of_start : (p w c : List Element) (parts : List (List Element)) → IsStart p w c → IsContinued [] parts w c → AreSquareFreeParts p parts
parts_of_start p w c parts s x = record {
  kept = subst (All IsPolynomial) (sym x.is) x.kept;
  are_parts = subst (λ l. AreParts elements (map polynomial l)) (sym x.is) x.from.are_parts;
  product =
      s.equation ∙ ap (λ z. (polynomials elements).mul z (polynomial c)) (sym (Laws.power-one (polynomials elements) (polynomial w))) ∙ x.from.product 1
      ∙ ap (λ l. product_of_powers elements 1 (map polynomial l)) (sym x.is);
}

pub square_free_parts-mean : (p : List Element) (parts : List (List Element)) → IsPolynomial p → IsMonic elements (polynomial p) → square_free_parts p ≡ Ok parts → AreSquareFreeParts p parts
square_free_parts-mean p parts k m e = of_started (started p parts e)
  where
    of_started : Started p parts → AreSquareFreeParts p parts
    of_started f =
        let s = rule_start p f.derivative f.c f.w k m f.is_derivative f.is_c f.is_w in
        let sizes = Parts.start-size elements elements_characteristic_zero (polynomial p) (polynomial f.c) (polynomial f.w) m s.is_monic s.equation in
        parts_of_start p f.w f.c parts s
        (continued (length p) [] parts f.w f.c s.left_kept s.right_kept
        (Parts.start-invariant elements elements_characteristic_zero (polynomial p) (polynomial f.c) (polynomial f.w) m s.is_monic s.is_gcd s.equation)
        (omega (arith, sizes, size-is p k)) f.next)

-- ---- the variables that occur
parts_from-within : (n steps : ℕ) (parts result : List (List Element)) (w c : List Element) → All (AllWithin n) parts → AllWithin n w → AllWithin n c →
    parts_from steps parts w c ≡ Ok result → All (AllWithin n) result
parts_from-within n zero parts result w c all all_w all_c e = let same : parts ≡ result = cc in subst (All (AllWithin n)) same all
parts_from-within n (suc steps) parts result w c all all_w all_c e = by_case (λ part y rest. parts_from-within n steps (parts ++ part ∷ []) result y rest) (parts_from-cases steps parts result w c e)
  where
    by_case : ((part y rest : List Element) → All (AllWithin n) (parts ++ part ∷ []) → AllWithin n y → AllWithin n rest → parts_from steps (parts ++ part ∷ []) y rest ≡ Ok result
        → All (AllWithin n) result)
        → ((poly.is_one element w ≡ true) × (result ≡ parts)) ⊎ ((poly.is_one element w ≡ false) × Formed steps parts result w c) → All (AllWithin n) result
    by_case next (inl h) = subst (All (AllWithin n)) (sym h.1) all
    by_case next (inr h) =
        let f = h.1 in
        let all_y = Within.gcd-within n w c f.common all_w all_c f.is_common in
        next f.part f.common f.rest (All-push (AllWithin n) parts f.part all (Properties.quo-keeps (within-closed n) w f.common f.part all_w all_y f.is_part)) all_y
        (Properties.quo-keeps (within-closed n) c f.common f.rest all_c all_y f.is_rest) f.next

pub square_free_parts-within : (n : ℕ) (p : List Element) (parts : List (List Element)) → AllWithin n p → square_free_parts p ≡ Ok parts → All (AllWithin n) parts
square_free_parts-within n p parts all e = of_started (started p parts e)
  where
    of_started : Started p parts → All (AllWithin n) parts
    of_started f =
        let all_c = Within.gcd-within n p f.derivative f.c all (Within.partial-within n p f.derivative all f.is_derivative) f.is_c in
        parts_from-within n (length p) [] parts f.w f.c (All-nil (AllWithin n)) (Properties.quo-keeps (within-closed n) p f.c f.w all all_c f.is_w) all_c f.next
