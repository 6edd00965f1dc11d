-- The variables that occur in the characteristic polynomial, and how many square-free parts there are.
use Rattle.std.specs.Prelude.{if◌then◌else◌}
use Rattle.std.proofs.Common.{◌≡◌, ℕ, zero, suc, ◌+◌, ◌≤◌, Bool, true, false, not, List, [], ◌∷◌, ◌++◌, length, reverse, pos, All, Ok, sym, subst, arith, length-append}
use Rattle.std.proofs.lemmas.List.{reverse-append}
use Rattle.std.proofs.lemmas.List.Elements.{All-weaker}
use Rattle.risch_frac.specs.Fraction as fraction
use Rattle.risch_field.specs.Checked.{and_then}
use Rattle.risch_field.proofs.CheckedSteps.{and_then-ok}
use Rattle.risch_polynomial.specs.Poly as poly
use Rattle.risch_level.specs.Levels.{Element, element}
use Rattle.risch_element_theory.specs.WholeTower.{Within, AllWithin}
use Rattle.risch_element_theory.proofs.CoefficientProperties.{push-keeps, formed-keeps}
use Rattle.risch_element_theory.proofs.ElementParts.{number-element-within}
use Rattle.risch_element_theory.proofs.ElementWithin.{zero-element-within, one-element-within, negative-element-within, sum-element-within, product-element-within, more-element-within}
use Rattle.risch_element_theory.proofs.PolynomialsWithin.{within-closed}
use Rattle.risch_sub.specs.SquareFree.{parts_from, square_free_parts}
use Rattle.risch_sub.proofs.SquareFreeRules.{square_free_parts-within}
use Rattle.risch_logarithm_rules.specs.Newton.{inverse_of, alternating_sum, next_symmetric, symmetrics_from, alternating, characteristic_polynomial}

-- ---- the variables that occur
module _ (n : ℕ) where
  push-within : (p : List Element) (c : Element) → AllWithin n p → Within n c → AllWithin n (p ++ c ∷ [])
  push-within p c all v = push-keeps (within-closed n) p c all v

  reverse-within : (p : List Element) → AllWithin n p → AllWithin n (reverse p)
  reverse-within [] all = tt
  reverse-within (c ∷ p) all = subst (AllWithin n) (sym (reverse-append (c ∷ []) p)) (push-within (reverse p) c (reverse-within p all.1) all.0)

  signed-within : (minus : Bool) (c : Element) → Within n c → Within n (poly.signed element minus c)
  signed-within true c v = negative-element-within n c v
  signed-within false c v = v

  alternating_sum-within : (es ps : List Element) (minus : Bool) (total s : Element) → AllWithin n es → AllWithin n ps → Within n total → alternating_sum minus total es ps ≡ Ok s → Within n s
  alternating_sum-within [] ps minus total s all_es all_ps v h = let same : total ≡ s = cc in subst (Within n) same v
  alternating_sum-within (e ∷ es) [] minus total s all_es all_ps v h = let same : total ≡ s = cc in subst (Within n) same v
  alternating_sum-within (e ∷ es) (p ∷ ps) minus total s all_es all_ps v h =
      let a = and_then-ok (element.product (poly.signed element minus e) p) (λ m. and_then (element.sum total m) (λ x. alternating_sum (not minus) x es ps)) s h in
      let b = and_then-ok (element.sum total a.value) (λ x. alternating_sum (not minus) x es ps) s a.next in
      let term = product-element-within n (poly.signed element minus e) p a.value (signed-within minus e all_es.0) all_ps.0 a.is in
      alternating_sum-within es ps (not minus) b.value s all_es.1 all_ps.1 (sum-element-within n total a.value b.value v term b.is) b.next

  next_symmetric-within : (es ps : List Element) (e : Element) → AllWithin n es → AllWithin n ps → next_symmetric es ps ≡ Ok e → Within n e
  unfolding next_symmetric
  next_symmetric-within es ps e all_es all_ps h =
      let a = and_then-ok (alternating_sum false element.zero (reverse es) ps) (λ s. element.product (inverse_of (length es)) s) e h in
      product-element-within n (inverse_of (length es)) a.value e (number-element-within n (fraction.quotient (pos 1) (pos (length es))))
      (alternating_sum-within (reverse es) ps false element.zero a.value (reverse-within es all_es) all_ps (zero-element-within n) a.is) a.next

  symmetrics-within : (steps : ℕ) (es ps r : List Element) → AllWithin n es → AllWithin n ps → symmetrics_from steps es ps ≡ Ok r → AllWithin n r
  symmetrics-within zero es ps r all_es all_ps h = let same : es ≡ r = cc in subst (AllWithin n) same all_es
  symmetrics-within (suc steps) es ps r all_es all_ps h =
      let a = and_then-ok (next_symmetric es ps) (λ e. symmetrics_from steps (es ++ e ∷ []) ps) r h in
      symmetrics-within steps (es ++ a.value ∷ []) ps r (push-within es a.value all_es (next_symmetric-within es ps a.value all_es all_ps a.is)) all_ps a.next

  alternating-within : (minus : Bool) (es : List Element) → AllWithin n es → AllWithin n (alternating minus es)
  alternating-within minus [] all = tt
  alternating-within minus (e ∷ es) all = (signed-within minus e all.0, alternating-within (not minus) es all.1)

  pub characteristic_polynomial-within : (ps C : List Element) → AllWithin n ps → characteristic_polynomial ps ≡ Ok C → AllWithin n C
  unfolding characteristic_polynomial
  characteristic_polynomial-within ps C all h =
      let a = and_then-ok (symmetrics_from (length ps) (element.one ∷ []) ps) (λ es. poly.sized element (poly.trimmed element (reverse (alternating false es)))) C h in
      let all_es = symmetrics-within (length ps) (element.one ∷ []) ps a.value (one-element-within n, tt) all a.is in
      formed-keeps (within-closed n) (reverse (alternating false a.value)) C (reverse-within (alternating false a.value) (alternating-within false a.value all_es)) a.next

all_more-within : (n m : ℕ) (p : List Element) → n ≤ m → AllWithin n p → AllWithin m p
all_more-within n m [] below all = tt
all_more-within n m (c ∷ p) below all = (more-element-within n m below c all.0, all_more-within n m p below all.1)

-- the parts of the characteristic polynomial of fractions
pub parts-within : (n : ℕ) (ps C : List Element) (parts : List (List Element)) → AllWithin 0 ps → characteristic_polynomial ps ≡ Ok C → square_free_parts C ≡ Ok parts → All (AllWithin n) parts
parts-within n ps C parts all h k =
    All-weaker (AllWithin 0) (AllWithin n) (λ p all. all_more-within 0 n p (omega arith) all) parts (square_free_parts-within 0 C parts (characteristic_polynomial-within 0 ps C all h) k)

-- ---- their number
parts_from-count : (steps : ℕ) (parts result : List (List Element)) (w c : List Element) → parts_from steps parts w c ≡ Ok result → length result ≤ length parts + steps
parts_from-count zero parts result w c h = let same : parts ≡ result = cc in subst (λ (l : List (List Element)). length l ≤ length parts + 0) same (omega arith)
parts_from-count (suc steps) parts result w c h = by_test (poly.is_one element w) (λ part y rest. parts_from-count steps (parts ++ part ∷ []) result y rest) h
  where
    by_test : (t : Bool) → ((part y rest : List Element) → parts_from steps (parts ++ part ∷ []) y rest ≡ Ok result → length result ≤ length (parts ++ part ∷ []) + steps) →
        (if t then Ok parts else and_then (poly.gcd element w c) (λ y. and_then (poly.quo element w y) (λ part. and_then (poly.quo element c y) (λ rest. parts_from steps (parts ++ part ∷ []) y rest)))) ≡ Ok result →
        length result ≤ length parts + suc steps
    by_test true more e = let same : parts ≡ result = cc in subst (λ (l : List (List Element)). length l ≤ length parts + suc steps) same (omega arith)
    by_test false more e =
        let a = and_then-ok (poly.gcd element w c) (λ y. and_then (poly.quo element w y) (λ part. and_then (poly.quo element c y) (λ rest. parts_from steps (parts ++ part ∷ []) y rest))) result e in
        let b = and_then-ok (poly.quo element w a.value) (λ part. and_then (poly.quo element c a.value) (λ rest. parts_from steps (parts ++ part ∷ []) a.value rest)) result a.next in
        let d = and_then-ok (poly.quo element c a.value) (λ rest. parts_from steps (parts ++ b.value ∷ []) a.value rest) result b.next in
        let count : length result ≤ length (parts ++ b.value ∷ []) + steps = more b.value a.value d.value d.next in
        omega (arith, count, length-append parts (b.value ∷ []))

pub parts-count : (p : List Element) (parts : List (List Element)) → square_free_parts p ≡ Ok parts → length parts ≤ length p
unfolding square_free_parts
parts-count p parts h =
    let a = and_then-ok (poly.partial element p) (λ derivative. and_then (poly.gcd element p derivative) (λ c. and_then (poly.quo element p c) (λ w. parts_from (length p) [] w c))) parts h in
    let b = and_then-ok (poly.gcd element p a.value) (λ c. and_then (poly.quo element p c) (λ w. parts_from (length p) [] w c)) parts a.next in
    let d = and_then-ok (poly.quo element p b.value) (λ w. parts_from (length p) [] w b.value) parts b.next in
    let count = parts_from-count (length p) [] parts d.value b.value d.next in
    omega (arith, count)
