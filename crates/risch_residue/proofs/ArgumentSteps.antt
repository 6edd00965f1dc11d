-- The argument of a logarithm: its rule at the polynomial 0, and the variables that occur.
use Rattle.std.proofs.Common.{◌≡◌, ℕ, ◌-◌, [], ◌∷◌, ◌++◌, take, length, Option, None, Some, All, Ok, refl, subst, arith}
use Rattle.std.proofs.lemmas.List.Elements.{All-nil, All-head, All-tail, All-push, All-take}
use Rattle.risch_field.specs.Checked.{and_then}
use Rattle.risch_field.proofs.CheckedSteps.{and_then-ok}
use Rattle.risch_polynomial.specs.Poly as poly
use Rattle.risch_polynomial.specs.Modular as modular
use Rattle.risch_level.specs.Levels.{element}
use Rattle.risch_element_theory.specs.WholeTower.{AllWithin}
use Rattle.risch_element_theory.proofs.ElementWithin.{one-element-within}
use Rattle.risch_element_theory.proofs.PolynomialsWithin as Within
use Rattle.risch_trace.specs.Traces.{remainder}
use Rattle.risch_trace.proofs.TraceRules.{remainder-within}
use Rattle.risch_sub.specs.RemainderSequence.{InZ, Member, leading, content, quotients_onto}
use Rattle.risch_sub.proofs.RemainderRules.{content-within, quotients-within}
use Rattle.risch_logarithm_rules.specs.Logarithms.{remainders_onto, multiples_onto, monic_by, argument_of}

-- ---- the polynomial 0
pub content_nil : (m : Member) → length m ≡ 0 → content m ≡ Ok []
unfolding content poly.monic
content_nil [] none = refl
content_nil (p ∷ m) none = absurd (omega arith)

pub leading-nil : (m : Member) → length m ≡ 0 → leading m ≡ []
leading-nil [] none = refl
leading-nil (p ∷ m) none = absurd (omega arith)

-- ---- the variables that occur
leading-within : (n : ℕ) (m : Member) → All (AllWithin n) m → AllWithin n (leading m)
leading-within n [] all = tt
leading-within n (p ∷ []) all = All-head (AllWithin n) p [] all
leading-within n (p ∷ (q ∷ m)) all = leading-within n (q ∷ m) (All-tail (AllWithin n) p (q ∷ m) all)

module _ (n : ℕ) (R : InZ) (all_R : AllWithin n R) where
  remainders_onto-within : (m formed r : Member) → All (AllWithin n) formed → All (AllWithin n) m → remainders_onto formed m R ≡ Ok r → All (AllWithin n) r
  remainders_onto-within [] formed r all_formed all e = let same : formed ≡ r = cc in subst (All (AllWithin n)) same all_formed
  remainders_onto-within (p ∷ m) formed r all_formed all e =
      let s = and_then-ok (remainder p R) (λ x. remainders_onto (formed ++ x ∷ []) m R) r e in
      remainders_onto-within m (formed ++ s.value ∷ []) r
      (All-push (AllWithin n) formed s.value all_formed (remainder-within n R p s.value (All-head (AllWithin n) p m all) all_R s.is)) (All-tail (AllWithin n) p m all) s.next

  module _ (i : InZ) (all_i : AllWithin n i) where
    multiples_onto-within : (m formed r : Member) → All (AllWithin n) formed → All (AllWithin n) m → multiples_onto formed m i R ≡ Ok r → All (AllWithin n) r
    multiples_onto-within [] formed r all_formed all e = let same : formed ≡ r = cc in subst (All (AllWithin n)) same all_formed
    multiples_onto-within (p ∷ m) formed r all_formed all e =
        let s = and_then-ok (poly.product element p i) (λ q. and_then (remainder q R) (λ x. multiples_onto (formed ++ x ∷ []) m i R)) r e in
        let t = and_then-ok (remainder s.value R) (λ x. multiples_onto (formed ++ x ∷ []) m i R) r s.next in
        let product = Within.product-within n p i s.value (All-head (AllWithin n) p m all) all_i s.is in
        multiples_onto-within m (formed ++ t.value ∷ []) r (All-push (AllWithin n) formed t.value all_formed (remainder-within n R s.value t.value product all_R t.is)) (All-tail (AllWithin n) p m all) t.next

  monic_by-within : (m r : Member) (i : Option InZ) → All (AllWithin n) m → modular.inverse element (leading m) R ≡ Ok i → monic_by m R i ≡ Ok r → All (AllWithin n) r
  monic_by-within m r None all is e = let same : m ≡ r = cc in subst (All (AllWithin n)) same all
  monic_by-within m r (Some i) all is e =
      let s = and_then-ok (multiples_onto [] (take (length m - 1) m) i R) (λ front. Ok (front ++ (element.one ∷ []) ∷ [])) r e in
      let all_i = Within.inverse-within n (leading m) R i (leading-within n m all) all_R is in
      let front = multiples_onto-within i all_i (take (length m - 1) m) [] s.value (All-nil (AllWithin n)) (All-take (AllWithin n) (length m - 1) m all) s.is in
      let same : s.value ++ (element.one ∷ []) ∷ [] ≡ r = let next : Ok (s.value ++ (element.one ∷ []) ∷ []) ≡ Ok r = s.next in cc in
      subst (All (AllWithin n)) same (All-push (AllWithin n) s.value (element.one ∷ []) front (one-element-within n, tt))

  content_whole-within : (m : Member) (c : InZ) → All (AllWithin n) m → content m ≡ Ok c → AllWithin n c
  content_whole-within [] c all e =
      let none : content [] ≡ Ok [] = content_nil [] refl in
      let same : [] ≡ c = cc in
      subst (AllWithin n) same tt
  content_whole-within (p ∷ m) c all e = content-within n (p ∷ m) c all (omega arith) e

  pub argument_of-within : (m r : Member) → All (AllWithin n) m → argument_of m R ≡ Ok r → All (AllWithin n) r
  unfolding argument_of
  argument_of-within m r all e =
      let a = and_then-ok (content m) (λ c. and_then (quotients_onto [] m c) (λ p. and_then (remainders_onto [] p R) (λ x. and_then (modular.inverse element (leading x) R) (monic_by x R)))) r e in
      let b = and_then-ok (quotients_onto [] m a.value) (λ p. and_then (remainders_onto [] p R) (λ x. and_then (modular.inverse element (leading x) R) (monic_by x R))) r a.next in
      let d = and_then-ok (remainders_onto [] b.value R) (λ x. and_then (modular.inverse element (leading x) R) (monic_by x R)) r b.next in
      let f = and_then-ok (modular.inverse element (leading d.value) R) (monic_by d.value R) r d.next in
      let primitive = quotients-within n m b.value a.value all (content_whole-within m a.value all a.is) b.is in
      monic_by-within d.value r f.value (remainders_onto-within b.value [] d.value (All-nil (AllWithin n)) primitive d.is) f.is f.next
