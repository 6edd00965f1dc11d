-- The rules of the derivative of an integral lead to no new variable.
use Rattle.std.specs.Prelude.{if◌then◌else◌, All}
use Rattle.std.proofs.Common.{◌≡◌, refl, sym, ℕ, zero, suc, ◌<◌, get_or, length, arith, Bool, true, false, List, [], ◌∷◌, ◌++◌, Option, None, Some, Ok, subst}
use Rattle.std.proofs.lemmas.List.Elements.{All-head, All-tail}
use Rattle.risch_frac.specs.Fraction.{Fraction}
use Rattle.risch_field.specs.Checked.{Checked, and_then}
use Rattle.risch_field.proofs.CheckedSteps.{and_then-ok}
use Rattle.risch_polynomial.specs.Poly as poly
use Rattle.risch_polynomial.specs.Modular as modular
use Rattle.risch_level.specs.Levels.{Element, element}
use Rattle.risch_level.specs.Accessors.{number}
use Rattle.risch_element_theory.specs.WholeTower.{Within, AllWithin}
use Rattle.risch_element_theory.proofs.CoefficientProperties as Properties
use Rattle.risch_element_theory.proofs.ElementParts.{number-element-within}
use Rattle.risch_element_theory.proofs.ElementWithin.{zero-element-within, sum-element-within, product-element-within, quotient-element-within}
use Rattle.risch_element_theory.proofs.PolynomialsWithin as Within
use Rattle.risch_element_theory.proofs.PolynomialsWithin.{within-closed}
use Rattle.risch_trace.specs.Traces.{raised, remainder, trace}
use Rattle.risch_rootsum.specs.Algebra.{modulus}
use Rattle.risch_rootsum.specs.Derivative.{is_linear, factor, argument, trace_of_product, sum_trace, derivatives_onto, coefficient_derivatives, log_derivative, sum_derivative, part_derivative, derivatives_from, derive_integral}
use Rattle.risch_rootsum.specs.DerivativeMeaning.{IsLogPart}
use Rattle.risch_rootsum.specs.declared.integral.LogPart.{LogPart}
use Rattle.risch_rootsum.specs.declared.integral.Integral.{Integral}
use Rattle.risch_trace.proofs.TraceRules as TraceRules
use Rattle.risch_rootsum.proofs.AlgebraRules.{modulus-within}

-- the element at a place
pub within-read : (n : ℕ) (xs : List Element) (i : ℕ) (x : Element) → AllWithin n xs → i < length xs → x ≡ get_or xs i x → Within n x
within-read n [] i x all below e = absurd (omega arith)
within-read n (c ∷ xs) zero x all below e = subst (Within n) (sym e) all.0
within-read n (c ∷ xs) (suc i) x all below e = within-read n xs i x all.1 (omega arith) e

-- D leads to no new variable among the first n
module _ (D : Element → Checked Element) (n : ℕ) (keeps : (e f : Element) → Within n e → D e ≡ Ok f → Within n f) where
  derivatives_onto-within : (formed s r : List Element) → AllWithin n formed → AllWithin n s → derivatives_onto D formed s ≡ Ok r → AllWithin n r
  derivatives_onto-within formed [] r all all_s e = let same : formed ≡ r = cc in subst (AllWithin n) same all
  derivatives_onto-within formed (c ∷ s) r all all_s e =
      let d = and_then-ok (D c) (λ d. derivatives_onto D (formed ++ d ∷ []) s) r e in
      derivatives_onto-within (formed ++ d.value ∷ []) s r (Properties.push-keeps (within-closed n) formed d.value all (keeps c d.value all_s.0 d.is)) all_s.1 d.next

  coefficient_derivatives-within : (s r : List Element) → AllWithin n s → coefficient_derivatives D s ≡ Ok r → AllWithin n r
  unfolding coefficient_derivatives
  coefficient_derivatives-within s r all e =
      let d = and_then-ok (derivatives_onto D [] s) (λ r. poly.sized element (poly.trimmed element r)) r e in
      Properties.formed-keeps (within-closed n) d.value r (derivatives_onto-within [] s d.value tt all d.is) d.next

  log_derivative-within : (c : Fraction) (u e : Element) → Within n u → log_derivative D c u ≡ Ok e → Within n e
  unfolding log_derivative
  log_derivative-within c u e w is =
      let d = and_then-ok (D u) (λ d. and_then (element.quotient d u) (λ q. element.product (number 5 c) q)) e is in
      let q = and_then-ok (element.quotient d.value u) (λ q. element.product (number 5 c) q) e d.next in
      product-element-within n (number 5 c) q.value e (number-element-within n c) (quotient-element-within n d.value u q.value (keeps u d.value w d.is) w q.is) q.next

  trace_of_product-within : (d p q : List Element) (e : Element) → AllWithin n d → AllWithin n p → AllWithin n q → trace_of_product d p q ≡ Ok e → Within n e
  unfolding trace_of_product
  trace_of_product-within d p q e all_d all_p all_q is =
      let a = and_then-ok (poly.product element p q) (λ x. and_then (raised 1 x) (λ z. and_then (remainder z d) (λ y. trace d y))) e is in
      let b = and_then-ok (raised 1 a.value) (λ z. and_then (remainder z d) (λ y. trace d y)) e a.next in
      let c = and_then-ok (remainder b.value d) (λ y. trace d y) e b.next in
      let product = Within.product-within n p q a.value all_p all_q a.is in
      let shifted = TraceRules.raised-within n 1 a.value b.value product b.is in
      TraceRules.trace-within n d c.value e all_d (TraceRules.remainder-within n d b.value c.value shifted all_d c.is) c.next

  sum_trace-within : (R : List Fraction) (s ds : List Element) (t : Option (List Element)) (e : Element) → AllWithin n s → AllWithin n ds →
      modular.inverse element (poly.trimmed element s) (modulus R) ≡ Ok t → sum_trace (modulus R) ds t ≡ Ok e → Within n e
  sum_trace-within R s ds None e all_s all is e' = let same : element.zero ≡ e = cc in subst (Within n) same (zero-element-within n)
  sum_trace-within R s ds (Some t) e all_s all is e' =
      let within = Within.inverse-within n (poly.trimmed element s) (modulus R) t (Within.trimmed-within n s (poly.trimmed element s) all_s refl) (modulus-within n R) is in
      trace_of_product-within (modulus R) ds t e (modulus-within n R) all within e'

  sum_derivative-within : (R : List Fraction) (s : List Element) (e : Element) → AllWithin n s → sum_derivative D R s ≡ Ok e → Within n e
  unfolding sum_derivative
  sum_derivative-within R s e all is =
      let a = and_then-ok (coefficient_derivatives D s) (λ ds. and_then (modular.inverse element (poly.trimmed element s) (modulus R)) (λ t. sum_trace (modulus R) ds t)) e is in
      let b = and_then-ok (modular.inverse element (poly.trimmed element s) (modulus R)) (λ t. sum_trace (modulus R) a.value t) e a.next in
      sum_trace-within R s a.value b.value e all (coefficient_derivatives-within s a.value all a.is) b.is b.next

  part_derivative-within : (l : LogPart) (e : Element) → AllWithin n l.arg → part_derivative D l ≡ Ok e → Within n e
  part_derivative-within l e all is = by_test (is_linear l) is
    where
      by_test : (t : Bool) → (if t then log_derivative D (factor l) (argument l) else sum_derivative D l.poly l.arg) ≡ Ok e → Within n e
      by_test true is = log_derivative-within (factor l) (argument l) e (Properties.coefficient-keeps (within-closed n) l.arg 0 all) is
      by_test false is = sum_derivative-within l.poly l.arg e all is

  derivatives_from-within : (total : Element) (logs : List LogPart) (e : Element) → Within n total → All (IsLogPart n) logs → derivatives_from D total logs ≡ Ok e → Within n e
  derivatives_from-within total [] e w all is = let same : total ≡ e = cc in subst (Within n) same w
  derivatives_from-within total (l ∷ logs) e w all is =
      let a = and_then-ok (part_derivative D l) (λ d. and_then (element.sum total d) (λ s. derivatives_from D s logs)) e is in
      let b = and_then-ok (element.sum total a.value) (λ s. derivatives_from D s logs) e a.next in
      let here = All-head (IsLogPart n) l logs all in
      derivatives_from-within b.value logs e (sum-element-within n total a.value b.value w (part_derivative-within l a.value here.argument_within a.is) b.is) (All-tail (IsLogPart n) l logs all) b.next

  pub derive_integral-within : (integral : Integral) (e : Element) → Within n integral.part → All (IsLogPart n) integral.logs → derive_integral D integral ≡ Ok e → Within n e
  unfolding derive_integral
  derive_integral-within integral e w all is =
      let a = and_then-ok (D integral.part) (λ d. derivatives_from D d integral.logs) e is in
      derivatives_from-within a.value integral.logs e (keeps integral.part a.value w a.is) all a.next
