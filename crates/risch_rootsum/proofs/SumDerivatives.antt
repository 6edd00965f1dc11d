-- The derivative of a sum over the roots of R of z·log S(z): the rule gives the trace of z·DS·T modulo R, where T is the inverse of S.
--     derivatives-more, derivatives-mean      DS, coefficient by coefficient
--     sum-means      the trace
--     inverse-exists      S has an inverse where the sum has a derivative
use Rattle.std.proofs.Common.{◌≡◌, refl, sym, ap, ap₂, ◌∙◌, ℕ, ◌+◌, ◌<◌, get_or, take, List, [], ◌∷◌, ◌++◌, map, length, None, Some, Ok, subst, append_assoc}
use Rattle.std.proofs.lemmas.List.{map-append, take_more}
use Rattle.risch_frac.specs.Fraction.{Fraction}
use Rattle.risch_univariate.specs.Polynomial.{of_list}
use Rattle.risch_univariate.specs.Division.{IsCoprime}
use Rattle.risch_mean.specs.Element as mean
use Rattle.risch_mean.specs.ElementField.{elements}
use Rattle.risch_mean.specs.Tower.{Tower, derive_in}
use Rattle.risch_mean.specs.Answer.{RootSum, SumDerivative}
use Rattle.risch_mean.specs.ElementPolynomials.{remainder_modulo, times_modulo, z_times_modulo, trace_modulo, IsInverseModulo}
use Rattle.risch_mean.proofs.AlgebraLaws.{inverse_unique}
use Rattle.risch_field.specs.Checked.{and_then}
use Rattle.risch_field.proofs.CheckedSteps.{and_then-ok}
use Rattle.risch_polynomial.specs.Poly as poly
use Rattle.risch_polynomial.specs.Modular as modular
use Rattle.risch_polynomial_theory.specs.Meaning.{AllValid}
use Rattle.risch_polynomial_theory.proofs.PolynomialShapes as Shapes
use Rattle.risch_polynomial_theory.proofs.PolynomialValues as Values
use Rattle.risch_level.specs.Levels.{Element, element}
use Rattle.risch_element_theory.specs.PolynomialMeaning.{polynomial_of}
use Rattle.risch_element_theory.specs.WholeTower.{IsElement, IsPolynomial, meaning, polynomial}
use Rattle.risch_element_theory.proofs.ElementPolynomials.{element_interprets, trimmed-stands, product-is_polynomial, product-stands, inverse-stands}
use Rattle.risch_trace.specs.Traces.{raised, remainder, trace}
use Rattle.risch_rootsum.specs.Algebra.{IsModulus, IsMember, modulus}
use Rattle.risch_rootsum.specs.AlgebraMeaning.{below}
use Rattle.risch_rootsum.specs.Derivative.{trace_of_product}
use Rattle.risch_rootsum.specs.DerivativeMeaning.{IsDerivativeOf}
use Rattle.risch_trace.proofs.Remainders as Remainders
use Rattle.risch_rootsum.proofs.Invertibles as Invertibles
use Rattle.risch_trace.proofs.TraceRules as TraceRules
use Rattle.risch_trace.proofs.TraceRules.{IsMonicWith, remainder-polynomial}
use Rattle.risch_rootsum.proofs.ElementInvertibles as ElementInvertibles
use Rattle.risch_rootsum.proofs.AlgebraRules.{modulus-is_monic, trimmed-kept, modulus-large}

-- ---- DS
-- one coefficient more
pub derivatives-more : (D : mean.Element → mean.Element) (before items from : List Element) (i : ℕ) (item d : Element) → i < length from → item ≡ get_or from i item →
    map meaning items ≡ map meaning before ++ map D (map meaning (take i from)) → meaning d ≡ D (meaning item) →
    map meaning (items ++ d ∷ []) ≡ map meaning before ++ map D (map meaning (take (i + 1) from))
derivatives-more D before items from i item d below read e f =
    let more : take (i + 1) from ≡ take i from ++ item ∷ [] = take_more from i item below ∙ ap (λ (x : Element). take i from ++ x ∷ []) (sym read) in
    let all : map D (map meaning (take (i + 1) from)) ≡ map D (map meaning (take i from)) ++ D (meaning item) ∷ [] =
    ap (λ l. map D (map meaning l)) more ∙ ap (map D) (map-append meaning (take i from) (item ∷ [])) ∙ map-append D (map meaning (take i from)) (meaning item ∷ []) in
    map-append meaning items (d ∷ []) ∙ ap₂ (λ (l : List mean.Element) (x : mean.Element). l ++ x ∷ []) e f
    ∙ append_assoc (map meaning before) (map D (map meaning (take i from))) (D (meaning item) ∷ []) ∙ ap (λ l. map meaning before ++ l) (sym all)

pub derivatives-mean : (tower : Tower) (s items ds : List Element) → AllValid IsElement items → map meaning items ≡ map (derive_in tower) (map meaning s) →
    poly.sized element (poly.trimmed element items) ≡ Ok ds → IsDerivativeOf tower s ds
unfolding polynomial_of
derivatives-mean tower s items ds all e is =
    let same : poly.trimmed element items ≡ ds = Values.sized-is element_interprets (poly.trimmed element items) ds is in
    let shape = Shapes.formed-polynomial element items ds is in
    record {
      kept = record {
        all_valid = subst (AllValid IsElement) same (Values.trimmed-valid element_interprets items all);
        ends_not_zero = shape.ends_not_zero;
        degree_small = shape.degree_small;
      };
      means = trimmed-stands items ds all (sym same) ∙ ap (of_list elements) e;
    }

-- ---- the trace
-- the trace of z·p·q
module _ (d : List Element) (r : List mean.Element) (m : IsMonicWith d r) where
  pub trace_of_product-stands : (p q : List Element) (e : Element) → IsPolynomial p → IsPolynomial q → trace_of_product d p q ≡ Ok e →
      meaning e ≡ trace_modulo r (z_times_modulo r (times_modulo r (remainder_modulo r (map meaning p)) (remainder_modulo r (map meaning q))))
  unfolding trace_of_product
  trace_of_product-stands p q e k l is =
      let a = and_then-ok (poly.product element p q) (λ x. and_then (raised 1 x) (λ z. and_then (remainder z d) (λ y. trace d y))) e is in
      let b = and_then-ok (raised 1 a.value) (λ z. and_then (remainder z d) (λ y. trace d y)) e a.next in
      let c = and_then-ok (remainder b.value d) (λ y. trace d y) e b.next in
      let kept = product-is_polynomial p q a.value k l a.is in
      let kept_z = TraceRules.raised-is_polynomial 1 a.value b.value kept b.is in
      let rest = TraceRules.remainder-means d r m b.value c.value kept_z c.is in
      let product : remainder_modulo r (map meaning a.value) ≡ times_modulo r (remainder_modulo r (map meaning p)) (remainder_modulo r (map meaning q)) =
      sym (remainder-polynomial r m.some a.value) ∙ ap (Remainders.remainder_of elements r m.some) (product-stands p q a.value k l a.is)
      ∙ Remainders.remainder_of-mul elements r m.some (polynomial p) (polynomial q) ∙ ap₂ (times_modulo r) (remainder-polynomial r m.some p) (remainder-polynomial r m.some q) in
      TraceRules.trace-stands d r m c.value e rest.kept c.next
      ∙ ap (trace_modulo r)
      (sym rest.means ∙ TraceRules.raised-means r m.some 1 a.value b.value b.is ∙ Remainders.remainder-shift elements r m.some (map meaning a.value) ∙ ap (z_times_modulo r) product)

module _ (tower : Tower) (R : List Fraction) (s : List Element) (h : IsModulus R) (all : AllValid IsElement (modulus R)) (all_s : AllValid IsElement s) (k : IsMember R s) where
  abbrev r : List mean.Element
  r = below R

  -- the sum over the roots of R of z·log S(z)
  abbrev sum : RootSum
  sum = record { modulus = r; inner = map meaning s }

  monic : IsMonicWith (modulus R) r
  monic = modulus-is_monic R h all

  same_remainder : remainder_modulo r (map meaning (poly.trimmed element s)) ≡ remainder_modulo r (map meaning s)
  same_remainder =
      sym (remainder-polynomial r monic.some (poly.trimmed element s)) ∙ ap (Remainders.remainder_of elements r monic.some) (trimmed-stands s (poly.trimmed element s) all_s refl)
      ∙ remainder-polynomial r monic.some s

  pub inverse-exists : (f : mean.Element) → SumDerivative tower sum f → modular.inverse element (poly.trimmed element s) (modulus R) ≡ Ok None → ⊥
  inverse-exists f has is =
      let none = inverse-stands (poly.trimmed element s) (modulus R) None (trimmed-kept R h s all_s k) monic.kept (modulus-large R h) is in
      none (subst (IsCoprime elements (polynomial (modulus R))) (sym (trimmed-stands s (poly.trimmed element s) all_s refl))
      (ElementInvertibles.coprime_of_invertible (modulus R) r monic s (record { inverse = has.inverse; is_inverse = has.is_inverse })))

  -- the remainder of ⟦t⟧ is the inverse of ⟦s⟧
  inverse-is : (t : List Element) → modular.inverse element (poly.trimmed element s) (modulus R) ≡ Ok (Some t) → IsInverseModulo r (map meaning s) (remainder_modulo r (map meaning t))
  inverse-is t is =
      let kept = inverse-stands (poly.trimmed element s) (modulus R) (Some t) (trimmed-kept R h s all_s k) monic.kept (modulus-large R h) is in
      Invertibles.inverse_of_same elements r monic.some (map meaning (poly.trimmed element s)) (map meaning s) (remainder_modulo r (map meaning t)) same_remainder
      (ElementInvertibles.inverse_of_divides (modulus R) r monic (poly.trimmed element s) t kept.divides)

  pub sum-means : (ds t : List Element) (e : Element) → IsDerivativeOf tower s ds → modular.inverse element (poly.trimmed element s) (modulus R) ≡ Ok (Some t) →
      trace_of_product (modulus R) ds t ≡ Ok e → (f : mean.Element) → SumDerivative tower sum f → SumDerivative tower sum (meaning e)
  sum-means ds t e derived is formed f has =
      let kept = inverse-stands (poly.trimmed element s) (modulus R) (Some t) (trimmed-kept R h s all_s k) monic.kept (modulus-large R h) is in
      let inverse = inverse-is t is in
      let same = inverse_unique elements.ring r (map meaning s) (remainder_modulo r (map meaning t)) has.inverse inverse has.is_inverse in
      let ds_is : remainder_modulo r (map meaning ds) ≡ remainder_modulo r (map (derive_in tower) (map meaning s)) =
      sym (remainder-polynomial r monic.some ds) ∙ ap (Remainders.remainder_of elements r monic.some) derived.means
      ∙ Remainders.remainder_of-of_list elements r monic.some (map (derive_in tower) (map meaning s)) in
      let product : times_modulo r (remainder_modulo r (map meaning ds)) (remainder_modulo r (map meaning t)) ≡ times_modulo r (map (derive_in tower) (map meaning s)) has.inverse =
      ap₂ (times_modulo r) ds_is same ∙ Remainders.times_mod-remainder elements r monic.some (map (derive_in tower) (map meaning s)) has.inverse has.is_inverse.member in
      let is_f : meaning e ≡ f =
      trace_of_product-stands (modulus R) r monic ds t e derived.kept kept.kept formed ∙ ap (λ v. trace_modulo r (z_times_modulo r v)) product ∙ sym has.is in
      subst (SumDerivative tower sum) (sym is_f) has
