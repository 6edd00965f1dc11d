-- What the procedure answers as an integral is an integral.
use Rattle.std.proofs.Common.{◌≡◌, ℕ, zero as nat_zero, suc, ◌+◌, ◌==◌, ◌≤◌, ◌<◌, ◌^◌, List, [], ◌∷◌, length, map, false, Ok, Err, refl, sym, ◌∙◌, ap, subst, arith}
use Rattle.std.proofs.Common.{inl, inr, pos, unsigned_abs}
use Rattle.std.proofs.lemmas.Bool.{cases_eq, cond_both, false_from_ne_true, ne_eqb}
use Rattle.std.proofs.lemmas.Bool.Decides.{Decides-int_eq}
use Rattle.risch_ring.proofs.Expression.{reading}
use Rattle.risch_ring.proofs.Solver.{ring}
use Rattle.risch_frac.specs.Fraction.{Fraction, IsLowest, is_zero, whole}
use Rattle.risch_frac.proofs.Units.{whole-is_lowest}
use Rattle.risch_mean.specs.Element.{Element, zero, add, variable}
use Rattle.risch_mean.specs.ElementField.{elements}
use Rattle.risch_mean.specs.Tower.{derive_in}
use Rattle.risch_mean.specs.Answer.{IsIntegral}
use Rattle.risch_mean.proofs.RationalPolynomials.{derive-rational_polynomial, rational_polynomial_in_tower}
use Rattle.risch_field.specs.Checked.{Checked}
use Rattle.risch_field.specs.Ground.{ground}
use Rattle.risch_polynomial.specs.Poly as poly
use Rattle.risch_polynomial_theory.specs.Meaning.{AllValid, value}
use Rattle.risch_polynomial_theory.specs.FractionMeaning.{fraction_meaning}
use Rattle.risch_field.proofs.CheckedSteps.{and_then-ok}
use Rattle.risch_polynomial_theory.proofs.FractionValues.{ground_means, fractions-rational}
use Rattle.risch_polynomial_theory.proofs.PolynomialShapes as Shapes
use Rattle.risch_polynomial_theory.proofs.PolynomialValues as Values
use Rattle.risch_rootsum.specs.declared.integral.Integral as rootsum
use Rattle.risch_rootsum.specs.DerivativeMeaning.{answer_of}
use Rattle.risch_cert.specs.declared.answer.Answer.TheVariants.{Integral, Disagree}
use Rattle.risch_round.specs.Elements.{element_of}
use Rattle.risch_round.specs.Procedure.{Limited, integral_of_term, with_term, branch, part_alone, compared, checked, gathered, answer}
use Rattle.risch_round.specs.Meaning as meaning
use Rattle.risch_round.proofs.ElementsInX.{element_of-means}
use Rattle.risch_round.proofs.Unlimited.{step, steps, with_terms-steps}

-- ⟦p_0⟧ + ⟦p_1⟧·x + ..
abbrev at_x : List Fraction → Element
at_x p = value elements.ring fraction_meaning (variable 0) p

zero_same : (n : ℕ) → is_zero (whole n) ≡ (n == 0)
zero_same n =
    elim (cases_eq n 0) [
      | inl e ↦ rw e refl
      | inr other ↦ false_from_ne_true (is_zero (whole n)) (λ e. other (ap unsigned_abs ((Decides-int_eq (pos n) (pos 0)).0 e))) ∙ sym (ne_eqb n 0 other)
    ]

-- ---- what the branch forms is a polynomial with coefficients in lowest terms
pub record IsFormed (p : List Fraction) : Type 0 where
  pub valid : AllValid IsLowest p
  pub short : length p ≤ 256

sum-formed : (p q r : List Fraction) → AllValid IsLowest p → AllValid IsLowest q → poly.sum ground p q ≡ Ok r → IsFormed r
sum-formed p q r vp vq h = record { valid = (Values.sum-means ground_means p q r vp vq h).all_valid; short = (Shapes.sum-polynomial ground p q r h).degree_small }

next-nonzero : (e : ℕ) → is_zero (whole (e + 1)) ≡ false
next-nonzero e = zero_same (e + 1) ∙ ne_eqb (e + 1) 0 (λ h. omega arith)

term-valid : (c : Fraction) (e : ℕ) (t : List Fraction) → IsLowest c → e < 2 ^ 16 → integral_of_term c e ≡ Ok t → AllValid IsLowest t
unfolding integral_of_term
term-valid c e t l small h =
    let two = and_then-ok (ground.quotient c (ground.whole (e + 1))) (λ b. poly.monomial ground b (e + 1)) t h in
    let lw : IsLowest (ground.whole (e + 1)) = whole-is_lowest (e + 1) (omega arith) in
    let nz : ground.is_zero (ground.whole (e + 1)) ≡ false = next-nonzero e in
    let lb = ground_means.quotient-valid c (ground.whole (e + 1)) two.value l lw nz two.is in
    (Values.monomial-means ground_means two.value (e + 1) t lb two.next).all_valid

with_term-formed : (c : Fraction) (e : ℕ) (piece next : List Fraction) → IsLowest c → e < 2 ^ 16 → IsFormed piece → with_term c e piece ≡ Ok next → IsFormed next
unfolding with_term
with_term-formed c e piece next l small f h =
    let two = and_then-ok (integral_of_term c e) (poly.sum ground piece) next h in
    sum-formed piece two.value next f.valid (term-valid c e two.value l small two.is) two.next

step-formed : (c : Fraction) (e : ℕ) (piece next : List Fraction) → IsLowest c → e < 2 ^ 16 → IsFormed piece → step c e piece ≡ Ok next → IsFormed next
step-formed c e piece next l small f h =
    cond_both (is_zero c) (Ok piece) (with_term c e piece) (λ rule. rule ≡ Ok next → IsFormed next)
    (λ t k. subst IsFormed (let same : piece ≡ next = cc in same) f)
    (λ t k. with_term-formed c e piece next l small f k) h

steps-formed : (f : List Fraction) (n : ℕ) (piece part : List Fraction) → AllValid IsLowest f → n ≤ 2 ^ 16 → IsFormed piece → steps f n piece ≡ Ok part → IsFormed part
steps-formed f nat_zero piece part v small k h = subst IsFormed (let same : piece ≡ part = cc in same) k
steps-formed f (suc e) piece part v small k h =
    let two = and_then-ok (step (poly.coefficient ground f e) e piece) (steps f e) part h in
    steps-formed f e two.value part v (omega arith)
    (step-formed (poly.coefficient ground f e) e piece two.value (Values.coefficient-valid ground_means f e v) (omega arith) k two.is) two.next

branch-formed : (budget : ℕ) (f part : List Fraction) → AllValid IsLowest f → length f ≤ 256 → branch budget f ≡ Ok part → IsFormed part
unfolding branch
branch-formed budget f part v short h = steps-formed f (length f) [] part v (omega arith) (record { valid = tt; short = omega arith }) (with_terms-steps budget f (length f) [] part h)

-- ---- the derivative of a part, as it is formed
derivative-is : (part d : List Fraction) → IsFormed part → poly.partial ground part ≡ Ok d → derive_in [] (at_x part) ≡ at_x d
derivative-is part d f h =
    derive-rational_polynomial [] (map fraction_meaning part) (fractions-rational part f.valid)
    ∙ sym ((Values.partial-means ground_means part d (let s = f.short in omega arith) f.valid h).value_is (variable 0))

-- A part whose derivative is formed and is f is an integral of f.
part-integral : (part f : List Fraction) → IsFormed part → derive_in [] (at_x part) ≡ at_x f → IsIntegral [] (answer_of (part_alone part)) (meaning.value f)
unfolding meaning.value
part-integral part f formed h =
    subst (λ (e : Element). IsIntegral [] (record { part = e; logs = []; sums = [] }) (meaning.value f)) (sym (element_of-means part)) (record {
      part_in_tower = rational_polynomial_in_tower [] (map fraction_meaning part) (fractions-rational part formed.valid);
      logs = zero;
      logs_are = refl;
      sums = zero;
      sums_are = refl;
      is = sym h ∙ sum_alone (derive_in [] (at_x part));
    })
  where
    sum_alone : (d : Element) → d ≡ add d (add zero zero)
    sum_alone d = ring elements.ring (d ∷ []) (search reading depth 20) refl

-- ---- the answers
compared-integral : (f made derivative : List Fraction) (it : rootsum.Integral) → IsFormed made → AllValid IsLowest f → poly.partial ground made ≡ Ok derivative →
    compared f made derivative ≡ Integral it → IsIntegral [] (answer_of it) (meaning.value f)
compared-integral f made derivative it formed v d h =
    cond_both (poly.same ground derivative f) (Integral (part_alone made)) (Disagree (element_of derivative) (element_of f))
    (λ o. o ≡ Integral it → IsIntegral [] (answer_of it) (meaning.value f))
    (λ t e. subst (λ (q : rootsum.Integral). IsIntegral [] (answer_of q) (meaning.value f)) (let same : part_alone made ≡ it = cc in same)
    (part-integral made f formed (derivative-is made derivative formed d
    ∙ ap at_x (Values.same-means ground_means derivative f (Values.partial-means ground_means made derivative (let s = formed.short in omega arith) formed.valid d).all_valid v t))))
    (λ t e. absurd (no e)) h
  where
    no : Disagree (element_of derivative) (element_of f) ≡ Integral it → ⊥
    no e = cc

checked-integral : (f made : List Fraction) (it : rootsum.Integral) (d : Checked (List Fraction)) → IsFormed made → AllValid IsLowest f → poly.partial ground made ≡ d →
    checked f made d ≡ Integral it → IsIntegral [] (answer_of it) (meaning.value f)
checked-integral f made it (Ok derivative) formed v d h = compared-integral f made derivative it formed v d h
checked-integral f made it (Err fail) formed v d h = absurd (cc)

gathered-integral : (budget : ℕ) (f : List Fraction) (it : rootsum.Integral) (b : Limited (List Fraction)) → AllValid IsLowest f → length f ≤ 256 → branch budget f ≡ b →
    gathered f b ≡ Integral it → IsIntegral [] (answer_of it) (meaning.value f)
gathered-integral budget f it (Ok made) v short b h = checked-integral f made it (poly.partial ground made) (branch-formed budget f made v short b) v refl h
gathered-integral budget f it (Err stop) v short b h = absurd (cc)

-- An integral that is answered is an integral of the integrand.
pub answer-integral : (budget : ℕ) (f : List Fraction) (it : rootsum.Integral) → AllValid IsLowest f → length f ≤ 256 → answer budget f ≡ Integral it → IsIntegral [] (answer_of it) (meaning.value f)
unfolding answer
answer-integral budget f it v short h = gathered-integral budget f it (branch budget f) v short refl h
