-- An integrand of degree at most 254 with small coefficients gets its integral.
use Rattle.std.specs.Prelude.{cond, if◌then◌else◌, nat_le}
use Rattle.std.proofs.Common.{◌≡◌, ℕ, zero, suc, ◌+◌, ◌≤◌, Bool, true, false, List, [], ◌∷◌, ◌++◌, length, replicate, drop, drop-cons, Ok, refl, sym, ◌∙◌, ap, arith, append_assoc}
use Rattle.std.proofs.lemmas.Bool.{le-leb}
use Rattle.risch_frac.specs.Fraction.{Fraction, IsLowest, is_zero, whole}
use Rattle.risch_frac.proofs.Units.{whole-is_lowest, sum-zero_left}
use Rattle.risch_field.specs.Checked.{and_then}
use Rattle.risch_field.specs.Ground.{ground, overflowing}
use Rattle.risch_polynomial.specs.Poly as poly
use Rattle.risch_polynomial_theory.specs.Meaning.{AllValid}
use Rattle.risch_polynomial_theory.proofs.FractionValues.{ground_means}
use Rattle.risch_polynomial_theory.proofs.Monomials.{formed-small, sum_onto-nil}
use Rattle.risch_polynomial.proofs.CoefficientLists.{trimmed-trimmed}
use Rattle.risch_polynomial_theory.proofs.PolynomialValues.{coefficient-valid, same_if}
use Rattle.risch_cert.specs.declared.answer.Answer.TheVariants.{Integral, Disagree}
use Rattle.risch_round.specs.Elements.{element_of}
use Rattle.risch_round.specs.Procedure.{integral_of_term, with_term, branch, part_alone, checked, gathered, answer}
use Rattle.risch_round.proofs.Unlimited.{step, steps, steps-with_terms}
use Rattle.risch_round.specs.Meaning.{IsSmall}
use Rattle.risch_round.proofs.SmallQuotients.{IsQuotient, quotient_of, quotients, quotient-is, all-small, all-divided, length-quotients, trimmed-quotients, multiples-quotients}

-- ---- products with powers of x
-- x^n·(c + x·p)
abbrev placed : ℕ → Fraction → List Fraction → List Fraction
placed n c p = replicate n (whole 0) ++ c ∷ p

-- x^n·p
abbrev shifted : ℕ → List Fraction → List Fraction
shifted n [] = []
shifted n (c ∷ p) = placed n c p

length-placed : (n : ℕ) (c : Fraction) (p : List Fraction) → length (placed n c p) ≡ n + 1 + length p
length-placed zero c p = omega arith
length-placed (suc n) c p = let others = length-placed n c p in omega arith

-- x^(n + 1)·p = x^n·(0 + x·p)
placed-next : (n : ℕ) (c : Fraction) (p : List Fraction) → placed (suc n) c p ≡ placed n (whole 0) (c ∷ p)
placed-next zero c p = refl
placed-next (suc n) c p = ap (λ q. whole 0 ∷ q) (placed-next n c p)

placed-more : (n : ℕ) (c : Fraction) (p : List Fraction) → placed (n + 1) c p ≡ placed n (whole 0) (c ∷ p)
placed-more n c p = (let s : n + 1 ≡ suc n = omega arith in ap (λ k. placed k c p) s) ∙ placed-next n c p

shifted-more : (n : ℕ) (p : List Fraction) → shifted (n + 1) p ≡ shifted n (poly.leading ground (whole 0) p)
shifted-more n [] = refl
shifted-more n (c ∷ p) = placed-more n c p

shifted-one : (p : List Fraction) → shifted 1 p ≡ poly.leading ground (whole 0) p
shifted-one [] = refl
shifted-one (c ∷ p) = refl

-- ---- zeros at the end
leading-nonzero : (c : Fraction) (p : List Fraction) → is_zero c ≡ false → poly.leading ground c p ≡ c ∷ p
leading-nonzero c [] n = rw n refl
leading-nonzero c (d ∷ p) n = refl

leading-placed : (n : ℕ) (a c : Fraction) (p : List Fraction) → poly.leading ground a (placed n c p) ≡ a ∷ placed n c p
leading-placed zero a c p = refl
leading-placed (suc n) a c p = refl

trimmed-placed : (n : ℕ) (c : Fraction) (p : List Fraction) → poly.trimmed ground p ≡ p → is_zero c ≡ false → poly.trimmed ground (placed n c p) ≡ placed n c p
trimmed-placed zero c p t nonzero = ap (poly.leading ground c) t ∙ leading-nonzero c p nonzero
trimmed-placed (suc n) c p t nonzero = ap (poly.leading ground (whole 0)) (trimmed-placed n c p t nonzero) ∙ leading-placed n (whole 0) c p

length-leading : (c : Fraction) (p : List Fraction) → length (poly.leading ground c p) ≤ 1 + length p
length-leading c [] = by_test (is_zero c)
  where
    by_test : (b : Bool) → length (if b then [] else c ∷ []) ≤ 1
    by_test true = omega arith
    by_test false = omega arith
length-leading c (d ∷ p) = omega arith

length-trimmed : (p : List Fraction) → length (poly.trimmed ground p) ≤ length p
length-trimmed [] = omega arith
length-trimmed (c ∷ p) = let others = length-trimmed p in let first = length-leading c (poly.trimmed ground p) in omega arith

-- ---- few coefficients have a small weight
formed-placed : (n : ℕ) (c : Fraction) (p : List Fraction) → poly.trimmed ground p ≡ p → is_zero c ≡ false → n + 1 + length p ≤ 256 →
    poly.sized ground (poly.trimmed ground (placed n c p)) ≡ Ok (placed n c p)
formed-placed n c p t nonzero small = let long = length-placed n c p in formed-small (placed n c p) (placed n c p) (trimmed-placed n c p t nonzero) (omega arith)

-- ---- one term
monomial-placed : (n : ℕ) (c : Fraction) → is_zero c ≡ false → n ≤ 255 → poly.monomial ground c n ≡ Ok (placed n c [])
unfolding poly.monomial
monomial-placed n c nonzero small =
    let degree : nat_le n 255 ≡ true = le-leb n 255 small in
    rw (nonzero, degree) (formed-placed n c [] refl nonzero (omega arith))

zero-plus : (c : Fraction) → IsLowest c → ground.sum (whole 0) c ≡ Ok c
zero-plus c l = ap overflowing (sum-zero_left c l)

-- x^n·(0 + x·p) + c·x^n = x^n·(c + x·p)
sum_onto-placed : (formed : List Fraction) (n : ℕ) (c : Fraction) (p : List Fraction) → IsLowest c →
    poly.sum_onto ground formed (placed n (whole 0) p) (placed n c []) ≡ Ok (formed ++ placed n c p)
sum_onto-placed formed zero c p l =
    ap (λ x. and_then x (λ s. poly.sum_onto ground (formed ++ s ∷ []) p [])) (zero-plus c l) ∙ sum_onto-nil ground (formed ++ c ∷ []) p ∙ ap Ok (append_assoc formed (c ∷ []) p)
sum_onto-placed formed (suc n) c p l =
    ap (λ x. and_then x (λ s. poly.sum_onto ground (formed ++ s ∷ []) (placed n (whole 0) p) (placed n c []))) (zero-plus (whole 0) (whole-is_lowest 0 (omega arith)))
    ∙ sum_onto-placed (formed ++ whole 0 ∷ []) n c p l ∙ ap Ok (append_assoc formed (whole 0 ∷ []) (placed n c p))

sum_onto-shifted : (n : ℕ) (c : Fraction) (p : List Fraction) → IsLowest c → poly.sum_onto ground [] (shifted (n + 1) p) (placed n c []) ≡ Ok (placed n c p)
sum_onto-shifted n c [] l = refl
sum_onto-shifted n c (d ∷ p) l = ap (λ q. poly.sum_onto ground [] q (placed n c [])) (placed-more n d p) ∙ sum_onto-placed [] n c (d ∷ p) l

sum-shifted : (n : ℕ) (c : Fraction) (p : List Fraction) → IsLowest c → is_zero c ≡ false → poly.trimmed ground p ≡ p → n + 1 + length p ≤ 256 →
    poly.sum ground (shifted (n + 1) p) (placed n c []) ≡ Ok (placed n c p)
unfolding poly.sum
sum-shifted n c p l nonzero t small =
    ap (λ s. and_then s (λ r. poly.sized ground (poly.trimmed ground r))) (sum_onto-shifted n c p l) ∙ formed-placed n c p t nonzero small

integral-placed : (c r : Fraction) (e : ℕ) → IsQuotient c (e + 1) r → is_zero c ≡ false → e + 1 ≤ 255 → integral_of_term c e ≡ Ok (placed (e + 1) r [])
unfolding integral_of_term
integral-placed c r e h z small =
    ap (λ x. and_then x (λ b. poly.monomial ground b (e + 1))) (h.divided z) ∙ monomial-placed (e + 1) r (h.zero_kept ∙ z) small

-- the term of exponent e adds its integral below x^(e + 2)·p
term-added : (c r : Fraction) (e : ℕ) (p : List Fraction) → IsQuotient c (e + 1) r → poly.trimmed ground p ≡ p → e + 1 + 1 + length p ≤ 256 →
    step c e (shifted (e + 1 + 1) p) ≡ Ok (shifted (e + 1) (poly.leading ground r p))
unfolding with_term
term-added c r e p h t small = by_test (is_zero c) refl
  where
    by_test : (b : Bool) → is_zero c ≡ b → cond b (Ok (shifted (e + 1 + 1) p)) (and_then (integral_of_term c e) (poly.sum ground (shifted (e + 1 + 1) p))) ≡ Ok (shifted (e + 1) (poly.leading ground r p))
    by_test true z = ap Ok (shifted-more (e + 1) p ∙ ap (λ a. shifted (e + 1) (poly.leading ground a p)) (sym (h.passed z)))
    by_test false z =
        let nonzero : is_zero r ≡ false = h.zero_kept ∙ z in
        ap (λ x. and_then x (poly.sum ground (shifted (e + 1 + 1) p))) (integral-placed c r e h z (omega arith))
        ∙ sum-shifted (e + 1) r p h.valid nonzero t small
        ∙ ap (λ q. Ok (shifted (e + 1) q)) (sym (leading-nonzero r p nonzero))

-- ---- all terms
-- the integral, from the coefficients of the integrand from exponent n - 1 on
abbrev upper : ℕ → List Fraction → List Fraction
upper n p = shifted n (poly.trimmed ground (quotients n p))

upper-more : (f cs : List Fraction) (e : ℕ) → IsQuotient (poly.coefficient ground f e) (e + 1) (quotient_of (poly.coefficient ground f e) (e + 1)) → e + 1 + 1 + length cs ≤ 256 →
    step (poly.coefficient ground f e) e (upper (e + 1 + 1) cs) ≡ Ok (upper (e + 1) (poly.coefficient ground f e ∷ cs))
upper-more f cs e h small =
    let p = poly.trimmed ground (quotients (e + 1 + 1) cs) in
    let short = length-trimmed (quotients (e + 1 + 1) cs) in
    let same = length-quotients (e + 1 + 1) cs in
    term-added (poly.coefficient ground f e) (quotient_of (poly.coefficient ground f e) (e + 1)) e p h (trimmed-trimmed ground (quotients (e + 1 + 1) cs)) (omega arith)

length-after : (e : ℕ) (p : List Fraction) → e ≤ length p → length (drop e p) + e ≡ length p
length-after zero p h = omega arith
length-after (suc e) [] h = absurd (omega arith)
length-after (suc e) (c ∷ p) h = let others = length-after e p (omega arith) in omega arith

after-all : (p : List Fraction) → drop (length p) p ≡ []
after-all [] = refl
after-all (c ∷ p) = after-all p

module _ (f : List Fraction) (l : AllValid IsLowest f) (s : IsSmall f) where
  terms-added : (e : ℕ) → e ≤ length f → steps f e (upper (e + 1) (drop e f)) ≡ Ok (poly.trimmed ground (whole 0 ∷ quotients 1 f))
  terms-added zero h = ap Ok (shifted-one (poly.trimmed ground (quotients 1 f)))
  terms-added (suc e) h =
      let c = poly.coefficient ground f e in
      let cs = drop (suc e) f in
      let more : suc e + 1 ≡ e + 1 + 1 = omega arith in
      let long = length-after (suc e) f h in
      let few = s.degree in
      let part = quotient-is c (e + 1) (coefficient-valid ground_means f e l) (s.coefficients e ground.zero (omega arith)) (omega arith) (omega arith) in
      ap (λ n. and_then (step c e (upper n cs)) (steps f e)) more
      ∙ ap (λ x. and_then x (steps f e)) (upper-more f cs e part (omega arith))
      ∙ ap (λ q. steps f e (upper (e + 1) q)) (sym (drop-cons f e ground.zero (omega arith)))
      ∙ terms-added e (omega arith)

  steps-are : steps f (length f) [] ≡ Ok (poly.trimmed ground (whole 0 ∷ quotients 1 f))
  steps-are = ap (λ q. steps f (length f) (upper (length f + 1) q)) (sym (after-all f)) ∙ terms-added (length f) (omega arith)

  branch-is : (budget : ℕ) → 512 ≤ budget → branch budget f ≡ Ok (poly.trimmed ground (whole 0 ∷ quotients 1 f))
  unfolding branch
  branch-is budget enough =
      let few = s.degree in
      steps-with_terms budget f (length f) [] (poly.trimmed ground (whole 0 ∷ quotients 1 f)) (omega arith) steps-are

  -- ---- the derivative
  tail-leading : (p : List Fraction) → drop 1 (poly.leading ground (whole 0) p) ≡ p
  tail-leading [] = refl
  tail-leading (c ∷ p) = refl

  module _ (t : poly.trimmed ground f ≡ f) where
    derivative-is : poly.partial ground (poly.trimmed ground (whole 0 ∷ quotients 1 f)) ≡ Ok f
    unfolding poly.partial
    derivative-is =
        let few = s.degree in
        let divided = all-divided 1 f l (all-small f s.coefficients) (omega arith) (omega arith) in
        let untrimmed : poly.trimmed ground (quotients 1 f) ≡ quotients 1 f = trimmed-quotients 1 f divided ∙ ap (quotients 1) t in
        ap (λ q. and_then (poly.multiples_onto ground [] 1 q) (λ r. poly.sized ground (poly.trimmed ground r))) (tail-leading (poly.trimmed ground (quotients 1 f)) ∙ untrimmed)
        ∙ ap (λ x. and_then x (λ r. poly.sized ground (poly.trimmed ground r))) (multiples-quotients [] 1 f divided)
        ∙ formed-small f f t (omega arith)

    answer-is : (budget : ℕ) → 512 ≤ budget → answer budget f ≡ Integral (part_alone (poly.trimmed ground (whole 0 ∷ quotients 1 f)))
    unfolding answer
    answer-is budget enough =
        let part = poly.trimmed ground (whole 0 ∷ quotients 1 f) in
        ap (gathered f) (branch-is budget enough) ∙ ap (checked f part) derivative-is
        ∙ ap (λ b. if b then Integral (part_alone part) else Disagree (element_of f) (element_of f)) (same_if ground_means f l)

-- degree at most 254 and coefficients with numerators and denominators below 2^60, and a budget of at least 512: no overflow, no size, no stop of the budget, no disagreement
pub small-integral : (budget : ℕ) (f : List Fraction) → 512 ≤ budget → AllValid IsLowest f → poly.trimmed ground f ≡ f → IsSmall f →
    (part : List Fraction) × (answer budget f ≡ Integral (part_alone part))
small-integral budget f enough l t s = (poly.trimmed ground (whole 0 ∷ quotients 1 f), answer-is f l s t budget enough)
