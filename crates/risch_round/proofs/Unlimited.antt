-- The polynomial branch with no budget: what it gives is what the branch gives where two units for each term are there.
use Rattle.std.specs.Prelude.{if◌then◌else◌, nat_lt}
use Rattle.std.proofs.Common.{◌≡◌, ℕ, zero, suc, ◌-◌, ◌*◌, ◌≤◌, List, true, false, Ok, Err, refl, sym, ap, ◌∙◌, arith}
use Rattle.std.proofs.lemmas.Bool.{cond_both, le-ltb}
use Rattle.risch_frac.specs.Fraction.{Fraction, is_zero}
use Rattle.risch_field.specs.Checked.{Checked, and_then}
use Rattle.risch_field.specs.Ground.{ground}
use Rattle.risch_field.proofs.CheckedSteps.{and_then-ok}
use Rattle.risch_polynomial.specs.Poly as poly
use Rattle.risch_elem.specs.declared.units.Stop.TheVariants.{Budget}
use Rattle.risch_round.specs.Procedure.{Limited, and_next, limited, with_term, with_terms}

-- the piece with the integral of c·x^e; a coefficient 0 is passed over
abbrev pub step : Fraction → ℕ → List Fraction → Checked (List Fraction)
step c e piece = if is_zero c then Ok piece else with_term c e piece

-- the same of the terms of the exponents below n
abbrev pub steps : List Fraction → ℕ → List Fraction → Checked (List Fraction)
steps f zero piece = Ok piece
steps f (suc e) piece = and_then (step (poly.coefficient ground f e) e piece) (steps f e)

-- the first value of two steps, and the second from it
record Goes {A B : Type 0} (rule : Checked A) (next : A → Limited B) (result : B) : Type 0 where
  pub value : A
  pub is : rule ≡ Ok value
  pub goes : next value ≡ Ok result

next-ok : {A B : Type 0} (rule : Checked A) (next : A → Limited B) (result : B) → and_next (limited rule) next ≡ Ok result → Goes rule next result
next-ok (Ok a) next result e = record { value = a; is = refl; goes = e }
next-ok (Err stop) next result e = cc

step-zero : (c : Fraction) (e : ℕ) (piece : List Fraction) → is_zero c ≡ true → step c e piece ≡ Ok piece
step-zero c e piece z = rw z refl

step-some : (c : Fraction) (e : ℕ) (piece : List Fraction) → is_zero c ≡ false → step c e piece ≡ with_term c e piece
step-some c e piece z = rw z refl

-- ---- what the branch gives is given with no budget
pub with_terms-steps : (units : ℕ) (f : List Fraction) (n : ℕ) (piece part : List Fraction) → with_terms units f n piece ≡ Ok part → steps f n piece ≡ Ok part
with_terms-steps units f zero piece part h = let same : piece ≡ part = cc in ap Ok same
with_terms-steps units f (suc e) piece part h =
    let c = poly.coefficient ground f e in
    let Goal : Limited (List Fraction) → Type 0 = λ rule. rule ≡ Ok part → steps f (suc e) piece ≡ Ok part in
    cond_both (is_zero c) (with_terms units f e piece) (if nat_lt units 2 then Err Budget else and_next (limited (with_term c e piece)) (with_terms (units - 2) f e)) Goal
    (λ z k. ap (λ r. and_then r (steps f e)) (step-zero c e piece z) ∙ with_terms-steps units f e piece part k)
    (λ z. cond_both (nat_lt units 2) (Err Budget) (and_next (limited (with_term c e piece)) (with_terms (units - 2) f e)) Goal
    (λ few k. cc)
    (λ enough k. let two = next-ok (with_term c e piece) (with_terms (units - 2) f e) part k in
    ap (λ r. and_then r (steps f e)) (step-some c e piece z ∙ two.is) ∙ with_terms-steps (units - 2) f e two.value part two.goes)) h

-- ---- with enough units
pub steps-with_terms : (units : ℕ) (f : List Fraction) (n : ℕ) (piece part : List Fraction) → 2 * n ≤ units → steps f n piece ≡ Ok part → with_terms units f n piece ≡ Ok part
steps-with_terms units f zero piece part enough h = let same : piece ≡ part = cc in ap Ok same
steps-with_terms units f (suc e) piece part enough h =
    let c = poly.coefficient ground f e in
    let two = and_then-ok (step c e piece) (steps f e) part h in
    cond_both (is_zero c) (with_terms units f e piece) (if nat_lt units 2 then Err Budget else and_next (limited (with_term c e piece)) (with_terms (units - 2) f e)) (λ rule. rule ≡ Ok part)
    (λ z. let same : Ok piece ≡ Ok two.value = sym (step-zero c e piece z) ∙ two.is in
    let here : piece ≡ two.value = cc in
    steps-with_terms units f e piece part (omega arith) (ap (steps f e) here ∙ two.next))
    (λ z. let under : nat_lt units 2 ≡ false = le-ltb units 2 (omega arith) in
    ap (λ b. if b then Err Budget else and_next (limited (with_term c e piece)) (with_terms (units - 2) f e)) under
    ∙ ap (λ r. and_next (limited r) (with_terms (units - 2) f e)) (sym (step-some c e piece z) ∙ two.is)
    ∙ steps-with_terms (units - 2) f e two.value part (omega arith) two.next)
