-- The rules of the end of the reduction and of the whole, step by step, and how many parts there are.
use Rattle.std.specs.Prelude.{if◌then◌else◌}
use Rattle.std.proofs.Common.{◌≡◌, ℕ, zero, suc, ◌+◌, ◌≤◌, Bool, true, false, List, [], ◌∷◌, ◌++◌, drop, length, Result, Ok, Err, subst, arith, length-append}
use Rattle.risch_field.specs.Checked.{Checked, and_then, Agrees, IsStopOf}
use Rattle.risch_field.specs.declared.Fail.{Fail}
use Rattle.risch_field.proofs.CheckedSteps.{stop_passes, value_passes, and_then-ok}
use Rattle.risch_polynomial.specs.Poly as poly
use Rattle.risch_level.specs.Levels.{Element, element}
use Rattle.risch_run.specs.declared.Ended.{Ended}
use Rattle.risch_run.specs.Ruled.{formed, ended_by}
use Rattle.risch_run.specs.Counted.{Counted, free, and_counted, IsCountedResult}
use Rattle.risch_run.proofs.CountedSteps.{end_passes, result_passes, value_goes_on, value_ends, stop_stands, stop_ends}
use Rattle.risch_sub.specs.SquareFree.{parts_from, square_free_parts}
use Rattle.risch_tower.specs.declared.level.Level.{Level}
use Rattle.risch_monomial.specs.LevelElements.{denominator_at}
use Rattle.risch_hermite.specs.declared.partial.Partial.{Partial}
use Rattle.risch_hermite.specs.declared.reduction.Hermite.{Hermite}
use Rattle.risch_hermite.specs.HermiteReduction.{with_division, finished, start, with_parts, hermite}

abbrev State : Type 0
State = Partial × List Element

-- ---- how many parts there are
module _ (steps : ℕ) (parts : List (List Element)) (w c : List Element) where
  abbrev with_rest : List Element → List Element → List Element → Checked (List (List Element))
  with_rest y part rest = parts_from steps (parts ++ part ∷ []) y rest

  abbrev with_part : List Element → List Element → Checked (List (List Element))
  with_part y part = and_then (poly.quo element c y) (with_rest y part)

  abbrev with_divisor : List Element → Checked (List (List Element))
  with_divisor y = and_then (poly.quo element w y) (with_part y)

parts_from-length : (steps : ℕ) (parts : List (List Element)) (w c : List Element) (all : List (List Element)) → parts_from steps parts w c ≡ Ok all → length all ≤ length parts + steps
parts_from-length zero parts w c all e = let same : parts ≡ all = cc in rw (← same) (omega arith)
parts_from-length (suc steps) parts w c all e = by (poly.is_one element w) (parts_from-length steps) e
  where
    by : (z : Bool) → ((more : List (List Element)) (w c : List Element) (all : List (List Element)) → parts_from steps more w c ≡ Ok all → length all ≤ length more + steps) → (if z then Ok parts else and_then (poly.gcd element w c) (with_divisor steps parts w c)) ≡ Ok all → length all ≤ length parts + suc steps
    by true ih h = let same : parts ≡ all = cc in rw (← same) (omega arith)
    by false ih h =
        let y = and_then-ok (poly.gcd element w c) (with_divisor steps parts w c) all h in
        let part = and_then-ok (poly.quo element w y.value) (with_part steps parts w c y.value) all y.next in
        let rest = and_then-ok (poly.quo element c y.value) (with_rest steps parts w c y.value part.value) all part.next in
        let more = ih (parts ++ part.value ∷ []) y.value rest.value all rest.next in
        let longer = length-append parts (part.value ∷ []) in
        omega (arith, more, longer)

pub parts-few : (p : List Element) (parts : List (List Element)) → square_free_parts p ≡ Ok parts → length parts ≤ length p
unfolding square_free_parts
parts-few p parts e =
    let derivative = and_then-ok (poly.partial element p) (λ d. and_then (poly.gcd element p d) (λ c. and_then (poly.quo element p c) (λ w. parts_from (length p) [] w c))) parts e in
    let divisor = and_then-ok (poly.gcd element p derivative.value) (λ c. and_then (poly.quo element p c) (λ w. parts_from (length p) [] w c)) parts derivative.next in
    let whole = and_then-ok (poly.quo element p divisor.value) (λ w. parts_from (length p) [] w divisor.value) parts divisor.next in
    let few = parts_from-length (length p) [] whole.value divisor.value parts whole.next in
    omega (arith, few)

-- ---- the end
pub division-stops : (level : ℕ) (last : State) (stop : Fail) → IsStopOf stop (poly.division element last.0.numerator last.1) → IsStopOf stop (finished level last)
unfolding finished
division-stops level last stop h = stop_passes stop (poly.division element last.0.numerator last.1) (with_division level last.0 last.1) h

pub finished-with : (level : ℕ) (last : State) (d : List Element × List Element) (result : Result Hermite Fail) → poly.division element last.0.numerator last.1 ≡ Ok d → Agrees result (with_division level last.0 last.1 d) →
    Agrees result (finished level last)
unfolding finished
finished-with level last d result divided h = value_passes result (poly.division element last.0.numerator last.1) (with_division level last.0 last.1) d divided h

-- ---- the whole
module _ (tower : List Level) (level : ℕ) (f : Element) (begin : State) (begins : begin ≡ start level f) where
  abbrev last : State → Counted Hermite
  last state = free (formed (finished level state))

  abbrev with_all : List (List Element) → Counted Hermite
  with_all parts = and_counted (with_parts tower level 2 (drop 1 parts) (start level f)) last

  pub square_free-stops : (end : Ended) (stop : Fail) (k most : ℕ) → end ≡ ended_by stop → IsStopOf stop (square_free_parts begin.1) → IsCountedResult {A = Hermite} (Err end) (hermite tower level f) k k most
  unfolding hermite
  square_free-stops end stop k most e h = stop_ends {B = Hermite} end stop (square_free_parts (denominator_at level f)) with_all k most e (rw begins at h)

  module _ (parts : List (List Element)) (split : square_free_parts begin.1 ≡ Ok parts) where
    whole-with : (result : Result Hermite Ended) (before after most : ℕ) → IsCountedResult result (and_counted (with_parts tower level 2 (drop 1 parts) begin) last) before after most →
        IsCountedResult result (hermite tower level f) before after most
    unfolding hermite
    whole-with result before after most h =
        value_goes_on result (square_free_parts (denominator_at level f)) with_all parts before after most (rw begins at split)
        (subst (λ state. IsCountedResult result (and_counted (with_parts tower level 2 (drop 1 parts) state) last) before after most) begins h)

    pub parts-end : (end : Ended) (before after most : ℕ) → IsCountedResult {A = State} (Err end) (with_parts tower level 2 (drop 1 parts) begin) before after most → IsCountedResult {A = Hermite} (Err end) (hermite tower level f) before after most
    parts-end end before after most h = whole-with (Err end) before after most (end_passes {B = Hermite} end (with_parts tower level 2 (drop 1 parts) begin) last before after most h)

    module _ (state : State) (before after most : ℕ) (done : IsCountedResult (Ok state) (with_parts tower level 2 (drop 1 parts) begin) before after most) where
      pub finished-stops : (end : Ended) (stop : Fail) → end ≡ ended_by stop → IsStopOf stop (finished level state) → IsCountedResult {A = Hermite} (Err end) (hermite tower level f) before after most
      finished-stops end stop e h = whole-with (Err end) before after most
          (result_passes (Err end) (with_parts tower level 2 (drop 1 parts) begin) last state before after after most done (stop_stands {A = Hermite} end stop (finished level state) after most e h))

      pub hermite-found : (it : Hermite) → finished level state ≡ Ok it → IsCountedResult (Ok it) (hermite tower level f) before after most
      hermite-found it h = whole-with (Ok it) before after most
          (result_passes (Ok it) (with_parts tower level 2 (drop 1 parts) begin) last state before after after most done (value_ends (finished level state) it after most h))
