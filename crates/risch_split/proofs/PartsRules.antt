-- The rule of the parts of d: it has at least as many steps as d has coefficients, and what its steps give is the rule's.
use Rattle.std.specs.Prelude.{IfOk}
use Rattle.std.proofs.Common.{◌≡◌, ℕ, zero, suc, ◌≤◌, ◌<◌, true, false, List, length, Result, Ok, Err, subst, arith}
use Rattle.risch_field.specs.Checked.{Checked, and_then, Agrees, IsStopOf}
use Rattle.risch_field.specs.declared.Fail.{Fail}
use Rattle.risch_field.proofs.CheckedSteps.{stop_passes, value_passes}
use Rattle.risch_polynomial.specs.Poly as poly
use Rattle.risch_level.specs.Levels.{Element, element}
use Rattle.risch_tower.specs.declared.level.Level.{Level}
use Rattle.risch_split.specs.declared.splitting.Split.{Split}
use Rattle.risch_monomial.specs.LevelElements.{one}
use Rattle.risch_split.specs.Splitting.{special_factor, with_factor, parts_with, parts_in}

-- what holds of a value holds of the value of a call that agrees with it
pub of_value : {A : Type 0} (P : A → Type 0) (result : Result A Fail) (a : A) → Agrees result (Ok a) → P a → IfOk result P
of_value P (Ok b) a h p = let e : a ≡ b = cc in subst P e p
of_value P (Err stop) a h p = tt

module _ (tower : List Level) (level : ℕ) (d : List Element) (some : 0 < length d) where
  -- of one step
  abbrev next : ℕ → List Element → Checked Split
  next m s = parts_with tower level (parts_in tower level m) d s

  -- what agrees with one step and the rest agrees with the rule
  pub step-agrees : (result : Result Split Fail) → ((m : ℕ) → length d ≤ suc m → Agrees result (and_then (special_factor tower level d) (next m))) → (steps : ℕ) → length d ≤ steps → Agrees result (parts_in tower level steps d)
  step-agrees result h zero l = absurd (omega arith)
  step-agrees result h (suc m) l = h m l

  pub factor-stops : (stop : Fail) → IsStopOf stop (special_factor tower level d) → (steps : ℕ) → length d ≤ steps → Agrees {A = Split} (Err stop) (parts_in tower level steps d)
  factor-stops stop h = step-agrees (Err stop) (λ m l. stop_passes stop (special_factor tower level d) (next m) h)

  module _ (s : List Element) (factor : special_factor tower level d ≡ Ok s) where
    step-with : (result : Result Split Fail) → ((m : ℕ) → length d ≤ suc m → Agrees result (next m s)) → (steps : ℕ) → length d ≤ steps → Agrees result (parts_in tower level steps d)
    step-with result h = step-agrees result (λ m l. value_passes result (special_factor tower level d) (next m) s factor (h m l))

    -- S = 1
    pub parts-ended : (result : Result Split Fail) → poly.is_one element s ≡ true → Agrees result (Ok (record { normal = d; special = one })) → (steps : ℕ) → length d ≤ steps → Agrees result (parts_in tower level steps d)
    parts-ended result is_one h = step-with result (λ m l. rw is_one h)

    -- a stop of d quo S
    pub quotient-stops : (stop : Fail) → poly.is_one element s ≡ false → IsStopOf stop (poly.quo element d s) → (steps : ℕ) → length d ≤ steps → Agrees {A = Split} (Err stop) (parts_in tower level steps d)
    quotient-stops stop other h = step-with (Err stop) (λ m l. rw other
        (stop_passes stop (poly.quo element d s) (λ q. and_then (parts_in tower level m q) (with_factor s)) h))

    module _ (q : List Element) (other : poly.is_one element s ≡ false) (quotient : poly.quo element d s ≡ Ok q) (shorter : length q < length d) where
      step-rest : (result : Result Split Fail) → ((m : ℕ) → length q ≤ m → Agrees result (and_then (parts_in tower level m q) (with_factor s))) → (steps : ℕ) → length d ≤ steps →
          Agrees result (parts_in tower level steps d)
      step-rest result h = step-with result (λ m l. rw other
          (value_passes result (poly.quo element d s) (λ q. and_then (parts_in tower level m q) (with_factor s)) q quotient (h m (omega arith))))

      pub rest-stops : (stop : Fail) → ((m : ℕ) → length q ≤ m → Agrees {A = Split} (Err stop) (parts_in tower level m q)) → (steps : ℕ) → length d ≤ steps → Agrees {A = Split} (Err stop) (parts_in tower level steps d)
      rest-stops stop h = step-rest (Err stop) (λ m l. stop_passes stop (parts_in tower level m q) (with_factor s) (h m l))

      pub parts-found : (split : Split) → ((m : ℕ) → length q ≤ m → Agrees (Ok split) (parts_in tower level m q)) → (result : Result Split Fail) → Agrees result (with_factor s split) →
          (steps : ℕ) → length d ≤ steps → Agrees result (parts_in tower level steps d)
      parts-found split rest result h = step-rest result (λ m l. value_passes result (parts_in tower level m q) (with_factor s) split (rest m l) h)
