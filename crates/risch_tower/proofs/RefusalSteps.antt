-- Steps of the rule of a push: a stop refuses it, and a value goes on. The rates after one more level.
use Rattle.std.proofs.Common.{◌≡◌, ℕ, ◌-◌, List, [], ◌∷◌, ◌++◌, length, Result, Ok, refl, ◌∙◌, ap, arith}
use Rattle.risch_field.specs.Checked.{Checked, IsStopOf}
use Rattle.risch_field.specs.declared.Fail.{Fail}
use Rattle.risch_field.specs.declared.Fail.TheVariants.{Overflow, Size, Memory}
use Rattle.risch_level.specs.Levels.{Element}
use Rattle.risch_derivation.specs.Derivation.{Rates}
use Rattle.risch_derivation.specs.declared.rate.Rate.{Rate}
use Rattle.risch_element_theory.specs.ElementDerivation.{element_adjoined, element_constants}
use Rattle.risch_tower.specs.declared.level.Level.{Level}
use Rattle.risch_tower.specs.declared.level.Monomial.{Monomial}
use Rattle.risch_tower.specs.declared.fault.PushFault as fault
use Rattle.risch_tower.specs.declared.fault.PushFault.{PushFault}
use Rattle.risch_tower.specs.declared.fault.PushFault.TheVariants.{TooHigh, ZeroArgument, ConstantArgument}
use Rattle.risch_tower.specs.Tower.{fault_of, or_fault, Refuses, Answers, with_level, rate_of_x, rates_from, rates_of}

pub stop_refuses : {A B : Type 0} (refusal : PushFault) (stop : Fail) (rule : Checked A) (next : A → Result B PushFault) →
    refusal ≡ fault_of stop → IsStopOf stop rule → Refuses refusal (or_fault rule next)
stop_refuses refusal (Overflow op) rule next e h = rw (e, h) refl
stop_refuses refusal Size rule next e h = rw (e, h) refl
stop_refuses refusal Memory rule next e h = rw e tt

pub value_answers : {A B : Type 0} (result : Result B PushFault) (rule : Checked A) (next : A → Result B PushFault) (a : A) →
    rule ≡ Ok a → Answers result (next a) → Answers result (or_fault rule next)
value_answers result rule next a e h = rw e h

pub refusal_stays : (levels : List Level) (monomial : Monomial) (refusal : PushFault) (rule : Result (Rate Element) PushFault) →
    Refuses refusal rule → Refuses refusal (with_level levels monomial rule)
refusal_stays levels monomial TooHigh rule h = rw h refl
refusal_stays levels monomial ZeroArgument rule h = rw h refl
refusal_stays levels monomial ConstantArgument rule h = rw h refl
refusal_stays levels monomial (fault.TheVariants.Overflow op) rule h = rw h refl
refusal_stays levels monomial fault.TheVariants.Size rule h = rw h refl
refusal_stays levels monomial fault.TheVariants.Memory rule h = tt

pub rates_from_one_more : (rates : Rates 5) (down : ℕ) (levels : List Level) (level : Level) →
    rates_from rates down (levels ++ level ∷ []) ≡ element_adjoined (rates_from rates down levels) (down - length levels) level.rate
rates_from_one_more rates down [] level =
    let same : down ≡ down - 0 = omega arith in
    ap (λ (n : ℕ). element_adjoined rates n level.rate) same
rates_from_one_more rates down (l ∷ levels) level =
    let less : down - 1 - length levels ≡ down - length (l ∷ levels) = omega arith in
    rates_from_one_more (element_adjoined rates down l.rate) (down - 1) levels level ∙
    ap (λ (n : ℕ). element_adjoined (rates_from (element_adjoined rates down l.rate) (down - 1) levels) n level.rate) less

pub rates_of_one_more : (levels : List Level) (level : Level) → rates_of (levels ++ level ∷ []) ≡ element_adjoined (rates_of levels) (3 - length levels) level.rate
rates_of_one_more levels level = rates_from_one_more (element_adjoined element_constants 4 rate_of_x) 3 levels level
