-- A tower as the list of its monomials above x, with the rate of each; the levels above its height are constants.
use Rattle.std.specs.Prelude.{◌≡◌, ℕ, ◌-◌, nat_lt, Bool, true, false, ◌&&◌, if◌then◌else◌, List, [], ◌∷◌, ◌++◌, map, length, slice_index_or, ⊤, Result, Ok, Err}
use Rattle.risch_field.specs.Checked.{Checked}
use Rattle.risch_field.specs.declared.Fail.{Fail}
use Rattle.risch_field.specs.declared.Fail.TheVariants.{Overflow, Size, Memory}
use Rattle.risch_level.specs.Levels.{Element, element}
use Rattle.risch_derivation.specs.Derivation.{Rates}
use Rattle.risch_derivation.specs.declared.rate.Kind.TheVariants.{Primitive, Exponential}
use Rattle.risch_derivation.specs.declared.rate.Rate.{Rate}
use Rattle.risch_element_theory.specs.ElementDerivation.{derive_element, element_constants, element_adjoined}
use Rattle.risch_tower.specs.declared.level.Level.{Level}
use Rattle.risch_tower.specs.declared.level.Monomial.{Monomial}
use Rattle.risch_tower.specs.declared.level.Monomial.TheVariants.{Log, Exp}
use Rattle.risch_tower.specs.declared.fault.PushFault as fault
use Rattle.risch_tower.specs.declared.fault.PushFault.{PushFault}
use Rattle.risch_tower.specs.declared.fault.PushFault.TheVariants.{TooHigh, ZeroArgument, ConstantArgument}

-- a, for log a and exp a
abbrev pub argument : Monomial → Element
argument (Log a) = a
argument (Exp a) = a

-- whether both are logarithms, or both exponentials, of the same
abbrev pub same_monomial : Monomial → Monomial → Bool
same_monomial (Log a) (Log b) = element.same a b
same_monomial (Log a) (Exp b) = false
same_monomial (Exp a) (Log b) = false
same_monomial (Exp a) (Exp b) = element.same a b

-- whether the monomials are the same, one by one
abbrev pub same_levels : List Level → List Level → Bool
same_levels [] [] = true
same_levels [] (m ∷ more) = false
same_levels (l ∷ levels) [] = false
same_levels (l ∷ levels) (m ∷ more) = same_monomial l.monomial m.monomial && same_levels levels more

-- Dx = 1
abbrev pub rate_of_x : Rate Element
rate_of_x = record { kind = Primitive; eta = element.one }

-- the rate of each level: of x, and of the monomials
abbrev pub rate_at : List Level → ℕ → Rate Element
rate_at levels n = slice_index_or (rate_of_x ∷ map (λ l. l.rate) levels) n rate_of_x

-- the rates after those of more levels, from the one that is `down` levels below the highest
abbrev pub rates_from : Rates 5 → ℕ → List Level → Rates 5
rates_from rates down [] = rates
rates_from rates down (l ∷ levels) = rates_from (element_adjoined rates down l.rate) (down - 1) levels

-- those of x, which is 4 levels below the highest, and of the monomials
abbrev pub rates_of : List Level → Rates 5
rates_of levels = rates_from (element_adjoined element_constants 4 rate_of_x) 3 levels

-- De in the tower
abbrev pub derivative : List Level → Element → Checked Element
derivative levels e = derive_element (rates_of levels) e

-- a stop as a refusal
abbrev pub fault_of : Fail → PushFault
fault_of (Overflow op) = fault.TheVariants.Overflow op
fault_of Size = fault.TheVariants.Size
fault_of Memory = fault.TheVariants.Memory

-- a value, and then what is answered for it
abbrev pub or_fault : {A B : Type 0} → Checked A → (A → Result B PushFault) → Result B PushFault
or_fault (Ok a) f = f a
or_fault (Err stop) f = Err (fault_of stop)

-- the levels with one more, where it has a rate
abbrev pub with_level : List Level → Monomial → Result (Rate Element) PushFault → Result (List Level) PushFault
with_level levels monomial (Ok rate) = Ok (levels ++ (record { monomial = monomial; rate = rate }) ∷ [])
with_level levels monomial (Err refusal) = Err refusal

-- D is the derivation of the tower
module _ (D : Element → Checked Element) where
  -- D(log a) = Da/a
  unfoldable pub rate_of_logarithm : Element → Result (Rate Element) PushFault
  rate_of_logarithm a =
      if element.is_zero a then Err ZeroArgument else
      or_fault (D a) (λ d.
      if element.is_zero d then Err ConstantArgument else
      or_fault (element.quotient d a) (λ eta. Ok (record { kind = Primitive; eta = eta })))

  -- D(exp a) = Da·exp a
  unfoldable pub rate_of_exponential : Element → Result (Rate Element) PushFault
  rate_of_exponential a =
      or_fault (D a) (λ d.
      if element.is_zero d then Err ConstantArgument else
      Ok (record { kind = Exponential; eta = d }))

  -- the rate of a monomial
  abbrev pub rate_of : Monomial → Result (Rate Element) PushFault
  rate_of (Log a) = rate_of_logarithm a
  rate_of (Exp a) = rate_of_exponential a

-- the levels after a push; a tower has 4 monomials at most
unfoldable pub pushed : List Level → Monomial → Result (List Level) PushFault
pushed levels monomial = if nat_lt (length levels) 4 then with_level levels monomial (rate_of (derivative levels) monomial) else Err TooHigh

-- a refusal that is not want of memory is the rule's
abbrev pub Refuses : {A : Type 0} → PushFault → Result A PushFault → Type 0
Refuses fault.TheVariants.Memory rule = Unit {0}
Refuses refusal rule = rule ≡ Err refusal

-- the answer is the rule's, or want of memory
abbrev pub Answers : {A : Type 0} → Result A PushFault → Result A PushFault → Type 0
Answers (Ok a) rule = rule ≡ Ok a
Answers (Err refusal) rule = Refuses refusal rule

-- the same of a call that writes its value
abbrev pub AnswersWith : {A : Type 0} → Result ⊤ PushFault → A → Result A PushFault → Type 0
AnswersWith (Ok u) written rule = rule ≡ Ok written
AnswersWith (Err refusal) written rule = Refuses refusal rule
