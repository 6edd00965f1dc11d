-- The rates of the levels of a field, and how one of them is set by an element of the highest level.
use Rattle.std.specs.Prelude.{ℕ, zero, suc, ◌-◌, nat_eq, if◌then◌else◌}
use Rattle.risch_field.specs.Ops.{Ops}
use Rattle.risch_level.specs.Levels.{Field, field}
use Rattle.risch_level.specs.Tower.{lowered_element}
use Rattle.risch_level.specs.declared.over.Over.{Over}
use Rattle.risch_derivation.specs.declared.rate.Kind.TheVariants.{Primitive}
use Rattle.risch_derivation.specs.declared.rate.Rate.{Rate}
use Rattle.risch_derivation.specs.Derivation.{Rates}

module _ {E : Type 0} (o : Ops E) where
  -- the rate of a constant: Dt = 0
  abbrev pub constant_rate : Rate E
  constant_rate = record { kind = Primitive; eta = o.zero }

  -- the rate whose η is that element of the field below; one that does not lie there counts as 0
  abbrev pub lowered_rate : Rate (Over E) → Rate E
  lowered_rate rate = record { kind = rate.kind; eta = lowered_element o rate.eta }

  -- the rates with this one for the level that many levels below the highest; `adjoined` does so for the levels below
  abbrev pub adjoined_over : {R : Type 0} → (R → ℕ → Rate E → R) → R × Rate E → ℕ → Rate (Over E) → R × Rate E
  adjoined_over adjoined rates down rate =
      if nat_eq down 0 then (rates.0, lowered_rate rate) else (adjoined rates.0 (down - 1) (lowered_rate rate), rates.1)

-- the rates of a field of this height by which D is 0
abbrev pub constants : (height : ℕ) → Rates height
constants zero = tt
constants (suc height) = (constants height, constant_rate (field height))

-- its rates with this one for the level that many levels below the highest
abbrev pub adjoined : (height : ℕ) → Rates height → ℕ → Rate (Field height) → Rates height
adjoined zero rates down rate = rates
adjoined (suc height) rates down rate = adjoined_over (field height) (adjoined height) rates down rate
