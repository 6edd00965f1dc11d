-- The answers of a call that counts units.
use Rattle.std.specs.Prelude.{◌≡◌, ℕ, ◌+◌, ◌-◌, ◌^◌, ◌≤◌, min, max}
use Rattle.risch_elem.specs.declared.units.Stop.TheVariants.{Budget}
use Rattle.risch_elem.specs.declared.units.Run.{Run}
use Rattle.risch_elem.specs.declared.units.Run.TheVariants.{Done, Stopped, Left, Memory}

-- where the answer is a value, the fact holds
abbrev pub OnDone : {T : Type 0} → Run T → Type 0 → Type 0
OnDone (Done t) fact = fact
OnDone (Stopped stop) fact = Unit {0}
OnDone Left fact = Unit {0}
OnDone Memory fact = Unit {0}

-- where the answer is Left, the fact holds
abbrev pub OnLeft : {T : Type 0} → Run T → Type 0 → Type 0
OnLeft (Done t) fact = Unit {0}
OnLeft (Stopped stop) fact = Unit {0}
OnLeft Left fact = fact
OnLeft Memory fact = Unit {0}

-- where the answer is a value or a stop, the fact holds
abbrev pub OnReturn : {T : Type 0} → Run T → Type 0 → Type 0
OnReturn (Done t) fact = fact
OnReturn (Stopped stop) fact = fact
OnReturn Left fact = Unit {0}
OnReturn Memory fact = Unit {0}

-- the answer is the stop Budget
abbrev pub IsBudget : {T : Type 0} → Run T → Type 0
IsBudget run = run ≡ Stopped Budget

-- the answer is a value, the stop Budget or Left
abbrev pub IsUnitAnswer : {T : Type 0} → Run T → Type 0
IsUnitAnswer (Done t) = Unit {0}
IsUnitAnswer (Stopped stop) = stop ≡ Budget
IsUnitAnswer Left = Unit {0}
IsUnitAnswer Memory = ⊥

-- a count that rose; one that stands at the last number of 64 bits serves too, and it never falls
abbrev pub Rose : ℕ → ℕ → Type 0
Rose before now = max before (min (before + 1) (2 ^ 64 - 1)) ≤ now
