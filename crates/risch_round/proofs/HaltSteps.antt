-- Steps of a rule with stops at their steps.
use Rattle.std.proofs.Common.{Result, Ok, Err, refl}
use Rattle.risch_round.specs.declared.halted.HaltFault.{HaltFault}
use Rattle.risch_round.specs.declared.halted.HaltFault.TheVariants.{Halted as HaltedAt, Memory}
use Rattle.risch_round.specs.Halts.{Halted, and_halted, IsHalted}

pub fault_passes : {A B : Type 0} (fault : HaltFault) (rule : Halted A) (next : A → Halted B) → IsHalted {A = A} (Err fault) rule → IsHalted {A = B} (Err fault) (and_halted rule next)
fault_passes (HaltedAt halt) rule next h = rw h refl
fault_passes Memory rule next h = tt

pub value_goes_on : {A B : Type 0} (result : Result B HaltFault) (rule : Halted A) (next : A → Halted B) (a : A) →
    IsHalted (Ok a) rule → IsHalted result (next a) → IsHalted result (and_halted rule next)
value_goes_on result rule next a e h = rw e h

pub ruleset steps = (fault_passes, value_goes_on)
