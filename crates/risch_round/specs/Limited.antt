-- What the code answers where a rule may stop a run.
use Rattle.std.specs.Prelude.{◌≡◌, Result, Ok, Err}
use Rattle.risch_field.specs.declared.Fail.{Fail}
use Rattle.risch_field.specs.declared.Fail.TheVariants.{Overflow, Size, Memory}
use Rattle.risch_round.specs.declared.procedure.BranchFault.{BranchFault}
use Rattle.risch_round.specs.declared.procedure.BranchFault.TheVariants as fault
use Rattle.risch_round.specs.Procedure.{Limited, stop_of}

-- the stop of a rule, or want of memory
abbrev pub fault_of : Fail → BranchFault
fault_of (Overflow op) = fault.Stopped (stop_of (Overflow op))
fault_of Size = fault.Stopped (stop_of Size)
fault_of Memory = fault.Memory

-- a stop is the rule's
abbrev pub IsFaultOf : {A : Type 0} → BranchFault → Limited A → Type 0
IsFaultOf (fault.Stopped stop) rule = rule ≡ Err stop
IsFaultOf fault.Memory rule = Unit {0}

-- the answer is the rule's, or want of memory
abbrev pub Answers : {A : Type 0} → Result A BranchFault → Limited A → Type 0
Answers (Ok a) rule = rule ≡ Ok a
Answers (Err fault) rule = IsFaultOf fault rule
