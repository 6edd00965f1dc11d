-- What ends the reading, as it is passed on.
use Rattle.std.proofs.Common.{◌≡◌, ℕ, List, Result, Ok, Err, refl}
use Rattle.risch_frac.specs.Fraction.{Fraction}
use Rattle.risch_frac.specs.declared.Op.{Op}
use Rattle.risch_tower.specs.Tower as tower
use Rattle.risch_tower.specs.Tower.{pushed}
use Rattle.risch_tower.specs.declared.level.Level.{Level}
use Rattle.risch_tower.specs.declared.fault.PushFault as push
use Rattle.risch_level.specs.Levels.{Element}
use Rattle.risch_expression.specs.Tree.{Tree}
use Rattle.risch_expression.specs.Evaluation as evaluation
use Rattle.risch_expression.specs.Evaluation.{Valued}
use Rattle.risch_expression.specs.declared.fault.ValueFault as value
use Rattle.risch_text.specs.File.{TowerLine}
use Rattle.risch_text.specs.Programs.{tower_program}
use Rattle.risch_text.specs.declared.programs.TowerProgram.{TowerProgram}
use Rattle.risch_text.specs.declared.fault.Fault.{Fault}
use Rattle.risch_text.specs.declared.fault.Fault.TheVariants.{Syntax, Refused, Stopped, Memory}
use Rattle.risch_expression.specs.Results.{and_next}
use Rattle.risch_text.specs.Values.{monomial_with, with_line, element_at, polynomial_at, map_fault, fault_of_value, fault_of_push, overflow}
use Rattle.risch_text.specs.Reading.{IsEndOf}

-- the value of an expression, or its fault
value_fault : {A : Type 0} (start : ℕ) (fault : value.ValueFault) (rule : Valued A) → evaluation.IsValueFaultOf fault rule → IsEndOf (fault_of_value start fault) (map_fault (fault_of_value start) rule)
value_fault start (value.TheVariants.DivisionByZero left) rule h = rw h refl
value_fault start value.TheVariants.Shape rule h = rw h refl
value_fault start (value.TheVariants.Overflow op) rule h = rw h refl
value_fault start value.TheVariants.Size rule h = rw h refl
value_fault start value.TheVariants.Memory rule h = tt

pub element_read : (start : ℕ) (tree : Tree) (element : Element) → evaluation.element_value tree ≡ Ok element → element_at start tree ≡ Ok element
unfolding element_at
element_read start tree element h = rw h refl

pub element_fault : (start : ℕ) (tree : Tree) (fault : value.ValueFault) → evaluation.IsValueFaultOf fault (evaluation.element_value tree) → IsEndOf (fault_of_value start fault) (element_at start tree)
unfolding element_at
element_fault start tree fault h = value_fault start fault (evaluation.element_value tree) h

pub polynomial_read : (start : ℕ) (tree : Tree) (polynomial : List Element) → evaluation.evaluate tree ≡ Ok polynomial → polynomial_at start tree ≡ Ok polynomial
unfolding polynomial_at
polynomial_read start tree polynomial h = rw h refl

pub polynomial_fault : (start : ℕ) (tree : Tree) (fault : value.ValueFault) → evaluation.IsValueFaultOf fault (evaluation.evaluate tree) → IsEndOf (fault_of_value start fault) (polynomial_at start tree)
unfolding polynomial_at
polynomial_fault start tree fault h = value_fault start fault (evaluation.evaluate tree) h

-- the refusal of a monomial
push_fault : {A : Type 0} (left : ℕ) (fault : push.PushFault) (rule : Result A push.PushFault) → tower.Refuses fault rule → IsEndOf (fault_of_push left fault) (map_fault (fault_of_push left) rule)
push_fault left push.TheVariants.TooHigh rule h = rw h refl
push_fault left push.TheVariants.ZeroArgument rule h = rw h refl
push_fault left push.TheVariants.ConstantArgument rule h = rw h refl
push_fault left (push.TheVariants.Overflow op) rule h = rw h refl
push_fault left push.TheVariants.Size rule h = rw h refl
push_fault left push.TheVariants.Memory rule h = tt

-- the monomial of a tower line, which is kept as this program
module _ (levels : List Level) (program : TowerProgram) (l : TowerLine) (e : program ≡ tower_program l) where
  of_program : with_line levels l ≡ and_next (element_at program.left l.argument) (λ a. map_fault (fault_of_push program.left) (pushed levels (monomial_with program.exponential a)))
  unfolding with_line
  of_program = rw e refl

  pub line_ends : (fault : Fault) → IsEndOf fault (element_at program.left l.argument) → IsEndOf fault (with_line levels l)
  line_ends (Syntax f) h = rw (of_program, h) refl
  line_ends (Refused left cause) h = rw (of_program, h) refl
  line_ends (Stopped stop) h = rw (of_program, h) refl
  line_ends Memory h = tt

  module _ (argument : Element) (a : element_at program.left l.argument ≡ Ok argument) where
    at_argument : with_line levels l ≡ map_fault (fault_of_push program.left) (pushed levels (monomial_with program.exponential argument))
    at_argument = rw (of_program, a) refl

    pub line_pushed : (more : List Level) → pushed levels (monomial_with program.exponential argument) ≡ Ok more → with_line levels l ≡ Ok more
    line_pushed more h = rw (at_argument, h) refl

    pub line_refused : (fault : push.PushFault) → tower.Refuses fault (pushed levels (monomial_with program.exponential argument)) → IsEndOf (fault_of_push program.left fault) (with_line levels l)
    line_refused fault h = rw at_argument (push_fault program.left fault (pushed levels (monomial_with program.exponential argument)) h)

-- an operation on numbers
pub number_fault : (op : Op) (rule : Result Fraction Op) → rule ≡ Err op → map_fault overflow rule ≡ Err (overflow op)
number_fault op rule e = rw e refl
