-- What a file is read as, with places as offsets from its first byte.
use Rattle.std.specs.Prelude.{◌≡◌, ℕ, ◌-◌, List, length, Ok, Err}
use Rattle.risch_text.specs.File.{whole_problem}
use Rattle.risch_text.specs.Problem.{ProblemValue}
use Rattle.risch_text.specs.Values.{Reading, valued_by, problem_value}
use Rattle.risch_text.specs.declared.fault.Fault.TheVariants as fault
use Rattle.risch_text.specs.declared.problem.ReadProblem.{ReadProblem}
use Rattle.risch_text.specs.declared.problem.ReadProblem.TheVariants.{Problem, Syntax, Refused, Stopped, Memory}

-- the answer for a file of so many bytes
abbrev pub problem_answer : ℕ → Reading ProblemValue → ReadProblem
problem_answer size (Ok problem) = Problem problem
problem_answer size (Err (fault.Syntax f)) = Syntax (size - f.left) f.cause
problem_answer size (Err (fault.Refused left refusal)) = Refused (size - left) refusal
problem_answer size (Err (fault.Stopped stop)) = Stopped stop
problem_answer size (Err fault.Memory) = Memory

-- the problem of a file, or the first fault of its syntax, or else what ends its evaluation
unfoldable pub read_problem : List ℕ → ReadProblem
read_problem bytes = problem_answer (length bytes) (valued_by problem_value (whole_problem bytes))

-- the answer is this, or want of memory
abbrev pub IsReadAs : ReadProblem → ReadProblem → Type 0
IsReadAs (Problem problem) rule = rule ≡ Problem problem
IsReadAs (Syntax at cause) rule = rule ≡ Syntax at cause
IsReadAs (Refused at cause) rule = rule ≡ Refused at cause
IsReadAs (Stopped stop) rule = rule ≡ Stopped stop
IsReadAs Memory rule = Unit {0}
