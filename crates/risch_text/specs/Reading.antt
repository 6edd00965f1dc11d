-- What the code reads is what the definitions give.
use Rattle.std.specs.Prelude.{◌≡◌, ℕ, ◌+◌, ◌<◌, ◌^◌, Bool, true, false, ⊤, Option, None, Some, List, map, length, All, Result, Ok, Err}
use Rattle.risch_expression.specs.Tree.{Tree, IsOver}
use Rattle.risch_expression.specs.Program.{steps}
use Rattle.risch_expression.specs.Words.{Numeral}
use Rattle.risch_expression.specs.Grammar.{Read}
use Rattle.risch_expression.specs.declared.fault.ReadFault as reading
use Rattle.risch_expression.specs.declared.fault.SyntaxFault.{SyntaxFault}
use Rattle.risch_expression.specs.declared.names.Names.{Names}
use Rattle.risch_expression.specs.declared.program.Step.{Step}
use Rattle.risch_text.specs.Lines.{Front, Reached, reached}
use Rattle.risch_text.specs.File.{TowerLine, ProblemTree}
use Rattle.risch_text.specs.Certified.{LogLine, LogLines, EndTree, AnswerTree, CertifiedTree}
use Rattle.risch_text.specs.Values.{Reading}
use Rattle.risch_text.specs.Programs.{tower_program, problem_program, AreOver, IsProblemOver, log_program, end_program, partial_program, answer_program, certified_program, IsLogOver, IsEndOver, IsPartialOver, IsAnswerOver, IsCertifiedOver}
use Rattle.risch_text.specs.declared.fault.Fault.{Fault}
use Rattle.risch_text.specs.declared.fault.Fault.TheVariants.{Syntax, Refused, Stopped, Memory}
use Rattle.risch_text.specs.declared.programs.TowerProgram.{TowerProgram}
use Rattle.risch_text.specs.declared.programs.ProblemProgram.{ProblemProgram}
use Rattle.risch_text.specs.declared.programs.LogProgram.{LogProgram}
use Rattle.risch_text.specs.declared.programs.LogPrograms.{LogPrograms}
use Rattle.risch_text.specs.declared.programs.PartialProgram.{PartialProgram}
use Rattle.risch_text.specs.declared.programs.EndProgram.{EndProgram}
use Rattle.risch_text.specs.declared.programs.AnswerProgram.{AnswerProgram}
use Rattle.risch_text.specs.declared.programs.CertifiedProgram.{CertifiedProgram}

-- ---- lines
-- what is found at the front is passed; where nothing is found the front stays
abbrev pub Passes : Bool → Option Front → Front → Front → Type 0
Passes true found old new = found ≡ Some new
Passes false found old new = (found ≡ None) × (new ≡ old)

-- what has to stand there is passed
abbrev pub Moves : Result ⊤ SyntaxFault → Read Front → Front → Type 0
Moves (Ok u) rule new = rule ≡ Ok new
Moves (Err fault) rule new = rule ≡ Err fault

-- the same with a value
abbrev pub MovesTo : {A : Type 0} → Result A SyntaxFault → Read (Reached A) → Front → Type 0
MovesTo (Ok a) rule new = rule ≡ Ok (reached a new)
MovesTo (Err fault) rule new = rule ≡ Err fault

-- a variable is taken
abbrev pub TakesVariable : Result ℕ SyntaxFault → Read Numeral → List ℕ → Type 0
TakesVariable (Ok level) rule new = rule ≡ Ok (record { value = level; rest = new })
TakesVariable (Err fault) rule new = rule ≡ Err fault

-- an expression over these names is read, with these steps
pub record IsSum (names : Names) (rule : Read (Reached Tree)) (program : List Step) (front : Front) : Type 0 where
  pub tree : Tree
  pub is : rule ≡ Ok (reached tree front)
  pub written : program ≡ steps tree
  pub over : IsOver (names.monomials + 1) names.with_z tree

-- ---- problems
-- a tower line is read, above n variables
pub record IsTowerLine (n : ℕ) (rule : Read (Reached TowerLine)) (program : TowerProgram) (front : Front) : Type 0 where
  pub line : TowerLine
  pub is : rule ≡ Ok (reached line front)
  pub written : program ≡ tower_program line
  pub over : IsOver n false line.argument

-- all tower lines are read
pub record AreTowerLines (rule : Read (Reached (List TowerLine))) (programs : List TowerProgram) (front : Front) : Type 0 where
  pub lines : List TowerLine
  pub is : rule ≡ Ok (reached lines front)
  pub written : programs ≡ map tower_program lines
  pub over : AreOver 1 lines

-- the lines of a problem are read
pub record IsProblemRead (rule : Read (Reached ProblemTree)) (program : ProblemProgram) (front : Front) : Type 0 where
  pub tree : ProblemTree
  pub is : rule ≡ Ok (reached tree front)
  pub written : program ≡ problem_program tree
  pub over : IsProblemOver tree

-- a whole file is read
pub record IsWholeProblem (rule : Read ProblemTree) (program : ProblemProgram) : Type 0 where
  pub tree : ProblemTree
  pub is : rule ≡ Ok tree
  pub written : program ≡ problem_program tree
  pub over : IsProblemOver tree

-- ---- values
-- what ends the reading, if it is not want of memory
abbrev pub IsEndOf : {A : Type 0} → Fault → Reading A → Type 0
IsEndOf (Syntax fault) rule = rule ≡ Err (Syntax fault)
IsEndOf (Refused left cause) rule = rule ≡ Err (Refused left cause)
IsEndOf (Stopped stop) rule = rule ≡ Err (Stopped stop)
IsEndOf Memory rule = Unit {0}

-- the answer is the definition's, or want of memory
abbrev pub Reads : {A : Type 0} → Result A Fault → Reading A → Type 0
Reads (Ok a) rule = rule ≡ Ok a
Reads (Err fault) rule = IsEndOf fault rule

-- the same of a call that writes its value
abbrev pub ReadsWith : {A : Type 0} → Result ⊤ Fault → A → Reading A → Type 0
ReadsWith (Ok u) written rule = rule ≡ Ok written
ReadsWith (Err fault) written rule = IsEndOf fault rule

-- ---- answers
-- a logarithm is read, over n monomials
pub record IsLogLine (n : ℕ) (rule : Read (Reached LogLine)) (program : LogProgram) (front : Front) : Type 0 where
  pub line : LogLine
  pub is : rule ≡ Ok (reached line front)
  pub written : program ≡ log_program line
  pub over : IsLogOver (n + 1) line

-- the same where one may stand: its line has a number of 32 bits
pub record IsSomeLog (n : ℕ) (found : Option (Read (Reached LogLine))) (program : LogProgram) (old new : Front) : Type 0 where
  pub line : LogLine
  pub is : found ≡ Some (Ok (reached line new))
  pub written : program ≡ log_program line
  pub over : IsLogOver (n + 1) line
  pub low : old.line < 2 ^ 32

abbrev pub IsNextLog : ℕ → Option (Read (Reached LogLine)) → Option LogProgram → Front → Front → Type 0
IsNextLog n found (Some program) old new = IsSomeLog n found program old new
IsNextLog n found None old new = (found ≡ None) × (new ≡ old)

abbrev pub IsNextFault : reading.ReadFault → Option (Read (Reached LogLine)) → Type 0
IsNextFault (reading.TheVariants.Syntax fault) found = found ≡ Some (Err fault)
IsNextFault reading.TheVariants.Memory found = Unit {0}

-- all logarithms are read, behind so many lines
pub record AreLogLines (n before : ℕ) (rule : Read (Reached LogLines)) (programs : LogPrograms) (front : Front) : Type 0 where
  pub lines : LogLines
  pub is : rule ≡ Ok (reached lines front)
  pub logs_written : programs.logs ≡ map log_program lines.logs
  pub lines_written : programs.lines ≡ lines.lines
  pub over : All (IsLogOver (n + 1)) lines.logs
  pub numbered : length lines.lines ≡ length lines.logs + before

-- the end of a refutation is read
pub record IsEndRead (n : ℕ) (rule : Read (Reached EndTree)) (program : EndProgram) (front : Front) : Type 0 where
  pub tree : EndTree
  pub is : rule ≡ Ok (reached tree front)
  pub written : program ≡ end_program tree
  pub over : IsEndOver (n + 1) tree

-- the same where an end may be one that is not yet read
pub record IsSomeEnd (n : ℕ) (rule : Read (Reached (Option EndTree))) (program : EndProgram) (front : Front) : Type 0 where
  pub tree : EndTree
  pub is : rule ≡ Ok (reached (Some tree) front)
  pub written : program ≡ end_program tree
  pub over : IsEndOver (n + 1) tree

abbrev pub IsNextEnd : ℕ → Read (Reached (Option EndTree)) → Option EndProgram → Front → Type 0
IsNextEnd n rule (Some program) front = IsSomeEnd n rule program front
IsNextEnd n rule None front = rule ≡ Ok (reached None front)

-- the part and the logarithms of an answer are read, behind its first line
pub record IsPartialRead (n : ℕ) (rule : Read (Reached AnswerTree)) (program : PartialProgram) (front : Front) : Type 0 where
  pub tree : AnswerTree
  pub is : rule ≡ Ok (reached tree front)
  pub written : program ≡ partial_program tree
  pub over : IsPartialOver (n + 1) tree

-- the lines of an answer are read
pub record IsAnswerRead (n : ℕ) (rule : Read (Reached (Option AnswerTree))) (program : AnswerProgram) (front : Front) : Type 0 where
  pub tree : AnswerTree
  pub is : rule ≡ Ok (reached (Some tree) front)
  pub written : program ≡ answer_program tree
  pub over : IsAnswerOver (n + 1) tree

abbrev pub IsSomeAnswer : ℕ → Read (Reached (Option AnswerTree)) → Option AnswerProgram → Front → Type 0
IsSomeAnswer n rule (Some program) front = IsAnswerRead n rule program front
IsSomeAnswer n rule None front = rule ≡ Ok (reached None front)

-- a whole file is read
pub record IsCertifiedRead (rule : Read (Option CertifiedTree)) (program : CertifiedProgram) : Type 0 where
  pub tree : CertifiedTree
  pub is : rule ≡ Ok (Some tree)
  pub written : program ≡ certified_program tree
  pub over : IsCertifiedOver tree

abbrev pub IsWholeCertified : Read (Option CertifiedTree) → Option CertifiedProgram → Type 0
IsWholeCertified rule (Some program) = IsCertifiedRead rule program
IsWholeCertified rule None = rule ≡ Ok None
