-- The trees of a file as the code keeps them: each expression by its steps.
use Rattle.std.specs.Prelude.{◌≡◌, ℕ, suc, ◌+◌, ◌<◌, ◌≤◌, Bool, true, false, Option, None, Some, option_map, List, [], ◌∷◌, map, length, All}
use Rattle.risch_expression.specs.Tree.{Tree, IsOver}
use Rattle.risch_expression.specs.Program.{steps}
use Rattle.risch_expression.specs.declared.program.Step.{Step}
use Rattle.risch_text.specs.File.{TowerLine, ProblemTree}
use Rattle.risch_text.specs.Certified.{LogLine, log_line, sum_line, EndTree, RefutationTree, AnswerTree, CertifiedTree}
use Rattle.risch_text.specs.declared.programs.TowerProgram.{TowerProgram}
use Rattle.risch_text.specs.declared.programs.ProblemProgram.{ProblemProgram}
use Rattle.risch_text.specs.declared.programs.LogProgram.{LogProgram}
use Rattle.risch_text.specs.declared.programs.LogProgram.TheVariants.{Log, Sum}
use Rattle.risch_text.specs.declared.programs.PartialProgram.{PartialProgram}
use Rattle.risch_text.specs.declared.programs.EndProgram.{EndProgram}
use Rattle.risch_text.specs.declared.programs.RefutationProgram.{RefutationProgram}
use Rattle.risch_text.specs.declared.programs.AnswerProgram.{AnswerProgram}
use Rattle.risch_text.specs.declared.programs.CertifiedProgram.{CertifiedProgram}

abbrev pub tower_program : TowerLine → TowerProgram
tower_program l = record { exponential = l.exponential; argument = steps l.argument; left = l.left }

abbrev pub problem_program : ProblemTree → ProblemProgram
problem_program p = record { tower = map tower_program p.tower; integrand = steps p.integrand }

-- each argument is an expression over the monomials of the lines above it, of which there are n counting x
abbrev pub AreOver : ℕ → List TowerLine → Type 0
AreOver n [] = Unit {0}
AreOver n (l ∷ lines) = IsOver n false l.argument × AreOver (suc n) lines

-- and the integrand is one over all of them
pub record IsProblemOver (p : ProblemTree) : Type 0 where
  pub tower : AreOver 1 p.tower
  pub integrand : IsOver (length p.tower + 1) false p.integrand

-- ---- the same of the steps
-- the steps of an expression over the first n variables, and z where it may stand
pub record IsProgramOver (n : ℕ) (with_z : Bool) (program : List Step) : Type 0 where
  pub tree : Tree
  pub written : program ≡ steps tree
  pub over : IsOver n with_z tree

-- each argument is one over the monomials of the lines above it
abbrev pub AreProgramsOver : ℕ → List TowerProgram → Type 0
AreProgramsOver n [] = Unit {0}
AreProgramsOver n (l ∷ lines) = IsProgramOver n false l.argument × AreProgramsOver (suc n) lines

-- and the integrand is one over all of them
pub record IsProblemProgramOver (p : ProblemProgram) : Type 0 where
  pub tower : AreProgramsOver 1 p.tower
  pub integrand : IsProgramOver (length p.tower + 1) false p.integrand

-- ---- answers
abbrev pub log_program : LogLine → LogProgram
log_program (log_line c u) = Log c (steps u)
log_program (sum_line r s start) = Sum (steps r) (steps s) start

abbrev pub end_program : EndTree → EndProgram
end_program e = record { level = e.level; power = e.power; trace = steps e.trace }

abbrev pub refutation_program : RefutationTree → RefutationProgram
refutation_program r = record { rest = steps r.rest; end = end_program r.end }

abbrev pub answer_program : AnswerTree → AnswerProgram
answer_program a = record { part = steps a.part; logs = map log_program a.logs; refutation = option_map refutation_program a.refutation; lines = a.lines }

-- the part and the logarithms of an answer
abbrev pub partial_program : AnswerTree → PartialProgram
partial_program a = record { part = steps a.part; so_far = record { logs = map log_program a.logs; lines = a.lines } }

-- a part and logarithms, with a refutation where there is one, and with lines of these numbers
abbrev pub ended_program : PartialProgram → List ℕ → Option RefutationProgram → AnswerProgram
ended_program partial lines r = record { part = partial.part; logs = partial.so_far.logs; refutation = r; lines = lines }

-- the refutation with this rest and this end
abbrev pub refuted_program : List Step → EndProgram → Option RefutationProgram
refuted_program rest end = Some (record { rest = rest; end = end })

abbrev pub certified_program : CertifiedTree → CertifiedProgram
certified_program t = record { problem = problem_program t.problem; answer = answer_program t.answer }

-- the expressions of a logarithm are over the first n variables, and z where it may stand
abbrev pub IsLogOver : ℕ → LogLine → Type 0
IsLogOver n (log_line c u) = IsOver n false u
IsLogOver n (sum_line r s start) = IsOver n true r × IsOver n true s

-- the variable of an end is one of the first n, its power has 16 bits, and its trace is an expression over these variables
pub record IsEndOver (n : ℕ) (e : EndTree) : Type 0 where
  pub level : e.level < n
  pub power : e.power ≤ 65535
  pub trace : IsOver n false e.trace

pub record IsRefutationOver (n : ℕ) (r : RefutationTree) : Type 0 where
  pub rest : IsOver n false r.rest
  pub end : IsEndOver n r.end

-- where there is a refutation
abbrev pub IsSomeRefutationOver : ℕ → Option RefutationTree → Type 0
IsSomeRefutationOver n None = Unit {0}
IsSomeRefutationOver n (Some r) = IsRefutationOver n r

-- the lines of an answer besides its logarithms: `integral`, `part` and `end`, or `refuted`, `part`, `rest` and `end`
abbrev pub other_lines : {A : Type 0} → Option A → ℕ
other_lines None = 3
other_lines (Some refutation) = 4

-- the part and the logarithms of an answer so far, with the numbers of their lines and of the first line
pub record IsPartialOver (n : ℕ) (a : AnswerTree) : Type 0 where
  pub unrefuted : a.refutation ≡ None
  pub part : IsOver n false a.part
  pub logs : All (IsLogOver n) a.logs
  pub numbered : length a.lines ≡ length a.logs + 2

-- all expressions of an answer are, and there is one number for each line
pub record IsAnswerOver (n : ℕ) (a : AnswerTree) : Type 0 where
  pub part : IsOver n false a.part
  pub logs : All (IsLogOver n) a.logs
  pub refutation : IsSomeRefutationOver n a.refutation
  pub numbered : length a.lines ≡ length a.logs + other_lines a.refutation

pub record IsCertifiedOver (t : CertifiedTree) : Type 0 where
  pub problem : IsProblemOver t.problem
  pub answer : IsAnswerOver (length t.problem.tower + 1) t.answer

-- ---- the same of the steps
abbrev pub IsLogProgramOver : ℕ → LogProgram → Type 0
IsLogProgramOver n (Log c u) = IsProgramOver n false u
IsLogProgramOver n (Sum r s start) = IsProgramOver n true r × IsProgramOver n true s

pub record IsEndProgramOver (n : ℕ) (e : EndProgram) : Type 0 where
  pub level : e.level < n
  pub power : e.power ≤ 65535
  pub trace : IsProgramOver n false e.trace

pub record IsRefutationProgramOver (n : ℕ) (r : RefutationProgram) : Type 0 where
  pub rest : IsProgramOver n false r.rest
  pub end : IsEndProgramOver n r.end

abbrev pub IsSomeRefutationProgramOver : ℕ → Option RefutationProgram → Type 0
IsSomeRefutationProgramOver n None = Unit {0}
IsSomeRefutationProgramOver n (Some r) = IsRefutationProgramOver n r

pub record IsAnswerProgramOver (n : ℕ) (a : AnswerProgram) : Type 0 where
  pub part : IsProgramOver n false a.part
  pub logs : All (IsLogProgramOver n) a.logs
  pub refutation : IsSomeRefutationProgramOver n a.refutation
  pub numbered : length a.lines ≡ length a.logs + other_lines a.refutation

pub record IsCertifiedProgramOver (t : CertifiedProgram) : Type 0 where
  pub problem : IsProblemProgramOver t.problem
  pub answer : IsAnswerProgramOver (length t.problem.tower + 1) t.answer
