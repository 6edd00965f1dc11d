use Rattle.risch_text.proofs.Answers.{problem_read, problem_told}
use Rattle.risch_text.proofs.reading.read_problem.Goals as goal

pub returns-clause-read : goal.returns-clause-read
returns-clause-read c = rw c.of.ensures (problem_read c.args.bytes.now c.problem.result c.problem.ensures.value)

pub returns-clause-written : goal.returns-clause-written
returns-clause-written c = rw c.of.ensures (problem_told _ c.problem.result _ c.problem.ensures.written)
