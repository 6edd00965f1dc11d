use Rattle.risch_text.proofs.TowerValues.{whole_problem_over}
use Rattle.risch_text.proofs.WrittenValues.{problem_if_written}
use Rattle.risch_text.proofs.reading.problem.Goals as goal

pub problem_of-requires : goal.problem_of-requires
problem_of-requires c = whole_problem_over _ c.in_ok-program.program c.in_ok-program.ensures.read

pub returns-clause-value : goal.returns-clause-value
returns-clause-value c =
    let read = c.in_ok-program.ensures.read in
    let is = read.is in
    rw is (c.problem_of.ensures.value read.tree read.written)

pub returns-clause-written : goal.returns-clause-written
returns-clause-written c = problem_if_written c.args.bytes.now c.in_ok-program.program c.problem_of.result c.in_ok-program.ensures.read c.problem_of.ensures.value
