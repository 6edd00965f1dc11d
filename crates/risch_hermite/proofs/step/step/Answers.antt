use Rattle.std.proofs.lemmas.Result.{err_from_is_err_and}
use Rattle.risch_hermite.proofs.StepRules.{solution-stops, step-solved}
use Rattle.risch_hermite.proofs.step.step.Goals as goal

pub step_by-requires : goal.step_by-requires
step_by-requires c = record {
  level = c.requires.level;
  part_within = c.requires.part_within;
  cofactor_within = c.requires.cofactor_within;
  degree = c.requires.degree;
  positive = c.requires.positive;
  solves = c.in_ok-solution.ensures.meaning;
  top_within = c.in_ok-solution.ensures.within.0;
  other_within = c.in_ok-solution.ensures.within.1;
  sum_within = c.requires.sum_within;
}

pub returns-in_err-solution-clause-rule : goal.returns-in_err-solution-clause-rule
returns-in_err-solution-clause-rule c =
    let ended = err_from_is_err_and c.from_residual.result c.from_residual.ensures.1 in
    rw (ended.1, ended.2)
    (solution-stops c.args.tower.now c.args.level c.args.cofactor.now c.args.part.now c.args.exponent c.args.partial c.in_err-solution.field-0.0 c.in_err-solution.ensures.rule)

pub returns-clause-rule : goal.returns-clause-rule
returns-clause-rule c =
    step-solved c.args.tower.now c.args.level c.args.cofactor.now c.args.part.now c.args.exponent c.args.partial c.in_ok-solution.solution c.step_by.result c.in_ok-solution.ensures.rule c.step_by.ensures.rule

pub returns-clause-meaning : goal.returns-clause-meaning
returns-clause-meaning c = c.step_by.ensures.meaning

pub returns-clause-within : goal.returns-clause-within
returns-clause-within c = c.step_by.ensures.within
