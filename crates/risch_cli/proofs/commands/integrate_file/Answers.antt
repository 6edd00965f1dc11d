use Rattle.risch_cli.proofs.Reports.{if_ok, file-problem}
use Rattle.risch_cli.proofs.commands.integrate_file.Goals as goal

pub returns-in-Problem : goal.returns-in-Problem
returns-in-Problem c =
    if_ok _ _ _ (λ report r. file-problem c.args.budget c.args.file.now c.in-Problem.problem report c.in-Problem.ensures.read c.in-Problem.ensures.written r) c.integrate_problem.ensures
