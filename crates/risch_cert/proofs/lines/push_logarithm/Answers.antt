use Rattle.std.proofs.Common.{codes}
use Rattle.risch_cert.specs.Printing.{print_fraction}
use Rattle.risch_cert.specs.Answers.{factor, print_argument, print_logarithm}
use Rattle.risch_cert.proofs.LineSteps.{argument_line}
use Rattle.risch_cert.proofs.lines.push_logarithm.Goals as goal

pub returns : goal.returns
unfolding print_logarithm
returns c =
    rw (← c.as_slice.ensures, ← c.as_slice-2.ensures)
    (argument_line _ _ _ _ (codes "log ") (print_fraction (factor c.as_slice.result.now)) (print_argument c.as_slice-2.result.now) c.in_ok-push_factor.ensures c.push_argument.ensures)
