use Rattle.std.proofs.Common.{codes}
use Rattle.risch_cert.specs.Printing.{print_in_z, print_fractions_in_z}
use Rattle.risch_cert.specs.Answers.{print_root_sum}
use Rattle.risch_cert.proofs.LineSteps.{argument_line}
use Rattle.risch_cert.proofs.lines.push_root_sum.Goals as goal

pub returns : goal.returns
unfolding print_root_sum
returns c =
    rw (← c.as_slice.ensures, ← c.as_slice-2.ensures)
    (argument_line _ _ _ _ (codes "sum ") (print_fractions_in_z c.as_slice.result.now) (print_in_z c.as_slice-2.result.now) c.in_ok-push_roots.ensures c.push_sum_argument.ensures)
