use Rattle.std.proofs.Common.{◌++◌, codes, string_bytes}
use Rattle.risch_cert.specs.Printing.{print_element}
use Rattle.risch_cert.specs.Answers.{line, print_log_parts}
use Rattle.risch_cert.proofs.LineSteps.{further}
use Rattle.risch_cert.proofs.lines.push_parts.Goals as goal

pub returns : goal.returns
returns c =
    further c.push_log_parts.result (string_bytes c.args.text.now) _ (line (codes "part " ++ print_element c.args.integral.now.part)) (print_log_parts c.args.integral.now.logs) _ c.in_ok-push_element_line.ensures
    (rw (← c.as_slice.ensures) c.push_log_parts.ensures)
