use Rattle.std.proofs.Common.{◌++◌, codes, ◌∙◌}
use Rattle.risch_cert.specs.Printing.{print_element}
use Rattle.risch_cert.specs.Answers.{line, print_log_parts, print_integral}
use Rattle.risch_cert.proofs.LineSteps.{integral_lines}
use Rattle.risch_cert.proofs.lines.print_integral.Goals as goal

pub returns : goal.returns
unfolding print_integral
returns c =
    let part = line (codes "part " ++ print_element c.args.integral.now.part) in
    c.bytes_of.ensures ∙ integral_lines part (print_log_parts c.args.integral.now.logs) c.in_ok-text.ensures.ok c.in_ok-push_parts.ensures c.in_ok-push_str.ensures.bytes
