use Rattle.std.proofs.Common.{◌++◌, codes, ◌∙◌}
use Rattle.risch_cert.specs.Printing.{print_element}
use Rattle.risch_cert.specs.Answers.{line, print_log_parts, print_rest, print_end, print_chain}
use Rattle.risch_cert.proofs.LineSteps.{chain_lines}
use Rattle.risch_cert.proofs.lines.print_chain.Goals as goal

pub returns : goal.returns
unfolding print_chain
returns c =
    let chain = c.args.chain.now in
    let part = line (codes "part " ++ print_element chain.partial.part) in
    let last = print_rest chain.rest ++ print_end chain.level chain.end in
    c.bytes_of.ensures ∙ chain_lines part (print_log_parts chain.partial.logs) last c.in_ok-text.ensures.ok c.in_ok-push_parts.ensures c.in_ok-push_conclusion.ensures
