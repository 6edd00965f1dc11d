use Rattle.std.proofs.Common.{rules, ◌≡◌, ◌∙◌, codes, decimal}
use Rattle.std.specs.Prelude.{string_bytes}
use Rattle.risch_cli.proofs.Lines.{cause_line}
use Rattle.risch_cli.proofs.causes.refused_line.Goals as goal

pub returns : goal.returns
returns c =
    let bytes : c.into_bytes.result.items ≡ string_bytes c.in_ok-text.text = search rules in
    c.from_vec.ensures ∙ bytes ∙ c.in_ok-text.ensures.ok ∙ cause_line (codes "refused at ") (decimal c.args.at) (codes ": ") c.print_refusal-cause.ensures
