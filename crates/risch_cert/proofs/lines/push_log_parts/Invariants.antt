use Rattle.std.proofs.Common.{◌≡◌, ◌++◌, string_bytes, drop}
use Rattle.risch_cert.specs.Answers.{print_log_parts}
use Rattle.risch_cert.proofs.lines.push_log_parts.Given as goal

-- What is written and the lines that are left are the whole.
abbrev pub invariant-loop-part : goal.invariant-loop-part
invariant-loop-part l = string_bytes l.text ++ print_log_parts (drop l.part-index l.parts) ≡ string_bytes l.fn.text ++ print_log_parts l.parts
