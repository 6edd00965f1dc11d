use Rattle.std.proofs.Common.{◌≡◌, ◌+◌, drop}
use Rattle.std.specs.List.{prefix_len}
use Rattle.risch_expression.specs.Words.{is_letter_or_digit}
use Rattle.risch_expression.proofs.words.name_len.Given as goal

abbrev pub invariant-loop-size : goal.invariant-loop-size
invariant-loop-size l = prefix_len is_letter_or_digit l.bytes ≡ l.size + prefix_len is_letter_or_digit (drop l.size l.bytes)
