use Rattle.std.proofs.Common.{◌+◌, ◌-◌, ◌*◌}
use Rattle.risch_expression.specs.Grammar.{power_in, term_in, sum_in, sum_sign, product_sign}
use Rattle.risch_expression.proofs.Chains.{IsJoined}
use Rattle.risch_expression.proofs.reading.+grammar.Given as goal

abbrev pub decreases-sum : goal.decreases-sum
decreases-sum l = 6 * l.open_left + 5

abbrev pub decreases-first_term : goal.decreases-first_term
decreases-first_term l = 6 * l.open_left + 4

abbrev pub decreases-term : goal.decreases-term
decreases-term l = 6 * l.open_left + 3

abbrev pub decreases-power : goal.decreases-power
decreases-power l = 6 * l.open_left + 2

abbrev pub decreases-atom : goal.decreases-atom
decreases-atom l = 6 * l.open_left + 1

abbrev pub decreases-parenthesized : goal.decreases-parenthesized
decreases-parenthesized l = 6 * l.open_left

abbrev pub invariant-sum-loop-turn : goal.invariant-sum-loop-turn
invariant-sum-loop-turn l =
    IsJoined (sum_in l.names l.open_left l.fn.words) sum_sign (term_in l.names l.open_left) (l._turn-end - l._turn) l.fn.program l.program l.words

abbrev pub invariant-term-loop-turn : goal.invariant-term-loop-turn
invariant-term-loop-turn l =
    IsJoined (term_in l.names l.open_left l.fn.words) product_sign (power_in l.names l.open_left) (l._turn-end - l._turn) l.fn.program l.program l.words
