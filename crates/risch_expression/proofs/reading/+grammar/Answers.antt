use Rattle.std.proofs.Common.{◌≡◌, suc, ◌+◌, ◌-◌, arith}
use Rattle.risch_expression.specs.Grammar.{power_in, term_in, sum_sign, product_sign}
use Rattle.risch_expression.proofs.Chains.{joined_begin, joined_more}
use Rattle.risch_expression.proofs.Rules.{sum_in_is, term_in_is}
use Rattle.risch_expression.proofs.reading.+grammar.Goals as goal

pub sum-loop-turn-init : goal.sum-loop-turn-init
sum-loop-turn-init t c =
    joined_begin _ _ sum_sign (term_in c.args.names c.args.open_left) _ _ _ _ (sum_in_is c.args.names c.args.open_left c.args.words.now) c.in_ok-first_term.ensures (omega (arith, c.left-turn-end.ensures))

pub sum-loop-turn-preserved : goal.sum-loop-turn-preserved
sum-loop-turn-preserved t c =
    let left = c.left-turn-end.result - c.loop-turn._turn in
    let below = c.left-turn-end.result - (c.loop-turn._turn + 1) in
    let falls : left ≡ suc below = omega arith in
    joined_more _ sum_sign (term_in c.args.names c.args.open_left) left below _ _ _ _ _ _ _ c.in-Some.operation c.loop-turn.invariant falls c.in-Some.ensures c.in_ok-term.ensures c.in_ok-write.ensures.written

pub term-loop-turn-init : goal.term-loop-turn-init
term-loop-turn-init t c =
    joined_begin _ _ product_sign (power_in c.args.names c.args.open_left) _ _ _ _ (term_in_is c.args.names c.args.open_left c.args.words.now) c.in_ok-power.ensures (omega (arith, c.left-turn-end.ensures))

pub term-loop-turn-preserved : goal.term-loop-turn-preserved
term-loop-turn-preserved t c =
    let left = c.left-turn-end.result - c.loop-turn._turn in
    let below = c.left-turn-end.result - (c.loop-turn._turn + 1) in
    let falls : left ≡ suc below = omega arith in
    joined_more _ product_sign (power_in c.args.names c.args.open_left) left below _ _ _ _ _ _ _ c.in-Some.operation c.loop-turn.invariant falls c.in-Some.ensures c.in_ok-power-2.ensures c.in_ok-write.ensures.written
