use Rattle.std.proofs.Common.{◌≡◌, drop, arith}
use Rattle.risch_split.specs.Splitting.{least_exponent, without_variable}
use Rattle.risch_split.proofs.LeastExponents.{drop-length, drop-weight, trimmed-length}
use Rattle.risch_split.proofs.special.without_variable.Goals as goal

pub of-requires-clause-degree : goal.of-requires-clause-degree
of-requires-clause-degree c =
    let s = c.args.special.now in
    let e = least_exponent s in
    let rest : c.from_vec.result ≡ drop e s = cc (c.in_ok-rest.ensures.tail, c.in_ok-copy.ensures) in
    let shorter = trimmed-length (drop e s) in
    let lower = drop-length e s in
    let few = c.least_exponent-exponent.ensures.few in
    rw rest (omega (arith, shorter, lower, few))

pub of-requires-clause-weight : goal.of-requires-clause-weight
of-requires-clause-weight c =
    let s = c.args.special.now in
    let e = least_exponent s in
    let rest : c.from_vec.result ≡ drop e s = cc (c.in_ok-rest.ensures.tail, c.in_ok-copy.ensures) in
    let lighter = drop-weight e s in
    let value = c.weight-weight.ensures.value in
    let small = c.weight-weight.ensures.small in
    rw rest (omega (arith, lighter, value, small))

pub returns : goal.returns
unfolding without_variable
returns c =
    let s = c.args.special.now in
    let e = least_exponent s in
    let rest : c.from_vec.result ≡ drop e s = cc (c.in_ok-rest.ensures.tail, c.in_ok-copy.ensures) in
    rw rest at c.of.ensures.rule
