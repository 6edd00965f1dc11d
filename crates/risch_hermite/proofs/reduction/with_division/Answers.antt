use Rattle.std.proofs.Common.{arith}
use Rattle.risch_monomial.proofs.MonicPolynomials.{monic-length}
use Rattle.risch_hermite.proofs.ReductionEnd.{end-means}
use Rattle.risch_hermite.proofs.reduction.with_division.Goals as goal

pub quotient-requires : goal.quotient-requires
quotient-requires c = record { level = c.requires.level; some = monic-length c.args.denominator.now c.requires.monic; num_within = c.requires.remainder_within; den_within = c.requires.denominator_within }

pub of_polynomial-requires : goal.of_polynomial-requires
of_polynomial-requires c = record { level = c.requires.level; within = c.requires.quotient_within }

pub returns-clause-meaning : goal.returns-clause-meaning
returns-clause-meaning c =
    let level = c.args.level in
    let small = c.requires.level in
    let q = c.args.division.now.0 in
    let r = c.args.division.now.1 in
    end-means level (omega arith) c.args.denominator.now c.inner-denominator_inner.ensures.normal c.requires.denominator_within c.requires.monic q r c.inner-quotient_inner.ensures.normal c.requires.quotient_within
    c.inner-remainder_inner.ensures.normal c.requires.remainder_within c.args.partial c.requires.division c.in_ok-h.h c.in_ok-rest.rest c.nest-h_nest.ensures.normal c.in_ok-h.ensures.within c.nest-rest_nest.ensures.normal
    c.in_ok-rest.ensures.within c.in_ok-h.ensures.meaning c.in_ok-rest.ensures.meaning

pub returns-clause-within : goal.returns-clause-within
returns-clause-within c = (c.requires.sum_within, c.in_ok-h.ensures.within, c.in_ok-rest.ensures.within)
