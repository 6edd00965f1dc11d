use Rattle.risch_monomial.proofs.MonicPolynomials.{monic-length}
use Rattle.risch_split.proofs.SpecialFactors.{exact-division}
use Rattle.risch_split.proofs.splitting.exact_quotient.Goals as goal

pub div_rem-requires : goal.div_rem-requires
div_rem-requires c = monic-length c.args.by.now c.requires.monic

pub returns-clause-meaning : goal.returns-clause-meaning
returns-clause-meaning c = exact-division c.args.of.now c.args.by.now (c.in_ok-quotient.quotient, c.in_ok-quotient._rest) c.requires.monic c.requires.divides c.in_ok-quotient.ensures.meaning

pub returns-clause-within : goal.returns-clause-within
returns-clause-within c = λ n a b. (c.in_ok-quotient.ensures.within n a b).0
