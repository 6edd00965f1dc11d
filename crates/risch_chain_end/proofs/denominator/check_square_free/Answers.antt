use Rattle.risch_chain_end.proofs.Results.{if_ok-map}
use Rattle.risch_chain_end.proofs.SquareFreeDenominators.{square_free_of_gcd}
use Rattle.risch_chain_end.proofs.denominator.check_square_free.Goals as goal

pub returns-clause-square_free : goal.returns-clause-square_free
returns-clause-square_free c =
    if_ok-map c.check_one.result _ _
    (λ _ one. square_free_of_gcd c.args.denominator.now c.in_ok-derivative.derivative c.in_ok-divisor.divisor c.inner-inner.ensures.normal c.in_ok-derivative.ensures.meaning c.in_ok-divisor.ensures.meaning one)
    c.check_one.ensures.one
