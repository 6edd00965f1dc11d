use Rattle.risch_monomial.proofs.MonicPolynomials.{one-is_polynomial}
use Rattle.risch_monomial.proofs.elements.one.Goals as goal

pub kept-requires : goal.kept-requires
kept-requires c = rw c.in_ok-inner.ensures one-is_polynomial
