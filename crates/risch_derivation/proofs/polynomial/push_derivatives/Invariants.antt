use Rattle.std.proofs.Common.{◌≡◌, drop}
use Rattle.risch_derivation.specs.Derivation as spec
use Rattle.risch_derivation.proofs.polynomial.push_derivatives.Given as goal

abbrev pub invariant-loop-j : goal.invariant-loop-j
invariant-loop-j g l =
    spec.derivatives_onto g.E.Arith.ops (g.E.Derive.derivation l.rates) l.rate l.fn.derivatives.items 0 l.items ≡
    spec.derivatives_onto g.E.Arith.ops (g.E.Derive.derivation l.rates) l.rate l.derivatives.items l.j (drop l.j l.items)
