use Rattle.std.proofs.Common.{◌≡◌, ◌-◌, ◌≤◌, vec_len}
use Rattle.risch_polynomial.specs.Poly as poly
use Rattle.risch_division.proofs.steps.divide.Given as goal

abbrev pub invariant-loop-step : goal.invariant-loop-step
invariant-loop-step g l = record {
  value : poly.divided g.E.Arith.ops (vec_len l.fn.rest) l.fn.quotient.items l.fn.rest.items l.inverse l.by ≡ poly.divided g.E.Arith.ops (vec_len l.fn.rest - l._step) l.quotient.items l.rest.items l.inverse l.by;
  len : vec_len l.quotient ≡ vec_len l.fn.quotient;
  shorter : vec_len l.rest ≤ vec_len l.fn.rest;
}
