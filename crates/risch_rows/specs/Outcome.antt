-- When two runs agree.
use Rattle.std.specs.Prelude.{◌≡◌}
use Rattle.risch_rows.specs.declared.outcome.Outcome.{Outcome}

-- The runs wrote the same bytes to each sink, and ended with the same status.
pub record Agree (expected got : Outcome) : Type 0 where
  pub out : expected.out.now ≡ got.out.now
  pub err : expected.err.now ≡ got.err.now
  pub status : expected.status ≡ got.status
