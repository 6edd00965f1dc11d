use Rattle.std.proofs.Common.{rules, refl}
use Rattle.risch_io.proofs.Fronts.{takes_nothing}
use Rattle.risch_cli.proofs.telling.tell.Goals as goal

-- Out took a front of its text, and err nothing.
pub returns-then-is_err-clause-told : goal.returns-then-is_err-clause-told
returns-then-is_err-clause-told g c = record {
  status = λ n. absurd (n refl);
  out = λ n. absurd (n refl);
  err = λ n. absurd (n refl);
  out_front = search rules;
  err_front = takes_nothing _ _ _ (search rules);
}
