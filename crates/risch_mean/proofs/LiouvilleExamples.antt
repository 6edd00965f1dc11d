-- Liouville's form at closed terms.
use Rattle.std.specs.Prelude.{refl, [], ◌∷◌}
use Rattle.std.proofs.Common.{arith}
use Rattle.risch_mean.specs.Element.{zero, one, inverse, ◌+ₑ◌, level}
use Rattle.risch_mean.specs.ElementLaws.{same_is}
use Rattle.risch_mean.specs.Liouville.{HasLiouvilleForm}
use Rattle.risch_mean.proofs.Sound.{variable-not-below}
use Rattle.risch_mean.proofs.LiouvilleLaws.{liouville_form_in_tower}
use Rattle.risch_mean.proofs.AnswerExamples.{minus_log, minus_log_derivative, minus_log_derived}
use Rattle.risch_mean.proofs.ExampleTerms.{computing, x, t1, x_in, exponential}

-- over t1 = exp x: 1/(t1 + 1) = Dx - D(t1 + 1)/(t1 + 1)
has_form : HasLiouvilleForm exponential (inverse (t1 +ₑ one))
unfolding computing
has_form = record {
  part = x;
  part_in_tower = x_in (level 1) (omega arith);
  logs = minus_log ∷ [];
  derivative = minus_log_derivative +ₑ zero;
  logs_are = (minus_log_derivative, zero, minus_log_derived, refl, refl);
  is = same_is _ _ refl;
}

-- over Q(x), t1 has not the form: x·t1, whose derivative there is t1, is no element of the tower
has_not_form : ¬ HasLiouvilleForm [] t1
has_not_form form = variable-not-below 1 t1 (liouville_form_in_tower [] tt t1 form) refl
