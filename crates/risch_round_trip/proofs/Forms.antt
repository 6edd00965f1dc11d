-- The form that is kept of a certificate is the one in which it is printed and read as the same.
use Rattle.std.specs.Prelude.{All}
use Rattle.std.proofs.Common.{ℕ, arith}
use Rattle.risch_frac.specs.Fraction.{IsLowest}
use Rattle.risch_rootsum.specs.declared.integral.LogPart.{LogPart}
use Rattle.risch_cert.specs.declared.chain.End.{End}
use Rattle.risch_cert.specs.declared.chain.End.TheVariants.{Residue}
use Rattle.risch_text.specs.Problem.{IsLogForm, IsEndForm}
use Rattle.risch_round_trip.specs.RoundTrip as spec
use Rattle.risch_round_trip.specs.RoundTrip.{IsPrintable, IsPrintableEnd, IsEndKept}

log-printable : (n : ℕ) (l : LogPart) → IsLogForm n l → All IsLowest l.poly → IsPrintable n l
log-printable n l form lowest = record {
  modulus = form.part.modulus;
  lowest = lowest;
  argument_kept = form.argument_kept;
  argument_within = form.part.argument_within;
  argument_lower = let some = form.part.modulus.some in let small = form.part.argument_member.degree_small in omega (arith, some, small);
}

pub form_is_printable : spec.form_is_printable
form_is_printable n it form part lowest = record {
  part = part;
  part_within = form.part_within;
  logs = λ k d low. log-printable n _ (form.logs k d low) (lowest k d low);
}

pub chain_form_is_printable : spec.chain_form_is_printable
chain_form_is_printable n chain form part lowest rest kept = record {
  partial = form_is_printable n chain.partial form.partial part lowest;
  rest = rest;
  rest_within = form.rest_within;
  level_low = form.level_low;
  end = of chain.end form.end kept;
}
  where
    of : (end : End) → IsEndForm n end → IsEndKept end → IsPrintableEnd n end
    of (Residue power trace) f k = record { small = f.0; trace_kept = k; trace_within = f.1 }
