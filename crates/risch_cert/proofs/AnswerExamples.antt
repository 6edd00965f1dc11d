-- Worked examples of the texts of certificates and answers.
use Rattle.std.proofs.Common.{◌≡◌, [], ◌∷◌, pos, negsuc, codes, refl}
use Rattle.std.specs.Fmt.{digits}
use Rattle.risch_frac.specs.declared.Op.TheVariants.{Mul}
use Rattle.risch_level.specs.Levels.{element}
use Rattle.risch_level.specs.declared.over.Over.TheVariants.{Below}
use Rattle.risch_elem.specs.declared.units.Stop.TheVariants.{Overflow, Size, Case, NotSound, Budget}
use Rattle.risch_elem.specs.declared.units.Case.TheVariants.{RootBound, Undetermined}
use Rattle.risch_cert.specs.declared.answer.Place.TheVariants.{Reading, Preparing, Branch, Gathering, Checking, Solving}
use Rattle.risch_cert.specs.declared.answer.Certificate.TheVariants.{Integral}
use Rattle.risch_cert.specs.declared.answer.Answer.TheVariants.{Refuted, Stopped, Disagree}
use Rattle.risch_cert.specs.declared.chain.End.TheVariants.{Residue}
use Rattle.risch_cert.specs.Printing.{print_fraction, variable_name, print_factor, print_polynomial, print_ratio, print_below, print_element, print_in_z, print_fractions_in_z}
use Rattle.risch_cert.specs.Answers.{print_logarithm, print_root_sum, print_log_part, print_integral, print_rest, print_residue, print_chain, print_certificate, print_stop, print_place, print_halt, print_disagreement, print_answer}
use Rattle.risch_cert.proofs.PrintingExamples.{over, whole, at_0, at_1, in_t1, x}

-- the integral of 1/(x^2 + 1)
root_sum : print_certificate (Integral (record {
  part = at_0 (Below (whole (pos 0)));
  logs = record { poly = over (pos 1) 4 ∷ whole (pos 0) ∷ whole (pos 1) ∷ []; arg = at_0 x ∷ at_0 (Below (whole (pos 2))) ∷ [] } ∷ [];
})) ≡ codes "integral\npart 0\nsum z^2+1/4 of 2*z+x\nend\n"
unfolding print_certificate print_integral print_log_part print_logarithm print_root_sum print_element print_fractions_in_z print_in_z print_below print_ratio print_polynomial print_factor print_fraction variable_name element digits
root_sum = refl

-- the integral of 1/(1 + exp(x)), where t1 is exp(x)
logarithm : print_certificate (Integral (record {
  part = at_0 x;
  logs = record { poly = whole (pos 1) ∷ whole (pos 1) ∷ []; arg = at_1 (in_t1 (Below (whole (pos 1)) ∷ Below (whole (pos 1)) ∷ [])) ∷ [] } ∷ [];
})) ≡ codes "integral\npart x\nlog -1 of t1+1\nend\n"
unfolding print_certificate print_integral print_log_part print_logarithm print_root_sum print_element print_fractions_in_z print_in_z print_below print_ratio print_polynomial print_factor print_fraction variable_name element digits
logarithm = refl

-- a logarithm of 0
zero_argument : print_log_part (record { poly = over (negsuc 0) 2 ∷ whole (pos 1) ∷ []; arg = [] }) ≡ codes "log 1/2 of 0\n"
unfolding print_log_part print_logarithm print_fraction digits
zero_argument = refl

-- the integral of 1/log(x) is not elementary, where t1 is log(x)
refutation : print_answer (Refuted (record {
  partial = record { part = at_0 (Below (whole (pos 0))); logs = [] };
  rest = at_1 (in_t1 (Below (whole (pos 1)) ∷ Below (whole (pos 1)) ∷ []));
  level = 1;
  end = Residue 1 (at_0 x);
})) ≡ codes "refuted\npart 0\nrest t1+1\nend residue of t1 power 1 trace x\n"
unfolding print_answer print_chain print_rest print_residue print_log_part print_logarithm print_root_sum print_element print_fractions_in_z print_in_z print_below print_ratio print_polynomial print_factor print_fraction variable_name element digits
refutation = refl

disagreement : print_answer (Disagree (at_0 x) (at_0 (Below (over (pos 1) 2)))) ≡ codes "disagree\nleft x\nright 1/2\n"
unfolding print_answer print_disagreement print_element print_below print_ratio print_polynomial print_factor print_fraction variable_name element digits
disagreement = refl

-- ---- stops
overflow : print_answer (Stopped (record { stop = Overflow Mul; place = Reading })) ≡ codes "overflow mul in reading\n"
unfolding print_answer print_halt print_stop print_place
overflow = refl

size : print_answer (Stopped (record { stop = Size; place = Preparing 0 })) ≡ codes "size in preparing x\n"
unfolding print_answer print_halt print_stop print_place variable_name
size = refl

root_bound : print_answer (Stopped (record { stop = Case RootBound; place = Solving })) ≡ codes "case root bound in solving\n"
unfolding print_answer print_halt print_stop print_place
root_bound = refl

undetermined : print_answer (Stopped (record { stop = Case Undetermined; place = Gathering 3 })) ≡ codes "case undetermined in gathering t3\n"
unfolding print_answer print_halt print_stop print_place variable_name digits
undetermined = refl

not_sound : print_answer (Stopped (record { stop = NotSound (at_0 x); place = Branch 2 12 })) ≡ codes "not sound x in branch 12 of t2\n"
unfolding print_answer print_halt print_stop print_place print_element print_below print_ratio print_polynomial print_factor print_fraction variable_name element digits
not_sound = refl

budget : print_answer (Stopped (record { stop = Budget; place = Checking })) ≡ codes "budget in checking\n"
unfolding print_answer print_halt print_stop print_place
budget = refl
