-- Certificates that are printed behind a file and read again: one that is read as the same, and one whose reading stops.
use Rattle.std.proofs.Common.{◌≡◌, ◌^◌, [], ◌∷◌, ◌++◌, pos, negsuc, codes, refl}
use Rattle.std.specs.Fmt.{digits}
use Rattle.risch_frac.specs.declared.Op.TheVariants.{Mul}
use Rattle.risch_frac.specs.Fraction
use Rattle.risch_frac.specs.Gcd
use Rattle.risch_polynomial.specs.Poly
use Rattle.risch_level.specs.Levels
use Rattle.risch_level.specs.Levels.{Element}
use Rattle.risch_level.specs.Over
use Rattle.risch_level.specs.declared.over.Over.TheVariants.{Below, Quotient}
use Rattle.risch_elem.specs.declared.units.Stop.TheVariants.{Overflow}
use Rattle.risch_tower.specs.Tower
use Rattle.risch_cert.specs.declared.answer.Certificate.{Certificate}
use Rattle.risch_cert.specs.declared.answer.Certificate.TheVariants.{Integral, Refuted}
use Rattle.risch_cert.specs.declared.chain.End.TheVariants.{Residue}
use Rattle.risch_cert.specs.Printing.{print_fraction, variable_name, print_factor, print_polynomial, print_quotient, print_ratio, print_below, print_element, print_in_z, print_fractions_in_z}
use Rattle.risch_cert.specs.Answers.{print_logarithm, print_root_sum, print_log_part, print_integral, print_rest, print_residue, print_chain, print_certificate}
use Rattle.risch_cert.specs.Texts
use Rattle.risch_cert.proofs.PrintingExamples.{over, whole, at_0, x}
use Rattle.risch_expression.specs.Words
use Rattle.risch_expression.specs.Fault
use Rattle.risch_expression.specs.Grammar
use Rattle.risch_expression.specs.Evaluation
use Rattle.risch_text.specs.Lines
use Rattle.risch_text.specs.File
use Rattle.risch_text.specs.Certified
use Rattle.risch_text.specs.Values
use Rattle.risch_text.specs.Problem.{ProblemValue}
use Rattle.risch_text.specs.Read.{read_problem}
use Rattle.risch_text.specs.ReadCertified.{read_certified}
use Rattle.risch_text.specs.declared.certified.ReadCertified.TheVariants.{Certified, Stopped}
use Rattle.risch_round_trip.specs.RoundTrip.{ended_lines, certified_behind}

-- names all that the printing looks through
unfoldable printing : Unit {0}
unfolding print_certificate print_integral print_chain print_rest print_residue print_log_part print_logarithm print_root_sum print_element print_fractions_in_z print_in_z print_below print_ratio print_polynomial print_quotient print_factor print_fraction variable_name Levels.element digits Texts.is_power
printing = tt

-- and the readings
unfoldable reading : Unit {0}
unfolding Words.after_blanks Words.after_byte Words.after_word Words.name Words.more_digits Words.numeral Fault.unexpected_cause Grammar.number_found Grammar.wanted_number Grammar.named Grammar.atom Grammar.power_rule Grammar.product_sign Grammar.sum_sign Grammar.term_rule Grammar.sum_rule Grammar.atom_in Grammar.power_in Grammar.term_in Grammar.sum_in Grammar.expression Lines.after_lines Lines.from_line Lines.behind_word Lines.behind_byte Lines.fixed Lines.symbol Lines.line_end Lines.number_of Lines.small_number_of Lines.wanted_variable Lines.variable_of Lines.sum_of Lines.bare_line Lines.expression_line Lines.nothing File.is_exponential File.tower_line File.problem_lines File.whole_problem Certified.signed_number Certified.factor Certified.after_log Certified.after_sum Certified.next_log Certified.end_power Certified.residue_end Certified.end_kind Certified.end_line Certified.is_refuted Certified.partial_lines Certified.integral_end Certified.refutation_end Certified.answer_lines Certified.whole_certified read_problem read_certified
reading = tt

-- and those of values
unfoldable values : Unit {0}
unfolding Evaluation.number_value Evaluation.variable_value Evaluation.divided Evaluation.ratio Evaluation.operate Evaluation.power_of Levels.element Tower.rate_of_logarithm Tower.pushed Values.element_at Values.with_line Values.problem_value Values.factor_value Values.polynomial_at Values.logarithm Values.root_sum Values.integral_value Values.chain_value Values.answer_value Values.certified_value Poly.sum Poly.scaled Poly.product Poly.monic Poly.step Poly.division Poly.quo Poly.monic_remainder Poly.gcd Over.element Over.divided Over.scaled Over.normal_form Over.quotient_sum Over.sum_with Over.scaled_product Over.quotient_product Over.inverse_ratio Over.inverse_product Fraction.lowest Fraction.quotient Fraction.sum Fraction.product Fraction.ratio Gcd.gcd
values = tt

-- ---- a file
three_lines : ended_lines (codes "integrate 1/(x^2+1)\n\n# end\n") ≡ 3
three_lines = refl

-- ---- read as the same
problem : ProblemValue
problem = record { tower = []; integrand = at_0 x }

certificate : Certificate
certificate = Integral (record {
  part = at_0 (Below (over (negsuc 0) 2));
  logs = record { poly = whole (negsuc 1) ∷ whole (pos 1) ∷ []; arg = at_0 x ∷ [] } ∷
      record { poly = whole (pos 1) ∷ whole (pos 0) ∷ whole (pos 1) ∷ []; arg = at_0 (Below (whole (pos 0))) ∷ at_0 (Below (whole (pos 1))) ∷ [] } ∷ [];
})

text : print_certificate certificate ≡ codes "integral\npart -1/2\nlog 2 of x\nsum z^2+1 of z\nend\n"
unfolding printing certificate
text = refl

same : read_certified (codes "integrate x\n" ++ codes "integral\npart -1/2\nlog 2 of x\nsum z^2+1 of z\nend\n") ≡ Certified (certified_behind (codes "integrate x\n") problem certificate)
unfolding reading values problem certificate
same = refl

chain : Certificate
chain = Refuted (record {
  partial = record { part = at_0 (Below (over (negsuc 0) 2)); logs = [] };
  rest = at_0 x;
  level = 0;
  end = Residue 2 (at_0 (Below (whole (pos 3))));
})

chain_text : print_certificate chain ≡ codes "refuted\npart -1/2\nrest x\nend residue of x power 2 trace 3\n"
unfolding printing chain
chain_text = refl

chain_same : read_certified (codes "integrate x\n" ++ codes "refuted\npart -1/2\nrest x\nend residue of x power 2 trace 3\n") ≡ Certified (certified_behind (codes "integrate x\n") problem chain)
unfolding reading values problem chain
chain_same = refl

-- ---- a stop
-- (x + 2^126)/(x^2 + 1) is in normal form, and its common divisor 1 is not found within 127 bits
wide : Certificate
wide = Integral (record {
  part = at_0 (Quotient (whole (pos (2 ^ 126)) ∷ whole (pos 1) ∷ [], whole (pos 1) ∷ whole (pos 0) ∷ whole (pos 1) ∷ []));
  logs = [];
})

wide_text : print_certificate wide ≡ codes "integral\npart (x+85070591730234615865843651857942052864)/(x^2+1)\nend\n"
unfolding printing wide
wide_text = refl

stopped : read_certified (codes "integrate x\n" ++ codes "integral\npart (x+85070591730234615865843651857942052864)/(x^2+1)\nend\n") ≡ Stopped (Overflow Mul)
unfolding reading values
stopped = refl
