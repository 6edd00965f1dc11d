-- Files as they are read: each fault of lines once, refusals, and the numbers of lines.
use Rattle.std.proofs.Common.{◌≡◌, refl, [], ◌∷◌, Ok, Err, None, Some, true, false, negsuc, pos}
use Rattle.std.specs.Prelude.{codes}
use Rattle.risch_frac.specs.Gcd
use Rattle.risch_frac.specs.Fraction
use Rattle.risch_polynomial.specs.Poly
use Rattle.risch_level.specs.Levels
use Rattle.risch_level.specs.Levels.{element}
use Rattle.risch_level.specs.Accessors.{variable as variable_element}
use Rattle.risch_tower.specs.Tower
use Rattle.risch_cert.specs.declared.answer.Certificate.TheVariants.{Integral, Refuted}
use Rattle.risch_cert.specs.declared.chain.End.TheVariants.{Residue}
use Rattle.risch_expression.specs.Words
use Rattle.risch_expression.specs.Fault
use Rattle.risch_expression.specs.Grammar
use Rattle.risch_expression.specs.Evaluation
use Rattle.risch_expression.specs.Tree.{number, variable, root, product, quotient, power}
use Rattle.risch_expression.specs.declared.fault.Cause.TheVariants.{Byte, End, Wide, Name, Trailing, Shape}
use Rattle.risch_text.specs.Lines
use Rattle.risch_text.specs.Lines.{from_line}
use Rattle.risch_text.specs.File
use Rattle.risch_text.specs.File.{whole_problem}
use Rattle.risch_text.specs.Certified
use Rattle.risch_text.specs.Certified.{log_line, sum_line, end_line, answer_lines, whole_certified}
use Rattle.risch_text.specs.Values
use Rattle.risch_text.specs.Read.{read_problem}
use Rattle.risch_text.specs.ReadCertified.{read_certified}
use Rattle.risch_text.specs.declared.fault.Refusal.TheVariants.{ZeroDivision, ZeroArgument}
use Rattle.risch_text.specs.declared.problem.ReadProblem.TheVariants.{Syntax, Refused}
use Rattle.risch_text.specs.declared.certified.ReadCertified.TheVariants as certified

-- names all that the readings look through
unfoldable reading : Unit {0}
unfolding Words.after_blanks Words.after_byte Words.after_word Words.name Words.more_digits Words.numeral Fault.unexpected_cause Grammar.number_found Grammar.wanted_number Grammar.named Grammar.atom Grammar.power_rule Grammar.product_sign Grammar.sum_sign Grammar.term_rule Grammar.sum_rule Grammar.atom_in Grammar.power_in Grammar.term_in Grammar.sum_in Grammar.expression Lines.after_lines Lines.from_line Lines.behind_word Lines.behind_byte Lines.fixed Lines.symbol Lines.line_end Lines.number_of Lines.small_number_of Lines.wanted_variable Lines.variable_of Lines.sum_of Lines.bare_line Lines.expression_line Lines.nothing File.is_exponential File.tower_line File.problem_lines File.whole_problem Certified.signed_number Certified.factor Certified.after_log Certified.after_sum Certified.next_log Certified.end_power Certified.residue_end Certified.end_kind Certified.end_line Certified.is_refuted Certified.partial_lines Certified.integral_end Certified.refutation_end Certified.answer_lines Certified.whole_certified read_problem read_certified
reading = tt

-- and those of values
unfoldable values : Unit {0}
unfolding Evaluation.number_value Evaluation.variable_value Evaluation.divided Evaluation.ratio Evaluation.operate Levels.element Tower.rate_of_logarithm Tower.pushed Values.element_at Values.with_line Values.problem_value Values.factor_value Values.polynomial_at Values.logarithm Values.root_sum Values.integral_value Values.chain_value Values.answer_value Values.certified_value
values = tt

-- and what a sum and a power of numbers and of z need
unfoldable arithmetic : Unit {0}
unfolding Evaluation.power_of Poly.sum Poly.product Fraction.sum Fraction.product Fraction.lowest Gcd.gcd
arithmetic = tt

-- ---- problems
two_lines : whole_problem (codes "t1 = log(x)\nt2 = exp(t1/x)\nintegrate t2\n") ≡ Ok (record {
  tower = record { exponential = false; argument = variable 0; left = 40 } ∷ record { exponential = true; argument = quotient 17 (variable 1) (variable 0); left = 28 } ∷ [];
  integrand = variable 2;
})
unfolding reading
two_lines = refl

-- A comment and blank lines are passed over, and the last line may lack its end.
blanks : whole_problem (codes "\n# c\n t1\t= exp( x )\r\n\n  integrate 2*t1") ≡ Ok (record {
  tower = record { exponential = true; argument = variable 0; left = 32 } ∷ [];
  integrand = product (number 2) (variable 1);
})
unfolding reading
blanks = refl

wrong_word : read_problem (codes "t2 = log(x)\nintegrate x\n") ≡ Syntax 0 Byte
unfolding reading
wrong_word = refl

wrong_function : read_problem (codes "t1 = sin(x)\nintegrate x\n") ≡ Syntax 5 Byte
unfolding reading
wrong_function = refl

no_integrand : read_problem (codes "t1 = log(x)\n# no more\n") ≡ Syntax 22 End
unfolding reading
no_integrand = refl

wide_behind : read_problem (codes "t1 = log(x) 170141183460469231731687303715884105728\nintegrate x\n") ≡ Syntax 12 Wide
unfolding reading
wide_behind = refl

second_integrand : read_problem (codes "integrate x\nintegrate x\n") ≡ Syntax 12 Trailing
unfolding reading
second_integrand = refl

byte_behind : read_problem (codes "integrate x\n  ;\n") ≡ Syntax 14 Trailing
unfolding reading
byte_behind = refl

unknown_monomial : read_problem (codes "integrate t1\n") ≡ Syntax 10 Name
unfolding reading
unknown_monomial = refl

-- The first refusal by lines; the syntax of the whole file goes before it.
zero_argument : read_problem (codes "\n t1 = log(0)\nintegrate 1/0\n") ≡ Refused 2 ZeroArgument
unfolding reading values
zero_argument = refl

syntax_first : read_problem (codes "t1 = log(0)\nintegrate x x\n") ≡ Syntax 24 Byte
unfolding reading
syntax_first = refl

-- ---- with an answer
answer : whole_certified (codes "integrate 0\nintegral\npart 0\nlog -1/2 of x\n\n sum z^2 of x\nend\n") ≡ Ok (Some (record {
  problem = record { tower = []; integrand = number 0 };
  answer = record {
    part = number 0;
    logs = log_line (record { top = record { num = negsuc 0; den = 1 }; bottom = Some (record { number = record { num = pos 2; den = 1 }; left = 27 }) }) (variable 0)
        ∷ sum_line (power root 2) (variable 0) 18 ∷ [];
    refutation = None;
    lines = 2 ∷ 3 ∷ 4 ∷ 6 ∷ 7 ∷ [];
  };
}))
unfolding reading
answer = refl

refutation : answer_lines 0 (from_line 2 (codes "refuted\npart 0\nlog 1 of x\nrest 0\nend residue of x power 65535 trace x\n")) ≡ Ok (record {
  value = Some (record {
    part = number 0;
    logs = log_line (record { top = record { num = pos 1; den = 1 }; bottom = None }) (variable 0) ∷ [];
    refutation = Some (record { rest = number 0; end = record { level = 0; power = 65535; trace = variable 0 } });
    lines = 2 ∷ 3 ∷ 4 ∷ 5 ∷ 6 ∷ [];
  });
  front = record { rest = []; line = 7; start = 0 };
})
unfolding reading
refutation = refl

byte_behind_word : read_certified (codes "integrate 0\nrefuted x") ≡ certified.Syntax 20 Byte
unfolding reading
byte_behind_word = refl

-- What begins with an equation, and an end in an exponent or a degree, is not yet read, whatever follows.
equation : read_certified (codes "integrate 0\nrefuted\npart 0\nrest x\nequation ;") ≡ certified.NotYet
unfolding reading
equation = refl

exponent : read_certified (codes "integrate 0\nrefuted\npart 0\nrest x\nend exponent ;") ≡ certified.NotYet
unfolding reading
exponent = refl

degree : read_certified (codes "integrate 0\nrefuted\npart 0\nrest x\nend degree") ≡ certified.NotYet
unfolding reading
degree = refl

-- A fault before the end comes first.
rest_fault : read_certified (codes "integrate 0\nrefuted\npart 0\nrest ;\nequation") ≡ certified.Syntax 32 Byte
unfolding reading
rest_fault = refl

no_end : read_certified (codes "integrate 0\nrefuted\npart 0\nrest x\n") ≡ certified.Syntax 34 End
unfolding reading
no_end = refl

other_end : read_certified (codes "integrate 0\nrefuted\npart 0\nrest x\nend residues of x") ≡ certified.Syntax 38 Byte
unfolding reading
other_end = refl

-- The faults of an end, where so many bytes are left.
unknown_variable : end_line 0 (from_line 5 (codes "end residue of t1 power 1 trace x\n")) ≡ Err (record { left = 19; cause = Name })
unfolding reading
unknown_variable = refl

no_variable : end_line 0 (from_line 5 (codes "end residue of 1 power 1 trace x\n")) ≡ Err (record { left = 18; cause = Byte })
unfolding reading
no_variable = refl

wide_power : end_line 0 (from_line 5 (codes "end residue of x power 65536 trace x\n")) ≡ Err (record { left = 14; cause = Wide })
unfolding reading
wide_power = refl

no_factor : read_certified (codes "integrate 0\nintegral\npart 0\nlog x of x\nend\n") ≡ certified.Syntax 32 Byte
unfolding reading
no_factor = refl

no_root : read_certified (codes "integrate 0\nintegral\npart 0\nlog 1 of z\nend\n") ≡ certified.Syntax 37 Name
unfolding reading
no_root = refl

zero_factor : read_certified (codes "integrate 0\nintegral\npart 0\nlog -1/0 of x\nend\n") ≡ certified.Refused 34 ZeroDivision
unfolding reading values
zero_factor = refl

-- The place is the first byte of the line, blanks included.
bad_sum : read_certified (codes "integrate 0\nintegral\npart 0\n  sum z of x\nend\n") ≡ certified.Syntax 28 Shape
unfolding reading values
bad_sum = refl

behind_end : read_certified (codes "integrate 0\nintegral\npart 0\nend\nend\n") ≡ certified.Syntax 32 Trailing
unfolding reading
behind_end = refl

accepted : read_certified (codes "integrate 0\nintegral\npart 0\nsum z^2-2 of x\nend\n") ≡ certified.Certified (record {
  problem = record { tower = []; integrand = element.zero };
  certificate = Integral (record {
    part = element.zero;
    logs = record { poly = record { num = negsuc 1; den = 1 } ∷ record { num = pos 0; den = 1 } ∷ record { num = pos 1; den = 1 } ∷ []; arg = variable_element 5 0 ∷ [] } ∷ [];
  });
  lines = 2 ∷ 3 ∷ 4 ∷ 5 ∷ [];
})
unfolding reading values arithmetic
accepted = refl

accepted_refutation : read_certified (codes "integrate 0\nrefuted\npart x\nrest 1\nend residue of x power 3 trace x\n") ≡ certified.Certified (record {
  problem = record { tower = []; integrand = element.zero };
  certificate = Refuted (record { partial = record { part = variable_element 5 0; logs = [] }; rest = element.one; level = 0; end = Residue 3 (variable_element 5 0) });
  lines = 2 ∷ 3 ∷ 4 ∷ 5 ∷ [];
})
unfolding reading values arithmetic
accepted_refutation = refl
