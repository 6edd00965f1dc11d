-- Expressions as they are read, and each fault once.
use Rattle.std.proofs.Common.{◌≡◌, ℕ, refl, ◌++◌, [], Err, false, true}
use Rattle.std.specs.Prelude.{codes, replicate}
use Rattle.risch_expression.specs.Words.{after_blanks, after_byte, name, more_digits, numeral}
use Rattle.risch_expression.specs.Fault.{unexpected_cause}
use Rattle.risch_expression.specs.Tree.{number, variable, root, negated, sum, difference, product, quotient, power}
use Rattle.risch_expression.specs.Grammar.{Read, Parsed, parsed, number_found, wanted_number, named, expression, sum_in, term_in, power_in, atom_in, sum_rule, term_rule, power_rule, atom, sum_sign, product_sign}
use Rattle.risch_expression.specs.declared.fault.Cause.{Cause}
use Rattle.risch_expression.specs.declared.fault.Cause.TheVariants.{Byte, End, Wide, Exponent, Name, Deep}
use Rattle.risch_expression.specs.declared.names.Names.{Names}

-- x alone, x and two monomials, and x and z
abbrev x_alone : Names
x_alone = record { monomials = 0; with_z = false }

abbrev two_monomials : Names
two_monomials = record { monomials = 2; with_z = false }

abbrev with_root : Names
with_root = record { monomials = 0; with_z = true }

-- a fault where so many bytes are left
abbrev fault : ℕ → Cause → Read Parsed
fault left cause = Err (record { left = left; cause = cause })

ex1 : expression x_alone (codes "3-x/2") ≡ parsed (difference (number 3) (quotient 2 (variable 0) (number 2))) []
unfolding expression sum_in term_in power_in atom_in sum_rule term_rule power_rule atom number_found wanted_number named sum_sign product_sign unexpected_cause after_blanks after_byte name more_digits numeral
ex1 = refl

-- The rest begins past blanks, at the end of the line.
ex2 : expression x_alone (codes "-( x^2 * 07)\r\n#") ≡ parsed (negated (product (power (variable 0) 2) (number 7))) (codes "\n#")
unfolding expression sum_in term_in power_in atom_in sum_rule term_rule power_rule atom number_found wanted_number named sum_sign product_sign unexpected_cause after_blanks after_byte name more_digits numeral
ex2 = refl

ex3 : expression two_monomials (codes "x+t2/t1 t1") ≡ parsed (sum (variable 0) (quotient 6 (variable 2) (variable 1))) (codes "t1")
unfolding expression sum_in term_in power_in atom_in sum_rule term_rule power_rule atom number_found wanted_number named sum_sign product_sign unexpected_cause after_blanks after_byte name more_digits numeral
ex3 = refl

ex4 : expression with_root (codes "z^9999") ≡ parsed (power root 9999) []
unfolding expression sum_in term_in power_in atom_in sum_rule term_rule power_rule atom number_found wanted_number named sum_sign product_sign unexpected_cause after_blanks after_byte name more_digits numeral
ex4 = refl

-- The end of a line fits no rule.
ex5 : expression x_alone (codes "x+\n") ≡ fault 1 Byte
unfolding expression sum_in term_in power_in atom_in sum_rule term_rule power_rule atom number_found wanted_number named sum_sign product_sign unexpected_cause after_blanks after_byte name more_digits numeral
ex5 = refl

ex6 : expression x_alone (codes "(x+ ") ≡ fault 0 End
unfolding expression sum_in term_in power_in atom_in sum_rule term_rule power_rule atom number_found wanted_number named sum_sign product_sign unexpected_cause after_blanks after_byte name more_digits numeral
ex6 = refl

ex7 : expression x_alone (codes "2*170141183460469231731687303715884105728") ≡ fault 39 Wide
unfolding expression sum_in term_in power_in atom_in sum_rule term_rule power_rule atom number_found wanted_number named sum_sign product_sign unexpected_cause after_blanks after_byte name more_digits numeral
ex7 = refl

-- Such a number is Wide also where no number fits.
ex8 : expression x_alone (codes "(x 170141183460469231731687303715884105728)") ≡ fault 40 Wide
unfolding expression sum_in term_in power_in atom_in sum_rule term_rule power_rule atom number_found wanted_number named sum_sign product_sign unexpected_cause after_blanks after_byte name more_digits numeral
ex8 = refl

ex9 : expression x_alone (codes "x^10000") ≡ fault 5 Exponent
unfolding expression sum_in term_in power_in atom_in sum_rule term_rule power_rule atom number_found wanted_number named sum_sign product_sign unexpected_cause after_blanks after_byte name more_digits numeral
ex9 = refl

ex10 : expression two_monomials (codes "t1+t3") ≡ fault 2 Name
unfolding expression sum_in term_in power_in atom_in sum_rule term_rule power_rule atom number_found wanted_number named sum_sign product_sign unexpected_cause after_blanks after_byte name more_digits numeral
ex10 = refl

ex11 : expression x_alone (codes "z") ≡ fault 1 Name
unfolding expression sum_in term_in power_in atom_in sum_rule term_rule power_rule atom number_found wanted_number named sum_sign product_sign unexpected_cause after_blanks after_byte name more_digits numeral
ex11 = refl

-- The 65th open parenthesis is one too many.
ex12 : expression x_alone (replicate 65 40 ++ codes "x") ≡ fault 2 Deep
unfolding expression sum_in term_in power_in atom_in sum_rule term_rule power_rule atom number_found wanted_number named sum_sign product_sign unexpected_cause after_blanks after_byte name more_digits numeral
ex12 = refl

-- Also where no parenthesis fits.
ex13 : expression x_alone (replicate 64 40 ++ codes "x(") ≡ fault 1 Deep
unfolding expression sum_in term_in power_in atom_in sum_rule term_rule power_rule atom number_found wanted_number named sum_sign product_sign unexpected_cause after_blanks after_byte name more_digits numeral
ex13 = refl
