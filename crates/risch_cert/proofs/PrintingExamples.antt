-- Worked examples of the texts of elements, and of polynomials over them.
use Rattle.std.proofs.Common.{◌≡◌, ℕ, List, [], ◌∷◌, ℤ, pos, negsuc, codes, refl}
use Rattle.std.specs.Fmt.{digits}
use Rattle.risch_frac.specs.Fraction.{Fraction}
use Rattle.risch_level.specs.Levels.{Field, Element, element}
use Rattle.risch_level.specs.declared.over.Over.TheVariants.{Below, Quotient}
use Rattle.risch_cert.specs.Texts.{is_power}
use Rattle.risch_cert.specs.Printing.{print_fraction, variable_name, print_factor, print_polynomial, print_quotient, print_ratio, print_below, print_element, print_in_z, print_fractions_in_z}

abbrev pub over : ℤ → ℕ → Fraction
over num den = record { num = num; den = den }

abbrev pub whole : ℤ → Fraction
whole z = over z 1

-- an element of level 0, 1 or 2 as one of the tower
abbrev pub at_0 : Field 1 → Element
at_0 e = Below (Below (Below (Below e)))

abbrev pub at_1 : Field 2 → Element
at_1 e = Below (Below (Below e))

abbrev pub at_2 : Field 3 → Element
at_2 e = Below (Below e)

-- polynomials in x, t1 and t2
abbrev pub in_x : List Fraction → Field 1
in_x p = Quotient (p, whole (pos 1) ∷ [])

abbrev pub in_t1 : List (Field 1) → Field 2
in_t1 p = Quotient (p, Below (whole (pos 1)) ∷ [])

abbrev pub in_t2 : List (Field 2) → Field 3
in_t2 p = Quotient (p, Below (Below (whole (pos 1))) ∷ [])

-- the whole numbers 0, 1, .. at level 0 and 1
abbrev none_0 : Field 1
none_0 = Below (whole (pos 0))

abbrev one_0 : Field 1
one_0 = Below (whole (pos 1))

abbrev none_1 : Field 2
none_1 = Below none_0

abbrev one_1 : Field 2
one_1 = Below one_0

-- x, x + 1 and 1/x
abbrev pub x : Field 1
x = in_x (whole (pos 0) ∷ whole (pos 1) ∷ [])

abbrev x_and_one : Field 1
x_and_one = in_x (whole (pos 1) ∷ whole (pos 1) ∷ [])

abbrev one_by_x : Field 1
one_by_x = Quotient (whole (pos 1) ∷ [], whole (pos 0) ∷ whole (pos 1) ∷ [])

-- ---- fractions, and elements of level 0
zero_element : print_element (at_0 none_0) ≡ codes "0"
unfolding print_element print_below print_fraction digits
zero_element = refl

negative_fraction : print_element (at_0 (Below (over (negsuc 2) 4))) ≡ codes "-3/4"
unfolding print_element print_below print_fraction digits
negative_fraction = refl

quadratic : print_element (at_0 (in_x (whole (pos 0) ∷ whole (pos 3) ∷ over (negsuc 0) 4 ∷ []))) ≡ codes "-1/4*x^2+3*x"
unfolding print_element print_below print_ratio print_polynomial print_factor print_fraction variable_name element digits
quadratic = refl

-- a numerator with a sign stands in parentheses
negative_numerator : print_element (at_0 (Quotient (whole (negsuc 0) ∷ [], whole (pos 0) ∷ whole (pos 1) ∷ []))) ≡ codes "(-1)/x"
unfolding print_element print_below print_ratio print_polynomial print_factor print_quotient is_power print_fraction variable_name element digits
negative_numerator = refl

polynomial_denominator : print_element (at_0 (Quotient (whole (pos 1) ∷ [], whole (pos 1) ∷ whole (pos 0) ∷ whole (pos 1) ∷ []))) ≡ codes "1/(x^2+1)"
unfolding print_element print_below print_ratio print_polynomial print_factor print_quotient is_power print_fraction variable_name element digits
polynomial_denominator = refl

-- ---- elements of level 1 and 2
-- a coefficient of one term has no parentheses, one of two has them
monomial_coefficient : print_element (at_1 (in_t1 (none_0 ∷ in_x (whole (pos 0) ∷ whole (pos 2) ∷ []) ∷ []))) ≡ codes "2*x*t1"
unfolding print_element print_below print_ratio print_polynomial print_factor print_fraction variable_name element digits
monomial_coefficient = refl

sum_coefficient : print_element (at_1 (in_t1 (none_0 ∷ x_and_one ∷ []))) ≡ codes "(x+1)*t1"
unfolding print_element print_below print_ratio print_polynomial print_factor print_fraction variable_name element digits
sum_coefficient = refl

quotient_coefficients : print_element (at_1 (in_t1 (one_by_x ∷ one_by_x ∷ []))) ≡ codes "1/x*t1+1/x"
unfolding print_element print_below print_ratio print_polynomial print_factor print_quotient is_power print_fraction variable_name element digits
quotient_coefficients = refl

-- a power of any variable has no parentheses as a numerator, a fraction has them
lower_numerator : print_element (at_1 (Quotient (in_x (whole (pos 0) ∷ whole (pos 0) ∷ whole (pos 1) ∷ []) ∷ [], x ∷ one_0 ∷ []))) ≡ codes "x^2/(t1+x)"
unfolding print_element print_below print_ratio print_polynomial print_factor print_quotient is_power print_fraction variable_name element digits
lower_numerator = refl

fraction_numerator : print_element (at_1 (Quotient (Below (over (pos 1) 2) ∷ [], none_0 ∷ one_0 ∷ []))) ≡ codes "(1/2)/t1"
unfolding print_element print_below print_ratio print_polynomial print_factor print_quotient is_power print_fraction variable_name element digits
fraction_numerator = refl

-- the two highest variables
difference : print_element (at_2 (in_t2 (in_t1 (none_0 ∷ x ∷ []) ∷ Below (Below (whole (negsuc 0))) ∷ []))) ≡ codes "-t2+x*t1"
unfolding print_element print_below print_ratio print_polynomial print_factor print_fraction variable_name element digits
difference = refl

distant_coefficient : print_element (at_2 (in_t2 (none_1 ∷ Below x_and_one ∷ []))) ≡ codes "(x+1)*t2"
unfolding print_element print_below print_ratio print_polynomial print_factor print_fraction variable_name element digits
distant_coefficient = refl

lower_power : print_element (at_2 (Quotient (in_t1 (none_0 ∷ none_0 ∷ one_0 ∷ []) ∷ [], none_1 ∷ one_1 ∷ []))) ≡ codes "t1^2/t2"
unfolding print_element print_below print_ratio print_polynomial print_factor print_quotient is_power print_fraction variable_name element digits
lower_power = refl

-- ---- polynomials in z
line_in_z : print_in_z (at_0 x ∷ at_0 (Below (whole (negsuc 1))) ∷ []) ≡ codes "-2*z+x"
unfolding print_in_z print_below print_ratio print_polynomial print_factor print_fraction variable_name element digits
line_in_z = refl

square_in_z : print_in_z (at_0 one_by_x ∷ at_0 x_and_one ∷ at_0 (Below (whole (negsuc 0))) ∷ []) ≡ codes "-z^2+(x+1)*z+1/x"
unfolding print_in_z print_below print_ratio print_polynomial print_factor print_quotient is_power print_fraction variable_name element digits
square_in_z = refl

rational_in_z : print_fractions_in_z (over (pos 1) 4 ∷ whole (pos 0) ∷ whole (pos 1) ∷ []) ≡ codes "z^2+1/4"
unfolding print_fractions_in_z print_in_z print_below print_polynomial print_factor print_fraction element digits
rational_in_z = refl

nothing_in_z : print_in_z [] ≡ codes "0"
unfolding print_in_z print_polynomial
nothing_in_z = refl
