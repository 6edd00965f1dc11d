-- How fractions, polynomials and elements are printed.
use Rattle.std.specs.Prelude.{ℕ, zero, suc, ◌-◌, ◌==◌, nat_le, Bool, false, not, ◌||◌, ◌&&◌, if◌then◌else◌, ℤ, pos, negsuc, Option, None, Some, unwrap_or, List, [], ◌∷◌, ◌++◌, length, count_by, map, codes, decimal}
use Rattle.std.specs.Ordering.{int_eq}
use Rattle.std.specs.Fmt.{signed_decimal}
use Rattle.risch_frac.specs.Fraction.{Fraction}
use Rattle.risch_field.specs.Ground.{ground}
use Rattle.risch_polynomial.specs.Poly as poly
use Rattle.risch_level.specs.Levels.{Element, element}
use Rattle.risch_level.specs.Accessors.{level, number, as_number}
use Rattle.risch_level.specs.Parts.{levels, denominator}
use Rattle.risch_cert.specs.Texts.{is_digits, is_power}

-- p, or p/q
unfoldable pub print_fraction : Fraction → List ℕ
print_fraction c = if c.den == 1 then signed_decimal c.num else signed_decimal c.num ++ (codes "/" ++ decimal c.den)

-- x for the level 0; t1, t2, .. for those above
unfoldable pub variable_name : ℕ → List ℕ
variable_name level = if level == 0 then codes "x" else codes "t" ++ decimal level

-- t^e for e above 0: t for e = 1
abbrev pub print_power : List ℕ → ℕ → List ℕ
print_power name e = if e == 1 then name else name ++ (codes "^" ++ decimal e)

-- the text, in parentheses where that is needed
abbrev pub enclosed : Bool → List ℕ → List ℕ
enclosed needed text = if needed then codes "(" ++ (text ++ codes ")") else text

-- The text of an element. It is long where the element has the denominator 1 and two or more terms other than 0 at its own level.
pub record Printed : Type 0 where
  pub text : List ℕ
  pub long : Bool

-- whether the fraction is the whole number z
abbrev pub is_whole : ℤ → Option Fraction → Bool
is_whole z None = false
is_whole z (Some q) = int_eq q.num z && q.den == 1

-- what stands before a power of the variable: nothing for 1, `-` for -1, else the coefficient, in parentheses where it is long, and `*`
unfoldable pub print_factor : Element → Printed → List ℕ
print_factor c printed =
    if is_whole (pos 1) (as_number 5 c) then [] else
    if is_whole (negsuc 0) (as_number 5 c) then codes "-" else
    enclosed printed.long printed.text ++ codes "*"

-- the term c·t^e
abbrev pub print_term : List ℕ → Element → Printed → ℕ → List ℕ
print_term name c printed e = if e == 0 then printed.text else print_factor c printed ++ print_power name e

-- whether a text begins with `-`
abbrev pub is_signed : List ℕ → Bool
is_signed [] = false
is_signed (byte ∷ text) = byte == 45

-- the terms of higher exponents, and after them one more, with a `+` between them where it does not begin with `-`
abbrev pub add_text : List ℕ → List ℕ → List ℕ
add_text higher term = higher ++ ((if length higher == 0 || is_signed term then [] else codes "+") ++ term)

-- `0` where there is no term
abbrev pub or_zero : List ℕ → List ℕ
or_zero terms = if length terms == 0 then codes "0" else terms

-- polynomials in a variable, given by how their coefficients are printed and by the name of the variable
module _ (print : Element → Printed) (name : List ℕ) where
  -- the terms of higher exponents, and after them c·t^e where c is not 0
  abbrev pub add_term : List ℕ → Element → ℕ → List ℕ
  add_term higher c e = if element.is_zero c then higher else add_text higher (print_term name c (print c) e)

  -- The terms that are not 0, from the highest exponent down. The coefficients are those of t^e, t^(e + 1), ..
  abbrev pub print_terms : ℕ → List Element → List ℕ
  print_terms e [] = []
  print_terms e (c ∷ cs) = add_term (print_terms (suc e) cs) c e

  -- the polynomial with these coefficients from exponent 0
  unfoldable pub print_polynomial : List Element → List ℕ
  print_polynomial p = or_zero (print_terms 0 p)

-- The numerator stands in parentheses unless it is digits alone or a variable with or without an exponent, the denominator unless it is a variable with or without an exponent.
unfoldable pub print_quotient : List ℕ → List ℕ → List ℕ
print_quotient top bottom =
    enclosed (not (is_digits top || is_power top)) top ++ (codes "/" ++ enclosed (not (is_power bottom)) bottom)

-- whether two or more coefficients are not 0
abbrev pub is_sum : List Element → Bool
is_sum p = nat_le 2 (count_by (λ c. not (element.is_zero c)) p)

-- n/m for polynomials n and m in a variable: n alone where m is 1
unfoldable pub print_ratio : (Element → Printed) → List ℕ → List Element → List Element → Printed
print_ratio print name n m =
    if poly.is_one element m
    then record { text = print_polynomial print name n; long = is_sum n }
    else record { text = print_quotient (print_polynomial print name n) (print_polynomial print name m); long = false }

-- whether the level is n
abbrev pub is_level : ℕ → Option ℕ → Bool
is_level n None = false
is_level n (Some l) = l == n

-- an element in which only the first n variables occur
unfoldable pub print_below : ℕ → Element → Printed
print_below zero e = record { text = print_fraction (unwrap_or (as_number 5 e) ground.zero); long = false }
print_below (suc n) e =
    if is_level n (level 5 e)
    then print_ratio (print_below n) (variable_name n) ((levels 5).numerator (4 - n) e) (denominator 5 (4 - n) e)
    else print_below n e

-- an element of the tower
unfoldable pub print_element : Element → List ℕ
print_element e = (print_below 5 e).text

-- a polynomial over the elements in the variable of a level, with these coefficients from exponent 0
unfoldable pub print_in_variable : ℕ → List Element → List ℕ
print_in_variable level p = print_polynomial (print_below 5) (variable_name level) p

-- a polynomial in z over the elements, with these coefficients from exponent 0
unfoldable pub print_in_z : List Element → List ℕ
print_in_z p = print_polynomial (print_below 5) (codes "z") p

-- the same over the fractions
unfoldable pub print_fractions_in_z : List Fraction → List ℕ
print_fractions_in_z p = print_in_z (map (number 5) p)
