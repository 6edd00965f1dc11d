-- The logarithms of the residues of h = a/d (Bronstein, sections 2.5 and 5.6, Rothstein, Trager, Lazard and Rioboo), in the order in which the values are formed: for the square-free parts R_1, R_2, .. of the characteristic polynomial C
-- the sum over the roots z of R_i of z·log S_i(z), where S_i is d for i = deg d, and else the member of degree i of the primitive remainder sequence of d and a - z·Dd, its leading coefficient made 1 modulo R_i.
use Rattle.std.specs.Prelude.{ℕ, zero, suc, ◌-◌, nat_eq, max, if◌then◌else◌, Option, None, Some, List, [], ◌∷◌, ◌++◌, length, map, take, Ok}
use Rattle.risch_frac.specs.Fraction.{Fraction}
use Rattle.risch_field.specs.Checked.{Checked, and_then}
use Rattle.risch_field.specs.Ground.{ground}
use Rattle.risch_polynomial.specs.Poly as poly
use Rattle.risch_polynomial.specs.Modular as modular
use Rattle.risch_level.specs.Accessors.{as_number}
use Rattle.risch_level.specs.Levels.{Element, element}
use Rattle.risch_derivation.specs.Derivation.{derive_polynomial}
use Rattle.risch_tower.specs.declared.level.Level.{Level}
use Rattle.risch_tower.specs.Tower.{derivative, rate_at}
use Rattle.risch_monomial.specs.LevelElements.{of_polynomial, numerator_at, denominator_at}
use Rattle.risch_trace.specs.Traces.{remainder}
use Rattle.risch_sub.specs.SquareFree.{square_free_parts}
use Rattle.risch_sub.specs.RemainderSequence.{InZ, Member, leading, sized, remainders, content, quotients_onto}
use Rattle.risch_rootsum.specs.declared.integral.LogPart.{LogPart}
use Rattle.risch_logarithm_rules.specs.Newton.{characteristic_polynomial}

-- ---- the first two members of the sequence
-- c as a polynomial in z
abbrev pub constant_in_z : Element → InZ
constant_in_z c = poly.trimmed element (c ∷ [])

-- a_j - z·e_j
abbrev pub difference_in_z : Element → Element → InZ
difference_in_z a e = poly.trimmed element (a ∷ element.negative e ∷ [])

-- a - z·e, coefficient by coefficient
abbrev pub differences_in_z : List Element → List Element → Member
differences_in_z [] [] = []
differences_in_z [] (e ∷ es) = difference_in_z element.zero e ∷ differences_in_z [] es
differences_in_z (a ∷ more) [] = difference_in_z a element.zero ∷ differences_in_z more []
differences_in_z (a ∷ more) (e ∷ es) = difference_in_z a e ∷ differences_in_z more es

-- ---- the argument of R, from a member
-- p_0 rem R, p_1 rem R, .., after those that are formed
abbrev pub remainders_onto : Member → Member → InZ → Checked Member
remainders_onto formed [] R = Ok formed
remainders_onto formed (p ∷ m) R = and_then (remainder p R) (λ r. remainders_onto (formed ++ r ∷ []) m R)

-- (p_0·i) rem R, (p_1·i) rem R, .., after those that are formed
abbrev pub multiples_onto : Member → Member → InZ → InZ → Checked Member
multiples_onto formed [] i R = Ok formed
multiples_onto formed (p ∷ m) i R = and_then (poly.product element p i) (λ q. and_then (remainder q R) (λ r. multiples_onto (formed ++ r ∷ []) m i R))

-- with the inverse i of the leading coefficient modulo R, and the leading coefficient 1 unformed. There is an inverse; what stands for none only makes the definition whole
abbrev pub monic_by : Member → InZ → Option InZ → Checked Member
monic_by m R None = Ok m
monic_by m R (Some i) = and_then (multiples_onto [] (take (length m - 1) m) i R) (λ front. Ok (front ++ (element.one ∷ []) ∷ []))

-- divided by its content, modulo R, and monic there
unfoldable pub argument_of : Member → InZ → Checked Member
argument_of m R =
    and_then (content m) (λ c.
    and_then (quotients_onto [] m c) (λ p.
    and_then (remainders_onto [] p R) (λ r.
    and_then (modular.inverse element (leading r) R) (monic_by r R))))

-- ---- the logarithm
-- the fractions that the coefficients of R are
abbrev pub fraction_of : Option Fraction → Fraction
fraction_of None = ground.zero
fraction_of (Some q) = q

abbrev pub fractions_of : List Element → List Fraction
fractions_of R = map (λ c. fraction_of (as_number 5 c)) R

-- the coefficients at z^k of the coefficients of t^0, t^1, .., as a polynomial in t
abbrev pub coefficients_at : ℕ → Member → List Element
coefficients_at k m = map (λ p. poly.coefficient element p k) m

unfoldable pub polynomial_at : ℕ → Member → Checked (List Element)
polynomial_at k m = poly.sized element (poly.trimmed element (coefficients_at k m))

-- one more than the highest exponent of z
abbrev pub width : Member → ℕ
width [] = 0
width (p ∷ m) = max (length p) (width m)

-- this polynomial as an element of the level
unfoldable pub element_at : ℕ → ℕ → Member → Checked Element
element_at level k m = and_then (polynomial_at k m) (of_polynomial level)

-- the elements at z^k, z^(k+1), .., as many as `steps`, after those that are formed
abbrev pub by_powers_from : ℕ → ℕ → ℕ → List Element → Member → Checked (List Element)
by_powers_from level k zero formed m = Ok formed
by_powers_from level k (suc steps) formed m = and_then (element_at level k m) (λ c. by_powers_from level (suc k) steps (formed ++ c ∷ []) m)

-- how many powers of z count modulo R: z is c modulo z - c
abbrev pub power_count : InZ → Member → ℕ
power_count R S = if nat_eq (length R) 2 then 1 else width S

-- R = z - c: c times the logarithm of S with z replaced by c, where the coefficients of S modulo R are constants
-- else: S ordered by powers of z
unfoldable pub logarithm : ℕ → List Element → Member → Checked LogPart
logarithm level R S =
    and_then (by_powers_from level 0 (power_count R S) [] S) (λ formed.
    and_then (poly.sized element (poly.trimmed element formed)) (λ arg.
    Ok (record { poly = fractions_of R; arg = arg })))

-- ---- all logarithms
-- the first member of degree i. There is one; what stands for none only makes the definition whole
abbrev pub member_of_degree : ℕ → List Member → Member
member_of_degree i [] = []
member_of_degree i (m ∷ ms) = if nat_eq (length m) (suc i) then m else member_of_degree i ms

module _ (tower : List Level) (level : ℕ) (a d : List Element) where
  -- the sequence of d and a - z·Dd, down to a degree
  unfoldable pub sequence : ℕ → Checked (List Member)
  sequence least =
      and_then (derive_polynomial element (derivative tower) (rate_at tower level) d) (λ derived.
      and_then (sized (differences_in_z a derived)) (λ b.
      remainders (map constant_in_z d) b least))

  -- the members where they are formed, else those down to the degree i
  abbrev pub members_or : Option (List Member) → ℕ → Checked (List Member)
  members_or None i = sequence i
  members_or (Some members) i = Ok members

  -- the argument for R_i, and the members
  unfoldable pub argument_for : Option (List Member) → ℕ → List Element → Checked (Member × Option (List Member))
  argument_for members i R =
      if nat_eq (suc i) (length d) then Ok (map constant_in_z d, members) else
      and_then (members_or members i) (λ ms.
      and_then (argument_of (member_of_degree i ms) R) (λ S.
      Ok (S, Some ms)))

  -- the logarithms so far, and those of R_i, R_(i+1), ..; a part 1 is passed over
  abbrev pub logarithms_from : ℕ → Option (List Member) → List LogPart → List (List Element) → Checked (List LogPart)
  logarithms_from i members logs [] = Ok logs
  logarithms_from i members logs (R ∷ parts) =
      if poly.is_one element R then logarithms_from (suc i) members logs parts else
      and_then (argument_for members i R) (λ found.
      and_then (logarithm level R found.0) (λ l.
      logarithms_from (suc i) found.1 (logs ++ l ∷ []) parts))

-- the logarithms of h, from the traces p_1 .. p_m
unfoldable pub logarithms : List Level → ℕ → Element → List Element → Checked (List LogPart)
logarithms tower level h traces =
    and_then (characteristic_polynomial traces) (λ C.
    and_then (square_free_parts C) (λ parts.
    logarithms_from tower level (numerator_at level h) (denominator_at level h) 1 None [] parts))
