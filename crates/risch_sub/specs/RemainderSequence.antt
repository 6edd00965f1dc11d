-- The primitive remainder sequence of polynomials in t over polynomials in z over the elements (Bronstein, Symbolic Integration I, section 1.5), in the order in which the values are formed. A member is the list of its
-- coefficients, polynomials in z, from exponent 0 of t; the last is not 0.
use Rattle.std.specs.Prelude.{ℕ, zero, suc, ◌+◌, ◌-◌, nat_le, if◌then◌else◌, Option, None, Some, List, [], ◌∷◌, ◌++◌, length, take, replicate, get_or, Ok, Err}
use Rattle.risch_field.specs.Checked.{Checked, and_then, map_ok}
use Rattle.risch_field.specs.declared.Fail.TheVariants.{Size}
use Rattle.risch_polynomial.specs.Poly as poly
use Rattle.risch_level.specs.Levels.{Element, element}

-- a polynomial in z, and a polynomial in t over those
abbrev pub InZ : Type 0
InZ = List Element

abbrev pub Member : Type 0
Member = List InZ

-- ---- limits
-- the sum of the weights of the coefficients
abbrev pub weight : Member → ℕ
weight [] = 0
weight (p ∷ m) = poly.weight element p + weight m

-- p + t·m, without zeros at the end
abbrev pub with_first : InZ → Member → Member
with_first [] [] = []
with_first [] (p ∷ m) = [] ∷ p ∷ m
with_first (c ∷ p) m = (c ∷ p) ∷ m

-- without the zeros at the end
abbrev pub trimmed : Member → Member
trimmed [] = []
trimmed (p ∷ m) = with_first p (trimmed m)

-- without the zeros at the end, where the weight is at most its limit; the degree in t never rises
unfoldable pub sized : Member → Checked Member
sized m = if nat_le (weight (trimmed m)) 65536 then Ok (trimmed m) else Err Size

-- the leading coefficient, and the coefficient at an exponent
abbrev pub leading : Member → InZ
leading [] = []
leading (p ∷ []) = p
leading (p ∷ q ∷ m) = leading (q ∷ m)

-- ---- pseudo-division
-- c·m_0, c·m_1, .., exponents ascending, after those that are formed
abbrev pub products_onto : Member → InZ → Member → Checked Member
products_onto formed c [] = Ok formed
products_onto formed c (p ∷ m) = and_then (poly.product element c p) (λ q. products_onto (formed ++ q ∷ []) c m)

-- m_0 - n_0, m_1 - n_1, .., exponents ascending, after those that are formed
abbrev pub differences_onto : Member → Member → Member → Checked Member
differences_onto formed [] [] = Ok formed
differences_onto formed [] (q ∷ n) = differences_onto (formed ++ poly.negatives element q ∷ []) [] n
differences_onto formed (p ∷ m) [] = differences_onto (formed ++ p ∷ []) m []
differences_onto formed (p ∷ m) (q ∷ n) = and_then (poly.sum element p (poly.negatives element q)) (λ s. differences_onto (formed ++ s ∷ []) m n)

-- one step at the exponent e: lc(b)·r - c·t^e·b, where c is the coefficient of r at e + deg b; what stands there becomes 0 unformed
unfoldable pub pseudo_step : Member → Member → ℕ → Checked Member
pseudo_step b r e =
    let top = e + (length b - 1) in
    and_then (products_onto [] (leading b) (take top r)) (λ left.
    and_then (sized left) (λ left.
    and_then (products_onto (replicate e []) (get_or r top []) (take (length b - 1) b)) (λ right.
    and_then (sized right) (λ right.
    and_then (differences_onto [] left right) sized))))

-- the steps at the exponents below `steps`, from the highest down
abbrev pub pseudo_steps : Member → ℕ → Member → Checked Member
pseudo_steps b zero r = Ok r
pseudo_steps b (suc e) r = and_then (pseudo_step b r e) (pseudo_steps b e)

-- prem(a, b)
abbrev pub pseudo_remainder : Member → Member → Checked Member
pseudo_remainder a b = pseudo_steps b (length a + 1 - length b) a

-- ---- contents
-- the common divisor so far, and then with each coefficient that is not 0, from the highest exponent down; the coefficients are those of the list and then those so far
abbrev pub divisor_with : InZ → InZ → Checked InZ
divisor_with g [] = Ok g
divisor_with g (c ∷ p) = poly.gcd element g (c ∷ p)

abbrev pub divisor_of_all : Member → InZ → Checked InZ
divisor_of_all [] g = Ok g
divisor_of_all (p ∷ m) g = and_then (divisor_of_all m g) (λ h. divisor_with h p)

-- the monic leading coefficient, and then the others from there down
unfoldable pub content : Member → Checked InZ
content m = and_then (poly.monic element (leading m)) (divisor_of_all (take (length m - 1) m))

-- m_0 quo c, m_1 quo c, .., exponents ascending, after those that are formed
abbrev pub quotients_onto : Member → Member → InZ → Checked Member
quotients_onto formed [] c = Ok formed
quotients_onto formed (p ∷ m) c = and_then (poly.quo element p c) (λ q. quotients_onto (formed ++ q ∷ []) m c)

-- m divided by its content
unfoldable pub primitive_part : Member → Checked Member
primitive_part m = and_then (content m) (λ c. and_then (quotients_onto [] m c) sized)

-- ---- the sequence
-- the member that follows a and b, where there is one
abbrev pub part_of : Member → Checked (Option Member)
part_of [] = Ok None
part_of (p ∷ r) = map_ok Some (primitive_part (p ∷ r))

abbrev pub following : ℕ → Member → Member → Checked (Option Member)
following least a b = if nat_le (length b) (least + 1) then Ok None else and_then (pseudo_remainder a b) part_of

-- the members so far, of which a and b are the last, and those that follow: until one has at most the least degree, or the pseudo-remainder is 0, which is no member
abbrev pub next_member : (Member → Checked (List Member)) → List Member → Member → Checked (List Member)
next_member more members [] = Ok members
next_member more members (p ∷ r) = and_then (primitive_part (p ∷ r)) more

abbrev pub remainders_from : ℕ → ℕ → List Member → Member → Member → Checked (List Member)
remainders_from least zero members a b = Ok members
remainders_from least (suc steps) members a b =
    if nat_le (length b) (least + 1) then Ok members else
    and_then (pseudo_remainder a b) (next_member (λ m. remainders_from least steps (members ++ m ∷ []) b m) members)

-- R_0 = d, R_1 = b, .. to the last member that is formed
unfoldable pub remainders : Member → Member → ℕ → Checked (List Member)
remainders d b least = remainders_from least (length b) (d ∷ b ∷ []) d b
