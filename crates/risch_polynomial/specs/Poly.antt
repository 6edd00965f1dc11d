-- Polynomials in one variable over the elements of a field, as the list of their coefficients from exponent 0.
use Rattle.std.specs.Prelude.{map, ℕ, zero, suc, ◌+◌, ◌-◌, Bool, true, false, ◌&&◌, ◌||◌, nat_le, nat_lt, if◌then◌else◌, List, [], ◌∷◌, ◌++◌, length, take, drop, slice_index_or, slice_set, replicate, sum_by, Option, None, Some, Ok, Err}
use Rattle.risch_field.specs.Checked.{Checked, and_then}
use Rattle.risch_field.specs.Ops.{Ops}
use Rattle.risch_field.specs.declared.Fail.TheVariants.{Size}

module _ {E : Type 0} (o : Ops E) where
  -- c, and the coefficients after it, where none of them is 0 at the end
  abbrev pub leading : E → List E → List E
  leading c [] = if o.is_zero c then [] else c ∷ []
  leading c (d ∷ ds) = c ∷ d ∷ ds

  -- the polynomial with these coefficients: those at the end that are 0 are dropped
  abbrev pub trimmed : List E → List E
  trimmed [] = []
  trimmed (c ∷ cs) = leading c (trimmed cs)

  -- whether the last coefficient is 0
  abbrev pub ends_in_zero : List E → Bool
  ends_in_zero [] = false
  ends_in_zero (c ∷ []) = o.is_zero c
  ends_in_zero (c ∷ (d ∷ ds)) = ends_in_zero (d ∷ ds)

  -- the weight of a coefficient, which counts where it is not 0
  abbrev pub weight_in : E → ℕ
  weight_in c = if o.is_zero c then 0 else o.weight c

  -- the sum of the weights of the coefficients other than 0
  abbrev pub weight : List E → ℕ
  weight p = sum_by weight_in p

  -- a polynomial that is formed has degree at most 255 and weight at most 65536
  abbrev pub sized : List E → Checked (List E)
  sized p = if nat_le (length p) 256 && nat_le (weight p) 65536 then Ok p else Err Size

  -- the sums of the coefficients, exponents ascending, after those that are formed
  abbrev pub sum_onto : List E → List E → List E → Checked (List E)
  sum_onto formed [] q = Ok (formed ++ q)
  sum_onto formed (a ∷ p) [] = Ok (formed ++ a ∷ p)
  sum_onto formed (a ∷ p) (b ∷ q) = and_then (o.sum a b) (λ c. sum_onto (formed ++ c ∷ []) p q)

  -- p + q
  unfoldable pub sum : List E → List E → Checked (List E)
  sum p q = and_then (sum_onto [] p q) (λ r. sized (trimmed r))

  -- c times each coefficient, exponents ascending, after those that are formed
  abbrev pub scaled_onto : List E → E → List E → Checked (List E)
  scaled_onto formed c [] = Ok formed
  scaled_onto formed c (a ∷ p) = and_then (o.product c a) (λ b. scaled_onto (formed ++ b ∷ []) c p)

  -- c·p
  unfoldable pub scaled : E → List E → Checked (List E)
  scaled c p = and_then (scaled_onto [] c p) (λ r. sized (trimmed r))

  -- whether the polynomial is 0
  abbrev pub is_zero : List E → Bool
  is_zero [] = true
  is_zero (c ∷ p) = false

  -- whether the polynomial is 1
  abbrev pub is_one : List E → Bool
  is_one [] = false
  is_one (c ∷ []) = o.is_one c
  is_one (c ∷ (d ∷ p)) = false

  -- whether the coefficients are the same, one by one
  abbrev pub same : List E → List E → Bool
  same [] [] = true
  same [] (b ∷ q) = false
  same (a ∷ p) [] = false
  same (a ∷ p) (b ∷ q) = o.same a b && same p q

  -- the coefficient at an exponent
  abbrev pub coefficient : List E → ℕ → E
  coefficient p k = slice_index_or p k o.zero

  -- the degree; the zero polynomial has none
  abbrev pub degree : List E → Option ℕ
  degree [] = None
  degree (c ∷ p) = Some (length p)

  -- the coefficient where it is there and not 0
  abbrev pub nonzero : Option E → Option E
  nonzero None = None
  nonzero (Some c) = if o.is_zero c then None else Some c

  -- the leading coefficient of a polynomial other than 0, and the coefficients below it
  abbrev pub last : List E → E
  last p = coefficient p (length p - 1)

  abbrev pub front : List E → List E
  front p = take (length p - 1) p

  -- the negative forms nothing
  abbrev pub negatives : List E → List E
  negatives p = map o.negative p

  -- c, or its negative
  abbrev pub signed : Bool → E → E
  signed minus c = if minus then o.negative c else c

  -- to the coefficients from exponent k on, a times those of q, or their negatives, exponents ascending
  abbrev pub row : Bool → List E → ℕ → E → List E → Checked (List E)
  row minus formed k a [] = Ok formed
  row minus formed k a (b ∷ q) =
      and_then (o.product a b) (λ c.
      and_then (o.sum (coefficient formed k) (signed minus c)) (λ s.
      row minus (slice_set formed k s) (k + 1) a q))

  -- the rows of a product, from exponent k on; a coefficient that is 0 is passed over
  abbrev pub rows : List E → ℕ → List E → List E → Checked (List E)
  rows formed k [] q = Ok formed
  rows formed k (a ∷ p) q =
      and_then (if o.is_zero a then Ok formed else row false formed k a q) (λ r. rows r (k + 1) p q)

  -- the degree of a product is tested first
  unfoldable pub product : List E → List E → Checked (List E)
  product p q =
      if is_zero p || is_zero q then Ok [] else
      if nat_le (length p + length q) 257 then
      and_then (rows (replicate (length p + length q - 1) o.zero) 0 p q) (λ r. sized (trimmed r))
      else Err Size

  -- n·c; where c is 0 nothing is formed
  abbrev pub multiple : ℕ → E → Checked E
  multiple n c = if o.is_zero c then Ok o.zero else o.product (o.whole n) c

  -- n·c_0, (n + 1)·c_1, .., exponents ascending, after those that are formed
  abbrev pub multiples_onto : List E → ℕ → List E → Checked (List E)
  multiples_onto formed n [] = Ok formed
  multiples_onto formed n (c ∷ p) = and_then (multiple n c) (λ d. multiples_onto (formed ++ d ∷ []) (n + 1) p)

  -- the derivative by the variable itself, which has (j + 1)·p_(j + 1) at exponent j
  unfoldable pub partial : List E → Checked (List E)
  partial p = and_then (multiples_onto [] 1 (drop 1 p)) (λ r. sized (trimmed r))

  -- c·t^e
  unfoldable pub monomial : E → ℕ → Checked (List E)
  monomial c e =
      if o.is_zero c then Ok [] else
      if nat_le e 255 then sized (trimmed (replicate e o.zero ++ c ∷ [])) else Err Size

  -- p scaled by the inverse u of its leading coefficient, which becomes 1 unformed
  unfoldable pub monic : List E → Checked (List E)
  monic p =
      if is_zero p then Ok [] else
      and_then (o.quotient o.one (last p)) (λ u.
      and_then (scaled_onto [] u (front p)) (λ r.
      sized (trimmed (r ++ o.one ∷ []))))

  -- one step of a division by q, whose leading coefficient has the inverse u, from the quotient so far and what is left
  unfoldable pub step : List E → List E → E → List E → Checked (List E × List E)
  step quotient r u q =
      let k = length r - length q in
      and_then (o.product (last r) u) (λ c.
      and_then (row true (front r) k c (front q)) (λ s.
      Ok (slice_set quotient k c, trimmed s)))

  -- at most `steps` steps
  abbrev pub divided : ℕ → List E → List E → E → List E → Checked (List E × List E)
  divided zero quotient r u q = Ok (quotient, r)
  divided (suc steps) quotient r u q =
      if nat_lt (length r) (length q) then Ok (quotient, r) else
      and_then (step quotient r u q) (λ d. divided steps d.0 d.1 u q)

  -- quotient and remainder of the division of p by q. No rule divides by 0; what stands there only makes the definition whole
  unfoldable pub division : List E → List E → Checked (List E × List E)
  division p q =
      if is_zero q then Ok ([], p) else
      and_then (o.quotient o.one (last q)) (λ u.
      and_then (divided (length p) (replicate (length p + 1 - length q) o.zero) p u q) (λ d.
      and_then (sized (trimmed d.0)) (λ quotient.
      and_then (sized (trimmed d.1)) (λ remainder.
      Ok (quotient, remainder)))))

  -- the quotient alone
  unfoldable pub quo : List E → List E → Checked (List E)
  quo p q = and_then (division p q) (λ d. Ok d.0)

  -- the remainder, made monic
  unfoldable pub monic_remainder : List E → List E → Checked (List E)
  monic_remainder a b = and_then (division a b) (λ d. monic d.1)

  -- at most `steps` remainders
  abbrev pub remainders : ℕ → List E → List E → Checked (List E)
  remainders zero a b = Ok a
  remainders (suc steps) a b =
      if is_zero b then Ok a else and_then (monic_remainder a b) (λ c. remainders steps b c)

  -- the common divisor of p and q, not both 0
  unfoldable pub gcd : List E → List E → Checked (List E)
  gcd p q =
      if is_zero q then monic p else
      if is_zero p then monic q else
      and_then (monic p) (λ a.
      and_then (monic q) (λ b.
      if is_one a || is_one b then Ok (o.one ∷ []) else remainders (length b + 1) a b))
