-- The elements of the level over a field: the rules of their sum, product and quotient.
use Rattle.std.specs.Prelude.{ℕ, ◌+◌, Bool, true, false, ◌&&◌, nat_le, if◌then◌else◌, List, [], ◌∷◌, length, Ok, Err}
use Rattle.risch_field.specs.Checked.{Checked, and_then, map_ok}
use Rattle.risch_field.specs.Ops.{Ops}
use Rattle.risch_polynomial.specs.Poly as poly
use Rattle.risch_field.specs.declared.Fail.TheVariants.{Size}
use Rattle.risch_level.specs.declared.over.Over.{Over}
use Rattle.risch_level.specs.declared.over.Over.TheVariants.{Below, Quotient}

module _ {E : Type 0} (o : Ops E) where
  -- numerator and denominator: an element e of a level below counts as e and 1
  abbrev pub numerator : Over E → List E
  numerator (Below e) = if o.is_zero e then [] else e ∷ []
  numerator (Quotient r) = r.0

  abbrev pub denominator : Over E → List E
  denominator (Below e) = o.one ∷ []
  denominator (Quotient r) = r.1

  -- whether e = 0
  abbrev pub is_zero : Over E → Bool
  is_zero (Below e) = o.is_zero e
  is_zero (Quotient r) = false

  -- whether e = 1
  abbrev pub is_one : Over E → Bool
  is_one (Below e) = o.is_one e
  is_one (Quotient r) = false

  -- whether both are of a level below and the same there, or have the same numerator and denominator
  abbrev pub same : Over E → Over E → Bool
  same (Below a) (Below b) = o.same a b
  same (Below a) (Quotient s) = false
  same (Quotient r) (Below b) = false
  same (Quotient r) (Quotient s) = poly.same o r.0 s.0 && poly.same o r.1 s.1

  -- the weight of n/m is the sum of those of n and m
  abbrev pub weight : Over E → ℕ
  weight (Below e) = o.weight e
  weight (Quotient r) = poly.weight o r.0 + poly.weight o r.1

  -- -(n/m) = (-n)/m
  abbrev pub negative : Over E → Over E
  negative (Below e) = Below (o.negative e)
  negative (Quotient r) = Quotient (poly.negatives o r.0, r.1)

  -- an element that is formed has weight at most 65536
  abbrev pub ratio : List E → List E → Checked (Over E)
  ratio n m = if nat_le (poly.weight o n + poly.weight o m) 65536 then Ok (Quotient (n, m)) else Err Size

  -- the element of coprime n and monic m: one of a level below, where m is 1 and n constant
  unfoldable pub element : List E → List E → Checked (Over E)
  element n m = if poly.is_one o m && nat_le (length n) 1 then Ok (Below (poly.coefficient o n 0)) else ratio n m

  -- n and m divided by their common divisor g, unless it is 1
  unfoldable pub divided : List E → List E → List E → Checked (List E × List E)
  divided g n m =
      if poly.is_one o g then Ok (n, m) else
      and_then (poly.quo o n g) (λ n'. and_then (poly.quo o m g) (λ m'. Ok (n', m')))

  -- both scaled so that the denominator is monic
  unfoldable pub scaled : List E → List E → Checked (List E × List E)
  scaled n m =
      if o.is_one (poly.last o m) then Ok (n, m) else
      and_then (o.quotient o.one (poly.last o m)) (λ u.
      and_then (poly.scaled o u n) (λ n'. and_then (poly.scaled o u m) (λ m'. Ok (n', m'))))

  -- n/m for coprime n and m, with a monic denominator
  abbrev pub scaled_element : List E → List E → Checked (Over E)
  scaled_element n m = and_then (scaled n m) (λ s. element s.0 s.1)

  -- n/m without the common divisor of n and m, with a monic denominator
  abbrev pub lowest_terms : List E → List E → Checked (Over E)
  lowest_terms n m = and_then (poly.gcd o n m) (λ g. and_then (divided g n m) (λ d. scaled_element d.0 d.1))

  -- the normal form of (n, m) for m other than 0
  unfoldable pub normal_form : List E → List E → Checked (Over E)
  normal_form n m =
      if poly.is_zero o n then Ok (Below o.zero) else
      if poly.is_one o m then element n m else
      lowest_terms n m

  -- the normal form of (n + n')/m
  abbrev pub sum_over : List E → List E → List E → Checked (Over E)
  sum_over n n' m = and_then (poly.sum o n n') (λ s. normal_form s m)

  -- (n + n'·m)/m
  abbrev pub sum_with_polynomial : List E → List E → List E → Checked (Over E)
  sum_with_polynomial n m n' = and_then (poly.product o n' m) (λ a. and_then (poly.sum o n a) (λ s. element s m))

  -- (n·m' + n')/m'
  abbrev pub polynomial_with_sum : List E → List E → List E → Checked (Over E)
  polynomial_with_sum n n' m' = and_then (poly.product o n m') (λ a. and_then (poly.sum o a n') (λ s. element s m'))

  -- the normal form of (n·m' + n'·m)/(m·m')
  abbrev pub sum_over_product : List E → List E → List E → List E → Checked (Over E)
  sum_over_product n m n' m' =
      and_then (poly.product o n m') (λ a.
      and_then (poly.product o n' m) (λ b.
      and_then (poly.sum o a b) (λ s.
      and_then (poly.product o m m') (λ d.
      normal_form s d))))

  -- the sum of n/m and n'/m'
  unfoldable pub quotient_sum : List E → List E → List E → List E → Checked (Over E)
  quotient_sum n m n' m' =
      if poly.same o m m' then sum_over n n' m else
      if poly.is_one o m' then sum_with_polynomial n m n' else
      if poly.is_one o m then polynomial_with_sum n n' m' else
      sum_over_product n m n' m'

  -- the sum with an element of a level below, on the left or on the right; a sum with 0 forms nothing
  unfoldable pub sum_with : Bool → E → Over E → List E → List E → Checked (Over E)
  sum_with left a e n m =
      if o.is_zero a then Ok e else
      if left then quotient_sum (a ∷ []) (o.one ∷ []) n m else quotient_sum n m (a ∷ []) (o.one ∷ [])

  -- a + b
  abbrev pub sum : Over E → Over E → Checked (Over E)
  sum (Below a) (Below b) = map_ok Below (o.sum a b)
  sum (Below a) (Quotient s) = sum_with true a (Quotient s) s.0 s.1
  sum (Quotient r) (Below b) = sum_with false b (Quotient r) r.0 r.1
  sum (Quotient r) (Quotient s) = quotient_sum r.0 r.1 s.0 s.1

  -- one factor below the level: the numerator is scaled; a product with 0 or 1 forms nothing
  unfoldable pub scaled_product : E → Over E → List E → List E → Checked (Over E)
  scaled_product c e n m =
      if o.is_zero c then Ok (Below c) else
      if o.is_one c then Ok e else
      and_then (poly.scaled o c n) (λ n'. element n' m)

  -- the product of n/m and n'/m'
  unfoldable pub quotient_product : List E → List E → List E → List E → Checked (Over E)
  quotient_product n m n' m' =
      and_then (poly.product o n n') (λ a.
      if poly.is_one o m && poly.is_one o m' then normal_form a m else
      and_then (poly.product o m m') (λ b. normal_form a b))

  -- a·b
  abbrev pub product : Over E → Over E → Checked (Over E)
  product (Below a) (Below b) = map_ok Below (o.product a b)
  product (Below a) (Quotient s) = scaled_product a (Quotient s) s.0 s.1
  product (Quotient r) (Below b) = scaled_product b (Quotient r) r.0 r.1
  product (Quotient r) (Quotient s) = quotient_product r.0 r.1 s.0 s.1

  -- m/n for n other than 0
  unfoldable pub inverse_ratio : List E → List E → Checked (Over E)
  inverse_ratio n m =
      if poly.is_zero o n then Ok (Below o.zero) else
      and_then (o.quotient o.one (poly.last o n)) (λ u.
      and_then (poly.scaled o u m) (λ n'.
      and_then (poly.monic o n) (λ m'. element n' m')))

  -- 1/e for e other than 0
  abbrev pub inverse : Over E → Checked (Over E)
  inverse (Below e) = map_ok Below (o.quotient o.one e)
  inverse (Quotient r) = inverse_ratio r.0 r.1

  -- e·(1/f)
  unfoldable pub inverse_product : Over E → Over E → Checked (Over E)
  inverse_product e f = and_then (inverse f) (λ g. product e g)

  -- a/b for b other than 0
  abbrev pub quotient : Over E → Over E → Checked (Over E)
  quotient (Below a) (Below b) = map_ok Below (o.quotient a b)
  quotient (Below a) (Quotient s) = inverse_product (Below a) (Quotient s)
  quotient (Quotient r) f = inverse_product (Quotient r) f

  -- the field of the level over E
  abbrev pub over : Ops (Over E)
  over = record {
    zero = Below o.zero;
    one = Below o.one;
    whole = λ n. Below (o.whole n);
    is_zero = is_zero;
    is_one = is_one;
    same = same;
    weight = weight;
    negative = negative;
    sum = sum;
    product = product;
    quotient = quotient;
  }
