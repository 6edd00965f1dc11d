-- What ends a rule of the fields: an overflow of numbers, or a size. No rule tells want of memory.
use Rattle.std.specs.Prelude.{◌+◌, ◌-◌, ◌&&◌, ◌||◌, nat_le, nat_lt, if◌then◌else◌, slice_set, replicate}
use Rattle.std.proofs.Common.{ℕ, zero, suc, List, [], ◌∷◌, ◌++◌, length, Bool, true, false, Ok, Err}
use Rattle.risch_frac.specs.Fraction as fraction
use Rattle.risch_frac.specs.Fraction.{Fraction}
use Rattle.risch_field.specs.Checked.{Checked, and_then, map_ok}
use Rattle.risch_field.specs.Ops.{Ops}
use Rattle.risch_field.specs.Ground.{ground, overflowing}
use Rattle.risch_field.specs.declared.Fail.TheVariants.{Overflow, Size, Memory}
use Rattle.risch_polynomial.specs.Poly as poly
use Rattle.risch_level.specs.Levels.{field, Element, element}
use Rattle.risch_level.specs.Over as level
use Rattle.risch_level.specs.declared.over.Over.{Over}
use Rattle.risch_level.specs.declared.over.Over.TheVariants.{Below, Quotient}
use Rattle.risch_expression.specs.Evaluation.{constant, constant_term, by_inverse, divided, multiplied, power_of}

-- a value, or a stop that is an overflow or a size
abbrev pub IsLimited : {A : Type 0} → Checked A → Type 0
IsLimited (Ok a) = Unit {0}
IsLimited (Err (Overflow op)) = Unit {0}
IsLimited (Err Size) = Unit {0}
IsLimited (Err Memory) = ⊥

then-limited : {A B : Type 0} (rule : Checked A) (next : A → Checked B) → IsLimited rule → ((a : A) → IsLimited (next a)) → IsLimited (and_then rule next)
then-limited (Ok a) next l m = m a
then-limited (Err (Overflow op)) next l m = tt
then-limited (Err Size) next l m = tt
then-limited (Err Memory) next l m = l

made-limited : {A B : Type 0} (f : A → B) (rule : Checked A) → IsLimited rule → IsLimited (map_ok f rule)
made-limited f (Ok a) l = tt
made-limited f (Err (Overflow op)) l = tt
made-limited f (Err Size) l = tt
made-limited f (Err Memory) l = l

if-limited : {A : Type 0} (test : Bool) (one other : Checked A) → IsLimited one → IsLimited other → IsLimited (if test then one else other)
if-limited true one other l m = l
if-limited false one other l m = m

-- ---- fields
pub record AreLimited {E : Type 0} (o : Ops E) : Type 0 where
  pub sum : (a b : E) → IsLimited (o.sum a b)
  pub product : (a b : E) → IsLimited (o.product a b)
  pub quotient : (a b : E) → IsLimited (o.quotient a b)

overflow-limited : (rule : fraction.Checked Fraction) → IsLimited (overflowing rule)
overflow-limited (Ok q) = tt
overflow-limited (Err op) = tt

ground-limited : AreLimited ground
ground-limited = record {
  sum = λ p q. overflow-limited (fraction.sum p q);
  product = λ p q. overflow-limited (fraction.product p q);
  quotient = λ p q. if-limited (fraction.is_zero q) (Ok q) (overflowing (fraction.ratio p q)) tt (overflow-limited (fraction.ratio p q));
}

-- ---- polynomials over a field
module _ {E : Type 0} (o : Ops E) (l : AreLimited o) where
  sized-limited : (p : List E) → IsLimited (poly.sized o p)
  sized-limited p = if-limited (nat_le (length p) 256 && nat_le (poly.weight o p) 65536) (Ok p) (Err Size) tt tt

  trimmed-limited : (rule : Checked (List E)) → IsLimited rule → IsLimited (and_then rule (λ r. poly.sized o (poly.trimmed o r)))
  trimmed-limited rule m = then-limited rule (λ r. poly.sized o (poly.trimmed o r)) m (λ r. sized-limited (poly.trimmed o r))

  sum_onto-limited : (formed p q : List E) → IsLimited (poly.sum_onto o formed p q)
  sum_onto-limited formed [] q = tt
  sum_onto-limited formed (a ∷ p) [] = tt
  sum_onto-limited formed (a ∷ p) (b ∷ q) = then-limited (o.sum a b) (λ c. poly.sum_onto o (formed ++ c ∷ []) p q) (l.sum a b) (λ c. sum_onto-limited (formed ++ c ∷ []) p q)

  pub sum-limited : (p q : List E) → IsLimited (poly.sum o p q)
  unfolding poly.sum
  sum-limited p q = trimmed-limited (poly.sum_onto o [] p q) (sum_onto-limited [] p q)

  scaled_onto-limited : (formed : List E) (c : E) (p : List E) → IsLimited (poly.scaled_onto o formed c p)
  scaled_onto-limited formed c [] = tt
  scaled_onto-limited formed c (a ∷ p) = then-limited (o.product c a) (λ b. poly.scaled_onto o (formed ++ b ∷ []) c p) (l.product c a) (λ b. scaled_onto-limited (formed ++ b ∷ []) c p)

  pub scaled-limited : (c : E) (p : List E) → IsLimited (poly.scaled o c p)
  unfolding poly.scaled
  scaled-limited c p = trimmed-limited (poly.scaled_onto o [] c p) (scaled_onto-limited [] c p)

  row-limited : (minus : Bool) (formed : List E) (k : ℕ) (a : E) (q : List E) → IsLimited (poly.row o minus formed k a q)
  row-limited minus formed k a [] = tt
  row-limited minus formed k a (b ∷ q) =
      then-limited (o.product a b) _ (l.product a b) (λ c.
      then-limited (o.sum (poly.coefficient o formed k) (poly.signed o minus c)) (λ s. poly.row o minus (slice_set formed k s) (k + 1) a q) (l.sum (poly.coefficient o formed k) (poly.signed o minus c))
      (λ s. row-limited minus (slice_set formed k s) (k + 1) a q))

  rows-limited : (formed : List E) (k : ℕ) (p q : List E) → IsLimited (poly.rows o formed k p q)
  rows-limited formed k [] q = tt
  rows-limited formed k (a ∷ p) q =
      then-limited (if o.is_zero a then Ok formed else poly.row o false formed k a q) (λ r. poly.rows o r (k + 1) p q)
      (if-limited (o.is_zero a) (Ok formed) (poly.row o false formed k a q) tt (row-limited false formed k a q)) (λ r. rows-limited r (k + 1) p q)

  pub product-limited : (p q : List E) → IsLimited (poly.product o p q)
  unfolding poly.product
  product-limited p q =
      if-limited (poly.is_zero o p || poly.is_zero o q) (Ok []) _ tt
      (if-limited (nat_le (length p + length q) 257) _ (Err Size)
      (trimmed-limited (poly.rows o (replicate (length p + length q - 1) o.zero) 0 p q) (rows-limited (replicate (length p + length q - 1) o.zero) 0 p q)) tt)

  monic-limited : (p : List E) → IsLimited (poly.monic o p)
  unfolding poly.monic
  monic-limited p =
      if-limited (poly.is_zero o p) (Ok []) _ tt
      (then-limited (o.quotient o.one (poly.last o p)) _ (l.quotient o.one (poly.last o p)) (λ u.
      then-limited (poly.scaled_onto o [] u (poly.front o p)) _ (scaled_onto-limited [] u (poly.front o p)) (λ r. sized-limited (poly.trimmed o (r ++ o.one ∷ [])))))

  step-limited : (quotient r : List E) (u : E) (q : List E) → IsLimited (poly.step o quotient r u q)
  unfolding poly.step
  step-limited quotient r u q =
      then-limited (o.product (poly.last o r) u) _ (l.product (poly.last o r) u) (λ c.
      then-limited (poly.row o true (poly.front o r) (length r - length q) c (poly.front o q)) _ (row-limited true (poly.front o r) (length r - length q) c (poly.front o q)) (λ s. tt))

  divided-limited : (steps : ℕ) (quotient r : List E) (u : E) (q : List E) → IsLimited (poly.divided o steps quotient r u q)
  divided-limited zero quotient r u q = tt
  divided-limited (suc steps) quotient r u q =
      if-limited (nat_lt (length r) (length q)) (Ok (quotient, r)) _ tt
      (then-limited (poly.step o quotient r u q) (λ d. poly.divided o steps d.0 d.1 u q) (step-limited quotient r u q) (λ d. divided-limited steps d.0 d.1 u q))

  division-limited : (p q : List E) → IsLimited (poly.division o p q)
  unfolding poly.division
  division-limited p q =
      if-limited (poly.is_zero o q) (Ok ([], p)) _ tt
      (then-limited (o.quotient o.one (poly.last o q)) _ (l.quotient o.one (poly.last o q)) (λ u.
      then-limited (poly.divided o (length p) (replicate (length p + 1 - length q) o.zero) p u q) _ (divided-limited (length p) (replicate (length p + 1 - length q) o.zero) p u q) (λ d.
      then-limited (poly.sized o (poly.trimmed o d.0)) _ (sized-limited (poly.trimmed o d.0)) (λ quotient.
      then-limited (poly.sized o (poly.trimmed o d.1)) _ (sized-limited (poly.trimmed o d.1)) (λ remainder. tt)))))

  quo-limited : (p q : List E) → IsLimited (poly.quo o p q)
  unfolding poly.quo
  quo-limited p q = then-limited (poly.division o p q) (λ d. Ok d.0) (division-limited p q) (λ d. tt)

  remainder-limited : (a b : List E) → IsLimited (poly.monic_remainder o a b)
  unfolding poly.monic_remainder
  remainder-limited a b = then-limited (poly.division o a b) (λ d. poly.monic o d.1) (division-limited a b) (λ d. monic-limited d.1)

  remainders-limited : (steps : ℕ) (a b : List E) → IsLimited (poly.remainders o steps a b)
  remainders-limited zero a b = tt
  remainders-limited (suc steps) a b =
      if-limited (poly.is_zero o b) (Ok a) _ tt (then-limited (poly.monic_remainder o a b) (λ c. poly.remainders o steps b c) (remainder-limited a b) (λ c. remainders-limited steps b c))

  gcd-limited : (p q : List E) → IsLimited (poly.gcd o p q)
  unfolding poly.gcd
  gcd-limited p q =
      if-limited (poly.is_zero o q) (poly.monic o p) _ (monic-limited p)
      (if-limited (poly.is_zero o p) (poly.monic o q) _ (monic-limited q)
      (then-limited (poly.monic o p) _ (monic-limited p) (λ a.
      then-limited (poly.monic o q) _ (monic-limited q) (λ b.
      if-limited (poly.is_one o a || poly.is_one o b) (Ok (o.one ∷ [])) (poly.remainders o (length b + 1) a b) tt (remainders-limited (length b + 1) a b)))))

  -- ---- the level over a field
  ratio-limited : (n m : List E) → IsLimited (level.ratio o n m)
  ratio-limited n m = if-limited (nat_le (poly.weight o n + poly.weight o m) 65536) (Ok (Quotient (n, m))) (Err Size) tt tt

  element-limited : (n m : List E) → IsLimited (level.element o n m)
  unfolding level.element
  element-limited n m = if-limited (poly.is_one o m && nat_le (length n) 1) (Ok (Below (poly.coefficient o n 0))) (level.ratio o n m) tt (ratio-limited n m)

  lowest-limited : (g n m : List E) → IsLimited (level.divided o g n m)
  unfolding level.divided
  lowest-limited g n m =
      if-limited (poly.is_one o g) (Ok (n, m)) _ tt
      (then-limited (poly.quo o n g) _ (quo-limited n g) (λ n'. then-limited (poly.quo o m g) _ (quo-limited m g) (λ m'. tt)))

  monic_ratio-limited : (n m : List E) → IsLimited (level.scaled o n m)
  unfolding level.scaled
  monic_ratio-limited n m =
      if-limited (o.is_one (poly.last o m)) (Ok (n, m)) _ tt
      (then-limited (o.quotient o.one (poly.last o m)) _ (l.quotient o.one (poly.last o m)) (λ u.
      then-limited (poly.scaled o u n) _ (scaled-limited u n) (λ n'. then-limited (poly.scaled o u m) _ (scaled-limited u m) (λ m'. tt))))

  normal_form-limited : (n m : List E) → IsLimited (level.normal_form o n m)
  unfolding level.normal_form
  normal_form-limited n m =
      if-limited (poly.is_zero o n) (Ok (Below o.zero)) _ tt
      (if-limited (poly.is_one o m) (level.element o n m) _ (element-limited n m)
      (then-limited (poly.gcd o n m) _ (gcd-limited n m) (λ g.
      then-limited (level.divided o g n m) _ (lowest-limited g n m) (λ d.
      then-limited (level.scaled o d.0 d.1) _ (monic_ratio-limited d.0 d.1) (λ s. element-limited s.0 s.1)))))

  quotient_sum-limited : (n m n' m' : List E) → IsLimited (level.quotient_sum o n m n' m')
  unfolding level.quotient_sum
  quotient_sum-limited n m n' m' =
      if-limited (poly.same o m m') (and_then (poly.sum o n n') (λ s. level.normal_form o s m)) _ (then-limited (poly.sum o n n') _ (sum-limited n n') (λ s. normal_form-limited s m))
      (if-limited (poly.is_one o m') (and_then (poly.product o n' m) (λ a. and_then (poly.sum o n a) (λ s. level.element o s m))) _
      (then-limited (poly.product o n' m) _ (product-limited n' m) (λ a. then-limited (poly.sum o n a) _ (sum-limited n a) (λ s. element-limited s m)))
      (if-limited (poly.is_one o m) (and_then (poly.product o n m') (λ a. and_then (poly.sum o a n') (λ s. level.element o s m'))) _
      (then-limited (poly.product o n m') _ (product-limited n m') (λ a. then-limited (poly.sum o a n') _ (sum-limited a n') (λ s. element-limited s m')))
      (then-limited (poly.product o n m') _ (product-limited n m') (λ a.
      then-limited (poly.product o n' m) _ (product-limited n' m) (λ b.
      then-limited (poly.sum o a b) _ (sum-limited a b) (λ s.
      then-limited (poly.product o m m') _ (product-limited m m') (λ d. normal_form-limited s d)))))))

  sum_with-limited : (left : Bool) (a : E) (e : Over E) (n m : List E) → IsLimited (level.sum_with o left a e n m)
  unfolding level.sum_with
  sum_with-limited left a e n m =
      if-limited (o.is_zero a) (Ok e) _ tt
      (if-limited left (level.quotient_sum o (a ∷ []) (o.one ∷ []) n m) (level.quotient_sum o n m (a ∷ []) (o.one ∷ [])) (quotient_sum-limited (a ∷ []) (o.one ∷ []) n m)
      (quotient_sum-limited n m (a ∷ []) (o.one ∷ [])))

  over_sum-limited : (a b : Over E) → IsLimited (level.sum o a b)
  over_sum-limited (Below a) (Below b) = made-limited Below (o.sum a b) (l.sum a b)
  over_sum-limited (Below a) (Quotient s) = sum_with-limited true a (Quotient s) s.0 s.1
  over_sum-limited (Quotient r) (Below b) = sum_with-limited false b (Quotient r) r.0 r.1
  over_sum-limited (Quotient r) (Quotient s) = quotient_sum-limited r.0 r.1 s.0 s.1

  scaled_product-limited : (c : E) (e : Over E) (n m : List E) → IsLimited (level.scaled_product o c e n m)
  unfolding level.scaled_product
  scaled_product-limited c e n m =
      if-limited (o.is_zero c) (Ok (Below c)) _ tt
      (if-limited (o.is_one c) (Ok e) _ tt (then-limited (poly.scaled o c n) _ (scaled-limited c n) (λ n'. element-limited n' m)))

  quotient_product-limited : (n m n' m' : List E) → IsLimited (level.quotient_product o n m n' m')
  unfolding level.quotient_product
  quotient_product-limited n m n' m' =
      then-limited (poly.product o n n') _ (product-limited n n') (λ a.
      if-limited (poly.is_one o m && poly.is_one o m') (level.normal_form o a m) _ (normal_form-limited a m)
      (then-limited (poly.product o m m') _ (product-limited m m') (λ b. normal_form-limited a b)))

  over_product-limited : (a b : Over E) → IsLimited (level.product o a b)
  over_product-limited (Below a) (Below b) = made-limited Below (o.product a b) (l.product a b)
  over_product-limited (Below a) (Quotient s) = scaled_product-limited a (Quotient s) s.0 s.1
  over_product-limited (Quotient r) (Below b) = scaled_product-limited b (Quotient r) r.0 r.1
  over_product-limited (Quotient r) (Quotient s) = quotient_product-limited r.0 r.1 s.0 s.1

  inverse_ratio-limited : (n m : List E) → IsLimited (level.inverse_ratio o n m)
  unfolding level.inverse_ratio
  inverse_ratio-limited n m =
      if-limited (poly.is_zero o n) (Ok (Below o.zero)) _ tt
      (then-limited (o.quotient o.one (poly.last o n)) _ (l.quotient o.one (poly.last o n)) (λ u.
      then-limited (poly.scaled o u m) _ (scaled-limited u m) (λ n'.
      then-limited (poly.monic o n) _ (monic-limited n) (λ m'. element-limited n' m'))))

  inverse-limited : (e : Over E) → IsLimited (level.inverse o e)
  inverse-limited (Below e) = made-limited Below (o.quotient o.one e) (l.quotient o.one e)
  inverse-limited (Quotient r) = inverse_ratio-limited r.0 r.1

  inverse_product-limited : (e f : Over E) → IsLimited (level.inverse_product o e f)
  unfolding level.inverse_product
  inverse_product-limited e f = then-limited (level.inverse o f) (λ g. level.product o e g) (inverse-limited f) (λ g. over_product-limited e g)

  over_quotient-limited : (a b : Over E) → IsLimited (level.quotient o a b)
  over_quotient-limited (Below a) (Below b) = made-limited Below (o.quotient a b) (l.quotient a b)
  over_quotient-limited (Below a) (Quotient s) = inverse_product-limited (Below a) (Quotient s)
  over_quotient-limited (Quotient r) f = inverse_product-limited (Quotient r) f

  over-limited : AreLimited (level.over o)
  over-limited = record { sum = over_sum-limited; product = over_product-limited; quotient = over_quotient-limited }

-- ---- the elements of the tower
field-limited : (height : ℕ) → AreLimited (field height)
field-limited zero = ground-limited
field-limited (suc height) = over-limited (field height) (field-limited height)

pub element_limited : AreLimited element
unfolding element
element_limited = field-limited 5

-- ---- polynomials in z over the elements
pub divided-by-limited : (p : List Element) (c : Element) → IsLimited (divided p c)
unfolding divided
divided-by-limited p c =
    if-limited (nat_le (length p) 1) (map_ok constant (element.quotient (constant_term p) c)) (by_inverse p c)
    (made-limited constant (element.quotient (constant_term p) c) (element_limited.quotient (constant_term p) c))
    (then-limited (element.quotient element.one c) (λ u. poly.scaled element u p) (element_limited.quotient element.one c) (λ u. scaled-limited element element_limited u p))

multiplied-limited : (formed p : List Element) (n : ℕ) → IsLimited (multiplied formed p n)
multiplied-limited formed p zero = tt
multiplied-limited formed p (suc n) =
    then-limited (poly.product element formed p) (λ q. multiplied q p n) (product-limited element element_limited formed p) (λ q. multiplied-limited q p n)

pub power-limited : (p : List Element) (n : ℕ) → IsLimited (power_of p n)
unfolding power_of
power-limited p zero = tt
power-limited p (suc n) = multiplied-limited p p n
