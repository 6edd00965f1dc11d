-- Sums of terms c·(monomial), as lists in any order and with any repetitions: their coefficients, normal form, product and partial derivatives.
use Rattle.std.specs.Prelude.{Bool, true, false, cond, not, ◌&&◌, eqb, List, [], ◌∷◌, ◌++◌, ℤ, pos, negsuc, ◌+ℤ◌, ℕ, ◌*ℤ◌}
use Rattle.std.specs.Ordering.{is_lt, is_eq}
use Rattle.std.specs.FinMap.Entries.{by_order}
use Rattle.risch_mean.specs.Exponents
use Rattle.risch_mean.specs.Exponents.{Exponents, compare}

-- exponents and coefficient
abbrev pub Term : Type 0
Term = Exponents × ℤ

-- the sum of φ over the terms
unfoldable pub total : (Exponents → ℤ → ℤ) → List Term → ℤ
total φ [] = pos 0
total φ (t ∷ r) = φ t.0 t.1 +ℤ total φ r

-- the part of the term c·(monomial f) at the exponents e
unfoldable pub at : Exponents → Exponents → ℤ → ℤ
at e f c = cond (is_eq (compare e f)) c (pos 0)

-- the coefficient of the exponents e
unfoldable pub coefficient : List Term → Exponents → ℤ
coefficient r e = total (at e) r

-- ---- the normal form: exponents that rise, and no coefficient 0
-- whether c = 0
abbrev pub is_zero : ℤ → Bool
is_zero (pos n) = eqb n 0
is_zero (negsuc n) = false

-- whether e goes before the exponents of each term
abbrev pub below_all : Exponents → List Term → Bool
below_all e [] = true
below_all e (t ∷ r) = is_lt (compare e t.0) && below_all e r

-- whether the exponents rise and no coefficient is 0
abbrev pub is_normal : List Term → Bool
is_normal [] = true
is_normal (t ∷ r) = not (is_zero t.1) && (below_all t.0 r && is_normal r)

-- the term c·(monomial e) before the terms r, left out where c is 0
abbrev pub keep : Exponents → ℤ → List Term → List Term
keep e c r = cond (is_zero c) r ((e, c) ∷ r)

-- the normal list r with c more at the exponents e
abbrev pub place : Exponents → ℤ → List Term → List Term
place e c [] = keep e c []
place e c (t ∷ r) = by_order (compare e t.0) (keep e c (t ∷ r)) (keep e (c +ℤ t.1) r) (t ∷ place e c r)

-- the normal list with the same coefficients
abbrev pub normal_form : List Term → List Term
normal_form [] = []
normal_form (t ∷ r) = place t.0 t.1 (normal_form r)

-- ---- products and partial derivatives
-- the products of one term with each term of a list
abbrev pub times : Term → List Term → List Term
times t [] = []
times t (u ∷ s) = (Exponents.add t.0 u.0, t.1 *ℤ u.1) ∷ times t s

-- the products of each term with each term
abbrev pub product : List Term → List Term → List Term
product [] s = []
product (t ∷ r) s = times t s ++ product r s

-- the partial derivative of each term by variable i: its exponent e comes before the coefficient and falls by 1
abbrev pub derivative : ℕ → List Term → List Term
derivative i [] = []
derivative i (t ∷ r) = (Exponents.lower i t.0, pos (Exponents.exponent i t.0) *ℤ t.1) ∷ derivative i r
