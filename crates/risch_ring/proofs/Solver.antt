-- The solver for identities in commutative rings.
--
--   square : (x y : A) → R.mul (R.add x y) (R.add x y) ≡ ..
--   square x y = ring R (x ∷ y ∷ []) (search reading depth 40 fits 9000) refl
--
-- The list has the atoms, at most twenty terms that are taken as variables. `search` reads the goal as an expression in them, and `refl` says that the
-- difference of the two sides has no terms. At ℤ it is `ring ints (..) (search reading_ints ..) refl`, where + is `◌+ℤ◌` and a numeral `pos 2`.
use Rattle.std.specs.Prelude.{◌≡◌, refl, ℕ, zero, suc, ltb, eqb, Bool, true, false, ℤ, pos, List, [], ◌∷◌, ◌<◌, ◌/◌, ◌%◌}
use Rattle.std.proofs.Common.{sym, ap, ◌∙◌, ltb→lt, T}
use Rattle.risch_ring.specs.CommRing.{CommRing, sub}
use Rattle.risch_ring.proofs.Laws as Laws
use Rattle.risch_ring.proofs.Expression.{Expression, plus, negative, Reading, value}
use Rattle.risch_ring.proofs.NormalForm.{Terms, none, term, normal, degree}
use Rattle.risch_ring.proofs.Soundness as Soundness

-- a term of a normal form, with the exponents of the variables in their order, as an error shows it
pub record Shown : Type 0 where
  pub coefficient : ℤ
  pub exponents : List ℕ

abbrev pub digits : ℕ → ℕ → List ℕ
digits zero m = []
digits (suc n) m = elim (eqb m 0) [ true ↦ [] | false ↦ (m % 256) ∷ digits n (m / 256) ]

abbrev pub shown : Terms → List Shown
shown none = []
shown (term c m p) = record { coefficient = c; exponents = digits 64 m } ∷ shown p

-- the terms of the normal form, or 1 where the degree is too large for there to be one
abbrev pub remainder : Expression → List Shown
remainder e = elim (ltb (degree e) 256) [ true ↦ shown (normal e) | false ↦ record { coefficient = pos 1; exponents = [] } ∷ [] ]

shown-none : (p : Terms) → shown p ≡ [] → p ≡ none
shown-none none e = refl
shown-none (term c m p) e = cc

module _ {A : Type 0} (R : CommRing A) (xs : List A) where
  pub remainder-zero : (e : Expression) → remainder e ≡ [] → value R xs e ≡ R.zero
  remainder-zero e = split (ltb (degree e) 256) (λ t. ltb→lt (degree e) 256 t)
    where
      split : (b : Bool) → (T b → degree e < 256) → elim b as (λ w. List Shown) [ true ↦ shown (normal e) | false ↦ record { coefficient = pos 1; exponents = [] } ∷ [] ] ≡ [] → value R xs e ≡ R.zero
      split true f h = sym (Soundness.normal-both R xs e (f tt)).0 ∙ ap (Soundness.total R xs) (shown-none (normal e) h)
      split false f h = cc

  -- x ≡ y, where x - y, read as an expression in the variables xs, has no terms
  pub ring : {x y : A} → (difference : Reading R xs (sub R x y)) → remainder difference.expression ≡ [] → x ≡ y
  ring {x} {y} difference e = Laws.eq_of_sub R x y (sym difference.is ∙ remainder-zero difference.expression e)

  -- the same for expressions that are written out, where there is no search and so no limit on the size
  pub ring_expressions : (a b : Expression) → remainder (plus a (negative b)) ≡ [] → value R xs a ≡ value R xs b
  ring_expressions a b e = Laws.eq_of_sub R (value R xs a) (value R xs b) (remainder-zero (plus a (negative b)) e)

module _ {A : Type 0} (R : CommRing A) where
  -- x ≡ y from l ≡ r, where x - y = c·(l - r). For several equations the calls are nested, and the innermost premise is proved by `ring`:
  -- `linear R c h (linear R d k (ring R xs (search reading) refl))`, where x - y = c·(l - r) + d·(m - s)
  pub linear : {x y l r : A} (c : A) → l ≡ r → R.add x (R.mul c r) ≡ R.add y (R.mul c l) → x ≡ y
  linear {x} {y} {l} {r} c h e = Laws.add_right_cancel R x y (R.mul c r) (e ∙ ap (λ w. R.add y (R.mul c w)) h)
