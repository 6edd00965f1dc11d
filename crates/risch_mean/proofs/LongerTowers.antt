-- A tower with one monomial more: it derives the elements of the tower as the tower does, and has the same levels below the new one.
--     derive_in-longer      the derivation of an element of the tower stays
--     longer_is_tower      it is a tower
--     kind-kept, kind-added      the kinds of its levels
use Rattle.std.specs.Prelude.{◌≡◌, refl, ℕ, zero as nat_zero, suc, ◌+◌, ◌<◌, ◌≤◌, [], ◌∷◌, ◌++◌, length}
use Rattle.std.proofs.Common.{sym, ap, ◌∙◌, subst, arith, length-append}
use native.Mathlib.Decide.{dec_lt}
use Rattle.risch_mean.specs.Element.{Element, one, ◌/ₑ◌, InField}
use Rattle.risch_mean.specs.Derivation.{derive}
use Rattle.risch_mean.specs.Tower.{Tower, Monomial, log, exp, argument, primitive, exponential, derivatives, derive_in, ArgumentAllowed, ArgumentsBelow, IsTower, InTower, kind_at, kind_by, kind_of}
use Rattle.risch_mean.proofs.Levels.{derivatives_extend, derivatives_from-append, length-derivatives_from, derive_prefix}
use Rattle.risch_mean.proofs.FieldClosure.{InField_more}
use Rattle.risch_mean.proofs.LevelKinds.{kind_at_past}

pub derive_in-longer : (tower ms : Tower) (f : Element) → InTower tower f → derive_in (tower ++ ms) f ≡ derive_in tower f
derive_in-longer tower ms f h =
    let longer = derivatives_extend (derivatives tower) ms in
    ap (λ vs. derive vs f) (derivatives_from-append (one ∷ []) tower ms ∙ longer.1)
    ∙ derive_prefix (suc (length tower)) (derivatives tower) longer.0 f (omega (arith, length-derivatives_from (one ∷ []) tower)) h

longer_below : (n : ℕ) (ms : Tower) (m : Monomial) → ArgumentsBelow n ms → InField (n + length ms) (argument m) → ArgumentAllowed m → ArgumentsBelow n (ms ++ (m ∷ []))
longer_below n [] m h k allowed = (subst (λ (i : ℕ). InField i (argument m)) (omega arith) k, tt, allowed)
longer_below n (l ∷ ms) m h k allowed = (h.0, longer_below (suc n) ms m h.1 (subst (λ (i : ℕ). InField i (argument m)) (omega arith) k) allowed, h.2)

pub longer_is_tower : (tower : Tower) (m : Monomial) → IsTower tower → InTower tower (argument m) → ArgumentAllowed m → IsTower (tower ++ (m ∷ []))
longer_is_tower tower m h k allowed = longer_below 1 tower m h (subst (λ (i : ℕ). InField i (argument m)) (omega arith) k) allowed

-- ---- the kinds of the levels
kind_by-same : (longer tower : Tower) (m : Monomial) → derive_in longer (argument m) ≡ derive_in tower (argument m) → kind_by longer m ≡ kind_by tower m
kind_by-same longer tower (log a) e = ap (λ d. primitive (d /ₑ a)) e
kind_by-same longer tower (exp a) e = ap exponential e

-- those of the first monomials ms of the tower
kind_at-longer : (tower more : Tower) (n : ℕ) (ms : Tower) (i : ℕ) → n + length ms ≤ suc (length tower) → ArgumentsBelow n ms → i < length ms →
    kind_at (tower ++ more) (ms ++ more) i ≡ kind_at tower ms i
kind_at-longer tower more n [] i l h k = absurd (omega arith)
kind_at-longer tower more n (m ∷ ms) nat_zero l h k =
    kind_by-same (tower ++ more) tower m (derive_in-longer tower more (argument m) (InField_more n (suc (length tower)) (argument m) (omega arith) h.0))
kind_at-longer tower more n (m ∷ ms) (suc i) l h k = kind_at-longer tower more (suc n) ms i (omega arith) h.1 (omega arith)

kind_at-end : (tower ms : Tower) (m : Monomial) → kind_at tower (ms ++ (m ∷ [])) (length ms) ≡ kind_by tower m
kind_at-end tower [] m = refl
kind_at-end tower (l ∷ ms) m = kind_at-end tower ms m

-- each level but the new one
pub kind-kept : (tower : Tower) (m : Monomial) (n : ℕ) → IsTower tower → ¬ (n ≡ suc (length tower)) → kind_of (tower ++ (m ∷ [])) n ≡ kind_of tower n
kind-kept tower m nat_zero h other = refl
kind-kept tower m (suc i) h other = by (dec_lt i (length tower))
  where
    by : Dec (i < length tower) → kind_of (tower ++ (m ∷ [])) (suc i) ≡ kind_of tower (suc i)
    by (yes k) = kind_at-longer tower (m ∷ []) 1 tower i (omega arith) h k
    by (no k) =
        let past : length tower < i = above (length tower) i k (λ e. other (omega arith)) in
        kind_at_past (tower ++ (m ∷ [])) (tower ++ (m ∷ [])) i (omega (arith, length-append tower (m ∷ []))) ∙ sym (kind_at_past tower tower i (omega arith))
      where
        above : (k i : ℕ) → ¬ (i < k) → ¬ (i ≡ k) → k < i
        above k i n e = omega arith

pub kind-added : (tower : Tower) (m : Monomial) → InTower tower (argument m) → kind_of (tower ++ (m ∷ [])) (suc (length tower)) ≡ kind_by tower m
kind-added tower m h = kind_at-end (tower ++ (m ∷ [])) tower m ∙ kind_by-same (tower ++ (m ∷ [])) tower m (derive_in-longer tower (m ∷ []) (argument m) h)
