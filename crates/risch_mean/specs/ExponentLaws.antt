-- Laws of exponent lists: the sum is commutative and associative, the order is total and compatible with the sum, and which variables occur.
use Rattle.std.specs.Prelude.{◌≡◌, refl, ℕ, zero, suc, ◌+◌, ◌-◌, ◌<◌, ◌≤◌, true, false, cond, not, T, eqb, max, List, [], ◌∷◌, length}
use Rattle.std.proofs.Common.{sym, ap, ap₂, ◌∙◌, subst, arith}
use native.Mathlib.Nat.{add_comm as nat_add_comm, add_assoc as nat_add_assoc}
use mathlib.Core.HLevel.{Σ_prop_path}
use lib.Dec.{T_prop, le→leb, leb→le}
use Rattle.std.specs.declared.cmp.Ordering.TheVariants.{Less, Equal, Greater}
use Rattle.std.specs.Ordering.{nat_cmp, ordering_then, ordering_reverse}
use Rattle.std.specs.Cmp.{IsTotalOrder}
use Rattle.std.specs.Cmp.Lexicographic.{slice_cmp, nat_list_cmp_total}
use Rattle.std.specs.FinMap.{slice_cmp-IsAntisymmetric, nat_cmp-IsAntisymmetric}
use Rattle.risch_mean.specs.Exponents.{Exponents, add, below, compare, exponent, lower, none, unit}
use Rattle.risch_mean.specs.ExponentLists.{add_lists, entry, is_trimmed, lower_list, push, unit_list}
use Rattle.risch_mean.specs.ExponentListLaws.{is_trimmed-tail}

pub same_entries : (e f : Exponents) → e.entries ≡ f.entries → e ≡ f
same_entries e f p =
    let pairs : ◌≡◌ {A = (l : List ℕ) × T (is_trimmed l)} (e.entries, e.trimmed) (f.entries, f.trimmed) = Σ_prop_path (λ l. T_prop _) p in
    λ i. record { entries = (pairs i).0; trimmed = (pairs i).1 }

add_lists-nil : (e : List ℕ) → add_lists e [] ≡ e
add_lists-nil [] = refl
add_lists-nil (a ∷ e) = refl

add_lists_comm : (e f : List ℕ) → add_lists e f ≡ add_lists f e
add_lists_comm [] f = sym (add_lists-nil f)
add_lists_comm (a ∷ e) [] = refl
add_lists_comm (a ∷ e) (b ∷ f) = ap₂ ◌∷◌ (nat_add_comm a b) (add_lists_comm e f)

add_lists_assoc : (e f g : List ℕ) → add_lists (add_lists e f) g ≡ add_lists e (add_lists f g)
add_lists_assoc [] f g = refl
add_lists_assoc (a ∷ e) [] g = refl
add_lists_assoc (a ∷ e) (b ∷ f) [] = refl
add_lists_assoc (a ∷ e) (b ∷ f) (c ∷ g) = ap₂ ◌∷◌ (nat_add_assoc a b c) (add_lists_assoc e f g)

pub add_comm : (e f : Exponents) → add e f ≡ add f e
unfolding add
add_comm e f = same_entries (add e f) (add f e) (add_lists_comm e.entries f.entries)

pub add_assoc : (e f g : Exponents) → add (add e f) g ≡ add e (add f g)
unfolding add
add_assoc e f g = same_entries _ _ (add_lists_assoc e.entries f.entries g.entries)

pub none-add : (e : Exponents) → add none e ≡ e
unfolding add none
none-add e = same_entries _ _ refl

pub add-none : (e : Exponents) → add e none ≡ e
add-none e = add_comm e none ∙ none-add e

-- ---- the order: the first entry that differs decides
nat_cmp_self : (d : ℕ) → nat_cmp d d ≡ Equal
nat_cmp_self d = grind arith

pub compare_total : IsTotalOrder compare
unfolding compare
compare_total = record {
  antisymm = λ e f. nat_list_cmp_total.antisymm e.entries f.entries;
  trans = λ e f g. nat_list_cmp_total.trans e.entries f.entries g.entries;
  congr = λ e f g. nat_list_cmp_total.congr e.entries f.entries g.entries;
}

pub compare_self : (e : Exponents) → compare e e ≡ Equal
unfolding compare
compare_self e = itself e.entries
  where
    itself : (l : List ℕ) → slice_cmp nat_cmp l l ≡ Equal
    itself [] = refl
    itself (a ∷ l) = ap (λ r. ordering_then r (slice_cmp nat_cmp l l)) (nat_cmp_self a) ∙ itself l

apart : ¬ (Less ≡ Equal)
apart e = grind arith

pub compare-Equal : (e f : Exponents) → compare e f ≡ Equal → e ≡ f
unfolding compare
compare-Equal e f p = same_entries e f (slice_cmp-IsAntisymmetric nat_cmp-IsAntisymmetric e.entries f.entries p)

nat_cmp-add : (d a b : ℕ) → nat_cmp (d + a) (d + b) ≡ nat_cmp a b
nat_cmp-add d a b = grind arith

nat_cmp-grow : (d b : ℕ) → ¬ (b ≡ 0) → nat_cmp d (d + b) ≡ Less
nat_cmp-grow d b h = grind arith

below-grow : (d e : List ℕ) → ¬ (e ≡ []) → T (is_trimmed e) → slice_cmp nat_cmp d (add_lists d e) ≡ Less
below-grow [] [] n h = absurd (n refl)
below-grow [] (b ∷ e) n h = refl
below-grow (a ∷ d) [] n h = absurd (n refl)
below-grow (a ∷ d) (b ∷ []) n h =
    ap (λ r. ordering_then r (slice_cmp nat_cmp d (add_lists d []))) (nat_cmp-grow a b (positive b h))
  where
    positive : (b : ℕ) → T (not (eqb b 0)) → ¬ (b ≡ 0)
    positive b h e = subst (λ (c : ℕ). T (not (eqb c 0))) e h
below-grow (a ∷ d) (b ∷ c ∷ e) n h =
    elim (nat_cmp a (a + b)) as (λ r. nat_cmp a (a + b) ≡ r → ordering_then r (slice_cmp nat_cmp d (add_lists d (c ∷ e))) ≡ Less) [
      | Less ↦ λ _. refl
      | Equal ↦ λ _. below-grow d (c ∷ e) (λ p. grind arith) h
      | Greater ↦ λ p. grind arith
    ] refl

below-add_lists : (d e f : List ℕ) → T (is_trimmed e) → T (is_trimmed f) → slice_cmp nat_cmp e f ≡ Less → slice_cmp nat_cmp (add_lists d e) (add_lists d f) ≡ Less
below-add_lists [] e f p q h = h
below-add_lists (a ∷ d) [] [] p q h = grind arith
below-add_lists (a ∷ d) [] (c ∷ f) p q h = below-grow (a ∷ d) (c ∷ f) (λ p. grind arith) q
below-add_lists (a ∷ d) (b ∷ e) [] p q h = grind arith
below-add_lists (a ∷ d) (b ∷ e) (c ∷ f) p q h =
    ap (λ r. ordering_then r (slice_cmp nat_cmp (add_lists d e) (add_lists d f))) (nat_cmp-add a b c)
    ∙ elim (nat_cmp b c) as (λ r. ordering_then r (slice_cmp nat_cmp e f) ≡ Less → ordering_then r (slice_cmp nat_cmp (add_lists d e) (add_lists d f)) ≡ Less) [
      | Less ↦ λ _. refl
      | Equal ↦ λ g. below-add_lists d e f (is_trimmed-tail b e p) (is_trimmed-tail c f q) g
      | Greater ↦ λ g. grind arith
    ] h

pub compare-add : (d e f : Exponents) → compare e f ≡ Less → compare (add d e) (add d f) ≡ Less
unfolding compare add
compare-add d e f h = below-add_lists d.entries e.entries f.entries e.trimmed f.trimmed h

pub add_cancel : (d e f : Exponents) → add d e ≡ add d f → e ≡ f
add_cancel d e f p =
    elim (compare e f) as (λ r. compare e f ≡ r → e ≡ f) [
      | Less ↦ λ h. absurd (apart (sym (compare-add d e f h) ∙ ap (compare (add d e)) (sym p) ∙ compare_self (add d e)))
      | Equal ↦ λ h. compare-Equal e f h
      | Greater ↦ λ h. absurd (apart (sym (compare-add d f e (compare_total.antisymm f e ∙ ap ordering_reverse h)) ∙ ap (compare (add d f)) p ∙ compare_self (add d f)))
    ] refl

add_lists-push : (b a : ℕ) (u e : List ℕ) → add_lists (b ∷ u) (push a e) ≡ (b + a) ∷ add_lists u e
add_lists-push b a u [] =
    elim (eqb a 0) as (λ t. eqb a 0 ≡ t → add_lists (b ∷ u) (cond t [] (a ∷ [])) ≡ (b + a) ∷ add_lists u []) [
      | true ↦ λ p. ap₂ ◌∷◌ (grind arith) (sym (add_lists-nil u))
      | false ↦ λ p. refl
    ] refl
add_lists-push b a u (c ∷ e) = refl

add_lists-lower : (i : ℕ) (e : List ℕ) → ¬ (entry i e ≡ 0) → add_lists (unit_list i) (lower_list i e) ≡ e
add_lists-lower i [] h = absurd (h refl)
add_lists-lower zero (a ∷ e) h = add_lists-push 1 (a - 1) [] e ∙ ap (λ (n : ℕ). n ∷ e) (omega arith)
add_lists-lower (suc i) (a ∷ e) h = add_lists-push 0 a (unit_list i) (lower_list i e) ∙ ap₂ ◌∷◌ (omega arith) (add_lists-lower i e h)

pub add-lower : (i : ℕ) (e : Exponents) → ¬ (exponent i e ≡ 0) → add (unit i) (lower i e) ≡ e
unfolding add unit lower exponent
add-lower i e h = same_entries _ _ (add_lists-lower i e.entries h)

entry-add : (i : ℕ) (e f : List ℕ) → entry i (add_lists e f) ≡ entry i e + entry i f
entry-add i [] f = omega arith
entry-add i (a ∷ e) [] = omega arith
entry-add zero (a ∷ e) (b ∷ f) = refl
entry-add (suc i) (a ∷ e) (b ∷ f) = entry-add i e f

pub exponent-add : (i : ℕ) (e f : Exponents) → exponent i (add e f) ≡ exponent i e + exponent i f
unfolding exponent add
exponent-add i e f = entry-add i e.entries f.entries

-- the derivative of a product of monomials lowers one of the two
pub lower-add : (i : ℕ) (e f : Exponents) → ¬ (exponent i e ≡ 0) → lower i (add e f) ≡ add (lower i e) f
lower-add i e f h =
    add_cancel (unit i) (lower i (add e f)) (add (lower i e) f)
    (add-lower i (add e f) (λ p. h (omega (arith, exponent-add i e f)))
    ∙ ap (λ g. add g f) (sym (add-lower i e h)) ∙ add_assoc (unit i) (lower i e) f)

length-add_lists : (e f : List ℕ) → length (add_lists e f) ≡ max (length e) (length f)
length-add_lists [] f = omega arith
length-add_lists (a ∷ e) [] = omega arith
length-add_lists (a ∷ e) (b ∷ f) = omega (arith, length-add_lists e f)

pub below-add : (n : ℕ) (e f : Exponents) → T (below n e) → T (below n f) → T (below n (add e f))
unfolding below add
below-add n e f p q = le→leb _ _ (omega (arith, leb→le _ _ p, leb→le _ _ q, length-add_lists e.entries f.entries))

length-push : (a : ℕ) (e : List ℕ) → length (push a e) ≤ suc (length e)
length-push a [] = elim (eqb a 0) as (λ b. length (cond b [] (a ∷ [])) ≤ 1) [ true ↦ omega arith | false ↦ omega arith ]
length-push a (b ∷ e) = omega arith

length-lower : (i : ℕ) (e : List ℕ) → length (lower_list i e) ≤ length e
length-lower i [] = omega arith
length-lower zero (a ∷ e) = length-push (a - 1) e
length-lower (suc i) (a ∷ e) = omega (arith, length-push a (lower_list i e), length-lower i e)

pub below-lower : (n i : ℕ) (e : Exponents) → T (below n e) → T (below n (lower i e))
unfolding below lower
below-lower n i e p = le→leb _ _ (omega (arith, leb→le _ _ p, length-lower i e.entries))

pub below-none : (n : ℕ) → T (below n none)
unfolding below none
below-none n = le→leb _ _ (omega arith)

length-unit : (i : ℕ) → length (unit_list i) ≡ suc i
length-unit zero = refl
length-unit (suc i) = omega (arith, length-unit i)

pub below-unit : (n i : ℕ) → i < n → T (below n (unit i))
unfolding below unit
below-unit n i h = le→leb _ _ (omega (arith, length-unit i))

pub below_more : (n m : ℕ) (e : Exponents) → n ≤ m → T (below n e) → T (below m e)
unfolding below
below_more n m e h p = le→leb _ _ (omega (arith, leb→le _ _ p))

pub exponent-none : (i : ℕ) → exponent i none ≡ 0
unfolding exponent none
exponent-none i = refl

entry-unit_same : (i : ℕ) → entry i (unit_list i) ≡ 1
entry-unit_same zero = refl
entry-unit_same (suc i) = entry-unit_same i

entry-unit_other : (i j : ℕ) → ¬ (i ≡ j) → entry i (unit_list j) ≡ 0
entry-unit_other zero zero h = absurd (h refl)
entry-unit_other zero (suc j) h = refl
entry-unit_other (suc i) zero h = refl
entry-unit_other (suc i) (suc j) h = entry-unit_other i j (λ e. h (ap suc e))

pub exponent-unit_same : (i : ℕ) → exponent i (unit i) ≡ 1
unfolding exponent unit
exponent-unit_same i = entry-unit_same i

pub exponent-unit_other : (i j : ℕ) → ¬ (i ≡ j) → exponent i (unit j) ≡ 0
unfolding exponent unit
exponent-unit_other i j h = entry-unit_other i j h

pub lower-unit : (i : ℕ) → lower i (unit i) ≡ none
lower-unit i = add_cancel (unit i) (lower i (unit i)) none (add-lower i (unit i) (λ p. grind (arith, exponent-unit_same i)) ∙ sym (add-none (unit i)))

entry_past : (i : ℕ) (e : List ℕ) → length e ≤ i → entry i e ≡ 0
entry_past i [] h = refl
entry_past zero (a ∷ e) h = absurd (omega arith)
entry_past (suc i) (a ∷ e) h = entry_past i e (omega arith)

-- a variable that does not occur has exponent 0
pub exponent-below : (n i : ℕ) (e : Exponents) → T (below n e) → n ≤ i → exponent i e ≡ 0
unfolding below exponent
exponent-below n i e h k = entry_past i e.entries (omega (arith, leb→le _ _ h))

one_entry : (e f : List ℕ) → T (is_trimmed e) → T (is_trimmed f) → length e ≤ 1 → length f ≤ 1 → entry 0 e ≡ entry 0 f → e ≡ f
one_entry [] [] p q h k s = refl
one_entry [] (b ∷ []) p q h k s = absurd (subst (λ (n : ℕ). T (not (eqb n 0))) (sym s) q)
one_entry [] (b ∷ c ∷ f) p q h k s = absurd (omega arith)
one_entry (a ∷ []) [] p q h k s = absurd (subst (λ (n : ℕ). T (not (eqb n 0))) s p)
one_entry (a ∷ []) (b ∷ []) p q h k s = ap (λ (n : ℕ). n ∷ []) s
one_entry (a ∷ []) (b ∷ c ∷ f) p q h k s = absurd (omega arith)
one_entry (a ∷ c ∷ e) f p q h k s = absurd (omega arith)

-- a monomial in x alone is known by its exponent
pub same_in_one : (e f : Exponents) → T (below 1 e) → T (below 1 f) → exponent 0 e ≡ exponent 0 f → e ≡ f
unfolding below exponent
same_in_one e f p q h = same_entries e f (one_entry e.entries f.entries e.trimmed f.trimmed (leb→le _ _ p) (leb→le _ _ q) h)

no_entry : (e : List ℕ) → length e ≤ 0 → e ≡ []
no_entry [] h = refl
no_entry (a ∷ e) h = absurd (omega arith)

pub none_below : (e : Exponents) → T (below 0 e) → e ≡ none
unfolding below none
none_below e h = same_entries e none (no_entry e.entries (leb→le _ _ h))

shorter : (n : ℕ) (e : List ℕ) → T (is_trimmed e) → length e ≤ suc n → entry n e ≡ 0 → length e ≤ n
shorter n [] p h k = omega arith
shorter zero (a ∷ []) p h k = absurd (subst (λ (m : ℕ). T (not (eqb m 0))) k p)
shorter zero (a ∷ b ∷ e) p h k = absurd (omega arith)
shorter (suc n) (a ∷ e) p h k = omega (arith, shorter n e (is_trimmed-tail a e p) (omega arith) k)

-- without the last variable, only those before it occur
pub below_less : (n : ℕ) (e : Exponents) → T (below (suc n) e) → exponent n e ≡ 0 → T (below n e)
unfolding below exponent
below_less n e h k = le→leb _ _ (shorter n e.entries e.trimmed (leb→le _ _ h) k)

pub exponent-lower : (i : ℕ) (e : Exponents) (j : ℕ) → exponent i e ≡ suc j → exponent i (lower i e) ≡ j
exponent-lower i e j h =
    let a = add-lower i e (λ k. omega arith) in
    let b = exponent-add i (unit i) (lower i e) in
    let c = exponent-unit_same i in
    let d : exponent i (add (unit i) (lower i e)) ≡ exponent i e = ap (exponent i) a in
    omega (arith, b, c, d, h)
