-- The normal form of a sum of terms keeps its coefficients, and normal lists with the same coefficients are equal.
use Rattle.std.specs.Prelude.{◌≡◌, refl, Bool, true, false, cond, not, ◌&&◌, T, List, [], ◌∷◌, ◌++◌, ℤ, pos, negsuc, ◌+ℤ◌}
use Rattle.std.proofs.Common.{sym, ap, ap₂, ◌∙◌, subst, arith}
use Rattle.std.proofs.lemmas.Int.{ints}
use Rattle.std.specs.declared.cmp.Ordering.{Ordering}
use Rattle.std.specs.declared.cmp.Ordering.TheVariants.{Less, Equal, Greater}
use Rattle.std.specs.Ordering.{is_lt, is_eq, ordering_reverse}
use Rattle.std.specs.FinMap.Entries.{by_order}
use lib.IntN.{+ℤ_assoc}
use Rattle.risch_mean.specs.Exponents.{Exponents, compare}
use Rattle.risch_mean.specs.ExponentLaws.{compare-Equal, compare_self, compare_total}
use Rattle.risch_mean.specs.Terms.{Term, at, below_all, coefficient, is_normal, is_zero, keep, normal_form, place, total}

-- φ is additive in the coefficient
pub record IsAdditive (φ : Exponents → ℤ → ℤ) : Type 0 where
  pub sum : (e : Exponents) (c d : ℤ) → φ e (c +ℤ d) ≡ φ e c +ℤ φ e d

pub additive_zero : (φ : Exponents → ℤ → ℤ) → IsAdditive φ → (e : Exponents) → φ e (pos 0) ≡ pos 0
additive_zero φ a e = let h : φ e (pos 0) ≡ φ e (pos 0) +ℤ φ e (pos 0) = a.sum e (pos 0) (pos 0) in omega (arith, ints)

pub total-append : (φ : Exponents → ℤ → ℤ) (r s : List Term) → total φ (r ++ s) ≡ total φ r +ℤ total φ s
unfolding total
total-append φ [] s = omega (arith, ints)
total-append φ (t ∷ r) s = let h = total-append φ r s in omega (arith, ints, h)

pub at_additive : (e : Exponents) → IsAdditive (at e)
unfolding at
at_additive e = record { sum = λ f c d. elim (is_eq (compare e f)) as (λ b. cond b (c +ℤ d) (pos 0) ≡ cond b c (pos 0) +ℤ cond b d (pos 0)) [ true ↦ refl | false ↦ refl ] }

pub zero_is : (c : ℤ) → is_zero c ≡ true → c ≡ pos 0
zero_is (pos n) h = grind arith
zero_is (negsuc n) h = grind arith

module _ (φ : Exponents → ℤ → ℤ) (a : IsAdditive φ) where
  total-keep : (e : Exponents) (c : ℤ) (r : List Term) → total φ (keep e c r) ≡ φ e c +ℤ total φ r
  unfolding total
  total-keep e c r =
      elim (is_zero c) as (λ b. is_zero c ≡ b → total φ (cond b r ((e, c) ∷ r)) ≡ φ e c +ℤ total φ r) [
        | true ↦ λ p. let h : φ e c ≡ pos 0 = ap (φ e) (zero_is c p) ∙ additive_zero φ a e in omega (arith, ints, h)
        | false ↦ λ _. refl
      ] refl

  total-place : (e : Exponents) (c : ℤ) (r : List Term) → total φ (place e c r) ≡ φ e c +ℤ total φ r
  unfolding total
  total-place e c [] = total-keep e c []
  total-place e c (t ∷ r) =
      elim (compare e t.0) as (λ o. compare e t.0 ≡ o → total φ (by_order o (keep e c (t ∷ r)) (keep e (c +ℤ t.1) r) (t ∷ place e c r)) ≡ φ e c +ℤ (φ t.0 t.1 +ℤ total φ r)) [
        | Less ↦ λ _. total-keep e c (t ∷ r)
        | Equal ↦ λ p.
            total-keep e (c +ℤ t.1) r ∙ ap (λ k. k +ℤ total φ r) (a.sum e c t.1 ∙ ap (λ f. φ e c +ℤ φ f t.1) (compare-Equal e t.0 p))
            ∙ +ℤ_assoc (φ e c) (φ t.0 t.1) (total φ r)
        | Greater ↦ λ _. let h = total-place e c r in omega (arith, ints, h)
      ] refl

  pub total-normal_form : (r : List Term) → total φ (normal_form r) ≡ total φ r
  unfolding total
  total-normal_form [] = refl
  total-normal_form (t ∷ r) = total-place t.0 t.1 (normal_form r) ∙ ap (λ k. φ t.0 t.1 +ℤ k) (total-normal_form r)

pub coefficient-normal_form : (r : List Term) (e : Exponents) → coefficient (normal_form r) e ≡ coefficient r e
unfolding coefficient
coefficient-normal_form r e = total-normal_form (at e) (at_additive e) r

-- ---- the normal form is normal
pub both : (a b : Bool) → T a → T b → T (a && b)
both true b p q = q
both false b p q = p

pub first : (a b : Bool) → T (a && b) → T a
first true b p = tt
first false b p = p

pub second : (a b : Bool) → T (a && b) → T b
second true b p = p
second false b p = absurd p

pub is_less : (o : Ordering) → T (is_lt o) → o ≡ Less
is_less o h = grind arith

pub less_is : (o : Ordering) → o ≡ Less → T (is_lt o)
less_is o h = subst (λ p. T (is_lt p)) (sym h) tt

pub below_all_trans : (e f : Exponents) (r : List Term) → compare e f ≡ Less → T (below_all f r) → T (below_all e r)
below_all_trans e f [] p h = tt
below_all_trans e f (t ∷ r) p h =
    both _ _ (less_is _ (compare_total.trans e f t.0 p (is_less _ (first _ _ h)))) (below_all_trans e f r p (second _ _ h))

below_all-keep : (e f : Exponents) (c : ℤ) (r : List Term) → compare e f ≡ Less → T (below_all e r) → T (below_all e (keep f c r))
below_all-keep e f c r p h = elim (is_zero c) as (λ b. T (below_all e (cond b r ((f, c) ∷ r)))) [ true ↦ h | false ↦ both _ _ (less_is _ p) h ]

below_all-place : (e f : Exponents) (c : ℤ) (r : List Term) → compare e f ≡ Less → T (below_all e r) → T (below_all e (place f c r))
below_all-place e f c [] p h = below_all-keep e f c [] p h
below_all-place e f c (t ∷ r) p h =
    elim (compare f t.0) as (λ o. T (below_all e (by_order o (keep f c (t ∷ r)) (keep f (c +ℤ t.1) r) (t ∷ place f c r)))) [
      | Less ↦ below_all-keep e f c (t ∷ r) p h
      | Equal ↦ below_all-keep e f (c +ℤ t.1) r p (second _ _ h)
      | Greater ↦ both _ _ (first _ _ h) (below_all-place e f c r p (second _ _ h))
    ]

is_normal-keep : (e : Exponents) (c : ℤ) (r : List Term) → T (below_all e r) → T (is_normal r) → T (is_normal (keep e c r))
is_normal-keep e c r p h =
    elim (is_zero c) as (λ b. is_zero c ≡ b → T (is_normal (cond b r ((e, c) ∷ r)))) [
      | true ↦ λ _. h
      | false ↦ λ q. both _ _ (subst (λ b. T (not b)) (sym q) tt) (both _ _ p h)
    ] refl

is_normal-place : (e : Exponents) (c : ℤ) (r : List Term) → T (is_normal r) → T (is_normal (place e c r))
is_normal-place e c [] h = is_normal-keep e c [] tt tt
is_normal-place e c (t ∷ r) h =
    let tail : T (is_normal r) = second (below_all t.0 r) _ (second (not (is_zero t.1)) _ h) in
    let above : T (below_all t.0 r) = first (below_all t.0 r) _ (second (not (is_zero t.1)) _ h) in
    elim (compare e t.0) as (λ o. compare e t.0 ≡ o → T (is_normal (by_order o (keep e c (t ∷ r)) (keep e (c +ℤ t.1) r) (t ∷ place e c r)))) [
      | Less ↦ λ p. is_normal-keep e c (t ∷ r) (both _ _ (less_is _ p) (below_all_trans e t.0 r p above)) h
      | Equal ↦ λ p. is_normal-keep e (c +ℤ t.1) r (subst (λ f. T (below_all f r)) (sym (compare-Equal e t.0 p)) above) tail
      | Greater ↦ λ p. both _ _ (first (not (is_zero t.1)) _ h) (both _ _ (below_all-place t.0 e c r (compare_total.antisymm t.0 e ∙ ap ordering_reverse p) above) (is_normal-place e c r tail))
    ] refl

pub is_normal-normal_form : (r : List Term) → T (is_normal (normal_form r))
is_normal-normal_form [] = tt
is_normal-normal_form (t ∷ r) = is_normal-place t.0 t.1 (normal_form r) (is_normal-normal_form r)

-- ---- two normal lists with the same coefficients are equal
pub at_same : (e : Exponents) (c : ℤ) → at e e c ≡ c
unfolding at
at_same e c = ap (λ o. cond (is_eq o) c (pos 0)) (compare_self e)

at_less : (e f : Exponents) (c : ℤ) → compare e f ≡ Less → at e f c ≡ pos 0
unfolding at
at_less e f c p = ap (λ o. cond (is_eq o) c (pos 0)) p

pub coefficient_below : (e : Exponents) (r : List Term) → T (below_all e r) → coefficient r e ≡ pos 0
unfolding coefficient total
coefficient_below e [] h = refl
coefficient_below e (t ∷ r) h = ap₂ ◌+ℤ◌ (at_less e t.0 t.1 (is_less _ (first _ _ h))) (coefficient_below e r (second _ _ h))

pub coefficient_head : (t : Term) (r : List Term) → T (is_normal (t ∷ r)) → coefficient (t ∷ r) t.0 ≡ t.1
unfolding coefficient total
coefficient_head t r h =
    let a = at_same t.0 t.1 in
    let b : total (at t.0) r ≡ pos 0 = coefficient_below t.0 r (first (below_all t.0 r) _ (second (not (is_zero t.1)) _ h)) in
    omega (arith, ints, a, b)

pub head_not_zero : (t : Term) (r : List Term) → T (is_normal (t ∷ r)) → ¬ (t.1 ≡ pos 0)
head_not_zero t r h p = subst (λ c. T (not (is_zero c))) p (first (not (is_zero t.1)) _ h)

pub normal_ext : (r s : List Term) → T (is_normal r) → T (is_normal s) → ((e : Exponents) → coefficient r e ≡ coefficient s e) → r ≡ s
unfolding coefficient total
normal_ext [] [] p q h = refl
normal_ext [] (u ∷ s) p q h = absurd (head_not_zero u s q (sym (coefficient_head u s q) ∙ sym (h u.0)))
normal_ext (t ∷ r) [] p q h = absurd (head_not_zero t r p (sym (coefficient_head t r p) ∙ h t.0))
normal_ext (t ∷ r) (u ∷ s) p q h =
    elim (compare t.0 u.0) as (λ o. compare t.0 u.0 ≡ o → t ∷ r ≡ u ∷ s) [
      | Less ↦ λ o. absurd (head_not_zero t r p (sym (coefficient_head t r p) ∙ h t.0 ∙ coefficient_below t.0 (u ∷ s) (below_head t u s q o)))
      | Equal ↦ λ o.
          let same : t.0 ≡ u.0 = compare-Equal t.0 u.0 o in
          let coefficients : t.1 ≡ u.1 = sym (coefficient_head t r p) ∙ h t.0 ∙ ap (coefficient (u ∷ s)) same ∙ coefficient_head u s q in
          let heads : t ≡ u = λ i. (same i, coefficients i) in
          let tails : r ≡ s = normal_ext r s (second (below_all t.0 r) _ (second (not (is_zero t.1)) _ p)) (second (below_all u.0 s) _ (second (not (is_zero u.1)) _ q))
          (λ e. let k = h e in let m : at e t.0 t.1 ≡ at e u.0 u.1 = ap (λ (v : Term). at e v.0 v.1) heads in omega (arith, ints, k, m)) in
          ap₂ ◌∷◌ heads tails
      | Greater ↦ λ o. absurd (head_not_zero u s q (sym (coefficient_head u s q) ∙ sym (h u.0) ∙ coefficient_below u.0 (t ∷ r) (below_head u t r p (compare_total.antisymm u.0 t.0 ∙ ap ordering_reverse o))))
    ] refl
  where
    below_head : (t u : Term) (s : List Term) → T (is_normal (u ∷ s)) → compare t.0 u.0 ≡ Less → T (below_all t.0 (u ∷ s))
    below_head t u s q o = both _ _ (less_is _ o) (below_all_trans t.0 u.0 s o (first (below_all u.0 s) _ (second (not (is_zero u.1)) _ q)))
