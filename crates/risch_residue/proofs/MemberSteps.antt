-- The first two members of the remainder sequence: the differences a_j - z·e_j, the limit on their weight, and the variables that occur.
use Rattle.std.specs.Prelude.{nat_le, if◌then◌else◌}
use Rattle.std.proofs.Common.{◌≡◌, ℕ, zero, suc, ◌+◌, ◌≤◌, ◌<◌, max, Bool, true, false, ◌&&◌, List, [], ◌∷◌, ◌++◌, map, drop, length, All, IfOk, Result, Ok, Err, refl, sym, ap, ◌∙◌, subst, arith, add-one, append_assoc, append-nil}
use Rattle.std.proofs.lemmas.Bool.Decides.{nat_tests}
use Rattle.std.proofs.lemmas.List.{drop_all}
use Rattle.std.proofs.lemmas.List.Elements.{All-nil, All-cons, All-head, All-tail}
use Rattle.risch_field.specs.Checked.{Agrees, IsStopOf}
use Rattle.risch_field.specs.declared.Fail.{Fail}
use Rattle.risch_field.specs.declared.Fail.TheVariants.{Overflow, Size, Memory}
use Rattle.risch_field.proofs.CheckedSteps.{if-ok}
use Rattle.risch_polynomial.specs.Poly as poly
use Rattle.risch_level.specs.Levels.{Element, element}
use Rattle.risch_element_theory.specs.WholeTower.{Within, AllWithin}
use Rattle.risch_element_theory.proofs.ElementWithin.{zero-element-within, negative-element-within}
use Rattle.risch_element_theory.proofs.PolynomialsWithin.{trimmed-within}
use Rattle.risch_sub.specs.RemainderSequence.{InZ, Member, weight, with_first, trimmed, sized, remainders}
use Rattle.risch_sub.proofs.RemainderRules.{remainders-within}
use Rattle.risch_logarithm_rules.specs.Logarithms.{constant_in_z, difference_in_z, differences_in_z}

-- ---- the differences
-- one of them is formed
left-more : (a : List Element) (j : ℕ) → j < length a → differences_in_z (drop j a) [] ≡ difference_in_z (poly.coefficient element a j) element.zero ∷ differences_in_z (drop (suc j) a) []
left-more [] j below = absurd (omega arith)
left-more (x ∷ a) zero below = refl
left-more (x ∷ a) (suc j) below = left-more a j (omega arith)

right-more : (e : List Element) (j : ℕ) → j < length e → differences_in_z [] (drop j e) ≡ difference_in_z element.zero (poly.coefficient element e j) ∷ differences_in_z [] (drop (suc j) e)
right-more [] j below = absurd (omega arith)
right-more (y ∷ e) zero below = refl
right-more (y ∷ e) (suc j) below = right-more e j (omega arith)

pub differences-more : (a e : List Element) (j : ℕ) → j < max (length a) (length e) →
    differences_in_z (drop j a) (drop j e) ≡ difference_in_z (poly.coefficient element a j) (poly.coefficient element e j) ∷ differences_in_z (drop (suc j) a) (drop (suc j) e)
differences-more [] [] j below = absurd (omega arith)
differences-more [] (y ∷ e) zero below = refl
differences-more [] (y ∷ e) (suc j) below = right-more e j (omega arith)
differences-more (x ∷ a) [] zero below = refl
differences-more (x ∷ a) [] (suc j) below = left-more a j (omega arith)
differences-more (x ∷ a) (y ∷ e) zero below = refl
differences-more (x ∷ a) (y ∷ e) (suc j) below = differences-more a e j (omega arith)

pub differences-pushed : (a e : List Element) (m : Member) (d : InZ) (j : ℕ) → j < max (length a) (length e) → d ≡ difference_in_z (poly.coefficient element a j) (poly.coefficient element e j) →
    m ++ differences_in_z (drop j a) (drop j e) ≡ (m ++ d ∷ []) ++ differences_in_z (drop (j + 1) a) (drop (j + 1) e)
differences-pushed a e m d j below is =
    ap (λ (l : Member). m ++ l) (differences-more a e j below ∙ ap (λ (p : InZ). p ∷ differences_in_z (drop (suc j) a) (drop (suc j) e)) (sym is))
    ∙ sym (append_assoc m (d ∷ []) (differences_in_z (drop (suc j) a) (drop (suc j) e))) ∙ rw (add-one) refl

pub differences_end : (a e : List Element) (m : Member) (j : ℕ) → max (length a) (length e) ≤ j → m ++ differences_in_z (drop j a) (drop j e) ≡ m
differences_end a e m j past = rw (drop_all j a (omega arith), drop_all j e (omega arith)) (append-nil m)

-- ---- the limit
with_first-weight : (p : InZ) (m : Member) → weight (with_first p m) ≡ poly.weight element p + weight m
with_first-weight [] [] = refl
with_first-weight [] (q ∷ m) = refl
with_first-weight (c ∷ p) m = refl

trimmed-weight : (m : Member) → weight (trimmed m) ≡ weight m
trimmed-weight [] = refl
trimmed-weight (p ∷ m) = with_first-weight p (trimmed m) ∙ ap (λ (w : ℕ). poly.weight element p + w) (trimmed-weight m)

part-weight : (m n : Member) (p : InZ) → poly.weight element p ≤ weight (m ++ p ∷ n)
part-weight [] n p = omega arith
part-weight (q ∷ m) n p = let rest = part-weight m n p in omega (arith, rest)

difference-length : (a e : Element) → length (difference_in_z a e) ≤ 2
difference-length a e = by_tests (element.is_zero (element.negative e)) (by_test (element.is_zero a))
  where
    by_test : (t : Bool) → length (if t then [] else a ∷ []) ≤ 2
    by_test true = omega arith
    by_test false = omega arith

    by_tests : (s : Bool) → length (if element.is_zero a then [] else a ∷ []) ≤ 2 → length (poly.leading element a (if s then [] else element.negative e ∷ [])) ≤ 2
    by_tests true below = below
    by_tests false below = omega arith

-- a stop at one of the differences is that at the limit of all
heavy : (w : ℕ) (p : InZ) → length p ≤ 2 → (if nat_le (length p) 256 && nat_le w 65536 then Ok p else Err Size) ≡ Err Size → 65536 < w
heavy w p small e = by_test (nat_le w 65536) refl
  where
    within : nat_le (length p) 256 ≡ true
    within = grind (arith, nat_tests)

    by_test : (t : Bool) → nat_le w 65536 ≡ t → 65536 < w
    by_test true h =
        let value : (if nat_le (length p) 256 && nat_le w 65536 then Ok p else Err Size) ≡ Ok p = rw (within, h) refl in
        cc
    by_test false h = grind (arith, nat_tests)

beyond : (w : ℕ) (m : Member) → 65536 < w → (if nat_le w 65536 then Ok m else Err Size) ≡ Err Size
beyond w m large =
    let above : nat_le w 65536 ≡ false = grind (arith, nat_tests) in
    rw above refl

pub difference_stops : (stop : Fail) (a e : List Element) (m : Member) (j : ℕ) → j < max (length a) (length e) →
    IsStopOf stop (poly.sized element (difference_in_z (poly.coefficient element a j) (poly.coefficient element e j))) → IsStopOf stop (sized (m ++ differences_in_z (drop j a) (drop j e)))
unfolding sized
difference_stops Memory a e m j below h = tt
difference_stops (Overflow op) a e m j below h = absurd (never (nat_le (length (difference_in_z (poly.coefficient element a j) (poly.coefficient element e j))) 256
    && nat_le (poly.weight element (difference_in_z (poly.coefficient element a j) (poly.coefficient element e j))) 65536) h)
  where
    never : (t : Bool) → (if t then Ok (difference_in_z (poly.coefficient element a j) (poly.coefficient element e j)) else Err Size) ≡ Err (Overflow op) → ⊥
    never true h = cc
    never false h = cc
difference_stops Size a e m j below h =
    let p = difference_in_z (poly.coefficient element a j) (poly.coefficient element e j) in
    let rest = differences_in_z (drop (suc j) a) (drop (suc j) e) in
    let large : 65536 < poly.weight element p = heavy (poly.weight element p) p (difference-length (poly.coefficient element a j) (poly.coefficient element e j)) h in
    let part : poly.weight element p ≤ weight (m ++ p ∷ rest) = part-weight m rest p in
    let whole : weight (trimmed (m ++ p ∷ rest)) ≡ weight (m ++ p ∷ rest) = trimmed-weight (m ++ p ∷ rest) in
    rw (differences-more a e j below) (beyond (weight (trimmed (m ++ p ∷ rest))) (trimmed (m ++ p ∷ rest)) (omega (arith, large, part, whole)))

pub difference-is : (a e : Element) (p : InZ) → poly.sized element (difference_in_z a e) ≡ Ok p → p ≡ difference_in_z a e
difference-is a e p h = sym (if-ok (nat_le (length (difference_in_z a e)) 256 && nat_le (poly.weight element (difference_in_z a e)) 65536) (difference_in_z a e) p h)

-- ---- the variables that occur
pub constants-within : (n : ℕ) (d : List Element) → AllWithin n d → All (AllWithin n) (map constant_in_z d)
constants-within n [] all = All-nil (AllWithin n)
constants-within n (c ∷ d) all = All-cons (AllWithin n) (constant_in_z c) (map constant_in_z d) (trimmed-within n (c ∷ []) (constant_in_z c) (all.0, tt) refl) (constants-within n d all.1)

difference-within : (n : ℕ) (a e : Element) → Within n a → Within n e → AllWithin n (difference_in_z a e)
difference-within n a e v w = trimmed-within n (a ∷ element.negative e ∷ []) (difference_in_z a e) (v, (negative-element-within n e w, tt)) refl

differences-within : (n : ℕ) (a e : List Element) → AllWithin n a → AllWithin n e → All (AllWithin n) (differences_in_z a e)
differences-within n [] [] all_a all_e = All-nil (AllWithin n)
differences-within n [] (y ∷ e) all_a all_e =
    All-cons (AllWithin n) (difference_in_z element.zero y) (differences_in_z [] e) (difference-within n element.zero y (zero-element-within n) all_e.0) (differences-within n [] e all_a all_e.1)
differences-within n (x ∷ a) [] all_a all_e =
    All-cons (AllWithin n) (difference_in_z x element.zero) (differences_in_z a []) (difference-within n x element.zero all_a.0 (zero-element-within n)) (differences-within n a [] all_a.1 all_e)
differences-within n (x ∷ a) (y ∷ e) all_a all_e =
    All-cons (AllWithin n) (difference_in_z x y) (differences_in_z a e) (difference-within n x y all_a.0 all_e.0) (differences-within n a e all_a.1 all_e.1)

with_first-within : (n : ℕ) (p : InZ) (m : Member) → AllWithin n p → All (AllWithin n) m → All (AllWithin n) (with_first p m)
with_first-within n [] [] v all = All-nil (AllWithin n)
with_first-within n [] (q ∷ m) v all = All-cons (AllWithin n) [] (q ∷ m) v all
with_first-within n (c ∷ p) m v all = All-cons (AllWithin n) (c ∷ p) m v all

trimmed_member-within : (n : ℕ) (a e : List Element) → AllWithin n a → AllWithin n e → All (AllWithin n) (trimmed (differences_in_z a e))
trimmed_member-within n a e all_a all_e = by_parts (differences_in_z a e) (differences-within n a e all_a all_e)
  where
    by_parts : (m : Member) → All (AllWithin n) m → All (AllWithin n) (trimmed m)
    by_parts [] all = All-nil (AllWithin n)
    by_parts (p ∷ m) all = with_first-within n p (trimmed m) (All-head (AllWithin n) p m all) (by_parts m (All-tail (AllWithin n) p m all))

pub sized-within : (n : ℕ) (a e : List Element) (b : Member) → AllWithin n a → AllWithin n e → sized (differences_in_z a e) ≡ Ok b → All (AllWithin n) b
unfolding sized
sized-within n a e b all_a all_e h =
    subst (All (AllWithin n)) (if-ok (nat_le (weight (trimmed (differences_in_z a e))) 65536) (trimmed (differences_in_z a e)) b h) (trimmed_member-within n a e all_a all_e)

pub members-within : (n : ℕ) (d b : Member) (least : ℕ) (result : Result (List Member) Fail) → All (AllWithin n) d → All (AllWithin n) b → Agrees result (remainders d b least) →
    IfOk result (λ it. All (All (AllWithin n)) it)
members-within n d b least (Ok members) all_d all_b h = remainders-within n d b least members all_d all_b h
members-within n d b least (Err stop) all_d all_b h = tt
