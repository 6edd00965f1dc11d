-- The steps of the rules of the primitive remainder sequence.
--     trim_zero, trim_some      dropping zeros at the end
--     weight_more, weight_take      the weight
--     differences_end      the rest of the longer polynomial
--     leading-is, divisors_more, divisors_stop      the content
--     left-is, left_stops, right_stops, step_formed, pseudo_steps-more, pseudo_steps_stop      the pseudo-division
--     sequence_over, sequence_stops, sequence_ends, sequence_kept      the sequence
use Rattle.std.specs.Prelude.{nat_le, replicate, if◌then◌else◌, IfOk, Option, None, Some}
use Rattle.std.specs.Result.{IsErrAnd}
use Rattle.std.proofs.Common.{◌≡◌, refl, sym, subst, ap, ◌∙◌, ℕ, zero, suc, ◌+◌, ◌-◌, ◌≤◌, ◌<◌, min, leb, Bool, true, false, List, [], ◌∷◌, ◌++◌, map, take, drop, length, get_or, Result, Ok, Err, arith, append_assoc, append-nil, length-append, length-drop, ◌⊎◌, inl, inr}
use Rattle.std.proofs.lemmas.Bool.{leb-true, leb-false}
use Rattle.std.proofs.lemmas.Bool.Decides.{nat_tests}
use Rattle.std.proofs.lemmas.List.{take_all, take_min, take_more, get_or_append_left, get_or_push}
use Rattle.std.proofs.lemmas.Result.{err_from_is_err_and}
use Rattle.risch_field.specs.Checked.{Checked, Agrees, and_then, map_ok, IsStopOf}
use Rattle.risch_field.specs.declared.Fail.{Fail}
use Rattle.risch_field.proofs.CheckedSteps.{stop_passes}
use Rattle.risch_polynomial.specs.Poly as poly
use Rattle.risch_level.specs.Levels.{element}
use Rattle.risch_sub.specs.RemainderSequence.{InZ, Member, weight, with_first, trimmed, sized, leading, products_onto, differences_onto, pseudo_step, pseudo_steps, pseudo_remainder, divisor_with, divisor_of_all, primitive_part, part_of, following, next_member, remainders_from}

-- ---- steps in a row
and_then-assoc : {A B C : Type 0} (x : Checked A) (f : A → Checked B) (g : B → Checked C) → and_then (and_then x f) g ≡ and_then x (λ a. and_then (f a) g)
and_then-assoc (Ok a) f g = refl
and_then-assoc (Err stop) f g = refl

-- what holds of the value of a rule holds of an answer that agrees
pub agrees-if : {A : Type 0} (result : Result A Fail) (a : A) (P : A → Type 0) → P a → Agrees result (Ok a) → IfOk result P
agrees-if (Ok b) a P h e = let same : a ≡ b = cc in subst P same h
agrees-if (Err stop) a P h e = tt

pub rule-if : {A : Type 0} (result : Result A Fail) (rule : Checked A) (P : A → Type 0) → ((a : A) → rule ≡ Ok a → P a) → Agrees result rule → IfOk result P
rule-if (Ok a) rule P all e = all a e
rule-if (Err stop) rule P all e = tt

and_then-unit : {A : Type 0} (x : Checked A) → and_then x Ok ≡ x
and_then-unit (Ok a) = refl
and_then-unit (Err stop) = refl

-- ---- zeros at the end
with_first-some : (p : InZ) (m : Member) → 0 < length m → with_first p m ≡ p ∷ m
with_first-some [] [] some = absurd (omega arith)
with_first-some [] (q ∷ m) some = refl
with_first-some (c ∷ p) m some = refl

trimmed-zero : (m : Member) → trimmed (m ++ [] ∷ []) ≡ trimmed m
trimmed-zero [] = refl
trimmed-zero (p ∷ m) = ap (with_first p) (trimmed-zero m)

trimmed-some : (m : Member) (p : InZ) → 0 < length p → trimmed (m ++ p ∷ []) ≡ m ++ p ∷ []
trimmed-some [] [] some = absurd (omega arith)
trimmed-some [] (c ∷ p) some = refl
trimmed-some (q ∷ m) p some = ap (with_first q) (trimmed-some m p some) ∙ with_first-some q (m ++ p ∷ []) (omega (arith, length-append m (p ∷ [])))

-- the coefficient p at the end, which is 0 or is not
more : (m : Member) (i : ℕ) (p : InZ) → i < length m → p ≡ get_or m i p → take (i + 1) m ≡ take i m ++ p ∷ []
more m i p below is = take_more m i p below ∙ ap (λ (q : InZ). take i m ++ q ∷ []) (sym is)

last : (m : Member) (p : InZ) (left : ℕ) → 0 < left → left ≤ length m → p ≡ get_or m (left - 1) p → take left m ≡ take (left - 1) m ++ p ∷ []
last m p left some small is =
    let whole : left ≡ left - 1 + 1 = omega arith in
    ap (λ (n : ℕ). take n m) whole ∙ more m (left - 1) p (omega arith) is

none : (p : InZ) → poly.is_zero element p ≡ true → p ≡ []
none [] e = refl
none (c ∷ p) e = cc

pub trim_zero : (m : Member) (p : InZ) (left : ℕ) → 0 < left → left ≤ length m → p ≡ get_or m (left - 1) p → poly.is_zero element p ≡ true → trimmed (take left m) ≡ trimmed (take (left - 1) m)
trim_zero m p left some small is is_zero =
    ap trimmed (last m p left some small is ∙ ap (λ (q : InZ). take (left - 1) m ++ q ∷ []) (none p is_zero)) ∙ trimmed-zero (take (left - 1) m)

pub trim_some : (m : Member) (p : InZ) (left : ℕ) → 0 < left → left ≤ length m → p ≡ get_or m (left - 1) p → 0 < length p → trimmed (take left m) ≡ take left m
trim_some m p left some small is nonzero =
    ap trimmed (last m p left some small is) ∙ trimmed-some (take (left - 1) m) p nonzero ∙ sym (last m p left some small is)

-- ---- the weight
weight-append : (m n : Member) → weight (m ++ n) ≡ weight m + weight n
weight-append [] n = omega arith
weight-append (p ∷ m) n = let rest = weight-append m n in omega (arith, rest)

pub weight_more : (m : Member) (i : ℕ) (p : InZ) → i < length m → p ≡ get_or m i p → weight (take (i + 1) m) ≡ weight (take i m) + poly.weight element p
weight_more m i p below is = ap weight (more m i p below is) ∙ weight-append (take i m) (p ∷ []) ∙ omega arith

pub weight_take : (m : Member) (i : ℕ) → weight (take i m) ≤ weight m
weight_take [] zero = omega arith
weight_take [] (suc i) = omega arith
weight_take (p ∷ m) zero = omega arith
weight_take (p ∷ m) (suc i) = let rest = weight_take m i in omega (arith, rest)

-- the weight is beyond its limit where it is so far
pub heavy : (m : Member) (i w : ℕ) (p : InZ) → i < length m → p ≡ get_or m i p → w ≡ weight (take i m) → 65536 < w + poly.weight element p → false ≡ nat_le (weight m) 65536
heavy m i w p below is so_far large =
    let here = weight_more m i p below is in
    let whole = weight_take m (i + 1) in
    not_within (weight m) (omega (arith, here, whole, so_far, large))
  where
    not_within : (n : ℕ) → 65536 < n → false ≡ nat_le n 65536
    not_within n h = grind (arith, nat_tests)

-- ---- differences
differences-left : (formed m : Member) → differences_onto formed m [] ≡ Ok (formed ++ m)
differences-left formed [] = ap Ok (sym (append-nil formed))
differences-left formed (p ∷ m) = differences-left (formed ++ p ∷ []) m ∙ ap Ok (append_assoc formed (p ∷ []) m)

differences-right : (formed n : Member) → differences_onto formed [] n ≡ Ok (formed ++ map (poly.negatives element) n)
differences-right formed [] = ap Ok (sym (append-nil formed))
differences-right formed (q ∷ n) =
    differences-right (formed ++ poly.negatives element q ∷ []) n ∙ ap Ok (append_assoc formed (poly.negatives element q ∷ []) (map (poly.negatives element) n))

differences-rest : (formed m n : Member) → (length m ≡ 0) ⊎ (length n ≡ 0) → differences_onto formed m n ≡ Ok ((formed ++ m) ++ map (poly.negatives element) n)
differences-rest formed [] n h = differences-right formed n ∙ ap (λ (l : Member). Ok (l ++ map (poly.negatives element) n)) (sym (append-nil formed))
differences-rest formed (p ∷ m) [] h = differences-left formed (p ∷ m) ∙ ap Ok (sym (append-nil (formed ++ p ∷ m)))
differences-rest formed (p ∷ m) (q ∷ n) h = absurd (omega arith)

-- after the shorter polynomial the rest of the longer one follows
pub differences_end : (formed m n first second : Member) (i : ℕ) → i ≡ min (length m) (length n) →
    first ≡ formed ++ take (length m - i) (drop i m) → second ≡ first ++ map (poly.negatives element) (take (length n - i) (drop i n)) →
    differences_onto formed (drop i m) (drop i n) ≡ Ok second
differences_end formed m n first second i shorter e f =
    let m_rest : length (drop i m) ≡ length m - i = length-drop i m in
    let n_rest : length (drop i n) ≡ length n - i = length-drop i n in
    let m_all : take (length m - i) (drop i m) ≡ drop i m = take_all (length m - i) (drop i m) (omega arith) in
    let n_all : take (length n - i) (drop i n) ≡ drop i n = take_all (length n - i) (drop i n) (omega arith) in
    differences-rest formed (drop i m) (drop i n) (one_empty (length m) (length n) i (length (drop i m)) (length (drop i n)) shorter m_rest n_rest) ∙ rw (f, e, m_all, n_all) refl
  where
    one_empty : (a b i c d : ℕ) → i ≡ min a b → c ≡ a - i → d ≡ b - i → (c ≡ 0) ⊎ (d ≡ 0)
    one_empty a b i c d e f g = by_order (leb a b) refl
      where
        by_order : (t : Bool) → leb a b ≡ t → (c ≡ 0) ⊎ (d ≡ 0)
        by_order true h = inl (let le = leb-true a b h in omega arith)
        by_order false h = inr (let lt = leb-false a b h in omega arith)

-- ---- the content
pub leading-is : (m : Member) (p : InZ) → 0 < length m → p ≡ get_or m (length m - 1) p → leading m ≡ p
leading-is [] p some is = absurd (omega arith)
leading-is (q ∷ []) p some is = sym is
leading-is (q ∷ (q' ∷ m)) p some is =
    let place : length (q ∷ q' ∷ m) - 1 ≡ suc (length (q' ∷ m) - 1) = omega arith in
    leading-is (q' ∷ m) p (omega arith) (is ∙ ap (λ (n : ℕ). get_or (q ∷ q' ∷ m) n p) place)

divisor_of_all-push : (m : Member) (p g : InZ) → divisor_of_all (m ++ p ∷ []) g ≡ and_then (divisor_with g p) (divisor_of_all m)
divisor_of_all-push [] p g = sym (and_then-unit (divisor_with g p))
divisor_of_all-push (q ∷ m) p g =
    ap (λ (x : Checked InZ). and_then x (λ h. divisor_with h q)) (divisor_of_all-push m p g) ∙ and_then-assoc (divisor_with g p) (divisor_of_all m) (λ h. divisor_with h q)

divisor_of_all-last : (m : Member) (g p : InZ) (left : ℕ) → 0 < left → left ≤ length m → p ≡ get_or m (left - 1) p → divisor_of_all (take left m) g ≡ and_then (divisor_with g p) (divisor_of_all (take (left - 1) m))
divisor_of_all-last m g p left some small is = ap (λ (l : Member). divisor_of_all l g) (last m p left some small is) ∙ divisor_of_all-push (take (left - 1) m) p g

pub divisors_more : (m : Member) (g p h : InZ) (left : ℕ) → 0 < left → left ≤ length m → p ≡ get_or m (left - 1) p → divisor_with g p ≡ Ok h →
    divisor_of_all (take left m) g ≡ divisor_of_all (take (left - 1) m) h
divisors_more m g p h left some small is e = divisor_of_all-last m g p left some small is ∙ rw e refl

pub divisors_stop : (stop : Fail) (m : Member) (g p : InZ) (left : ℕ) → 0 < left → left ≤ length m → p ≡ get_or m (left - 1) p → IsStopOf stop (divisor_with g p) →
    IsStopOf stop (divisor_of_all (take left m) g)
divisors_stop stop m g p left some small is e = rw (divisor_of_all-last m g p left some small is) (stop_passes stop (divisor_with g p) (divisor_of_all (take (left - 1) m)) e)

-- ---- one step of the pseudo-division
-- a limited product goes on where it is formed
limited : {A : Type 0} (x : Checked Member) (next : Member → Checked A) (m : Member) → and_then x sized ≡ Ok m → and_then x (λ l. and_then (sized l) next) ≡ next m
limited x next m e = sym (and_then-assoc x sized next) ∙ rw e refl

limited_stops : {A : Type 0} (stop : Fail) (x : Checked Member) (next : Member → Checked A) → IsStopOf stop (and_then x sized) → IsStopOf stop (and_then x (λ l. and_then (sized l) next))
limited_stops stop x next e = rw (← and_then-assoc x sized next) (stop_passes stop (and_then x sized) next e)

module _ (b r : Member) (e : ℕ) where
  -- lc(b)·r below e + deg b
  abbrev pub left : Checked Member
  left = products_onto [] (leading b) (take (e + (length b - 1)) r)

  -- c·t^e·b below e + deg b
  abbrev pub right : Checked Member
  right = products_onto (replicate e []) (get_or r (e + (length b - 1)) []) (take (length b - 1) b)

  pub left-is : (p : InZ) (k : ℕ) → 0 < length b → p ≡ get_or b (length b - 1) p → k ≡ min (e + (length b - 1)) (length r) → products_onto [] p (take k r) ≡ left
  left-is p k some is place = rw (leading-is b p some is, place, take_min (e + (length b - 1)) r) refl

  less_right : Member → Checked Member
  less_right m = and_then right (λ n. and_then (sized n) (λ n. and_then (differences_onto [] m n) sized))

  step-is : pseudo_step b r e ≡ and_then left (λ m. and_then (sized m) less_right)
  unfolding pseudo_step less_right
  step-is = refl

  pub left_stops : (stop : Fail) → IsStopOf stop (and_then left sized) → IsStopOf stop (pseudo_step b r e)
  left_stops stop h = rw step-is (limited_stops stop left less_right h)

  pub right_stops : (stop : Fail) (m : Member) → and_then left sized ≡ Ok m → IsStopOf stop (and_then right sized) → IsStopOf stop (pseudo_step b r e)
  unfolding less_right
  right_stops stop m is h = rw (step-is, limited left less_right m is) (limited_stops stop right (λ n. and_then (differences_onto [] m n) sized) h)

  pub step_formed : (m n : Member) → and_then left sized ≡ Ok m → and_then right sized ≡ Ok n → pseudo_step b r e ≡ and_then (differences_onto [] m n) sized
  unfolding less_right
  step_formed m n is also = step-is ∙ limited left less_right m is ∙ limited right (λ n. and_then (differences_onto [] m n) sized) n also

-- ---- the steps of the pseudo-division
pub pseudo_steps-more : (b : Member) (left : ℕ) (r next : Member) → 0 < left → pseudo_step b r (left - 1) ≡ Ok next → pseudo_steps b left r ≡ pseudo_steps b (left - 1) next
pseudo_steps-more b zero r next some e = absurd (omega arith)
pseudo_steps-more b (suc left) r next some e =
    let less : suc left - 1 ≡ left = omega arith in
    let is : pseudo_step b r left ≡ Ok next = rw less at e in
    rw (less, is) refl

pub pseudo_steps_stop : (stop : Fail) (b : Member) (left : ℕ) (r : Member) → 0 < left → IsStopOf stop (pseudo_step b r (left - 1)) → IsStopOf stop (pseudo_steps b left r)
pseudo_steps_stop stop b zero r some e = absurd (omega arith)
pseudo_steps_stop stop b (suc left) r some e =
    let less : suc left - 1 ≡ left = omega arith in
    stop_passes stop (pseudo_step b r left) (pseudo_steps b left) (rw less at e)

-- ---- the sequence
-- the members with the one that follows, and those after it
abbrev continued : ℕ → ℕ → List Member → Member → Option Member → Checked (List Member)
continued least steps members b None = Ok members
continued least steps members b (Some m) = remainders_from least steps (members ++ m ∷ []) b m

by_following : (least steps : ℕ) (members : List Member) (a b : Member) → remainders_from least (suc steps) members a b ≡ and_then (following least a b) (continued least steps members b)
by_following least steps members a b = by_test (nat_le (length b) (least + 1))
  where
    by_part : (m : Checked Member) → and_then m (λ m. remainders_from least steps (members ++ m ∷ []) b m) ≡ and_then (map_ok Some m) (continued least steps members b)
    by_part (Ok m) = refl
    by_part (Err stop) = refl

    by_rest : (r : Checked Member) → and_then r (next_member (λ m. remainders_from least steps (members ++ m ∷ []) b m) members) ≡ and_then (and_then r part_of) (continued least steps members b)
    by_rest (Ok []) = refl
    by_rest (Ok (p ∷ r)) = by_part (primitive_part (p ∷ r))
    by_rest (Err stop) = refl

    by_test : (test : Bool) → (if test then Ok members else and_then (pseudo_remainder a b) (next_member (λ m. remainders_from least steps (members ++ m ∷ []) b m) members))
        ≡ and_then (if test then Ok None else and_then (pseudo_remainder a b) part_of) (continued least steps members b)
    by_test true = refl
    by_test false = by_rest (pseudo_remainder a b)

-- at the step i of n, where the members at i and i + 1 are the last
module _ (least n i : ℕ) (members : List Member) {rule : Checked (List Member)} (so_far : rule ≡ remainders_from least (n - i) members (get_or members i []) (get_or members (i + 1) [])) where
  pub sequence_over : n ≤ i → rule ≡ Ok members
  sequence_over h =
      let none : n - i ≡ 0 = omega arith in
      so_far ∙ ap (λ k. remainders_from least k members (get_or members i []) (get_or members (i + 1) [])) none

  module _ (below : i < n) where
    next_step : rule ≡ and_then (following least (get_or members i []) (get_or members (i + 1) [])) (continued least (n - (i + 1)) members (get_or members (i + 1) []))
    next_step =
        let one_less : n - i ≡ suc (n - (i + 1)) = omega arith in
        so_far ∙ ap (λ k. remainders_from least k members (get_or members i []) (get_or members (i + 1) [])) one_less
        ∙ by_following least (n - (i + 1)) members (get_or members i []) (get_or members (i + 1) [])

    module _ {read : List Member} (is : read ≡ members) where
      pub sequence_stops : (stop : Fail) (result : Result (List Member) Fail) → IsStopOf stop (following least (get_or read i []) (get_or read (i + 1) [])) → IsErrAnd result (λ s. s ≡ stop) → Agrees result rule
      sequence_stops stop result e is_err =
          let s = err_from_is_err_and result is_err in
          let here : IsStopOf stop (following least (get_or members i []) (get_or members (i + 1) [])) = rw is at e in
          rw (s.1, s.2, next_step) (stop_passes stop (following least (get_or members i []) (get_or members (i + 1) [])) (continued least (n - (i + 1)) members (get_or members (i + 1) [])) here)

      pub sequence_ends : following least (get_or read i []) (get_or read (i + 1) []) ≡ Ok None → rule ≡ Ok members
      sequence_ends e =
          let here : following least (get_or members i []) (get_or members (i + 1) []) ≡ Ok None = rw is at e in
          next_step ∙ rw here refl

      pub sequence_kept : {m : Member} {pushed : List Member} → length members ≡ i + 2 → following least (get_or read i []) (get_or read (i + 1) []) ≡ Ok (Some m) → pushed ≡ members ++ m ∷ [] →
          rule ≡ remainders_from least (n - (i + 1)) pushed (get_or pushed (i + 1) []) (get_or pushed (i + 1 + 1) [])
      sequence_kept {m} count e is_pushed =
          let here : following least (get_or members i []) (get_or members (i + 1) []) ≡ Ok (Some m) = rw is at e in
          let last_is : get_or (members ++ m ∷ []) (i + 1) [] ≡ get_or members (i + 1) [] = get_or_append_left members (m ∷ []) [] (i + 1) (omega arith) in
          let next_is : get_or (members ++ m ∷ []) (i + 1 + 1) [] ≡ m = get_or_push members m [] (i + 1 + 1) (omega arith) in
          next_step ∙ rw (here, is_pushed, last_is, next_is) refl
