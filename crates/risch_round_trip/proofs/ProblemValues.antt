-- The value of a problem does not depend on the places in its file; and how many monomials its tower has.
use Rattle.std.specs.Prelude.{nat_lt, if◌then◌else◌, map}
use Rattle.std.proofs.Common.{◌≡◌, ℕ, ◌+◌, ◌≤◌, ◌<◌, List, [], ◌∷◌, ◌++◌, length, Bool, true, false, Result, Ok, Err, refl, sym, ap, subst, ◌∙◌, arith}
use Rattle.std.proofs.lemmas.Bool.{ltb-true}
use Rattle.std.proofs.lemmas.List.{length-append}
use Rattle.risch_level.specs.Levels.{Element}
use Rattle.risch_derivation.specs.declared.rate.Rate.{Rate}
use Rattle.risch_tower.specs.Tower.{derivative, with_level, rate_of, pushed}
use Rattle.risch_tower.specs.declared.level.Level.{Level}
use Rattle.risch_tower.specs.declared.level.Monomial.{Monomial}
use Rattle.risch_tower.specs.declared.fault.PushFault.{PushFault}
use Rattle.risch_tower.specs.declared.fault.PushFault.TheVariants.{TooHigh, ZeroArgument, ConstantArgument, Overflow, Size, Memory}
use Rattle.risch_expression.specs.Results.{and_next}
use Rattle.risch_expression.specs.Tree.{Tree}
use Rattle.risch_expression.specs.Evaluation.{Valued, element_value}
use Rattle.risch_expression.specs.declared.fault.ValueFault.TheVariants as stop
use Rattle.risch_text.specs.File.{TowerLine, ProblemTree}
use Rattle.risch_text.specs.Problem.{ProblemValue}
use Rattle.risch_text.specs.Values.{Reading, fault_of_value, fault_of_push, map_fault, element_at, monomial_with, with_line, with_lines, problem_value}
use Rattle.risch_text.specs.Read.{problem_answer}
use Rattle.risch_text.specs.declared.problem.ReadProblem.TheVariants.{Problem}
use Rattle.risch_round_trip.proofs.FurtherGrammar.{unplaced}
use Rattle.risch_round_trip.proofs.FurtherProblems.{unplaced_line, SameProblem}
use Rattle.risch_round_trip.proofs.Places.{same_element-unplaced}

-- ---- what is formed first
pub record IsNext {A B E : Type 0} (value : Result A E) (next : A → Result B E) (r : B) : Type 0 where
  pub first : A
  pub is : value ≡ Ok first
  pub after : next first ≡ Ok r

pub next_ok : {A B E : Type 0} (value : Result A E) (next : A → Result B E) (r : B) → and_next value next ≡ Ok r → IsNext value next r
next_ok (Ok a) next r h = record { first = a; is = refl; after = h }
next_ok (Err fault) next r h = absurd (cc)

value-ok : {A : Type 0} (start : ℕ) (value : Valued A) (a : A) → map_fault (fault_of_value start) value ≡ Ok a → value ≡ Ok a
value-ok start (Ok b) a h = let is : b ≡ a = cc in ap Ok is
value-ok start (Err fault) a h = absurd (cc)

push-ok : (left : ℕ) (value : Result (List Level) PushFault) (r : List Level) → map_fault (fault_of_push left) value ≡ Ok r → value ≡ Ok r
push-ok left (Ok s) r h = let is : s ≡ r = cc in ap Ok is
push-ok left (Err fault) r h = absurd (cc)

-- ---- places
element-same : (start other : ℕ) (a b : Tree) (e : Element) → unplaced a ≡ unplaced b → element_at start a ≡ Ok e → element_at other b ≡ Ok e
unfolding element_at
element-same start other a b e same h =
    ap (map_fault (fault_of_value other)) (same_element-unplaced a b e same (value-ok start (element_value a) e h))

line-same : (levels : List Level) (l m : TowerLine) (r : List Level) → unplaced_line l ≡ unplaced_line m → with_line levels l ≡ Ok r → with_line levels m ≡ Ok r
unfolding with_line
line-same levels l m r same h =
    let n = next_ok (element_at l.left l.argument) _ r h in
    let kind : l.exponential ≡ m.exponential = ap (λ x. x.exponential) same in
    let argument : unplaced l.argument ≡ unplaced m.argument = ap (λ x. x.argument) same in
    ap (λ v. and_next v (λ a. map_fault (fault_of_push m.left) (pushed levels (monomial_with m.exponential a)))) (element-same l.left m.left l.argument m.argument n.first argument n.is)
    ∙ ap (λ k. map_fault (fault_of_push m.left) (pushed levels (monomial_with k n.first))) (sym kind)
    ∙ ap (map_fault (fault_of_push m.left)) (push-ok l.left (pushed levels (monomial_with l.exponential n.first)) r n.after)

lines-same : (levels : List Level) (ls ms : List TowerLine) (r : List Level) → map unplaced_line ls ≡ map unplaced_line ms → with_lines levels ls ≡ Ok r → with_lines levels ms ≡ Ok r
lines-same levels [] [] r same h = h
lines-same levels [] (m ∷ ms) r same h = absurd (cc)
lines-same levels (l ∷ ls) [] r same h = absurd (cc)
lines-same levels (l ∷ ls) (m ∷ ms) r same h =
    let n = next_ok (with_line levels l) (λ more. with_lines more ls) r h in
    let first : unplaced_line l ≡ unplaced_line m = cc in
    let others : map unplaced_line ls ≡ map unplaced_line ms = cc in
    ap (λ v. and_next v (λ more. with_lines more ms)) (line-same levels l m n.first first n.is) ∙ lines-same n.first ls ms r others n.after

-- the problem of the lines without places is that of the lines with them
pub problem-same : (p q : ProblemTree) (problem : ProblemValue) → SameProblem p q → problem_value p ≡ Ok problem → problem_value q ≡ Ok problem
unfolding problem_value
problem-same p q problem same h =
    let n = next_ok (with_lines [] p.tower) _ problem h in
    let m = next_ok (element_at 0 p.integrand) _ problem n.after in
    let lines : map unplaced_line p.tower ≡ map unplaced_line q.tower = ap (λ x. x.tower) same in
    let integrand : unplaced p.integrand ≡ unplaced q.integrand = ap (λ x. x.integrand) same in
    ap (λ v. and_next v (λ tower. and_next (element_at 0 q.integrand) (λ integrand. Ok (record { tower = tower; integrand = integrand })))) (lines-same [] p.tower q.tower n.first lines n.is)
    ∙ ap (λ v. and_next v (λ integrand. Ok (record { tower = n.first; integrand = integrand }))) (element-same 0 0 p.integrand q.integrand m.first integrand m.is)
    ∙ m.after

-- ---- what is answered
-- a value, or what is told as no problem
abbrev NoProblem : {A : Type 0} → Reading A → Type 0
NoProblem (Ok a) = Unit {0}
NoProblem (Err end) = (size : ℕ) (problem : ProblemValue) → problem_answer size (Err end) ≡ Problem problem → ⊥

next-tells : {A B : Type 0} (value : Reading A) (next : A → Reading B) → NoProblem value → ((a : A) → NoProblem (next a)) → NoProblem (and_next value next)
next-tells (Ok a) next f g = g a
next-tells (Err end) next f g = f

value-tells : {A : Type 0} (start : ℕ) (value : Valued A) → NoProblem (map_fault (fault_of_value start) value)
value-tells start (Ok a) = tt
value-tells start (Err (stop.DivisionByZero left)) = λ size problem h. absurd (cc)
value-tells start (Err stop.Shape) = λ size problem h. absurd (cc)
value-tells start (Err (stop.Overflow op)) = λ size problem h. absurd (cc)
value-tells start (Err stop.Size) = λ size problem h. absurd (cc)
value-tells start (Err stop.Memory) = λ size problem h. absurd (cc)

push-tells : (left : ℕ) (value : Result (List Level) PushFault) → NoProblem (map_fault (fault_of_push left) value)
push-tells left (Ok r) = tt
push-tells left (Err TooHigh) = λ size problem h. absurd (cc)
push-tells left (Err ZeroArgument) = λ size problem h. absurd (cc)
push-tells left (Err ConstantArgument) = λ size problem h. absurd (cc)
push-tells left (Err (Overflow op)) = λ size problem h. absurd (cc)
push-tells left (Err Size) = λ size problem h. absurd (cc)
push-tells left (Err Memory) = λ size problem h. absurd (cc)

element-tells : (start : ℕ) (a : Tree) → NoProblem (element_at start a)
unfolding element_at
element-tells start a = value-tells start (element_value a)

line-tells : (levels : List Level) (l : TowerLine) → NoProblem (with_line levels l)
unfolding with_line
line-tells levels l =
    next-tells (element_at l.left l.argument) _ (element-tells l.left l.argument) (λ a. push-tells l.left (pushed levels (monomial_with l.exponential a)))

lines-tell : (levels : List Level) (ls : List TowerLine) → NoProblem (with_lines levels ls)
lines-tell levels [] = tt
lines-tell levels (l ∷ ls) = next-tells (with_line levels l) (λ more. with_lines more ls) (line-tells levels l) (λ more. lines-tell more ls)

problem-tells : (p : ProblemTree) → NoProblem (problem_value p)
unfolding problem_value
problem-tells p = next-tells (with_lines [] p.tower) _ (lines-tell [] p.tower) (λ tower. next-tells (element_at 0 p.integrand) _ (element-tells 0 p.integrand) (λ integrand. tt))

-- what is answered as a problem is the value
pub problem-answered : (size : ℕ) (p : ProblemTree) (problem : ProblemValue) → problem_answer size (problem_value p) ≡ Problem problem → problem_value p ≡ Ok problem
problem-answered size p problem h = by_value (problem_value p) (problem-tells p) h
  where
    by_value : (value : Reading ProblemValue) → NoProblem value → problem_answer size value ≡ Problem problem → value ≡ Ok problem
    by_value (Ok q) t k = let is : q ≡ problem = cc in ap Ok is
    by_value (Err end) t k = absurd (t size problem k)

-- ---- the height of the tower
-- one more, and 4 at most
record IsHigher (levels r : List Level) : Type 0 where
  more : length r ≡ length levels + 1
  most : length r ≤ 4

pushed-higher : (levels r : List Level) (monomial : Monomial) → pushed levels monomial ≡ Ok r → IsHigher levels r
unfolding pushed
pushed-higher levels r monomial h = by_test (nat_lt (length levels) 4) refl h
  where
    by_rate : length levels < 4 → (rate : Result (Rate Element) PushFault) → with_level levels monomial rate ≡ Ok r → IsHigher levels r
    by_rate low (Err refusal) e = absurd (cc)
    by_rate low (Ok rate) e =
        let is : levels ++ (record { monomial = monomial; rate = rate }) ∷ [] ≡ r = cc in
        let long : length r ≡ length levels + 1 = ap length (sym is) ∙ length-append levels ((record { monomial = monomial; rate = rate }) ∷ []) in
        record { more = long; most = omega (arith, long, low) }

    by_test : (t : Bool) → nat_lt (length levels) 4 ≡ t → (if t then with_level levels monomial (rate_of (derivative levels) monomial) else Err TooHigh) ≡ Ok r → IsHigher levels r
    by_test true e k = by_rate (ltb-true (length levels) 4 e) (rate_of (derivative levels) monomial) k
    by_test false e k = absurd (cc)

line-higher : (levels r : List Level) (l : TowerLine) → with_line levels l ≡ Ok r → IsHigher levels r
unfolding with_line
line-higher levels r l h =
    let n = next_ok (element_at l.left l.argument) _ r h in
    pushed-higher levels r (monomial_with l.exponential n.first) (push-ok l.left (pushed levels (monomial_with l.exponential n.first)) r n.after)

-- as many monomials as lines, and 4 at most
pub record HasHeight (n : ℕ) (r : List Level) : Type 0 where
  pub is : length r ≡ n
  pub most : length r ≤ 4

lines-high : (levels : List Level) (ls : List TowerLine) (r : List Level) → length levels ≤ 4 → with_lines levels ls ≡ Ok r → HasHeight (length levels + length ls) r
lines-high levels [] r low h = let is : levels ≡ r = cc in let long : length levels ≡ length r = ap length is in record { is = omega (arith, long); most = omega (arith, long, low) }
lines-high levels (l ∷ ls) r low h =
    let n = next_ok (with_line levels l) (λ more. with_lines more ls) r h in
    let up = line-higher levels n.first l n.is in
    let rest = lines-high n.first ls r up.most n.after in
    let long = rest.is in
    let more = up.more in
    record { is = omega (arith, long, more); most = rest.most }

pub problem-high : (p : ProblemTree) (problem : ProblemValue) → problem_value p ≡ Ok problem → HasHeight (length p.tower) problem.tower
unfolding problem_value
problem-high p problem h =
    let n = next_ok (with_lines [] p.tower) _ problem h in
    let m = next_ok (element_at 0 p.integrand) _ problem n.after in
    let is : ◌≡◌ {A = ProblemValue} (record { tower = n.first; integrand = m.first }) problem = same_ok (record { tower = n.first; integrand = m.first }) problem m.after in
    let high = lines-high [] p.tower n.first (omega arith) n.is in
    let long = high.is in
    subst (λ (q : ProblemValue). HasHeight (length p.tower) q.tower) is (record { is = omega (arith, long); most = high.most })
  where
    same_ok : (a b : ProblemValue) → ◌≡◌ {A = Reading ProblemValue} (Ok a) (Ok b) → a ≡ b
    same_ok a b e = cc
