-- The loop over the steps of an expression: what is left to run.
use Rattle.std.proofs.Common.{◌≡◌, ℕ, suc, ◌<◌, ◌≤◌, List, [], ◌∷◌, length, drop, get_or, Result, Ok, refl, sym, ap, ◌∙◌, drop-cons}
use Rattle.std.proofs.lemmas.List.{drop_all}
use Rattle.risch_level.specs.Levels.{Element}
use Rattle.risch_expression.specs.Results.{and_next, map_value}
use Rattle.risch_expression.specs.Evaluation.{Valued, apply, run, top, result_of, IsValueFaultOf, Answers}
use Rattle.risch_expression.specs.declared.fault.ValueFault.{ValueFault}
use Rattle.risch_expression.specs.declared.fault.ValueFault.TheVariants.{DivisionByZero, Shape, Overflow, Size, Memory}
use Rattle.risch_expression.specs.declared.program.Step.{Step}

-- a fault ends a rule
pub fault_passes : {A B : Type 0} (fault : ValueFault) (rule : Valued A) (next : A → Valued B) → IsValueFaultOf fault rule → IsValueFaultOf fault (and_next rule next)
fault_passes (DivisionByZero left) rule next h = rw h refl
fault_passes Shape rule next h = rw h refl
fault_passes (Overflow op) rule next h = rw h refl
fault_passes Size rule next h = rw h refl
fault_passes Memory rule next h = tt

pub fault_stays : {A B : Type 0} (fault : ValueFault) (rule : Valued A) (f : A → B) → IsValueFaultOf fault rule → IsValueFaultOf fault (map_value f rule)
fault_stays (DivisionByZero left) rule f h = rw h refl
fault_stays Shape rule f h = rw h refl
fault_stays (Overflow op) rule f h = rw h refl
fault_stays Size rule f h = rw h refl
fault_stays Memory rule f h = tt

-- ---- the loop
pub run_stops : (fault : ValueFault) (all : List Step) (stack : List (List Element)) (i : ℕ) (step : Step) → run all [] ≡ run (drop i all) stack → i < length all →
    step ≡ get_or all i step → IsValueFaultOf fault (apply step stack) → IsValueFaultOf fault (run all [])
run_stops fault all stack i step e h is s =
    let front : drop i all ≡ step ∷ drop (suc i) all = drop-cons all i step h ∙ ap (λ x. x ∷ drop (suc i) all) (sym is) in
    rw (e ∙ ap (λ rest. run rest stack) front) (fault_passes fault (apply step stack) (run (drop (suc i) all)) s)

pub run_done : (all : List Step) (stack : List (List Element)) (i : ℕ) → run all [] ≡ run (drop i all) stack → length all ≤ i → run all [] ≡ Ok stack
run_done all stack i e h = e ∙ ap (λ r. run r stack) (drop_all i all h)

-- ---- the value on the top
pub top_stops : (fault : ValueFault) (all : List Step) → IsValueFaultOf fault (run all []) → IsValueFaultOf fault (result_of all)
unfolding result_of
top_stops fault all s = fault_stays fault (run all []) top s

pub top_left : (answer : Result (List Element) ValueFault) (all : List Step) (stack : List (List Element)) → run all [] ≡ Ok stack → Answers answer (Ok (top stack)) → Answers answer (result_of all)
unfolding result_of
top_left answer all stack e h = rw e h
