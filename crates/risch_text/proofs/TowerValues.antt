-- The monomials of tower lines, one after the other.
use Rattle.std.proofs.Common.{◌≡◌, ℕ, suc, ◌+◌, ◌≤◌, ◌<◌, List, [], ◌∷◌, length, map, drop, get_or, Ok, Err, refl, sym, ap, ◌∙◌, arith, drop-cons, add-one, false}
use Rattle.std.proofs.lemmas.List.{drop_all, length-map}
use Rattle.risch_level.specs.Levels.{Element}
use Rattle.risch_tower.specs.declared.level.Level.{Level}
use Rattle.risch_expression.specs.Results.{and_next}
use Rattle.risch_expression.specs.Grammar.{Read}
use Rattle.risch_text.specs.File.{TowerLine, ProblemTree}
use Rattle.risch_text.specs.Values.{Reading, element_at, with_line, with_lines, problem_value}
use Rattle.risch_text.specs.Programs.{tower_program, problem_program, AreOver, IsProblemOver, IsProgramOver, AreProgramsOver, IsProblemProgramOver}
use Rattle.risch_text.specs.Reading.{IsEndOf, IsWholeProblem}
use Rattle.risch_text.specs.declared.fault.Fault.{Fault}
use Rattle.risch_text.specs.declared.fault.Fault.TheVariants.{Syntax, Refused, Stopped, Memory}
use Rattle.risch_text.specs.declared.programs.TowerProgram.{TowerProgram}
use Rattle.risch_text.specs.declared.programs.ProblemProgram.{ProblemProgram}
use Rattle.risch_text.proofs.Places.{item_at}

-- ---- the steps of expressions over the monomials below
pub programs_over : (n : ℕ) (lines : List TowerLine) → AreOver n lines → AreProgramsOver n (map tower_program lines)
programs_over n [] o = tt
programs_over n (l ∷ lines) o = (record { tree = l.argument; written = refl; over = o.0 }, programs_over (suc n) lines o.1)

pub problem_over : (tree : ProblemTree) (program : ProblemProgram) → program ≡ problem_program tree → IsProblemOver tree → IsProblemProgramOver program
problem_over tree program e o = rw e (record {
  tower = programs_over 1 tree.tower o.tower;
  integrand = record { tree = tree.integrand; written = refl; over = rw (length-map tree.tower tower_program) o.integrand };
})

pub whole_problem_over : (rule : Read ProblemTree) (program : ProblemProgram) → IsWholeProblem rule program → IsProblemProgramOver program
whole_problem_over rule program p = problem_over p.tree program p.written p.over

-- ---- lines
-- The monomials of the first lines are in the tower: the rule is the same from here on.
pub record IsTowerBuilt (programs : List TowerProgram) (i : ℕ) (tower : List Level) : Type 0 where
  pub over : AreProgramsOver (length tower + 1) (drop i programs)
  pub value : (lines : List TowerLine) → programs ≡ map tower_program lines → with_lines tower (drop i lines) ≡ with_lines [] lines
  pub height : length tower ≡ i

pub built_begin : (programs : List TowerProgram) (tower : List Level) → tower ≡ [] → AreProgramsOver 1 programs → IsTowerBuilt programs 0 tower
built_begin programs tower e o = rw e (record { over = o; value = λ lines w. refl; height = refl })

module _ (programs : List TowerProgram) (i : ℕ) (tower : List Level) (s : IsTowerBuilt programs i tower) where
  pub built_over : (program : TowerProgram) → i < length programs → program ≡ get_or programs i program → IsProgramOver (length tower + 1) false program.argument
  built_over program low e =
      let over = s.over in
      let here = rw (drop-cons programs i program low) at over in
      rw e here.0

  -- the rule at the next line
  next : (program : TowerProgram) → i < length programs → program ≡ get_or programs i program → (lines : List TowerLine) → programs ≡ map tower_program lines →
      (tower_next : Reading (List Level)) → ((l : TowerLine) → program ≡ tower_program l → with_line tower l ≡ tower_next) →
      with_lines [] lines ≡ and_next tower_next (λ more. with_lines more (drop (suc i) lines))
  next program low e lines w tower_next rule =
      let l = item_at tower_program programs lines i program w low e in
      sym (s.value lines w) ∙ ap (with_lines tower) l.here ∙ ap (λ r. and_next r (λ more. with_lines more (drop (suc i) lines))) (rule l.item l.image_is)

  pub built_more : (program : TowerProgram) (tower_new : List Level) → i < length programs → program ≡ get_or programs i program →
      ((l : TowerLine) → program ≡ tower_program l → with_line tower l ≡ Ok tower_new) → length tower_new ≡ length tower + 1 → IsTowerBuilt programs (i + 1) tower_new
  built_more program tower_new low e rule higher = record {
    over =
        let over = s.over in
        let here = rw (drop-cons programs i program low) at over in
        simp (higher, add-one) (simp add-one at here.1);
    value = λ lines w. simp add-one (sym (next program low e lines w (Ok tower_new) rule));
    height = omega (arith, s.height);
  }

  pub built_fault : (program : TowerProgram) (fault : Fault) → i < length programs → program ≡ get_or programs i program →
      ((l : TowerLine) → program ≡ tower_program l → IsEndOf fault (with_line tower l)) → (lines : List TowerLine) → programs ≡ map tower_program lines → IsEndOf fault (with_lines [] lines)
  built_fault program (Syntax f) low e rule lines w = next program low e lines w (Err (Syntax f)) rule
  built_fault program (Refused left cause) low e rule lines w = next program low e lines w (Err (Refused left cause)) rule
  built_fault program (Stopped stop) low e rule lines w = next program low e lines w (Err (Stopped stop)) rule
  built_fault program Memory low e rule lines w = tt

  pub built_done : length programs ≤ i → (lines : List TowerLine) → programs ≡ map tower_program lines → with_lines [] lines ≡ Ok tower
  built_done high lines w =
      let long : length lines ≤ i = omega (arith, ap length w, length-map lines tower_program) in
      sym (s.value lines w) ∙ ap (with_lines tower) (drop_all i lines long)

-- ---- the values of a problem
pub tower_ends : (tree : ProblemTree) (fault : Fault) → IsEndOf fault (with_lines [] tree.tower) → IsEndOf fault (problem_value tree)
unfolding problem_value
tower_ends tree (Syntax f) h = rw h refl
tower_ends tree (Refused left cause) h = rw h refl
tower_ends tree (Stopped stop) h = rw h refl
tower_ends tree Memory h = tt

pub integrand_ends : (tree : ProblemTree) (tower : List Level) (fault : Fault) → with_lines [] tree.tower ≡ Ok tower → IsEndOf fault (element_at 0 tree.integrand) → IsEndOf fault (problem_value tree)
unfolding problem_value
integrand_ends tree tower (Syntax f) e h = rw (e, h) refl
integrand_ends tree tower (Refused left cause) e h = rw (e, h) refl
integrand_ends tree tower (Stopped stop) e h = rw (e, h) refl
integrand_ends tree tower Memory e h = tt

pub problem_is : (tree : ProblemTree) (tower : List Level) (integrand : Element) → with_lines [] tree.tower ≡ Ok tower → element_at 0 tree.integrand ≡ Ok integrand →
    problem_value tree ≡ Ok (record { tower = tower; integrand = integrand })
unfolding problem_value
problem_is tree tower integrand e h = rw (e, h) refl
