-- Numbers and names at the front of the bytes.
use Rattle.std.proofs.Common.{◌≡◌, ℕ, List, ◌∷◌, [], ◌++◌, Option, Some, None, Result, Ok, Err, Bool, true, false, refl, ◌∙◌}
use Rattle.std.specs.Prelude.{IfOk, IfErr}
use Rattle.risch_frac.specs.Fraction.{whole}
use Rattle.risch_expression.specs.Words.{name}
use Rattle.risch_expression.specs.Fault.{fault_at, most_number}
use Rattle.risch_expression.specs.Tree.{Tree, number}
use Rattle.risch_expression.specs.Grammar.{Read, Parsed, number_found, named}
use Rattle.risch_expression.specs.Reading.{IsParsed, IsStepOf, ReadsOr, name_or, number_or}
use Rattle.risch_expression.specs.declared.fault.Cause.TheVariants.{Wide, Name as UnknownName}
use Rattle.risch_expression.specs.declared.fault.ReadFault.{ReadFault}
use Rattle.risch_expression.specs.declared.fault.ReadFault.TheVariants.{Syntax, Memory}
use Rattle.risch_expression.specs.declared.fault.SyntaxFault.{SyntaxFault}
use Rattle.risch_expression.specs.declared.names.Names.{Names}
use Rattle.risch_expression.specs.declared.program.Step.{Step}
use Rattle.risch_expression.specs.declared.program.Step.TheVariants.{Number}

-- ---- names
name_found : (names : Names) (bytes text rest : List ℕ) (step : Step) (program_old program_new : List Step) (other : Read Parsed) (tree : Option Tree) →
    name bytes ≡ Some (record { text = text; rest = rest }) → named names text ≡ tree → IsStepOf (Some step) tree → program_new ≡ program_old ++ step ∷ [] →
    IsParsed (name_or names bytes other) program_old program_new rest
name_found names bytes text rest step program_old program_new other None e is s w = absurd s
name_found names bytes text rest step program_old program_new other (Some tree) e is s w = record { tree = tree; is = rw (e, is) refl; written = rw (w, s) refl }

pub name_read : (result : Result Bool ReadFault) (names : Names) (bytes text rest : List ℕ) (step : Step) (program_old program_new : List Step) →
    name bytes ≡ Some (record { text = text; rest = rest }) → IsStepOf (Some step) (named names text) → IfOk result (λ read. (read ≡ true) × (program_new ≡ program_old ++ step ∷ [])) →
    IfErr result (λ fault. fault ≡ Memory) → ReadsOr result (name_or names bytes) program_old program_new bytes rest
name_read (Ok true) names bytes text rest step program_old program_new e s w f =
    λ other. name_found names bytes text rest step program_old program_new other (named names text) e refl s w.1
name_read (Ok false) names bytes text rest step program_old program_new e s w f = absurd (let no : false ≡ true = w.0 in cc)
name_read (Err fault) names bytes text rest step program_old program_new e s w f = λ other. rw f tt

pub name_unknown : (names : Names) (bytes text rest : List ℕ) (f : SyntaxFault) (program_old program_new : List Step) →
    name bytes ≡ Some (record { text = text; rest = rest }) → IsStepOf None (named names text) → f ≡ fault_at bytes UnknownName →
    ReadsOr (Err (Syntax f)) (name_or names bytes) program_old program_new bytes rest
name_unknown names bytes text rest f program_old program_new e s is = λ other. rw (e, s, is) refl

pub name_other : (names : Names) (bytes rest : List ℕ) (program_old program_new : List Step) → name bytes ≡ None → rest ≡ bytes → program_new ≡ program_old →
    ReadsOr (Ok false) (name_or names bytes) program_old program_new bytes rest
name_other names bytes rest program_old program_new e same kept = (λ other. rw e refl, (kept, same))

-- ---- numbers
pub number_read : (result : Result Bool ReadFault) (names : Names) (bytes rest : List ℕ) (n : ℕ) (step : Step) (program_old program_new : List Step) →
    number_found most_number Wide bytes ≡ Some (Ok (record { value = n; rest = rest })) → step ≡ Number (whole n) →
    IfOk result (λ read. (read ≡ true) × (program_new ≡ program_old ++ step ∷ [])) → IfErr result (λ fault. fault ≡ Memory) →
    ReadsOr result (number_or names bytes) program_old program_new bytes rest
number_read (Ok true) names bytes rest n step program_old program_new e is w f = λ other. record { tree = number n; is = rw e refl; written = rw (w.1, is) refl }
number_read (Ok false) names bytes rest n step program_old program_new e is w f = absurd (let no : false ≡ true = w.0 in cc)
number_read (Err fault) names bytes rest n step program_old program_new e is w f = λ other. rw f tt

pub number_wide : (names : Names) (bytes rest : List ℕ) (f : SyntaxFault) (fault : ReadFault) (program_old program_new : List Step) →
    number_found most_number Wide bytes ≡ Some (Err f) → fault ≡ Syntax f → ReadsOr (Err fault) (number_or names bytes) program_old program_new bytes rest
number_wide names bytes rest f fault program_old program_new e s = λ other. rw (s, e) refl

pub number_other : (result : Result Bool ReadFault) (names : Names) (bytes behind rest : List ℕ) (program_old program_new : List Step) →
    number_found most_number Wide bytes ≡ None → behind ≡ bytes → ReadsOr result (name_or names behind) program_old program_new behind rest →
    ReadsOr result (number_or names bytes) program_old program_new bytes rest
number_other (Ok true) names bytes behind rest program_old program_new e same h = λ other. rw (e, ← same) (h other)
number_other (Ok false) names bytes behind rest program_old program_new e same h = (λ other. rw (e, ← same) (h.0 other), (h.1.0, h.1.1 ∙ same))
number_other (Err fault) names bytes behind rest program_old program_new e same h = λ other. rw (e, ← same) (h other)
