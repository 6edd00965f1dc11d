use Rattle.std.proofs.Common.{ap, ◌≡◌, ◌∙◌, ◌⊎◌, sym, subst, [], List, ℕ, Result, Ok, Err, IsErrAnd, IsErrOf}
use Rattle.clap.specs.Matches.{found_of}
use Rattle.clap.specs.Simple.{App, app_of, is_simple, matches_of}
use Rattle.clap.specs.Faults.{fault_of, is_simple_and_free}
use Rattle.clap.specs.Kinds.{IsAmong}
use Rattle.clap.specs.Values.{kind_of}
use Rattle.clap.specs.Walk.{rows_of}
use Rattle.clap.specs.declared.error.kind.ErrorKind.{ErrorKind}
use Rattle.clap.specs.declared.error.kind.ErrorKind.TheVariants.{OutOfMemory}
use Rattle.risch_words.specs.declared.fault.WordsFault.{WordsFault}
use Rattle.risch_words.specs.declared.fault.WordsFault.TheVariants.{Usage}
use Rattle.risch_words.specs.Fault.{fault_of as fault_for}
use Rattle.risch_words.specs.Line.{line}
use Rattle.risch_words.specs.Words.{texts}
use Rattle.risch_words.proofs.Agreement.{asked_fault, asked_read}
use Rattle.risch_words.proofs.Rules.{is_free_line, is_simple_line}
use Rattle.risch_words.proofs.line.parse.Goals as goal

-- the error that a result is
error_is : {T : Type 0} (r : Result T WordsFault) (fault : WordsFault) → IsErrAnd r (λ e. e ≡ fault) → IsErrOf r Usage → fault ≡ Usage
error_is (Ok x) fault is usage = absurd is
error_is (Err e) fault is usage = let same : e ≡ Usage = cc in sym is ∙ same

pub returns-in_err-matches-clause-usage : goal.returns-in_err-matches-clause-usage
returns-in_err-matches-clause-usage c =
    let line_is : app_of c.in_ok-line.line ≡ line = c.in_ok-line.ensures in
    let words : List (List ℕ) = texts c.args.words.now in
    let kind : ErrorKind = kind_of c.in_err-matches.field-0.0 in
    let kinds : (kind ≡ OutOfMemory) ⊎ IsAmong kind (fault_of (app_of c.in_ok-line.line) words) = c.in_err-matches.ensures.kinds (ap is_simple_and_free line_is ∙ is_free_line) in
    let P : App → Type 0 = λ a. (kind ≡ OutOfMemory) ⊎ IsAmong kind (fault_of a words) in
    λ usage. asked_fault words kind (subst P line_is kinds) (error_is c.from_residual-in_err-matches.result (fault_for kind) c.from_residual-in_err-matches.ensures.1 usage)

pub returns : goal.returns
returns c =
    let line_is : app_of c.in_ok-line.line ≡ line = c.in_ok-line.ensures in
    let words : List (List ℕ) = texts c.args.words.now in
    let none : fault_of (app_of c.in_ok-line.line) words ≡ [] = c.in_ok-matches.ensures.kinds (ap is_simple_and_free line_is ∙ is_free_line) in
    let same : rows_of (found_of c.in_ok-matches.matches) ≡ matches_of (app_of c.in_ok-line.line) words = (c.in_ok-matches.ensures.matches (ap is_simple line_is ∙ is_simple_line)).0 in
    let P : App → Type 0 = λ a. fault_of a words ≡ [] in
    let Q : App → Type 0 = λ a. rows_of (found_of c.in_ok-matches.matches) ≡ matches_of a words in
    record {
      read = asked_read words (rows_of (found_of c.in_ok-matches.matches)) (subst P line_is none) (subst Q line_is same);
      usage = λ h. cc;
    }
