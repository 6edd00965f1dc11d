-- The rules of the grammar where so many parentheses may be open.
use Rattle.std.proofs.Common.{◌≡◌, ℕ, zero, suc, List, ◌∷◌, [], ◌++◌, Some, None, Bool, true, false, Result, Ok, Err, refl, sym, ap, ◌∙◌, append_assoc, append-nil}
use Rattle.std.specs.Prelude.{⊤, if◌then◌else◌, OnOk, IfErr}
use Rattle.std.specs.Option.{option_map_or}
use Rattle.risch_expression.specs.Words.{after_byte}
use Rattle.risch_expression.specs.Fault.{unexpected}
use Rattle.risch_expression.specs.Results.{and_next}
use Rattle.risch_expression.specs.Tree.{Tree, negated, power}
use Rattle.risch_expression.specs.Program.{steps}
use Rattle.risch_expression.specs.Grammar.{Read, Parsed, Rule, wanted_number, atom, with_exponent, power_rule, product_sign, sum_sign, chain, term_rule, first_term, sum_rule, closed, opened, parenthesized, atom_in, power_in, term_in, sum_in}
use Rattle.risch_expression.specs.Taken.{Takes}
use Rattle.risch_expression.specs.Reading.{IsParsed, IsFaultOf, Reads, ReadsClosing, number_or}
use Rattle.risch_expression.specs.declared.fault.Cause.TheVariants.{Exponent}
use Rattle.risch_expression.specs.declared.fault.ReadFault.{ReadFault}
use Rattle.risch_expression.specs.declared.fault.ReadFault.TheVariants.{Syntax, Memory}
use Rattle.risch_expression.specs.declared.fault.SyntaxFault.{SyntaxFault}
use Rattle.risch_expression.specs.declared.names.Names.{Names}
use Rattle.risch_expression.specs.declared.program.Step.{Step}
use Rattle.risch_expression.specs.declared.program.Step.TheVariants.{Negated, Raised}
use Rattle.risch_expression.proofs.Chains.{fault_passes}

pub sum_in_is : (names : Names) (k : ℕ) (bytes : List ℕ) → sum_in names k bytes ≡ and_next (first_term (term_in names k) bytes (after_byte 45 bytes)) (chain sum_sign (term_in names k))
unfolding sum_in sum_rule
sum_in_is names k bytes = refl

pub term_in_is : (names : Names) (k : ℕ) (bytes : List ℕ) → term_in names k bytes ≡ and_next (power_in names k bytes) (chain product_sign (power_in names k))
unfolding term_in term_rule
term_in_is names k bytes = refl

power_in_is : (names : Names) (k : ℕ) (bytes : List ℕ) → power_in names k bytes ≡ and_next (atom_in names k bytes) (λ p. with_exponent k p (after_byte 94 p.rest))
unfolding power_in power_rule
power_in_is names k bytes = refl

atom_in_is : (names : Names) (k : ℕ) (bytes : List ℕ) → atom_in names k bytes ≡ number_or names bytes (parenthesized names k bytes)
unfolding atom_in atom
atom_in_is names k bytes = refl

parenthesized_is : (names : Names) (k : ℕ) (bytes : List ℕ) → parenthesized names (suc k) bytes ≡ option_map_or (opened k (sum_in names k)) (after_byte 40 bytes) (Err (unexpected (suc k) bytes))
unfolding sum_in term_in power_in atom_in
parenthesized_is names k bytes = refl

-- ---- atoms
pub atom_found : (names : Names) (k : ℕ) (bytes : List ℕ) (program_old program_new : List Step) (rest : List ℕ) →
    ((other : Read Parsed) → IsParsed (number_or names bytes other) program_old program_new rest) → IsParsed (atom_in names k bytes) program_old program_new rest
atom_found names k bytes program_old program_new rest h = rw (atom_in_is names k bytes) (h (parenthesized names k bytes))

pub atom_fault : (names : Names) (k : ℕ) (bytes : List ℕ) (fault : ReadFault) → ((other : Read Parsed) → IsFaultOf fault (number_or names bytes other)) → IsFaultOf fault (atom_in names k bytes)
atom_fault names k bytes fault h = rw (atom_in_is names k bytes) (h (parenthesized names k bytes))

pub atom_parenthesized : (result : Result ⊤ ReadFault) (names : Names) (k : ℕ) (bytes behind : List ℕ) (program_old program program_new : List Step) (rest : List ℕ) →
    ((other : Read Parsed) → number_or names bytes other ≡ other) → program ≡ program_old → behind ≡ bytes → Reads result (parenthesized names k behind) program program_new rest →
    Reads result (atom_in names k bytes) program_old program_new rest
atom_parenthesized result names k bytes behind program_old program program_new rest h kept same r =
    rw (atom_in_is names k bytes, h (parenthesized names k bytes), ← kept, ← same) r

-- ---- what stands in parentheses
pub parenthesized_fault : (names : Names) (open_left below : ℕ) (bytes inside : List ℕ) (fault : ReadFault) →
    open_left ≡ suc below → after_byte 40 bytes ≡ Some inside → IsFaultOf fault (sum_in names below inside) → IsFaultOf fault (parenthesized names open_left bytes)
parenthesized_fault names open_left below bytes inside fault n o h =
    rw (n, parenthesized_is names below bytes, o) (fault_passes fault (sum_in names below inside) (closed below) h)

pub parenthesized_read : (result : Result ⊤ ReadFault) (names : Names) (open_left inside : ℕ) (bytes after : List ℕ) (program_old program_new : List Step) (behind rest : List ℕ) →
    open_left ≡ suc inside → after_byte 40 bytes ≡ Some after → IsParsed (sum_in names inside after) program_old program_new behind → ReadsClosing result inside behind rest →
    Reads result (parenthesized names open_left bytes) program_old program_new rest
parenthesized_read (Ok u) names open_left inside bytes after program_old program_new behind rest n o p e = record {
  tree = p.tree;
  is = rw (n, parenthesized_is names inside bytes, o, p.is, e) refl;
  written = p.written;
}
parenthesized_read (Err fault) names open_left inside bytes after program_old program_new behind rest n o p e = rw (e.1, n, parenthesized_is names inside bytes, o, p.is, e.0) refl

pub parenthesized_other : (names : Names) (open_left : ℕ) (bytes : List ℕ) (f : SyntaxFault) → after_byte 40 bytes ≡ None → f ≡ unexpected open_left bytes →
    IsFaultOf (Syntax f) (parenthesized names open_left bytes)
parenthesized_other names zero bytes f o is = rw is refl
parenthesized_other names (suc n) bytes f o is = rw (parenthesized_is names n bytes, o, is) refl

pub parenthesized_deep : (names : Names) (open_left : ℕ) (bytes : List ℕ) (f : SyntaxFault) → open_left ≡ 0 → f ≡ unexpected open_left bytes → IsFaultOf (Syntax f) (parenthesized names open_left bytes)
parenthesized_deep names open_left bytes f z is = rw (is, z) refl

-- ---- powers
pub exponent_other : (k : ℕ) (bytes rest : List ℕ) (program_old program_new : List Step) → after_byte 94 bytes ≡ None → rest ≡ bytes → program_new ≡ program_old → (base : Tree) (before : List Step) →
    program_old ≡ before ++ steps base → IsParsed (with_exponent k (record { tree = base; rest = bytes }) (after_byte 94 bytes)) before program_new rest
exponent_other k bytes rest program_old program_new e same kept base before w = record { tree = base; is = rw (e, same) refl; written = kept ∙ w }

pub exponent_fault : (k : ℕ) (bytes after : List ℕ) (f : SyntaxFault) (fault : ReadFault) → after_byte 94 bytes ≡ Some after → wanted_number k 9999 Exponent after ≡ Err f → fault ≡ Syntax f → (base : Tree) →
    IsFaultOf fault (with_exponent k (record { tree = base; rest = bytes }) (after_byte 94 bytes))
exponent_fault k bytes after f fault e w s base = rw (s, e, w) refl

pub exponent_read : (result : Result ⊤ ReadFault) (k : ℕ) (bytes after rest : List ℕ) (n : ℕ) (program_old program_new : List Step) →
    after_byte 94 bytes ≡ Some after → wanted_number k 9999 Exponent after ≡ Ok (record { value = n; rest = rest }) → OnOk result (program_new ≡ program_old ++ Raised n ∷ []) →
    IfErr result (λ fault. fault ≡ Memory) → (base : Tree) (before : List Step) → program_old ≡ before ++ steps base →
    Reads result (with_exponent k (record { tree = base; rest = bytes }) (after_byte 94 bytes)) before program_new rest
exponent_read (Ok u) k bytes after rest n program_old program_new e f w none base before is = record {
  tree = power base n;
  is = rw (e, f) refl;
  written = rw (w, is) (simp append_assoc);
}
exponent_read (Err fault) k bytes after rest n program_old program_new e f w none base before is = rw none tt

pub power_read : (result : Result ⊤ ReadFault) (names : Names) (k : ℕ) (bytes : List ℕ) (program_old program program_new : List Step) (behind rest : List ℕ) →
    IsParsed (atom_in names k bytes) program_old program behind →
    ((base : Tree) (before : List Step) → program ≡ before ++ steps base → Reads result (with_exponent k (record { tree = base; rest = behind }) (after_byte 94 behind)) before program_new rest) →
    Reads result (power_in names k bytes) program_old program_new rest
power_read result names k bytes program_old program program_new behind rest p h = rw (power_in_is names k bytes, p.is) (h p.tree program_old p.written)

pub power_fault : (names : Names) (k : ℕ) (bytes : List ℕ) (fault : ReadFault) → IsFaultOf fault (atom_in names k bytes) → IsFaultOf fault (power_in names k bytes)
power_fault names k bytes fault h = rw (power_in_is names k bytes) (fault_passes fault (atom_in names k bytes) _ h)

-- ---- the first term of a sum
pub first_term_read : (result : Result ⊤ ReadFault) (minus : Bool) (term : Rule) (bytes behind : List ℕ) (program_old program program_new : List Step) (rest : List ℕ) →
    Takes minus (after_byte 45 bytes) bytes behind → IsParsed (term behind) program_old program rest →
    OnOk result (program_new ≡ program ++ (if minus then Negated ∷ [] else [])) → IfErr result (λ fault. fault ≡ Memory) →
    Reads result (first_term term bytes (after_byte 45 bytes)) program_old program_new rest
first_term_read (Ok u) true term bytes behind program_old program program_new rest e p w none = record {
  tree = negated p.tree;
  is = rw (e, p.is) refl;
  written = rw (w, p.written) (simp append_assoc);
}
first_term_read (Ok u) false term bytes behind program_old program program_new rest e p w none = record {
  tree = p.tree;
  is = rw e.0 (ap term (sym e.1) ∙ p.is);
  written = w ∙ append-nil program ∙ p.written;
}
first_term_read (Err fault) minus term bytes behind program_old program program_new rest e p w none = rw none tt

pub first_term_fault : (minus : Bool) (term : Rule) (bytes behind : List ℕ) (fault : ReadFault) → Takes minus (after_byte 45 bytes) bytes behind → IsFaultOf fault (term behind) →
    IsFaultOf fault (first_term term bytes (after_byte 45 bytes))
first_term_fault true term bytes behind fault e h = rw e (fault_passes fault (term behind) _ h)
first_term_fault false term bytes behind fault e h = rw (e.0, ← e.1) h

-- ---- a fault of the first operand
pub sum_fault : (names : Names) (k : ℕ) (bytes : List ℕ) (fault : ReadFault) → IsFaultOf fault (first_term (term_in names k) bytes (after_byte 45 bytes)) → IsFaultOf fault (sum_in names k bytes)
sum_fault names k bytes fault h = rw (sum_in_is names k bytes) (fault_passes fault (first_term (term_in names k) bytes (after_byte 45 bytes)) _ h)

pub term_fault : (names : Names) (k : ℕ) (bytes : List ℕ) (fault : ReadFault) → IsFaultOf fault (power_in names k bytes) → IsFaultOf fault (term_in names k bytes)
term_fault names k bytes fault h = rw (term_in_is names k bytes) (fault_passes fault (power_in names k bytes) _ h)
