-- A first operand, and any number of signs each with an operand.
use Rattle.std.proofs.Common.{◌≡◌, ℕ, zero, suc, List, ◌∷◌, [], ◌++◌, length, Option, Some, None, refl, sym, ap, ◌∙◌, append_assoc, Ok}
use Rattle.risch_expression.specs.Results.{and_next}
use Rattle.risch_expression.specs.Tree.{Tree}
use Rattle.risch_expression.specs.Program.{steps}
use Rattle.risch_expression.specs.Grammar.{Read, Parsed, Rule, Sign, joined, joined_by, joined_by_sign, chain}
use Rattle.risch_expression.specs.Reading.{IsParsed, IsFaultOf}
use Rattle.risch_expression.specs.declared.fault.ReadFault.{ReadFault}
use Rattle.risch_expression.specs.declared.fault.ReadFault.TheVariants.{Syntax, Memory}
use Rattle.risch_expression.specs.declared.program.Operation.{Operation}
use Rattle.risch_expression.specs.declared.program.Operation.TheVariants.{Sum, Difference, Product, Quotient}
use Rattle.risch_expression.specs.declared.program.Step.{Step}
use Rattle.risch_expression.specs.declared.program.Step.TheVariants.{Joined}

-- A fault ends a rule.
pub fault_passes : {A B : Type 0} (fault : ReadFault) (rule : Read A) (next : A → Read B) → IsFaultOf fault rule → IsFaultOf fault (and_next rule next)
fault_passes (Syntax f) rule next h = rw h refl
fault_passes Memory rule next h = tt

-- What is read so far: the value of the whole is that of so many signs more, each with an operand.
pub record IsJoined (value : Read Parsed) (sign : List ℕ → Option Sign) (operand : Rule) (left : ℕ) (program_old program : List Step) (rest : List ℕ) : Type 0 where
  pub tree : Tree
  pub same : value ≡ joined_by sign operand left (record { tree = tree; rest = rest })
  pub written : program ≡ program_old ++ steps tree

-- the steps of two operands, and then their operation
steps-joined : (operation : Operation) (a b : Tree) → steps (joined operation a b) ≡ steps a ++ steps b ++ Joined operation ∷ []
steps-joined Sum a b = refl
steps-joined Difference a b = refl
steps-joined Product a b = refl
steps-joined (Quotient left) a b = refl

pub joined_begin : (value first : Read Parsed) (sign : List ℕ → Option Sign) (operand : Rule) (left : ℕ) (program_old program : List Step) (rest : List ℕ) →
    value ≡ and_next first (chain sign operand) → IsParsed first program_old program rest → left ≡ length rest → IsJoined value sign operand left program_old program rest
joined_begin value first sign operand left program_old program rest e p n = record {
  tree = p.tree;
  same = e ∙ ap (λ o. and_next o (chain sign operand)) p.is ∙ ap (λ k. joined_by sign operand k (record { tree = p.tree; rest = rest })) (sym n);
  written = p.written;
}

-- one sign more, with its operand
one_more : (value : Read Parsed) (sign : List ℕ → Option Sign) (operand : Rule) (left below : ℕ) (program_old program : List Step) (rest behind : List ℕ) (operation : Operation) →
    (j : IsJoined value sign operand left program_old program rest) → left ≡ suc below → sign rest ≡ Some (record { operation = operation; rest = behind }) →
    value ≡ and_next (operand behind) (λ q. joined_by sign operand below (record { tree = joined operation j.tree q.tree; rest = q.rest }))
one_more value sign operand left below program_old program rest behind operation j n s =
    j.same ∙ ap (λ k. joined_by sign operand k (record { tree = j.tree; rest = rest })) n
    ∙ ap (joined_by_sign operand (joined_by sign operand below) (record { tree = j.tree; rest = rest })) s

pub joined_more : (value : Read Parsed) (sign : List ℕ → Option Sign) (operand : Rule) (left below : ℕ) (program_old program program_operand program_new : List Step) (rest behind rest_new : List ℕ) (operation : Operation) →
    IsJoined value sign operand left program_old program rest → left ≡ suc below → sign rest ≡ Some (record { operation = operation; rest = behind }) →
    IsParsed (operand behind) program program_operand rest_new → program_new ≡ program_operand ++ Joined operation ∷ [] → IsJoined value sign operand below program_old program_new rest_new
joined_more value sign operand left below program_old program program_operand program_new rest behind rest_new operation j n s p w = record {
  tree = joined operation j.tree p.tree;
  same = one_more value sign operand left below program_old program rest behind operation j n s
      ∙ ap (λ o. and_next o (λ q. joined_by sign operand below (record { tree = joined operation j.tree q.tree; rest = q.rest }))) p.is;
  written = rw (w, p.written, j.written, steps-joined operation j.tree p.tree) (simp append_assoc);
}

-- nothing more stands there
pub joined_end : (value : Read Parsed) (sign : List ℕ → Option Sign) (operand : Rule) (left : ℕ) (program_old program : List Step) (rest : List ℕ) →
    IsJoined value sign operand left program_old program rest → left ≡ 0 → IsParsed value program_old program rest
joined_end value sign operand left program_old program rest j n = record {
  tree = j.tree;
  is = j.same ∙ ap (λ k. joined_by sign operand k (record { tree = j.tree; rest = rest })) n;
  written = j.written;
}

joined_by-done : (sign : List ℕ → Option Sign) (operand : Rule) (left : ℕ) (p : Parsed) → sign p.rest ≡ None → joined_by sign operand left p ≡ Ok p
joined_by-done sign operand zero p none = refl
joined_by-done sign operand (suc n) p none = ap (joined_by_sign operand (joined_by sign operand n) p) none

pub joined_done : (value : Read Parsed) (sign : List ℕ → Option Sign) (operand : Rule) (left : ℕ) (program_old program : List Step) (rest behind : List ℕ) →
    IsJoined value sign operand left program_old program rest → sign rest ≡ None → behind ≡ rest → IsParsed value program_old program behind
joined_done value sign operand left program_old program rest behind j none same = record {
  tree = j.tree;
  is = rw same (j.same ∙ joined_by-done sign operand left (record { tree = j.tree; rest = rest }) none);
  written = j.written;
}

-- a fault of the operand behind a sign
pub joined_fault : (value : Read Parsed) (sign : List ℕ → Option Sign) (operand : Rule) (left below : ℕ) (program_old program : List Step) (rest behind : List ℕ) (operation : Operation) (fault : ReadFault) →
    IsJoined value sign operand left program_old program rest → left ≡ suc below → sign rest ≡ Some (record { operation = operation; rest = behind }) → IsFaultOf fault (operand behind) → IsFaultOf fault value
joined_fault value sign operand left below program_old program rest behind operation fault j n s h =
    rw (one_more value sign operand left below program_old program rest behind operation j n s) (fault_passes fault (operand behind) _ h)
