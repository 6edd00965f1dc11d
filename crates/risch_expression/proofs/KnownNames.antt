-- What the grammar reads is an expression over the known names.
use Rattle.std.proofs.Common.{◌≡◌, ℕ, zero, suc, ◌+◌, ◌-◌, ◌≤◌, ◌<◌, ◌^◌, List, [], ◌∷◌, length, Option, Some, None, Result, Ok, Err, Bool, true, false, refl, arith, ap, subst, ◌∙◌}
use Rattle.std.specs.Prelude.{nat_le, nat_lt, ◌==◌, ◌&&◌, option_map, ⊤, OnOk, IfErr}
use Rattle.std.specs.Option.{option_map_or}
use Rattle.std.proofs.lemmas.Bool.{leb-true, ltb-false, cond_both}
use Rattle.risch_expression.specs.Words.{after_byte, Name, name, Numeral, numeral}
use Rattle.risch_expression.specs.Fault.{most_number, unexpected}
use Rattle.risch_expression.specs.Results.{and_next}
use Rattle.risch_expression.specs.Tree.{Tree, variable, root, IsOver}
use Rattle.risch_expression.specs.Grammar.{Read, Parsed, parsed, Rule, limited, number_found, wanted_number, variable_named, is_z, named, number_atom, name_atom, atom, raised, with_exponent, power_rule, Sign, joined, joined_by_sign, joined_by, chain, product_sign, sum_sign, term_rule, opposite, first_term, sum_rule, closed, opened, parenthesized, atom_in, power_in, term_in, sum_in, expression}
use Rattle.risch_expression.specs.Reading.{IsParsedOver, IsFaultOf, Reads}
use Rattle.risch_expression.specs.declared.fault.Cause.{Cause}
use Rattle.risch_expression.specs.declared.fault.Cause.TheVariants.{Wide}
use Rattle.risch_expression.specs.declared.fault.ReadFault.{ReadFault}
use Rattle.risch_expression.specs.declared.names.Names.{Names}
use Rattle.risch_expression.specs.declared.program.Operation.{Operation}
use Rattle.risch_expression.specs.declared.program.Operation.TheVariants.{Sum, Difference, Product, Quotient}
use Rattle.risch_expression.specs.declared.program.Step.{Step}

both-true : (s t : Bool) → (s && t) ≡ true → (s ≡ true) × (t ≡ true)
both-true true t e = (refl, e)
both-true false t e = cc

-- ---- a number that is read is at most 2^127 - 1
abbrev Small : Option (Read Numeral) → Type 0
Small None = Unit {0}
Small (Some (Ok n)) = n.value < 2 ^ 127
Small (Some (Err fault)) = Unit {0}

limited-small : (most : ℕ) (above : Cause) (bytes : List ℕ) (n : Numeral) → Small (Some (limited most above bytes n))
limited-small most above bytes n =
    cond_both (nat_lt most_number n.value) _ _ (λ (r : Read Numeral). Small (Some r)) (λ t. tt)
    (λ t. cond_both (nat_lt most n.value) _ (Ok n) (λ (r : Read Numeral). Small (Some r)) (λ s. tt) (λ s. let le : n.value ≤ most_number = ltb-false most_number n.value t in omega (arith, le)))

number_found-small : (most : ℕ) (above : Cause) (bytes : List ℕ) → Small (number_found most above bytes)
unfolding number_found
number_found-small most above bytes = of (numeral bytes)
  where
    of : (n : Option Numeral) → Small (option_map (limited most above bytes) n)
    of None = tt
    of (Some n) = limited-small most above bytes n

-- ---- a variable that is named is known
abbrev IsBelow : ℕ → Option ℕ → Type 0
IsBelow monomials None = Unit {0}
IsBelow monomials (Some i) = i < monomials + 1

variable_named-below : (monomials : ℕ) (text : List ℕ) → IsBelow monomials (variable_named monomials text)
variable_named-below monomials [] = tt
variable_named-below monomials (b ∷ []) = cond_both (b == 120) (Some 0) None (IsBelow monomials) (λ t. omega arith) (λ t. tt)
variable_named-below monomials (b ∷ (d ∷ [])) =
    cond_both (b == 116 && ((nat_le 49 d && nat_le d 57) && nat_le (d - 48) monomials)) (Some (d - 48)) None (IsBelow monomials)
    (λ t. let le : d - 48 ≤ monomials = leb-true (d - 48) monomials (both-true (nat_le 49 d && nat_le d 57) _ (both-true (b == 116) _ t).1).1 in omega (arith, le)) (λ t. tt)
variable_named-below monomials (b ∷ (d ∷ (e ∷ es))) = tt

module _ (names : Names) where
  -- an expression over the names
  abbrev IsKnown : Tree → Type 0
  IsKnown tree = IsOver (names.monomials + 1) names.with_z tree

  -- and so for what is read
  abbrev Over : Read Parsed → Type 0
  Over (Ok p) = IsKnown p.tree
  Over (Err fault) = Unit {0}

  -- and for a rule, at all bytes
  abbrev OverRule : Rule → Type 0
  OverRule rule = (bytes : List ℕ) → Over (rule bytes)

  over-then : (first : Read Parsed) (next : Parsed → Read Parsed) → Over first → ((p : Parsed) → IsKnown p.tree → Over (next p)) → Over (and_next first next)
  over-then (Ok p) next f h = h p f
  over-then (Err fault) next f h = tt

  over-number : (first : Read Numeral) (next : Numeral → Read Parsed) → ((n : Numeral) → first ≡ Ok n → Over (next n)) → Over (and_next first next)
  over-number (Ok n) next h = h n refl
  over-number (Err fault) next h = tt

  over-found : {A : Type 0} (found : Option A) (next : A → Read Parsed) (other : Read Parsed) → ((a : A) → found ≡ Some a → Over (next a)) → Over other → Over (option_map_or next found other)
  over-found None next other h o = o
  over-found (Some a) next other h o = h a refl

  -- ---- atoms
  abbrev KnownTree : Option Tree → Type 0
  KnownTree None = Unit {0}
  KnownTree (Some tree) = IsKnown tree

  known-variable : (i : Option ℕ) → IsBelow names.monomials i → KnownTree (option_map variable i)
  known-variable None h = tt
  known-variable (Some i) h = h

  named-known : (text : List ℕ) → KnownTree (named names text)
  unfolding named
  named-known text =
      cond_both (names.with_z && is_z text) (Some root) (option_map variable (variable_named names.monomials text)) KnownTree
      (λ t. (both-true names.with_z (is_z text) t).0) (λ t. known-variable (variable_named names.monomials text) (variable_named-below names.monomials text))

  over-name : (bytes : List ℕ) (n : Name) → Over (name_atom names bytes n)
  over-name bytes n = over-found (named names n.text) (λ tree. parsed tree n.rest) _ (λ tree e. subst KnownTree e (named-known n.text)) tt

  over-atom : (rule : Rule) → OverRule rule → OverRule (atom names rule)
  unfolding atom
  over-atom rule h bytes =
      over-found (number_found most_number Wide bytes) (λ found. and_next found number_atom) _
      (λ found e. over-number found number_atom (λ n is. subst Small (e ∙ ap Some is) (number_found-small most_number Wide bytes)))
      (over-found (name bytes) (name_atom names bytes) _ (λ n e. over-name bytes n) (h bytes))

  -- ---- powers, terms and sums
  over-exponent : (k : ℕ) (p : Parsed) → IsKnown p.tree → (rest : Option (List ℕ)) → Over (with_exponent k p rest)
  over-exponent k p h None = h
  over-exponent k p h (Some rest) = over-number (wanted_number k 9999 _ rest) (raised p.tree) (λ n e. h)

  over-power : (k : ℕ) (rule : Rule) → OverRule rule → OverRule (power_rule k rule)
  unfolding power_rule
  over-power k rule h bytes = over-then (rule bytes) _ (h bytes) (λ p f. over-exponent k p f (after_byte 94 p.rest))

  over-joined : (o : Operation) (a b : Tree) → IsKnown a → IsKnown b → IsKnown (joined o a b)
  over-joined Sum a b f g = (f, g)
  over-joined Difference a b f g = (f, g)
  over-joined Product a b f g = (f, g)
  over-joined (Quotient left) a b f g = (f, g)

  over-sign : (operand : Rule) (more : Parsed → Read Parsed) → OverRule operand → ((p : Parsed) → IsKnown p.tree → Over (more p)) →
      (p : Parsed) → IsKnown p.tree → (sign : Option Sign) → Over (joined_by_sign operand more p sign)
  over-sign operand more h m p f None = f
  over-sign operand more h m p f (Some s) =
      over-then (operand s.rest) _ (h s.rest) (λ q g. m (record { tree = joined s.operation p.tree q.tree; rest = q.rest }) (over-joined s.operation p.tree q.tree f g))

  over-joined_by : (sign : List ℕ → Option Sign) (operand : Rule) → OverRule operand → (n : ℕ) (p : Parsed) → IsKnown p.tree → Over (joined_by sign operand n p)
  over-joined_by sign operand h zero p f = f
  over-joined_by sign operand h (suc n) p f = over-sign operand (joined_by sign operand n) h (λ q g. over-joined_by sign operand h n q g) p f (sign p.rest)

  over-term : (rule : Rule) → OverRule rule → OverRule (term_rule rule)
  unfolding term_rule
  over-term rule h bytes = over-then (rule bytes) (chain product_sign rule) (h bytes) (λ p f. over-joined_by product_sign rule h (length p.rest) p f)

  over-first : (rule : Rule) → OverRule rule → (bytes : List ℕ) (minus : Option (List ℕ)) → Over (first_term rule bytes minus)
  over-first rule h bytes None = h bytes
  over-first rule h bytes (Some rest) = over-then (rule rest) opposite (h rest) (λ p f. f)

  over-sum : (rule : Rule) → OverRule rule → OverRule (sum_rule rule)
  unfolding sum_rule
  over-sum rule h bytes =
      over-then (first_term rule bytes (after_byte 45 bytes)) (chain sum_sign rule) (over-first rule h bytes (after_byte 45 bytes))
      (λ p f. over-joined_by sum_sign rule h (length p.rest) p f)

  -- ---- what stands in parentheses
  over-closed : (k : ℕ) (p : Parsed) → IsKnown p.tree → Over (closed k p)
  over-closed k p f = over-found (after_byte 41 p.rest) (parsed p.tree) _ (λ rest e. f) tt

  over-opened : (k : ℕ) (inside : Rule) → OverRule inside → OverRule (opened k inside)
  over-opened k inside h rest = over-then (inside rest) (closed k) (h rest) (λ p f. over-closed k p f)

  -- a sum over atoms with this rule in parentheses
  abbrev sum_with : ℕ → Rule → Rule
  sum_with k rule = sum_rule (term_rule (power_rule k (atom names rule)))

  over-sum_with : (k : ℕ) (rule : Rule) → OverRule rule → OverRule (sum_with k rule)
  over-sum_with k rule h = over-sum (term_rule (power_rule k (atom names rule))) (over-term (power_rule k (atom names rule)) (over-power k (atom names rule) (over-atom rule h)))

  over-parenthesized : (k : ℕ) → OverRule (parenthesized names k)
  over-parenthesized zero bytes = tt
  over-parenthesized (suc k) bytes =
      let inside = sum_with k (parenthesized names k) in
      over-found (after_byte 40 bytes) (opened k inside) (Err (unexpected (suc k) bytes))
      (λ rest e. over-opened k inside (over-sum_with k (parenthesized names k) (over-parenthesized k)) rest) tt

  over-sum_in : (k : ℕ) → OverRule (sum_in names k)
  unfolding sum_in term_in power_in atom_in
  over-sum_in k = over-sum_with k (parenthesized names k) (over-parenthesized k)

-- A sum that is read is an expression over the known names.
pub sum-is_over : (names : Names) (k : ℕ) (bytes : List ℕ) (p : Parsed) → sum_in names k bytes ≡ Ok p → IsOver (names.monomials + 1) names.with_z p.tree
sum-is_over names k bytes p e = subst (Over names) e (over-sum_in names k bytes)

pub expression_parsed : (result : Result ⊤ ReadFault) (names : Names) (bytes : List ℕ) (program_old program_new : List Step) (rest : List ℕ) →
    Reads result (sum_in names 64 bytes) program_old program_new rest → OnOk result (IsParsedOver names (expression names bytes) program_old program_new rest)
unfolding expression
expression_parsed (Ok u) names bytes program_old program_new rest p = record {
  tree = p.tree;
  is = p.is;
  written = p.written;
  over = sum-is_over names 64 bytes (record { tree = p.tree; rest = rest }) p.is;
}
expression_parsed (Err fault) names bytes program_old program_new rest p = tt

pub expression_fault : (result : Result ⊤ ReadFault) (names : Names) (bytes : List ℕ) (program_old program_new : List Step) (rest : List ℕ) →
    Reads result (sum_in names 64 bytes) program_old program_new rest → IfErr result (λ fault. IsFaultOf fault (expression names bytes))
unfolding expression
expression_fault (Ok u) names bytes program_old program_new rest h = tt
expression_fault (Err fault) names bytes program_old program_new rest h = h
