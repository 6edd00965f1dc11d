-- What a rule reads, with the value of its tree; and a first operand with any number of signs and operands.
use Rattle.std.proofs.Common.{◌≡◌, ℕ, zero, suc, ◌+◌, ◌≤◌, ◌<◌, List, length, false, Option, None, Some, refl, sym, ap, ◌∙◌, subst, arith}
use Rattle.std.proofs.lemmas.Bool.{cond-false}
use Rattle.risch_mean.specs.Element as mean
use Rattle.risch_mean.specs.Element.{InField, neg, ◌+ₑ◌, ◌-ₑ◌, ◌*ₑ◌, ◌/ₑ◌, is_zero_test}
use Rattle.risch_mean.specs.ElementField.{◌^ₑ◌}
use Rattle.risch_mean.specs.Written.{written_value}
use Rattle.risch_expression.specs.Results.{and_next}
use Rattle.risch_expression.specs.Tree.{Tree, number, variable, root, negated, sum, difference, product, quotient, power, expression_of, IsOver}
use Rattle.risch_expression.specs.Grammar.{Read, Parsed, parsed, Rule, Sign, joined, joined_by, joined_by_sign, chain}
use Rattle.risch_expression.specs.declared.names.Names.{Names}
use Rattle.risch_expression.specs.declared.program.Operation.{Operation}
use Rattle.risch_expression.specs.declared.program.Operation.TheVariants.{Sum, Difference, Product, Quotient}

-- each divisor of the tree that has a written value lies in the tower: z does not occur in the value
abbrev pub PlainDivisors : Tree → Type 0
PlainDivisors (number k) = Unit {0}
PlainDivisors (variable i) = Unit {0}
PlainDivisors root = Unit {0}
PlainDivisors (negated a) = PlainDivisors a
PlainDivisors (sum a b) = PlainDivisors a × PlainDivisors b
PlainDivisors (difference a b) = PlainDivisors a × PlainDivisors b
PlainDivisors (product a b) = PlainDivisors a × PlainDivisors b
PlainDivisors (quotient left a b) = PlainDivisors a × PlainDivisors b × ((g : mean.Element) → written_value (expression_of b) ≡ Some g → InField 5 g)
PlainDivisors (power a k) = PlainDivisors a

module _ (names : Names) where
  -- the tree has only the known names, its divisors lie in the tower, and its written value is v
  pub record Holds (tree : Tree) (v : mean.Element) : Type 0 where
    pub written : written_value (expression_of tree) ≡ Some v
    pub over : IsOver (names.monomials + 1) names.with_z tree
    pub plain : PlainDivisors tree

  -- a tree of value v is read, and the rest is at hand
  pub record Reads (value : Read Parsed) (rest : List ℕ) (v : mean.Element) : Type 0 where
    pub tree : Tree
    pub is : value ≡ parsed tree rest
    pub holds : Holds tree v

  -- a tree of value v is read so far: the whole is that of more signs, each with an operand
  pub record Chained (sign : List ℕ → Option Sign) (operand : Rule) (value : Read Parsed) (rest : List ℕ) (v : mean.Element) : Type 0 where
    pub tree : Tree
    pub left : ℕ
    pub is : value ≡ joined_by sign operand left (record { tree = tree; rest = rest })
    pub enough : length rest ≤ left
    pub holds : Holds tree v

  -- what the operation makes of u and v
  pub record Combines (operation : Operation) (u v w : mean.Element) : Type 0 where
    pub joins : (a b : Tree) → Holds a u → Holds b v → Holds (joined operation a b) w

  pub sum-combines : (u v : mean.Element) → Combines Sum u v (u +ₑ v)
  sum-combines u v = record { joins = λ a b h k. record { written = rw (h.written, k.written) refl; over = (h.over, k.over); plain = (h.plain, k.plain) } }

  pub difference-combines : (u v : mean.Element) → Combines Difference u v (u -ₑ v)
  difference-combines u v = record { joins = λ a b h k. record { written = rw (h.written, k.written) refl; over = (h.over, k.over); plain = (h.plain, k.plain) } }

  pub product-combines : (u v : mean.Element) → Combines Product u v (u *ₑ v)
  product-combines u v = record { joins = λ a b h k. record { written = rw (h.written, k.written) refl; over = (h.over, k.over); plain = (h.plain, k.plain) } }

  pub quotient-combines : (left : ℕ) (u v : mean.Element) → is_zero_test v ≡ false → InField 5 v → Combines (Quotient left) u v (u /ₑ v)
  quotient-combines left u v some inside = record {
    joins = λ a b h k. record {
      written = rw (h.written, k.written) (cond-false (is_zero_test v) None (Some (u /ₑ v)) some);
      over = (h.over, k.over);
      plain = (h.plain, k.plain, λ g e. subst (InField 5) (same_some v g (sym k.written ∙ e)) inside);
    };
  }
    where
      same_some : (x y : mean.Element) → Some x ≡ Some y → x ≡ y
      same_some x y e = cc

  pub power-holds : (a : Tree) (n : ℕ) (u : mean.Element) → Holds a u → Holds (power a n) (u ^ₑ n)
  power-holds a n u h = record { written = rw h.written refl; over = h.over; plain = h.plain }

  pub negated-holds : (a : Tree) (u : mean.Element) → Holds a u → Holds (negated a) (neg u)
  negated-holds a u h = record { written = rw h.written refl; over = h.over; plain = h.plain }

  pub holds-same : {tree : Tree} (u v : mean.Element) → u ≡ v → Holds tree u → Holds tree v
  holds-same {tree} u v e h = subst (Holds tree) e h

  -- ---- chains
  pub chained-begin : (sign : List ℕ → Option Sign) (operand : Rule) (first : Read Parsed) (rest : List ℕ) (v : mean.Element) → Reads first rest v →
      Chained sign operand (and_next first (chain sign operand)) rest v
  chained-begin sign operand first rest v r =
      record { tree = r.tree; left = length rest; is = ap (λ f. and_next f (chain sign operand)) r.is; enough = omega arith; holds = r.holds }

  more_at : (sign : List ℕ → Option Sign) (operand : Rule) (value : Read Parsed) (bytes behind rest : List ℕ) (operation : Operation) (u v w : mean.Element) (tree : Tree) (left : ℕ) →
      value ≡ joined_by sign operand left (record { tree = tree; rest = bytes }) → length bytes ≤ left → Holds tree u →
      sign bytes ≡ Some (record { operation = operation; rest = behind }) → length behind < length bytes → Reads (operand behind) rest v → length rest ≤ length behind → Combines operation u v w →
      Chained sign operand value rest w
  more_at sign operand value bytes behind rest operation u v w tree zero is enough h s shorter r short c = absurd (omega arith)
  more_at sign operand value bytes behind rest operation u v w tree (suc below) is enough h s shorter r short c = record {
    tree = joined operation tree r.tree;
    left = below;
    is = is ∙ ap (joined_by_sign operand (joined_by sign operand below) (record { tree = tree; rest = bytes })) s
        ∙ ap (λ o. and_next o (λ q. joined_by sign operand below (record { tree = joined operation tree q.tree; rest = q.rest }))) r.is;
    enough = omega arith;
    holds = c.joins tree r.tree h r.holds;
  }

  -- a sign more, with its operand
  pub chained-more : (sign : List ℕ → Option Sign) (operand : Rule) (value : Read Parsed) (bytes behind rest : List ℕ) (operation : Operation) (u v w : mean.Element) →
      Chained sign operand value bytes u → sign bytes ≡ Some (record { operation = operation; rest = behind }) → length behind < length bytes →
      Reads (operand behind) rest v → length rest ≤ length behind → Combines operation u v w → Chained sign operand value rest w
  chained-more sign operand value bytes behind rest operation u v w c s shorter r short k =
      more_at sign operand value bytes behind rest operation u v w c.tree c.left c.is c.enough c.holds s shorter r short k

  stop_at : (sign : List ℕ → Option Sign) (operand : Rule) (value : Read Parsed) (rest : List ℕ) (tree : Tree) (left : ℕ) →
      value ≡ joined_by sign operand left (record { tree = tree; rest = rest }) → sign rest ≡ None → value ≡ parsed tree rest
  stop_at sign operand value rest tree zero is s = is
  stop_at sign operand value rest tree (suc below) is s = is ∙ ap (joined_by_sign operand (joined_by sign operand below) (record { tree = tree; rest = rest })) s

  -- no sign more
  pub chained-stop : (sign : List ℕ → Option Sign) (operand : Rule) (value : Read Parsed) (rest : List ℕ) (v : mean.Element) → Chained sign operand value rest v → sign rest ≡ None →
      Reads value rest v
  chained-stop sign operand value rest v c s = record { tree = c.tree; is = stop_at sign operand value rest c.tree c.left c.is s; holds = c.holds }

  -- ---- the same value and the same bytes
  pub reads-same : (value : Read Parsed) (rest : List ℕ) (u v : mean.Element) → u ≡ v → Reads value rest u → Reads value rest v
  reads-same value rest u v e r = subst (Reads value rest) e r

  pub reads-from : (value other : Read Parsed) (rest : List ℕ) (v : mean.Element) → other ≡ value → Reads value rest v → Reads other rest v
  reads-from value other rest v e r = record { tree = r.tree; is = e ∙ r.is; holds = r.holds }

  pub chained-same : (sign : List ℕ → Option Sign) (operand : Rule) (value : Read Parsed) (rest : List ℕ) (u v : mean.Element) → u ≡ v → Chained sign operand value rest u →
      Chained sign operand value rest v
  chained-same sign operand value rest u v e c = subst (Chained sign operand value rest) e c
