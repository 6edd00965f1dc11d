-- The fields of a tower: each lies in the next, the derivation leaves each in itself, and each variable is transcendental over the field below it.
--     InField_more      a lower field lies in each higher one
--     InField-derive      closed under the derivation
--     derive_prefix      the derivation of an element of a field looks only at the variables of that field
--     derivative-log, derivative-exp      Dt = Da/a and Dt = Da·t in the derivation of the whole tower
--     derivative-past      Dt = 0 for a variable t past the end of the tower
--     transcendental      c_0 + c_1·t + .. = 0 with c_j in the field below t only if each c_j = 0
use Rattle.std.specs.Prelude.{◌≡◌, refl, ℕ, zero as nat_zero, suc, ◌+◌, ◌≤◌, ◌<◌, List, [], ◌∷◌, ◌++◌, length}
use Rattle.std.proofs.Common.{sym, ap, ap₂, ◌∙◌, subst, arith, length-append}
use native.Mathlib.Decide.{dec_lt}
use Rattle.risch_ring.proofs.Expression.{reading}
use Rattle.risch_ring.proofs.Solver.{ring}
use Rattle.risch_ring.proofs.Laws as Laws
use Rattle.risch_mean.proofs.PolynomialVariables
use Rattle.risch_mean.proofs.FieldClosure
use Rattle.risch_mean.specs.Polynomial
use Rattle.risch_mean.specs.Univariate
use Rattle.risch_mean.specs.PolynomialLaws
use Rattle.risch_mean.specs.ElementFieldLaws
use Rattle.risch_mean.specs.Polynomial.{Polynomial, Within}
use Rattle.risch_mean.specs.Element.{Element, zero, one, add, mul, minus, over, polynomial, variable, InField, AllInField}
use Rattle.risch_mean.specs.ElementField.{elements}
use Rattle.risch_mean.specs.ElementLaws.{polynomial-add, polynomial-mul, polynomial-zero, polynomial-ne-zero, polynomial_injective, of_pair-mul-den, of_pair-zero, mul_cancel, zero-mul, product_ne_zero}
use Rattle.risch_mean.specs.Derivation.{derive}
use Rattle.risch_mean.specs.QuotientRule.{derive_from, derive_polynomial}
use Rattle.risch_mean.proofs.DerivationLaws.{derive-of_pair, at_place, derive-variable}
use Rattle.risch_mean.specs.Tower.{Monomial, log, exp, Tower, argument, derivatives_from, derivatives, derive_in, next_derivative, ArgumentsBelow, IsTower}
use Rattle.risch_mean.specs.Vectors.{AllZero}
use Rattle.risch_mean.proofs.FieldClosure.{InField-minus, InField-over, InField_more}

-- ---- the derivation
-- the first n of vs lie in the field of the first n variables
abbrev pub DerivativesIn : ℕ → List Element → Type 0
DerivativesIn n vs = (i : ℕ) → i < n → InField n (at_place i vs)

pub derive_from_past : (n i : ℕ) (vs : List Element) (p : Polynomial) → n ≤ i → Within n p → derive_from i vs p ≡ zero
unfolding derive_from
derive_from_past n i [] p h w = refl
derive_from_past n i (v ∷ vs) p h w =
    ap₂ (λ f g. add (mul f v) g) (ap polynomial (PolynomialVariables.partial_past n i p h w) ∙ polynomial-zero) (derive_from_past n (suc i) vs p (omega arith) w) ∙ nothing v
  where
    nothing : (v : Element) → add (mul zero v) zero ≡ zero
    nothing v = ring elements.ring (v ∷ []) (search reading depth 30 fits 4000) refl

InField-derive_from : (n i : ℕ) (vs : List Element) (p : Polynomial) → ((j : ℕ) → i + j < n → InField n (at_place j vs)) → Within n p → InField n (derive_from i vs p)
unfolding derive_from
InField-derive_from n i [] p h w = FieldClosure.InField-zero n
InField-derive_from n i (v ∷ vs) p h w = by (InField-derive_from n (suc i) vs p (λ j k. h (suc j) (omega arith)) w) (dec_lt i n)
  where
    by : InField n (derive_from (suc i) vs p) → Dec (i < n) → InField n (add (mul (polynomial (Polynomial.partial i p)) v) (derive_from (suc i) vs p))
    by rest (yes k) = FieldClosure.InField-add n _ _ (FieldClosure.InField-mul n _ _ (FieldClosure.InField-polynomial n _ (PolynomialVariables.Within-partial n i p w)) (h 0 (omega arith))) rest
    by rest (no k) = subst (InField n) (sym (derive_from_past n i (v ∷ vs) p (omega arith) w)) (FieldClosure.InField-zero n)

pub InField-derive : (n : ℕ) (vs : List Element) (f : Element) → DerivativesIn n vs → InField n f → InField n (derive vs f)
unfolding derive_polynomial
InField-derive n vs f h a =
    subst (InField n) (sym (ap (derive vs) a.is ∙ derive-of_pair vs a.num a.den a.den-ne-zero))
    (InField-over n _ _
    (InField-minus n _ _ (FieldClosure.InField-mul n _ _ (InField-derive_from n 0 vs a.num from_first a.num-within) in_den) (FieldClosure.InField-mul n _ _ (FieldClosure.InField-polynomial n _ a.num-within) (InField-derive_from n 0 vs a.den from_first a.den-within)))
    (FieldClosure.InField-mul n _ _ in_den in_den))
  where
    from_first : (j : ℕ) → 0 + j < n → InField n (at_place j vs)
    from_first j k = h j (omega arith)

    in_den : InField n (polynomial a.den)
    in_den = FieldClosure.InField-polynomial n _ a.den-within

derive_from_append : (n i : ℕ) (vs ws : List Element) (p : Polynomial) → n ≤ i + length vs → Within n p → derive_from i (vs ++ ws) p ≡ derive_from i vs p
unfolding derive_from
derive_from_append n i [] ws p h w = derive_from_past n i ws p (omega arith) w
derive_from_append n i (v ∷ vs) ws p h w = ap (λ k. add (mul (polynomial (Polynomial.partial i p)) v) k) (derive_from_append n (suc i) vs ws p (omega arith) w)

pub derive_prefix : (n : ℕ) (vs ws : List Element) (f : Element) → n ≤ length vs → InField n f → derive (vs ++ ws) f ≡ derive vs f
unfolding derive_polynomial
derive_prefix n vs ws f h a =
    ap (derive (vs ++ ws)) a.is ∙ derive-of_pair (vs ++ ws) a.num a.den a.den-ne-zero
    ∙ ap₂ (λ x y. over (minus (mul x (polynomial a.den)) (mul (polynomial a.num) y)) (mul (polynomial a.den) (polynomial a.den)))
    (derive_from_append n 0 vs ws a.num (omega arith) a.num-within) (derive_from_append n 0 vs ws a.den (omega arith) a.den-within)
    ∙ sym (ap (derive vs) a.is ∙ derive-of_pair vs a.num a.den a.den-ne-zero)

-- ---- the derivatives of the variables of a tower
append_assoc : (us vs ws : List Element) → (us ++ vs) ++ ws ≡ us ++ (vs ++ ws)
append_assoc [] vs ws = refl
append_assoc (u ∷ us) vs ws = ap (λ (l : List Element). u ∷ l) (append_assoc us vs ws)

append-nil : (us : List Element) → us ++ [] ≡ us
append-nil [] = refl
append-nil (u ∷ us) = ap (λ (l : List Element). u ∷ l) (append-nil us)

-- later monomials add derivatives at the end
pub derivatives_extend : (vs : List Element) (ms : Tower) → (ws : List Element) × (derivatives_from vs ms ≡ vs ++ ws)
derivatives_extend vs [] = ([], sym (append-nil vs))
derivatives_extend vs (m ∷ ms) =
    let e = derivatives_extend (vs ++ (next_derivative vs m ∷ [])) ms in
    (next_derivative vs m ∷ e.0, e.1 ∙ append_assoc vs (next_derivative vs m ∷ []) e.0)

pub derivatives_from-append : (vs : List Element) (ms ns : Tower) → derivatives_from vs (ms ++ ns) ≡ derivatives_from (derivatives_from vs ms) ns
derivatives_from-append vs [] ns = refl
derivatives_from-append vs (m ∷ ms) ns = derivatives_from-append (vs ++ (next_derivative vs m ∷ [])) ms ns

pub length-derivatives_from : (vs : List Element) (ms : Tower) → length (derivatives_from vs ms) ≡ length vs + length ms
length-derivatives_from vs [] = omega arith
length-derivatives_from vs (m ∷ ms) = omega (arith, length-derivatives_from (vs ++ (next_derivative vs m ∷ [])) ms, length-append vs (next_derivative vs m ∷ []))

at_place-end : (vs : List Element) (v : Element) (ws : List Element) → at_place (length vs) (vs ++ (v ∷ ws)) ≡ v
at_place-end [] v ws = refl
at_place-end (u ∷ us) v ws = at_place-end us v ws

arguments-append : (n : ℕ) (ms : Tower) (m : Monomial) (ns : Tower) → ArgumentsBelow n (ms ++ (m ∷ ns)) → InField (n + length ms) (argument m)
arguments-append n [] m ns h = subst (λ (k : ℕ). InField k (argument m)) (omega arith) h.0
arguments-append n (l ∷ ms) m ns h = subst (λ (k : ℕ). InField k (argument m)) (omega arith) (arguments-append (suc n) ms m ns h.1)

module _ (before : Tower) (m : Monomial) (after : Tower) where
  -- the derivatives of the variables below the monomial m
  lower_derivatives : List Element
  lower_derivatives = derivatives before

  later : List Element
  later = (derivatives_extend (derivatives before ++ (next_derivative (derivatives before) m ∷ [])) after).0

  whole : derivatives (before ++ (m ∷ after)) ≡ derivatives before ++ (next_derivative (derivatives before) m ∷ later)
  unfolding later
  whole =
      derivatives_from-append (one ∷ []) before (m ∷ after) ∙ (derivatives_extend (derivatives before ++ (next_derivative (derivatives before) m ∷ [])) after).1
      ∙ append_assoc (derivatives before) (next_derivative (derivatives before) m ∷ []) later

  height : length (derivatives before) ≡ suc (length before)
  height = omega (arith, length-derivatives_from (one ∷ []) before)

  -- the derivative of the variable of m, in the whole tower
  derivative-monomial : derive_in (before ++ (m ∷ after)) (variable (suc (length before))) ≡ next_derivative (derivatives before) m
  derivative-monomial =
      derive-variable (derivatives (before ++ (m ∷ after))) (suc (length before)) ∙ ap₂ at_place (sym height) whole
      ∙ at_place-end (derivatives before) (next_derivative (derivatives before) m) later

  -- the whole tower derives the argument of m as the tower below does
  derivative-argument : IsTower (before ++ (m ∷ after)) → derive_in (before ++ (m ∷ after)) (argument m) ≡ derive (derivatives before) (argument m)
  derivative-argument h =
      ap (λ vs. derive vs (argument m)) whole
      ∙ derive_prefix (suc (length before)) (derivatives before) (next_derivative (derivatives before) m ∷ later) (argument m) (omega (arith, height)) (subst (λ (k : ℕ). InField k (argument m)) (omega arith) (arguments-append 1 before m after h))

pub derivative-x : (tower : Tower) → derive_in tower (variable 0) ≡ one
derivative-x tower = derive-variable (derivatives tower) 0 ∙ ap (at_place 0) (derivatives_extend (one ∷ []) tower).1

-- for t = log a: Dt = Da/a
pub derivative-log : (before : Tower) (a : Element) (after : Tower) → IsTower (before ++ (log a ∷ after)) →
    derive_in (before ++ (log a ∷ after)) (variable (suc (length before))) ≡ over (derive_in (before ++ (log a ∷ after)) a) a
derivative-log before a after h = derivative-monomial before (log a) after ∙ ap (λ k. over k a) (sym (derivative-argument before (log a) after h))

-- for t = exp a: Dt = Da·t
pub derivative-exp : (before : Tower) (a : Element) (after : Tower) → IsTower (before ++ (exp a ∷ after)) →
    derive_in (before ++ (exp a ∷ after)) (variable (suc (length before))) ≡ mul (derive_in (before ++ (exp a ∷ after)) a) (variable (suc (length before)))
derivative-exp before a after h =
    derivative-monomial before (exp a) after
    ∙ ap₂ (λ k (n : ℕ). mul k (variable n)) (sym (derivative-argument before (exp a) after h)) (height before (exp a) after)

-- each derivative lies in the field of its variable
abbrev InOwnField : List Element → Type 0
InOwnField vs = (i : ℕ) → i < length vs → InField (suc i) (at_place i vs)

at_place_past : (i : ℕ) (vs : List Element) → length vs ≤ i → at_place i vs ≡ zero
at_place_past i [] h = refl
at_place_past nat_zero (v ∷ vs) h = absurd (omega arith)
at_place_past (suc i) (v ∷ vs) h = at_place_past i vs (omega arith)

-- a variable past the end of the tower is a constant
pub derivative-past : (tower : Tower) (n : ℕ) → length tower < n → derive_in tower (variable n) ≡ zero
derivative-past tower n h = derive-variable (derivatives tower) n ∙ at_place_past n (derivatives tower) (omega (arith, length-derivatives_from (one ∷ []) tower))

own_fields : (n : ℕ) (vs : List Element) → InOwnField vs → DerivativesIn n vs
own_fields n vs h i k = by (dec_lt i (length vs))
  where
    by : Dec (i < length vs) → InField n (at_place i vs)
    by (yes l) = InField_more (suc i) n (at_place i vs) k (h i l)
    by (no l) = subst (InField n) (sym (at_place_past i vs (omega arith))) (FieldClosure.InField-zero n)

InField-next : (vs : List Element) (m : Monomial) → InOwnField vs → InField (length vs) (argument m) → InField (suc (length vs)) (next_derivative vs m)
InField-next vs (log a) h k = InField_more (length vs) (suc (length vs)) _ (omega arith) (InField-over (length vs) _ _ (InField-derive (length vs) vs a (own_fields (length vs) vs h) k) k)
InField-next vs (exp a) h k =
    FieldClosure.InField-mul (suc (length vs)) _ _ (InField_more (length vs) (suc (length vs)) _ (omega arith) (InField-derive (length vs) vs a (own_fields (length vs) vs h) k))
    (FieldClosure.InField-variable (suc (length vs)) (length vs) (omega arith))

at_place-append : (i : ℕ) (vs ws : List Element) → i < length vs → at_place i (vs ++ ws) ≡ at_place i vs
at_place-append i [] ws h = absurd (omega arith)
at_place-append nat_zero (v ∷ vs) ws h = refl
at_place-append (suc i) (v ∷ vs) ws h = at_place-append i vs ws (omega arith)

own_fields-push : (vs : List Element) (v : Element) → InOwnField vs → InField (suc (length vs)) v → InOwnField (vs ++ (v ∷ []))
own_fields-push vs v h k i l = by (dec_lt i (length vs))
  where
    by : Dec (i < length vs) → InField (suc i) (at_place i (vs ++ (v ∷ [])))
    by (yes j) = subst (InField (suc i)) (sym (at_place-append i vs (v ∷ []) j)) (h i j)
    by (no j) =
        let e : length vs ≡ i = omega (arith, length-append vs (v ∷ [])) in
        subst (λ (n : ℕ). InField (suc n) (at_place n (vs ++ (v ∷ [])))) e (subst (InField (suc (length vs))) (sym (at_place-end vs v [])) k)

own_fields-from : (vs : List Element) (ms : Tower) → InOwnField vs → ArgumentsBelow (length vs) ms → InOwnField (derivatives_from vs ms)
own_fields-from vs [] h k = h
own_fields-from vs (m ∷ ms) h k =
    own_fields-from (vs ++ (next_derivative vs m ∷ [])) ms (own_fields-push vs (next_derivative vs m) h (InField-next vs m h k.0))
    (subst (λ (n : ℕ). ArgumentsBelow n ms) (omega (arith, length-append vs (next_derivative vs m ∷ []))) k.1)

-- the derivation of a tower leaves each of its fields in itself
pub InField-derive_in : (tower : Tower) (n : ℕ) (f : Element) → IsTower tower → InField n f → InField n (derive_in tower f)
InField-derive_in tower n f h a = InField-derive n (derivatives tower) f (own_fields n (derivatives tower) (own_fields-from (one ∷ []) tower first h)) a
  where
    first : InOwnField (one ∷ [])
    first nat_zero l = FieldClosure.InField-one 1
    first (suc i) l = absurd (omega arith)

-- ---- transcendental variables
-- c_0 + c_1·t + c_2·t·t + ..
abbrev value_at : Element → List Element → Element
value_at t cs = Univariate.value_at elements.ring t cs

-- v·M = Q with M from the field below
record Cleared (n : ℕ) (v : Element) : Type 0 where
  factor : Polynomial
  factor-ne-zero : ¬ (factor ≡ Polynomial.zero)
  factor-within : Within n factor
  result : Polynomial
  is : mul v (polynomial factor) ≡ polynomial result

-- (c + t·v)·(L·M) = N·M + t·(Q·L), where c = N/L
cleared_sum : (n : ℕ) (c v : Element) (a : InField n c) (b : Cleared n v) →
    mul (add c (mul (variable n) v)) (polynomial (Polynomial.mul a.den b.factor)) ≡ polynomial (Polynomial.add (Polynomial.mul a.num b.factor) (Polynomial.mul (Polynomial.variable n) (Polynomial.mul b.result a.den)))
cleared_sum n c v a b =
    ap (mul (add c (mul (variable n) v))) (polynomial-mul a.den b.factor) ∙ spread c (variable n) v (polynomial a.den) (polynomial b.factor)
    ∙ ap₂ (λ x y. add (mul x (polynomial b.factor)) (mul (variable n) (mul y (polynomial a.den)))) (ap (λ k. mul k (polynomial a.den)) a.is ∙ of_pair-mul-den a.num a.den a.den-ne-zero) b.is
    ∙ sym (polynomial-add _ _ ∙ ap₂ add (polynomial-mul a.num b.factor) (polynomial-mul (Polynomial.variable n) _ ∙ ap (mul (variable n)) (polynomial-mul b.result a.den)))
  where
    spread : (c t v l m : Element) → mul (add c (mul t v)) (mul l m) ≡ add (mul (mul c l) m) (mul t (mul (mul v m) l))
    spread c t v l m = ring elements.ring (c ∷ t ∷ v ∷ l ∷ m ∷ []) (search reading depth 30 fits 4000) refl

cleared : (n : ℕ) (cs : List Element) → AllInField n cs → Cleared n (value_at (variable n) cs)
cleared n [] h = record {
  factor = Polynomial.one;
  factor-ne-zero = PolynomialLaws.one_nonzero;
  factor-within = PolynomialVariables.Within-one n;
  result = Polynomial.zero;
  is = zero-mul (polynomial Polynomial.one) ∙ sym polynomial-zero;
}
cleared n (c ∷ cs) h =
    let b : Cleared n (value_at (variable n) cs) = cleared n cs h.1 in
    record {
      factor = Polynomial.mul h.0.den b.factor;
      factor-ne-zero = product_ne_zero h.0.den b.factor h.0.den-ne-zero b.factor-ne-zero;
      factor-within = PolynomialVariables.Within-mul n _ _ h.0.den-within b.factor-within;
      result = Polynomial.add (Polynomial.mul h.0.num b.factor) (Polynomial.mul (Polynomial.variable n) (Polynomial.mul b.result h.0.den));
      is = cleared_sum n c (value_at (variable n) cs) h.0 b;
    }

-- a factor that is not 0 can be left out
left_zero : (p q : Polynomial) → ¬ (q ≡ Polynomial.zero) → Polynomial.mul p q ≡ Polynomial.zero → p ≡ Polynomial.zero
left_zero p q n h = elim (PolynomialLaws.discrete p Polynomial.zero) [ yes e ↦ e | no k ↦ absurd (PolynomialLaws.mul_nonzero p q k n h) ]

-- c + t·v = 0, with c from the field below and v·M a polynomial
split_zero : (n : ℕ) (c v : Element) → InField n c → Cleared n v → add c (mul (variable n) v) ≡ zero → (c ≡ zero) × (v ≡ zero)
split_zero n c v a b h =
    (a.is ∙ of_pair-zero a.num a.den a.den-ne-zero num-zero, v-zero)
  where
    sum-zero : Polynomial.add (Polynomial.mul a.num b.factor) (Polynomial.mul (Polynomial.variable n) (Polynomial.mul b.result a.den)) ≡ Polynomial.zero
    sum-zero =
        polynomial_injective _ _ (sym (cleared_sum n c v a b) ∙ ap (λ k. mul k (polynomial (Polynomial.mul a.den b.factor))) h ∙ zero-mul _ ∙ sym polynomial-zero)

    free-zero : Polynomial.mul a.num b.factor ≡ Polynomial.zero
    free-zero = PolynomialVariables.free_part_zero n _ _ (PolynomialVariables.Within-mul n _ _ a.num-within b.factor-within) sum-zero

    num-zero : a.num ≡ Polynomial.zero
    num-zero = left_zero a.num b.factor b.factor-ne-zero free-zero

    c-zero : c ≡ zero
    c-zero = a.is ∙ of_pair-zero a.num a.den a.den-ne-zero num-zero

    t-v : mul (variable n) v ≡ zero
    t-v = sym (Laws.zero-add elements.ring (mul (variable n) v)) ∙ ap (λ k. add k (mul (variable n) v)) (sym c-zero) ∙ h

    v-zero : v ≡ zero
    v-zero = mul_cancel v zero (variable n) (polynomial-ne-zero _ (PolynomialVariables.variable-ne-zero n)) (ElementFieldLaws.mul_comm v (variable n) ∙ t-v ∙ sym (zero-mul (variable n)))

pub transcendental : (n : ℕ) (cs : List Element) → AllInField n cs → value_at (variable n) cs ≡ zero → AllZero cs
transcendental n [] h e = tt
transcendental n (c ∷ cs) h e =
    let parts = split_zero n c (value_at (variable n) cs) h.0 (cleared n cs h.1) e in
    (parts.0, transcendental n cs h.1 parts.1)
