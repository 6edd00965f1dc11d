-- The laws of the operations on polynomials: what the coefficients of sums and products are, and the laws of a commutative ring.
use Rattle.std.specs.Prelude.{◌≡◌, ℕ, zero, suc, List, [], ◌∷◌, get_or}
use Rattle.std.proofs.Common.{refl, sym, ap, ap₂, ◌∙◌}
use mathlib.Core.Path.{fun_ext}
use mathlib.Core.HLevel.{is_prop→PathP}
use mathlib.Core.List.{is_set as List_set}
use Rattle.risch_ring.specs.CommRing.{Field}
use Rattle.risch_ring.specs.Operators.{operators}
use Rattle.risch_ring.proofs.Laws as Laws
use Rattle.risch_univariate.specs.Polynomial.{IsTrimmed, Polynomial, coefficient, with_head, trim, of_list, add_lists, scale_list, neg_list, mul_lists, add_polynomials, neg_polynomial, mul_polynomials, zero_polynomial, one_polynomial}

module _ {A : Type 0} (F : Field A) where
  open (operators F.ring) use {𝟘, 𝟙, ◌+◌, ◌*◌, -◌}

  -- that the last coefficient is not 0 is a proposition
  pub IsTrimmed-prop : (p : List A) → IsProp (IsTrimmed F p)
  IsTrimmed-prop [] = λ x y. refl
  IsTrimmed-prop (a ∷ []) = λ x y. fun_ext λ e. absurd (x e)
  IsTrimmed-prop (a ∷ b ∷ p) = IsTrimmed-prop (b ∷ p)

  -- polynomials with the same list of coefficients are equal
  pub same_polynomial : (p q : Polynomial F) → p.coefficients ≡ q.coefficients → p ≡ q
  same_polynomial p q e = λ i. record {
    coefficients = e i;
    is_trimmed = is_prop→PathP (λ j. IsTrimmed F (e j)) (λ j. IsTrimmed-prop (e j)) p.is_trimmed q.is_trimmed i;
  }

  -- 0 + t·0 = 0
  pub with_head-zero : with_head F 𝟘 [] ≡ []
  with_head-zero = go (F.is_zero 𝟘)
    where
      go : (d : Dec (𝟘 ≡ 𝟘)) → elim d as (λ d. List A) [ yes e ↦ [] | no n ↦ 𝟘 ∷ [] ] ≡ []
      go (yes e) = refl
      go (no n) = absurd (n refl)

  -- a + t·0 = a for a ≠ 0
  with_head-nonzero : (a : A) → ¬ (a ≡ 𝟘) → with_head F a [] ≡ a ∷ []
  with_head-nonzero a h = go (F.is_zero a)
    where
      go : (d : Dec (a ≡ 𝟘)) → elim d as (λ d. List A) [ yes e ↦ [] | no n ↦ a ∷ [] ] ≡ a ∷ []
      go (yes e) = absurd (h e)
      go (no n) = refl

  -- a + t·p is the list a ∷ p, where that has no zero at the end
  with_head-of_trimmed : (a : A) (p : List A) → IsTrimmed F (a ∷ p) → with_head F a p ≡ a ∷ p
  with_head-of_trimmed a [] h = with_head-nonzero a h
  with_head-of_trimmed a (b ∷ p) h = refl

  -- a ∷ p has no zero at the end, so p has none
  tail-is_trimmed : (a : A) (p : List A) → IsTrimmed F (a ∷ p) → IsTrimmed F p
  tail-is_trimmed a [] h = tt
  tail-is_trimmed a (b ∷ p) h = h

  -- a list with no zero at the end stays as it is
  pub trim-of_trimmed : (p : List A) → IsTrimmed F p → trim F p ≡ p
  trim-of_trimmed [] h = refl
  trim-of_trimmed (a ∷ p) h = ap (with_head F a) (trim-of_trimmed p (tail-is_trimmed a p h)) ∙ with_head-of_trimmed a p h

  -- with_head is a ∷ p, but for zero coefficients at the end
  pub with_head-get : (a : A) (p : List A) (i : ℕ) → get_or (with_head F a p) i 𝟘 ≡ get_or (a ∷ p) i 𝟘
  with_head-get a [] i = go (F.is_zero a) i
    where
      go : (d : Dec (a ≡ 𝟘)) (i : ℕ) → get_or (elim d as (λ d. List A) [ yes e ↦ [] | no n ↦ a ∷ [] ]) i 𝟘 ≡ get_or (a ∷ []) i 𝟘
      go (yes e) zero = sym e
      go (yes e) (suc i) = refl
      go (no n) i = refl
  with_head-get a (b ∷ p) i = refl

  -- the zeros at the end are no coefficients
  pub trim-get : (p : List A) (i : ℕ) → get_or (trim F p) i 𝟘 ≡ get_or p i 𝟘
  trim-get [] i = refl
  trim-get (a ∷ p) zero = with_head-get a (trim F p) zero
  trim-get (a ∷ p) (suc i) = with_head-get a (trim F p) (suc i) ∙ trim-get p i

  -- a list of zeros becomes []
  trim-vanishing : (p : List A) → ((i : ℕ) → get_or p i 𝟘 ≡ 𝟘) → trim F p ≡ []
  trim-vanishing [] h = refl
  trim-vanishing (a ∷ p) h = ap₂ (with_head F) (h zero) (trim-vanishing p (λ i. h (suc i))) ∙ with_head-zero

  -- lists with the same coefficients become the same list
  trim-ext : (p q : List A) → ((i : ℕ) → get_or p i 𝟘 ≡ get_or q i 𝟘) → trim F p ≡ trim F q
  trim-ext [] q h = sym (trim-vanishing q (λ i. sym (h i)))
  trim-ext (a ∷ p) [] h = trim-vanishing (a ∷ p) h
  trim-ext (a ∷ p) (b ∷ q) h = ap₂ (with_head F) (h zero) (trim-ext p q (λ i. h (suc i)))

  -- the coefficients of the polynomial are those of the list
  pub coefficient-of_list : (p : List A) (i : ℕ) → coefficient F (of_list F p) i ≡ get_or p i 𝟘
  unfolding coefficient of_list
  coefficient-of_list = trim-get

  -- a polynomial is the one of its own list
  pub of_list-coefficients : (p : Polynomial F) → of_list F p.coefficients ≡ p
  unfolding of_list
  of_list-coefficients p = same_polynomial _ p (trim-of_trimmed p.coefficients p.is_trimmed)

  -- p = q if all their coefficients are equal
  pub polynomial_ext : (p q : Polynomial F) → ((i : ℕ) → coefficient F p i ≡ coefficient F q i) → p ≡ q
  unfolding coefficient of_list
  polynomial_ext p q h =
      same_polynomial p q (sym (trim-of_trimmed p.coefficients p.is_trimmed) ∙ trim-ext p.coefficients q.coefficients h ∙ trim-of_trimmed q.coefficients q.is_trimmed)

  -- K[t] is a set
  pub Polynomial-set : IsSet (Polynomial F)
  Polynomial-set = hlevel (List_set F.is_set, IsTrimmed-prop)

  -- (p + q)_i = p_i + q_i
  add_lists-get : (p q : List A) (i : ℕ) → get_or (add_lists F p q) i 𝟘 ≡ get_or p i 𝟘 + get_or q i 𝟘
  add_lists-get [] q i = sym (Laws.zero-add F.ring (get_or q i 𝟘))
  add_lists-get (a ∷ p) [] i = sym (F.add-zero (get_or (a ∷ p) i 𝟘))
  add_lists-get (a ∷ p) (b ∷ q) zero = refl
  add_lists-get (a ∷ p) (b ∷ q) (suc i) = add_lists-get p q i

  -- (c·p)_i = c·p_i
  scale_list-get : (c : A) (p : List A) (i : ℕ) → get_or (scale_list F c p) i 𝟘 ≡ c * get_or p i 𝟘
  scale_list-get c [] i = sym (Laws.mul-zero F.ring c)
  scale_list-get c (a ∷ p) zero = refl
  scale_list-get c (a ∷ p) (suc i) = scale_list-get c p i

  -- (-p)_i = -p_i
  neg_list-get : (p : List A) (i : ℕ) → get_or (neg_list F p) i 𝟘 ≡ - get_or p i 𝟘
  neg_list-get [] i = sym (Laws.neg-zero F.ring)
  neg_list-get (a ∷ p) zero = refl
  neg_list-get (a ∷ p) (suc i) = neg_list-get p i

  -- the sequence 0, f_0, f_1, …
  abbrev pub shift : (ℕ → A) → ℕ → A
  shift f zero = 𝟘
  shift f (suc i) = f i

  -- (a + t·p) acts as a·f + shift (p·f)
  abbrev pub act : List A → (ℕ → A) → ℕ → A
  act [] f i = 𝟘
  act (a ∷ p) f i = a * f i + shift (act p f) i

  -- (p·q)_i is p acting on the coefficients of q
  mul_lists-get : (p q : List A) (i : ℕ) → get_or (mul_lists F p q) i 𝟘 ≡ act p (λ j. get_or q j 𝟘) i
  mul_lists-get [] q i = refl
  mul_lists-get (a ∷ p) q zero = add_lists-get (scale_list F a q) (𝟘 ∷ mul_lists F p q) zero ∙ ap (λ x. x + 𝟘) (scale_list-get a q zero)
  mul_lists-get (a ∷ p) q (suc i) = add_lists-get (scale_list F a q) (𝟘 ∷ mul_lists F p q) (suc i) ∙ ap₂ F.add (scale_list-get a q (suc i)) (mul_lists-get p q i)

  -- p·0 = 0
  act-zero : (p : List A) (i : ℕ) → act p (λ j. 𝟘) i ≡ 𝟘
  act-zero [] i = refl
  act-zero (a ∷ p) zero = F.add-zero (a * 𝟘) ∙ Laws.mul-zero F.ring a
  act-zero (a ∷ p) (suc i) = ap₂ F.add (Laws.mul-zero F.ring a) (act-zero p i) ∙ F.add-zero 𝟘

  -- p·(f + g) = p·f + p·g
  act-add : (p : List A) (f g : ℕ → A) (i : ℕ) → act p (λ j. f j + g j) i ≡ act p f i + act p g i
  act-add [] f g i = sym (F.add-zero 𝟘)
  act-add (a ∷ p) f g zero =
      F.add-zero (a * (f zero + g zero)) ∙ F.mul-add a (f zero) (g zero) ∙ ap₂ F.add (sym (F.add-zero (a * f zero))) (sym (F.add-zero (a * g zero)))
  act-add (a ∷ p) f g (suc i) =
      ap₂ F.add (F.mul-add a (f (suc i)) (g (suc i))) (act-add p f g i) ∙ Laws.add_exchange F.ring (a * f (suc i)) (a * g (suc i)) (act p f i) (act p g i)

  -- (p + q)·f = p·f + q·f
  add_lists-act : (p q : List A) (f : ℕ → A) (i : ℕ) → act (add_lists F p q) f i ≡ act p f i + act q f i
  add_lists-act [] q f i = sym (Laws.zero-add F.ring (act q f i))
  add_lists-act (a ∷ p) [] f i = sym (F.add-zero (act (a ∷ p) f i))
  add_lists-act (a ∷ p) (b ∷ q) f zero =
      F.add-zero ((a + b) * f zero) ∙ Laws.add-mul F.ring a b (f zero) ∙ ap₂ F.add (sym (F.add-zero (a * f zero))) (sym (F.add-zero (b * f zero)))
  add_lists-act (a ∷ p) (b ∷ q) f (suc i) =
      ap₂ F.add (Laws.add-mul F.ring a b (f (suc i))) (add_lists-act p q f i) ∙ Laws.add_exchange F.ring (a * f (suc i)) (b * f (suc i)) (act p f i) (act q f i)

  -- (c·p)·f = c·(p·f)
  scale_list-act : (c : A) (p : List A) (f : ℕ → A) (i : ℕ) → act (scale_list F c p) f i ≡ c * act p f i
  scale_list-act c [] f i = sym (Laws.mul-zero F.ring c)
  scale_list-act c (a ∷ p) f zero = ap (λ x. x + 𝟘) (F.mul_assoc c a (f zero)) ∙ F.add-zero (c * (a * f zero)) ∙ ap (λ x. c * x) (sym (F.add-zero (a * f zero)))
  scale_list-act c (a ∷ p) f (suc i) = ap₂ F.add (F.mul_assoc c a (f (suc i))) (scale_list-act c p f i) ∙ sym (F.mul-add c (a * f (suc i)) (act p f i))

  -- zeros at the end act as 0
  with_head-act : (a : A) (p : List A) (f : ℕ → A) (i : ℕ) → act (with_head F a p) f i ≡ act (a ∷ p) f i
  with_head-act a [] f i = go (F.is_zero a) i
    where
      go : (d : Dec (a ≡ 𝟘)) (i : ℕ) → act (elim d as (λ d. List A) [ yes e ↦ [] | no n ↦ a ∷ [] ]) f i ≡ act (a ∷ []) f i
      go (yes e) zero = sym (F.add-zero (a * f zero) ∙ ap (λ x. x * f zero) e ∙ Laws.zero-mul F.ring (f zero))
      go (yes e) (suc i) = sym (F.add-zero (a * f (suc i)) ∙ ap (λ x. x * f (suc i)) e ∙ Laws.zero-mul F.ring (f (suc i)))
      go (no n) i = refl
  with_head-act a (b ∷ p) f i = refl

  -- the list without the zeros at its end acts as the list
  pub trim-act : (p : List A) (f : ℕ → A) (i : ℕ) → act (trim F p) f i ≡ act p f i
  trim-act [] f i = refl
  trim-act (a ∷ p) f zero = with_head-act a (trim F p) f zero
  trim-act (a ∷ p) f (suc i) = with_head-act a (trim F p) f (suc i) ∙ ap (λ x. a * f (suc i) + x) (trim-act p f i)

  -- (p·q)·f = p·(q·f)
  mul_lists-act : (p q : List A) (f : ℕ → A) (i : ℕ) → act (mul_lists F p q) f i ≡ act p (act q f) i
  mul_lists-act [] q f i = refl
  mul_lists-act (a ∷ p) q f zero =
      add_lists-act (scale_list F a q) (𝟘 ∷ mul_lists F p q) f zero ∙ ap₂ F.add (scale_list-act a q f zero) (F.add-zero (𝟘 * f zero) ∙ Laws.zero-mul F.ring (f zero))
  mul_lists-act (a ∷ p) q f (suc i) =
      add_lists-act (scale_list F a q) (𝟘 ∷ mul_lists F p q) f (suc i)
      ∙ ap₂ F.add (scale_list-act a q f (suc i)) (ap₂ F.add (Laws.zero-mul F.ring (f (suc i))) (mul_lists-act p q f i) ∙ Laws.zero-add F.ring (act p (act q f) i))

  -- q·(a + t·p) = a·q + t·(q·p)
  act-cons : (q : List A) (a : A) (p : List A) (i : ℕ) → act q (λ j. get_or (a ∷ p) j 𝟘) i ≡ a * get_or q i 𝟘 + shift (act q (λ j. get_or p j 𝟘)) i
  act-cons [] a p zero = sym (F.add-zero (a * 𝟘) ∙ Laws.mul-zero F.ring a)
  act-cons [] a p (suc i) = sym (F.add-zero (a * 𝟘) ∙ Laws.mul-zero F.ring a)
  act-cons (b ∷ q) a p zero = ap (λ x. x + 𝟘) (F.mul_comm b a)
  act-cons (b ∷ q) a p (suc i) =
      ap (λ x. b * get_or p i 𝟘 + x) (act-cons q a p i)
      ∙ Laws.add_left_comm F.ring (b * get_or p i 𝟘) (a * get_or q i 𝟘) (shift (act q (λ j. get_or p j 𝟘)) i)

  -- p·q = q·p
  act_comm : (p q : List A) (i : ℕ) → act p (λ j. get_or q j 𝟘) i ≡ act q (λ j. get_or p j 𝟘) i
  act_comm [] q i = sym (act-zero q i)
  act_comm (a ∷ p) q zero = sym (act-cons q a p zero)
  act_comm (a ∷ p) q (suc i) = ap (λ x. a * get_or q (suc i) 𝟘 + x) (act_comm p q i) ∙ sym (act-cons q a p (suc i))

  -- (p + q)_i = p_i + q_i
  pub coefficient-add_polynomials : (p q : Polynomial F) (i : ℕ) → coefficient F (add_polynomials F p q) i ≡ coefficient F p i + coefficient F q i
  unfolding add_polynomials coefficient
  coefficient-add_polynomials p q i = coefficient-of_list (add_lists F p.coefficients q.coefficients) i ∙ add_lists-get p.coefficients q.coefficients i

  -- (-p)_i = -p_i
  pub coefficient-neg_polynomial : (p : Polynomial F) (i : ℕ) → coefficient F (neg_polynomial F p) i ≡ - coefficient F p i
  unfolding neg_polynomial coefficient
  coefficient-neg_polynomial p i = coefficient-of_list (neg_list F p.coefficients) i ∙ neg_list-get p.coefficients i

  -- (p·q)_i is p acting on the coefficients of q
  pub coefficient-mul_polynomials : (p q : Polynomial F) (i : ℕ) → coefficient F (mul_polynomials F p q) i ≡ act p.coefficients (coefficient F q) i
  unfolding mul_polynomials coefficient
  coefficient-mul_polynomials p q i = coefficient-of_list (mul_lists F p.coefficients q.coefficients) i ∙ mul_lists-get p.coefficients q.coefficients i

  pub add_polynomials-zero : (p : Polynomial F) → add_polynomials F p (zero_polynomial F) ≡ p
  unfolding zero_polynomial
  add_polynomials-zero p = polynomial_ext _ p λ i.
      coefficient-add_polynomials p (of_list F []) i ∙ ap (λ x. coefficient F p i + x) (coefficient-of_list [] i) ∙ F.add-zero (coefficient F p i)

  pub add_polynomials-neg : (p : Polynomial F) → add_polynomials F p (neg_polynomial F p) ≡ (zero_polynomial F)
  unfolding zero_polynomial
  add_polynomials-neg p = polynomial_ext _ _ λ i.
      coefficient-add_polynomials p (neg_polynomial F p) i ∙ ap (λ x. coefficient F p i + x) (coefficient-neg_polynomial p i) ∙ F.add-neg (coefficient F p i)
      ∙ sym (coefficient-of_list [] i)

  pub add_polynomials_comm : (p q : Polynomial F) → add_polynomials F p q ≡ add_polynomials F q p
  add_polynomials_comm p q = polynomial_ext _ _ λ i.
      coefficient-add_polynomials p q i ∙ F.add_comm (coefficient F p i) (coefficient F q i) ∙ sym (coefficient-add_polynomials q p i)

  pub add_polynomials_assoc : (p q r : Polynomial F) → add_polynomials F (add_polynomials F p q) r ≡ add_polynomials F p (add_polynomials F q r)
  add_polynomials_assoc p q r = polynomial_ext _ _ λ i.
      coefficient-add_polynomials (add_polynomials F p q) r i ∙ ap (λ x. x + coefficient F r i) (coefficient-add_polynomials p q i)
      ∙ F.add_assoc (coefficient F p i) (coefficient F q i) (coefficient F r i)
      ∙ ap (λ x. coefficient F p i + x) (sym (coefficient-add_polynomials q r i)) ∙ sym (coefficient-add_polynomials p (add_polynomials F q r) i)

  pub mul_polynomials_comm : (p q : Polynomial F) → mul_polynomials F p q ≡ mul_polynomials F q p
  unfolding coefficient
  mul_polynomials_comm p q = polynomial_ext _ _ λ i.
      coefficient-mul_polynomials p q i ∙ act_comm p.coefficients q.coefficients i ∙ sym (coefficient-mul_polynomials q p i)

  pub mul_polynomials_assoc : (p q r : Polynomial F) → mul_polynomials F (mul_polynomials F p q) r ≡ mul_polynomials F p (mul_polynomials F q r)
  unfolding mul_polynomials of_list
  mul_polynomials_assoc p q r = polynomial_ext _ _ λ i.
      coefficient-mul_polynomials (mul_polynomials F p q) r i ∙ trim-act (mul_lists F p.coefficients q.coefficients) (coefficient F r) i
      ∙ mul_lists-act p.coefficients q.coefficients (coefficient F r) i
      ∙ ap (λ f. act p.coefficients f i) (sym (fun_ext (coefficient-mul_polynomials q r))) ∙ sym (coefficient-mul_polynomials p (mul_polynomials F q r) i)

  -- 1·p = p
  pub one-act : (p : Polynomial F) (i : ℕ) → act (𝟙 ∷ []) (coefficient F p) i ≡ coefficient F p i
  one-act p zero = F.add-zero (𝟙 * coefficient F p zero) ∙ Laws.one-mul F.ring (coefficient F p zero)
  one-act p (suc i) = F.add-zero (𝟙 * coefficient F p (suc i)) ∙ Laws.one-mul F.ring (coefficient F p (suc i))

  pub mul_polynomials-one : (p : Polynomial F) → mul_polynomials F p (one_polynomial F) ≡ p
  unfolding one_polynomial of_list coefficient
  mul_polynomials-one p = mul_polynomials_comm p (one_polynomial F) ∙ polynomial_ext _ p λ i.
      coefficient-mul_polynomials (one_polynomial F) p i ∙ trim-act (𝟙 ∷ []) (coefficient F p) i ∙ one-act p i

  pub mul_polynomials-add : (p q r : Polynomial F) → mul_polynomials F p (add_polynomials F q r) ≡ add_polynomials F (mul_polynomials F p q) (mul_polynomials F p r)
  mul_polynomials-add p q r = polynomial_ext _ _ λ i.
      coefficient-mul_polynomials p (add_polynomials F q r) i ∙ ap (λ f. act p.coefficients f i) (fun_ext (coefficient-add_polynomials q r))
      ∙ act-add p.coefficients (coefficient F q) (coefficient F r) i
      ∙ ap₂ F.add (sym (coefficient-mul_polynomials p q i)) (sym (coefficient-mul_polynomials p r i))
      ∙ sym (coefficient-add_polynomials (mul_polynomials F p q) (mul_polynomials F p r) i)
