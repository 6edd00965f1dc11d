-- Polynomials of K[z] modulo the monic polynomial R = z^m + r_(m-1)·z^(m-1) + .. + r_0, given by the list r of its m ≥ 1 coefficients below the leading one.
--     remainder-trim, remainder-filled, remainder-short      the remainder does not see zeros at the end of a list; up to m coefficients it fills the list with zeros
--     remainder_of-add, remainder_of-mul, remainder_of-one      taking the remainder is a ring map from polynomials to members
--     remainder_of-division      where p = q·R + s, the remainder of p is that of s
--     divides_of_same      R divides the difference of polynomials with the same remainder
use Rattle.std.specs.Prelude.{replicate, get_or}
use Rattle.std.proofs.Common.{◌≡◌, refl, sym, ap, ap₂, ◌∙◌, ℕ, zero, suc, ◌-◌, ◌≤◌, List, [], ◌∷◌, ◌++◌, length, arith, length-append}
use Rattle.std.proofs.lemmas.List.{length-replicate}
use Rattle.risch_ring.specs.CommRing.{CommRing, Field, sub}
use Rattle.risch_ring.proofs.Laws as Laws
use Rattle.risch_univariate.specs.Polynomial as univariate
use Rattle.risch_univariate.specs.Polynomial.{Polynomial, IsTrimmed, coefficient, with_head, trim, of_list, add_polynomials, mul_polynomials, zero_polynomial, one_polynomial}
use Rattle.risch_univariate.specs.PolynomialLaws.{trim-of_trimmed, polynomial_ext}
use Rattle.risch_univariate.specs.PolynomialRing.{polynomials}
use Rattle.risch_univariate.specs.Degree.{size}
use Rattle.risch_univariate.specs.Division.{IsDivision, Divides}
use Rattle.risch_univariate.proofs.Coefficients.{coefficient-zero}
use Rattle.risch_univariate.proofs.Degree as Degree
use Rattle.risch_univariate.proofs.Division as Division
use Rattle.risch_mean.specs.Univariate.{add_lists, scale, mul_lists}
use Rattle.risch_mean.specs.Algebra.{last, shifted, times_z, zeros, one_mod, remainder, times_mod, with_leading_one}
use Rattle.risch_mean.proofs.AlgebraLaws as Algebra

module _ {A : Type 0} (F : Field A) where
  -- the ring K
  abbrev K : CommRing A
  K = F.ring

  -- ---- lists
  add-nil : (v : List A) → add_lists K v [] ≡ v
  add-nil [] = refl
  add-nil (x ∷ v) = refl

  -- a zero that is added changes nothing
  add-zero : (v : List A) → 1 ≤ length v → add_lists K v (F.zero ∷ []) ≡ v
  add-zero [] h = absurd (omega arith)
  add-zero (x ∷ v) h = ap₂ ◌∷◌ (F.add-zero x) (add-nil v)

  length-add : (u v : List A) → length u ≡ length v → length (add_lists K u v) ≡ length v
  length-add [] v h = refl
  length-add (c ∷ u) [] h = absurd (omega arith)
  length-add (c ∷ u) (d ∷ v) h = ap suc (length-add u v (omega arith))

  length-scale : (a : A) (u : List A) → length (scale K a u) ≡ length u
  length-scale a [] = refl
  length-scale a (c ∷ u) = ap suc (length-scale a u)

  length-shifted : (a : A) (u : List A) → length (shifted K a u) ≡ length u
  length-shifted a [] = refl
  length-shifted a (c ∷ u) = ap suc (length-shifted c u)

  length-zeros : (r : List A) → length (zeros K r) ≡ length r
  length-zeros [] = refl
  length-zeros (c ∷ r) = ap suc (length-zeros r)

  length-one_mod : (r : List A) → length (one_mod K r) ≡ length r
  length-one_mod [] = refl
  length-one_mod (c ∷ r) = ap suc (length-zeros r)

  length-times_z : (r u : List A) → length u ≡ length r → length (times_z K r u) ≡ length r
  length-times_z r u h =
      length-add (shifted K F.zero u) (scale K (F.neg (last K u)) r) (length-shifted F.zero u ∙ h ∙ sym (length-scale (F.neg (last K u)) r)) ∙ length-scale (F.neg (last K u)) r

  pub length-remainder : (r p : List A) → 1 ≤ length r → length (remainder K r p) ≡ length r
  length-remainder r p some = ap length (Algebra.remainder-is K r p some) ∙ Algebra.length-times_mod K r p (one_mod K r) (length-one_mod r)

  pub length-with_leading_one : (r : List A) → length (with_leading_one K r) ≡ suc (length r)
  length-with_leading_one [] = refl
  length-with_leading_one (c ∷ r) = ap suc (length-with_leading_one r)

  get-replicate : (k i : ℕ) → get_or (replicate k F.zero) i F.zero ≡ F.zero
  get-replicate zero i = refl
  get-replicate (suc k) zero = refl
  get-replicate (suc k) (suc i) = get-replicate k i

  get-filled : (p : List A) (k i : ℕ) → get_or (p ++ replicate k F.zero) i F.zero ≡ get_or p i F.zero
  get-filled [] k i = get-replicate k i
  get-filled (c ∷ p) k zero = refl
  get-filled (c ∷ p) k (suc i) = get-filled p k i

  get-zeros : (r : List A) (i : ℕ) → get_or (zeros K r) i F.zero ≡ F.zero
  get-zeros [] i = refl
  get-zeros (c ∷ r) zero = refl
  get-zeros (c ∷ r) (suc i) = get-zeros r i

  -- a list that is its own double is 0
  zero_of_double : (c : A) → c ≡ F.add c c → c ≡ F.zero
  zero_of_double c e = sym (F.add-zero c) ∙ ap (F.add c) (sym (F.add-neg c)) ∙ sym (F.add_assoc c c (F.neg c)) ∙ ap (λ x. F.add x (F.neg c)) (sym e) ∙ F.add-neg c

  zeros_of_double : (r u : List A) → length u ≡ length r → u ≡ add_lists K u u → u ≡ zeros K r
  zeros_of_double [] [] h e = refl
  zeros_of_double [] (c ∷ u) h e = absurd (omega arith)
  zeros_of_double (d ∷ r) [] h e = absurd (omega arith)
  zeros_of_double (d ∷ r) (c ∷ u) h e =
      let both : c ∷ u ≡ F.add c c ∷ add_lists K u u = e in
      let head : c ≡ F.add c c = cc in
      let tail : u ≡ add_lists K u u = cc in
      ap₂ ◌∷◌ (zero_of_double c head) (zeros_of_double r u (omega arith) tail)

  zeros-front_one : (r : List A) → 1 ≤ length r → add_lists K (zeros K r) (F.one ∷ []) ≡ one_mod K r
  zeros-front_one [] h = absurd (omega arith)
  zeros-front_one (c ∷ r) h = ap₂ ◌∷◌ (Laws.zero-add K F.one) (add-nil (zeros K r))

  -- ---- the sums and products of lists are those of polynomials
  add_lists-same : (p q : List A) → univariate.add_lists F p q ≡ add_lists K p q
  add_lists-same [] q = refl
  add_lists-same (a ∷ p) [] = refl
  add_lists-same (a ∷ p) (b ∷ q) = ap (λ (l : List A). F.add a b ∷ l) (add_lists-same p q)

  scale-same : (c : A) (p : List A) → univariate.scale_list F c p ≡ scale K c p
  scale-same c [] = refl
  scale-same c (a ∷ p) = ap (λ (l : List A). F.mul c a ∷ l) (scale-same c p)

  mul_lists-same : (p q : List A) → univariate.mul_lists F p q ≡ mul_lists K p q
  mul_lists-same [] q = refl
  mul_lists-same (a ∷ p) q =
      add_lists-same (univariate.scale_list F a q) (F.zero ∷ univariate.mul_lists F p q) ∙ ap₂ (λ u v. add_lists K u (F.zero ∷ v)) (scale-same a q) (mul_lists-same p q)

  -- the modulus ends with 1
  with_leading_one-is_trimmed : (r : List A) → IsTrimmed F (with_leading_one K r)
  with_leading_one-is_trimmed [] = F.one-ne-zero
  with_leading_one-is_trimmed (c ∷ []) = F.one-ne-zero
  with_leading_one-is_trimmed (c ∷ d ∷ r) = with_leading_one-is_trimmed (d ∷ r)

  -- R
  abbrev pub modulus_of : List A → Polynomial F
  modulus_of r = of_list F (with_leading_one K r)

  pub size-modulus : (r : List A) → size F (modulus_of r) ≡ suc (length r)
  unfolding of_list
  size-modulus r = ap length (trim-of_trimmed F (with_leading_one K r) (with_leading_one-is_trimmed r)) ∙ length-with_leading_one r

  modulus-ne-zero : (r : List A) → ¬ (modulus_of r ≡ (polynomials F).zero)
  modulus-ne-zero r = Degree.nonzero_of_size F (modulus_of r) (omega (arith, size-modulus r))

  module _ (r : List A) (some : 1 ≤ length r) where
    -- ---- the remainders of lists
    remainder-zero : remainder K r (F.zero ∷ []) ≡ zeros K r
    remainder-zero =
        zeros_of_double r (remainder K r (F.zero ∷ [])) (length-remainder r (F.zero ∷ []) some)
        (ap (λ (c : A). remainder K r (c ∷ [])) (sym (F.add-zero F.zero)) ∙ Algebra.remainder-add K r (F.zero ∷ []) (F.zero ∷ []) some)

    -- of z·p
    pub remainder-shift : (p : List A) → remainder K r (F.zero ∷ p) ≡ times_z K r (remainder K r p)
    remainder-shift p = add-zero (times_z K r (remainder K r p)) (omega (arith, length-times_z r (remainder K r p) (length-remainder r p some)))

    times_z-zeros : times_z K r (zeros K r) ≡ zeros K r
    times_z-zeros = sym (remainder-shift []) ∙ remainder-zero

    remainder-one : remainder K r (F.one ∷ []) ≡ one_mod K r
    remainder-one = ap (λ v. add_lists K v (F.one ∷ [])) times_z-zeros ∙ zeros-front_one r some

    pub remainder-replicate : (k : ℕ) → remainder K r (replicate k F.zero) ≡ zeros K r
    remainder-replicate zero = refl
    remainder-replicate (suc k) = remainder-shift (replicate k F.zero) ∙ ap (times_z K r) (remainder-replicate k) ∙ times_z-zeros

    -- zeros at the end
    pub remainder-filled : (p : List A) (k : ℕ) → remainder K r (p ++ replicate k F.zero) ≡ remainder K r p
    remainder-filled [] k = remainder-replicate k
    remainder-filled (c ∷ p) k = ap (λ v. add_lists K (times_z K r v) (c ∷ [])) (remainder-filled p k)

    remainder-with_head : (a : A) (p : List A) → remainder K r (with_head F a p) ≡ remainder K r (a ∷ p)
    remainder-with_head a [] = go (F.is_zero a)
      where
        go : (d : Dec (a ≡ F.zero)) → remainder K r (elim d as (λ d. List A) [ yes e ↦ [] | no n ↦ a ∷ [] ]) ≡ remainder K r (a ∷ [])
        go (yes e) = sym (ap (λ (c : A). remainder K r (c ∷ [])) e ∙ remainder-zero)
        go (no n) = refl
    remainder-with_head a (b ∷ p) = refl

    pub remainder-trim : (p : List A) → remainder K r (trim F p) ≡ remainder K r p
    remainder-trim [] = refl
    remainder-trim (a ∷ p) = remainder-with_head a (trim F p) ∙ ap (λ v. add_lists K (times_z K r v) (a ∷ [])) (remainder-trim p)

    -- of at most m coefficients
    pub remainder-member : (p : List A) → length p ≡ length r → remainder K r p ≡ p
    remainder-member p h = Algebra.remainder-is K r p some ∙ Algebra.times_mod-one K r p h

    pub remainder-short : (p : List A) → length p ≤ length r → remainder K r p ≡ p ++ replicate (length r - length p) F.zero
    remainder-short p h =
        sym (remainder-filled p (length r - length p))
        ∙ remainder-member (p ++ replicate (length r - length p) F.zero) (omega (arith, length-append p (replicate (length r - length p) F.zero), length-replicate (length r - length p) F.zero))

    -- the remainder of p acts as p
    pub times_mod-remainder : (p w : List A) → length w ≡ length r → times_mod K r (remainder K r p) w ≡ times_mod K r p w
    times_mod-remainder p w h =
        ap (λ v. times_mod K r v w) (Algebra.remainder-is K r p some) ∙ Algebra.times_mod_assoc K r p (one_mod K r) w (length-one_mod r) h
        ∙ ap (times_mod K r p) (Algebra.times_mod_comm K r (one_mod K r) w (length-one_mod r) h ∙ Algebra.times_mod-one K r w h)

    -- ---- the remainders of polynomials
    abbrev pub remainder_of : Polynomial F → List A
    remainder_of p = remainder K r p.coefficients

    pub length-remainder_of : (p : Polynomial F) → length (remainder_of p) ≡ length r
    length-remainder_of p = length-remainder r p.coefficients some

    pub remainder_of-of_list : (p : List A) → remainder_of (of_list F p) ≡ remainder K r p
    unfolding of_list
    remainder_of-of_list p = remainder-trim p

    pub remainder_of-zero : remainder_of (polynomials F).zero ≡ zeros K r
    unfolding polynomials zero_polynomial
    remainder_of-zero = remainder_of-of_list []

    pub remainder_of-one : remainder_of (polynomials F).one ≡ one_mod K r
    unfolding polynomials one_polynomial
    remainder_of-one = remainder_of-of_list (F.one ∷ []) ∙ remainder-one

    pub remainder_of-add : (p q : Polynomial F) → remainder_of ((polynomials F).add p q) ≡ add_lists K (remainder_of p) (remainder_of q)
    unfolding polynomials add_polynomials
    remainder_of-add p q =
        remainder_of-of_list (univariate.add_lists F p.coefficients q.coefficients) ∙ ap (remainder K r) (add_lists-same p.coefficients q.coefficients)
        ∙ Algebra.remainder-add K r p.coefficients q.coefficients some

    pub remainder_of-mul : (p q : Polynomial F) → remainder_of ((polynomials F).mul p q) ≡ times_mod K r (remainder_of p) (remainder_of q)
    unfolding polynomials mul_polynomials
    remainder_of-mul p q =
        remainder_of-of_list (univariate.mul_lists F p.coefficients q.coefficients) ∙ ap (remainder K r) (mul_lists-same p.coefficients q.coefficients)
        ∙ Algebra.remainder-mul K r p.coefficients q.coefficients some

    -- R and its multiples have the remainder 0
    remainder_of-modulus : remainder_of (modulus_of r) ≡ zeros K r
    remainder_of-modulus = remainder_of-of_list (with_leading_one K r) ∙ Algebra.remainder-modulus K r some

    remainder_of-multiple : (q : Polynomial F) → remainder_of ((polynomials F).mul q (modulus_of r)) ≡ remainder_of (polynomials F).zero
    remainder_of-multiple q =
        remainder_of-mul q (modulus_of r) ∙ ap (times_mod K r (remainder_of q)) (remainder_of-modulus ∙ sym remainder_of-zero) ∙ sym (remainder_of-mul q (polynomials F).zero)
        ∙ ap remainder_of (Laws.mul-zero (polynomials F) q)

    pub remainder_of-multiple_add : (q s : Polynomial F) → remainder_of ((polynomials F).add ((polynomials F).mul q (modulus_of r)) s) ≡ remainder_of s
    remainder_of-multiple_add q s =
        remainder_of-add ((polynomials F).mul q (modulus_of r)) s ∙ ap (λ v. add_lists K v (remainder_of s)) (remainder_of-multiple q) ∙ sym (remainder_of-add (polynomials F).zero s)
        ∙ ap remainder_of (Laws.zero-add (polynomials F) s)

    pub remainder_of-division : (p q s : Polynomial F) → IsDivision F p (modulus_of r) q s → remainder_of p ≡ remainder_of s
    remainder_of-division p q s d = ap remainder_of d.equation ∙ remainder_of-multiple_add q s

    -- a polynomial of degree below m with the remainder 0 is 0
    zero_of_remainder : (s : Polynomial F) → size F s ≤ length r → remainder_of s ≡ zeros K r → s ≡ (polynomials F).zero
    unfolding coefficient
    zero_of_remainder s small e = polynomial_ext F s (polynomials F).zero λ i.
        sym (get-filled s.coefficients (length r - length s.coefficients) i) ∙ ap (λ v. get_or v i F.zero) (sym (remainder-short s.coefficients small) ∙ e) ∙ get-zeros r i
        ∙ sym (coefficient-zero F i)

    divides_of_zero : (p : Polynomial F) → remainder_of p ≡ zeros K r → Divides F (modulus_of r) p
    divides_of_zero p e =
        let d = Division.divide F (modulus_of r) (modulus-ne-zero r) p in
        let below = d.is_division.smaller in
        let small : size F d.remainder ≤ length r = omega (arith, below, size-modulus r) in
        let rest : d.remainder ≡ (polynomials F).zero = zero_of_remainder d.remainder small (sym (remainder_of-division p d.quotient d.remainder d.is_division) ∙ e) in
        record {
          cofactor = d.quotient;
          equation =
              d.is_division.equation ∙ ap ((polynomials F).add ((polynomials F).mul d.quotient (modulus_of r))) rest
              ∙ (polynomials F).add-zero ((polynomials F).mul d.quotient (modulus_of r));
        }

    pub divides_of_same : (p q : Polynomial F) → remainder_of p ≡ remainder_of q → Divides F (modulus_of r) (sub (polynomials F) p q)
    divides_of_same p q e =
        divides_of_zero (sub (polynomials F) p q)
        (remainder_of-add p ((polynomials F).neg q) ∙ ap (λ v. add_lists K v (remainder_of ((polynomials F).neg q))) e ∙ sym (remainder_of-add q ((polynomials F).neg q))
        ∙ ap remainder_of ((polynomials F).add-neg q) ∙ remainder_of-zero)

    pub same_of_divides : (p q : Polynomial F) → Divides F (modulus_of r) (sub (polynomials F) p q) → remainder_of p ≡ remainder_of q
    same_of_divides p q d =
        ap remainder_of (sym (Laws.neg-add_cancel (polynomials F) p q) ∙ ap (λ w. (polynomials F).add w q) d.equation) ∙ remainder_of-multiple_add d.cofactor q
