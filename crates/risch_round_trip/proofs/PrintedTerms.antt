-- What is printed of fractions, powers and terms is read as their value.
use Rattle.std.specs.Prelude.{◌==◌, ◌^◌, ◌&&◌, ◌||◌, not, if◌then◌else◌, unsigned_abs, codes, decimal}
use Rattle.std.specs.Fmt.{signed_decimal}
use Rattle.std.specs.Ordering.{int_eq}
use Rattle.std.proofs.Common.{◌≡◌, ℕ, zero, suc, ◌≤◌, ◌<◌, List, [], ◌∷◌, ◌++◌, Bool, true, false, Option, None, Some, refl, sym, ap, ap₂, subst, ◌∙◌, append_assoc, arith, pos, negsuc, ℤ, ne_eqb, eqb-true}
use Rattle.std.proofs.lemmas.Bool.Decides.{Decides-int_eq}
use Rattle.risch_ring.proofs.Expression.{reading}
use Rattle.risch_ring.proofs.Solver.{ring}
use Rattle.risch_mean.specs.Element as mean
use Rattle.risch_mean.specs.Element.{InField, neg, integer, ◌+ₑ◌, ◌-ₑ◌, ◌*ₑ◌, ◌/ₑ◌, is_zero_test, same}
use Rattle.risch_mean.specs.ElementField.{elements, ◌^ₑ◌}
use Rattle.risch_mean.specs.ElementLaws.{same_is, over-mul}
use Rattle.risch_mean.specs.ElementFieldLaws.{mul-one, one-ne-zero}
use Rattle.risch_mean.proofs.IntegerLaws.{integer-one, integer-neg, integer-ne-zero}
use Rattle.risch_mean.proofs.FieldClosure.{InField-integer}
use Rattle.risch_mean.proofs.PowerLaws.{power-zero, power-one}
use Rattle.risch_frac.specs.Fraction.{Fraction, IsLowest}
use Rattle.risch_polynomial_theory.specs.FractionMeaning.{fraction_meaning}
use Rattle.risch_level.specs.Levels.{Element}
use Rattle.risch_level.specs.Accessors.{as_number}
use Rattle.risch_element_theory.specs.WholeTower.{meaning}
use Rattle.risch_element_theory.proofs.ElementParts.{as_number-stands}
use Rattle.risch_cert.specs.Texts.{is_digits, is_power}
use Rattle.risch_cert.specs.Printing.{print_fraction, print_power, enclosed, Printed, is_whole, print_factor, print_term, print_quotient}
use Rattle.risch_expression.specs.declared.names.Names.{Names}
use Rattle.risch_round_trip.proofs.WrittenTexts.{IsAtom, IsPower, IsTerm, IsSum, decimal-is_number, number-is_atom, atom-is_power, raised-is_power, power-is_term, times-is_term, over-is_term, term-is_sum, opposite-is_sum, sum-same, enclosed-is_atom}
use Rattle.risch_round_trip.proofs.ShortTexts.{digits-are_power, named-are_power}

-- ---- the test for 0
zero_of_test : (f : mean.Element) → is_zero_test f ≡ true → f ≡ mean.zero
unfolding same
zero_of_test f t = same_is f mean.zero (ap is_zero_test (less_nothing f) ∙ t)
  where
    less_nothing : (f : mean.Element) → mean.minus f mean.zero ≡ f
    less_nothing f = ring elements.ring (f ∷ []) (search reading depth 20) refl

pub some_value : (f : mean.Element) → ¬ (f ≡ mean.zero) → is_zero_test f ≡ false
some_value f n = not_true (is_zero_test f) (λ t. n (zero_of_test f t))
  where
    not_true : (b : Bool) → ¬ (b ≡ true) → b ≡ false
    not_true true h = absurd (h refl)
    not_true false h = refl

-- ---- n/1 is n
one-den : ¬ (integer (pos 1) ≡ mean.zero)
one-den h = one-ne-zero (sym integer-one ∙ h)

pub over-one : (f : mean.Element) → f /ₑ integer (pos 1) ≡ f
over-one f = sym (mul-one (f /ₑ integer (pos 1))) ∙ ap (mean.mul (f /ₑ integer (pos 1))) (sym integer-one) ∙ over-mul f (integer (pos 1)) one-den

-- ---- signs
minus-times : (u v : mean.Element) → neg (u *ₑ v) ≡ neg u *ₑ v
minus-times u v = ring elements.ring (u ∷ (v ∷ [])) (search reading depth 20) refl

one-times : (u : mean.Element) → mean.one *ₑ u ≡ u
one-times u = ring elements.ring (u ∷ []) (search reading depth 20) refl

minus_one-times : (u : mean.Element) → neg mean.one *ₑ u ≡ neg u
minus_one-times u = ring elements.ring (u ∷ []) (search reading depth 20) refl

-- A term, or one behind the sign `-`.
pub data IsSignedTerm (names : Names) (open_left : ℕ) : List ℕ → mean.Element → Type 0 where
  plain : {text : List ℕ} {v : mean.Element} → IsTerm names open_left text v → IsSignedTerm names open_left text v
  signed : {text : List ℕ} {v : mean.Element} → IsTerm names open_left text v → IsSignedTerm names open_left (45 ∷ text) (neg v)

-- What is printed is read as v. Where it is not long it is a single term.
pub record IsPrinted (names : Names) (open_left : ℕ) (printed : Printed) (v : mean.Element) : Type 0 where
  pub is_sum : IsSum names open_left printed.text v
  pub short : printed.long ≡ false → IsSignedTerm names open_left printed.text v

-- an element other than these two is as it was
pub is_whole-means : (z : ℤ) (c : Element) → is_whole z (as_number 5 c) ≡ true → meaning c ≡ integer z
is_whole-means z c h = by_found (as_number 5 c) refl h
  where
    both : (a b : Bool) → (a && b) ≡ true → (a ≡ true) × (b ≡ true)
    both true b h = (refl, h)
    both false b h = absurd (cc)

    by_found : (found : Option Fraction) → as_number 5 c ≡ found → is_whole z found ≡ true → meaning c ≡ integer z
    by_found None e k = absurd (cc)
    by_found (Some q) e k =
        let t = both (int_eq q.num z) (q.den == 1) k in
        as_number-stands c q e ∙ ap₂ (λ n d. integer n /ₑ integer (pos d)) ((Decides-int_eq q.num z).0 t.0) (eqb-true q.den 1 t.1) ∙ over-one (integer z)

module _ (names : Names) where
  pub signed-same : (open_left : ℕ) (text : List ℕ) (u v : mean.Element) → u ≡ v → IsSignedTerm names open_left text u → IsSignedTerm names open_left text v
  signed-same open_left text u v e t = subst (IsSignedTerm names open_left text) e t

  pub signed-is_sum : (open_left : ℕ) (text : List ℕ) (v : mean.Element) → IsSignedTerm names open_left text v → IsSum names open_left text v
  signed-is_sum open_left text v (plain t) = term-is_sum names open_left text v t
  signed-is_sum open_left text v (signed t) = opposite-is_sum names open_left _ _ t

  pub signed-times : (open_left : ℕ) (text next : List ℕ) (u v : mean.Element) → IsSignedTerm names open_left text u → IsPower names open_left next v →
      IsSignedTerm names open_left (text ++ (42 ∷ next)) (u *ₑ v)
  signed-times open_left text next u v (plain t) p = plain (times-is_term names open_left text next u v t p)
  signed-times open_left text next u v (signed {text = inner} {v = w} t) p =
      signed-same open_left (45 ∷ (inner ++ (42 ∷ next))) (neg (w *ₑ v)) (neg w *ₑ v) (minus-times w v) (signed (times-is_term names open_left inner next w v t p))

  signed-over : (open_left : ℕ) (text next : List ℕ) (u v : mean.Element) → IsSignedTerm names open_left text u → IsPower names open_left next v → is_zero_test v ≡ false → InField 5 v →
      IsSignedTerm names open_left (text ++ (47 ∷ next)) (u /ₑ v)
  signed-over open_left text next u v (plain t) p some inside = plain (over-is_term names open_left text next u v t p some inside)
  signed-over open_left text next u v (signed {text = inner} {v = w} t) p some inside =
      signed-same open_left (45 ∷ (inner ++ (47 ∷ next))) (neg (w /ₑ v)) (neg w /ₑ v) (minus-times w (mean.inverse v)) (signed (over-is_term names open_left inner next w v t p some inside))

  -- ---- fractions
  number-power : (open_left n : ℕ) → n < 2 ^ 127 → IsPower names open_left (decimal n) (integer (pos n))
  number-power open_left n small =
      atom-is_power names open_left (decimal n) (integer (pos n)) (number-is_atom names open_left (decimal n) n (decimal-is_number n (omega arith)) small)

  number-term : (open_left n : ℕ) → n < 2 ^ 127 → IsTerm names open_left (decimal n) (integer (pos n))
  number-term open_left n small = power-is_term names open_left (decimal n) (integer (pos n)) (number-power open_left n small)

  integer-term : (open_left : ℕ) (z : ℤ) → unsigned_abs z < 2 ^ 127 → IsSignedTerm names open_left (signed_decimal z) (integer z)
  integer-term open_left (pos n) small = plain (number-term open_left n small)
  integer-term open_left (negsuc n) small =
      signed-same open_left (45 ∷ decimal (suc n)) (neg (integer (pos (suc n)))) (integer (negsuc n)) (sym (integer-neg (pos (suc n)))) (signed (number-term open_left (suc n) (omega arith)))

  pub fraction-term : (open_left : ℕ) (q : Fraction) → IsLowest q → IsSignedTerm names open_left (print_fraction q) (fraction_meaning q)
  unfolding print_fraction
  fraction-term open_left q low = by_test (q.den == 1) refl
    where
      no_zero : (d : ℕ) → pos d ≡ pos 0 → 0 < d → ⊥
      no_zero d z some = let same : d ≡ 0 = cc in omega (arith, same, some)

      by_test : (t : Bool) → (q.den == 1) ≡ t → IsSignedTerm names open_left (if t then signed_decimal q.num else signed_decimal q.num ++ (codes "/" ++ decimal q.den)) (fraction_meaning q)
      by_test true e =
          signed-same open_left (signed_decimal q.num) (integer q.num) (fraction_meaning q) (sym (ap (λ d. integer q.num /ₑ integer (pos d)) (eqb-true q.den 1 e) ∙ over-one (integer q.num)))
          (integer-term open_left q.num low.num_fits)
      by_test false e =
          signed-over open_left (signed_decimal q.num) (decimal q.den) (integer q.num) (integer (pos q.den)) (integer-term open_left q.num low.num_fits) (number-power open_left q.den low.den_fits)
          (some_value (integer (pos q.den)) (integer-ne-zero (pos q.den) (λ z. no_zero q.den z low.positive))) (InField-integer 5 (pos q.den))

  pub fraction-printed : (open_left : ℕ) (q : Fraction) → IsLowest q → IsPrinted names open_left (record { text = print_fraction q; long = false }) (fraction_meaning q)
  fraction-printed open_left q low =
      let t = fraction-term open_left q low in
      record { is_sum = signed-is_sum open_left (print_fraction q) (fraction_meaning q) t; short = λ e. t }

  -- ---- powers of a variable
  pub power-printed : (open_left : ℕ) (name : List ℕ) (t : mean.Element) (e : ℕ) → e ≤ 9999 → IsAtom names open_left name t → IsPower names open_left (print_power name e) (t ^ₑ e)
  power-printed open_left name t e low a = by_test (e == 1) refl
    where
      by_test : (b : Bool) → (e == 1) ≡ b → IsPower names open_left (if b then name else name ++ (codes "^" ++ decimal e)) (t ^ₑ e)
      by_test true is = subst (IsPower names open_left name) (sym (power-one t) ∙ ap (λ k. t ^ₑ k) (sym (eqb-true e 1 is))) (atom-is_power names open_left name t a)
      by_test false is = raised-is_power names open_left name (decimal e) t e (decimal-is_number e (omega arith)) low a

  -- ---- terms
  -- The coefficient is read where so many parentheses may be open, and where one more may be open.
  module _ (open_left : ℕ) (c : Element) (printed : Printed) (within : IsPrinted names open_left printed (meaning c)) (outside : IsPrinted names (suc open_left) printed (meaning c)) where
    enclosed-term : IsSignedTerm names (suc open_left) (enclosed printed.long printed.text) (meaning c)
    enclosed-term = by_test printed.long refl
      where
        by_test : (b : Bool) → printed.long ≡ b → IsSignedTerm names (suc open_left) (if b then codes "(" ++ (printed.text ++ codes ")") else printed.text) (meaning c)
        by_test true e =
            plain (power-is_term names (suc open_left) (40 ∷ (printed.text ++ (41 ∷ []))) (meaning c)
            (atom-is_power names (suc open_left) (40 ∷ (printed.text ++ (41 ∷ []))) (meaning c) (enclosed-is_atom names open_left printed.text (meaning c) within.is_sum)))
        by_test false e = outside.short e

    pub factor-term : (power : List ℕ) (w : mean.Element) → IsPower names (suc open_left) power w → IsSignedTerm names (suc open_left) (print_factor c printed ++ power) (meaning c *ₑ w)
    unfolding print_factor
    factor-term power w p = by_tests (is_whole (pos 1) (as_number 5 c)) (is_whole (negsuc 0) (as_number 5 c)) refl refl
      where
        by_tests : (a b : Bool) → is_whole (pos 1) (as_number 5 c) ≡ a → is_whole (negsuc 0) (as_number 5 c) ≡ b →
            IsSignedTerm names (suc open_left) ((if a then [] else if b then codes "-" else enclosed printed.long printed.text ++ codes "*") ++ power) (meaning c *ₑ w)
        by_tests true b e f =
            signed-same (suc open_left) power w (meaning c *ₑ w) (sym (ap (λ m. m *ₑ w) (is_whole-means (pos 1) c e ∙ integer-one) ∙ one-times w)) (plain (power-is_term names (suc open_left) power w p))
        by_tests false true e f =
            signed-same (suc open_left) (45 ∷ power) (neg w) (meaning c *ₑ w) (sym (ap (λ m. m *ₑ w) (is_whole-means (negsuc 0) c f ∙ integer-neg (pos 1) ∙ ap neg integer-one) ∙ minus_one-times w))
            (signed (power-is_term names (suc open_left) power w p))
        by_tests false false e f =
            subst (λ text. IsSignedTerm names (suc open_left) text (meaning c *ₑ w)) (sym (append_assoc (enclosed printed.long printed.text) (codes "*") power))
            (signed-times (suc open_left) (enclosed printed.long printed.text) power (meaning c) w enclosed-term p)

    module _ (name : List ℕ) (t : mean.Element) (named : IsAtom names (suc open_left) name t) where
      -- c·t^e for e above 0
      pub high_term : (e : ℕ) → 0 < e → e ≤ 9999 → IsSignedTerm names (suc open_left) (print_term name c printed e) (meaning c *ₑ t ^ₑ e)
      high_term e some low =
          let not_zero : (e == 0) ≡ false = ne_eqb e 0 (λ z. omega (arith, z, some)) in
          subst (λ (b : Bool). IsSignedTerm names (suc open_left) (if b then printed.text else print_factor c printed ++ print_power name e) (meaning c *ₑ t ^ₑ e)) (sym not_zero)
          (factor-term (print_power name e) (t ^ₑ e) (power-printed (suc open_left) name t e low named))

      -- c·t^e
      pub term-sum : (e : ℕ) → e ≤ 9999 → IsSum names (suc open_left) (print_term name c printed e) (meaning c *ₑ t ^ₑ e)
      term-sum zero low = sum-same names (suc open_left) printed.text (meaning c) (meaning c *ₑ t ^ₑ 0) (sym (ap (mean.mul (meaning c)) (power-zero t) ∙ mul-one (meaning c))) outside.is_sum
      term-sum (suc e) low = signed-is_sum (suc open_left) (print_term name c printed (suc e)) (meaning c *ₑ t ^ₑ suc e) (high_term (suc e) (omega arith) low)

  -- ---- quotients
  -- The numerator and the denominator are read where so many parentheses may be open, and where one more may be open.
  enclosed-power : (open_left : ℕ) (text : List ℕ) (v : mean.Element) (short : Bool) → (short ≡ true → IsPower names (suc open_left) text v) → IsSum names open_left text v →
      IsPower names (suc open_left) (enclosed (not short) text) v
  enclosed-power open_left text v true h s = h refl
  enclosed-power open_left text v false h s = atom-is_power names (suc open_left) (40 ∷ (text ++ (41 ∷ []))) v (enclosed-is_atom names open_left text v s)

  pub quotient-term : (open_left : ℕ) (top bottom : List ℕ) (u v : mean.Element) → IsSum names open_left top u → IsSum names (suc open_left) top u → IsSum names open_left bottom v →
      IsSum names (suc open_left) bottom v → ¬ (v ≡ mean.zero) → InField 5 v → IsTerm names (suc open_left) (print_quotient top bottom) (u /ₑ v)
  unfolding print_quotient
  quotient-term open_left top bottom u v s t r q some inside =
      over-is_term names (suc open_left) (enclosed (not (is_digits top || is_power top)) top) (enclosed (not (is_power bottom)) bottom) u v
      (power-is_term names (suc open_left) (enclosed (not (is_digits top || is_power top)) top) u
      (enclosed-power open_left top u (is_digits top || is_power top) (λ e. either (is_digits top) (is_power top) refl refl e) s))
      (enclosed-power open_left bottom v (is_power bottom) (λ e. named-are_power names (suc open_left) bottom v e q) r)
      (some_value v some) inside
    where
      either : (a b : Bool) → is_digits top ≡ a → is_power top ≡ b → (a || b) ≡ true → IsPower names (suc open_left) top u
      either true b e f h = digits-are_power names (suc open_left) top u e t
      either false true e f h = named-are_power names (suc open_left) top u f t
      either false false e f h = absurd (cc)
