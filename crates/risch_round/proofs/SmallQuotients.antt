-- The quotients c_0/n, c_1/(n + 1), .. of small coefficients by whole numbers: they are formed, they are 0 where the coefficient is, and their multiples give the coefficients back.
use Rattle.std.specs.Prelude.{cond, if◌then◌else◌}
use Rattle.std.proofs.Common.{◌≡◌, ℕ, suc, ◌+◌, ◌<◌, ◌≤◌, Bool, true, false, List, [], ◌∷◌, ◌++◌, length, Ok, Err, refl, sym, ◌∙◌, ap, arith, subst, append_assoc, append-nil, pos}
use Rattle.std.specs.Cmp.{signed_Decides}
use Rattle.std.specs.List.{All}
use Rattle.std.proofs.lemmas.List.Elements.{All-head, All-tail}
use Rattle.risch_frac.specs.Fraction as fraction
use Rattle.risch_frac.specs.Fraction.{Fraction, IsLowest, is_zero, whole}
use Rattle.risch_frac.proofs.Multiples.{ratio-small, product-small, undone}
use Rattle.risch_frac.proofs.Units.{whole-is_lowest, product-zero_right}
use Rattle.risch_field.specs.Checked.{and_then}
use Rattle.risch_field.specs.Ground.{ground, overflowing}
use Rattle.risch_polynomial.specs.Poly as poly
use Rattle.risch_polynomial_theory.specs.Meaning.{AllValid}
use Rattle.risch_polynomial_theory.proofs.FractionValues.{ground_means}
use Rattle.risch_round.specs.Meaning.{IsSmallFraction}

-- r = c/n, as the rules form it
pub record IsQuotient (c : Fraction) (n : ℕ) (r : Fraction) : Type 0 where
  pub valid : IsLowest r
  pub zero_kept : is_zero r ≡ is_zero c
  pub passed : is_zero c ≡ true → r ≡ whole 0
  pub divided : is_zero c ≡ false → ground.quotient c (ground.whole n) ≡ Ok r
  pub times : poly.multiple ground n r ≡ Ok c

-- the value that is formed
abbrev formed_value : fraction.Checked Fraction → Fraction
formed_value (Ok r) = r
formed_value (Err op) = whole 0

-- c/n; where c is 0 nothing is formed
abbrev pub quotient_of : Fraction → ℕ → Fraction
quotient_of c n = cond (is_zero c) (whole 0) (formed_value (fraction.ratio c (whole n)))

-- c_0/n, c_1/(n + 1), ..
abbrev pub quotients : ℕ → List Fraction → List Fraction
quotients n [] = []
quotients n (c ∷ p) = quotient_of c n ∷ quotients (n + 1) p

-- ---- one quotient
zero-unique : (c : Fraction) → IsLowest c → is_zero c ≡ true → c ≡ whole 0
zero-unique c l z = ground_means.injective c (whole 0) l ground_means.zero-valid (ground_means.zero_is c l z ∙ sym ground_means.zero-means)

whole-nonzero : (n : ℕ) → 0 < n → is_zero (whole n) ≡ false
whole-nonzero n some = by_test (is_zero (whole n)) refl
  where
    by_test : (b : Bool) → is_zero (whole n) ≡ b → b ≡ false
    by_test false h = refl
    by_test true h = let same : pos n ≡ pos 0 = (signed_Decides (pos n) (pos 0)).0 h in let none : n ≡ 0 = cc in absurd (omega arith)

apart : {A : Type 0} (b : Bool) → b ≡ true → b ≡ false → A
apart b t f = cc

quotient-zero : (c : Fraction) (n : ℕ) → IsLowest c → is_zero c ≡ true → IsQuotient c n (whole 0)
quotient-zero c n l z = record {
  valid = whole-is_lowest 0 (omega arith);
  zero_kept = sym z;
  passed = λ t. refl;
  divided = λ f. apart (is_zero c) z f;
  times = ap Ok (sym (zero-unique c l z));
}

factor-nonzero : (c r : Fraction) (n : ℕ) → IsLowest r → n ≤ 256 → is_zero c ≡ false → fraction.product (whole n) r ≡ Ok c → is_zero r ≡ false
factor-nonzero c r n l few z e = by_test (is_zero r) refl
  where
    by_test : (b : Bool) → is_zero r ≡ b → b ≡ false
    by_test false h = refl
    by_test true h =
        let nothing : fraction.product (whole n) r ≡ Ok (whole 0) = ap (fraction.product (whole n)) (zero-unique r l h) ∙ product-zero_right (whole n) (whole-is_lowest n (omega arith)) in
        let none : c ≡ whole 0 = cc in
        apart (is_zero c) (ap is_zero none) z

quotient-formed : (c r : Fraction) (n : ℕ) → IsLowest r → 0 < n → n ≤ 256 → is_zero c ≡ false → fraction.ratio c (whole n) ≡ Ok r → fraction.product (whole n) r ≡ Ok c → IsQuotient c n r
quotient-formed c r n l some few z divided multiplied =
    let nonzero = factor-nonzero c r n l few z multiplied in
    record {
      valid = l;
      zero_kept = nonzero ∙ sym z;
      passed = λ t. apart (is_zero c) t z;
      divided = λ f. rw (whole-nonzero n some) (ap overflowing divided);
      times = rw nonzero (ap overflowing multiplied);
    }

quotient-some : (c : Fraction) (n : ℕ) → IsLowest c → IsSmallFraction c → 0 < n → n ≤ 256 → is_zero c ≡ false → IsQuotient c n (formed_value (fraction.ratio c (whole n)))
quotient-some c n l s some few z =
    let d = ratio-small c n l s.num s.den some few in
    let m = product-small d.0 n d.2 d.3 d.4 few in
    let back : m.0 ≡ c = undone c d.0 m.0 n l some d.1 m.1 in
    subst (IsQuotient c n) (sym (ap formed_value d.1)) (quotient-formed c d.0 n d.2 some few z d.1 (m.1 ∙ ap Ok back))

-- the quotient is formed
pub quotient-is : (c : Fraction) (n : ℕ) → IsLowest c → IsSmallFraction c → 0 < n → n ≤ 256 → IsQuotient c n (quotient_of c n)
quotient-is c n l s some few = by_test (is_zero c) refl
  where
    by_test : (b : Bool) → is_zero c ≡ b → IsQuotient c n (cond b (whole 0) (formed_value (fraction.ratio c (whole n))))
    by_test true h = quotient-zero c n l h
    by_test false h = quotient-some c n l s some few h

-- ---- all of them
-- all of them are small
pub all-small : (p : List Fraction) → All IsSmallFraction p → AllValid IsSmallFraction p
all-small [] s = tt
all-small (c ∷ p) s = (All-head IsSmallFraction c p s, all-small p (All-tail IsSmallFraction c p s))

-- each coefficient has its quotient
abbrev pub AllDivided : ℕ → List Fraction → Type 0
AllDivided n [] = Unit {0}
AllDivided n (c ∷ p) = IsQuotient c n (quotient_of c n) × AllDivided (n + 1) p

-- quotients by whole numbers up to 256
pub all-divided : (n : ℕ) (p : List Fraction) → AllValid IsLowest p → AllValid IsSmallFraction p → 0 < n → n + length p ≤ 257 → AllDivided n p
all-divided n [] l s some few = tt
all-divided n (c ∷ p) l s some few = (quotient-is c n l.0 s.0 some (omega arith), all-divided (n + 1) p l.1 s.1 (omega arith) (omega arith))

-- as many quotients as coefficients
pub length-quotients : (n : ℕ) (p : List Fraction) → length (quotients n p) ≡ length p
length-quotients n [] = refl
length-quotients n (c ∷ p) = ap suc (length-quotients (n + 1) p)

-- zeros at the end stay zeros
leading-quotients : (n : ℕ) (c : Fraction) (p : List Fraction) → IsQuotient c n (quotient_of c n) → poly.leading ground (quotient_of c n) (quotients (n + 1) p) ≡ quotients n (poly.leading ground c p)
leading-quotients n c [] h = by_test (is_zero c) h.zero_kept
  where
    by_test : (b : Bool) → is_zero (quotient_of c n) ≡ b → (if is_zero (quotient_of c n) then [] else quotient_of c n ∷ []) ≡ quotients n (if b then [] else c ∷ [])
    by_test true e = rw e refl
    by_test false e = rw e refl
leading-quotients n c (d ∷ p) h = refl

pub trimmed-quotients : (n : ℕ) (p : List Fraction) → AllDivided n p → poly.trimmed ground (quotients n p) ≡ quotients n (poly.trimmed ground p)
trimmed-quotients n [] h = refl
trimmed-quotients n (c ∷ p) h = ap (poly.leading ground (quotient_of c n)) (trimmed-quotients (n + 1) p h.1) ∙ leading-quotients n c (poly.trimmed ground p) h.0

-- n·(c_0/n), (n + 1)·(c_1/(n + 1)), .. are c_0, c_1, ..
pub multiples-quotients : (formed : List Fraction) (n : ℕ) (p : List Fraction) → AllDivided n p → poly.multiples_onto ground formed n (quotients n p) ≡ Ok (formed ++ p)
multiples-quotients formed n [] h = ap Ok (sym (append-nil formed))
multiples-quotients formed n (c ∷ p) h =
    ap (λ x. and_then x (λ d. poly.multiples_onto ground (formed ++ d ∷ []) (n + 1) (quotients (n + 1) p))) h.0.times
    ∙ multiples-quotients (formed ++ c ∷ []) (n + 1) p h.1 ∙ ap Ok (append_assoc formed (c ∷ []) p)
