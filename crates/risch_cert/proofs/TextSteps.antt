-- The text behind the digits at the front, byte by byte.
use Rattle.std.proofs.Common.{◌≡◌, ℕ, suc, List, [], ◌∷◌, length, true, false, refl, ◌∙◌, arith}
use Rattle.std.specs.Prelude.{◌==◌, ◌&&◌}
use Rattle.std.specs.List.{list_all}
use Rattle.std.specs.Char.{is_ascii_digit}
use Rattle.std.proofs.lemmas.Bool.{cond-true, cond-false, cond_both, ne_eqb}
use Rattle.risch_cert.specs.Texts.{after_digits}

pub after_digits_end : (text : List ℕ) → length text ≡ 0 → after_digits text ≡ text
after_digits_end [] empty = refl
after_digits_end (byte ∷ text) empty = absurd (omega arith)

pub after_digits_more : (text : List ℕ) (byte : ℕ) (rest : List ℕ) → text ≡ byte ∷ rest → is_ascii_digit byte ≡ true → after_digits text ≡ after_digits rest
after_digits_more text byte rest is digit = rw is (cond-true (is_ascii_digit byte) _ _ digit)

pub after_digits_stop : (text : List ℕ) (byte : ℕ) (rest : List ℕ) → text ≡ byte ∷ rest → is_ascii_digit byte ≡ false → after_digits text ≡ text
after_digits_stop text byte rest is other = rw is (cond-false (is_ascii_digit byte) _ _ other)

-- nothing stands behind the digits exactly where each byte is one
pub digits_alone : (text : List ℕ) → (length (after_digits text) == 0) ≡ list_all is_ascii_digit text
digits_alone [] = refl
digits_alone (byte ∷ text) =
    cond_both (is_ascii_digit byte) (after_digits text) (byte ∷ text) (λ rest. (length rest == 0) ≡ (is_ascii_digit byte && list_all is_ascii_digit text))
    (λ digit. digits_alone text ∙ rw digit refl) (λ other. ne_eqb (suc (length text)) 0 (λ (e : suc (length text) ≡ 0). omega arith) ∙ rw other refl)
