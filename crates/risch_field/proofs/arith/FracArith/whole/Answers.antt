use Rattle.std.proofs.Common.{◌≡◌, ◌∙◌, ◌%◌, ◌/◌, ℕ, pos, ap, rules, arith}
use Rattle.std.specs.Int.{w128}
use Rattle.std.specs.Int.RustNames.{FitsSigned}
use Rattle.std.proofs.lemmas.Int.{to_z-of_z}
use Rattle.std.specs.Prelude.{int_div}
use Rattle.risch_frac.specs.Gcd.{gcd, gcd_within}
use Rattle.risch_frac.specs.Fraction.{Fraction, quotient, lowest}
use Rattle.risch_field.proofs.arith.FracArith.whole.Goals as goal

gcd-one : (n : ℕ) → gcd n 1 ≡ 1
unfolding gcd
gcd-one n = let rest : n % 1 ≡ 0 = omega arith in ap (gcd_within 1 1) rest

-- n/1 is in lowest terms
quotient-whole : (n : ℕ) → quotient (pos n) (pos 1) ≡ record { num = pos n; den = 1 }
unfolding quotient lowest
quotient-whole n =
    let times : n / 1 ≡ n = omega arith in
    ap (divided n) (gcd-one n) ∙ ap (λ m. whole m) times
  where
    divided : ℕ → ℕ → Fraction
    divided n d = record { num = int_div (pos n) (pos d); den = 1 / d }

    whole : ℕ → Fraction
    whole m = record { num = pos m; den = 1 }

pub returns : goal.returns
returns c =
    let fits : FitsSigned w128 c.from.result = search rules in
    c.new.ensures.rule ∙ ap (λ z. quotient z (pos 1)) (to_z-of_z w128 c.from.result fits ∙ c.from.ensures) ∙ quotient-whole c.args.n
