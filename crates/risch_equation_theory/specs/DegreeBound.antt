-- What decides the degree of a solution q of a·D(q) + b·q = c where the highest coefficients cancel.
use Rattle.std.specs.Prelude.{◌≡◌, ℕ}
use Rattle.risch_ring.specs.CommRing.{Field, Derivation, of_nat}
use Rattle.risch_ring.specs.Operators.{operators}

module _ {A : Type 0} (F : Field A) (D : Derivation F.ring) (η : A) where
  open (operators F.ring) use {◌+◌ as ◌+ₖ◌, ◌*◌}

  -- D(y) + η·n·y
  abbrev pub twisted : A → ℕ → A
  twisted y n = D.derive y +ₖ η * (of_nat F.ring n * y)

  -- β = D(v) + N·η for some v in K
  pub record IsIntegralCandidate (N : ℕ) (β : A) : Type 0 where
    pub integral : A
    pub equation : β ≡ D.derive integral +ₖ of_nat F.ring N * η
