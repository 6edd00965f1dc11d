-- What the results of the rules stand for, as equations between whole numbers.
use Rattle.std.specs.Prelude.{◌≡◌, ℤ, pos, ◌+ℤ◌, ◌-ℤ◌, ◌*ℤ◌}
use Rattle.risch_frac.specs.Fraction.{Fraction}

-- r = num / den, by cross products
pub record Represents (num den : ℤ) (r : Fraction) : Type 0 where
  pub value : r.num *ℤ den ≡ num *ℤ pos r.den

-- r = a/b + c/d = (a*d + c*b) / (b*d)
abbrev pub IsSum : Fraction → Fraction → Fraction → Type 0
IsSum p q r = Represents (p.num *ℤ pos q.den +ℤ q.num *ℤ pos p.den) (pos p.den *ℤ pos q.den) r

-- r = a/b - c/d = (a*d - c*b) / (b*d)
abbrev pub IsDifference : Fraction → Fraction → Fraction → Type 0
IsDifference p q r = Represents (p.num *ℤ pos q.den -ℤ q.num *ℤ pos p.den) (pos p.den *ℤ pos q.den) r

-- r = (a/b) * (c/d) = (a*c) / (b*d)
abbrev pub IsProduct : Fraction → Fraction → Fraction → Type 0
IsProduct p q r = Represents (p.num *ℤ q.num) (pos p.den *ℤ pos q.den) r

-- r = (a/b) / (c/d) = (a*d) / (b*c)
abbrev pub IsRatio : Fraction → Fraction → Fraction → Type 0
IsRatio p q r = Represents (p.num *ℤ pos q.den) (pos p.den *ℤ q.num) r
