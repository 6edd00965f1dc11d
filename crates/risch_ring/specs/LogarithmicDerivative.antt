-- The logarithmic derivative of an element of a differential field.
use Rattle.risch_ring.specs.CommRing.{Field, Derivation, quotient}

-- D(x)/x
abbrev pub logarithmic_derivative : {A : Type 0} (K : Field A) → Derivation K.ring → A → A
logarithmic_derivative K D x = quotient K (D.derive x) x
