-- What is answered of a certificate.
use Rattle.std.specs.Prelude.{◌≡◌}
use Rattle.risch_elem.specs.declared.units.Stop as stops
use Rattle.risch_elem.specs.declared.units.Stop.{Stop}
use Rattle.risch_chain_end.specs.Verdict.{Verdict, accepted, refused, stopped}
use Rattle.risch_check.specs.declared.kinds.Check.{Check}
use Rattle.risch_check.specs.declared.kinds.Check.TheVariants.{Accepted, Refused, Stopped, Memory}

-- the answer is the verdict, or want of memory
abbrev pub Answers : Check → Verdict → Type 0
Answers Accepted verdict = verdict ≡ accepted
Answers (Refused line left right) verdict = verdict ≡ refused line left right
Answers (Stopped stop) verdict = verdict ≡ stopped stop
Answers Memory verdict = Unit {0}

-- where the certificate is accepted, the fact holds
abbrev pub OnAccepted : Check → Type 0 → Type 0
OnAccepted Accepted fact = fact
OnAccepted (Refused line left right) fact = Unit {0}
OnAccepted (Stopped stop) fact = Unit {0}
OnAccepted Memory fact = Unit {0}

-- where the check is stopped, its stop has the property
abbrev pub IfStopped : Check → (Stop → Type 0) → Type 0
IfStopped Accepted P = Unit {0}
IfStopped (Refused line left right) P = Unit {0}
IfStopped (Stopped stop) P = P stop
IfStopped Memory P = Unit {0}

-- the stop of a value that cannot be formed: Overflow or Size, no other
abbrev pub IsOfValue : Stop → Type 0
IsOfValue (stops.TheVariants.Overflow op) = Unit {0}
IsOfValue stops.TheVariants.Size = Unit {0}
IsOfValue (stops.TheVariants.Case case) = ⊥
IsOfValue (stops.TheVariants.NotSound e) = ⊥
IsOfValue stops.TheVariants.Budget = ⊥
