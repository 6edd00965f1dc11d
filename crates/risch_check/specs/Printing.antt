-- What is printed of a check: one line, or three where the certificate is refused, each ended by byte 10.
use Rattle.std.specs.Prelude.{ℕ, List, ◌++◌, Option, None, Some, codes, decimal}
use Rattle.risch_cert.specs.Answers.{line, print_halt}
use Rattle.risch_cert.specs.declared.answer.Place.TheVariants.{Checking}
use Rattle.risch_check.specs.declared.kinds.Check.{Check}
use Rattle.risch_check.specs.declared.kinds.Check.TheVariants.{Accepted, Refused, Stopped, Memory}

-- the line, what the certificate says or implies there, and what it should be
abbrev pub print_refusal : ℕ → List ℕ → List ℕ → List ℕ
print_refusal number left right =
    line (codes "refused at line " ++ decimal number) ++ (line (codes "left " ++ left) ++ line (codes "right " ++ right))

-- want of memory has no text
unfoldable pub print_check : Check → Option (List ℕ)
print_check Accepted = Some (line (codes "accepted"))
print_check (Refused number left right) = Some (print_refusal number left right)
print_check (Stopped stop) = Some (print_halt (record { stop = stop; place = Checking }))
print_check Memory = None
