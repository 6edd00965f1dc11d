-- The lines of causes.
use Rattle.std.proofs.Common.{◌≡◌, ℕ, List, ◌++◌, codes, append_assoc}
use Rattle.risch_cert.specs.Answers.{line}

-- a line that ends with a cause
pub cause_line : (head at middle : List ℕ) {cause text : List ℕ} → text ≡ cause → head ++ (at ++ (middle ++ (text ++ codes "\n"))) ≡ line (head ++ (at ++ (middle ++ cause)))
cause_line head at middle e = rw e (simp append_assoc)
