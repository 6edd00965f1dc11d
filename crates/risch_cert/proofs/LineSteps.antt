-- The lines of a text, one after the other.
use Rattle.std.proofs.Common.{◌≡◌, ℕ, List, ◌++◌, Result, Ok, Err, codes, ap, sym, ◌∙◌, append_assoc}
use Rattle.std.specs.Prelude.{⊤, IfOk, OnOk}
use Rattle.risch_cert.specs.Answers.{line}

-- Two texts that are appended one after the other.
pub further : {E : Type 0} (result : Result ⊤ E) (text first a b last : List ℕ) → first ≡ text ++ a → OnOk result (last ≡ first ++ b) → OnOk result (last ≡ text ++ (a ++ b))
further (Ok u) text first a b last e f = f ∙ ap (λ t. t ++ b) e ∙ append_assoc text a b
further (Err x) text first a b last e f = tt

-- A text of this value behind a label, as a line or as it is.
pub line_of : {E : Type 0} (result : Result ⊤ E) (text label part printed last : List ℕ) → printed ≡ part → OnOk result (last ≡ text ++ line (label ++ printed)) → OnOk result (last ≡ text ++ line (label ++ part))
line_of (Ok u) text label part printed last e f = f ∙ ap (λ p. text ++ line (label ++ p)) e
line_of (Err x) text label part printed last e f = tt

pub label_of : {E : Type 0} (result : Result ⊤ E) (text label part printed last : List ℕ) → printed ≡ part → OnOk result (last ≡ text ++ (label ++ printed)) → OnOk result (last ≡ text ++ (label ++ part))
label_of (Ok u) text label part printed last e f = f ∙ ap (λ p. text ++ (label ++ p)) e
label_of (Err x) text label part printed last e f = tt

-- The lines of an integral.
joined : (head parts logs last : List ℕ) → (head ++ (parts ++ logs)) ++ last ≡ head ++ (parts ++ (logs ++ last))
joined head parts logs last = simp append_assoc

pub integral_lines : {begun more all : List ℕ} (part logs : List ℕ) → begun ≡ codes "integral\n" → more ≡ begun ++ (part ++ logs) → all ≡ more ++ codes "end\n" →
    all ≡ line (codes "integral") ++ (part ++ (logs ++ line (codes "end")))
integral_lines part logs e f g = g ∙ ap (λ t. t ++ codes "end\n") (f ∙ ap (λ t. t ++ (part ++ logs)) e) ∙ joined (codes "integral\n") part logs (codes "end\n")

-- The lines of a refutation.
pub chain_lines : {begun more all : List ℕ} (part logs last : List ℕ) → begun ≡ codes "refuted\n" → more ≡ begun ++ (part ++ logs) → all ≡ more ++ last →
    all ≡ line (codes "refuted") ++ (part ++ (logs ++ last))
chain_lines part logs last e f g = g ∙ ap (λ t. t ++ last) (f ∙ ap (λ t. t ++ (part ++ logs)) e) ∙ joined (codes "refuted\n") part logs last

-- The line of an end by a trace: the power of the residues, and then the trace.
pub power_of : {E : Type 0} (result : Result ⊤ E) (text name first power last : List ℕ) → first ≡ name →
    OnOk result (last ≡ text ++ (codes "end residue of " ++ (first ++ (codes " power " ++ power)))) → OnOk result (last ≡ text ++ (codes "end residue of " ++ (name ++ (codes " power " ++ power))))
power_of (Ok u) text name first power last e f = f ∙ ap (λ p. text ++ (codes "end residue of " ++ (p ++ (codes " power " ++ power)))) e
power_of (Err x) text name first power last e f = tt

regroup : (text of name label power trace end : List ℕ) → (text ++ (of ++ (name ++ (label ++ power)))) ++ (trace ++ end) ≡ text ++ ((of ++ (name ++ (label ++ (power ++ trace)))) ++ end)
regroup text of name label power trace end = simp append_assoc

pub residue_line : {E : Type 0} (result : Result ⊤ E) (text first name power trace last : List ℕ) → first ≡ text ++ (codes "end residue of " ++ (name ++ (codes " power " ++ power))) →
    OnOk result (last ≡ first ++ line (codes " trace " ++ trace)) →
    OnOk result (last ≡ text ++ line (codes "end residue of " ++ (name ++ (codes " power " ++ (power ++ (codes " trace " ++ trace))))))
residue_line (Ok u) text first name power trace last e f =
    f ∙ ap (λ t. t ++ line (codes " trace " ++ trace)) e ∙ regroup text (codes "end residue of ") name (codes " power ") power (codes " trace " ++ trace) (codes "\n")
residue_line (Err x) text first name power trace last e f = tt

-- The line of a logarithmic part: what stands before its argument, and then the argument.
regroup_argument : (text label first of argument end : List ℕ) → (text ++ (label ++ first)) ++ ((of ++ argument) ++ end) ≡ text ++ ((label ++ (first ++ (of ++ argument))) ++ end)
regroup_argument text label first of argument end = simp append_assoc

pub argument_line : {E : Type 0} (result : Result ⊤ E) (text begun last label first argument : List ℕ) → begun ≡ text ++ (label ++ first) →
    OnOk result (last ≡ begun ++ line (codes " of " ++ argument)) → OnOk result (last ≡ text ++ line (label ++ (first ++ (codes " of " ++ argument))))
argument_line (Ok u) text begun last label first argument e f =
    f ∙ ap (λ t. t ++ line (codes " of " ++ argument)) e ∙ regroup_argument text label first (codes " of ") argument (codes "\n")
argument_line (Err x) text begun last label first argument e f = tt

-- The line of a stop.
pub halt_line : (stop place first all : List ℕ) → first ≡ stop → all ≡ first ++ line (codes " in " ++ place) → all ≡ line (stop ++ (codes " in " ++ place))
halt_line stop place first all e f = f ∙ ap (λ t. t ++ line (codes " in " ++ place)) e ∙ sym (append_assoc stop (codes " in " ++ place) (codes "\n"))

-- A text of this value behind a label.
pub behind : {S E : Type 0} (result : Result S E) (bytes : S → List ℕ) (label part printed : List ℕ) → printed ≡ part → IfOk result (λ text. bytes text ≡ label ++ printed) → IfOk result (λ text. bytes text ≡ label ++ part)
behind (Ok text) bytes label part printed e f = f ∙ ap (λ p. label ++ p) e
behind (Err x) bytes label part printed e f = tt

-- The three lines of a disagreement.
pub disagree_lines : (begun more all left right : List ℕ) → begun ≡ codes "disagree\n" → more ≡ begun ++ line (codes "left " ++ left) → all ≡ more ++ line (codes "right " ++ right) →
    all ≡ line (codes "disagree") ++ (line (codes "left " ++ left) ++ line (codes "right " ++ right))
disagree_lines begun more all left right e f g =
    g ∙ ap (λ t. t ++ line (codes "right " ++ right)) (f ∙ ap (λ t. t ++ line (codes "left " ++ left)) e)
    ∙ append_assoc (codes "disagree\n") (line (codes "left " ++ left)) (line (codes "right " ++ right))
