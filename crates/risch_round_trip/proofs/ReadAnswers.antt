-- A printed certificate is read, and its value is the same certificate, or a limit is met where it is formed.
use Rattle.std.specs.Prelude.{◌==◌, option_map, codes, decimal}
use Rattle.std.specs.Option.{option_map_or}
use Rattle.std.specs.List.{range_with_len}
use Rattle.std.proofs.Common.{◌≡◌, ℕ, zero, suc, ◌+◌, ◌<◌, ◌≤◌, List, [], ◌∷◌, ◌++◌, length, true, false, None, Some, Ok, refl, sym, ap, subst, ◌∙◌, append_assoc, arith}
use Rattle.risch_level.specs.Levels.{Element}
use Rattle.risch_rootsum.specs.declared.integral.Integral.{Integral}
use Rattle.risch_cert.specs.Printing.{variable_name, print_element}
use Rattle.risch_cert.specs.Answers.{line, print_log_parts, print_integral, print_rest, print_residue, print_chain, print_certificate}
use Rattle.risch_cert.specs.declared.answer.Certificate.{Certificate}
use Rattle.risch_cert.specs.declared.answer.Certificate.TheVariants.{Integral as Certified, Refuted}
use Rattle.risch_cert.specs.declared.chain.Chain.{Chain}
use Rattle.risch_cert.specs.declared.chain.End.{End}
use Rattle.risch_cert.specs.declared.chain.End.TheVariants.{Residue}
use Rattle.risch_expression.specs.Words.{after_blanks, after_word}
use Rattle.risch_expression.specs.Results.{and_next}
use Rattle.risch_text.specs.Lines.{Front, moved, behind_word, reached, to_line_end, bare_line}
use Rattle.risch_text.specs.Certified.{RefutationTree, AnswerTree, next_log, LogLines, log_lines, end_line, is_refuted, partial_lines, integral_end, refuted_by, refutation_end, answer_end, answer_lines}
use Rattle.risch_text.specs.Problem.{line_count}
use Rattle.risch_text.specs.Values.{element_at, with_logs, integral_value, chain_value, certificate_value, answer_value}
use Rattle.risch_round_trip.specs.RoundTrip.{IsPrintableIntegral, IsPrintableResidue, IsPrintableChain, IsOverTower}
use Rattle.risch_round_trip.proofs.FurtherLines.{IsFirst}
use Rattle.risch_round_trip.proofs.PrintedLines.{word-read}
use Rattle.risch_round_trip.proofs.ReadLines.{IsFormed, formed-next, formed-map, at, end-read, bare-read}
use Rattle.risch_round_trip.proofs.ReadLogarithms.{log_parts-first, log_parts-long, logs-read}
use Rattle.risch_round_trip.proofs.ReadEnds.{element_line-read, residue_line, residue_line-read}

-- ---- the text
abbrev part_line : Element → List ℕ → List ℕ
part_line part more = codes "part" ++ (32 ∷ (print_element part ++ (10 ∷ more)))

-- the part and the logarithms, and what follows them
abbrev partial_text : Integral → List ℕ → List ℕ
partial_text it tail = part_line it.part (print_log_parts it.logs ++ tail)

-- the line `end`
abbrev last_line : List ℕ
last_line = codes "end" ++ (10 ∷ [])

-- the lines `rest` and `end`
abbrev rest_lines : Element → List ℕ → List ℕ
rest_lines rest more = codes "rest" ++ (32 ∷ (print_element rest ++ (10 ∷ more)))

-- behind the first letter
pub integral_tail : Integral → List ℕ
integral_tail it = codes "ntegral" ++ (10 ∷ partial_text it last_line)

pub integral-text : (it : Integral) → print_integral it ≡ 105 ∷ integral_tail it
unfolding print_integral integral_tail
integral-text it = simp append_assoc

pub chain_tail : Integral → Element → ℕ → ℕ → Element → List ℕ
chain_tail partial rest level power trace = codes "efuted" ++ (10 ∷ partial_text partial (rest_lines rest (residue_line level power trace)))

-- the lines one after the other, for any texts in them
chain-lines : (part logs rest name power trace : List ℕ) →
    line (codes "refuted") ++ (line (codes "part " ++ part) ++ (logs ++ (line (codes "rest " ++ rest) ++ line (codes "end residue of " ++ (name ++ (codes " power " ++ (power ++ (codes " trace " ++ trace))))))))
    ≡ codes "refuted\npart " ++ (part ++ (10 ∷ (logs ++ (codes "rest " ++ (rest ++ (10 ∷ (codes "end residue of " ++ (name ++ (codes " power " ++ (power ++ (codes " trace " ++ (trace ++ (10 ∷ [])))))))))))))
chain-lines part logs rest name power trace =
    let powered = codes " trace " ++ trace in
    let named = codes " power " ++ (power ++ powered) in
    let end = line (codes "end residue of " ++ (name ++ named)) in
    let after = line (codes "rest " ++ rest) ++ end in
    ap (λ x. codes "refuted\npart " ++ x) (append_assoc part (10 ∷ []) (logs ++ after)
    ∙ ap (λ x. part ++ (10 ∷ (logs ++ (codes "rest " ++ x)))) (append_assoc rest (10 ∷ []) end
    ∙ ap (λ x. rest ++ (10 ∷ (codes "end residue of " ++ x))) (append_assoc name named (10 ∷ [])
    ∙ ap (λ x. name ++ (codes " power " ++ x)) (append_assoc power powered (10 ∷ [])))))

pub chain-text : (partial : Integral) (rest : Element) (level power : ℕ) (trace : Element) →
    print_chain (record { partial = partial; rest = rest; level = level; end = Residue power trace }) ≡ 114 ∷ chain_tail partial rest level power trace
unfolding print_chain print_rest print_residue chain_tail
chain-text partial rest level power trace =
    chain-lines (print_element partial.part) (print_log_parts partial.logs) (print_element rest) (variable_name level) (decimal power) (print_element trace)

-- ---- the part and the logarithms
module _ (n : ℕ) (low : n ≤ 4) where
  -- They are read, and what follows them is at hand.
  pub record ReadsPartial (first : ℕ) (front : Front) (it : Integral) (tail : List ℕ) : Type 0 where
    pub tree : AnswerTree
    pub is : partial_lines n first front ≡ Ok (reached tree (at (front.line + 1 + length it.logs) tail))
    pub unrefuted : tree.refutation ≡ None
    pub numbered : tree.lines ≡ (first ∷ front.line ∷ []) ++ range_with_len (front.line + 1) (length it.logs)
    pub formed : IsFormed it (integral_value tree)

  pub partial-read : (it : Integral) → IsPrintableIntegral (n + 1) it → (tail : List ℕ) → IsFirst tail → ((line : ℕ) → next_log n (at line tail) ≡ None) →
      (first : ℕ) (front : Front) → front.rest ≡ partial_text it tail → ReadsPartial first front it tail
  unfolding partial_lines integral_value
  partial-read it kept tail tail-first no_log first front e =
      let logs = it.logs in
      let behind = print_log_parts logs ++ tail in
      let p = element_line-read n low (codes "part") it.part kept.part kept.part_within front behind (log_parts-first logs tail tail-first) e in
      let l = logs-read n low tail tail-first no_log logs (front.line + 1) (length behind) kept.logs (log_parts-long logs tail) in
      let so_far : LogLines = record { logs = []; lines = first ∷ front.line ∷ [] } in
      record {
        tree = record { part = p.tree; logs = l.values; refutation = None; lines = (first ∷ front.line ∷ []) ++ range_with_len (front.line + 1) (length logs) };
        is = ap (λ v. and_next v (λ part. and_next (log_lines n (length part.front.rest) so_far part.front) (λ logs.
            Ok (reached (record { part = part.value; logs = logs.value.logs; refutation = None; lines = logs.value.lines }) logs.front)))) p.is
            ∙ ap (λ v. and_next v (λ logs. Ok (reached (record { part = p.tree; logs = logs.value.logs; refutation = None; lines = logs.value.lines }) logs.front))) (l.is so_far);
        unrefuted = refl;
        numbered = refl;
        formed = formed-next it.part it (element_at 0 p.tree) _ (p.formed 0) (formed-next logs it (with_logs [] l.values) _ (l.formed []) refl);
      }

-- ---- numbers of lines
-- the numbers of the first two lines, of the logarithms, and of the last line
one_line : (a k : ℕ) → range_with_len a k ++ (a + k) ∷ [] ≡ range_with_len a (suc k)
one_line a zero = ap (λ (b : ℕ). b ∷ []) (let same : a + 0 ≡ a = omega arith in same)
one_line a (suc k) = ap (λ (b : ℕ). a ∷ (range_with_len (a + 1) k ++ b ∷ [])) (let same : a + suc k ≡ a + 1 + k = omega arith in same) ∙ ap (λ r. a ∷ r) (one_line (a + 1) k)

integral-numbers : (line k : ℕ) → ((line ∷ (line + 1) ∷ []) ++ range_with_len (line + 1 + 1) k) ++ (line + 1 + 1 + k) ∷ [] ≡ range_with_len line (k + 3)
integral-numbers line k =
    ap (λ r. line ∷ (line + 1) ∷ r) (one_line (line + 1 + 1) k) ∙ ap (range_with_len line) (let same : suc (suc (suc k)) ≡ k + 3 = omega arith in same)

-- or of the last two lines
chain-numbers : (line k : ℕ) → ((line ∷ (line + 1) ∷ []) ++ range_with_len (line + 1 + 1) k) ++ (line + 1 + 1 + k) ∷ (line + 1 + 1 + k + 1) ∷ [] ≡ range_with_len line (k + 4)
chain-numbers line k =
    ap (λ r. line ∷ (line + 1) ∷ r)
    (sym (append_assoc (range_with_len (line + 1 + 1) k) ((line + 1 + 1 + k) ∷ []) ((line + 1 + 1 + k + 1) ∷ []))
    ∙ ap (λ r. r ++ (line + 1 + 1 + k + 1) ∷ []) (one_line (line + 1 + 1) k)
    ∙ ap (λ (b : ℕ). range_with_len (line + 1 + 1) (suc k) ++ b ∷ []) (let same : line + 1 + 1 + k + 1 ≡ line + 1 + 1 + suc k = omega arith in same)
    ∙ one_line (line + 1 + 1) (suc k))
    ∙ ap (range_with_len line) (let same : suc (suc (suc (suc k))) ≡ k + 4 = omega arith in same)

-- ---- answers
-- The lines of the answer are read, and nothing is left. They are numbered from that of the front on.
pub record ReadsAnswer (n : ℕ) (front : Front) (certificate : Certificate) : Type 0 where
  pub tree : AnswerTree
  pub end : Front
  pub is : answer_lines n front ≡ Ok (reached (Some tree) end)
  pub nothing_left : end.rest ≡ []
  pub numbered : tree.lines ≡ range_with_len front.line (line_count certificate)
  pub formed : IsFormed certificate (answer_value tree)

module _ (n : ℕ) (low : n ≤ 4) (it : Integral) (kept : IsPrintableIntegral (n + 1) it) where
  -- `end` begins no logarithm
  no_log_before_end : (line : ℕ) → next_log n (at line last_line) ≡ None
  unfolding next_log behind_word after_word
  no_log_before_end line = refl

  first_integral : (front : Front) → front.rest ≡ 105 ∷ integral_tail it → is_refuted front ≡ Ok (reached false (at (front.line + 1) (partial_text it last_line)))
  unfolding is_refuted behind_word integral_tail after_blanks
  first_integral front e =
      let more = partial_text it last_line in
      ap (λ bytes. option_map_or (to_line_end false) (option_map (moved front) (after_word (codes "integral") bytes)) (and_next (bare_line (codes "refuted") front) (λ next. Ok (reached true next)))) e
      ∙ ap (λ found. option_map_or (to_line_end false) (option_map (moved front) found) (and_next (bare_line (codes "refuted") front) (λ next. Ok (reached true next))))
      (word-read (codes "integral") (10 ∷ more) refl)
      ∙ ap (λ v. and_next v (λ next. Ok (reached false next))) (end-read front more (omega arith, refl))

  pub integral_answer-read : (front : Front) → front.rest ≡ 105 ∷ integral_tail it → ReadsAnswer n front (Certified it)
  unfolding answer_lines integral_end integral_value answer_value
  integral_answer-read front e =
      let line = front.line + 1 + 1 + length it.logs in
      let p = partial-read n low it kept last_line (omega arith, refl) no_log_before_end front.line (at (front.line + 1) (partial_text it last_line)) refl in
      let tree : AnswerTree = record p.tree { lines = p.tree.lines ++ line ∷ [] } in
      record {
        tree = tree;
        end = at (line + 1) [];
        is = ap (λ v. and_next v (λ refuted. and_next (partial_lines n front.line refuted.front) (λ partial. answer_end n refuted.value partial.value partial.front))) (first_integral front e)
            ∙ ap (λ v. and_next v (λ partial. answer_end n false partial.value partial.front)) p.is
            ∙ ap (λ v. and_next v (λ next. Ok (reached (Some tree) next))) (bare-read (codes "end") (at line last_line) [] tt refl);
        nothing_left = refl;
        numbered = ap (λ ls. ls ++ line ∷ []) p.numbered ∙ integral-numbers front.line (length it.logs);
        formed = formed-next it (Certified it) (integral_value p.tree) (λ it. certificate_value it tree.refutation) p.formed
            (subst (λ r. IsFormed (Certified it) (certificate_value it r)) (sym p.unrefuted) refl);
      }

module _ (n : ℕ) (low : n ≤ 4) (partial : Integral) (rest : Element) (level power : ℕ) (trace : Element)
    (kept : IsPrintableChain (n + 1) (record { partial = partial; rest = rest; level = level; end = Residue power trace })) where
  abbrev ending : List ℕ
  ending = residue_line level power trace

  abbrev lines_behind : List ℕ
  lines_behind = rest_lines rest ending

  -- `rest` begins no logarithm
  no_log_before_rest : (line : ℕ) → next_log n (at line lines_behind) ≡ None
  unfolding next_log behind_word after_word
  no_log_before_rest line = refl

  first_refuted : (front : Front) → front.rest ≡ 114 ∷ chain_tail partial rest level power trace → is_refuted front ≡ Ok (reached true (at (front.line + 1) (partial_text partial lines_behind)))
  unfolding is_refuted behind_word after_word chain_tail
  first_refuted front e =
      let more = partial_text partial lines_behind in
      ap (λ bytes. option_map_or (to_line_end false) (option_map (moved front) (after_word (codes "integral") bytes)) (and_next (bare_line (codes "refuted") front) (λ next. Ok (reached true next)))) e
      ∙ ap (λ v. and_next v (λ next. Ok (reached true next))) (bare-read (codes "refuted") front more (omega arith, refl) e)

  pub chain_answer-read : (front : Front) → front.rest ≡ 114 ∷ chain_tail partial rest level power trace →
      ReadsAnswer n front (Refuted (record { partial = partial; rest = rest; level = level; end = Residue power trace }))
  unfolding answer_lines refutation_end integral_value chain_value answer_value
  chain_answer-read front e =
      let chain : Chain = record { partial = partial; rest = rest; level = level; end = Residue power trace } in
      let line = front.line + 1 + 1 + length partial.logs in
      let p = partial-read n low partial kept.partial lines_behind (omega arith, refl) no_log_before_rest front.line (at (front.line + 1) (partial_text partial lines_behind)) refl in
      let r = element_line-read n low (codes "rest") rest kept.rest kept.rest_within (at line lines_behind) ending (omega arith, refl) refl in
      let below : level < n + 1 = kept.level_low in
      let end : IsPrintableResidue (n + 1) power trace = kept.end in
      let l = residue_line-read n low level power trace (omega (arith, below)) end.small end.trace_kept end.trace_within (at (line + 1) ending) refl in
      let refutation : RefutationTree = record { rest = r.tree; end = record { level = level; power = power; trace = l.tree } } in
      let tree : AnswerTree = record p.tree { refutation = Some refutation; lines = p.tree.lines ++ line ∷ (line + 1) ∷ [] } in
      record {
        tree = tree;
        end = at (line + 1 + 1) [];
        is = ap (λ v. and_next v (λ refuted. and_next (partial_lines n front.line refuted.front) (λ partial. answer_end n refuted.value partial.value partial.front))) (first_refuted front e)
            ∙ ap (λ v. and_next v (λ partial. answer_end n true partial.value partial.front)) p.is
            ∙ ap (λ v. and_next v (λ rest. and_next (end_line n rest.front) (λ end. Ok (reached (option_map (refuted_by p.tree rest.value line rest.front.line) end.value) end.front)))) r.is
            ∙ ap (λ v. and_next v (λ end. Ok (reached (option_map (refuted_by p.tree r.tree line (line + 1)) end.value) end.front))) l.is;
        nothing_left = refl;
        numbered = ap (λ ls. ls ++ line ∷ (line + 1) ∷ []) p.numbered ∙ chain-numbers front.line (length partial.logs);
        formed = formed-next partial (Refuted chain) (integral_value p.tree) (λ it. certificate_value it (Some refutation)) p.formed
            (formed-map chain Refuted (chain_value partial refutation)
            (formed-next rest chain (element_at 0 r.tree) _ (r.formed 0) (formed-next trace chain (element_at 0 l.tree) _ (l.formed 0) refl)));
      }

-- ---- certificates
-- A printed certificate begins with a letter other than t, and it is read.
pub record IsText (c : Certificate) : Type 0 where
  pub letter : ℕ
  pub tail : List ℕ
  pub is : print_certificate c ≡ letter ∷ tail
  pub dark : 33 ≤ letter
  pub no_comment : (letter == 35) ≡ false
  pub no_t : (letter == 116) ≡ false
  pub reads : (n : ℕ) → n ≤ 4 → IsOverTower (n + 1) c → (front : Front) → front.rest ≡ letter ∷ tail → ReadsAnswer n front c

chain-is_text : (partial : Integral) (rest : Element) (level : ℕ) (end : End) → IsText (Refuted (record { partial = partial; rest = rest; level = level; end = end }))
unfolding print_certificate
chain-is_text partial rest level (Residue power trace) = record {
  letter = 114;
  tail = chain_tail partial rest level power trace;
  is = chain-text partial rest level power trace;
  dark = omega arith;
  no_comment = refl;
  no_t = refl;
  reads = λ n low kept front e. chain_answer-read n low partial rest level power trace kept front e;
}

pub certificate-is_text : (c : Certificate) → IsText c
unfolding print_certificate
certificate-is_text (Certified it) = record {
  letter = 105;
  tail = integral_tail it;
  is = integral-text it;
  dark = omega arith;
  no_comment = refl;
  no_t = refl;
  reads = λ n low kept front e. integral_answer-read n low it kept front e;
}
certificate-is_text (Refuted chain) = chain-is_text chain.partial chain.rest chain.level chain.end
