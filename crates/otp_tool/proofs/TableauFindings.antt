-- `tableau` finds one thing in its grammar and its rows file.
use Rattle.std.proofs.Common.{◌≡◌, ◌⊎◌, inl, inr, ℕ, ◌<◌, List, length, refl, ap, sym, ◌∙◌}
use Rattle.std.specs.Str.Lines.{lines}
use Rattle.grammar_reader.specs.Values.{GrammarValue}
use Rattle.ranked_gen.specs.Budgets.{AreAllWithin, IsFirstOver}
use Rattle.form_reader.proofs.ReadingLemmas.{not_refused, one_cause}
use Rattle.tableau.specs.declared.rows_err.RowsCause.{RowsCause}
use Rattle.tableau.proofs.Readings.{never_both as rows_and_refused, one_refusal as one_row}
use Rattle.violation.specs.Problems.{Problem}
use Rattle.otp_tool.specs.{Grammars.{IsAsked, OnProblem, grammar_inputs}, Findings.{Finding, FindsForTableau}}
use Rattle.otp_tool.specs.Findings.{HasForm, IsNoRowsFile, IsRowsFile, long_file, no_grammar, no_form, long_second}
use Rattle.otp_tool.specs.Findings.{no_rows, no_lexicon, no_answer, over_budget, ready}
use Rattle.otp_tool.specs.Steps.{IsFindingOf, RefusesForm}
use Rattle.otp_tool.proofs.{Choices.{one_choice, one_of, too_long}, AnswerFindings.{Over, Within, form_refused}}
use Rattle.otp_tool.proofs.AnswerFindings.{one_form, one_in_budget, one_refused_form, refused_form}
use Rattle.otp_tool.proofs.RowsAlike.{refused_alike}

module _ (g : GrammarValue) (form : List ℕ) (budget : ℕ) (bytes : List ℕ) where
  abbrev Long : Finding → Type 0
  Long x = (x ≡ long_second 3) × (HasForm g form × (4194304 < length bytes))

  abbrev NoRows : Finding → Type 0
  NoRows = IsFindingOf (λ (at : ℕ × RowsCause). no_rows at.0 at.1)
      (λ at. OnProblem (IsNoRowsFile bytes at.0 at.1) g form)

  abbrev OverRows : Finding → Type 0
  OverRows = IsFindingOf (over_budget 0)
      (λ stage. OnProblem (λ problem. IsRowsFile bytes problem × IsFirstOver problem budget stage) g form)

  abbrev WithinRows : Finding → Type 0
  WithinRows x = (x ≡ ready) × OnProblem (λ problem. IsRowsFile bytes problem × AreAllWithin problem budget) g form

  abbrev WithRows : Finding → Type 0
  WithRows x = OverRows x ⊎ WithinRows x

  tableau_steps : (x : Finding) → FindsForTableau g form budget bytes x
      → RefusesForm g form x ⊎ (Long x ⊎ (NoRows x ⊎ WithRows x))
  tableau_steps (no_form word cause) a = inl (form_refused g form _ _ a)
  tableau_steps (long_second word) a = inr (inl (ap long_second a.0, a.1))
  tableau_steps (no_rows row cause) a = inr (inr (inl (record { value = (row, cause); is = refl; fact = a })))
  tableau_steps (over_budget entry stage) a =
      inr (inr (inr (inl (record { value = stage; is = ap (λ e. over_budget e stage) a.0; fact = a.1 }))))
  tableau_steps ready a = inr (inr (inr (inr (refl, a))))
  tableau_steps other a = absurd a

  -- what is left of a step with rows
  over_of : (x : Finding) → OverRows x → Over g form budget x
  over_of x o = record {
    value = o.value;
    is = o.is;
    fact =
        record { problem = o.fact.problem; is_asked = o.fact.is_asked; over = o.fact.fact.1 };
  }

  within_of : (x : Finding) → WithinRows x → Within g form budget x
  within_of x i = (i.0, record { problem = i.1.problem; is_asked = i.1.is_asked; fact = i.1.fact.1 })

  in_budget : (x : Finding) → WithRows x → Over g form budget x ⊎ Within g form budget x
  in_budget x (inl o) = inl (over_of x o)
  in_budget x (inr i) = inr (within_of x i)

  -- the file has rows
  has_rows : (x : Finding) → WithRows x → OnProblem (IsRowsFile bytes) g form
  has_rows x (inl o) = record { problem = o.fact.problem; is_asked = o.fact.is_asked; fact = o.fact.fact.0 }
  has_rows x (inr i) = record { problem = i.1.problem; is_asked = i.1.is_asked; fact = i.1.fact.0 }

  refused_at : (at : ℕ × RowsCause) (o : OnProblem (IsNoRowsFile bytes at.0 at.1) g form) (q : Problem)
      → IsAsked g form q → IsNoRowsFile bytes at.0 at.1 q
  refused_at at o q a = record {
    within = o.fact.within;
    refused = refused_alike _ q (o.is_asked.tiers ∙ sym a.tiers) (one_form g _ _ q o.is_asked a) _ _ _ o.fact.refused;
  }

  no_rows_apart : (x y : Finding) → NoRows x → WithRows y → ⊥
  no_rows_apart x y n w =
      let h = has_rows y w in
      rows_and_refused _ _ _ _ _ h.fact.are (refused_at _ n.fact _ h.is_asked).refused

  one_no_rows : (x y : Finding) → NoRows x → NoRows y → x ≡ y
  one_no_rows = one_of _ _ (λ a b n m.
      let same = one_row one_cause _ _ _ _ _ _ (refused_at a n _ m.is_asked).refused m.fact.refused in
      ap (λ row. no_rows row a.1) same.0 ∙ ap (no_rows b.0) same.1)

  one_with_rows : (x y : Finding) → WithRows x → WithRows y → x ≡ y
  one_with_rows x y a b = one_in_budget g form budget x y (in_budget x a) (in_budget y b)

  abbrev NotLong : Finding → Type 0
  NotLong x = NoRows x ⊎ WithRows x

  long_apart : (x y : Finding) → Long x → NotLong y → ⊥
  long_apart x y l (inl n) = too_long _ _ l.1.1 n.fact.fact.within
  long_apart x y l (inr w) = too_long _ _ l.1.1 (has_rows y w).fact.within

  form_apart : (x y : Finding) → RefusesForm g form x → Long y ⊎ NotLong y → ⊥
  form_apart x y r (inl l) = not_refused (grammar_inputs g) g.letters form l.1.0.0 r.value l.1.0.1 r.fact
  form_apart x y r (inr (inl n)) = refused_form g _ x _ r n.fact
  form_apart x y r (inr (inr w)) = refused_form g _ x _ r (has_rows y w)

  pub for_tableau : (x y : Finding) → FindsForTableau g form budget bytes x → FindsForTableau g form budget bytes y
      → x ≡ y
  for_tableau x y a b =
      one_choice (RefusesForm g form) (λ z. Long z ⊎ NotLong z) (one_refused_form g form) form_apart
      (one_choice Long NotLong (λ v w l m. l.0 ∙ sym m.0) long_apart
      (one_choice NoRows WithRows one_no_rows no_rows_apart one_with_rows))
      x y (tableau_steps x a) (tableau_steps y b)
