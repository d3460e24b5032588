-- `comprehend` finds one thing in its grammar and its lexicon file.
use Rattle.std.proofs.Common.{◌≡◌, ◌⊎◌, inl, inr, ℕ, ◌<◌, List, length, Some, refl, ap, sym, ◌∙◌, subst}
use Rattle.std.specs.Prelude.{slice_get}
use Rattle.tier_core.specs.declared.sym.Sym.{Sym}
use Rattle.timeline_text.proofs.Deciding.{not_both as surface_and_refused}
use Rattle.grammar_reader.specs.Values.{GrammarValue}
use Rattle.form_reader.proofs.ReadingLemmas.{one_cause}
use Rattle.lexicon.specs.{declared.lex_err.LexErr.LexErr, Entries.LexicalEntry}
use Rattle.lexicon.proofs.LexiconLemmas.{not_both as lexicon_and_refused, one_cause as one_lexicon_cause}
use Rattle.lexicon.proofs.LexiconLemmas.{one_lexicon}
use Rattle.ranked_gen.specs.Budgets.{IsFirstOver}
use Rattle.comprehend.specs.Hears.{AreEntriesWithin, IsFirstEntryOver}
use Rattle.violation.specs.Problems.{Problem}
use Rattle.otp_tool.specs.{Grammars.{AreAsked, grammar_inputs, overt_count}, Lexicons.{HasSurfaceWord, IsLexiconFile}}
use Rattle.otp_tool.specs.Lexicons.{IsNoLexiconFile, IsNoSurface, OnLexicon, forms_in}
use Rattle.otp_tool.specs.Findings.{Finding, FindsForHearing, long_file, no_grammar, no_form, long_second, no_rows}
use Rattle.otp_tool.specs.{Findings.{no_lexicon, no_answer, over_budget, ready}, Steps.{IsFindingOf, RefusesSurface}}
use Rattle.otp_tool.proofs.AnswerFindings.{one_stage, over_within}
use Rattle.otp_tool.proofs.Choices.{equal_where, one_choice, one_of, too_long}
use Rattle.otp_tool.proofs.ConstraintLemmas.{all_within_alike, first_over_alike}
use Rattle.cert_check.specs.Seen.{AreAskedAlike}

-- ---- entries over the budget

module _ (forms : List (List (List Sym))) (budget : ℕ) where
  abbrev OverAt : (List (List Sym) → Problem) → ℕ × ℕ → Type 0
  OverAt ask at = IsFirstEntryOver ask forms budget at.0 at.1

  same_form : (i : ℕ) (u v : List (List Sym)) → slice_get forms i ≡ Some u → slice_get forms i ≡ Some v → u ≡ v
  same_form i u v a b = let e = sym a ∙ b in cc e

  entry_over_within : (ask : List (List Sym) → Problem) (at : ℕ × ℕ) → OverAt ask at → AreEntriesWithin ask forms budget
      → ⊥
  entry_over_within ask at o w = over_within _ _ _ o.over (w at.0 o.form o.numbered)

  -- no earlier entry is over the budget
  not_before : (ask : List (List Sym) → Problem) (at other : ℕ × ℕ) → OverAt ask at → OverAt ask other
      → at.0 < other.0 → ⊥
  not_before ask at other o p l = over_within _ _ _ o.over (p.before at.0 o.form l o.numbered)

  one_entry : (ask : List (List Sym) → Problem) (at other : ℕ × ℕ) → OverAt ask at → OverAt ask other
      → over_budget at.0 at.1 ≡ over_budget other.0 other.1
  one_entry ask at other o p =
      let same = equal_where _ _ (not_before _ at other o p) (not_before _ _ at p o) in
      let here = ap (slice_get forms) (sym same) ∙ o.numbered in
      let form = same_form _ _ _ p.numbered here in
      let over = rw form at p.over in
      ap (λ i. over_budget i at.1) same ∙ ap (over_budget other.0) (one_stage _ _ _ _ o.over over)

-- ---- problems that are asked by one grammar

module _ (g : GrammarValue) (forms : List (List (List Sym))) (budget : ℕ) (ask another : List (List Sym)
    → Problem) (a : AreAsked g ask) (b : AreAsked g another) where
  alike : (u : List (List Sym)) → AreAskedAlike (ask u) (another u)
  alike u = record {
    tiers = a.tiers u ∙ sym (b.tiers u);
    constraints = a.constraints u ∙ sym (b.constraints u);
    form = a.form u ∙ sym (b.form u);
  }

  over_by_another : (at : ℕ × ℕ) → OverAt forms budget ask at → OverAt forms budget another at
  over_by_another at o = record {
    form = o.form;
    numbered = o.numbered;
    over = first_over_alike _ _ _ _ (alike _) o.over;
    before = λ i u l n. all_within_alike _ _ _ (alike u) (o.before i u l n);
  }

-- ---- in `comprehend`

module _ (g : GrammarValue) (word : List ℕ) (budget : ℕ) (bytes : List ℕ) where
  abbrev Long : Finding → Type 0
  Long x = (x ≡ long_second 2) × (HasSurfaceWord g word × (4194304 < length bytes))

  abbrev IsRefusedLexicon : LexErr → Type 0
  IsRefusedLexicon cause = HasSurfaceWord g word × IsNoLexiconFile g bytes cause

  abbrev NoLexicon : Finding → Type 0
  NoLexicon = IsFindingOf no_lexicon IsRefusedLexicon

  abbrev IsEntryOver : ℕ × ℕ → Type 0
  IsEntryOver at = OnLexicon (λ ask entries s. OverAt (forms_in entries) budget ask at) g word bytes

  abbrev Over : Finding → Type 0
  Over = IsFindingOf (λ (at : ℕ × ℕ). over_budget at.0 at.1) IsEntryOver

  abbrev AreWithin : Type 0
  AreWithin = OnLexicon (λ ask entries s. AreEntriesWithin ask (forms_in entries) budget) g word bytes

  abbrev Within : Finding → Type 0
  Within x = (x ≡ ready) × AreWithin

  abbrev WithLexicon : Finding → Type 0
  WithLexicon x = Over x ⊎ Within x

  abbrev NotLong : Finding → Type 0
  NotLong x = NoLexicon x ⊎ WithLexicon x

  steps : (x : Finding) → FindsForHearing g word budget bytes x → RefusesSurface g word x ⊎ (Long x ⊎ NotLong x)
  steps (no_form number cause) f = inl (record { value = cause; is = ap (λ n. no_form n cause) f.0; fact = f.1 })
  steps (long_second number) f = inr (inl (ap long_second f.0, f.1))
  steps (no_lexicon cause) f = inr (inr (inl (record { value = cause; is = refl; fact = f })))
  steps (over_budget entry stage) f = inr (inr (inr (inl (record { value = (entry, stage); is = refl; fact = f }))))
  steps ready f = inr (inr (inr (inr (refl, f))))
  steps other f = absurd f

  one_surface_refusal : (x y : Finding) → RefusesSurface g word x → RefusesSurface g word y → x ≡ y
  one_surface_refusal = one_of _ _ (λ e f c d. ap (no_form 3) (one_cause _ 64 _ e f c d))

  surface_apart : (x : Finding) → RefusesSurface g word x → HasSurfaceWord g word → ⊥
  surface_apart x r s = surface_and_refused _ 64 _ _ _ s.1 r.fact

  -- the word is a surface, and the file a lexicon
  has_surface : (x : Finding) → WithLexicon x → HasSurfaceWord g word
  has_surface x (inl o) = (o.fact.surface, o.fact.read)
  has_surface x (inr i) = (i.1.surface, i.1.read)

  has_entries : (x : Finding) → WithLexicon x → (entries : List LexicalEntry) × IsLexiconFile g bytes entries
  has_entries x (inl o) = (o.fact.entries, o.fact.file)
  has_entries x (inr i) = (i.1.entries, i.1.file)

  refused_apart : (x y : Finding) → RefusesSurface g word x → Long y ⊎ NotLong y → ⊥
  refused_apart x y r (inl l) = surface_apart x r l.1.0
  refused_apart x y r (inr (inl n)) = surface_apart x r n.fact.0
  refused_apart x y r (inr (inr w)) = surface_apart x r (has_surface y w)

  long_apart : (x y : Finding) → Long x → NotLong y → ⊥
  long_apart x y l (inl n) = too_long _ _ l.1.1 n.fact.1.within
  long_apart x y l (inr w) = too_long _ _ l.1.1 (has_entries y w).1.within

  no_lexicon_apart : (x y : Finding) → NoLexicon x → WithLexicon y → ⊥
  no_lexicon_apart x y n w =
      let e = has_entries y w in
      lexicon_and_refused _ _ _ _ _ e.1.are n.fact.1.refused

  one_no_lexicon : (x y : Finding) → NoLexicon x → NoLexicon y → x ≡ y
  one_no_lexicon = one_of _ _ (λ e f c d. ap no_lexicon (one_lexicon_cause _ _ _ e f c.1.refused d.1.refused))

  -- an entry that is over the budget by another reading of the grammar and the file
  over_in : (at : ℕ × ℕ) (o : IsEntryOver at) (entries : List LexicalEntry) (ask : List (List Sym) → Problem)
      → IsLexiconFile g bytes entries → AreAsked g ask → OverAt (forms_in entries) budget ask at
  over_in at o entries ask file a =
      let same = one_lexicon _ _ _ _ _ o.file.are file.are in
      rw same at (over_by_another g _ _ _ _ o.are_asked a at o.fact)

  over_apart : (x y : Finding) → Over x → Within y → ⊥
  over_apart x y o i = entry_over_within _ _ _ _ (over_in _ o.fact _ _ i.1.file i.1.are_asked) i.1.fact

  one_over : (x y : Finding) → Over x → Over y → x ≡ y
  one_over = one_of _ _ (λ at other o p. one_entry (forms_in p.entries) budget _ at other (over_in at o p.entries p.ask
      p.file p.are_asked) p.fact)

  pub for_hearing : (x y : Finding) → FindsForHearing g word budget bytes x → FindsForHearing g word budget bytes y
      → x ≡ y
  for_hearing x y a b = one_choice _ _ one_surface_refusal refused_apart (one_choice _ _ (λ v w l m. l.0 ∙ sym m.0)
      long_apart (one_choice _ _ one_no_lexicon no_lexicon_apart (one_choice _ _ one_over over_apart (λ v w i j. i.0
      ∙ sym j.0)))) x y (steps x a) (steps y b)
