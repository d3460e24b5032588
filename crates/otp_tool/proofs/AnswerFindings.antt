-- A command with one file finds one thing in its grammar.
use Rattle.std.proofs.Common.{◌≡◌, ◌⊎◌, inl, inr, ℕ, List, length, refl, ap, sym, ◌∙◌, arith}
use Rattle.tier_core.specs.declared.sym.Sym.{Sym}
use Rattle.grammar_reader.specs.Values.{GrammarValue}
use Rattle.ranked_gen.specs.Budgets.{AreAllWithin, IsFirstOver, IsOver, IsStageWithin}
use Rattle.timeline_text.proofs.Deciding.{not_both}
use Rattle.timeline_text.specs.declared.form_err.FormErr.{FormErr}
use Rattle.form_reader.specs.Forms.{IsRefusedFor}
use Rattle.form_reader.proofs.ReadingLemmas.{not_refused, one_cause, one_reading, one_refusal}
use Rattle.violation.specs.{Problems.{Problem, last_stage}, Rests.{AreWholeKindsOver, AreWholeKindsWithin}}
use Rattle.otp_tool.specs.{Scored.{IsNotScored, IsScored}, Grammars.{IsAsked, OnProblem, grammar_inputs}}
use Rattle.otp_tool.specs.Findings.{Finding, FindsForAnswer, FindsForCanon, FindsForOnce, FindsForScore}
use Rattle.otp_tool.specs.Findings.{IsOverBudget, long_file, no_grammar, no_form, long_second, no_rows, no_lexicon}
use Rattle.otp_tool.specs.{Findings.{no_answer, over_budget, ready}, Steps.{IsFindingOf, RefusesForm}}
use Rattle.otp_tool.proofs.Choices.{equal_where, one_choice, one_of}
use Rattle.otp_tool.proofs.ConstraintLemmas.{first_over_alike, same_stages, whole_over_within}
use Rattle.cert_check.specs.Seen.{AreAskedAlike}

-- ---- in `canon`

pub all_ready : (x : Finding) → FindsForCanon x → x ≡ ready
all_ready ready a = refl
all_ready other a = absurd a

-- ---- in `score`

module _ (g : GrammarValue) (word : List ℕ) where
  abbrev NotScored : Finding → Type 0
  NotScored = IsFindingOf (no_form 2) (IsNotScored (length g.tiers) word)

  abbrev Scored : Finding → Type 0
  Scored x = (x ≡ ready) × ((T : List (List Sym)) × IsScored (length g.tiers) word T)

  score_steps : (x : Finding) → FindsForScore g word x → NotScored x ⊎ Scored x
  score_steps (no_form number cause) a =
      inl (record { value = cause; is = ap (λ n. no_form n cause) a.0; fact = a.1 })
  score_steps ready a = inr (refl, a)
  score_steps other a = absurd a

  pub for_score : (x y : Finding) → FindsForScore g word x → FindsForScore g word y → x ≡ y
  for_score x y a b =
      one_choice NotScored Scored
      (one_of (no_form 2) (IsNotScored (length g.tiers) word)
      (λ e f c d. ap (no_form 2) (one_cause (length g.tiers) 4096 word e f c d)))
      (λ v w n s. not_both (length g.tiers) 4096 word s.1.0 n.value s.1.1 n.fact)
      (λ v w s t. s.0 ∙ sym t.0)
      x y (score_steps x a) (score_steps y b)

-- ---- the budget

module _ (problem : Problem) (budget : ℕ) where
  more : (r : ℕ) → IsOver problem budget r → IsStageWithin problem budget r → ⊥
  more r o w = omega (arith, o.more, w o.kinds o.are)

  pub over_within : (r : ℕ) → IsFirstOver problem budget r → AreAllWithin problem budget → ⊥
  over_within r o w = more r o.over (w r o.stage)

  pub one_stage : (r s : ℕ) → IsFirstOver problem budget r → IsFirstOver problem budget s → r ≡ s
  one_stage r s o p = equal_where r s (λ l. more r o.over (p.before r l)) (λ l. more s p.over (o.before s l))

module _ (g : GrammarValue) (form : List ℕ) where
  pub one_form : (p q : Problem) → IsAsked g form p → IsAsked g form q → p.form ≡ q.form
  one_form p q a b = one_reading (grammar_inputs g) g.letters form _ _ a.form b.form

  pub asked_alike : (p q : Problem) → IsAsked g form p → IsAsked g form q → AreAskedAlike p q
  asked_alike p q a b = record {
    tiers = a.tiers ∙ sym b.tiers;
    constraints = a.constraints ∙ sym b.constraints;
    form = one_form p q a b;
  }

  pub form_refused : (word : ℕ) (cause : FormErr)
      → (word ≡ 2) × IsRefusedFor (grammar_inputs g) g.letters form cause → RefusesForm g form (no_form word cause)
  form_refused word cause a = record { value = cause; is = ap (λ w. no_form w cause) a.0; fact = a.1 }

  -- a form that is refused is not read
  pub refused_form : (x : Finding) (P : Problem → Type 0) → RefusesForm g form x → OnProblem P g form → ⊥
  refused_form x P r o = not_refused (grammar_inputs g) g.letters form o.problem.form r.value o.is_asked.form r.fact

  pub one_refused_form : (x y : Finding) → RefusesForm g form x → RefusesForm g form y → x ≡ y
  one_refused_form = one_of _ _ (λ e f c d. ap (no_form 2) (one_refusal (grammar_inputs g) g.letters form e f c d))

module _ (g : GrammarValue) (form : List ℕ) (budget : ℕ) where
  -- over the budget by another reading of the grammar and the word
  over_by : (stage : ℕ) (o : IsOverBudget g form budget stage) (problem : Problem) → IsAsked g form problem
      → IsFirstOver problem budget stage
  over_by stage o problem a = first_over_alike _ _ _ _ (asked_alike g _ _ _ o.is_asked a) o.over

  abbrev AreWithin : Type 0
  AreWithin = OnProblem (λ problem. AreAllWithin problem budget) g form

  never_both : (stage : ℕ) → IsOverBudget g form budget stage → AreWithin → ⊥
  never_both stage o w = over_within _ _ _ (over_by _ o _ w.is_asked) w.fact

  one_over : (stage other : ℕ) → IsOverBudget g form budget stage → IsOverBudget g form budget other → stage ≡ other
  one_over stage other o p = one_stage _ _ _ _ (over_by _ o _ p.is_asked) p.over

  -- ---- in `generate` and `show`

  abbrev pub Over : Finding → Type 0
  Over = IsFindingOf (over_budget 0) (IsOverBudget g form budget)

  abbrev pub Within : Finding → Type 0
  Within x = (x ≡ ready) × AreWithin

  pub one_in_budget : (x y : Finding) → Over x ⊎ Within x → Over y ⊎ Within y → x ≡ y
  one_in_budget = one_choice _ _ (one_of _ _ (λ r s o p. ap (over_budget 0) (one_over r s o p))) (λ v w o i. never_both
      _ o.fact i.1) (λ v w i j. i.0 ∙ sym j.0)

  answer_steps : (x : Finding) → FindsForAnswer g form budget x → RefusesForm g form x ⊎ (Over x ⊎ Within x)
  answer_steps (no_form word cause) a = inl (form_refused g form _ _ a)
  answer_steps (over_budget entry stage) a =
      inr (inl (record { value = stage; is = ap (λ e. over_budget e stage) a.0; fact = a.1 }))
  answer_steps ready a =
      inr (inr (refl, record { problem = a.problem; is_asked = a.is_asked; fact = a.within }))
  answer_steps other a = absurd a

  not_in_budget : (x y : Finding) → RefusesForm g form x → Over y ⊎ Within y → ⊥
  not_in_budget x y r (inl o) = not_refused
      (grammar_inputs g) g.letters form o.fact.problem.form r.value o.fact.is_asked.form r.fact
  not_in_budget x y r (inr i) = not_refused
      (grammar_inputs g) g.letters form i.1.problem.form r.value i.1.is_asked.form r.fact

  pub for_answer : (x y : Finding) → FindsForAnswer g form budget x → FindsForAnswer g form budget y → x ≡ y
  for_answer x y a b =
      one_choice (RefusesForm g form) (λ z. Over z ⊎ Within z) (one_refused_form g form) not_in_budget one_in_budget
      x y (answer_steps x a) (answer_steps y b)

  -- a problem that is within the budget leaves nothing but that all is ready
  pub only_within : AreWithin → (x : Finding) → FindsForAnswer g form budget x → x ≡ ready
  only_within w x a =
      one_choice (RefusesForm g form) (λ z. Over z ⊎ Within z) (one_refused_form g form) not_in_budget one_in_budget
      x ready (answer_steps x a) (inr (inr (refl, w)))

  pub only_over : (stage : ℕ) → IsOverBudget g form budget stage → (x : Finding) → FindsForAnswer g form budget x
      → x ≡ over_budget 0 stage
  only_over stage o x a = for_answer x _ a (refl, o)

  -- ---- in `once`

  abbrev IsOnceOver : ℕ → Type 0
  IsOnceOver stage = OnProblem (λ problem. (stage ≡ last_stage problem) × AreWholeKindsOver problem budget) g form

  abbrev OnceOver : Finding → Type 0
  OnceOver = IsFindingOf (over_budget 0) IsOnceOver

  abbrev OnceWithin : Finding → Type 0
  OnceWithin x = (x ≡ ready) × OnProblem (λ problem. AreWholeKindsWithin problem budget) g form

  once_steps : (x : Finding) → FindsForOnce g form budget x → RefusesForm g form x ⊎ (OnceOver x ⊎ OnceWithin x)
  once_steps (no_form word cause) a = inl (form_refused g form _ _ a)
  once_steps (over_budget entry stage) a =
      inr (inl (record { value = stage; is = ap (λ e. over_budget e stage) a.0; fact = a.1 }))
  once_steps ready a = inr (inr (refl, a))
  once_steps other a = absurd a

  one_once_over : (r s : ℕ) → IsOnceOver r → IsOnceOver s → r ≡ s
  one_once_over r s o p = o.fact.0 ∙ same_stages _ _ (asked_alike g _ _ _ o.is_asked p.is_asked) ∙ sym p.fact.0

  once_apart : (x y : Finding) → OnceOver x → OnceWithin y → ⊥
  once_apart x y o i = whole_over_within _ _ _ (asked_alike g _ _ _ o.fact.is_asked i.1.is_asked) o.fact.fact.1 i.1.fact

  form_apart : (x y : Finding) → RefusesForm g form x → OnceOver y ⊎ OnceWithin y → ⊥
  form_apart x y r (inl o) = refused_form g _ x _ r o.fact
  form_apart x y r (inr i) = refused_form g _ x _ r i.1

  pub for_once : (x y : Finding) → FindsForOnce g form budget x → FindsForOnce g form budget y → x ≡ y
  for_once x y a b = one_choice _ _ (one_refused_form g form) form_apart
      (one_choice _ _ (one_of _ _ (λ r s o p. ap (over_budget 0) (one_once_over r s o p))) once_apart (λ v w i j. i.0
      ∙ sym j.0)) x y (once_steps x a) (once_steps y b)
