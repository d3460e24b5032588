-- Where the shelf tells, each finding has its status.
use Rattle.std.proofs.Common.{◌≡◌, ◌⊎◌, inl, inr, ℕ, List, Option, refl, ap, sym, ◌∙◌, subst}
use Rattle.outside.specs.Faults.{Rose}
use Rattle.command_line.specs.{declared.status.Status.Status, declared.status.Status.TheVariants.{Done, No, Usage}}
use Rattle.command_line.specs.declared.status.Status.TheVariants.{GrammarRefused, FormRefused, LexiconRefused}
use Rattle.command_line.specs.declared.status.Status.TheVariants.{AnswerRefused, Budget, ReadFault, WriteFault}
use Rattle.command_line.specs.declared.status.Status.TheVariants.{NoMemory, RowsRefused, TooLong}
use Rattle.command_line.specs.Commands.{Command, IsNoCommand}
use Rattle.command_line.proofs.CommandLemmas.{one_command}
use Rattle.otp_tool.specs.Findings.{Finding, Finds, long_file, no_grammar, no_form, long_second, no_rows}
use Rattle.otp_tool.specs.Findings.{no_lexicon, no_answer, over_budget, ready}
use Rattle.otp_tool.specs.Outcomes.{HasReadFault, IsBeforeWriting, IsBehind, IsTold, IsTooLong, MayRead, Stands}
use Rattle.otp_tool.specs.{Outcomes.answer_to, Steps.{Change, IsOutcome, IsUntouched}}
use Rattle.otp_tool.proofs.OutcomeLemmas.{nothing_taken}

-- what is found is what is told
same : (words : List (List ℕ)) (held : List ℕ → Option (List ℕ)) (x y : Finding) → IsTold words held x
    → IsBehind words held y → y ≡ x
same words held x y t b =
    let command = one_command _ _ _ b.reads.are t.are in
    let reads = rw command at b.reads in
    t.only b.bytes b.second reads y (rw command at b.finds)

-- whether a finding is that nothing is refused
abbrev IsReady : Finding → Type 0
IsReady long_file = ⊥
IsReady (no_grammar line cause) = ⊥
IsReady (no_form word cause) = ⊥
IsReady (long_second word) = ⊥
IsReady (no_rows row cause) = ⊥
IsReady (no_lexicon cause) = ⊥
IsReady (no_answer line cause) = ⊥
IsReady (over_budget entry stage) = ⊥
IsReady ready = Unit {0}

module _ (words : List (List ℕ)) (c : Change) where
  no_usage : (x : Finding) → IsTold words c.held x → IsNoCommand words → ⊥
  no_usage x t u = u t.command t.are

  due_long : (word : ℕ) → IsTooLong words c.held word → (x : Finding) → IsTold words c.held x
      → TooLong word ≡ answer_to x
  due_long word (inl l) x t = ap TooLong l.0 ∙ ap answer_to (same _ _ x _ t l.1)
  due_long word (inr b) x t = ap answer_to (same _ _ x _ t b)

  pub due : (s : Status) → IsOutcome words c s → (x : Finding) → (x ≡ ready → ⊥) → IsTold words c.held x
      → Stands (answer_to x) s
  due Done o x n t = absurd (n (sym (same _ _ x _ t o.0)))
  due No o x n t = absurd (n (sym (same _ _ x _ t o.0)))
  due Usage o x n t = absurd (no_usage x t o.0)
  due (GrammarRefused word line cause) o x n t = inl (ap (λ (w : ℕ). GrammarRefused w line cause) o.0 ∙ ap answer_to
      (same _ _ x _ t o.1))
  due (FormRefused word cause) o x n t = inl (ap answer_to (same _ _ x _ t o.0))
  due (LexiconRefused word cause) o x n t =
      inl (ap (λ (w : ℕ). LexiconRefused w cause) o.0 ∙ ap answer_to (same _ _ x _ t o.1))
  due (AnswerRefused word line cause) o x n t = inl (ap (λ (w : ℕ). AnswerRefused w line cause) o.0 ∙ ap answer_to
      (same _ _ x _ t o.1))
  due (Budget entry stage) o x n t = inl (ap answer_to (same _ _ x _ t o.0))
  due (ReadFault word) o x n t = inr (inr (word, refl))
  due WriteFault o x n t = absurd (n (sym (same _ _ x _ t o.0)))
  due NoMemory o x n t = inr (inl refl)
  due (RowsRefused word row cause) o x n t =
      inl (ap (λ (w : ℕ). RowsRefused w row cause) o.0 ∙ ap answer_to (same _ _ x _ t o.1))
  due (TooLong word) o x n t = inl (due_long _ o.0 x t)

  not_ready : (x : Finding) → IsTold words c.held ready → IsBehind words c.held x → IsReady x
  not_ready x t b = rw (same words c.held ready x t b) tt

  not_long : (word : ℕ) → IsTold words c.held ready → IsTooLong words c.held word → ⊥
  not_long word t (inl l) = absurd (not_ready _ t l.1)
  not_long word t (inr b) = absurd (not_ready _ t b)

  pub complete : (s : Status) → IsOutcome words c s → IsTold words c.held ready
      → ((word : ℕ) → HasReadFault words c.held c.faults_before c.faults_after word → ⊥)
      → (Rose c.taking.before c.taking.after → ⊥) → (s ≡ Done) ⊎ ((s ≡ No) ⊎ (s ≡ NoMemory))
  complete Done o t r w = inl refl
  complete No o t r w = inr (inl refl)
  complete Usage o t r w = absurd (no_usage _ t o.0)
  complete (GrammarRefused word line cause) o t r w = absurd (not_ready _ t o.1)
  complete (FormRefused word cause) o t r w = absurd (not_ready _ t o.0)
  complete (LexiconRefused word cause) o t r w = absurd (not_ready _ t o.1)
  complete (AnswerRefused word line cause) o t r w = absurd (not_ready _ t o.1)
  complete (Budget entry stage) o t r w = absurd (not_ready _ t o.0)
  complete (ReadFault word) o t r w = absurd (r word o.0)
  complete WriteFault o t r w = absurd (w o.2)
  complete NoMemory o t r w = inr (inr refl)
  complete (RowsRefused word row cause) o t r w = absurd (not_ready _ t o.1)
  complete (TooLong word) o t r w = absurd (not_long _ t o.0)

  stays : (s : Status) → IsOutcome words c s → IsBeforeWriting s → IsUntouched c.taking
  stays Usage o b = o.1
  stays (GrammarRefused word line cause) o b = o.2
  stays (FormRefused word cause) o b = o.1
  stays (LexiconRefused word cause) o b = o.2
  stays (AnswerRefused word line cause) o b = o.2
  stays (Budget entry stage) o b = o.1
  stays (ReadFault word) o b = o.1
  stays (RowsRefused word row cause) o b = o.2
  stays (TooLong word) o b = o.1
  stays other o b = absurd b

  pub untouched : (s : Status) → IsOutcome words c s → IsBeforeWriting s → c.taking.new ≡ c.taking.old
  untouched s o b = nothing_taken _ (stays s o b)

  pub no_fault_counted : (s : Status) → IsOutcome words c s → IsBeforeWriting s → c.taking.after ≡ c.taking.before
  no_fault_counted s o b = ap (λ (now : Option (List ℕ) × ℕ). now.1) (stays s o b)
