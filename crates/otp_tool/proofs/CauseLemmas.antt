-- All that is promised of a status is read off its outcome.
use Rattle.std.proofs.Common.{◌≡◌, ◌⊎◌, inl, inr, ◌↔◌, ℕ, List, refl, subst}
use Rattle.command_line.specs.{declared.status.Status.Status, declared.status.Status.TheVariants.{Done, No, Usage}}
use Rattle.command_line.specs.declared.status.Status.TheVariants.{GrammarRefused, FormRefused, LexiconRefused}
use Rattle.command_line.specs.declared.status.Status.TheVariants.{AnswerRefused, Budget, ReadFault, WriteFault}
use Rattle.command_line.specs.declared.status.Status.TheVariants.{NoMemory, RowsRefused, TooLong}
use Rattle.command_line.specs.Commands.{IsNoCommand}
use Rattle.otp_tool.specs.Findings.{Finding, long_file, long_second, no_grammar, no_form, no_rows, no_lexicon}
use Rattle.otp_tool.specs.{Findings.{no_answer, over_budget, ready}, Endings.IsStatusOf}
use Rattle.otp_tool.specs.{Outcomes.{IsBehind, IsTooLong}, Steps.{Change, IsOutcome}}
use Rattle.otp_tool.proofs.{DueLemmas.{complete, due, no_fault_counted, untouched}, VerdictLemmas.settled}

module _ (words : List (List ℕ)) (c : Change) where
  -- words that something is behind are a command
  no_behind : (x : Finding) → IsBehind words c.held x → IsNoCommand words → ⊥
  no_behind x b n = n b.command b.reads.are

  no_long : (word : ℕ) → IsTooLong words c.held word → IsNoCommand words → ⊥
  no_long word (inl l) n = no_behind _ l.1 n
  no_long word (inr b) n = no_behind _ b n

  only_usage : (s : Status) → IsOutcome words c s → IsNoCommand words → s ≡ Usage
  only_usage Done o n = absurd (no_behind _ o.0 n)
  only_usage No o n = absurd (no_behind _ o.0 n)
  only_usage Usage o n = refl
  only_usage (GrammarRefused word line cause) o n = absurd (no_behind _ o.1 n)
  only_usage (FormRefused word cause) o n = absurd (no_behind _ o.0 n)
  only_usage (LexiconRefused word cause) o n = absurd (no_behind _ o.1 n)
  only_usage (AnswerRefused word line cause) o n = absurd (no_behind _ o.1 n)
  only_usage (Budget entry stage) o n = absurd (no_behind _ o.0 n)
  only_usage (ReadFault word) o n = absurd (n o.0.command o.0.are)
  only_usage WriteFault o n = absurd (no_behind _ o.0 n)
  only_usage NoMemory o n = absurd (n o.0.0 o.0.1)
  only_usage (RowsRefused word row cause) o n = absurd (no_behind _ o.1 n)
  only_usage (TooLong word) o n = absurd (no_long _ o.0 n)

module _ (words : List (List ℕ)) (c : Change) (s : Status) (o : IsOutcome words c s) where
  at : (t : Status) → s ≡ t → IsOutcome words c t
  at t e = rw e at o

  nothing_refused : (s ≡ Done) ⊎ (s ≡ No) → IsBehind words c.held ready
  nothing_refused (inl e) = (at _ e).0
  nothing_refused (inr e) = (at No e).0

  -- all that is promised of a status
  pub is_status : IsStatusOf words c s
  is_status = record {
    done = λ e. (at _ e).1;
    no = λ e. (at No e).1;
    nothing_refused = nothing_refused;
    complete = complete _ c s o;
    settled = settled _ c s o;
    usage = (λ e. (at _ e).0, only_usage _ c s o);
    read_fault = λ word e. (at _ e).0;
    too_long = λ word e. (at _ e).0;
    grammar_refused = λ word line cause e. let p = at _ e in (p.0, p.1);
    form_refused = λ word cause e. (at _ e).0;
    rows_refused = λ word row cause e. let p = at _ e in (p.0, p.1);
    lexicon_refused = λ word cause e. let p = at _ e in (p.0, p.1);
    answer_refused = λ word line cause e. let p = at _ e in (p.0, p.1);
    budget = λ entry stage e. (at _ e).0;
    write_fault = λ e. let p = at _ e in (p.0, p.2);
    due = due _ c s o;
    untouched = untouched _ c s o;
    no_fault_counted = no_fault_counted _ c s o;
    begun = λ e. (at _ e).1;
    no_memory = λ e. (at _ e).1;
  }
