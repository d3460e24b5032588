use Rattle.std.proofs.Common.{◌≡◌, ◌≢◌, ℕ, length, List, All, inl, refl, ap, sym, ◌∙◌, subst, rules, arith}
use Rattle.tier_core.specs.declared.constraint.Constraint.{Constraint}
use Rattle.timeline_text.specs.declared.form_err.FormErr.TheVariants.{NoMemory}
use Rattle.violation.specs.{Candidates.vec, Conditions.IsCountable}
use Rattle.answer_text.specs.Text.{counts_text}
use Rattle.grammar_reader.specs.Grammars.{value_of}
use Rattle.otp_tool.specs.{Findings.FindsForScore, Scored.{IsNotScored, IsScored}, Results.IsScoreText}
use Rattle.otp_tool.proofs.StepLemmas.{all_countable, is_scored, not_scored, scored, written}
use Rattle.otp_tool.proofs.results.score.Goals as goal

pub returns-in-Err : goal.returns-in-Err
returns-in-Err g c =
    let other : c.in-Err.cause ≢ NoMemory = search rules in
    let refused = rw c.as_bytes.ensures.value at (c.in-Err.ensures.err other) in
    record {
      step = inl (not_scored c.args.grammar.now _ _ refused, refl);
      never_falls = omega arith;
    }

pub vector-requires-clause-countable : goal.vector-requires-clause-countable
vector-requires-clause-countable g c = rw c.deref.ensures.value (all_countable c.args.grammar.now _
    c.in-Ok.ensures.ok.form)

pub returns-in-Ok-vector-clause-step : goal.returns-in-Ok-vector-clause-step
returns-in-Ok-vector-clause-step g c =
    let read = rw c.as_bytes.ensures.value at c.in-Ok.ensures.ok in
    let counts =
    c.in-Ok-vector.ensures ∙ ap (λ (cs : List Constraint). vec cs c.in-Ok.timeline) c.deref.ensures.value in
    written _ _ (scored c.args.grammar.now _ _ _ read (c.deref-in-Ok-vector.ensures.value ∙ counts))
    (FindsForScore (value_of c.args.grammar.now) c.args.word.now) (is_scored c.args.grammar.now _ _ read) _
    c.put_counts.ensures _ c.write_status.ensures
