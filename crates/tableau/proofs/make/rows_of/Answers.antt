use Rattle.std.proofs.Common.{◌≡◌, ◌∷◌, [], ◌++◌, ℕ, List, map, take, All, ap, sym, ◌∙◌, subst, rules}
use Rattle.std.proofs.{lemmas.List.{map_push, take_more}, lemmas.List.Elements.All-push}
use Rattle.tier_core.specs.declared.constraint.Constraint.{Constraint}
use Rattle.violation.specs.{Candidates.IsCandidate, Conditions.IsCountable, Problems.problem_from}
use Rattle.tableau.specs.{declared.table.TableauRow.TableauRow, Compared.IsCompared, Tableaux.IsTableauRow}
use Rattle.tableau.proofs.Comparing.{compared_row}
use Rattle.grammar_reader.proofs.OverTiers.{all_countable}
use Rattle.tableau.proofs.make.rows_of.Goals as goal

pub compared_row-requires-clause-countable : goal.compared_row-requires-clause-countable
compared_row-requires-clause-countable c =
    let candidate = subst
    (IsCandidate (problem_from c.args.grammar.now.tiers c.args.grammar.now.constraints.items c.args.answer.now.form))
    (sym c.timeline-item.is)
    (c.requires.candidates c.loop-timeline.timeline-index c.timeline-item.result c.loop-timeline-test.true) in
    subst (λ (cs : List Constraint). All (λ k. IsCountable k.left k.right c.timeline-item.result) cs)
    (sym c.deref.ensures.value)
    (all_countable c.args.grammar.now c.timeline-item.result candidate.well_formed)

pub loop-timeline-preserved : goal.loop-timeline-preserved
loop-timeline-preserved c =
    let candidate = subst
    (IsCandidate (problem_from c.args.grammar.now.tiers c.args.grammar.now.constraints.items c.args.answer.now.form))
    (sym c.timeline-item.is)
    (c.requires.candidates c.loop-timeline.timeline-index c.timeline-item.result c.loop-timeline-test.true) in
    let pushed : c.push-in-loop-timeline.new.self.items ≡ c.loop-timeline.rows.items
    ++ c.in_ok-row.row ∷ [] = search rules in
    let compared = subst
    (λ (cs : List Constraint). IsCompared cs c.args.answer.now.counts.items c.timeline-item.result
    c.in_ok-row.row) c.deref.ensures.value
    (subst (λ
    (least : List ℕ). IsCompared c.deref.result.now least c.timeline-item.result c.in_ok-row.row)
    c.deref-in-loop-timeline.ensures.value c.in_ok-row.ensures) in
    let row = compared_row
    (problem_from c.args.grammar.now.tiers c.args.grammar.now.constraints.items c.args.answer.now.form)
    c.args.answer.now.counts.items c.requires.right.counts c.timeline-item.result c.in_ok-row.row candidate
    compared in
    record {
      timelines = ap (map (λ (r : TableauRow). r.timeline)) pushed
          ∙ map_push (λ (r : TableauRow). r.timeline) c.loop-timeline.rows.items c.in_ok-row.row
          ∙ ap (λ ts. ts ++ c.in_ok-row.row.timeline ∷ []) c.loop-timeline.invariant.timelines
          ∙ ap (λ t. c.args.answer.now.example ∷ (take c.loop-timeline.timeline-index c.args.timelines.now ++ t ∷ []))
          (compared.timeline ∙ c.timeline-item.is)
          ∙ ap (λ ts. c.args.answer.now.example ∷ ts)
          (sym (take_more c.args.timelines.now c.loop-timeline.timeline-index c.timeline-item.result
          c.loop-timeline-test.true));
      each = subst (λ (rs : List TableauRow). All
          (IsTableauRow
          (problem_from c.args.grammar.now.tiers c.args.grammar.now.constraints.items c.args.answer.now.form)
          c.args.answer.now.counts.items) rs) (sym pushed)
          (All-push
          (IsTableauRow
          (problem_from c.args.grammar.now.tiers c.args.grammar.now.constraints.items c.args.answer.now.form)
          c.args.answer.now.counts.items) c.loop-timeline.rows.items c.in_ok-row.row
          c.loop-timeline.invariant.each row);
    }
