-- A right answer is sound.
use Rattle.std.proofs.Common.{List, sym, subst}
use Rattle.tier_core.specs.{declared.sym.Sym.Sym, declared.constraint.Constraint.Constraint, Tiers.Tiers}
use Rattle.violation.specs.{Candidates.{IsOptimal, IsLeastVector}, Stages.IsKindOfStage, Problems.Problem}
use Rattle.answer_text.specs.{declared.answer.Answer.Answer, Right.{numbers_of, IsRight}, Sound.IsSound}
use Rattle.check_laws.proofs.Soundness.{numbers_apart}

pub sound_from_right : (problem : Problem) (answer : Answer) → IsRight problem answer → IsSound problem answer
sound_from_right problem answer right = record {
  form = right.form;
  accepts = right.automaton.accepts;
  counts = right.counts;
  example = right.example.member;
  each_kind = λ r w k passed. ((right.each_stage r w).kinds.members k).1 passed;
  distinct = numbers_apart (numbers_of answer.automaton.states.items) right.automaton.ascending;
  arcs = λ i d l. let a = right.automaton.arcs i d l in record
      { apart = a.apart; one_width = a.one_width; targets = a.targets };
}
