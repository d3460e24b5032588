use Rattle.std.proofs.Common.{◌≡◌, ◌↔◌, ◌≤◌, drop, length}
use Rattle.tier_core.specs.{Tiers.{is_input, numbers_from}, Timelines.{squeeze, project}}
use Rattle.violation.proofs.candidate.spells_form.Given as goal

abbrev pub invariant-loop-column : goal.invariant-loop-column
invariant-loop-column l = record {
  within : l.place ≤ length l.form;
  rest : (squeeze (project (numbers_from is_input 0 l.kinds) (drop l.column-index l.columns)) ≡ drop l.place l.form) ↔
      (squeeze (project (numbers_from is_input 0 l.kinds) l.columns) ≡ l.form);
}
