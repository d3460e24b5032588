use Rattle.std.proofs.Common.{◌≡◌, Some, ap, sym, ◌∙◌}
use Rattle.tier_core.specs.declared.kind.Kind.{Kind}
use Rattle.tier_core.proofs.SameKinds.{kind_eq-Decides}
use Rattle.stage_tables.proofs.listed.number_at_hand.Goals as goal

pub returns-then-eq : goal.returns-then-eq
returns-then-eq c =
    let found = c.in_ok-found.found in
    let s = c.in_ok-found.field-0-1 in
    let same = (kind_eq-Decides _ _).0 (sym c.eq.ensures ∙ c.if-eq.true) in
    (s, sym c.in_ok-found.ensures ∙ ap (λ (x : Kind). Some (x, s)) same)
