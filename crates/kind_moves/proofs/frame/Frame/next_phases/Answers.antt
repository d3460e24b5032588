use Rattle.std.proofs.Common.{◌≡◌, ℕ, ◌<◌, take, length, length-take, get_or, ap, sym, ◌∙◌, subst, arith}
use Rattle.std.proofs.{lemmas.List.get_or-take, lemmas.List.Elements.All-from_recursion}
use Rattle.tier_core.specs.declared.constraint.Constraint.{Constraint}
use Rattle.grammar_reader.proofs.OverTiers.{over_tiers}
use Rattle.violation.specs.Conditions.{IsOverTiers}
use Rattle.kind_moves.proofs.frame.Frame.next_phases.Goals as goal

pub next_phases-requires-clause-over : goal.next_phases-requires-clause-over
next_phases-requires-clause-over c k d l =
    let g = c.args.self.now.grammar.now in
    let xs = c.as_slice.result.now in
    let same : xs ≡ g.constraints.items = c.as_slice.ensures.value in
    let size = length-take c.args.stage xs in
    let within : k < c.args.stage = omega (arith, l, size) in
    let below : k < length g.constraints.items = omega (arith, l, size, ap length same) in
    let at : get_or (take c.args.stage xs) k d ≡ get_or g.constraints.items k d = get_or-take c.args.stage xs k d
    within ∙ ap (λ ys. get_or ys k d) same in
    let Over : ℕ → Constraint → Type 0 = λ w x. IsOverTiers w x in
    subst (Over (length c.args.column.now)) (sym at)
    (subst (λ w. Over w (get_or g.constraints.items k d)) (sym c.requires.width)
    (All-from_recursion (IsOverTiers (length g.tiers.kinds.items)) g.constraints.items (over_tiers g) k d below))
