use Rattle.std.proofs.Common.{◌≡◌, map, take, string_bytes}
use Rattle.tableau.proofs.copies.names_of.Given as goal

abbrev pub invariant-loop-constraint : goal.invariant-loop-constraint
invariant-loop-constraint l = map string_bytes l.names.items
    ≡ map (λ c. string_bytes c.name) (take l.constraint-index l.constraints)
