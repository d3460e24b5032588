-- Kinds that are the same at one stage are so at those below it, and least rests from stage 1 on.
use Rattle.std.proofs.Common.{◌≡◌, ℕ, zero, suc, ◌≤◌, List, ap, sym, ◌∙◌, arith}
use Rattle.tier_core.specs.{declared.sym.Sym.Sym, Kinds.PrefixKind}
use Rattle.violation.specs.{Moves.cut_kind, Prefixes.kind_of, Problems.Problem, Stages.{IsLeastRest, IsRemaining}}
use Rattle.violation.proofs.CutLemmas.{cut_kind-kind_of}

-- kinds that are the same under more constraints are so under fewer
pub same_fewer : (problem : Problem) (j s : ℕ) → j ≤ s → (v p : List (List Sym))
    → kind_of problem s v ≡ kind_of problem s p → kind_of problem j v ≡ kind_of problem j p
same_fewer problem j s l v p e = sym (cut_kind-kind_of problem j s l v) ∙ ap (cut_kind problem j) e
    ∙ cut_kind-kind_of problem j s l p

-- from stage 1 on what remains is a least rest
pub least_rest : (problem : Problem) (r : ℕ) (k : PrefixKind) (p : ℕ) → 1 ≤ r → IsRemaining problem r k p
    → IsLeastRest problem r k p
least_rest problem zero k p l h = absurd (omega arith)
least_rest problem (suc i) k p l h = h
