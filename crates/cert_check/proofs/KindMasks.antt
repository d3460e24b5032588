-- The bits that tell a kind: there are some, and they are one.
use Rattle.std.proofs.Common.{◌≡◌, ℕ, length}
use Rattle.tier_core.specs.{declared.kind.Kind.Kind, Kinds.PrefixKind}
use Rattle.violation.specs.{Prefixes.stretches, Problems.Problem}
use Rattle.violation.proofs.KindBits.{kind_for, one_told}
use Rattle.cert_check.specs.Faults.{TellsKind}

-- some bits tell a kind that has as many flags and phases as the problem has free tiers and stretch implications
pub some_told : (problem : Problem) (stage : ℕ) (k : PrefixKind) → length k.opened ≡ length problem.tiers.free
    → length k.phases ≡ length (stretches problem stage) → (kind : Kind) × TellsKind problem stage kind k
some_told problem stage k free count =
    let told =
    kind_for _ _ k free count in
    (told.0, record { tells = told.1.tells; opened = told.1.opened; stretches = told.1.stretches })

-- bits that tell one kind are the same
pub same_told : (problem : Problem) (stage : ℕ) (k l : Kind) (x : PrefixKind) → TellsKind problem stage k x
    → TellsKind problem stage l x → k ≡ l
same_told problem stage k l x a b = one_told _ _ x k l
    (record { tells = a.tells; opened = a.opened; stretches = a.stretches })
    (record { tells = b.tells; opened = b.opened; stretches = b.stretches })
