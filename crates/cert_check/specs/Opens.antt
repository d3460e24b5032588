-- Which tiers are open at a kind, tier by tier.
use Rattle.std.specs.Prelude.{ℕ, zero, suc, ◌-◌, ◌≡◌, ◌<◌, ◌≤◌, Bool, false, if◌then◌else◌, List, length, filter, take}
use Rattle.tier_core.specs.declared.kind.Kind.{Kind}
use Rattle.tier_core.specs.declared.sym.Sym.{Sym}
use Rattle.tier_core.specs.declared.tier.TierKind.{TierKind}
use Rattle.tier_core.specs.KindShapes.{FitsShape}
use Rattle.tier_core.specs.Scan.{opens}
use Rattle.tier_core.specs.Timelines.{symbol, column_at}
use Rattle.tier_core.specs.Tiers.{is_input, kind_at, has_tier}
use Rattle.violation.specs.Problems.{last_place}
use Rattle.cert_check.specs.declared.source.Source.{Source}
use Rattle.cert_check.specs.declared.subject.Subject.{Subject}
use Rattle.cert_check.specs.Subjects.{problem_of}

-- whether an input tier is open at a place of a form: its symbol in the column before opens it
abbrev pub is_open_before : List (List Sym) → ℕ → ℕ → Bool
is_open_before u zero input = false
is_open_before u (suc place) input = opens (symbol (column_at u place) input)

-- how many of the tiers before this one are input tiers
abbrev pub inputs_before : List TierKind → ℕ → ℕ
inputs_before kinds tier = length (filter is_input (take tier kinds))

-- Whether a tier is open: an input tier at this place of the form, and a free tier if its bit is set.
abbrev pub is_open_by : List TierKind → List (List Sym) → ℕ → ℕ → ℕ → Bool
is_open_by kinds u place opened tier =
    if is_input (kind_at kinds tier) then is_open_before u place (inputs_before kinds tier)
    else has_tier opened (tier - inputs_before kinds tier)

-- a mask has just the tiers that are open at a kind
abbrev pub IsOpenAt : Subject → Kind → ℕ → Type 0
IsOpenAt s kind mask = (t : ℕ) → t < length s.grammar.now.tiers.kinds.items
    → has_tier mask t ≡ is_open_by s.grammar.now.tiers.kinds.items s.answer.now.form kind.place kind.opened t

-- The kind fits the stage, its place is in the form, and these tiers are open at it.
pub record IsSource (s : Subject) (stage : ℕ) (source : Source) : Type 0 where
  pub fits : FitsShape s.shape.now stage source.kind
  pub place : source.kind.place ≤ last_place (problem_of s)
  pub opened : IsOpenAt s source.kind source.mask
