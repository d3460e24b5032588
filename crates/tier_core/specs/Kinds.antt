-- Kinds of prefixes as plain lists, and their order.
use Rattle.std.specs.Prelude.{ℕ, ◌^◌, ◌<◌, Bool, true, false, if◌then◌else◌, List, map}
use Rattle.std.specs.List.{range_with_len}
use Rattle.std.specs.Ordering.{nat_cmp, ordering_then}
use Rattle.std.specs.Cmp.Lexicographic.{slice_cmp}
use Rattle.std.specs.declared.cmp.Ordering.{Ordering}
use Rattle.tier_core.specs.declared.kind.Kind.{Kind}
use Rattle.tier_core.specs.Tiers.{has_tier}

-- the phase of a stretch implication after a prefix
pub data Phase : Type 0 where
  closed : Phase
  unmet : Phase
  met : Phase

-- A kind: how many columns of the form have been read, whether each free tier is open,
-- and the phase of each stretch implication.
pub record PrefixKind : Type 0 where
  pub place : ℕ
  pub opened : List Bool
  pub phases : List Phase

-- closed comes before unmet, and unmet before met
abbrev pub phase_rank : Phase → ℕ
phase_rank closed = 0
phase_rank unmet = 1
phase_rank met = 2

-- closed tiers come before open ones
abbrev pub open_rank : Bool → ℕ
open_rank false = 0
open_rank true = 1

-- the first tier that is open in only one of two decides
abbrev pub open_order : List Bool → List Bool → Ordering
open_order a b = slice_cmp nat_cmp (map open_rank a) (map open_rank b)

-- the first stretch implication whose phases differ decides
abbrev pub phase_order : List Phase → List Phase → Ordering
phase_order a b = slice_cmp nat_cmp (map phase_rank a) (map phase_rank b)

-- kinds are compared by place, then by open tiers, then by phases
abbrev pub kind_order : PrefixKind → PrefixKind → Ordering
kind_order k l = ordering_then (nat_cmp k.place l.place)
    (ordering_then (open_order k.opened l.opened) (phase_order k.phases l.phases))

-- the phase that the bits of a stretch implication encode
abbrev pub phase_by_bits : Bool → Bool → Phase
phase_by_bits is_unmet is_met = if is_met then met else (if is_unmet then unmet else closed)

-- the phase that a kind's bits encode for a stretch implication
abbrev pub phase_at : Kind → ℕ → Phase
phase_at kind i = phase_by_bits (has_tier kind.unmet i) (has_tier kind.met i)

-- no bit of `unmet` and `met` is set from place n on
pub record AreStretchesBelow (n : ℕ) (kind : Kind) : Type 0 where
  pub unmet : kind.unmet < 2 ^ n
  pub met : kind.met < 2 ^ n

-- whether each of so many free tiers is open
abbrev pub open_tiers : ℕ → ℕ → List Bool
open_tiers free opened = map (has_tier opened) (range_with_len 0 free)

-- the phases of so many stretch implications
abbrev pub phases : ℕ → Kind → List Phase
phases stretches kind = map (phase_at kind) (range_with_len 0 stretches)

-- what the bits of a kind say about so many free tiers and so many stretch implications
abbrev pub prefix_kind : ℕ → ℕ → Kind → PrefixKind
prefix_kind free stretches kind = record {
  place = kind.place;
  opened = open_tiers free kind.opened;
  phases = phases stretches kind;
}
