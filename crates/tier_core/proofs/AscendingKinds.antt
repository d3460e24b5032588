-- Kinds that ascend differ, so they are no more than the names among which they are.
use Rattle.std.proofs.Common.{◌≡◌, ◌≢◌, ◌≤◌, List, [], ◌∷◌, length, ap, ◌∙◌, Contains}
use Rattle.std.specs.{List.Sorted.IsStrictlySortedBy, declared.cmp.Ordering.TheVariants.Less}
use Rattle.tier_core.specs.Kinds.{PrefixKind, kind_order}
use Rattle.tier_core.proofs.{KindTies.not_before_itself, Members.{all_from_members, all_at_member}}
use Rattle.tier_core.proofs.Differing.{Differ, no_longer}

pub ascending_differ : (ks : List PrefixKind) → IsStrictlySortedBy kind_order ks → Differ ks
unfolding IsStrictlySortedBy
ascending_differ [] a = tt
ascending_differ (k ∷ ks) a = (
  all_from_members (λ l. k ≢ l) ks
      (λ l m e. not_before_itself k (ap (kind_order k) e ∙ all_at_member (λ l. kind_order k l ≡ Less) ks l a.0 m)),
  ascending_differ ks a.1,
)

-- kinds that ascend are no more than the names among which they are
pub ascending_few : (ks names : List PrefixKind) → IsStrictlySortedBy kind_order ks
    → ((k : PrefixKind) → Contains ks k → Contains names k) → length ks ≤ length names
ascending_few ks names a inside = no_longer names ks inside (ascending_differ ks a)
