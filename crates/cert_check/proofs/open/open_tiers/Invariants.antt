use Rattle.std.proofs.Common.{◌≡◌, ℕ, ◌<◌, ◌≤◌, ◌^◌}
use Rattle.tier_core.specs.Tiers.{has_tier}
use Rattle.cert_check.specs.Opens.{is_open_by, inputs_before}
use Rattle.cert_check.proofs.open.open_tiers.Given as goal

abbrev pub invariant-loop-tier : goal.invariant-loop-tier
invariant-loop-tier l = record {
  within : l.open < 2 ^ l.tier;
  bits : (tier : ℕ) → tier < l.tier → has_tier l.open tier ≡ is_open_by l.kinds l.form l.kind.place l.kind.opened tier;
  inputs : l.inputs ≡ inputs_before l.kinds l.tier;
  few : l.inputs ≤ l.tier;
}
