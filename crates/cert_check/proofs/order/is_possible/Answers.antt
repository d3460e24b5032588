use Rattle.std.proofs.Common.{◌≡◌, ℕ, ◌≤◌, ◌<◌, length, arith}
use Rattle.tier_core.specs.{Tiers.has_tier}
use Rattle.cert_check.specs.{Opens.{is_open_by}}
use Rattle.cert_check.proofs.Subjects.{form_wide, possible_by_mask}
use Rattle.cert_check.proofs.order.is_possible.Goals as goal

pub open_tiers-mask-requires-clause-wide : goal.open_tiers-mask-requires-clause-wide
open_tiers-mask-requires-clause-wide c = rw c.as_slice.ensures.value (form_wide _ c.requires.ready _ c.requires.stage)

pub returns : goal.returns
returns c =
    let s = c.args.subject.now in
    let kind = c.args.kind.now in
    let place : kind.place ≤ length s.answer.now.form = omega (arith, c.if-kind-len.false, c.len.ensures) in
    let told : (t : ℕ) → t < length s.grammar.now.tiers.kinds.items
    → has_tier c.open_tiers-mask.result t
    ≡ is_open_by s.grammar.now.tiers.kinds.items s.answer.now.form kind.place kind.opened t =
    rw c.as_slice.ensures.value at c.open_tiers-mask.ensures in
    let p = possible_by_mask s c.requires.ready _ c.requires.stage kind place _ told in
    let own = rw c.as_slice-2.ensures.value at c.are_phases_right.ensures in
    (λ h. p.0 (own.0 h), λ q. own.1 (p.1 q))
