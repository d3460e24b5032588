use Rattle.std.proofs.{Common.{ℕ, ◌<◌, ◌^◌, cond, ap, sym, ◌∙◌, arith, bit_xor, w16, Fits}, lemmas.Nat.xor_lt}
use Rattle.std.specs.declared.cmp.Ordering.TheVariants.{Less, Greater}
use Rattle.tier_core.proofs.KindLemmas.{lowest_within, opened_same, opened_first}
use Rattle.tier_core.proofs.kind_order.cmp_opened.Goals as goal

-- masks that differ do so in one of 32 bits
few : (a b : ℕ) → Fits w16 a → Fits w16 b → bit_xor a b < 2 ^ 32
few a b fa fb = xor_lt 32 a b (omega (arith, fa)) (omega (arith, fb))

pub returns-then-apart-eq0 : goal.returns-then-apart-eq0
returns-then-apart-eq0 c = λ free la lb. opened_same c.args.a c.args.b free c.if-apart-eq0.true

pub has_bit-requires : goal.has_bit-requires
has_bit-requires c = lowest_within (bit_xor c.args.a c.args.b) c.if-apart-eq0.false
    (few c.args.a c.args.b c.ranges.a c.ranges.b)

pub returns-then-has_bit : goal.returns-then-has_bit
returns-then-has_bit c =
    λ free la lb.
    ap (λ x. cond x Greater Less) (sym c.if-has_bit.true ∙ c.has_bit.ensures)
    ∙ opened_first c.args.a c.args.b free c.if-apart-eq0.false (few c.args.a c.args.b c.ranges.a c.ranges.b) la lb

pub returns-else-has_bit : goal.returns-else-has_bit
returns-else-has_bit c =
    λ free la lb.
    ap (λ x. cond x Greater Less) (sym c.if-has_bit.false ∙ c.has_bit.ensures)
    ∙ opened_first c.args.a c.args.b free c.if-apart-eq0.false (few c.args.a c.args.b c.ranges.a c.ranges.b) la lb
