use Rattle.std.proofs.Common.{◌∙◌, ap, arith}
use Rattle.std.specs.Ordering.{nat_cmp}
use Rattle.tier_core.specs.Kinds.{phase_rank, phase_at}
use Rattle.tier_core.proofs.KindLemmas.{lowest, lowest_within, apart_phases, apart_few, phases_same, phases_first}
use Rattle.tier_core.proofs.kind_order.cmp_phases.Goals as goal

pub returns-then-apart-eq0 : goal.returns-then-apart-eq0
returns-then-apart-eq0 c = λ n k l. phases_same c.args.a.now c.args.b.now n c.if-apart-eq0.true

pub phase_rank-requires : goal.phase_rank-requires
phase_rank-requires c =
    lowest_within (apart_phases c.args.a.now c.args.b.now) c.if-apart-eq0.false
    (apart_few c.args.a.now c.args.b.now (omega arith) (omega arith) (omega arith) (omega arith))

pub phase_rank-requires-2 : goal.phase_rank-requires-2
phase_rank-requires-2 c =
    lowest_within (apart_phases c.args.a.now c.args.b.now) c.if-apart-eq0.false
    (apart_few c.args.a.now c.args.b.now (omega arith) (omega arith) (omega arith) (omega arith))

pub returns : goal.returns
returns c =
    λ n k l.
    let first = lowest (apart_phases c.args.a.now c.args.b.now) in
    c.cmp.ensures ∙ ap (λ r. nat_cmp r c.phase_rank-2.result) c.phase_rank.ensures
    ∙ ap (nat_cmp (phase_rank (phase_at c.args.a.now first))) c.phase_rank-2.ensures
    ∙ phases_first c.args.a.now c.args.b.now n c.if-apart-eq0.false
    (apart_few c.args.a.now c.args.b.now (omega arith) (omega arith) (omega arith) (omega arith)) k l
