use Rattle.std.proofs.Common.{◌≢◌, ◌<◌, length, ap, ◌∙◌, sym, arith, below_more, get_or-set_same, get_or-set_other}
use Rattle.std.proofs.lemmas.List.{length-set}
use Rattle.weight_law.specs.{Ranked.ranked_of, RankedLaws.{part-greatest, sum_from_parts}}
use Rattle.weight_law.proofs.ranked.RankedWeight.plus.Goals as goal

pub overflow_add-parts : goal.overflow_add-parts
overflow_add-parts c =
    let left = part-greatest c.args.self.now.parts c.loop-i.i in
    let right = part-greatest c.args.other.now.parts c.loop-i.i in
    omega (arith, left, right, c.requires)

pub loop-i-preserved : goal.loop-i-preserved
loop-i-preserved c =
    let inv = c.loop-i.invariant in
    let inside : c.loop-i.i < length c.loop-i.parts = omega (arith, inv.own, c.loop-i-test.true) in
    record {
      own = length-set c.loop-i.parts c.loop-i.i _ ∙ inv.own;
      mine = inv.mine;
      others = inv.others;
      sums = below_more _ _
          (λ k h. let ne : k ≢ c.loop-i.i = omega arith in rw get_or-set_other (inv.sums k h))
          (rw get_or-set_same);
    }

pub returns : goal.returns
returns c =
    let inv = c.loop-i.invariant in
    ap ranked_of
    (sum_from_parts c.args.self.now.parts c.args.other.now.parts c.loop-i.parts
    (inv.mine ∙ sym inv.others) (inv.own ∙ sym inv.mine)
    (λ k l. inv.sums k (omega (arith, l, c.loop-i-test.false, inv.own))))
