use Rattle.std.proofs.{Common.{◌+◌, ◌-◌, refl, length, drop, take, sym, arith}, lemmas.List.{length-take, take_rest}}
use Rattle.tableau.proofs.LineCuts.{cut_at, cut_none}
use Rattle.tableau.proofs.line.cut_line.Goals as goal

pub returns-in-Some-clause-cut : goal.returns-in-Some-clause-cut
returns-in-Some-clause-cut c = cut_at c.args.bytes.now
    (take c.in-Some.end c.args.bytes.now) _ c.without_return.result.now c.in-Some.end (sym c.in-Some.ensures) refl
    (take_rest c.args.bytes.now (c.in-Some.end + 1)) c.without_return.ensures

pub returns-in-None-clause-cut : goal.returns-in-None-clause-cut
returns-in-None-clause-cut c = cut_none c.args.bytes.now
    (take (length c.args.bytes.now - length c.args.bytes.now)
    (drop (length c.args.bytes.now) c.args.bytes.now)) c.requires (sym c.in-None.ensures)
    (omega (
      arith,
      length-take (length c.args.bytes.now - length c.args.bytes.now)
          (drop (length c.args.bytes.now) c.args.bytes.now),
    ))
