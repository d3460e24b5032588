use Rattle.std.proofs.{Common.{◌≡◌, ◌<◌, length, get_or, ◌∙◌, arith}, lemmas.List.get_or_default}
use Rattle.kind_moves.proofs.StretchCounts.{count_at, length-counts}
use Rattle.kind_moves.proofs.frame.Frame.stretch_count.Goals as goal

pub index-requires : goal.index-requires
index-requires c = omega (arith, length-counts c.args.self.now, c.requires)

pub returns-clause-value : goal.returns-clause-value
returns-clause-value c =
    let frame = c.args.self.now in
    let counts = frame.shape.phases.items in
    let inside : c.args.stage < length counts = omega (arith, length-counts frame, c.requires) in
    c.index.ensures ∙ get_or_default counts c.args.stage c.index.result.now 0 inside
    ∙ count_at frame c.args.stage c.requires

pub returns-clause-few : goal.returns-clause-few
returns-clause-few c =
    let frame = c.args.self.now in
    let counts = frame.shape.phases.items in
    let inside : c.args.stage < length counts = omega (arith, length-counts frame, c.requires) in
    let is : c.index.result.now ≡ get_or counts c.args.stage 0 =
    c.index.ensures ∙ get_or_default counts c.args.stage c.index.result.now 0 inside in
    omega (arith, is, frame.shape.rising.most c.args.stage inside)
