use Rattle.std.proofs.{Common.{◌≡◌, arith}, lemmas.List.get_or_read}
use Rattle.comprehend.specs.Searches.{no_distance}
use Rattle.first_paths.proofs.Reaching.{reaches_same}
use Rattle.comprehend.proofs.Reaching.{one_unknown}
use Rattle.comprehend.proofs.look.look.Goals as goal

pub returns : goal.returns
returns c =
    let left = c.args.left.now.items in
    let n = c.args.n in
    let cell = c.args.cell in
    let inside = c.requires.cell c.if-not-steps.false in
    rw c.in_ok-push.ensures.items (reaches_same (λ v. v ≡ cell) _ (λ v at. (c.if-not-steps.false, at))
    (λ v at. at.1) n left _ _ _ (one_unknown n left c.args.next.now.items cell c.requires.near
    (let read = get_or_read left cell c.index.result.now inside c.index.ensures no_distance in omega
    (arith, read, c.if-index-lt-FAR.false)) inside))
