use Rattle.outside.proofs.Writing.{◌▹◌, cut, pushes_as, stop}
use Rattle.comprehend.proofs.HitLines.{hit_text_is}
use Rattle.comprehend.proofs.put.push_hit.Goals as goal

pub returns-in_err-push_entry_line : goal.returns-in_err-push_entry_line
returns-in_err-push_entry_line g c =
    stop c.from_residual.ensures.1
    (pushes_as
    (hit_text_is c.args.lexicon.now c.args.hit.now c.index-lexicon-hit.result c.requires
    c.index-lexicon-hit.is) (cut _ c.in_err-push_entry_line.ensures))

pub returns : goal.returns
returns g c =
    pushes_as
    (hit_text_is c.args.lexicon.now c.args.hit.now c.index-lexicon-hit.result c.requires
    c.index-lexicon-hit.is)
    (c.in_ok-push_entry_line.ensures ▹ c.push_example_line.ensures)
