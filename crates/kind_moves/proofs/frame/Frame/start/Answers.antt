use Rattle.std.proofs.Common.{refl}
use Rattle.kind_moves.proofs.LawSteps.{is_start}
use Rattle.kind_moves.proofs.frame.Frame.start.Goals as goal

pub returns : goal.returns
returns c stage = is_start c.args.self.now stage _ refl refl refl refl
