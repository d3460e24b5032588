use Rattle.std.proofs.Common.{refl}
use Rattle.stage_tables.proofs.WholeTables.{put_first}
use Rattle.stage_tables.proofs.whole.every_move.Goals as goal

pub returns : goal.returns
returns c = (
  _,
  put_first _ _ _ c.new-moves.ensures.items c.in_ok-push.ensures.items,
  record { target = refl; wide = c.every_column.ensures.width; every = c.every_column.ensures.columns },
)
