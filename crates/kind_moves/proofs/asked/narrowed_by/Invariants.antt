use Rattle.std.proofs.Common.{◌≡◌, ◌&&◌, List, take, length}
use Rattle.tier_core.specs.{declared.sym.Sym.Sym, Classes.{sets_of, has}}
use Rattle.kind_moves.specs.Asks.{answers}
use Rattle.kind_moves.proofs.asked.narrowed_by.Given as goal

-- the columns that answer for the types so far
abbrev pub invariant-loop-event : goal.invariant-loop-event
invariant-loop-event l = record {
  width : length (sets_of l.rest) ≡ length (sets_of l.class);
  columns : (column : List Sym) → has l.rest column ≡ (has l.class column
      && answers l.ask (take l.event-index l.types) column);
}
