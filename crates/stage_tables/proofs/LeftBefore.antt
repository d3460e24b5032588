-- The columns of a kept move, where the kept table is what the stage before has left.
use Rattle.std.proofs.Common.{◌≡◌, ℕ, ◌≤◌, List, sym, ◌∙◌, Contains, IsTrue}
use Rattle.weight_law.specs.{declared.Weight.Ghosts, declared.unit_weight.UnitWeight.UnitWeight}
use Rattle.tier_core.specs.{declared.kind.Kind.Kind, declared.sym.Sym.Sym, Classes.has, Filled.is_filled}
use Rattle.symbol_class.specs.Parts.{IsAlike}
use Rattle.arc_table.specs.{declared.arc.TableArc.TableArc, declared.state.TableState.TableState, Moves.moves_at}
use Rattle.violation.specs.{Moves.cut_kind, Problems.last_stage}
use Rattle.kind_moves.specs.{declared.frame.Frame.Frame, Frames.{problem_in, kind_at_stage, FitsAt}}
use Rattle.kind_moves.specs.LastMoves.{next_before}
use Rattle.kind_tables.specs.StageTables.{name_of}
use Rattle.kind_tables.proofs.Exploring.{fits_from_cut, cut_leads}
use Rattle.stage_tables.specs.{Kept.IsKeptTable, Listed.IsReached}
use Rattle.stage_tables.proofs.KeptTables.{cut_named}

module _ {g : Ghosts UnitWeight} (frame : Frame) (before stage : ℕ) (further : before ≤ stage)
    (within : stage ≤ last_stage (problem_in frame)) (kept : List (TableState UnitWeight g))
    (table : IsKeptTable (problem_in frame) before kept) (kind : Kind) (s : ℕ)
    (reached : IsReached frame stage kept kind s) (arc : TableArc UnitWeight g)
    (here : Contains (moves_at kept s) arc) where
  cut : cut_kind (problem_in frame) before (kind_at_stage frame stage kind) ≡ name_of table.0 s
  cut = cut_named frame before stage further within kept table.0 table.1 kind s reached

  -- they fit a kind that leads to its state
  pub move_fits : (column : List Sym) → IsTrue (has arc.class column) → FitsAt frame stage kind column
  move_fits column held = fits_from_cut (problem_in frame) before stage further table.0 kept table.1.named
      (kind_at_stage frame stage kind) s arc column cut here held

  -- and lead to one kind of the stage before
  pub move_alike : IsAlike (next_before frame before stage kind) arc.class
  move_alike c d held_c held_d =
      cut_leads (problem_in frame) before stage further table.0 kept table.1.named
      (kind_at_stage frame stage kind) s arc c cut here held_c
      ∙ sym (cut_leads (problem_in frame) before stage further table.0 kept table.1.named
      (kind_at_stage frame stage kind) s arc d cut here held_d)

  pub move_filled : IsTrue (is_filled arc.class)
  move_filled = table.1.named.filled s arc here
