use Rattle.std.proofs.Common.{◌+◌, ◌&&◌, true, false, not, All, List, [], refl, sym, ◌∙◌, subst, arith}
use Rattle.std.proofs.{lemmas.Bool.{and_parts, not-true}, lemmas.List.Elements.All-nil}
use Rattle.tier_core.specs.{Classes.has, Timelines.has_edge}
use Rattle.symbol_class.specs.Held.{once_if}
use Rattle.violation.specs.Moves.{input_of}
use Rattle.kind_moves.specs.{declared.piece.Piece.Piece, Fitting.AreFitting, Frames.tiers_in, Leaving.AddsLeaving}
use Rattle.kind_moves.specs.Pieces.{piece_classes, IsPiece}
use Rattle.kind_moves.proofs.FittingSteps.{IsParted, still_by, bare_by, still_fits, read_here, read_fits}
use Rattle.kind_moves.proofs.{FittingSteps.are_fitting, LeavingPieces.{classes_added, leaving_pieces}}
use Rattle.kind_moves.proofs.frame.Frame.all_moves.Goals.{In_ok-push_leaving-2}
use Rattle.kind_moves.proofs.frame.Frame.all_moves.Goals as goal

first : (c : In_ok-push_leaving-2) → AddsLeaving c.args.self.now c.args.kind.now.place []
    c.push_leaving.new.pieces.items (λ column. once_if (has c.without_input-still.result column
    && not (has c.edgeless.result column)))
first c = subst (λ (ps : List Piece). AddsLeaving c.args.self.now c.args.kind.now.place ps
    c.push_leaving.new.pieces.items (λ column. once_if (has c.without_input-still.result column
    && not (has c.edgeless.result column)))) c.new-pieces.ensures.items c.in_ok-push_leaving.ensures

parted : (c : In_ok-push_leaving-2) → IsParted c.args.self.now c.args.kind.now c.args.class.now
    c.following-following.result c.without_input-still.result c.edgeless.result c.open_at.result
    (has c.reading-read.result)
parted c =
    let frame = c.args.self.now in
    let class = c.args.class.now in
    let still = c.without_input-still.result in
    let wide = c.without_input-still.ensures.width ∙ c.following-following.ensures.width in
    record {
      wide = c.requires.width;
      opened = c.open_at.ensures;
      follows = c.following-following.ensures.columns;
      has_still = still_by frame c.following-following.result still _ c.as_slice.ensures.value
          c.without_input-still.ensures.columns;
      has_bare = bare_by class still c.edgeless.result wide c.edgeless.ensures.columns;
      has_read = c.reading-read.ensures.columns;
    }

fitting : (c : In_ok-push_leaving-2) → AreFitting c.args.self.now 0 c.args.kind.now c.args.class.now
    (piece_classes c.push_leaving-2.new.pieces.items)
fitting c =
    let frame = c.args.self.now in
    let kind = c.args.kind.now in
    let still = c.without_input-still.result in
    let bare = c.edgeless.result in
    let read = c.reading-read.result in
    let mid = c.push_leaving.new.pieces.items in
    let new = c.push_leaving-2.new.pieces.items in
    are_fitting (parted c) (tiers_in frame).width (piece_classes mid) (piece_classes new) refl
    (tiers_in frame).width refl
    (classes_added frame kind.place [] mid (λ column. once_if (has still column && not (has bare column))) (first c))
    (classes_added frame (kind.place + 1) mid new (λ column. once_if (has read column && not (has still column)))
    c.in_ok-push_leaving-2.ensures)
    0

pub returns-clause-pieces : goal.returns-clause-pieces
returns-clause-pieces c = (fitting c).pieces

pub returns-clause-columns : goal.returns-clause-columns
returns-clause-columns c = (fitting c).columns

pub returns-clause-each : goal.returns-clause-each
returns-clause-each c =
    let frame = c.args.self.now in
    let kind = c.args.kind.now in
    let following = c.following-following.result in
    let still = c.without_input-still.result in
    let bare = c.edgeless.result in
    let read = c.reading-read.result in
    let mid = c.push_leaving.new.pieces.items in
    let new = c.push_leaving-2.new.pieces.items in
    let nothing_first : All (IsPiece frame 0 0 kind) [] = All-nil (IsPiece frame 0 0 kind) in
    leaving_pieces frame kind (kind.place + 1) true mid new (λ column. has read column && not (has still column))
    c.requires.fits refl
    (λ column h. (
      (read_fits (parted c) 0 column h).1,
      read_here (parted c) column ((c.reading-read.ensures.columns column).0
          (and_parts (has read column) (not (has still column)) h).0).0 h,
    ))
    c.in_ok-push_leaving-2.ensures
    (leaving_pieces frame kind kind.place false [] mid (λ column. has still column && not (has bare column))
    c.requires.fits (omega arith)
    (λ column h. (
      (still_fits (parted c) 0 column h).1,
      not-true (has_edge (input_of (tiers_in frame) column)) (and_parts (has following column)
          (not (has_edge (input_of (tiers_in frame) column))) (sym ((parted c).has_still column)
          ∙ (and_parts (has still column) (not (has bare column)) h).0)).1,
    ))
    (first c) nothing_first)
