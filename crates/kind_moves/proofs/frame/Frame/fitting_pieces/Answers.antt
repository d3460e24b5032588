use Rattle.std.proofs.Common.{◌≡◌, ◌&&◌, not, [], List, length, ◌∙◌, subst}
use Rattle.tier_core.specs.{declared.class.Class.Class, Classes.{sets_of, has}}
use Rattle.symbol_class.specs.Held.{once_if, AddsClasses}
use Rattle.kind_moves.specs.Frames.{tiers_in}
use Rattle.kind_moves.proofs.FittingSteps.{IsParted, still_by, bare_by, are_fitting, are_read_alike}
use Rattle.kind_moves.proofs.frame.Frame.fitting_pieces.Goals.{In_ok-push_rest-2}
use Rattle.kind_moves.proofs.frame.Frame.fitting_pieces.Goals as goal

same_width : (c : In_ok-push_rest-2) → length (sets_of c.without_input-still.result) ≡ length (sets_of c.args.class.now)
same_width c = c.without_input-still.ensures.width ∙ c.following-following.ensures.width

parted : (c : In_ok-push_rest-2) → IsParted c.args.self.now c.args.kind.now c.args.class.now
    c.following-following.result c.without_input-still.result c.edgeless.result c.open_at.result
    (has c.reading-read.result)
parted c = record {
  wide = c.requires.width;
  opened = c.open_at.ensures;
  follows = c.following-following.ensures.columns;
  has_still = still_by c.args.self.now c.following-following.result c.without_input-still.result _
      c.as_slice-kinds.ensures.value c.without_input-still.ensures.columns;
  has_bare = bare_by c.args.class.now c.without_input-still.result c.edgeless.result (same_width c)
      c.edgeless.ensures.columns;
  has_read = c.reading-read.ensures.columns;
}

first : (c : In_ok-push_rest-2) → AddsClasses (length (sets_of c.without_input-still.result)) []
    c.push_rest.new.pieces.items (λ column. once_if (has c.without_input-still.result column
    && not (has c.edgeless.result column)))
first c = subst (λ (xs : List Class). AddsClasses (length (sets_of c.without_input-still.result)) xs
    c.push_rest.new.pieces.items (λ column. once_if (has c.without_input-still.result column
    && not (has c.edgeless.result column)))) c.new-pieces.ensures.items c.in_ok-push_rest.ensures

read_width : (c : In_ok-push_rest-2) → length (sets_of c.reading-read.result) ≡ (tiers_in c.args.self.now).width
read_width c = c.reading-read.ensures.width ∙ c.following-following.ensures.width ∙ c.requires.width

pub returns-clause-fitting : goal.returns-clause-fitting
returns-clause-fitting c stage = are_fitting (parted c) (length (sets_of c.without_input-still.result))
    c.push_rest.new.pieces.items c.push_rest-2.new.pieces.items (same_width c ∙ c.requires.width)
    (length (sets_of c.reading-read.result)) (read_width c) (first c) c.in_ok-push_rest-2.ensures stage

pub returns-clause-read : goal.returns-clause-read
returns-clause-read c = are_read_alike (parted c) (length (sets_of c.without_input-still.result))
    c.push_rest.new.pieces.items c.push_rest-2.new.pieces.items (same_width c ∙ c.requires.width)
    (length (sets_of c.reading-read.result)) (read_width c) (first c) c.in_ok-push_rest-2.ensures
