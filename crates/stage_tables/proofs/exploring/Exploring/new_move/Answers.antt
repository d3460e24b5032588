use Rattle.std.proofs.{Common.{◌≡◌, refl, sym, ◌∙◌}, lemmas.Result.err_from_is_err_and}
use Rattle.stage_tables.proofs.Finding.{found_numbered, found_put, found_stays, targets_one}
use Rattle.stage_tables.proofs.Taking.{piece_stands, piece_reached, piece_weighs}
use Rattle.stage_tables.proofs.exploring.Exploring.new_move.Goals as goal

pub number_of-requires-clause-over_one : goal.number_of-requires-clause-over_one
number_of-requires-clause-over_one c k s at =
    let exploring = c.args.self.now in
    let found = c.requires.found.found in
    let piece = c.args.piece.now in
    let reached = piece_reached _ _ exploring.kept.now.targets _ _ _ c.requires.arc _ c.requires.piece
    (found.reached c.requires.over.0 c.args.kind.now c.args.state c.requires.over.1) in
    exploring.over_one piece.target piece.target s c.args.arc.now.target
    (found.reached k piece.target s at) reached refl

pub returns-in_err-target-clause-beyond : goal.returns-in_err-target-clause-beyond
returns-in_err-target-clause-beyond c =
    let p = err_from_is_err_and c.from_residual.result c.from_residual.ensures.1 in
    let exploring = c.args.self.now in
    let kept = exploring.kept.now.states.items in
    let found = c.requires.found.found in
    let arc = c.args.arc.now in
    let piece = c.args.piece.now in
    let new = c.number_of.new.listed in
    let stands = piece_stands exploring kept exploring.kept.now.targets c.args.kind.now c.args.state arc
    c.requires.arc piece c.requires.piece in
    let reached = piece_reached exploring kept exploring.kept.now.targets c.args.kind.now c.args.state arc
    c.requires.arc piece c.requires.piece
    (found.reached c.requires.over.0 c.args.kind.now c.args.state c.requires.over.1) in
    let said = c.in_err-target.ensures in
    let same : p.0 ≡ c.in_err-target.field-0.0 = p.2 in
    rw p.1 (λ over. record {
      found = found_put exploring.frame.now exploring.stage kept exploring.kept.now.targets
          c.args.listed.now.kinds.entries new.kinds.entries found (said.over_apart (sym same ∙ over)) piece.target
          arc.target (said.over_put (sym same ∙ over)) stands reached;
      more = said.over (sym same ∙ over);
    })

pub returns-clause-found : goal.returns-clause-found
returns-clause-found c =
    let exploring = c.args.self.now in
    let kept = exploring.kept.now.states.items in
    let found = c.requires.found.found in
    let arc = c.args.arc.now in
    let piece = c.args.piece.now in
    let new = c.number_of.new.listed in
    let said = c.in_ok-target.ensures in
    let stands = piece_stands _ _ exploring.kept.now.targets _ _ _ c.requires.arc _ c.requires.piece in
    let reached = piece_reached _ _ exploring.kept.now.targets _ _ _ c.requires.arc _ c.requires.piece
    (found.reached c.requires.over.0 c.args.kind.now c.args.state c.requires.over.1) in
    record {
      found = found_numbered _ _ _ exploring.kept.now.targets _ _ found said.apart _ _ _ said.numbered stands reached;
      few = said.few;
    }

pub returns-clause-stays : goal.returns-clause-stays
returns-clause-stays c =
    let exploring = c.args.self.now in
    found_stays _ _ _ exploring.kept.now.targets _ _ c.requires.found.found c.in_ok-target.ensures.apart _ _ _
    c.in_ok-target.ensures.numbered

pub returns-clause-targets : goal.returns-clause-targets
returns-clause-targets c = targets_one _ _ _ _ _ c.in_ok-target.ensures.numbered

pub returns-clause-taken : goal.returns-clause-taken
returns-clause-taken c =
    let piece = c.args.piece.now in
    record {
      next = piece.target;
      at = c.in_ok-target.ensures.numbered.at;
      within = c.requires.piece.within;
      moves = c.requires.piece.is.moves;
      weighs = piece_weighs _ _ _ c.requires.piece;
      alike = c.requires.piece.alike;
      filled = c.requires.piece.filled;
      wide = c.requires.piece.wide;
    }
