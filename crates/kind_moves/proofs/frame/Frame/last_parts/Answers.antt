use Rattle.std.proofs.Common.{◌≡◌, Bool, List, [], ◌∷◌, subst}
use Rattle.tier_core.specs.declared.class.Class.{Class}
use Rattle.symbol_class.specs.Parts.{differs, ArePartedBy}
use Rattle.symbol_class.proofs.PartSteps.{parted_then}
use Rattle.kind_moves.specs.{Frames.tiers_in, LastMoves.tested}
use Rattle.kind_moves.proofs.frame.Frame.last_parts.Goals as goal

both_same : (a b c d : Bool) → a ≡ b → c ≡ d → (let p : Bool × Bool = (a, c) in p) ≡ (b, d)
both_same a b c d p q = cc

pub returns : goal.returns
returns c =
    let tests = c.args.tests.now in
    let width = (tiers_in c.args.self.now).width in
    let moved = c.in_ok-moved.moved.items in
    let parts = c.in_ok-parts.parts.items in
    parted_then {Z = Bool × Bool} width (differs tests.met) (differs tests.cost) (tested tests)
    (c.args.class.now ∷ []) moved parts
    (λ x y _ _ p q. both_same (differs tests.met x) (differs tests.met y) (differs tests.cost x)
    (differs tests.cost y) p q)
    (subst (λ (xs : List Class). ArePartedBy width (differs tests.met) xs moved) c.in-Ok.ensures.items
    (subst (λ n. ArePartedBy n (differs tests.met) c.in-Ok.whole.items moved) c.requires.met c.in_ok-moved.ensures))
    (subst (λ n. ArePartedBy n (differs tests.cost) moved parts) c.requires.cost c.in_ok-parts.ensures)
