-- What columns answer, in the words that tell what a constraint counts.
use Rattle.std.proofs.Common.{◌≡◌, Bool, true, not, ◌&&◌, List, [], ◌∷◌, ◌++◌, refl, ap, sym, ◌∙◌}
use Rattle.std.proofs.lemmas.List.Folds.{list_all-append}
use Rattle.std.specs.List.{list_all, list_any}
use Rattle.tier_core.specs.{declared.sym.Sym.Sym, declared.event.Event.Event, Timelines.{symbol, is_edge}}
use Rattle.tier_core.specs.Sides.{edge_among}
use Rattle.tier_core.proofs.Bools.{not_not, none_of}
use Rattle.violation.specs.Columns.{is_present}
use Rattle.kind_moves.specs.{declared.ask.Ask.TheVariants.{Present, Absent, NoEdge}, Asks.answers}

pub none_pass : {X : Type 0} (p : X → Bool) (xs : List X) → list_all (λ x. not (p x)) xs ≡ not (list_any p xs)
none_pass p [] = refl
none_pass p (x ∷ xs) = ap (λ b. not (p x) && b) (none_pass p xs) ∙ none_of (p x) (list_any p xs)

some_edge : (types : List Event) (column : List Sym) → not (answers NoEdge types column) ≡ edge_among types column
some_edge types column =
    ap not (none_pass (λ e. is_edge (symbol column e.tier)) types) ∙ not_not (edge_among types column)

-- a class that has what is asked of two sides has every column of some class; so it is not asked of some column
pub is_ended : (has_left has_both whole : Bool) (left right : List Event) (column : List Sym) → whole ≡ true
    → has_left ≡ (whole && answers NoEdge left column) → has_both ≡ (has_left && answers NoEdge right column)
    → not has_both ≡ edge_among (left ++ right) column
is_ended has_left has_both whole left right column all a b =
    ap not (b ∙ ap (λ x. x && answers NoEdge right column) (a ∙ ap (λ x. x && answers NoEdge left column) all)
    ∙ sym (list_all-append (λ e. not (is_edge (symbol column e.tier))) left right))
    ∙ some_edge (left ++ right) column

pub is_left_ended : (has_left whole : Bool) (left : List Event) (column : List Sym) → whole ≡ true
    → has_left ≡ (whole && answers NoEdge left column) → not has_left ≡ edge_among left column
is_left_ended has_left whole left column all a = ap not (a ∙ ap (λ x. x && answers NoEdge left column) all)
    ∙ some_edge left column

pub are_missing : (has_left has_both whole : Bool) (left right : List Event) (column : List Sym) → whole ≡ true
    → has_left ≡ (whole && answers Present left column) → has_both ≡ (has_left && answers Absent right column)
    → has_both ≡ (list_all (is_present column) left && not (list_any (is_present column) right))
are_missing has_left has_both whole left right column all a b =
    b ∙ ap (λ x. x && answers Absent right column) (a ∙ ap (λ x. x && answers Present left column) all)
    ∙ ap (λ x. answers Present left column && x) (none_pass (is_present column) right)
