-- The columns of a class, listed.
use Rattle.std.proofs.Common.{◌≡◌, ◌&&◌, true, ℕ, List, [], ◌∷◌, map, filter, refl, ap, ◌∙◌, Contains, IsTrue}
use Rattle.std.proofs.lemmas.Bool.{false≢true, and_parts}
use Rattle.tier_core.specs.{declared.class.Class.Class, declared.sym.Sym.Sym}
use Rattle.tier_core.specs.declared.sym.Sym.TheVariants.{Outside, Inside, Start, End, Both}
use Rattle.tier_core.specs.{Classes.{sets_of, sets_have, has}, Sets.is_in}
use Rattle.violation.specs.Counts.{choices}
use Rattle.ranked_gen.proofs.ChoiceLemmas.{IsChoice, choices_have, choice_in}
use Rattle.tier_core.proofs.Members.{contains_first, contains_later, contains_kept, contains_of_kept}

abbrev every : List Sym
every = Outside ∷ Inside ∷ Start ∷ End ∷ Both ∷ []

-- the symbols of a set
abbrev symbols_in : ℕ → List Sym
symbols_in set = filter (is_in set) every

-- the columns of a class
abbrev pub columns_in : Class → List (List Sym)
columns_in class = choices (map symbols_in (sets_of class))

any_symbol : (s : Sym) → Contains every s
any_symbol Outside = contains_first Outside (Inside ∷ Start ∷ End ∷ Both ∷ [])
any_symbol Inside = contains_later Outside (Inside ∷ Start ∷ End ∷ Both ∷ []) Inside
    (contains_first Inside (Start ∷ End ∷ Both ∷ []))
any_symbol Start = contains_later Outside (Inside ∷ Start ∷ End ∷ Both ∷ []) Start
    (contains_later Inside (Start ∷ End ∷ Both ∷ []) Start (contains_first Start (End ∷ Both ∷ [])))
any_symbol End = contains_later Outside (Inside ∷ Start ∷ End ∷ Both ∷ []) End
    (contains_later Inside (Start ∷ End ∷ Both ∷ []) End
    (contains_later Start (End ∷ Both ∷ []) End (contains_first End (Both ∷ []))))
any_symbol Both = contains_later Outside (Inside ∷ Start ∷ End ∷ Both ∷ []) Both
    (contains_later Inside (Start ∷ End ∷ Both ∷ []) Both
    (contains_later Start (End ∷ Both ∷ []) Both (contains_later End (Both ∷ []) Both (contains_first Both []))))

choice_of_sets : (sets : List ℕ) (column : List Sym) → sets_have sets column ≡ true
    → IsChoice (map symbols_in sets) column
choice_of_sets [] [] h = tt
choice_of_sets [] (s ∷ column) h = absurd (false≢true h)
choice_of_sets (set ∷ sets) [] h = absurd (false≢true h)
choice_of_sets (set ∷ sets) (s ∷ column) h =
    let parts = and_parts (is_in set s) (sets_have sets column) h in
    (contains_kept (is_in set) every s (any_symbol s) parts.0, choice_of_sets sets column parts.1)

sets_of_choice : (sets : List ℕ) (column : List Sym) → IsChoice (map symbols_in sets) column
    → sets_have sets column ≡ true
sets_of_choice [] [] h = refl
sets_of_choice [] (s ∷ column) h = absurd h
sets_of_choice (set ∷ sets) [] h = absurd h
sets_of_choice (set ∷ sets) (s ∷ column) h =
    ap (λ b. b && sets_have sets column) (contains_of_kept (is_in set) every s h.0).1
    ∙ sets_of_choice sets column h.1

pub in_columns : (class : Class) (column : List Sym) → IsTrue (has class column) → Contains (columns_in class) column
in_columns class column h = choices_have (map symbols_in (sets_of class)) column
    (choice_of_sets (sets_of class) column h)

pub of_columns : (class : Class) (column : List Sym) → Contains (columns_in class) column → IsTrue (has class column)
of_columns class column c = sets_of_choice (sets_of class) column
    (choice_in (map symbols_in (sets_of class)) column c)
