-- Reading all tiers of a timeline at once.
use Rattle.std.proofs.Common.{◌≡◌, ℕ, ◌+◌, ◌<◌, ◌≤◌, Bool, true, false, not, ◌&&◌, List, ◌∷◌, length, get_or, take}
use Rattle.std.proofs.Common.{drop, sym, ap, ◌∙◌, subst, zero, suc, [], map, ⊎_elim}
use Rattle.std.proofs.lemmas.List.{drop_more, drop_all, take_all}
use Rattle.std.proofs.lemmas.Bool.{and_parts, false≢true, or_left, or_right, or_cases, not-true}
use Rattle.std.specs.List.{AllByRecursion, list_any}
use Rattle.tier_core.specs.{declared.sym.Sym.Sym, declared.sym.Sym.TheVariants.Outside}
use Rattle.tier_core.specs.{Timelines.{tier_word, symbol, IsWellFormed, is_edge, has_edge}, Scan.{fits, opens}}
use Rattle.tier_core.proofs.{WordLemmas.runs, WordForm.{runs_from_well_formed, well_formed_from_runs}}

-- where the rest of a tier reads well, its next symbol fits
pub fits_next : (T : List (List Sym)) (k t : ℕ) (b : Bool) (column : List Sym) → k < length T
    → column ≡ get_or T k column
    → runs b (tier_word (drop k T) t) ≡ true → fits b (get_or column t Outside) ≡ true
fits_next T k t b column l e r =
    let split : tier_word (drop k T) t ≡ get_or column t Outside ∷ tier_word (drop (k + 1) T) t =
    ap (λ U. tier_word U t) (drop_more T k column l) ∙ ap (λ c. symbol c t ∷ tier_word (drop (k + 1) T) t) (sym e) in
    let read : (fits b (get_or column t Outside) && runs (opens (get_or column t Outside))
    (tier_word (drop (k + 1) T) t))
    ≡ true =
    subst (λ w. runs b w ≡ true) split r in
    (and_parts _ _ read).0

-- at the end, the timeline is well formed exactly where each tier is closed
pub well_formed_at_end : (width k : ℕ) (T : List (List Sym)) (held : List Bool) → length T ≤ k
    → AllByRecursion (λ column. length column ≡ width) (take k T)
    → ((t : ℕ) → t < width → runs false (tier_word T t) ≡ runs (get_or held t false) (tier_word (drop k T) t))
    → ((t : ℕ) → t < width → get_or held t false ≡ false) → IsWellFormed width T
well_formed_at_end width k T held l one rest closed = record {
  one_width = subst (AllByRecursion (λ column. length column ≡ width)) (take_all k T l) one;
  each_tier = λ t g.
      let end : runs (get_or held t false) (tier_word (drop k T) t)
      ≡ not (get_or held t false) = ap (λ U. runs (get_or held t false) (tier_word U t)) (drop_all k T l) in
      well_formed_from_runs (tier_word T t) (rest t g ∙ end ∙ ap not (closed t g));
}

pub closed_at_end : (width k t : ℕ) (T : List (List Sym)) (held : List Bool) → length T ≤ k → t < width
    → runs false (tier_word T t) ≡ runs (get_or held t false) (tier_word (drop k T) t)
    → IsWellFormed width T → get_or held t false ≡ false
closed_at_end width k t T held l g rest wf =
    let end : runs (get_or held t false) (tier_word (drop k T) t)
    ≡ not (get_or held t false) = ap (λ U. runs (get_or held t false) (tier_word U t)) (drop_all k T l) in
    not-true (get_or held t false) (sym (rest ∙ end) ∙ runs_from_well_formed (tier_word T t) (wf.each_tier t g))

-- a column has an edge where one of its symbols is one
-- an edge anywhere is an edge of the column
pub edge_at : (column : List Sym) (t : ℕ) → is_edge (symbol column t) ≡ true → has_edge column ≡ true
edge_at [] t h = absurd (false≢true h)
edge_at (s ∷ ss) zero h = or_left (is_edge s) (list_any is_edge ss) h
edge_at (s ∷ ss) (suc t) h = or_right (is_edge s) (list_any is_edge ss) (edge_at ss t h)

pub edge_of_part : (inputs : List ℕ) (column : List Sym) → has_edge (map (symbol column) inputs) ≡ true
    → has_edge column ≡ true
edge_of_part [] column h = absurd (false≢true h)
edge_of_part (x ∷ xs) column h =
    ⊎_elim (λ a. edge_at column x a) (λ a. edge_of_part xs column a)
    (or_cases (is_edge (symbol column x)) (has_edge (map (symbol column) xs)) h)
