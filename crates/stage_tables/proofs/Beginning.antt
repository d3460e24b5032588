-- The start is found, and no state is made.
use Rattle.std.proofs.Common.{◌≡◌, ℕ, ◌-◌, ◌<◌, List, [], ◌∷◌, ◌++◌, length, refl, ap, sym, ◌∙◌, subst, arith, inl}
use Rattle.std.proofs.{Common.inr, lemmas.List.length_push, lemmas.Option.slice_get_within}
use Rattle.std.specs.Prelude.{slice_get}
use Rattle.weight_law.specs.{declared.Weight.Ghosts, declared.count.Count.Count}
use Rattle.weight_law.specs.declared.unit_weight.UnitWeight.{UnitWeight}
use Rattle.tier_core.specs.declared.kind.Kind.{Kind}
use Rattle.arc_table.specs.declared.state.TableState.{TableState}
use Rattle.kind_moves.specs.{declared.frame.Frame.Frame, Frames.IsStart}
use Rattle.stage_tables.specs.Listed.{IsAt, AreApart, IsPutLast, IsNumbered, StandsOver, IsReached, AreFound}
use Rattle.stage_tables.specs.Listed.{AreTaken}
use Rattle.stage_tables.proofs.Listing.{at_cases}

pub none_apart : (entries : List (Kind × ℕ)) → entries ≡ [] → AreApart entries
none_apart entries none = rw none (λ i j x l m. absurd (omega (arith, m)))

-- what is put last where there is none stands alone
pub put_alone : (none entries : List (Kind × ℕ)) (first : Kind) (s : ℕ) → none ≡ []
    → IsPutLast none entries first s → entries ≡ (first, s) ∷ []
put_alone none entries first s empty put = put ∙ ap (λ xs. xs ++ (first, s) ∷ []) empty

pub numbered_alone : (none entries : List (Kind × ℕ)) (k : ℕ) (first : Kind) (s : ℕ) → none ≡ []
    → IsNumbered none entries k first s → entries ≡ (first, s) ∷ []
numbered_alone none entries k first s empty n = elim n.grows [
  | inl same ↦
      (let l = slice_get_within entries k (first, s) n.at in
      let long = ap (λ xs. length xs) (same ∙ empty) in
      absurd (omega arith))
  | inr put ↦ put_alone _ _ _ s empty put.0
]

-- the start alone is found
module _ {g : Ghosts UnitWeight} (frame : Frame) (stage : ℕ) (kept : List (TableState UnitWeight g))
    (some : 0 < length kept) where
  pub first_found : (entries : List (Kind × ℕ)) (first : Kind) → AreApart entries → entries ≡ (first, 0) ∷ []
      → IsStart frame stage first → AreFound frame stage kept entries
  first_found entries first apart alone starts = record {
    apart = apart;
    start = (first, ap (λ xs. slice_get xs 0) alone, starts);
    stands = λ k kind s at.
        (let is = only k _ s at in
        rw is.0 at (rw is.1 at stands));
    reached = λ k kind s at.
        (let is = only k _ s at in
        rw is.0 at (rw is.1 at reached));
  }
    where
      only : (k : ℕ) (kind : Kind) (s : ℕ) → IsAt entries k kind s → (first ≡ kind) × (0 ≡ s)
      only k kind s at = elim (at_cases [] _ 0 k _ s (ap (λ xs. slice_get xs k) (sym alone) ∙ at)) [
        | inl was ↦ absurd (omega (arith, slice_get_within [] k (kind, s) was))
        | inr is ↦ is
      ]

      stands : StandsOver frame stage (length kept) first 0
      stands = record { fits = starts.fits; within = some }

      reached : IsReached frame stage kept first 0
      reached = record { prefix = []; first = first; starts = starts; leads = refl; arcs = []; path = refl; reads = tt }

-- before any state is made
pub none_made : {g : Ghosts UnitWeight} {h : Ghosts Count} (frame : Frame) (first stage : ℕ)
    (kept : List (TableState UnitWeight g)) (entries : List (Kind × ℕ)) (states : List (TableState Count h))
    → length entries ≡ 1 → states ≡ [] → AreTaken frame first stage kept entries states
none_made {g} {h} frame first stage kept entries states one none = rw none (record {
  within = omega arith;
  reached = λ k low high. absurd (omega (arith, low, high));
  each = λ k kind s l at. absurd (omega (arith, l));
})

-- one more is nearer to the budget
pub one_more : {X : Type 0} (budget : ℕ) (xs : List X) (x : X) → length xs < budget
    → budget - length (xs ++ x ∷ []) < budget - length xs
one_more budget xs x l = omega (arith, length_push xs x)
