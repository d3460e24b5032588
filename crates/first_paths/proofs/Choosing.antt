-- Of moves that lead nearer to the end, one with the least column.
use Rattle.std.proofs.Common.{◌≡◌, ℕ, ◌+◌, ◌<◌, ◌≤◌, false, List, Option, None, Some, length, get_or, sym, ap, ◌∙◌}
use Rattle.std.proofs.{Common.{subst, arith, ◌⊎◌, inl, inr}, lemmas.{Bool.cases_lt, List.get_or_read}}
use Rattle.std.specs.{Prelude.{Contains, IsTrue, MatchOption, ⊤}, Ordering.is_gt}
use Rattle.weight_law.specs.{declared.Weight.Ghosts, declared.count.Count.Count}
use Rattle.tier_core.specs.{declared.sym.Sym.Sym, Classes.has, Orders.column_cmp, FirstColumn.first_column}
use Rattle.tier_core.proofs.Filled.{has-first_column, first_column_least}
use Rattle.arc_table.specs.{declared.arc.TableArc.TableArc, declared.state.TableState.TableState, Moves.moves_at}
use Rattle.arc_table.specs.{Conditions.ClassesFilled}
use Rattle.first_paths.specs.{declared.choice.Choice.{Choice}, Search.{HasStep, IsLeastStep}}
use Rattle.first_paths.specs.Counted.{Goes, IsLeft, HasLeft, IsChoiceOf, IsLeastBelow, IsLeastChoice}
use Rattle.first_paths.proofs.Order.{column_upto}

module _ {V : Type 0} {h : Ghosts V} where
  -- the best choice of the first moves, if any of them has n left
  abbrev pub IsBestBelow : List (Option Count) → ℕ → List (TableArc V h) → ℕ → Option Choice → Type 0
  IsBestBelow left n arcs i None = (j : ℕ) (d : TableArc V h) → j < i → HasLeft left n (get_or arcs j d) → ⊥
  IsBestBelow left n arcs i (Some b) = IsLeastBelow left n arcs i b.column b.target

  pub best-skip : (left : List (Option Count)) (n : ℕ) (arcs : List (TableArc V h)) (i : ℕ) (arc : TableArc V h)
      → i < length arcs → arc ≡ get_or arcs i arc → (HasLeft left n arc → ⊥) → (best : Option Choice)
      → IsBestBelow left n arcs i best → IsBestBelow left n arcs (i + 1) best
  best-skip left n arcs i arc inside read not best old = go best old
    where
      never : (j : ℕ) (d : TableArc V h) → i ≤ j → j < i + 1 → HasLeft left n (get_or arcs j d) → ⊥
      never j d low high has =
          let at : j ≡ i = omega arith in
          let same : get_or arcs j d ≡ arc = ap (λ k. get_or arcs k d) at
          ∙ sym (get_or_read arcs i arc inside read d) in
          let P : TableArc V h → Type 0 = HasLeft left n in
          not (subst P same has)

      go : (best : Option Choice) → IsBestBelow left n arcs i best → IsBestBelow left n arcs (i + 1) best
      go None old = λ j d l has. elim
          (cases_lt j i) [ inl lower ↦ old j d lower has | inr upper ↦ never j d upper l has ]
      go (Some b) old = (
        old.0,
        old.1,
        old.2,
        old.3,
        λ j d l has. elim (cases_lt j i) [
          | inl lower ↦ old.4 j d lower has
          | inr upper ↦ absurd
              (never j d upper l has)
        ],
      )

  pub best-take : (left : List (Option Count)) (n : ℕ) (arcs : List (TableArc V h)) (i : ℕ) (arc : TableArc V h)
      → i < length arcs → arc ≡ get_or arcs i arc → HasLeft left n arc → (best : Option Choice) (choice : Choice)
      → IsBestBelow left n arcs i best → IsChoiceOf arc choice.column choice.target ⊎ (best ≡ Some choice)
      → is_gt (column_cmp choice.column (first_column arc.class)) ≡ false
      → MatchOption best ⊤ (λ other. is_gt (column_cmp choice.column other.column) ≡ false)
      → IsLeastBelow left n arcs (i + 1) choice.column choice.target
  best-take left n arcs i arc inside read has best choice old of first least = go best old of least
    where
      here : (j : ℕ) (d : TableArc V h) → i ≤ j → j < i + 1
          → is_gt (column_cmp choice.column (first_column (get_or arcs j d).class)) ≡ false
      here j d low high =
          let at : j ≡ i = omega arith in
          let same : get_or arcs j d ≡ arc = ap (λ k. get_or arcs k d) at
          ∙ sym (get_or_read arcs i arc inside read d) in
          let P : TableArc V h → Type 0 = λ a. is_gt (column_cmp choice.column (first_column a.class)) ≡ false in
          subst P (sym same) first

      below : (best : Option Choice) → IsBestBelow left n arcs i best
          → MatchOption best ⊤ (λ other. is_gt (column_cmp choice.column other.column) ≡ false)
          → (j : ℕ) (d : TableArc V h) → j < i → HasLeft left n (get_or arcs j d)
          → is_gt (column_cmp choice.column (first_column (get_or arcs j d).class)) ≡ false
      below None old least j d l left_j = absurd (old j d l left_j)
      below (Some b) old least j d l left_j = column_upto choice.column b.column
          (first_column (get_or arcs j d).class) least (old.4 j d l left_j)

      each : (best : Option Choice) → IsBestBelow left n arcs i best
          → MatchOption best ⊤ (λ other. is_gt (column_cmp choice.column other.column) ≡ false)
          → (j : ℕ) (d : TableArc V h) → j < i + 1 → HasLeft left n (get_or arcs j d)
          → is_gt (column_cmp choice.column (first_column (get_or arcs j d).class)) ≡ false
      each best old least j d l left_j = elim
          (cases_lt j i) [ inl lower ↦ below best old least j d lower left_j | inr upper ↦ here j d upper l ]

      go : (best : Option Choice) → IsBestBelow left n arcs i best
          → IsChoiceOf arc choice.column choice.target ⊎ (best ≡ Some choice)
          → MatchOption best ⊤ (λ other. is_gt (column_cmp choice.column other.column) ≡ false)
          → IsLeastBelow left n arcs (i + 1) choice.column choice.target
      go best old (inl mine) least = (arc, (i, inside, sym read), has, mine, each best old least)
      go best old (inr same) least =
          (let P : Option Choice → Type 0 = IsBestBelow left n arcs i in
          let kept : IsLeastBelow left n arcs i choice.column choice.target = subst P same old in
          (kept.0, kept.1, kept.2, kept.3, each best old least))

  module _ (states : List (TableState V h)) (filled : ClassesFilled states) (left : List (Option Count)) (s n : ℕ) where
    -- where a step leads nearer, so does a move
    pub choice_exists : HasStep (Goes states) (IsLeft left) s n
        → (arc : TableArc V h) × Contains (moves_at states s) arc × HasLeft left n arc
    choice_exists some =
        let goes = some.2.0 in
        let P : ℕ → Type 0 = λ t. IsLeft left t n in
        (goes.0, goes.1, subst P (sym goes.3) some.2.1)

    -- the least choice among the moves is one among the steps
    pub least_step : (column : List Sym) (target : ℕ) → IsLeastChoice left n (moves_at states s) column target
        → IsLeastStep (Goes states) (IsLeft left) s n column target
    least_step column target choice = record {
      steps = (choice.0, choice.1, holds, sym choice.3.1);
      nearer = (let P : ℕ → Type 0 = λ t. IsLeft left t n in subst P (sym choice.3.1) choice.2);
      least = least;
    }
      where
        holds : IsTrue (has choice.0.class column)
        holds = (let P : List Sym → Type 0 = λ c. IsTrue (has choice.0.class c) in subst P (sym choice.3.0)
            (has-first_column choice.0.class (filled s choice.0 choice.1)))

        least : (other : List Sym) (t : ℕ) → Goes states s other t → IsLeft left t n
            → is_gt (column_cmp column other) ≡ false
        least other t goes near =
            let place = goes.1 in
            let P : TableArc V h → Type 0 = λ x. HasLeft left n x in
            let Q : TableArc V h → Type 0 = λ x. is_gt (column_cmp column (first_column x.class)) ≡ false in
            let R : ℕ → Type 0 = λ x. IsLeft left x n in
            column_upto column (first_column goes.0.class) other
            (subst Q place.2 (choice.4 place.0 goes.0 place.1 (subst P (sym place.2) (subst R (sym goes.3) near))))
            (first_column_least goes.0.class other goes.2)
