-- A table as a graph whose steps read columns.
use Rattle.std.proofs.Common.{◌≡◌, ℕ, ◌+◌, ◌<◌, ◌≤◌, false, List, [], ◌∷◌, Option, length, get_or, map, refl, sym, ap, ◌∙◌}
use Rattle.std.proofs.{Common.{subst, arith, inl, inr}, lemmas.Bool.{false≢true, cases_lt, cases_eq}}
use Rattle.std.proofs.lemmas.List.{get_or_past, length-map, Elements.Contains-get_or}
use Rattle.std.specs.Prelude.{Contains, All}
use Rattle.weight_law.specs.{declared.Weight.Ghosts, declared.count.Count.Count}
use Rattle.tier_core.specs.{declared.sym.Sym.Sym, FirstColumn.first_column, Orders.IsFirst}
use Rattle.tier_core.proofs.Filled.{has-first_column}
use Rattle.arc_table.specs.{declared.arc.TableArc.TableArc, declared.state.TableState.TableState}
use Rattle.arc_table.specs.{declared.incoming_move.IncomingMove.IncomingMove, declared.incoming.Incoming.Incoming}
use Rattle.arc_table.specs.{Moves.{moves_at, accepting_at}, Conditions.{ClassesDisjoint, ClassesFilled}}
use Rattle.arc_table.specs.{Runs.{IsRun, Reads, Accepts}, Incoming.{AreReverseMoves}}
use Rattle.arc_table.proofs.{Push.moves_exist, OneRun.same_move}
use Rattle.first_paths.specs.Search.{ReadsFrom, IsPredecessor}
use Rattle.first_paths.specs.Counted.{Goes, IsEnd, IsBefore, Reaches, IsSearched}
use Rattle.first_paths.proofs.{Reaching.{reaches_same, reaches_both}, Counts.known_inside}

module _ {V : Type 0} {h : Ghosts V} (states : List (TableState V h)) where
  -- the words that are read from a state are those of runs from it
  pub some_run : (s : ℕ) (word : List (List Sym)) → ReadsFrom (Goes states) (IsEnd states) s word
      → (arcs : List (TableArc V h)) × (IsRun states s arcs × Reads arcs word)
  some_run s [] end = ([], (end, tt))
  some_run s (column ∷ word) way =
      let goes = way.1.0 in
      let rest = some_run way.0 word way.1.1 in
      let P : ℕ → Type 0 = λ t. IsRun states t rest.0 in
      (goes.0 ∷ rest.0, ((goes.1, subst P (sym goes.3) rest.1.0), (goes.2, rest.1.1)))

  pub run_reads : (s : ℕ) (arcs : List (TableArc V h)) (word : List (List Sym)) → IsRun states s arcs → Reads arcs word
      → ReadsFrom (Goes states) (IsEnd states) s word
  run_reads s [] [] run reads = run
  run_reads s [] (column ∷ word) run reads = absurd reads
  run_reads s (arc ∷ arcs) [] run reads = absurd reads
  run_reads s (arc ∷ arcs) (column ∷ word) run reads =
      (arc.target, ((arc, run.0, reads.0, refl), run_reads arc.target arcs word run.1 reads.1))

  pub first_accepted : (word : List (List Sym)) → IsFirst (ReadsFrom (Goes states) (IsEnd states) 0) word
      → IsFirst (Accepts states) word
  first_accepted word first =
      let run = some_run 0 word first.member in record {
        member = (run.0, record { run = run.1.0; reads = run.1.1 });
        least = λ other a. first.least other (run_reads 0 a.0 other a.1.run a.1.reads);
      }

  -- a column leads to one state
  pub one_target : ClassesDisjoint states → (s t u : ℕ) (column : List Sym) → Goes states s column t
      → Goes states s column u → t ≡ u
  one_target disjoint s t u column a b =
      let one = same_move (moves_at states s) (disjoint s) a.0 b.0 column a.1 b.1 a.2 b.2 in
      sym a.3 ∙ ap (λ (x : TableArc V h). x.target) one ∙ b.3

  end_inside : (s : ℕ) → IsEnd states s → s < length states
  end_inside s end = elim (cases_lt s (length states)) [
    | inl l ↦ l
    | inr l ↦ absurd (false≢true (sym (get_or_past (map (λ (x : TableState V h). x.accepting) states) s false
        (omega (arith, l, length-map states (λ (x : TableState V h). x.accepting)))) ∙ end))
  ]

  -- the accepting ones of the first k states
  pub record IsEndBelow (k q : ℕ) : Type 0 where
    pub below : q < k
    pub end : IsEnd states q

  pub end_skip : (k : ℕ) → accepting_at states k ≡ false → (old new : List (Option Count)) (before after : List ℕ)
      → Reaches (IsEndBelow k) 0 old new before after → Reaches (IsEndBelow (k + 1)) 0 old new before after
  end_skip k not = reaches_same (IsEndBelow k) (IsEndBelow (k + 1))
      (λ q e. record { below = omega (arith, e.below); end = e.end })
      (λ q e. elim (cases_eq q k) [
        | inl same ↦ absurd (false≢true (sym (ap (accepting_at states) same ∙ not) ∙ e.end))
        | inr ne ↦ record { below = omega (arith, e.below, ne); end = e.end }
      ]) 0

  pub end_more : (k : ℕ) → IsEnd states k → (old mid new : List (Option Count)) (before between after : List ℕ)
      → Reaches (IsEndBelow k) 0 old mid before between → Reaches (λ q. k ≡ q) 0 mid new between after
      → Reaches (IsEndBelow (k + 1)) 0 old new before after
  end_more k end = reaches_both (IsEndBelow k) (λ q. k ≡ q) (IsEndBelow (k + 1))
      (λ q e. elim (cases_eq q k) [
        | inl same ↦ inr (sym same)
        | inr ne ↦ inl (record { below = omega (arith, e.below, ne); end = e.end })
      ])
      (λ q e. record { below = omega (arith, e.below); end = e.end })
      (λ q at. record { below = omega (arith, at); end = ap (accepting_at states) (sym at) ∙ end }) 0

  pub all_ends : (k : ℕ) → length states ≤ k → (old new : List (Option Count)) (before after : List ℕ)
      → Reaches (IsEndBelow k) 0 old new before after → Reaches (IsEnd states) 0 old new before after
  all_ends k all = reaches_same (IsEndBelow k) (IsEnd states) (λ q e. e.end)
      (λ q end. record { below = omega (arith, end_inside q end, all); end = end }) 0

  module _ (incoming : Incoming V h) (turned : AreReverseMoves states incoming) where
    pub level_inside : (left : List (Option Count)) (level : List ℕ) (k : ℕ) → IsSearched states left level k
        → All (λ t. t < length states) level
    level_inside left level k are i d l =
        let t = get_or level i d in
        omega (arith, known_inside left t k (are.level_is t (Contains-get_or level i d l)), are.each)

    -- only states come before those of a level
    pub before_inside : (level : List ℕ) → All (λ t. t < length states) level → (q : ℕ) → IsBefore incoming level q
        → q < length states
    before_inside level inside q from =
        let at = from.1 in
        let P : ℕ → Type 0 = λ x. x < length states in
        let has = (turned.each from.0 from.2.0 (subst P at.2 (inside at.0 from.0 at.1))).0 from.2.1 in
        omega (arith, moves_exist states from.2.0.source has.0 has.1, from.2.2)

    -- what comes before a level is what has a step to it
    pub before_is : ClassesFilled states → (level : List ℕ) → All (λ t. t < length states) level
        → (n : ℕ) (old new : List (Option Count)) (before after : List ℕ)
        → Reaches (IsBefore incoming level) n old new before after
        → Reaches (IsPredecessor (Goes states) level) n old new before after
    before_is filled level inside = reaches_same (IsBefore incoming level) (IsPredecessor (Goes states) level)
        (λ q from.
        (let move = from.2.0 in
        let has = (turned.each from.0 move (state from.0 from.1)).0 from.2.1 in
        let P : ℕ → Type 0 = λ x. Contains (moves_at states x) has.0 in (
          from.0,
          from.1,
          (
            first_column has.0.class,
            (has.0, subst P from.2.2 has.1, has-first_column has.0.class (filled move.source has.0 has.1), has.2),
          ),
        )))
        (λ q from.
        (let goes = from.2.1 in
        let move : IncomingMove V = record { source = q; weight = goes.0.weight } in
        let turn = (turned.each from.0 move (state from.0 from.1)).1 (goes.0, goes.1, goes.3, refl) in
        (from.0, from.1, (move, turn, refl))))
      where
        state : (t : ℕ) → Contains level t → t < length states
        state t at = (let P : ℕ → Type 0 = λ x. x < length states in subst P at.2 (inside at.0 t at.1))
