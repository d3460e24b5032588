-- One kind more is found, or one that is listed already.
use Rattle.std.proofs.Common.{◌≡◌, ℕ, ◌+◌, ◌<◌, Bool, List, [], ◌∷◌, ◌++◌, length, get_or, refl, ap, sym, ◌∙◌}
use Rattle.std.proofs.{Common.{subst, arith, ◌⊎◌, inl, inr}, lemmas.Bool.cases_lt, lemmas.List.length_push}
use Rattle.std.proofs.lemmas.Option.{slice_get_within}
use Rattle.std.specs.Prelude.{Contains, IsTrue, slice_get}
use Rattle.weight_law.specs.{declared.Weight.Ghosts, declared.count.Count.Count}
use Rattle.weight_law.specs.declared.unit_weight.UnitWeight.{UnitWeight}
use Rattle.tier_core.specs.{declared.kind.Kind.Kind, declared.sym.Sym.Sym, Classes.has}
use Rattle.arc_table.specs.{declared.arc.TableArc.TableArc, declared.state.TableState.TableState}
use Rattle.arc_table.specs.{Conditions.TargetsExist, Moves.{moves_at, accepting_at}, Runs.{IsPath, Reads}}
use Rattle.arc_table.proofs.Push.{moves_exist, accepting_old, accepting_new, moves_old, moves_new}
use Rattle.kind_moves.specs.{declared.frame.Frame.Frame, Frames.IsMove, Laws.LeadsTo}
use Rattle.stage_tables.specs.Listed.{IsAt, AreApart, IsPutLast, IsNumbered, Stays, StandsOver, IsReached, AreFound}
use Rattle.stage_tables.specs.Listed.{IsTaken, AreTakenMoves, IsTakenState, AreTargets, AreTaken}
use Rattle.stage_tables.proofs.Listing.{get_left, at_number, at_cases, same_at}

-- one move more
leads_more : (frame : Frame) (stage : ℕ) (a : Kind) (p : List (List Sym)) (b : Kind) (column : List Sym) (c : Kind)
    → LeadsTo frame stage a p b → IsMove frame stage b column c → LeadsTo frame stage a (p ++ column ∷ []) c
leads_more frame stage a [] b column c e m = (c, (rw e m, refl))
leads_more frame stage a (x ∷ p) b column c h m = (h.0, (h.1.0, leads_more frame stage h.0 p b column c h.1.1 m))

module _ {W : Type 0} {g : Ghosts W} where
  path_more : (states : List (TableState W g)) (s : ℕ) (arcs : List (TableArc W g)) (t : ℕ) (arc : TableArc W g)
      → IsPath states s arcs t → Contains (moves_at states t) arc → IsPath states s (arcs ++ arc ∷ []) arc.target
  path_more states s [] t arc path here = (rw path here, refl)
  path_more states s (a ∷ arcs) t arc path here = (path.0, path_more states a.target arcs t arc path.1 here)

  reads_more : (arcs : List (TableArc W g)) (word : List (List Sym)) (arc : TableArc W g) (column : List Sym)
      → Reads arcs word → IsTrue (has arc.class column) → Reads (arcs ++ arc ∷ []) (word ++ column ∷ [])
  reads_more [] [] arc column r h = (h, tt)
  reads_more [] (x ∷ word) arc column r h = absurd r
  reads_more (a ∷ arcs) [] arc column r h = absurd r
  reads_more (a ∷ arcs) (x ∷ word) arc column r h = (r.0, reads_more arcs word arc column r.1 h)

module _ {g : Ghosts UnitWeight} (frame : Frame) (stage : ℕ) (kept : List (TableState UnitWeight g))
    (exist : TargetsExist kept) where
  -- a column of a kept move leads to a kind over the move's target
  pub next_stands : (kind : Kind) (s : ℕ) (arc : TableArc UnitWeight g) (column : List Sym)
      → Contains (moves_at kept s) arc → (next : Kind) → IsMove frame stage kind column next
      → StandsOver frame stage (length kept) next arc.target
  next_stands kind s arc column here next m = record { fits = m.next_fits; within = exist s arc here }

  -- one move more is reached
  pub next_reached : (kind : Kind) (s : ℕ) → IsReached frame stage kept kind s
      → (arc : TableArc UnitWeight g) (column : List Sym) → Contains (moves_at kept s) arc
      → IsTrue (has arc.class column) → (next : Kind) → IsMove frame stage kind column next
      → IsReached frame stage kept next arc.target
  next_reached kind s r arc column here h next m = record {
    prefix = r.prefix ++ column ∷ [];
    first = r.first;
    starts = r.starts;
    leads = leads_more _ _ _ _ _ _ _ r.leads m;
    arcs = r.arcs ++ arc ∷ [];
    path = path_more _ 0 _ s _ r.path here;
    reads = reads_more _ _ _ _ r.reads h;
  }

  module _ (entries next_entries : List (Kind × ℕ)) (found : AreFound frame stage kept entries)
      (apart : AreApart next_entries) where
    -- a kind is put last that stands over a state and is reached
    pub found_put : (kind : Kind) (s : ℕ) → IsPutLast entries next_entries kind s
        → StandsOver frame stage (length kept) kind s → IsReached frame stage kept kind s
        → AreFound frame stage kept next_entries
    found_put kind s put stands reached = record {
      apart = apart;
      start = (
        found.start.0,
        ap (λ xs. slice_get xs 0) put ∙ get_left _ _ 0 _ found.start.1,
        found.start.2,
      );
      stands = λ k other t at. elim (cases k _ t at) [
        | inl was ↦ found.stands k other t was
        | inr is ↦ rw is.0 at (rw is.1 at stands)
      ];
      reached = λ k other t at. elim (cases k _ t at) [
        | inl was ↦ found.reached k other t was
        | inr is ↦ rw is.0 at (rw is.1 at reached)
      ];
    }
      where
        cases : (k : ℕ) (other : Kind) (t : ℕ) → IsAt next_entries k other t
            → IsAt entries k other t ⊎ ((kind ≡ other) × (s ≡ t))
        cases k other t at = at_cases _ _ s k _ t (ap (λ xs. slice_get xs k) (sym put) ∙ at)

    -- what was listed stays
    pub found_stays : (k : ℕ) (kind : Kind) (s : ℕ) → IsNumbered entries next_entries k kind s
        → Stays entries next_entries
    found_stays k kind s n j other t at = elim n.grows [
      | inl same ↦ ap (λ xs. slice_get xs j) same ∙ at
      | inr put ↦ ap (λ xs. slice_get xs j) put.0 ∙ get_left _ _ j _ at
    ]

    -- a kind that is numbered is found
    pub found_numbered : (k : ℕ) (kind : Kind) (s : ℕ) → IsNumbered entries next_entries k kind s
        → StandsOver frame stage (length kept) kind s → IsReached frame stage kept kind s
        → AreFound frame stage kept next_entries
    found_numbered k kind s n stands reached = elim n.grows [
      | inl same ↦ subst (λ (xs : List (Kind × ℕ)). AreFound frame stage kept xs) (sym same) found
      | inr put ↦ found_put _ s put.0 stands reached
    ]

-- moves are taken as before where what is listed stays
pub taken_stays : {g : Ghosts UnitWeight} {h : Ghosts Count} (frame : Frame) (first stage : ℕ)
    (entries next_entries : List (Kind × ℕ)) → Stays entries next_entries
    → (kind : Kind) (a : TableArc UnitWeight g) (b : TableArc Count h) → IsTaken frame first stage entries kind a b
    → IsTaken frame first stage next_entries kind a b
taken_stays frame first stage entries next_entries stays kind a b t = record {
  next = t.next;
  at = stays b.target t.next a.target t.at;
  within = t.within;
  moves = t.moves;
  weighs = t.weighs;
  alike = t.alike;
  filled = t.filled;
  wide = t.wide;
}

pub moves_taken_stay : {g : Ghosts UnitWeight} {h : Ghosts Count} (frame : Frame) (first stage : ℕ)
    (entries next_entries : List (Kind × ℕ)) → Stays entries next_entries
    → (kind : Kind) (arcs : List (TableArc UnitWeight g)) (moves : List (TableArc Count h))
    → AreTakenMoves frame first stage entries kind arcs moves
    → AreTakenMoves frame first stage next_entries kind arcs moves
moves_taken_stay frame first stage entries next_entries stays kind arcs moves t = record {
  each = λ k d inside. (let was = t.each k d inside in record {
    arc = was.arc;
    listed = was.listed;
    taken = taken_stays _ _ _ _ _ stays _ _ _ was.taken;
  });
  held = t.held;
}

-- one new state more
pub taken_push : {g : Ghosts UnitWeight} {h : Ghosts Count} (frame : Frame) (first stage : ℕ)
    (kept : List (TableState UnitWeight g)) (entries next_entries : List (Kind × ℕ))
    → Stays entries next_entries
    → (states : List (TableState Count h)) (state : TableState Count h) (kind : Kind) (s : ℕ)
    → AreTaken frame first stage kept entries states → IsAt entries (length states) kind s
    → IsTakenState frame first stage kept next_entries kind s state.accepting state.arcs.items
    → AreTargets entries next_entries state.arcs.items
    → AreTaken frame first stage kept next_entries (states ++ state ∷ [])
taken_push {g}
    {h} frame first stage kept entries next_entries stays states state kind s taken at made targets = record {
      reached = linked;
      within = (let l = slice_get_within next_entries (length states) (kind, s) (stays (length states) kind s at) in
          omega (arith, length_push states state));
      each = all;
    }
  where
    still : (t : ℕ) (arc : TableArc Count h) → Contains (moves_at states t) arc
        → Contains (moves_at (states ++ state ∷ []) t) arc
    still t arc here = rw (moves_old states state t (moves_exist states t arc here)) here

    linked : (k : ℕ) → 0 < k → k < length next_entries
        → (t : ℕ) × (t < k) × ((arc : TableArc Count h) × Contains (moves_at (states ++ state ∷ []) t) arc ×
        (arc.target ≡ k))
    linked k some l = elim (cases_lt k (length entries)) [
      | inl lower ↦ (let was = taken.reached k some lower in
          (was.0, was.1, (was.2.0, still _ _ was.2.1, was.2.2)))
      | inr upper ↦
          (let new = targets k upper l in
          let here = slice_get_within entries (length states) (kind, s) at in (
            length states,
            omega (arith, here, upper),
            (
              new.0,
              rw (moves_new states state) new.1,
              new.2,
            ),
          ))
    ]

    now_accepting : ℕ → Bool
    now_accepting k = accepting_at (states ++ state ∷ []) k

    now_moves : ℕ → List (TableArc Count h)
    now_moves k = moves_at (states ++ state ∷ []) k

    moved_to : (k : ℕ) (was other : Kind) (u t : ℕ) (accepting : Bool) (moves : List (TableArc Count h)) → was ≡ other
        → u ≡ t → now_accepting k ≡ accepting → now_moves k ≡ moves
        → IsTakenState frame first stage kept next_entries was u accepting moves
        → IsTakenState frame first stage kept next_entries other t (now_accepting k) (now_moves k)
    moved_to k was other u t accepting moves a b c d m = rw a
        at (subst (λ (x : ℕ). IsTakenState frame first stage kept next_entries was x (now_accepting k) (now_moves k)) b
        (subst (λ (xs : List (TableArc Count h)). IsTakenState frame first stage kept next_entries was u
        (now_accepting k) xs) (sym d) (subst (λ (x : Bool). IsTakenState frame first stage kept next_entries was u x
        moves) (sym c) m)))

    all : (k : ℕ) (other : Kind) (t : ℕ) → k < length (states ++ state ∷ []) → IsAt next_entries k other t
        → IsTakenState frame first stage kept next_entries other t (now_accepting k) (now_moves k)
    all k other t l there = elim (cases_lt k (length states)) [
      | inl lower ↦
          (let was = at_number entries k (omega (arith, taken.within, lower)) in
          let now = same_at next_entries k was.0 other was.1 t (stays k was.0 was.1 was.2) there in
          let before = taken.each k was.0 was.1 lower was.2 in
          moved_to k was.0 other was.1 t (accepting_at states k) (moves_at states k)
          now.0 now.1
          (accepting_old states state k lower) (moves_old states state k lower)
          (record {
            accepts = before.accepts;
            taken = moves_taken_stay frame first stage entries next_entries stays was.0 (moves_at kept was.1)
                (moves_at states k) before.taken;
          }))
      | inr upper ↦
          (let is : length states ≡ k = omega (arith, length_push states state, l, upper) in
          let now = same_at next_entries k kind other s t
          (ap (λ n. slice_get next_entries n) (sym is) ∙ stays (length states) kind s at) there in
          moved_to k kind other s t state.accepting state.arcs.items now.0 now.1
          (ap now_accepting (sym is) ∙ accepting_new states state)
          (ap now_moves (sym is) ∙ moves_new states state) made)
    ]

-- the one move's target is what is listed since
pub targets_one : {h : Ghosts Count} (entries next_entries : List (Kind × ℕ)) (arc : TableArc Count h)
    (kind : Kind) (s : ℕ) → IsNumbered entries next_entries arc.target kind s
    → AreTargets entries next_entries (arc ∷ [])
targets_one {h} entries next_entries arc kind s n k low high = elim n.grows [
  | inl same ↦ absurd (let e = ap (λ xs. length xs) same in omega arith)
  | inr put ↦
      (let e = ap (λ xs. length xs) put.0 ∙ length_push _ _ in
      (arc, (0, omega arith, refl), omega (arith, put.1)))
]
