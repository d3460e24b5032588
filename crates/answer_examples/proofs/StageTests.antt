-- Tests of one stage of an answer, by what is seen of its nodes, and what each decides.
use Rattle.std.proofs.Common.{◌≡◌, ℕ, zero, suc, ◌+◌, ◌-◌, ◌==◌, ◌<◌, ◌≤◌, nat_lt, nat_le, IsTrue, Bool, true}
use Rattle.std.proofs.Common.{false, not, ◌&&◌, ◌||◌, List, [], ◌∷◌, map, length, refl, sym, ap, subst, arith, All}
use Rattle.std.proofs.{Common.{Contains, Decides, Some, slice_get, unwrap_or, is_some}, lemmas.Bool.false≢true}
use Rattle.std.proofs.lemmas.Bool.Decides.{Decides-and, Decides-or, Decides-eqb, Decides-ltb}
use Rattle.std.specs.{Bool.beq, List.{list_all, list_any}, List.Sorted.IsStrictlySortedBy}
use Rattle.tier_core.specs.{declared.sym.Sym.Sym, declared.constraint.Constraint.Constraint}
use Rattle.tier_core.specs.{Kinds.{Phase, PrefixKind, kind_order}, Scan.fits, Timelines.{symbol, column_at, has_edge}}
use Rattle.violation.specs.Moves.{FitsKind, input_of, is_tier_open, next_kind, cost_of, cut_kind, is_final}
use Rattle.violation.specs.{Phases.{is_closed, is_left_open, AreClosedOr}, Prefixes.{kind_of, stretches}}
use Rattle.violation.specs.Problems.{Problem, last_place}
use Rattle.answer_text.specs.{declared.stage.Stage.Stage, Right.{nodes_at, kinds_at}, Certified.{Lists, IsTightAt}}
use Rattle.answer_text.specs.Certified.{IsKeptBelow, IsPossibleKind, IsCertifiedStage, start_potential}
use Rattle.answer_text.specs.{Seen.nodes_seen, Values.NodeValue}
use Rattle.answer_examples.specs.Seen.{node_of}
use Rattle.answer_examples.proofs.Tests.{Decides-by, both, implied, Decides-both, Decides-implied, Decides-leb}
use Rattle.answer_examples.proofs.Tests.{Decides-true, Decides-false, all_decided, each_decided, some_decided}
use Rattle.answer_examples.proofs.Tests.{ascends, Decides-ascends, below, Decides-below, every_column}
use Rattle.answer_examples.proofs.{Tests.Decides-columns, Same.{Decides-flag, same_column, Decides-column, same_kind}}
use Rattle.answer_examples.proofs.Same.{Decides-kind, has_kind, Decides-has_kind}
use Rattle.answer_examples.proofs.Views.{listed_seen, seen_listed, kinds_seen}

-- the kinds that each stage lists, with their potentials
abbrev pub Listing : Type 0
Listing = ℕ → List NodeValue

abbrev pub kinds_in : Listing → ℕ → List PrefixKind
kinds_in at r = map (λ x. x.kind) (at r)

-- a column fits a kind
abbrev pub fits_kind : Problem → PrefixKind → List Sym → Bool
fits_kind problem k column =
    (length column == problem.tiers.width)
    && (below problem.tiers.width (λ t. fits (is_tier_open problem k t) (symbol column t))
    && (has_edge column && (not (has_edge (input_of problem.tiers column))
    || (nat_lt k.place (last_place problem)
    && same_column (input_of problem.tiers column) (column_at problem.form k.place)))))

pub Decides-fits : (problem : Problem) (k : PrefixKind) (column : List Sym)
    → Decides (fits_kind problem k column) (FitsKind problem k column)
Decides-fits problem k column =
    let input : List Sym = input_of problem.tiers column in
    let right_place : Bool = nat_lt k.place (last_place problem) in
    let right_input : Bool = same_column input (column_at problem.form k.place) in
    let symbols : Bool = below problem.tiers.width (λ t. fits (is_tier_open problem k t) (symbol column t)) in
    Decides-by (Decides-and (length column == problem.tiers.width)
    (symbols && (has_edge column && (not (has_edge input) || (right_place && right_input))))
    (Decides-eqb (length column) problem.tiers.width)
    (Decides-and symbols (has_edge column && (not (has_edge input) || (right_place && right_input)))
    (Decides-below (λ t. fits (is_tier_open problem k t) (symbol column t))
    (λ t. IsTrue (fits (is_tier_open problem k t) (symbol column t)))
    (λ t. Decides-true (fits (is_tier_open problem k t) (symbol column t))) problem.tiers.width)
    (Decides-and (has_edge column) (not (has_edge input) || (right_place && right_input))
    (Decides-true (has_edge column))
    (Decides-or (not (has_edge input)) (right_place && right_input) (Decides-false (has_edge input))
    (Decides-and right_place right_input (Decides-ltb k.place (last_place problem))
    (Decides-column input (column_at problem.form k.place)))))))
    (λ h. record { width = h.0; symbols = h.1.0; edge = h.1.1.0; input = h.1.1.1 })
    (λ f. (f.width, (f.symbols, (f.edge, f.input))))

-- a kind may be that of a prefix
abbrev pub closed_or : (Constraint → Bool) → List Constraint → List Phase → Bool
closed_or is_open [] [] = true
closed_or is_open [] (phase ∷ phases) = false
closed_or is_open (c ∷ cs) [] = false
closed_or is_open (c ∷ cs) (phase ∷ phases) =
    beq (is_closed phase) (not (is_open c)) && closed_or is_open cs phases

Decides-closed : (is_open : Constraint → Bool) (cs : List Constraint) (phases : List Phase)
    → Decides (closed_or is_open cs phases) (AreClosedOr is_open cs phases)
Decides-closed is_open [] [] = (λ e. tt, λ h. refl)
Decides-closed is_open [] (phase ∷ phases) = (λ e. absurd (false≢true e), λ h. absurd h)
Decides-closed is_open (c ∷ cs) [] = (λ e. absurd (false≢true e), λ h. absurd h)
Decides-closed is_open (c ∷ cs) (phase ∷ phases) =
    Decides-and (beq (is_closed phase) (not (is_open c))) (closed_or is_open cs phases)
    (Decides-flag (is_closed phase) (not (is_open c))) (Decides-closed is_open cs phases)

abbrev pub is_possible : Problem → ℕ → PrefixKind → Bool
is_possible problem r k =
    nat_le k.place (last_place problem) && closed_or (is_left_open problem k) (stretches problem r) k.phases

pub Decides-possible : (problem : Problem) (r : ℕ) (k : PrefixKind)
    → Decides (is_possible problem r k) (IsPossibleKind problem r k)
Decides-possible problem r k =
    Decides-by (Decides-and (nat_le k.place (last_place problem))
    (closed_or (is_left_open problem k) (stretches problem r) k.phases)
    (Decides-leb k.place (last_place problem))
    (Decides-closed (is_left_open problem k) (stretches problem r) k.phases))
    (λ h. record { place = h.0; phases = h.1 })
    (λ p. (p.place, p.phases))

-- a list begins with a kind
abbrev pub begins_with : List PrefixKind → PrefixKind → Bool
begins_with [] k = false
begins_with (l ∷ kinds) k = same_kind l k

Decides-first : (kinds : List PrefixKind) (k : PrefixKind)
    → Decides (begins_with kinds k) (slice_get kinds 0 ≡ Some k)
Decides-first [] k = (λ e. absurd (false≢true e), λ e. absurd (false≢true (ap is_some e)))
Decides-first (l ∷ kinds) k =
    Decides-by (Decides-kind l k)
    (λ e. ap (λ (m : PrefixKind). Some m) e)
    (λ e. ap (λ o. unwrap_or o l) e)

-- from some k to some l that are listed, the potential falls by just the cost
abbrev falls_from : List NodeValue → PrefixKind → ℕ → ℕ → Bool
falls_from seen l cost p = list_any (λ y. same_kind y.kind l && (p == (cost + y.potential))) seen

abbrev pub falls_by : List NodeValue → PrefixKind → PrefixKind → ℕ → Bool
falls_by seen k l cost = list_any (λ x. both (same_kind x.kind k) (λ _. falls_from seen l cost x.potential)) seen

-- some l that is listed has a potential that is less than p by at most the cost
abbrev pub goes_to : List NodeValue → PrefixKind → ℕ → ℕ → Bool
goes_to seen l p cost = list_any (λ y. same_kind y.kind l && nat_le p (cost + y.potential)) seen

abbrev pub is_tight : Problem → Listing → ℕ → PrefixKind → List Sym → Bool
is_tight problem at j k column =
    falls_by (at j) (cut_kind problem j k) (next_kind problem j (cut_kind problem j k) column)
    (cost_of problem j (cut_kind problem j k) column)

abbrev pub is_kept : Problem → Listing → ℕ → PrefixKind → List Sym → Bool
is_kept problem at r k column =
    both (fits_kind problem k column) (λ _. below (r - 1) (λ i. is_tight problem at (suc i) k column))

-- what is asked of each stage
abbrev pub finals_pass : Problem → Listing → ℕ → Bool
finals_pass problem at r = list_all (λ x. implied (is_final problem x.kind) (λ _. x.potential == 0)) (at r)

abbrev pub goes_on : Problem → Listing → ℕ → NodeValue → List Sym → Bool
goes_on problem at r x column =
    implied (is_kept problem at r x.kind column)
    (λ _. goes_to (at r) (next_kind problem r x.kind column) x.potential (cost_of problem r x.kind column))

abbrev pub moves_pass : Problem → Listing → ℕ → Bool
moves_pass problem at r = list_all (λ x. every_column problem.tiers.width (goes_on problem at r x)) (at r)

abbrev pub start_passes : Problem → List ℕ → Listing → ℕ → Bool
start_passes problem counts at r =
    list_all (λ x. implied (same_kind x.kind (kind_of problem r []))
    (λ _. x.potential == start_potential counts r)) (at r)

abbrev pub kinds_pass : Problem → Listing → ℕ → Bool
kinds_pass problem at r =
    list_all (is_possible problem r) (kinds_in at r)
    && (ascends kind_order (kinds_in at r)
    && (implied (nat_le 1 r)
    (λ _. list_all (λ k. has_kind (kinds_in at (r - 1)) (cut_kind problem (r - 1) k)) (kinds_in at r))
    && begins_with (kinds_in at r) (kind_of problem r [])))

abbrev pub stage_passes : Problem → List ℕ → Listing → ℕ → Bool
stage_passes problem counts at r =
    kinds_pass problem at r && (finals_pass problem at r
    && (moves_pass problem at r && start_passes problem counts at r))

module _ (problem : Problem) (stages : List Stage) where
  abbrev at : Listing
  at = nodes_seen problem stages

  module _ (r : ℕ) where
    in_list : (k : PrefixKind) (p : ℕ) → Lists problem stages r k p → Contains (at r) (node_of k p)
    in_list k p l = listed_seen problem stages r (at r) refl k p l

    -- an element of the list, by its kind
    listing : (x : NodeValue) (k : PrefixKind) → Contains (at r) x → x.kind ≡ k → Lists problem stages r k x.potential
    listing x k c e = seen_listed problem stages r (at r) refl k x.potential
        (subst (λ (l : PrefixKind). Contains (at r) (node_of l x.potential)) e c)

    -- a test of each node
    pub Decides-each : (test : NodeValue → Bool) (Q : PrefixKind → ℕ → Type 0)
        → ((x : NodeValue) → Decides (test x) (Q x.kind x.potential))
        → Decides (list_all test (at r)) ((k : PrefixKind) (p : ℕ) → Lists problem stages r k p → Q k p)
    Decides-each test Q each =
        Decides-by (each_decided test (λ x. Q x.kind x.potential) each (at r))
        (λ h k p l. h (node_of k p) (in_list k p l))
        (λ h x c. h x.kind x.potential (listing x x.kind c refl))

    Decides-goes : (l : PrefixKind) (p cost : ℕ)
        → Decides (goes_to (at r) l p cost) ((q : ℕ) × (Lists problem stages r l q × (p ≤ cost + q)))
    Decides-goes l p cost =
        Decides-by (some_decided (λ y. same_kind y.kind l && nat_le p (cost + y.potential))
        (λ y. (y.kind ≡ l) × (p ≤ cost + y.potential))
        (λ y. Decides-and (same_kind y.kind l) (nat_le p (cost + y.potential)) (Decides-kind y.kind l)
        (Decides-leb p (cost + y.potential))) (at r))
        (λ w. (w.0.potential, (listing w.0 l w.1.0 w.1.1.0, w.1.1.1)))
        (λ v. (node_of l v.0, (in_list l v.0 v.1.0, (refl, v.1.1))))

  module _ (r : ℕ) (k l : PrefixKind) (cost : ℕ) where
    abbrev FallsTo : ℕ → Type 0
    FallsTo p = (q : ℕ) × (Lists problem stages r l q × (p ≡ cost + q))

    Decides-fall : (p : ℕ) → Decides (falls_from (at r) l cost p) (FallsTo p)
    Decides-fall p =
        Decides-by (some_decided (λ y. same_kind y.kind l && (p == (cost + y.potential)))
        (λ y. (y.kind ≡ l) × (p ≡ cost + y.potential))
        (λ y. Decides-and (same_kind y.kind l) (p == (cost + y.potential)) (Decides-kind y.kind l)
        (Decides-eqb p (cost + y.potential)))
        (at r))
        (λ w. (w.0.potential, (listing r w.0 l w.1.0 w.1.1.0, w.1.1.1)))
        (λ v. (node_of l v.0, (in_list r l v.0 v.1.0, (refl, v.1.1))))

    Decides-falls : Decides (falls_by (at r) k l cost) ((p : ℕ) × (Lists problem stages r k p × FallsTo p))
    Decides-falls =
        Decides-by (some_decided (λ x. both (same_kind x.kind k) (λ _. falls_from (at r) l cost x.potential))
        (λ x. (x.kind ≡ k) × FallsTo x.potential)
        (λ x. Decides-both (same_kind x.kind k) (λ _. falls_from (at r) l cost x.potential) (Decides-kind x.kind k)
        (Decides-fall x.potential)) (at r))
        (λ w. (w.0.potential, (listing r w.0 k w.1.0 w.1.1.0, w.1.1.1)))
        (λ v. (node_of k v.0, (in_list r k v.0 v.1.0, (refl, v.1.1))))

  Decides-tight : (j : ℕ) (k : PrefixKind) (column : List Sym)
      → Decides (is_tight problem at j k column) (IsTightAt problem stages j k column)
  Decides-tight j k column =
      Decides-by (Decides-falls j (cut_kind problem j k) (next_kind problem j (cut_kind problem j k) column)
      (cost_of problem j (cut_kind problem j k) column))
      (λ w. record { before = w.0; after = w.1.1.0; leaves = w.1.0; arrives = w.1.1.1.0; falls = w.1.1.1.1 })
      (λ t. (t.before, (t.leaves, (t.after, (t.arrives, t.falls)))))

  pub Decides-kept : (r : ℕ) (k : PrefixKind) (column : List Sym)
      → Decides (is_kept problem at r k column) (IsKeptBelow problem stages r k column)
  Decides-kept r k column =
      Decides-by (Decides-both (fits_kind problem k column)
      (λ _. below (r - 1) (λ i. is_tight problem at (suc i) k column))
      (Decides-fits problem k column)
      (Decides-below (λ i. is_tight problem at (suc i) k column) (λ i. IsTightAt problem stages (suc i) k column)
      (λ i. Decides-tight (suc i) k column) (r - 1)))
      (λ h. record { fits = h.0; tight = all_tight h.1 })
      (λ kept. (kept.fits, λ i l. kept.tight (suc i) (omega arith) (omega arith)))
    where
      all_tight : ((i : ℕ) → i < r - 1 → IsTightAt problem stages (suc i) k column)
          → (j : ℕ) → 1 ≤ j → j < r → IsTightAt problem stages j k column
      all_tight h zero a b = absurd (omega arith)
      all_tight h (suc i) a b = h i (omega arith)

  module _ (r : ℕ) where
    abbrev kinds : List PrefixKind
    kinds = kinds_in at r

    kinds_are : kinds_at problem r (nodes_at stages r) ≡ kinds
    kinds_are = kinds_seen problem stages r (at r) refl

    before_are : kinds_at problem (r - 1) (nodes_at stages (r - 1)) ≡ kinds_in at (r - 1)
    before_are = kinds_seen problem stages (r - 1) (at (r - 1)) refl

    -- what a certified stage says of its kinds, and of the kinds of the stage before
    abbrev AreRightKinds : List PrefixKind → List PrefixKind → Type 0
    AreRightKinds before ks =
        All (IsPossibleKind problem r) ks × (IsStrictlySortedBy kind_order ks
        × ((1 ≤ r → All (λ k. Contains before (cut_kind problem (r - 1) k)) ks)
        × (slice_get ks 0 ≡ Some (kind_of problem r []))))

    pub Decides-kinds : Decides (kinds_pass problem at r)
        (AreRightKinds (kinds_at problem (r - 1) (nodes_at stages (r - 1))) (kinds_at problem r (nodes_at stages r)))
    Decides-kinds =
        let before : List PrefixKind = kinds_in at (r - 1) in
        let cuts : Bool = list_all (λ k. has_kind before (cut_kind problem (r - 1) k)) kinds in
        let first : Bool = begins_with kinds (kind_of problem r []) in
        subst (λ ks. Decides (kinds_pass problem at r)
        (AreRightKinds ks (kinds_at problem r (nodes_at stages r)))) (sym before_are)
        (subst (λ ks. Decides (kinds_pass problem at r) (AreRightKinds before ks)) (sym kinds_are)
        (Decides-and (list_all (is_possible problem r) kinds)
        (ascends kind_order kinds && (implied (nat_le 1 r) (λ _. cuts) && first))
        (all_decided (is_possible problem r) (IsPossibleKind problem r) (Decides-possible problem r) kinds)
        (Decides-and (ascends kind_order kinds) (implied (nat_le 1 r) (λ _. cuts) && first)
        (Decides-ascends kind_order kinds)
        (Decides-and (implied (nat_le 1 r) (λ _. cuts)) first
        (Decides-implied (nat_le 1 r) (λ _. cuts) (Decides-leb 1 r)
        (all_decided (λ k. has_kind before (cut_kind problem (r - 1) k))
        (λ k. Contains before (cut_kind problem (r - 1) k))
        (λ k. Decides-has_kind before (cut_kind problem (r - 1) k)) kinds))
        (Decides-first kinds (kind_of problem r []))))))

    pub Decides-finals : Decides (finals_pass problem at r)
        ((k : PrefixKind) (p : ℕ) → Lists problem stages r k p → IsTrue (is_final problem k) → p ≡ 0)
    Decides-finals =
        Decides-each r (λ x. implied (is_final problem x.kind) (λ _. x.potential == 0))
        (λ k p. IsTrue (is_final problem k) → p ≡ 0)
        (λ x. Decides-implied (is_final problem x.kind) (λ _. x.potential == 0) (Decides-true (is_final problem x.kind))
        (Decides-eqb x.potential 0))

    abbrev GoesOn : PrefixKind → ℕ → List Sym → Type 0
    GoesOn k p column =
        (q : ℕ) × (Lists problem stages r (next_kind problem r k column) q × (p ≤ cost_of problem r k column + q))

    pub Decides-moves : Decides (moves_pass problem at r)
        ((k : PrefixKind) (p : ℕ) (column : List Sym) → Lists problem stages r k p
        → IsKeptBelow problem stages r k column → GoesOn k p column)
    Decides-moves =
        Decides-by (Decides-each r (λ x. every_column problem.tiers.width (goes_on problem at r x))
        (λ k p. (column : List Sym) → length column ≡ problem.tiers.width
        → IsKeptBelow problem stages r k column → GoesOn k p column)
        (λ x. Decides-columns problem.tiers.width (goes_on problem at r x)
        (λ column. IsKeptBelow problem stages r x.kind column → GoesOn x.kind x.potential column)
        (λ column. Decides-implied (is_kept problem at r x.kind column)
        (λ _. goes_to (at r) (next_kind problem r x.kind column) x.potential (cost_of problem r x.kind column))
        (Decides-kept r x.kind column)
        (Decides-goes r (next_kind problem r x.kind column) x.potential (cost_of problem r x.kind column)))))
        (λ h k p column l kept. h k p l column kept.fits.width kept)
        (λ h k p l column e kept. h k p column l kept)

    pub Decides-start : (counts : List ℕ) → Decides (start_passes problem counts at r)
        ((p : ℕ) → Lists problem stages r (kind_of problem r []) p → p ≡ start_potential counts r)
    Decides-start counts =
        let due : ℕ = start_potential counts r in
        Decides-by (Decides-each r (λ x. implied (same_kind x.kind (kind_of problem r [])) (λ _. x.potential == due))
        (λ k p. k ≡ kind_of problem r [] → p ≡ due)
        (λ x. Decides-implied (same_kind x.kind (kind_of problem r [])) (λ _. x.potential == due)
        (Decides-kind x.kind (kind_of problem r [])) (Decides-eqb x.potential due)))
        (λ h p l. h (kind_of problem r []) p l refl)
        (λ h k p l e. h p (subst (λ z. Lists problem stages r z p) e l))

    pub Decides-stage : (counts : List ℕ)
        → Decides (stage_passes problem counts at r) (IsCertifiedStage problem counts stages r)
    Decides-stage counts =
        Decides-by (Decides-and (kinds_pass problem at r)
        (finals_pass problem at r && (moves_pass problem at r && start_passes problem counts at r)) Decides-kinds
        (Decides-and (finals_pass problem at r) (moves_pass problem at r && start_passes problem counts at r)
        Decides-finals
        (Decides-and (moves_pass problem at r) (start_passes problem counts at r) Decides-moves
        (Decides-start counts))))
        (λ h. record {
          kinds = h.0.0;
          ascending = h.0.1.0;
          cuts = h.0.1.1.0;
          first = h.0.1.1.1;
          final = h.1.0;
          goes_on = h.1.1.0;
          start = h.1.1.1;
        })
        (λ s. ((s.kinds, (s.ascending, (s.cuts, s.first))), (s.final, (s.goes_on, s.start))))
