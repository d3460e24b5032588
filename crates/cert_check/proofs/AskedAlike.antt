-- Constraints that require the same, by their families and sides, count, phase and move alike.
use Rattle.std.proofs.Common.{◌≡◌, ℕ, ◌&&◌, not, Bool, true, false, cond, List, [], ◌∷◌, length, map, take, filter}
use Rattle.std.proofs.{Common.{drop, refl, ap, ap₂, sym, ◌∙◌, subst}, lemmas.List.{length-map, take-map}}
use Rattle.std.specs.{Prelude.{if◌then◌else◌, slice_index_or, ◌-◌}, List.list_all}
use Rattle.tier_core.specs.{declared.sym.Sym.Sym, declared.constraint.Constraint.Constraint}
use Rattle.tier_core.specs.{Kinds.{Phase, PrefixKind}, Tiers.Tiers, Timelines.{project, squeeze, tier_word, symbol}}
use Rattle.tier_core.specs.{Scan.opens, Sides.{has_edge_type, is_implication, is_stretch}}
use Rattle.grammar_reader.specs.Requirements.{Requirement, requirement_seen, requirements_seen}
use Rattle.violation.specs.{Candidates.vec, Counts.viol, Moves.{costs, costs_each, cost_of, cut_kind, first_phase}}
use Rattle.violation.specs.Moves.{is_tier_open, next_kind, next_phase, next_phases}
use Rattle.violation.specs.{Phases.{AreClosedOr, is_left_open}, Prefixes.{is_open, kind_of, phase, stretches}}
use Rattle.violation.specs.Problems.{Problem}
use Rattle.cert_check.specs.Seen.{AreAskedAlike}

-- what is asked by these constraints in place of a problem's own
abbrev pub with_constraints : Problem → List Constraint → Problem
with_constraints problem cs = record { tiers = problem.tiers; constraints = cs; form = problem.form }

-- what relates two problems that differ in constraints alone, which require the same, relates any that are asked alike
pub by_alike : (R : Problem → Problem → Type 0)
    → ((problem : Problem) (cs ds : List Constraint) → requirements_seen cs ≡ requirements_seen ds
    → R (with_constraints problem cs) (with_constraints problem ds))
    → (p q : Problem) → AreAskedAlike p q → R p q
by_alike R step p q alike =
    let ask : Tiers → List (List Sym)
    → Problem = λ tiers u. record { tiers = tiers; constraints = q.constraints; form = u } in
    subst (λ u. R p (ask q.tiers u)) alike.form (subst (λ tiers. R p (ask tiers p.form)) alike.tiers
    (step p p.constraints q.constraints alike.constraints))

-- and what holds of one holds of the other
pub by_constraints : (P : Problem → Type 0)
    → ((problem : Problem) (cs ds : List Constraint) → requirements_seen cs ≡ requirements_seen ds
    → P (with_constraints problem cs) → P (with_constraints problem ds))
    → (p q : Problem) → AreAskedAlike p q → P p → P q
by_constraints P step = by_alike _ step

-- ---- lists of constraints

abbrev SeenAlike : List Constraint → List Constraint → Type 0
SeenAlike cs ds = requirements_seen cs ≡ requirements_seen ds

abbrev pub is_seen_stretch : Requirement → Bool
is_seen_stretch n = is_implication n.family && not (has_edge_type n.left)

pub seen_filter : (cs : List Constraint)
    → requirements_seen (filter is_stretch cs) ≡ filter is_seen_stretch (requirements_seen cs)
seen_filter [] = refl
seen_filter (c ∷ cs) = go _ (seen_filter cs)
  where
    go : (b : Bool) → requirements_seen (filter is_stretch cs) ≡ filter is_seen_stretch (requirements_seen cs)
        → requirements_seen (cond b (c ∷ filter is_stretch cs) (filter is_stretch cs))
        ≡ cond b (requirement_seen c ∷ filter is_seen_stretch (requirements_seen cs))
        (filter is_seen_stretch (requirements_seen cs))
    go true e = ap (λ ns. requirement_seen c ∷ ns) e
    go false e = e

pub same_count : (cs ds : List Constraint) → SeenAlike cs ds → length cs ≡ length ds
same_count cs ds e = sym (length-map cs requirement_seen) ∙ ap length e ∙ length-map ds requirement_seen

first_ones : (r : ℕ) (cs ds : List Constraint) → SeenAlike cs ds → SeenAlike (take r cs) (take r ds)
first_ones r cs ds e = sym (take-map requirement_seen r cs) ∙ ap (take r) e ∙ take-map requirement_seen r ds

stretches_seen : (r : ℕ) (cs ds : List Constraint) → SeenAlike cs ds
    → SeenAlike (filter is_stretch (take r cs)) (filter is_stretch (take r ds))
stretches_seen r cs ds e =
    seen_filter (take r cs) ∙ ap (filter is_seen_stretch) (first_ones r cs ds e) ∙ sym (seen_filter (take r ds))

pub seen_vec : (T : List (List Sym)) (cs : List Constraint)
    → vec cs T ≡ map (λ n. viol n.family n.left n.right T) (requirements_seen cs)
seen_vec T [] = refl
seen_vec T (c ∷ cs) = ap (λ ns. viol c.family c.left c.right T ∷ ns) (seen_vec T cs)

seen_phases : (p : List (List Sym)) (cs : List Constraint)
    → map (λ c. phase c.left c.right p) cs ≡ map (λ n. phase n.left n.right p) (requirements_seen cs)
seen_phases p [] = refl
seen_phases p (c ∷ cs) = ap (λ ps. phase c.left c.right p ∷ ps) (seen_phases p cs)

-- ---- moves

next_alike : (column : List Sym) (cs ds : List Constraint) → SeenAlike cs ds → (phases : List Phase)
    → next_phases cs phases column ≡ next_phases ds phases column
next_alike column [] [] e phases = refl
next_alike column [] (d ∷ ds) e phases = cc
next_alike column (c ∷ cs) [] e phases = cc
next_alike column (c ∷ cs) (d ∷ ds) e [] = refl
next_alike column (c ∷ cs) (d ∷ ds) e (p ∷ ps) =
    let head : requirement_seen c ≡ requirement_seen d = cc in
    let tail : SeenAlike cs ds = cc in
    ap₂ (λ (n : Requirement) qs. next_phase n.left n.right p column ∷ qs) head (next_alike _ cs ds tail ps)

costs_alike : (column : List Sym) (opened : ℕ → Bool) (cs ds : List Constraint) → SeenAlike cs ds
    → (phases : List Phase) → costs_each cs opened phases column ≡ costs_each ds opened phases column
costs_alike column opened [] [] e phases = refl
costs_alike column opened [] (d ∷ ds) e phases = cc
costs_alike column opened (c ∷ cs) [] e phases = cc
costs_alike column opened (c ∷ cs) (d ∷ ds) e phases =
    let head : requirement_seen c ≡ requirement_seen d = cc in
    let tail : SeenAlike cs ds = cc in
    let left : Bool → List Phase = λ stretch. if stretch then drop 1 phases else phases in
    ap₂ (λ (n : Requirement) (ns : List ℕ).
    (if costs n.family n.left n.right opened (first_phase phases) column then 1 else 0) ∷ ns) head (costs_alike _ _ cs
    ds tail _ ∙ ap (λ (n : Requirement). costs_each ds opened (left (is_seen_stretch n)) column) head)

closed_alike : (is_left : Constraint → Bool) (of : Requirement → Bool)
    → ((c : Constraint) → is_left c ≡ of (requirement_seen c)) → (cs ds : List Constraint) → SeenAlike cs ds
    → (phases : List Phase) → AreClosedOr is_left cs phases → AreClosedOr is_left ds phases
closed_alike is_left of tells [] [] e phases h = h
closed_alike is_left of tells [] (d ∷ ds) e phases h = cc
closed_alike is_left of tells (c ∷ cs) [] e phases h = cc
closed_alike is_left of tells (c ∷ cs) (d ∷ ds) e [] h = absurd h
closed_alike is_left of tells (c ∷ cs) (d ∷ ds) e (p ∷ ps) h =
    let head : requirement_seen c ≡ requirement_seen d = cc in
    let tail : SeenAlike cs ds = cc in (
      h.0 ∙ ap not (tells c ∙ ap of head ∙ sym (tells d)),
      closed_alike _ of tells cs ds tail ps h.1,
    )

-- ---- problems

module _ (problem : Problem) (cs ds : List Constraint) (alike : requirements_seen cs ≡ requirements_seen ds) where
  abbrev here : Problem
  here = with_constraints problem cs

  abbrev there : Problem
  there = with_constraints problem ds

  pub same_vec : (T : List (List Sym)) → vec cs T ≡ vec ds T
  same_vec T = seen_vec T cs ∙ ap (map (λ n. viol n.family n.left n.right T)) alike ∙ sym (seen_vec T ds)

  pub same_stretch_count : (r : ℕ) → length (stretches here r) ≡ length (stretches there r)
  same_stretch_count r = same_count _ _ (stretches_seen r cs ds alike)

  pub same_kind : (r : ℕ) (p : List (List Sym)) → kind_of here r p ≡ kind_of there r p
  same_kind r p =
      let kind : List Phase → PrefixKind = λ ps. record {
        place = length (squeeze (project problem.tiers.input p));
        opened = map (λ t. is_open (tier_word p t)) problem.tiers.free;
        phases = ps;
      } in
      ap kind
      (seen_phases p _ ∙ ap (map (λ n. phase n.left n.right p)) (stretches_seen r cs ds alike) ∙ sym (seen_phases p _))

  pub same_cut : (r : ℕ) (k : PrefixKind) → cut_kind here r k ≡ cut_kind there r k
  same_cut r k =
      let kind : List Phase → PrefixKind = λ ps. record { place = k.place; opened = k.opened; phases = ps } in
      ap (λ n. kind (take n k.phases)) (same_stretch_count r)

  pub same_move : (r : ℕ) (k : PrefixKind) (column : List Sym) → next_kind here r k column ≡ next_kind there r k column
  same_move r k column =
      let kind : List Phase → PrefixKind = λ ps. record {
        place = (next_kind here r k column).place;
        opened = map (λ t. opens (symbol column t)) problem.tiers.free;
        phases = ps;
      } in
      ap kind (next_alike _ _ _ (stretches_seen r cs ds alike) _)

  pub same_cost : (r : ℕ) (k : PrefixKind) (column : List Sym) → cost_of here r k column ≡ cost_of there r k column
  same_cost r k column = ap (λ ns. slice_index_or ns (r - 1) 0) (costs_alike _ _ _ _ (first_ones r cs ds alike) _)

  pub same_closed : (r : ℕ) (k : PrefixKind) (phases : List Phase)
      → AreClosedOr (is_left_open here k) (stretches here r) phases
      → AreClosedOr (is_left_open there k) (stretches there r) phases
  same_closed r k =
      closed_alike _ (λ n. list_all (λ e. is_tier_open problem k e.tier) n.left) (λ c. refl) _ _
      (stretches_seen r cs ds alike)
