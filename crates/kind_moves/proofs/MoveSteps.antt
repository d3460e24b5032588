-- Which tiers are open after a move, and which phases are closed.
use Rattle.std.proofs.Common.{◌≡◌, ℕ, suc, ◌+◌, ◌<◌, ◌||◌, ◌&&◌, not, Bool, true, false, cond, List, [], ◌∷◌, map}
use Rattle.std.proofs.Common.{take, length, get_or, refl, ap, sym, ◌∙◌, arith, ⊎_elim, Contains}
use Rattle.std.proofs.{lemmas.Bool.false≢true, lemmas.List.{length-map, get_or-map, get_or_default}}
use Rattle.std.proofs.lemmas.List.FromFn.{fill_by_all, get_or-map-range_with_len}
use Rattle.std.proofs.lemmas.List.Elements.{All-from_recursion}
use Rattle.std.specs.List.{AllByRecursion, list_all}
use Rattle.tier_core.specs.{declared.sym.Sym.Sym, declared.sym.Sym.TheVariants.Outside, declared.event.Event.Event}
use Rattle.tier_core.specs.{declared.constraint.Constraint.Constraint, Kinds.{Phase, closed, PrefixKind}, Scan.opens}
use Rattle.tier_core.specs.Timelines.{tier_word, symbol, is_edge, has_edge}
use Rattle.tier_core.proofs.{CountLemmas.all_weaker, Bools.or_false, EdgeLemmas.each_edgeless}
use Rattle.violation.specs.{Candidates.IsForm, Columns.opens_all, Conditions.{AreSplit, AreTiersBelow, IsOverTiers}}
use Rattle.violation.specs.Moves.{FitsKind, flag_of, form_opened, is_tier_open, input_of, next_kind, next_phase}
use Rattle.violation.specs.{Moves.next_phases, Prefixes.{is_open, phase}, Problems.Problem}
use Rattle.violation.proofs.{CountSteps.all_agree, TierLemmas.{flag_in, flag_out, flag_at}}
use Rattle.violation.proofs.{ClosedPhases.closed_unless_open, PlaceLemmas.stays_open}
use Rattle.kind_moves.specs.Frames.{is_closed, is_left_open, AreClosedOr}
use Rattle.kind_moves.proofs.OpenPlaces.{form_open_after}

module _ (problem : Problem) (split : AreSplit problem.tiers) (form : IsForm problem.tiers problem.form)
    (k : PrefixKind) (column : List Sym) (f : FitsKind problem k column) where
  -- the input tiers that are open at the next place
  input_open_next : (e : Bool) → has_edge (input_of problem.tiers column) ≡ e → (j : ℕ)
      → j < length problem.tiers.input
      → is_open (tier_word (take (k.place + cond e 1 0) problem.form) j)
      ≡ opens (symbol column (get_or problem.tiers.input j 0))
  input_open_next true e j l = ⊎_elim
      (λ none. absurd (false≢true (sym none ∙ e)))
      (λ some.
      let next : k.place + 1 ≡ suc k.place = omega arith in
      ap (λ n. is_open (tier_word (take n problem.form) j)) next
      ∙ form_open_after problem.tiers problem.form form k.place
      j some.0 l
      ∙ ap (λ (c : List Sym). opens (symbol c j)) (sym some.1)
      ∙ ap opens (get_or-map (symbol column) problem.tiers.input j 0 Outside l))
      f.input
  input_open_next false e j l =
      let t = get_or problem.tiers.input j 0 in
      let here : k.place + 0 ≡ k.place = omega arith in
      let listed : Contains problem.tiers.input t = (j, l, get_or_default problem.tiers.input j t 0 l) in
      let below : t < problem.tiers.width = All-from_recursion
      (λ t. t < problem.tiers.width) problem.tiers.input split.inputs_below j 0 l in
      let tier : is_tier_open problem k t ≡ is_open (tier_word (take k.place problem.form) j) =
      ap (λ b. flag_of problem.tiers.input (form_opened problem.tiers problem.form k.place) t || b)
      (flag_out problem.tiers.free k.opened t (λ d. split.apart t listed d))
      ∙ or_false (flag_of problem.tiers.input (form_opened problem.tiers problem.form k.place) t)
      ∙ flag_at problem.tiers.input (form_opened problem.tiers problem.form k.place) j split.distinct l
      ∙ get_or-map-range_with_len (λ j. is_open (tier_word (take k.place problem.form) j)) 0
      (length problem.tiers.input) j j false l (omega arith) in
      let size : length (input_of problem.tiers column) ≡ length problem.tiers.input = length-map problem.tiers.input
      (symbol column) in
      ap (λ n. is_open (tier_word (take n problem.form) j)) here ∙ sym tier
      ∙ sym (stays_open (is_tier_open problem k t) (symbol column t) (f.symbols t below)
      (ap is_edge (sym (get_or-map (symbol column) problem.tiers.input j 0 Outside l))
      ∙ each_edgeless (input_of problem.tiers column) e j (omega arith)))

  -- after a move a tier is open where its symbol opens it
  pub open_next : (r t : ℕ) → t < problem.tiers.width → is_tier_open problem (next_kind problem r k column) t
      ≡ opens (symbol column t)
  open_next r t l =
      let inputs : form_opened problem.tiers problem.form (next_kind problem r k column).place
      ≡ map (λ t. opens (symbol column t)) problem.tiers.input =
      sym (fill_by_all (λ j. is_open (tier_word (take (next_kind problem r k column).place problem.form) j))
      (map (λ t. opens (symbol column t)) problem.tiers.input) (length problem.tiers.input) false
      (length-map problem.tiers.input (λ t. opens (symbol column t)))
      (λ j h. get_or-map (λ t. opens (symbol column t)) problem.tiers.input j 0 false h
      ∙ sym (input_open_next (has_edge (input_of problem.tiers column)) refl j h))) in
      ap (λ flags. flag_of problem.tiers.input flags t || flag_of problem.tiers.free
      (map (λ t. opens (symbol column t)) problem.tiers.free) t) inputs
      ∙ ⊎_elim
      (λ c. rw (
        flag_in (λ t. opens (symbol column t)) problem.tiers.input t c,
        flag_out problem.tiers.free
            (map (λ t. opens (symbol column t)) problem.tiers.free) t (λ d. split.apart t c d),
      )
      (or_false (opens (symbol column t))))
      (λ d. rw (
        flag_in (λ t. opens (symbol column t)) problem.tiers.free t d,
        flag_out problem.tiers.input
            (map (λ t. opens (symbol column t)) problem.tiers.input) t (λ c. split.apart t c d),
      ) refl)
      (split.each t l)

  left_next : (r : ℕ) (c : Constraint) → IsOverTiers problem.tiers.width c
      → is_left_open problem (next_kind problem r k column) c ≡ opens_all c.left column
  left_next r c o = all_agree (λ e. is_tier_open problem (next_kind problem r k column) e.tier)
      (λ e. opens (symbol column e.tier)) c.left
      (all_weaker (λ e. e.tier < problem.tiers.width) _ c.left (λ e l. open_next r e.tier l) o.left_below)

  closed_next : (left right : List Event) (phase : Phase) → is_closed (next_phase left right phase column)
      ≡ not (opens_all left column)
  closed_next left right phase = closed_unless_open (opens_all left column) _

  -- after a move a phase is closed where a left tier is
  pub phases_next : (r : ℕ) (cs : List Constraint) (is_before : Constraint → Bool) (phases : List Phase)
      → AllByRecursion (IsOverTiers problem.tiers.width) cs → AreClosedOr is_before cs phases
      → AreClosedOr (is_left_open problem (next_kind problem r k column)) cs (next_phases cs phases column)
  phases_next r [] is_before [] o h = tt
  phases_next r [] is_before (p ∷ ps) o h = absurd h
  phases_next r (c ∷ cs) is_before [] o h = absurd h
  phases_next r (c ∷ cs) is_before (p ∷ ps) o h =
      (closed_next c.left c.right p ∙ ap not (sym (left_next r c o.0)), phases_next r cs is_before ps o.1 h.1)

-- before the first column each phase is closed, and no tier is open
pub phases_first : (problem : Problem) (k : PrefixKind) → ((t : ℕ) → t < problem.tiers.width
    → is_tier_open problem k t ≡ false) → (cs : List Constraint) → AllByRecursion (IsOverTiers problem.tiers.width) cs
    → AreClosedOr (is_left_open problem k) cs (map (λ c. phase c.left c.right []) cs)
phases_first problem k none [] o = tt
phases_first problem k none (c ∷ cs) o = (
  own c.left c.right o.0.left_below o.0.some_left,
  phases_first problem k none
      cs o.1,
)
  where
    own : (left right : List Event) → AreTiersBelow problem.tiers.width left → 0 < length left
        → is_closed (phase left right []) ≡ not (list_all (λ e. is_tier_open problem k e.tier) left)
    own [] right b l = absurd (omega arith)
    own (e ∷ es) right b l = sym (ap (λ b. not (b && list_all (λ e. is_tier_open problem k e.tier) es))
        (none e.tier b.0))
