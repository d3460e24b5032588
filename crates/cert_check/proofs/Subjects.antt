-- What is known of an answer when its stages are looked at.
use Rattle.std.proofs.Common.{◌≡◌, ◌↔◌, ℕ, ◌+◌, ◌-◌, ◌<◌, ◌≤◌, ◌&&◌, not, Bool, List, [], ◌∷◌, map}
use Rattle.std.proofs.Common.{take, length, get_or, refl, sym, ap, ap₂, ◌∙◌, arith, All}
use Rattle.std.proofs.lemmas.List.{get_or-map, get_or_default, get_or-take, length-take-le}
use Rattle.std.proofs.lemmas.List.Elements.{All-from_recursion}
use Rattle.std.proofs.lemmas.List.FromFn.{fill_by_all, length-map-range_with_len, get_or-map-range_with_len}
use Rattle.std.specs.List.{AllByRecursion, list_all}
use Rattle.tier_core.specs.{declared.kind.Kind.Kind, declared.sym.Sym.Sym, declared.event.Event.Event}
use Rattle.tier_core.specs.{declared.constraint.Constraint.Constraint, declared.shape.Shape.Shape}
use Rattle.tier_core.specs.{Shapes.masked_count, Sides.is_stretch, Kinds.{AreStretchesBelow, Phase, closed}}
use Rattle.tier_core.specs.Kinds.{PrefixKind, prefix_kind, open_tiers, phase_at, phases}
use Rattle.tier_core.specs.{KindShapes.{free_count, stretch_count, kind_in, FitsShape}, Tiers.{has_tier, is_input}}
use Rattle.tier_core.proofs.{TableMasks.free_tiers, Members.all_first}
use Rattle.grammar_reader.proofs.{Shaping.{length-stretch_counts, count_rises}, OverTiers.over_tiers}
use Rattle.violation.specs.{Conditions.{AreTiersBelow, IsOverTiers}, Moves.{is_tier_open, cut_kind}}
use Rattle.violation.specs.{Phases.{AreClosedOr}, Prefixes.{stretches, kind_of_bits}}
use Rattle.violation.specs.Problems.{Problem, last_stage, last_place}
use Rattle.answer_text.specs.{declared.stage.Node.Node, declared.stage.Stage.Stage, Certified.IsPossibleKind}
use Rattle.answer_text.specs.{Readable.IsReadableStage, Right.{nodes_at, kinds_at}}
use Rattle.cert_check.specs.{declared.subject.Subject.Subject, Opens.{is_open_by, inputs_before}}
use Rattle.cert_check.specs.{Possible.all_open_in, Searches.told_in}
use Rattle.cert_check.specs.Subjects.{IsReady, problem_of, stage_nodes, stage_kinds, node_kind}
use Rattle.cert_check.proofs.Opens.{open_told, length-numbers, all_inputs}

-- ---- masks that agree with the open tiers

list_all_agree : (f g : Event → Bool) (es : List Event) → AllByRecursion (λ e. f e ≡ g e) es
    → list_all f es ≡ list_all g es
list_all_agree f g [] h = refl
list_all_agree f g (e ∷ es) h = ap₂ (λ a b. a && b) h.0 (list_all_agree f g es h.1)

pub each_event : (n : ℕ) (f g : ℕ → Bool) → ((t : ℕ) → t < n → f t ≡ g t) → (es : List Event) → AreTiersBelow n es
    → AllByRecursion (λ e. f e.tier ≡ g e.tier) es
each_event n f g h [] below = tt
each_event n f g h (e ∷ es) below = (h e.tier below.0, each_event n f g h es below.1)

closed_agree : (f g : Constraint → Bool) (cs : List Constraint) (ps : List Phase) → AllByRecursion (λ c. f c ≡ g c) cs
    → AreClosedOr f cs ps → AreClosedOr g cs ps
closed_agree f g [] [] h a = tt
closed_agree f g [] (p ∷ ps) h a = a
closed_agree f g (c ∷ cs) [] h a = a
closed_agree f g (c ∷ cs) (p ∷ ps) h a = (a.0 ∙ ap not h.0, closed_agree f g cs ps h.1 a.1)

agree_each : (n : ℕ) (f g : ℕ → Bool) → ((t : ℕ) → t < n → f t ≡ g t) → (cs : List Constraint)
    → AllByRecursion (IsOverTiers n) cs
    → AllByRecursion (λ c. list_all (λ e. f e.tier) c.left ≡ list_all (λ e. g e.tier) c.left) cs
agree_each n f g h [] over = tt
agree_each n f g h (c ∷ cs) over = (
  list_all_agree _ _ _ (each_event n f g h _ over.0.left_below),
  agree_each n f g h cs over.1,
)

module _ (s : Subject) (ready : IsReady s) (stage : ℕ) (within : stage ≤ last_stage (problem_of s)) where
  abbrev shape : Shape
  shape = s.shape.now

  abbrev problem : Problem
  problem = problem_of s

  pub free_same : free_count shape ≡ length problem.tiers.free
  free_same = ap (λ n. n - masked_count shape.inputs) ready.of_grammar.width ∙ free_tiers _ _ ready.of_grammar.inputs

  pub stage_in : stage < length shape.phases.items
  stage_in = omega (arith, ap length ready.of_grammar.phases, length-stretch_counts problem.constraints, within)

  pub stretch_same : stretch_count shape stage ≡ length (stretches problem stage)
  stretch_same =
      ap (λ ns. get_or ns stage 0) ready.of_grammar.phases ∙ get_or-map-range_with_len _ 0 _ stage stage 0
      (omega (arith, within)) (omega arith)

  pub tell_same : (k : Kind) → kind_in shape stage k ≡ kind_of_bits problem stage k
  tell_same k = ap₂ (λ m n. prefix_kind m n k) free_same stretch_same

  pub told_same : (nodes : List Node) → told_in shape stage nodes ≡ kinds_at problem stage nodes
  told_same nodes = ap₂ (λ m n. map (λ (node : Node). prefix_kind m n node.kind) nodes) free_same stretch_same

  pub in_stages : stage < length s.answer.now.stages.items
  in_stages = omega (arith, ready.numbers.stages, within)

  pub readable_stage : IsReadableStage shape stage (stage_nodes s stage)
  readable_stage = ready.readable.stages stage in_stages

  -- a column of the form has a symbol for each input tier
  pub form_wide : All (λ column. length column
      ≡ inputs_before s.grammar.now.tiers.kinds.items (length s.grammar.now.tiers.kinds.items)) s.answer.now.form
  form_wide k d l =
      All-from_recursion (λ (column : List Sym). length column
      ≡ length problem.tiers.input) s.answer.now.form ready.form.form.well_formed.one_width k d l
      ∙ length-numbers is_input 0 s.grammar.now.tiers.kinds.items ∙ sym (all_inputs s.grammar.now.tiers.kinds.items)

  module _ (kind : Kind) (place : kind.place ≤ last_place problem) (mask : ℕ)
      (bits : (t : ℕ) → t < length s.grammar.now.tiers.kinds.items
      → has_tier mask t
      ≡ is_open_by s.grammar.now.tiers.kinds.items s.answer.now.form kind.place kind.opened t) where
    agree : (t : ℕ) → t < length s.grammar.now.tiers.kinds.items
        → has_tier mask t ≡ is_tier_open problem (kind_of_bits problem stage kind) t
    agree t l = bits t l
        ∙ sym (open_told s.grammar.now.tiers problem.constraints s.answer.now.form ready.form.form stage kind place t
        l)

    over : AllByRecursion (IsOverTiers (length s.grammar.now.tiers.kinds.items)) (stretches problem stage)
    over = all_first (IsOverTiers (length s.grammar.now.tiers.kinds.items)) is_stretch problem.constraints stage
        (over_tiers s.grammar.now)

    -- a kind is possible where its phases are closed as the mask of its open tiers tells
    pub possible_by_mask : AreClosedOr (all_open_in mask) (stretches problem stage)
        (phases (length (stretches problem stage)) kind) ↔ IsPossibleKind problem stage
        (kind_of_bits problem stage kind)
    possible_by_mask = (
      λ a. record {
        place = place;
        phases = closed_agree _ _ _ _ (agree_each _ _ _ agree _ over) a;
      },
      λ p. closed_agree _ _ _ _ (agree_each _ _ _ (λ t l. sym (agree t l)) _ over) p.phases,
    )

  -- the kind of a node by its number
  pub kind_numbered : (n : ℕ) (d : Node) → n < length (stage_nodes s stage)
      → node_kind s stage n ≡ kind_of_bits problem stage (get_or (stage_nodes s stage) n d).kind
  kind_numbered n d l = get_or-map _ _ n d _ l

-- ---- kinds that are cut

cut_phases : (k l : Kind) (m n : ℕ) → m ≤ n → ((i : ℕ) → i < m → phase_at k i ≡ phase_at l i)
    → phases m k ≡ take m (phases n l)
cut_phases k l m n w h =
    let size : length (take m (phases n l))
    ≡ m = omega (
      arith,
      length-take-le m (phases n l)
          (omega (arith, w, length-map-range_with_len (phase_at l) 0 n)),
    ) in
    sym (fill_by_all (phase_at k) (take m (phases n l)) m closed size (λ i b. get_or-take m (phases n l) i _ b ∙
    get_or-map-range_with_len _ 0 n i i closed (omega (arith, b, w)) (omega arith) ∙ sym (h i b)))

kind_parts : (place : ℕ) (opened : List Bool) (ps qs : List Phase) → ps ≡ qs
    → (let k : PrefixKind = record { place = place; opened = opened; phases = ps } in k)
    ≡ record { place = place; opened = opened; phases = qs }
kind_parts place opened ps qs e = ap (λ (x : List Phase). let k : PrefixKind = record
    { place = place; opened = opened; phases = x } in k) e

-- a kind that has the same place and open tiers, and the first of the phases, tells the cut
pub cut_told : (problem : Problem) (k l : Kind) (r s : ℕ)
    → length (stretches problem r) ≤ length (stretches problem s) → k.place ≡ l.place → k.opened ≡ l.opened
    → ((i : ℕ) → i < length (stretches problem r) → phase_at k i ≡ phase_at l i)
    → kind_of_bits problem r k ≡ cut_kind problem r (kind_of_bits problem s l)
cut_told problem k l r s w p o h =
    ap₂ (λ m n. let x : PrefixKind = record {
      place = m;
      opened = open_tiers (length problem.tiers.free) n;
      phases = phases (length (stretches problem r)) k;
    } in x) p o
    ∙ kind_parts _ _ _ _ (cut_phases k l _ _ w h)

-- the nodes of a stage of the list of stages
pub nodes_at_is : (stages : List Stage) (r : ℕ) (d : Stage) → r < length stages
    → (get_or stages r d).nodes.items ≡ nodes_at stages r
nodes_at_is stages r d l = sym (get_or-map _ _ r d [] l)

module _ (s : Subject) (ready : IsReady s) (stage : ℕ) (within : stage ≤ last_stage (problem_of s)) where
  -- the nodes that code reads of a stage, and the kinds that they tell
  pub nodes_read : (ns : List Node) (st : Stage) → ns ≡ st.nodes.items
      → st ≡ get_or s.answer.now.stages.items stage st → ns ≡ stage_nodes s stage
  nodes_read ns st e f = e ∙ ap (λ (x : Stage). x.nodes.items) f ∙ nodes_at_is _ _ st (in_stages s ready _ within)

  pub told_read : (ns : List Node) (st : Stage) → ns ≡ st.nodes.items → st ≡ get_or s.answer.now.stages.items stage st
      → told_in s.shape.now stage ns ≡ stage_kinds s stage
  told_read ns st e f = told_same s ready _ within ns ∙ ap (kinds_at (problem_of s) stage) (nodes_read ns st e f)

  pub fits_at : (n : ℕ) (d : Node) → n < length (stage_nodes s stage)
      → FitsShape s.shape.now stage (get_or (stage_nodes s stage) n d).kind
  fits_at n d l = (readable_stage s ready _ within).fits n d l

  -- a cut fits the stage before, and tells the cut of a kind
  pub cut_fits : (kind result : Kind) (count : ℕ) → 1 ≤ stage
      → count ≡ get_or s.shape.now.phases.items (stage - 1) count → FitsShape s.shape.now stage kind
      → result.opened ≡ kind.opened → AreStretchesBelow count result
      → FitsShape s.shape.now (stage - 1) result
  cut_fits kind result count some is fits opened below = record {
    within = omega (arith, fits.within);
    opened = rw opened fits.opened;
    stretches = rw (is ∙ get_or_default _ (stage - 1) count 0 (omega (arith, fits.within))) at below;
  }

  pub cut_before_told : (kind result : Kind) (count : ℕ) → 1 ≤ stage
      → count ≡ get_or s.shape.now.phases.items (stage - 1) count → result.place ≡ kind.place
      → result.opened ≡ kind.opened
      → ((i : ℕ) → i < count → phase_at result i ≡ phase_at kind i)
      → kind_of_bits (problem_of s) (stage - 1) result
      ≡ cut_kind (problem_of s) (stage - 1) (kind_of_bits (problem_of s) stage kind)
  cut_before_told kind result count some is place opened same =
      let before : stage - 1 ≤ last_stage (problem_of s) = omega (arith, within) in
      let counted =
      is ∙ get_or_default _ _ _ 0 (stage_in s ready _ before) ∙ stretch_same s ready _ before in
      let rises : length (stretches (problem_of s) (stage - 1)) ≤ length (stretches (problem_of s) stage) =
      rw (let e : stage - 1 + 1 ≡ stage = omega (arith, some) in e) at
      (count_rises (problem_of s).constraints (stage - 1) (omega (arith, within, some))) in
      cut_told (problem_of s) result kind _ _ rises place opened (λ i l. same i (omega (arith, l, counted)))

  -- the kind of a node that code reads
  pub number_read : (ns : List Node) (n : ℕ) (d : Node) → ns ≡ stage_nodes s stage → n < length ns
      → kind_in s.shape.now stage (get_or ns n d).kind ≡ node_kind s stage n
  number_read ns n d e l =
      ap (λ (xs : List Node). kind_in s.shape.now stage (get_or xs n d).kind) e ∙ tell_same s ready _ within
      (get_or (stage_nodes s stage) n d).kind ∙ sym (kind_numbered s ready _ within n d (omega (arith, l, ap length e)))

  pub number_bits : (ns : List Node) (n : ℕ) (d : Node) → ns ≡ stage_nodes s stage → n < length ns
      → kind_of_bits (problem_of s) stage (get_or ns n d).kind ≡ node_kind s stage n
  number_bits ns n d e l = sym (tell_same s ready _ within (get_or ns n d).kind) ∙ number_read ns n d e l

  pub number_fits : (ns : List Node) (n : ℕ) (d : Node) → ns ≡ stage_nodes s stage → n < length ns
      → FitsShape s.shape.now stage (get_or ns n d).kind
  number_fits ns n d e l = rw e (fits_at n d (omega (arith, l, ap length e)))

-- a mask of the tiers that are open at a place tells those of a kind with this place
pub mask_agrees : (s : Subject) → IsReady s → (stage : ℕ) (kind : Kind) → kind.place ≤ last_place (problem_of s)
    → (mask : ℕ) → ((t : ℕ) → t < length s.grammar.now.tiers.kinds.items → has_tier mask t
    ≡ is_open_by s.grammar.now.tiers.kinds.items s.answer.now.form kind.place kind.opened t)
    → (t : ℕ) → t < length s.grammar.now.tiers.kinds.items
    → has_tier mask t ≡ is_tier_open (problem_of s) (kind_of_bits (problem_of s) stage kind) t
mask_agrees s ready stage kind place mask bits t l = bits t l
    ∙ sym (open_told s.grammar.now.tiers (problem_of s).constraints s.answer.now.form ready.form.form stage kind place
    t l)
