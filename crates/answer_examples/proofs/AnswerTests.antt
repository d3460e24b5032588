-- A test of a whole answer, by what is seen of it, decides whether the answer is certified.
use Rattle.std.proofs.Common.{◌≡◌, ℕ, ◌+◌, ◌==◌, ◌≤◌, nat_le, IsTrue, Bool, true, false, ◌&&◌, List, map, length}
use Rattle.std.proofs.{Common.{sym, ap, ◌∙◌, arith, Decides, slice_index_or, []}, lemmas.Bool.{false≢true, and_parts}}
use Rattle.std.proofs.lemmas.Bool.Decides.{Decides-and, Decides-at, Decides-eqb}
use Rattle.std.proofs.lemmas.List.Elements.{All-from_recursion, recursion_from_All}
use Rattle.std.specs.List.{list_all, AllByRecursion}
use Rattle.tier_core.specs.{declared.sym.Sym.Sym, Tiers.Tiers}
use Rattle.tier_core.specs.Timelines.{IsWellFormed, IsReduced, has_edge, project, squeeze, tier_word}
use Rattle.tier_core.specs.Words.{IsWellFormedWord}
use Rattle.tier_core.proofs.{WordLemmas.runs, WordForm.{well_formed_from_runs, runs_from_well_formed}}
use Rattle.violation.specs.{Candidates.{IsForm, IsCandidate, counts_on}, Problems.{Problem, last_stage, last_place}}
use Rattle.answer_text.specs.declared.answer.Answer.{Answer}
use Rattle.answer_text.specs.{Certified.{IsCertifiedStage, IsCertified, AreStatesInOrder}, Seen.nodes_seen}
use Rattle.answer_text.specs.Values.{NodeValue, StateValue, state_value}
use Rattle.answer_examples.specs.Seen.{IsSeenAs}
use Rattle.answer_examples.proofs.Tests.{Decides-by, Decides-leb, Decides-true, all_decided, below, Decides-below}
use Rattle.answer_examples.proofs.Same.{same_timeline, Decides-timeline, same_numbers, Decides-numbers}
use Rattle.answer_examples.proofs.StageTests.{Listing, stage_passes, Decides-stage}
use Rattle.answer_examples.proofs.AutomatonTests.{automaton_passes, Decides-automaton, states_ascend}
use Rattle.answer_examples.proofs.AutomatonTests.{Decides-in_order}

-- P of each element by recursion, from a test
pub all_recursive : {X : Type 0} (p : X → Bool) (P : X → Type 0) → ((x : X) → Decides (p x) (P x)) → (xs : List X)
    → Decides (list_all p xs) (AllByRecursion P xs)
all_recursive p P each xs = Decides-by (all_decided p P each xs)
    (recursion_from_All P xs)
    (All-from_recursion P xs)

abbrev pub is_well_formed : ℕ → List (List Sym) → Bool
is_well_formed width T =
    list_all (λ column. length column == width) T && below width (λ t. runs false (tier_word T t))

pub Decides-well_formed : (width : ℕ) (T : List (List Sym))
    → Decides (is_well_formed width T) (IsWellFormed width T)
Decides-well_formed width T =
    Decides-by (Decides-and (list_all (λ column. length column == width) T)
    (below width (λ t. runs false (tier_word T t)))
    (all_recursive (λ column. length column == width) (λ column. length column ≡ width)
    (λ column. Decides-eqb (length column) width) T)
    (Decides-below (λ t. runs false (tier_word T t)) (λ t. IsWellFormedWord (tier_word T t))
    (λ t. (well_formed_from_runs (tier_word T t), runs_from_well_formed (tier_word T t))) width))
    (λ h. record { one_width = h.0; each_tier = h.1 })
    (λ w. (w.one_width, w.each_tier))

pub Decides-reduced : (T : List (List Sym)) → Decides (list_all has_edge T) (IsReduced T)
Decides-reduced T =
    all_recursive has_edge (λ column. IsTrue (has_edge column)) (λ column. Decides-true (has_edge column)) T

abbrev pub is_form : Tiers → List (List Sym) → Bool
is_form tiers u = is_well_formed (length tiers.input) u && list_all has_edge u

pub Decides-form : (tiers : Tiers) (u : List (List Sym)) → Decides (is_form tiers u) (IsForm tiers u)
Decides-form tiers u =
    Decides-by (Decides-and (is_well_formed (length tiers.input) u) (list_all has_edge u)
    (Decides-well_formed (length tiers.input) u) (Decides-reduced u))
    (λ h. record { well_formed = h.0; reduced = h.1 })
    (λ f. (f.well_formed, f.reduced))

abbrev pub is_candidate : Problem → List (List Sym) → Bool
is_candidate problem T =
    is_well_formed problem.tiers.width T
    && (list_all has_edge T && same_timeline (squeeze (project problem.tiers.input T)) problem.form)

pub Decides-candidate : (problem : Problem) (T : List (List Sym))
    → Decides (is_candidate problem T) (IsCandidate problem T)
Decides-candidate problem T =
    let input : List (List Sym) = squeeze (project problem.tiers.input T) in
    Decides-by (Decides-and (is_well_formed problem.tiers.width T)
    (list_all has_edge T && same_timeline input problem.form)
    (Decides-well_formed problem.tiers.width T)
    (Decides-and (list_all has_edge T) (same_timeline input problem.form)
    (Decides-reduced T) (Decides-timeline input problem.form)))
    (λ h. record { well_formed = h.0; reduced = h.1.0; input = h.1.1 })
    (λ c. (c.well_formed, (c.reduced, c.input)))

-- the head of an answer: its form, the number of its stages, its example and its counts
abbrev pub head_passes : Problem → List ℕ → List (List Sym) → ℕ → Bool
head_passes problem counts example stages =
    is_form problem.tiers problem.form && (nat_le (last_place problem) 64 && ((stages == (last_stage problem + 1))
    && (is_candidate problem example && same_numbers counts (counts_on problem example))))

abbrev pub is_certified : Problem → List ℕ → List (List Sym) → ℕ → Listing → List StateValue → Bool
is_certified problem counts example stages at states =
    head_passes problem counts example stages
    && (below (last_stage problem + 1) (stage_passes problem counts at) && automaton_passes problem at states)

module _ (problem : Problem) (answer : Answer) (form : answer.form ≡ problem.form) where
  abbrev counts : List ℕ
  counts = answer.counts.items

  abbrev size : ℕ
  size = length answer.stages.items

  abbrev at : Listing
  at = nodes_seen problem answer.stages.items

  abbrev states : List StateValue
  states = map state_value answer.automaton.states.items

  abbrev IsRightHead : Type 0
  IsRightHead = IsForm problem.tiers problem.form × ((last_place problem ≤ 64) × ((size ≡ last_stage problem + 1)
      × (IsCandidate problem answer.example × (counts ≡ counts_on problem answer.example))))

  Decides-head : Decides (head_passes problem counts answer.example size) IsRightHead
  Decides-head =
      let formed : Bool = is_form problem.tiers problem.form in
      let short : Bool = nat_le (last_place problem) 64 in
      let staged : Bool = size == (last_stage problem + 1) in
      let fit : Bool = is_candidate problem answer.example in
      let counted : Bool = same_numbers counts (counts_on problem answer.example) in
      Decides-and formed (short && (staged && (fit && counted))) (Decides-form problem.tiers problem.form)
      (Decides-and short (staged && (fit && counted)) (Decides-leb (last_place problem) 64)
      (Decides-and staged (fit && counted) (Decides-eqb size (last_stage problem + 1))
      (Decides-and fit counted (Decides-candidate problem answer.example)
      (Decides-numbers counts (counts_on problem answer.example)))))

  Decides-stages : Decides (below (last_stage problem + 1) (stage_passes problem counts at))
      ((r : ℕ) → r ≤ last_stage problem → IsCertifiedStage problem counts answer.stages.items r)
  Decides-stages =
      Decides-by (Decides-below (stage_passes problem counts at) (IsCertifiedStage problem counts answer.stages.items)
      (λ r. Decides-stage problem answer.stages.items r counts) (last_stage problem + 1))
      (λ h r l. h r (omega arith))
      (λ h r l. h r (omega arith))

  pub Decides-certified : Decides (is_certified problem counts answer.example size at states)
      (IsCertified problem answer)
  Decides-certified =
      let stages : Bool = below (last_stage problem + 1) (stage_passes problem counts at) in
      Decides-by (Decides-and (head_passes problem counts answer.example size)
      (stages && automaton_passes problem at states) Decides-head
      (Decides-and stages (automaton_passes problem at states) Decides-stages
      (Decides-automaton problem answer.stages.items answer.automaton.states.items)))
      (λ h. record {
        form = form;
        well_formed = h.0.0;
        short = h.0.1.0;
        stage_count = h.0.1.1.0;
        example = h.0.1.1.1.0;
        counts = h.0.1.1.1.1;
        each_stage = h.1.0;
        automaton = h.1.1;
      })
      (λ c. (
        (c.well_formed, (c.short, (c.stage_count, (c.example, c.counts)))),
        (c.each_stage, c.automaton),
      ))

-- the nodes of an answer, stage by stage
abbrev pub listing : List (List NodeValue) → Listing
listing stages r = slice_index_or stages r []

module _ (problem : Problem) (answer : Answer) (counts : List ℕ) (example : List (List Sym))
    (stages : List (List NodeValue)) (states : List StateValue)
    (s : IsSeenAs problem answer counts example stages states) where
  -- the tests by what is written are those by what is seen
  told : is_certified problem counts example (length stages) (listing stages) states
      ≡ is_certified problem answer.counts.items answer.example (length answer.stages.items)
      (nodes_seen problem answer.stages.items) (map state_value answer.automaton.states.items)
  told = sym (λ i. is_certified problem (s.counts_are i) (s.example_is i) (s.stage_count i)
      (λ r. s.nodes_are r i) (s.states_are i))

  pub certified_seen : Decides (is_certified problem counts example (length stages) (listing stages) states)
      (IsCertified problem answer)
  certified_seen =
      Decides-at (is_certified problem counts example (length stages) (listing stages) states)
      (is_certified problem answer.counts.items answer.example (length answer.stages.items)
      (nodes_seen problem answer.stages.items) (map state_value answer.automaton.states.items)) told
      (Decides-certified problem answer s.form_is)

  pub in_order : (width : ℕ) → states_ascend width states ≡ true
      → AreStatesInOrder width answer.automaton.states.items
  in_order width e =
      (Decides-in_order width answer.automaton.states.items).0 (ap (states_ascend width) s.states_are ∙ e)

-- An answer is not certified if a test of its head, of a stage or of its automaton fails.
module _ {problem : Problem} {answer : Answer} {counts : List ℕ} {example : List (List Sym)}
    {stages : List (List NodeValue)} {states : List StateValue}
    (s : IsSeenAs problem answer counts example stages states) where
  abbrev staged : Bool
  staged = below (last_stage problem + 1) (stage_passes problem counts (listing stages))

  abbrev led : Bool
  led = automaton_passes problem (listing stages) states

  tests : IsCertified problem answer
      → (IsTrue (head_passes problem counts example (length stages))) × (IsTrue (staged && led))
  tests c = and_parts (head_passes problem counts example (length stages)) (staged && led)
      ((certified_seen problem answer counts example stages states s).1 c)

  pub refused_head : head_passes problem counts example (length stages) ≡ false → IsCertified problem answer → ⊥
  refused_head e c = false≢true (sym e ∙ (tests c).0)

  pub refused_stage : (r : ℕ) → r ≤ last_stage problem → stage_passes problem counts (listing stages) r ≡ false
      → IsCertified problem answer → ⊥
  refused_stage r l e c =
      let each = (Decides-below (stage_passes problem counts (listing stages))
      (λ i. IsTrue (stage_passes problem counts (listing stages) i))
      (λ i. Decides-true (stage_passes problem counts (listing stages) i)) (last_stage problem + 1)).0
      (and_parts staged led (tests c).1).0 in
      false≢true (sym e ∙ each r (omega arith))

  pub refused_automaton : automaton_passes problem (listing stages) states ≡ false → IsCertified problem answer → ⊥
  refused_automaton e c = false≢true (sym e ∙ (and_parts staged led (tests c).1).1)
