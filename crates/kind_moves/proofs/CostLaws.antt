-- What the moves of a frame cost in all.
use Rattle.std.proofs.Common.{◌≡◌, ◌++◌, ◌+◌, ◌<◌, ◌≤◌, ◌^◌, ℕ, zero, suc, Bool, cond, List, [], ◌∷◌, map, filter}
use Rattle.std.proofs.Common.{take, drop, length, get_or, refl, sym, ap, ◌∙◌, subst, arith, append-nil}
use Rattle.std.proofs.{Common.{append_assoc, length-take}, lemmas.List.{length_push, get_or-take}}
use Rattle.std.proofs.lemmas.List.Elements.{All-from_recursion}
use Rattle.std.specs.List.{AllByRecursion}
use Rattle.tier_core.specs.{declared.kind.Kind.Kind, declared.sym.Sym.Sym, declared.constraint.Constraint.Constraint}
use Rattle.tier_core.specs.{Kinds.Phase, Tiers.has_tier, Sides.is_stretch}
use Rattle.tier_core.proofs.CountLemmas.{all_of}
use Rattle.grammar_reader.proofs.OverTiers.{over_tiers}
use Rattle.violation.specs.{Candidates.{IsForm, IsCandidate, counts_on}, Conditions.{AreSplit, IsOverTiers}}
use Rattle.violation.specs.Counts.{violations_so_far}
use Rattle.violation.specs.Moves.{costs, first_phase, is_tier_open, is_unmet_phase, move_costs, next_kind}
use Rattle.weight_law.specs.{Ranked.add_each, RankedLaws.sum-assoc}
use Rattle.violation.specs.{Prefixes.{kind_of, stretches}, Walks.walk_costs}
use Rattle.violation.specs.Problems.{Problem, last_stage}
use Rattle.violation.proofs.CostLemmas.{costs_agree, length_walk, move_adds, costs_sum, add_none}
use Rattle.violation.proofs.{SplitLemmas.tiers_split, TierLemmas.map_agree, WalkLemmas.moved_is}
use Rattle.violation.proofs.{WholeCounts.so_far_none, ConstraintCosts.{unmet_told, cost_at}}
use Rattle.kind_moves.specs.{declared.frame.Frame.Frame, Frames.{tiers_in, constraints_in, form_in, stretches_in}}
use Rattle.kind_moves.specs.Frames.{kind_at_stage, IsStart, problem_in}
use Rattle.kind_moves.proofs.GrammarTiers.{over_stretches, form_from}

all_taken : {X : Type 0} (P : X → Type 0) (xs : List X) (n : ℕ) → AllByRecursion P xs → AllByRecursion P (take n xs)
all_taken P xs zero h = tt
all_taken P [] (suc n) h = tt
all_taken P (x ∷ xs) (suc n) h = (h.0, all_taken P xs n h.1)

take_less : {X : Type 0} (xs : List X) (i n : ℕ) → i ≤ n → take i (take n xs) ≡ take i xs
take_less xs zero n l = refl
take_less [] (suc i) zero l = absurd (omega arith)
take_less [] (suc i) (suc n) l = refl
take_less (x ∷ xs) (suc i) zero l = absurd (omega arith)
take_less (x ∷ xs) (suc i) (suc n) l = ap (λ ys. x ∷ ys) (take_less xs i n (omega arith))

-- ---- one move

-- each constraint of a frame is over its tiers
pub over_at : (frame : Frame) (number : ℕ) (c : Constraint) → number < last_stage (problem_in frame)
    → c ≡ get_or (constraints_in frame) number c → IsOverTiers (tiers_in frame).width c
over_at frame number c l is = subst (IsOverTiers (tiers_in frame).width) (sym is)
    (All-from_recursion (IsOverTiers (tiers_in frame).width) (constraints_in frame)
    (over_tiers frame.grammar.now) number c l)

-- what a move costs under the constraint after so many
pub move_cost : (frame : Frame) (stage number place mask : ℕ) (kind : Kind) (column : List Sym) (c : Constraint)
    (is_unmet b : Bool)
    → stage ≤ last_stage (problem_in frame) → number < stage → c ≡ get_or (constraints_in frame) number c
    → place ≡ length (filter is_stretch (take number (constraints_in frame)))
    → ((t : ℕ) → has_tier mask t ≡ is_tier_open (problem_in frame) (kind_at_stage frame stage kind) t)
    → is_unmet ≡ has_tier kind.unmet place → kind.unmet < 2 ^ length (stretches_in frame stage)
    → ((phase : Phase) → is_unmet ≡ is_unmet_phase phase → b
    ≡ costs c.family c.left c.right (has_tier mask) phase column)
    → cond b 1 0 ≡ get_or (move_costs (problem_in frame) stage (kind_at_stage frame stage kind) column) number 0
move_cost frame stage number place mask kind column c is_unmet b few within is count opened unmet below on =
    let cs = constraints_in frame in
    let k = kind_at_stage frame stage kind in
    let ph = first_phase (drop place k.phases) in
    let size = length-take stage cs in
    let at : c ≡ get_or (take stage cs) number c = is ∙ sym (get_or-take stage cs number c within) in
    let before : place ≡ length (filter is_stretch (take number (take stage cs))) = count
    ∙ ap (λ xs. length (filter is_stretch xs)) (sym (take_less cs number stage (omega arith))) in
    ap (λ x. cond x 1 0)
    (on ph (unmet ∙ unmet_told kind (length (stretches_in frame stage)) place below)
    ∙ costs_agree c.family c.left c.right (has_tier mask) (is_tier_open (problem_in frame) k) ph column
    (all_of _ (c.left ++ c.right) (λ e. opened e.tier)))
    ∙ cost_at (take stage cs) (is_tier_open (problem_in frame) k) k.phases column number place c c
    (omega (arith, size)) at before

-- ---- moves in turn

add_nothing : (f : Constraint → ℕ) (cs : List Constraint) → map f cs ≡ add_each (map f cs) (map (λ c. 0) cs)
add_nothing f [] = refl
add_nothing f (c ∷ cs) = let same : f c ≡ f c + 0 = omega arith in ap (λ n. n ∷ map f cs) same
    ∙ ap (λ ns. (f c + 0) ∷ ns) (add_nothing f cs)

module _ (problem : Problem) (r : ℕ) (split : AreSplit problem.tiers) (form : IsForm problem.tiers problem.form)
    (over : AllByRecursion (IsOverTiers problem.tiers.width) (take r problem.constraints))
    (stretches_over : AllByRecursion (IsOverTiers problem.tiers.width) (stretches problem r)) where
  -- what a candidate has violated after more columns, and what the moves by them cost
  pub costs_so_far : (q p w T : List (List Sym)) → T ≡ p ++ (q ++ w) → IsCandidate problem T
      → map (λ c. violations_so_far c T (length (p ++ q))) (take r problem.constraints)
      ≡ add_each (map (λ c. violations_so_far c T (length p)) (take r problem.constraints))
      (walk_costs problem r (kind_of problem r p) q)
  costs_so_far [] p w T e c =
      ap (λ n. map (λ c. violations_so_far c T n) (take r problem.constraints)) (ap length (append-nil p))
      ∙ add_nothing (λ c. violations_so_far c T (length p)) (take r problem.constraints)
  costs_so_far (column ∷ q) p w T e c =
      let on : T ≡ (p ++ column ∷ []) ++ (q ++ w) = e ∙ sym (append_assoc p (column ∷ []) (q ++ w)) in
      let next : next_kind problem r (kind_of problem r p) column ≡ kind_of problem r (p ++ column ∷ []) =
      moved_is problem r split form stretches_over p column (q ++ w, subst (IsCandidate problem) on c) in
      let size : length (p ++ column ∷ []) ≡ suc (length p) = omega (arith, length_push p column) in
      ap (λ (x : List (List Sym)). map (λ c. violations_so_far c T (length x)) (take r problem.constraints))
      (sym (append_assoc p (column ∷ []) q))
      ∙ costs_so_far q (p ++ column ∷ []) w T on c
      ∙ ap (λ n. add_each (map (λ c. violations_so_far c T n) (take r problem.constraints))
      (walk_costs problem r (kind_of problem r (p ++ column ∷ [])) q)) size
      ∙ ap (λ ns. add_each ns (walk_costs problem r (kind_of problem r (p ++ column ∷ [])) q))
      (move_adds problem r split form over T p column (q ++ w) e c)
      ∙ sum-assoc (map (λ c. violations_so_far c T (length p)) (take r problem.constraints))
      (move_costs problem r (kind_of problem r p) column)
      (walk_costs problem r (kind_of problem r (p ++ column ∷ [])) q)
      ∙ ap (λ k. add_each (map (λ c. violations_so_far c T (length p)) (take r problem.constraints))
      (add_each (move_costs problem r (kind_of problem r p) column) (walk_costs problem r k q))) (sym next)

module _ (frame : Frame) (stage : ℕ) (start : Kind) (is_first : IsStart frame stage start) where
  split : AreSplit (tiers_in frame)
  split = tiers_split frame.grammar.now.tiers.kinds.items

  form : IsForm (tiers_in frame) (form_in frame)
  form = form_from (problem_in frame) frame.well_formed

  over : AllByRecursion (IsOverTiers (tiers_in frame).width) (take stage (constraints_in frame))
  over = all_taken (IsOverTiers (tiers_in frame).width) (constraints_in frame) stage (over_tiers frame.grammar.now)

  pub prefix_costs : (p q : List (List Sym)) → IsCandidate (problem_in frame) (p ++ q)
      → walk_costs (problem_in frame) stage (kind_at_stage frame stage start) p
      ≡ map (λ c. violations_so_far c (p ++ q) (length p)) (take stage (constraints_in frame))
  prefix_costs p q c =
      let none : map (λ x. violations_so_far x (p ++ q) 0) (take stage (constraints_in frame))
      ≡ map (λ x. 0) (take stage (constraints_in frame)) =
      map_agree (λ x. violations_so_far x (p ++ q) 0) (λ x. 0) (take stage (constraints_in frame))
      (all_of _ (take stage (constraints_in frame)) (λ x. so_far_none x.family x.left x.right (p ++ q))) in
      ap (λ k. walk_costs (problem_in frame) stage k p) is_first.is
      ∙ sym (costs_so_far (problem_in frame) stage split form over (over_stretches frame.grammar.now stage) p [] q
      (p ++ q) refl c
      ∙ ap (λ ns. add_each ns (walk_costs (problem_in frame) stage (kind_of (problem_in frame) stage []) p)) none
      ∙ add_none (take stage (constraints_in frame)) (walk_costs (problem_in frame) stage
      (kind_of (problem_in frame) stage []) p)
      (length_walk (problem_in frame) stage split form over p (kind_of (problem_in frame) stage [])))

  pub whole_costs : (T : List (List Sym)) → IsCandidate (problem_in frame) T
      → walk_costs (problem_in frame) stage (kind_at_stage frame stage start) T
      ≡ take stage (counts_on (problem_in frame) T)
  whole_costs T c =
      ap (λ k. walk_costs (problem_in frame) stage k T) is_first.is
      ∙ sym (costs_sum (problem_in frame) stage split form over T c)
