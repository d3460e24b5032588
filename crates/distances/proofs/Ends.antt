-- The first weights, the last ones, and sizes.
use Rattle.std.proofs.Common.{◌≡◌, ℕ, zero, suc, ◌+◌, ◌*◌, ◌<◌, ◌≤◌, Bool, true, false, List, [], ◌∷◌, Option, None}
use Rattle.std.proofs.Common.{Some, map, length, get_or, refl, sym, ap, ◌∙◌, subst, arith, inl, inr}
use Rattle.std.proofs.{lemmas.Bool.cases_lt, lemmas.List.Elements.Contains-get_or}
use Rattle.std.proofs.Math.Nat.{mul-le-mul_left, mul-le-mul_right}
use Rattle.std.specs.Prelude.{Contains, All, MatchOption}
use Rattle.weight_law.specs.{declared.Weight.Ghosts, Meaning.IsLawful}
use Rattle.weight_law.proofs.Order.{at_most-itself, at_most-sum_left}
use Rattle.arc_table.specs.{declared.arc.TableArc.TableArc, declared.state.TableState.TableState}
use Rattle.arc_table.specs.{Moves.{moves_at, accepting_at}, Conditions.TargetsExist}
use Rattle.arc_table.specs.Runs.{IsRun, weight_of, SizesWithin, HasNoRun, IsLeastFrom}
use Rattle.distances.specs.{Best.{nothing_yet, initial_of, FitsBoth}, Least.AreLeast}
use Rattle.distances.specs.Rounds.{IsKnownWithin, IsWitness, AreWitnessed, IsCovered, AreClosed}
use Rattle.distances.proofs.Witness.{lawful-weight_of, IsKnownWithin-more, run_of, short}

get_or-map : {X Y : Type 0} (f : X → Y) (xs : List X) (i : ℕ) (d : X) → get_or (map f xs) i (f d) ≡ f (get_or xs i d)
get_or-map f [] i d = refl
get_or-map f (x ∷ xs) zero d = refl
get_or-map f (x ∷ xs) (suc i) d = get_or-map f xs i d

mul-le_cancel : (n a b : ℕ) → 0 < n → n * a ≤ n * b → a ≤ b
mul-le_cancel n a b pos h = elim (cases_lt b a) [
  | inl l ↦ absurd (let k : b + 1 ≤ a = omega arith in omega (arith, mul-le-mul_left n k))
  | inr l ↦ l
]

module _ {W : Type 0} {g : Ghosts W} (laws : IsLawful g.meaning) (states : List (TableState W g)) where
  initial_at : (s : ℕ) → get_or (initial_of states) s None ≡ nothing_yet g.meaning (accepting_at states s)
  initial_at s = get_or-map (nothing_yet g.meaning) (map (λ state. state.accepting) states) s false

  pub initial-witnessed : AreWitnessed states (initial_of states)
  initial-witnessed s w e = go (accepting_at states s) refl (sym (initial_at s) ∙ e)
    where
      go : (t : Bool) → accepting_at states s ≡ t → nothing_yet g.meaning t ≡ Some w
          → (arcs : List (TableArc W g)) × IsWitness states (initial_of states) s arcs × (weight_of arcs ≡ w)
      go false a f = cc
      go true a f =
          let P : Option W → Type 0 = λ o. IsKnownWithin g.meaning o g.meaning.zero in
          let self : P (Some g.meaning.zero) =
          (laws.lawful_zero, at_most-itself laws g.meaning.zero laws.lawful_zero) in
          let known : get_or (initial_of states) s None ≡ Some g.meaning.zero = initial_at s
          ∙ ap (nothing_yet g.meaning) a in
          ([], (a, subst P (sym known) self), cc)

  pub initial-covered : IsCovered states (initial_of states) 0
  initial-covered s [] inside run few =
      let P : Option W → Type 0 = λ o. IsKnownWithin g.meaning o g.meaning.zero in
      let self : P (Some g.meaning.zero) =
      (laws.lawful_zero, at_most-itself laws g.meaning.zero laws.lawful_zero) in
      subst P (sym (initial_at s ∙ ap (nothing_yet g.meaning) run)) self
  initial-covered s (arc ∷ arcs) inside run few = absurd (omega arith)

  -- where no move leads to less, every run weighs at least what is known
  within_all : TargetsExist states → (least : List (Option W)) → IsCovered states least 0 → AreClosed states least
      → (s : ℕ) (arcs : List (TableArc W g)) → s < length states → IsRun states s arcs
      → IsKnownWithin g.meaning (get_or least s None) (weight_of arcs)
  within_all exist least cov closed s [] inside run = cov s [] inside run (omega arith)
  within_all exist least cov closed s (arc ∷ arcs) inside run =
      go (get_or least arc.target None) refl
      (within_all exist least cov closed arc.target arcs (exist s arc run.0) run.1)
    where
      go : (o : Option W) → get_or least arc.target None ≡ o → IsKnownWithin g.meaning o (weight_of arcs)
          → IsKnownWithin g.meaning (get_or least s None) (weight_of (arc ∷ arcs))
      go None e h = absurd h
      go (Some u) e h =
          IsKnownWithin-more laws (get_or least s None) (g.meaning.sum arc.weight u) (weight_of (arc ∷ arcs))
          (laws.lawful_sum arc.weight u arc.lawful h.0) (lawful-weight_of laws (arc ∷ arcs))
          (closed s arc u inside run.0 e)
          (at_most-sum_left laws u (weight_of arcs) arc.weight h.0 (lawful-weight_of laws arcs) arc.lawful h.1)

  pub least-closed : TargetsExist states → (least : List (Option W)) → length least ≡ length states
      → AreWitnessed states least → IsCovered states least 0 → AreClosed states least → AreLeast states least
  least-closed exist least same wit cov closed = record { each_state = same; each = each }
    where
      each : (s : ℕ) → s < length states → MatchOption (get_or least s None) (HasNoRun states s) (IsLeastFrom states s)
      each s inside = go (get_or least s None) refl
        where
          go : (o : Option W) → get_or least s None ≡ o → MatchOption o (HasNoRun states s) (IsLeastFrom states s)
          go None e = λ arcs run. (let P : Option W
              → Type 0 = λ o. IsKnownWithin g.meaning o (weight_of arcs) in subst P e
              (within_all exist least cov closed s arcs inside run))
          go (Some w) e = record {
            some = (let found = wit s w e in (found.0, run_of laws states least s found.0 found.1, found.2));
            least = λ arcs run. (let P : Option W
                → Type 0 = λ o. IsKnownWithin g.meaning o (weight_of arcs) in let h : P (Some w) = subst P e
                (within_all exist least cov closed s arcs inside run) in h.1);
          }

  -- once the runs of as many moves as there are states are covered, no move leads to less
  pub closed-covered : TargetsExist states → (least : List (Option W)) → AreWitnessed states least
      → IsCovered states least (length states) → AreClosed states least
  closed-covered exist least wit cov s arc w inside here known =
      let old = wit arc.target w known in
      let rest = old.0 in
      let run : IsRun states s (arc ∷ rest) = (here, run_of laws states least arc.target rest old.1) in
      let few : length rest + 1 ≤ length states = short laws states least exist arc.target rest
      (exist s arc here) old.1 in
      let P : W → Type 0 = λ x. IsKnownWithin g.meaning (get_or least s None) (g.meaning.sum arc.weight x) in
      subst P old.2 (cov s (arc ∷ rest) inside run (omega arith))

  -- the size of a run
  size-weight_of : (n : ℕ) → SizesWithin states n → (s : ℕ) (arcs : List (TableArc W g)) → IsRun states s arcs
      → length states * g.meaning.size (weight_of arcs) ≤ length arcs * n
  size-weight_of n sizes s [] run = rw laws.size_zero (omega arith)
  size-weight_of n sizes s (arc ∷ arcs) run =
      let here = sizes s arc run.0 in
      let rest = size-weight_of n sizes arc.target arcs run.1 in
      let both = laws.size_sum arc.weight (weight_of arcs) arc.lawful (lawful-weight_of laws arcs) in
      omega (arith, here, rest, mul-le-mul_left (length states) both)

  pub fits : (n : ℕ) → TargetsExist states → SizesWithin states n → (least : List (Option W))
      → AreWitnessed states least → (s : ℕ) (arc : TableArc W g) → Contains (moves_at states s) arc → (w : W)
      → get_or least arc.target None ≡ Some w → g.meaning.size arc.weight + g.meaning.size w ≤ n
  fits n exist sizes least wit s arc here w known =
      let old = wit arc.target w known in
      let inside = exist s arc here in
      let few : length old.0 + 1 ≤ length states = short laws states least exist arc.target old.0 inside old.1 in
      let rest : length states * g.meaning.size w ≤ length old.0 * n =
      (let P : W → Type 0 = λ x. length states * g.meaning.size x ≤ length old.0 * n in subst P old.2
      (size-weight_of n sizes arc.target old.0 (run_of laws states least arc.target old.0 old.1))) in
      let own = sizes s arc here in
      mul-le_cancel (length states) (g.meaning.size arc.weight + g.meaning.size w) n (omega arith)
      (omega (arith, own, rest, mul-le-mul_right n few))

  pub fits_each : (n : ℕ) → TargetsExist states → SizesWithin states n → n ≤ 4294967295 → (least : List (Option W))
      → AreWitnessed states least → (s : ℕ)
      → All (λ arc. FitsBoth g.meaning arc.weight (get_or least arc.target None)) (moves_at states s)
  fits_each n exist sizes most least wit s k d inside =
      let arc = get_or (moves_at states s) k d in
      go arc (Contains-get_or (moves_at states s) k d inside) (get_or least arc.target None) refl
    where
      go : (arc : TableArc W g) → Contains (moves_at states s) arc → (o : Option W) → get_or least arc.target None ≡ o
          → FitsBoth g.meaning arc.weight o
      go arc here None e = tt
      go arc here (Some w) e = omega (arith, fits n exist sizes least wit s arc here w e)
