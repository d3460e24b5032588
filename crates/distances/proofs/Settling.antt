-- What is kept by a look at one move turned round, and at all moves to a state.
use Rattle.std.proofs.Common.{◌≡◌, ℕ, ◌+◌, ◌<◌, ◌≤◌, true, false, List, [], ◌∷◌, Option, None, Some, set, length}
use Rattle.std.proofs.{Common.{get_or, ap, ◌∙◌, subst, arith, ◌⊎◌, inl, inr}, lemmas.Bool.{cases_eq, cases_lt}}
use Rattle.std.proofs.lemmas.List.{length-set, get_or-set_same, get_or-set_other, get_or_past}
use Rattle.std.proofs.lemmas.List.Elements.{Contains-get_or}
use Rattle.std.specs.Prelude.{Contains, All, IsTrue, if◌then◌else◌}
use Rattle.tier_core.proofs.Members.{contains_first}
use Rattle.weight_law.specs.{declared.Weight.Ghosts, Meaning.IsLawful}
use Rattle.weight_law.proofs.Order.{at_most-added}
use Rattle.arc_table.specs.{declared.arc.TableArc.TableArc, declared.state.TableState.TableState}
use Rattle.arc_table.specs.{declared.incoming_move.IncomingMove.IncomingMove, declared.incoming.Incoming.Incoming}
use Rattle.arc_table.specs.{Moves.moves_at, Conditions.TargetsExist, Incoming.{HasMove, moves_into, AreReverseMoves}}
use Rattle.arc_table.specs.Runs.{SizesWithin}
use Rattle.arc_table.proofs.Push.{moves_exist}
use Rattle.distances.specs.{Best.{lesser_of, weight_through, best_of}, Rounds.AreWitnessed}
use Rattle.distances.specs.Settled.{lower_at, relax_all, KeepsWitnesses}
use Rattle.distances.proofs.{Looks.{tail_in, head_or_tail}, Steps.{step-witnessed, step-covered}, Ends.fits}

-- only states have a weight
pub known_inside : {W : Type 0} (least : List (Option W)) (s : ℕ) (w : W) → get_or least s None ≡ Some w
    → s < length least
known_inside least s w e = elim (cases_lt s (length least)) [
  | inl l ↦ l
  | inr l ↦ (let gone : get_or least s None ≡ None = get_or_past least s None l in cc)
]

module _ {W : Type 0} {g : Ghosts W} (laws : IsLawful g.meaning) (states : List (TableState W g)) where
  pub kept_itself : (least : List (Option W)) → length least ≡ length states → AreWitnessed states least
      → KeepsWitnesses states least least
  kept_itself least same wit = record { each_state = same; witnessed = wit; covered = λ k cov. cov }

  pub kept_both : (old mid new : List (Option W)) → KeepsWitnesses states old mid → KeepsWitnesses states mid new
      → KeepsWitnesses states old new
  kept_both old mid new first second = record {
    each_state = second.each_state;
    witnessed = second.witnessed;
    covered = λ k cov. second.covered k (first.covered k cov);
  }

  -- one move
  one-kept : (least : List (Option W)) → AreWitnessed states least → length least ≡ length states
      → (s : ℕ) (arc : TableArc W g) (w : W) → s < length states → Contains (moves_at states s) arc
      → get_or least arc.target None ≡ Some w
      → KeepsWitnesses states least (lower_at g.meaning least s (g.meaning.sum arc.weight w))
  one-kept least wit same s arc w inside here known =
      let within : s < length least = omega (arith, same) in
      let one : (a : TableArc W g) → Contains (arc ∷ []) a
      → Contains (moves_at states s) a = λ a inn. only a (head_or_tail arc a [] inn) in
      let P : Option W → Type 0 = λ o. KeepsWitnesses states least
      (set least s (lesser_of g.meaning (get_or least s None) (weight_through g.meaning arc.weight o))) in
      let looked : P (get_or least arc.target None) = record {
        each_state = length-set least s (best_of least (get_or least s None) (arc ∷ [])) ∙ same;
        witnessed = step-witnessed laws states least wit s within (arc ∷ []) one;
        covered = λ k cov. step-covered laws states least wit s within (arc ∷ []) one k cov;
      } in
      subst P known looked
    where
      only : (a : TableArc W g) → (arc ≡ a) ⊎ Contains [] a → Contains (moves_at states s) a
      only a (inl is) = (let P : TableArc W g → Type 0 = λ x. Contains (moves_at states s) x in subst P is here)
      only a (inr none) = absurd (omega (arith, none.1))

  -- a move gives its own target nothing less
  still_known : (least : List (Option W)) (t s : ℕ) (w c : W) → g.meaning.lawful w ≡ true → g.meaning.lawful c ≡ true
      → t < length least → get_or least t None ≡ Some w
      → get_or (lower_at g.meaning least s (g.meaning.sum c w)) t None ≡ Some w
  still_known least t s w c pw pc within known = elim (cases_eq t s) [
    | inl same ↦
        (let P : ℕ → Type 0 = λ x. get_or (lower_at g.meaning least x (g.meaning.sum c w)) t None ≡ Some w in
        let not : g.meaning.below (g.meaning.sum c w) w ≡ false = at_most-added laws w c pw pc in
        let own : lesser_of g.meaning (get_or least t None) (Some (g.meaning.sum c w)) ≡ Some w =
        ap (λ o. lesser_of g.meaning o (Some (g.meaning.sum c w))) known
        ∙ ap (λ b. if b then Some (g.meaning.sum c w) else Some w) not in
        let here : P t = get_or-set_same least t
        (lesser_of g.meaning (get_or least t None) (Some (g.meaning.sum c w))) None within ∙ own in
        subst P same here)
    | inr ne ↦ get_or-set_other least s t
        (lesser_of g.meaning (get_or least s None) (Some (g.meaning.sum c w))) None ne ∙ known
  ]

  -- all moves to state t
  pub relax_all-kept : (t : ℕ) (w : W) → t < length states → g.meaning.lawful w ≡ true
      → (moves : List (IncomingMove W)) (least : List (Option W)) → AreWitnessed states least
      → length least ≡ length states → get_or least t None ≡ Some w
      → ((move : IncomingMove W) → Contains moves move → HasMove states move.source move.weight t)
      → KeepsWitnesses states least (relax_all g.meaning w least moves)
  relax_all-kept t w ins pw [] least wit same known has = kept_itself least same wit
  relax_all-kept t w ins pw (move ∷ moves) least wit same known has =
      let own = has move (contains_first move moves) in
      let arc = own.0 in
      let P : W → Type 0 = λ x. KeepsWitnesses states least
      (lower_at g.meaning least move.source (g.meaning.sum x w)) in
      let Q : W → Type 0 = λ x. get_or (lower_at g.meaning least move.source (g.meaning.sum x w)) t None ≡ Some w in
      let target : get_or least arc.target None ≡ Some w = ap (λ x. get_or least x None) own.2 ∙ known in
      let first : P move.weight = subst P own.3
      (one-kept least wit same move.source arc w (moves_exist states move.source arc own.1) own.1 target) in
      let still : Q move.weight = subst Q own.3
      (still_known least t move.source w arc.weight pw arc.lawful (omega (arith, same)) known) in
      let next = lower_at g.meaning least move.source (g.meaning.sum move.weight w) in
      kept_both least next (relax_all g.meaning w next moves) first
      (relax_all-kept t w ins pw moves next first.witnessed first.each_state still
      (λ m inn. has m (tail_in move m moves inn)))

  -- what the moves turned round have to be
  module _ (exist : TargetsExist states) (incoming : Incoming W g) (turned : AreReverseMoves states incoming) (t : ℕ)
      (ins : t < length states) where
    has_move : (move : IncomingMove W) → Contains (moves_into incoming t) move
        → HasMove states move.source move.weight t
    has_move move here = (turned.each t move ins).0 here

    pub sources_each : (n : ℕ) → n ≡ length states → All (λ move. move.source < n) (moves_into incoming t)
    sources_each n same k d l =
        let move = get_or (moves_into incoming t) k d in
        let own = has_move move (Contains-get_or (moves_into incoming t) k d l) in
        omega (arith, moves_exist states move.source own.0 own.1, same)

    pub lawful_each : All (λ move. IsTrue (g.meaning.lawful move.weight)) (moves_into incoming t)
    lawful_each k d l =
        let own = has_move (get_or (moves_into incoming t) k d) (Contains-get_or (moves_into incoming t) k d l) in
        let P : W → Type 0 = λ x. g.meaning.lawful x ≡ true in
        subst P own.3 own.0.lawful

    pub sizes_each : SizesWithin states 4294967295 → (least : List (Option W)) → AreWitnessed states least → (w : W)
        → get_or least t None ≡ Some w → All (λ move. g.meaning.size move.weight + g.meaning.size w ≤ 4294967295)
        (moves_into incoming t)
    sizes_each sizes least wit w known k d l =
        let move = get_or (moves_into incoming t) k d in
        let own = has_move move (Contains-get_or (moves_into incoming t) k d l) in
        let P : W → Type 0 = λ x. g.meaning.size x + g.meaning.size w ≤ 4294967295 in
        subst P own.3 (fits laws states 4294967295 exist sizes least wit move.source own.0 own.1 w
        (ap (λ x. get_or least x None) own.2 ∙ known))

    pub incoming-kept : (least : List (Option W)) → AreWitnessed states least → length least ≡ length states → (w : W)
        → g.meaning.lawful w ≡ true → get_or least t None ≡ Some w
        → KeepsWitnesses states least (relax_all g.meaning w least (moves_into incoming t))
    incoming-kept least wit same w pw known = relax_all-kept t w ins pw
        (moves_into incoming t) least wit same known has_move
