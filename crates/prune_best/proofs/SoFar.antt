-- The new states that are made so far.
use Rattle.std.proofs.Common.{◌≡◌, ℕ, ◌<◌, ◌≤◌, Bool, List, [], ◌∷◌, ◌++◌, Option, None, length, get_or, refl, sym}
use Rattle.std.proofs.{Common.{ap, ◌∙◌, subst, arith, inl, inr}, lemmas.Bool.cases_lt, lemmas.List.length_push}
use Rattle.std.specs.Prelude.{Contains, IsSome}
use Rattle.weight_law.specs.declared.Weight.{Ghosts}
use Rattle.arc_table.specs.{declared.arc.TableArc.TableArc, declared.state.TableState.TableState}
use Rattle.arc_table.specs.{Moves.{moves_at, accepting_at}, Runs.IsPath}
use Rattle.arc_table.proofs.Push.{moves_exist, accepting_old, accepting_new, moves_old, moves_new}
use Rattle.prune_best.specs.{Names.{IsNamed, Grows}, Kept.{AreTightMoves, NamesTargets, IsNewState}}

-- what is known while new states are made
pub record SoFar {W V : Type 0} {g : Ghosts W} {h : Ghosts V} (old : List (TableState W g)) (least : List (Option W))
    (names : List ℕ) (new : List (TableState V h)) : Type 0 where
  pub within : length new ≤ length names
  pub start : IsNamed names 0 0
  pub weighed : (k s : ℕ) → IsNamed names k s → IsSome (get_or least s None)
  pub states : (k s : ℕ) → k < length new → IsNamed names k s
      → IsNewState least names old s (accepting_at new k) (moves_at new k)
  pub reached : (k s : ℕ) → IsNamed names k s → (arcs : List (TableArc V h)) × IsPath new 0 arcs k

module _ {V : Type 0} {h : Ghosts V} (new : List (TableState V h)) (state : TableState V h) where
  move-push : (s : ℕ) (arc : TableArc V h) → Contains (moves_at new s) arc
      → Contains (moves_at (new ++ state ∷ []) s) arc
  move-push s arc here =
      let P : List (TableArc V h) → Type 0 = λ xs. Contains xs arc in
      subst P (sym (moves_old new state s (moves_exist new s arc here))) here

  path-push : (s : ℕ) (arcs : List (TableArc V h)) (t : ℕ) → IsPath new s arcs t → IsPath (new ++ state ∷ []) s arcs t
  path-push s [] t p = p
  path-push s (arc ∷ arcs) t p = (move-push s arc p.0, path-push arc.target arcs t p.1)

path_more : {V : Type 0} {h : Ghosts V} (states : List (TableState V h)) (s : ℕ) (arcs : List (TableArc V h)) (t : ℕ)
    (b : TableArc V h) → IsPath states s arcs t → Contains (moves_at states t) b
    → IsPath states s (arcs ++ b ∷ []) b.target
path_more {V} {h} states s [] t b p here =
    (let P : ℕ → Type 0 = λ x. Contains (moves_at states x) b in subst P (sym p) here, refl)
path_more states s (arc ∷ arcs) t b p here = (p.0, path_more states arc.target arcs t b p.1 here)

module _ {W V : Type 0} {g : Ghosts W} {h : Ghosts V} (old : List (TableState W g)) (least : List (Option W))
    (names next : List ℕ) where
  kept-grows : ((j t : ℕ) → IsNamed names j t → IsNamed next j t)
      → (w : W) (arcs : List (TableArc W g)) (moves : List (TableArc V h)) (n : ℕ)
      → AreTightMoves least names w arcs moves n → AreTightMoves least next w arcs moves n
  kept-grows stays w arcs moves n k = record {
    from = λ b here. (let f = k.from b here in
        (f.0, f.1, λ d. (let e = f.2 d in (e.0, (e.1.0, stays b.target (get_or arcs f.0 d).target e.1.1)))));
    to = λ j d l kept. (let f = k.to j d l kept in
        (f.0, f.1, (f.2.0, stays f.0.target (get_or arcs j d).target f.2.1)));
    apart = k.apart;
  }

  state-grows : ((j t : ℕ) → IsNamed names j t → IsNamed next j t)
      → (s : ℕ) (accepting : Bool) (moves : List (TableArc V h)) → IsNewState least names old s accepting moves
      → IsNewState least next old s accepting moves
  state-grows stays s accepting moves n = record {
    accepts = n.accepts;
    kept = λ w e. kept-grows stays w (moves_at old s) moves (length (moves_at old s))
        (n.kept w e);
  }

  pub so_far-push : (new : List (TableState V h)) (state : TableState V h) (s : ℕ) → SoFar old least names new
      → IsNamed names (length new) s → IsNewState least next old s state.accepting state.arcs.items
      → NamesTargets least names next state.arcs.items → SoFar old least next (new ++ state ∷ [])
  so_far-push new state s f named made targets = record
      { within = within; start = targets.stays 0 0 f.start; weighed = weighed; states = states; reached = reached }
    where
      within : length (new ++ state ∷ []) ≤ length next
      within = omega (arith, length_push new state, (targets.stays (length new) s named).0)

      weighed : (k t : ℕ) → IsNamed next k t → IsSome (get_or least t None)
      weighed k t n = elim (targets.others k t n) [ inl was ↦ f.weighed k t was | inr b ↦ b.3 ]

      states : (k t : ℕ) → k < length (new ++ state ∷ []) → IsNamed next k t
          → IsNewState least next old t (accepting_at (new ++ state ∷ []) k) (moves_at (new ++ state ∷ []) k)
      states k t l n = elim (cases_lt k (length new)) [
        | inl lower ↦
            (let was : IsNamed names k (get_or names k 0) = (omega (arith, f.within), refl) in
            let same : get_or names k 0 ≡ t = sym (targets.stays k (get_or names k 0) was).1 ∙ n.1 in
            let before : IsNewState least next old (get_or names k 0) (accepting_at new k)
            (moves_at new k) = state-grows targets.stays (get_or names k 0) (accepting_at new k) (moves_at new k)
            (f.states k (get_or names k 0) lower was) in
            let P : ℕ → Type 0 = λ x. IsNewState least next old x (accepting_at (new ++ state ∷ []) k)
            (moves_at (new ++ state ∷ []) k) in
            let Q : Bool → Type 0 = λ x. IsNewState least next old (get_or names k 0) x (moves_at new k) in
            let R : List (TableArc V h) → Type 0 = λ x. IsNewState least next old (get_or names k 0)
            (accepting_at (new ++ state ∷ []) k) x in
            subst P same (subst R (sym (moves_old new state k lower))
            (subst Q (sym (accepting_old new state k lower)) before)))
        | inr upper ↦
            (let at : length new ≡ k = omega (arith, length_push new state) in
            let T : ℕ → Type 0 = λ x. IsNewState least next old t (accepting_at (new ++ state ∷ []) x)
            (moves_at (new ++ state ∷ []) x) in
            let same : s ≡ t = sym (targets.stays (length new) s named).1 ∙ (ap (λ x. get_or next x 0) at ∙ n.1) in
            let P : ℕ → Type 0 = λ x. IsNewState least next old x (accepting_at (new ++ state ∷ []) (length new))
            (moves_at (new ++ state ∷ []) (length new)) in
            let Q : Bool → Type 0 = λ x. IsNewState least next old s x state.arcs.items in
            let R : List (TableArc V h) → Type 0 = λ x. IsNewState least next old s
            (accepting_at (new ++ state ∷ []) (length new)) x in
            subst T at (subst P same (subst R (sym (moves_new new state))
            (subst Q (sym (accepting_new new state)) made))))
      ]

      reached : (k t : ℕ) → IsNamed next k t → (arcs : List (TableArc V h)) × IsPath (new ++ state ∷ []) 0 arcs k
      reached k t n = elim (targets.others k t n) [
        | inl was ↦ (let p = f.reached k t was in (p.0, path-push new state 0 p.0 k p.1))
        | inr b ↦
            (let p = f.reached (length new) s named in
            let P : List (TableArc V h) → Type 0 = λ xs. Contains xs b.0 in
            let here : Contains (moves_at (new ++ state ∷ []) (length new)) b.0 = subst P
            (sym (moves_new new state)) b.1 in
            let Q : ℕ → Type 0 = λ x. IsPath (new ++ state ∷ []) 0 (p.0 ++ b.0 ∷ []) x in (
              p.0 ++ b.0 ∷ [],
              subst Q b.2
                  (path_more (new ++ state ∷ []) 0 p.0 (length new) b.0
                  (path-push new state 0 p.0 (length new) p.1) here),
            ))
      ]

-- before any state is made
pub so_far-start : {W V : Type 0} {g : Ghosts W} {h : Ghosts V} (old : List (TableState W g))
    (least : List (Option W)) (names : List ℕ) (k : ℕ) (new : List (TableState V h)) → new ≡ [] → Grows [] names k 0
    → IsSome (get_or least 0 None) → SoFar old least names new
so_far-start {W} {V} {g} {h} old least names k new none grows some =
    let P : List (TableState V h) → Type 0 = SoFar old least names in
    subst P (sym none) (record {
      within = omega arith;
      start = start;
      weighed = λ j t n. (let Q : ℕ → Type 0 = λ x. IsSome (get_or least x None) in subst Q (sym (only j t n).1) some);
      states = λ j t l n. absurd (omega (arith, l));
      reached = λ j t n. ([], sym ((only j t n).0 ∙ sym zero_is));
    })
  where
    only : (j t : ℕ) → IsNamed names j t → (j ≡ k) × (t ≡ 0)
    only j t n = elim (grows.others j t n) [ inl was ↦ absurd (omega (arith, was.0)) | inr b ↦ b ]

    first : IsNamed names 0 (get_or names 0 0)
    first = (omega (arith, grows.named.0), refl)

    zero_is : 0 ≡ k
    zero_is = (only 0 (get_or names 0 0) first).0

    start : IsNamed names 0 0
    start = (first.0, (only 0 (get_or names 0 0) first).1)
