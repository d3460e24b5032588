-- The states of the table of a single pass, one after another.
use Rattle.std.proofs.Common.{◌≡◌, ℕ, ◌+◌, ◌<◌, ◌≤◌, List, [], ◌∷◌, ◌++◌, take, length, get_or, sym, ap, ◌∙◌, subst}
use Rattle.std.proofs.{Common.{arith, inl, inr, take_all}, lemmas.Bool.cases_lt}
use Rattle.std.proofs.lemmas.List.{take_more, length_push, get_or_default, get_or-map, length-map}
use Rattle.std.proofs.lemmas.List.Elements.{Contains-get_or}
use Rattle.std.specs.{Prelude.{All, IsTrue}, List.AllZip}
use Rattle.weight_law.specs.{declared.Weight.Ghosts, declared.count.Count.Count, declared.ranked.Ranked.Ranked}
use Rattle.weight_law.specs.Ranked.{parts_of_vector}
use Rattle.tier_core.specs.{declared.class.Class.Class, declared.kind.Kind.Kind, Classes.has, Kinds.PrefixKind}
use Rattle.tier_core.specs.KindNumbers.{kind_numbered}
use Rattle.symbol_class.specs.Parts.{IsAlike as IsAlikeOn}
use Rattle.arc_table.specs.{declared.state.TableState.TableState, Moves.{moves_at, accepting_at}}
use Rattle.arc_table.proofs.Push.{accepting_old, accepting_new, moves_old, moves_new, moves_exist}
use Rattle.violation.specs.{Moves.move_costs, Problems.last_stage}
use Rattle.kind_moves.specs.{declared.frame.Frame.Frame, Frames.{kind_at_stage, FitsFrame, problem_in}}
use Rattle.kind_tables.specs.{StageTables.name_of, RankedTables.{AreWeighedByAll, IsRankedTable}}
use Rattle.stage_tables.specs.{Explored.names_at, Ranking.{AreColumnsOf, IsRankedMove, AreRankedStates, IsWholeTable}}
use Rattle.stage_tables.proofs.Alike.{IsAlike, AreAlike, alike_on_runs, alike_named, alike_words}
use Rattle.stage_tables.proofs.Zips.{zip_push, zip_from, zip_weaken}

-- one more of a list, and one that stands in the relation to it
pub zip_next : {A B : Type 0} (R : A → B → Type 0) (xs : List A) (ys : List B) (n : ℕ) (x : A) (y : B)
    → AllZip R (take n xs) ys → n < length xs → x ≡ get_or xs n x → R x y → AllZip R (take (n + 1) xs) (ys ++ y ∷ [])
zip_next {A} R xs ys n x y zipped l is r =
    let more = take_more xs n x l ∙ ap (λ e. take n xs ++ e ∷ []) (sym is) in
    rw more (zip_push R _ ys x y zipped r)

pub zip_all : {A B : Type 0} (R : A → B → Type 0) (xs : List A) (ys : List B) (n : ℕ) → AllZip R (take n xs) ys
    → length xs ≤ n → AllZip R xs ys
zip_all {A} R xs ys n zipped l = rw (take_all n xs l) at zipped

module _ {g : Ghosts Count} {h : Ghosts Ranked} (frame : Frame) (kinds : List Kind) (old : List (TableState Count g))
  where
    pub no_states : (new : List (TableState Ranked h)) → new ≡ [] → AreRankedStates frame kinds old new 0
    no_states new none = record {
      count = ap (λ (xs : List (TableState Ranked h)). length xs) none;
      ends = λ k l. absurd (omega (arith, l));
      moves = λ k l. absurd (omega (arith, l));
    }

    pub next_state : (new : List (TableState Ranked h)) (n : ℕ) (state : TableState Ranked h)
        → AreRankedStates frame kinds old new n
        → state.accepting ≡ accepting_at old n
        → AllZip (IsRankedMove frame (kind_numbered kinds n)) (moves_at old n) state.arcs.items
        → AreRankedStates frame kinds old (new ++ state ∷ []) (n + 1)
    next_state new n state so_far ends moves = record {
      count = omega (arith, length_push new state, so_far.count);
      ends = λ k l. elim (cases_lt k n) [
        | inl less ↦ accepting_old new state k (omega (arith, less, so_far.count)) ∙ so_far.ends k less
        | inr more ↦
            (let same : k ≡ n = omega (arith, l, more) in
            ap (accepting_at (new ++ state ∷ [])) (same ∙ sym so_far.count) ∙ accepting_new new state ∙ ends
            ∙ ap (accepting_at old) (sym same))
      ];
      moves = λ k l. elim (cases_lt k n) [
        | inl less ↦ subst (AllZip (IsRankedMove frame (kind_numbered kinds k)) (moves_at old k))
            (sym (moves_old new state k (omega (arith, less, so_far.count)))) (so_far.moves k less)
        | inr more ↦
            (let same : n ≡ k = omega (arith, l, more) in
            let last : moves_at (new ++ state ∷ []) n
            ≡ state.arcs.items = ap (moves_at (new ++ state ∷ [])) (sym so_far.count) ∙ moves_new new state in
            subst (λ i. AllZip (IsRankedMove frame (kind_numbered kinds i)) (moves_at old i)
            (moves_at (new ++ state ∷ []) i)) same
            (subst (AllZip (IsRankedMove frame (kind_numbered kinds n)) (moves_at old n)) (sym last) moves))
      ];
    }

module _ {g : Ghosts Count} (frame : Frame) (kinds : List Kind) (old : List (TableState Count g))
    (whole : IsWholeTable frame kinds old) where
  many_kinds : length kinds ≡ length old
  many_kinds = sym (length-map kinds (kind_at_stage frame (last_stage (problem_in frame)))) ∙ whole.named.each_named

  -- the kind of a state fits the frame
  pub kind_fits : (k : ℕ) (kind : Kind) → k < length old → kind ≡ get_or kinds k kind
      → FitsFrame frame (last_stage (problem_in frame)) kind
  kind_fits k kind l is = rw is (whole.fit k kind (omega (arith, l, many_kinds)))

  pub kind_is : (k : ℕ) (kind : Kind) → k < length old → kind ≡ get_or kinds k kind → kind ≡ kind_numbered kinds k
  kind_is k kind l is = is ∙ get_or_default kinds k kind _ (omega (arith, l, many_kinds))

  name_is : (k : ℕ) → k < length old
      → name_of (names_at frame (last_stage (problem_in frame)) kinds) k
      ≡ kind_at_stage frame (last_stage (problem_in frame)) (kind_numbered kinds k)
  name_is k l = get_or-map (kind_at_stage frame (last_stage (problem_in frame))) kinds k _ _
      (omega (arith, l, many_kinds))

  -- the columns of each move of a state are the frame's, and cost the same
  pub columns_of : (s : ℕ) (kind : Kind) → s < length old → kind ≡ get_or kinds s kind
      → All (λ arc. AreColumnsOf frame kind arc.class) (moves_at old s)
  columns_of s kind l is k d inside =
      let arc = get_or (moves_at old s) k d in
      let here = Contains-get_or _ k d inside in
      let named = name_is s l ∙ ap (kind_at_stage frame (last_stage (problem_in frame))) (sym (kind_is s _ l is)) in
      record {
        filled = whole.named.filled s arc here;
        alike = rw named at (whole.alike s arc here);
        wide = λ column reads. (whole.named.moves s arc column here reads).fits.width;
      }

  module _ {h : Ghosts Ranked} (new : List (TableState Ranked h))
      (made : AreRankedStates frame kinds old new (length old)) where
    pub are_alike : AreAlike old new
    are_alike = record {
      each_state = made.count;
      ends = made.ends;
      moves = λ k l. zip_weaken _ _
          (λ a b same. record { same_class = same.same_class; same_target = same.same_target }) _ _ (made.moves k l);
    }

    weighed : AreWeighedByAll (problem_in frame) (names_at frame (last_stage (problem_in frame)) kinds) new
    weighed s b column here reads =
        let l : s < length old = omega (arith, moves_exist new s b here, made.count) in
        let a = zip_from _ _ _ (made.moves s l) _ b here.1 here.2 in
        a.2.weighs column (rw a.2.same_class at reads)
        ∙ ap (λ k. parts_of_vector (move_costs (problem_in frame) (last_stage (problem_in frame)) k column))
        (sym (name_is s l))

    -- the table of a single pass
    pub is_ranked : IsRankedTable (problem_in frame) (names_at frame (last_stage (problem_in frame)) kinds) new
    is_ranked = record {
      named = alike_named _ _ are_alike _ _ _ whole.named;
      weighed = weighed;
      accepts = λ T. (let same = alike_words _ _ are_alike T in
          (λ a. (whole.accepts T).0 (same.0 a), λ x. same.1 ((whole.accepts T).1 x)));
      on_runs = alike_on_runs _ _ are_alike whole.named.filled whole.on_runs;
    }
