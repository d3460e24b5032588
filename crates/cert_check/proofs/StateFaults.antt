-- The first fault of a state.
use Rattle.std.proofs.Common.{◌≡◌, ℕ, zero, suc, ◌<◌, Bool, true, false, List, [], ◌∷◌, slice_get, Some}
use Rattle.std.proofs.Common.{Option, refl, sym, ap, ◌∙◌, subst, arith, inl, inr, Contains, true≢false}
use Rattle.std.specs.{List.Sorted.IsStrictlySortedBy, Ordering.nat_cmp}
use Rattle.tier_core.specs.{declared.sym.Sym.Sym, Kinds.PrefixKind}
use Rattle.violation.specs.{Moves.is_final, Problems.{Problem}}
use Rattle.answer_text.specs.{declared.automaton.ArcLine.ArcLine, declared.automaton.StateLine.StateLine}
use Rattle.answer_text.specs.{declared.answer.Answer.Answer, Right.{numbers_of}}
use Rattle.check_laws.proofs.{Leading.one_state, Listing.one_kind}
use Rattle.cert_check.specs.declared.fault.Fault.TheVariants.{StateMissing, FinalsDiffer, ArcsTwice, ArcsDiffer}
use Rattle.cert_check.specs.{Arcs.{is_twice, do_differ, IsLeastColumn, IsNoColumn}, Faults.{IsState, HasState}}
use Rattle.cert_check.specs.Faults.{LacksTarget, HasTwice, HasWrongArcs, IsKindOfState, IsListedTarget}
use Rattle.cert_check.specs.{Parts.{IsFirstInState}, Places.{IsBefore, column_place}}
use Rattle.cert_check.specs.States.{IsRightPartOf, IsRightState, AreKeptArcs}
use Rattle.cert_check.proofs.ArcLists.{HasOneTarget, one_target, targets_agree, targets_differ, twice_to, twice_from}
use Rattle.cert_check.proofs.Parts.{none_before}

module _ (problem : Problem) (answer : Answer)
    (ascending : IsStrictlySortedBy nat_cmp (numbers_of answer.automaton.states.items)) (line : StateLine)
    (listed : Contains answer.automaton.states.items line) where
  abbrev arcs : List ArcLine
  arcs = line.arcs.items

  abbrev IsRight : ℕ → Type 0
  IsRight part = IsRightPartOf problem answer line.node part

  has_state : HasState answer line.node line
  has_state = record { listed = listed; numbered = refl }

  one_line : (other : StateLine) → HasState answer line.node other → other ≡ line
  one_line other h = one_state _ ascending _ _ h.listed listed h.numbered

  -- ---- the targets of its arcs

  abbrev IsTargetRight : ℕ → Type 0
  IsTargetRight n = (arc : ArcLine) → slice_get arcs n ≡ Some arc → IsState answer arc.target

  no_lack : (n target : ℕ) → IsTargetRight n → LacksTarget answer line.node n target → ⊥
  no_lack n target right h = h.lacks (rw h.target_is (right h.arc_line (rw (one_line h.line h.is) at h.numbered)))

  pub targets_right : ((n : ℕ) → IsTargetRight n) → IsRight 0
  targets_right right rest w = no_lack _ _ (right w.0) w.1.1.0

  pub first_target : (n : ℕ) (arc : ArcLine) → slice_get arcs n ≡ Some arc → (IsState answer arc.target → ⊥)
      → ((m : ℕ) → m < n → IsTargetRight m) → IsFirstInState problem answer line.node
      (StateMissing line.node arc.target)
  first_target n arc numbered lacks before = record {
    place = 0 ∷ n ∷ [];
    is = inr (
      n,
      (
        record {
          line = line;
          is = has_state;
          arc_line = arc;
          numbered = numbered;
          target_is = refl;
          lacks = lacks;
        },
        refl,
      ),
    );
    first = none_before _ 0 (n ∷ []) (λ m h. absurd (omega (arith, h)))
        (λ rest w b. earlier _ _ w.1.1.0 (subst (λ q. IsBefore q (n ∷ [])) w.1.1.1 b));
  }
    where
      earlier : (m target : ℕ) → LacksTarget answer line.node m target → IsBefore (m ∷ []) (n ∷ []) → ⊥
      earlier m target w (inl less) = no_lack m _ (before m less) w
      earlier m target w (inr same) = same.1

  -- ---- its mark

  module _ (k : PrefixKind) (of_kind : IsKindOfState problem answer line.node k) where
    pub mark_right : line.accepting ≡ is_final problem k → IsRight 1
    mark_right e rest w =
        let h = w.1.0 in
        h.differs (h.listed_is ∙ ap (λ (x : StateLine). x.accepting) (one_line _ h.is) ∙ e ∙ ap (is_final problem)
        (one_kind _ _ k _ _ of_kind h.of_kind))

    pub first_mark : IsRight 0 → (line.accepting ≡ is_final problem k → ⊥)
        → IsFirstInState problem answer line.node (FinalsDiffer line.node line.accepting)
    first_mark targets differs = record {
      place = 1 ∷ [];
      is = (
        record {
          line = line;
          is = has_state;
          kind = k;
          of_kind = of_kind;
          listed_is = refl;
          differs = differs;
        },
        refl,
      );
      first = none_before _ 1 [] (below_one targets) (λ rest w b. b);
    }
      where
        below_one : IsRight 0 → (m : ℕ) → m < 1 → IsRight m
        below_one a zero l = a
        below_one a (suc m) l = absurd (omega (arith, l))

  -- ---- columns in two arcs

  twice_is : (column : List Sym) → HasTwice answer line.node column → is_twice arcs column ≡ true
  twice_is column h = rw (one_line h.line h.is) at
      (twice_from _ _ _ _ _ _ h.ascending h.first_is h.second_is h.in_first h.in_second)

  pub twice_right : IsNoColumn (is_twice arcs) → IsRight 2
  twice_right none rest w = true≢false (sym (twice_is _ w.1.0) ∙ none w.0)

  below_two : IsRight 0 → IsRight 1 → (m : ℕ) → m < 2 → IsRight m
  below_two a b zero l = a
  below_two a b (suc zero) l = b
  below_two a b (suc (suc m)) l = absurd (omega (arith, l))

  pub first_twice : IsRight 0 → IsRight 1 → (column : List Sym) → IsLeastColumn (is_twice arcs) column
      → IsFirstInState problem answer line.node (ArcsTwice line.node column)
  first_twice targets mark column least =
      let two = twice_to _ _ least.is in
      record {
        place = 2 ∷ column_place column;
        is = (
          record {
            line = line;
            is = has_state;
            first = two.first;
            second = two.second;
            ascending = two.ascending;
            first_arc = two.first_arc;
            first_is = two.first_is;
            second_arc = two.second_arc;
            second_is = two.second_is;
            in_first = two.in_first;
            in_second = two.in_second;
          },
          refl,
        );
        first = none_before _ 2 _ (below_two targets mark)
            (λ rest w b. least.first w.0 (twice_is _ w.1.0) (rw w.1.1 at b));
      }

  -- ---- its arcs and the kept moves

  -- where no column is in two arcs, it has one target
  single : IsRight 2 → (column : List Sym) → HasOneTarget arcs column
  single once column = one_target arcs column (λ i j x y l e f h k. once (column_place column) (
    column,
    (
      record {
        line = line;
        is = has_state;
        first = i;
        second = j;
        ascending = l;
        first_arc = x;
        first_is = e;
        second_arc = y;
        second_is = f;
        in_first = h;
        in_second = k;
      },
      refl,
    ),
  ))

  module _ (k : PrefixKind) (of_kind : IsKindOfState problem answer line.node k) (once : IsRight 2)
      (kept : List ArcLine) (are : AreKeptArcs problem answer k kept)
      (one_kept : (column : List Sym) → HasOneTarget kept column) where
    -- where the lists agree the targets do
    agreed : (column : List Sym) (s t : Option ℕ) → HasWrongArcs problem answer line.node column s t
        → do_differ arcs kept column ≡ false → ⊥
    agreed column s t h e =
        let kind = one_kind _ _ _ k _ h.of_kind of_kind in
        h.differs (targets_agree _ _ _ (single once _) (one_kept column) e s t
        (rw (one_line h.line h.is) at h.listed_is) ((are.targets column t).1 (rw kind at h.kept_is)))

    pub arcs_right : IsNoColumn (do_differ arcs kept) → IsRight 3
    arcs_right none rest w = agreed _ _ _ w.1.1.1.0 (none w.0)

    below_three : IsRight 0 → IsRight 1 → (m : ℕ) → m < 3 → IsRight m
    below_three a b zero l = a
    below_three a b (suc zero) l = b
    below_three a b (suc (suc zero)) l = once
    below_three a b (suc (suc (suc m))) l = absurd (omega (arith, l))

    pub first_arcs : IsRight 0 → IsRight 1 → (column : List Sym) → IsLeastColumn (do_differ arcs kept) column
        → (s t : Option ℕ) → IsListedTarget arcs column s → IsListedTarget kept column t
        → IsFirstInState problem answer line.node (ArcsDiffer line.node column s t)
    first_arcs targets mark column least s t a b = record {
      place = 3 ∷ column_place column;
      is = (
        record {
          line = line;
          is = has_state;
          kind = k;
          of_kind = of_kind;
          listed_is = a;
          kept_is = (are.targets column t).0 b;
          differs = targets_differ _ _ _ (single once _) (one_kept column) least.is s t a b;
        },
        refl,
      );
      first = none_before _ 3 _ (below_three targets mark)
          (λ rest w before. earlier _ _ _ w.1.1.1.0 (rw w.1.1.1.1 at before));
    }
      where
        earlier : (other : List Sym) (m n : Option ℕ) → HasWrongArcs problem answer line.node other m n
            → IsBefore (column_place other) (column_place column) → ⊥
        earlier other m n w before = by _ refl
          where
            by : (b : Bool) → do_differ arcs kept other ≡ b → ⊥
            by true e = least.first other e before
            by false e = agreed _ m n w e

  -- ---- all its parts

  pub state_right : IsRight 0 → IsRight 1 → IsRight 2 → IsRight 3 → IsRightState problem answer line.node
  state_right a b c d zero rest w = a rest w
  state_right a b c d (suc zero) rest w = b rest w
  state_right a b c d (suc (suc zero)) rest w = c rest w
  state_right a b c d (suc (suc (suc zero))) rest w = d rest w
  state_right a b c d (suc (suc (suc (suc m)))) rest w = w
