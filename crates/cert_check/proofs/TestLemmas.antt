-- Tests of columns: what a constraint tells of columns on which its tests agree.
use Rattle.std.proofs.Common.{◌≡◌, ℕ, ◌&&◌, ◌||◌, not, Bool, true, false, cond, List, [], ◌∷◌, ◌++◌, length, refl}
use Rattle.std.proofs.{Common.{sym, ap, ap₂, ◌∙◌, subst, true≢false}, lemmas.Bool.and_parts}
use Rattle.std.proofs.lemmas.List.Elements.{All-from_recursion, recursion_from_All}
use Rattle.std.proofs.lemmas.List.Folds.{list_all-append}
use Rattle.std.specs.List.{list_any, list_all}
use Rattle.tier_core.specs.{declared.class.Class.Class, declared.sym.Sym.Sym, declared.event.Event.Event}
use Rattle.tier_core.specs.{declared.constraint.Constraint.Constraint, declared.constraint.Family.Family}
use Rattle.tier_core.specs.{declared.constraint.Family.TheVariants.{Implication, Clash}, Classes.{sets_of, has}}
use Rattle.tier_core.specs.Kinds.{Phase, closed, unmet, met}
use Rattle.tier_core.specs.Sides.{has_edge_type, edge_among, is_stretch, is_implication}
use Rattle.tier_core.specs.Timelines.{symbol, is_edge}
use Rattle.tier_core.proofs.Bools.{none_of}
use Rattle.violation.specs.Columns.{is_present, opens_interior, opens_all, edge_cost}
use Rattle.violation.specs.Moves.{next_phase, costs, is_met_phase, is_unmet_phase}
use Rattle.cert_check.specs.declared.boxes.Asked.{Asked}
use Rattle.cert_check.specs.declared.boxes.Asked.TheVariants.{Present, Absent, Open, NotInside, NoEdge}
use Rattle.cert_check.specs.{Alike.AreAlikeFor, Boxes.is_so, Tests.AddsTests}

-- what is asked of a column on the tiers of some types
abbrev pub all_so : Asked → List Event → List Sym → Bool
all_so asked types column = list_all (λ e. is_so asked e.part (symbol column e.tier)) types

not_same : (a b : Bool) → not a ≡ not b → a ≡ b
not_same true true e = refl
not_same true false e = absurd (true≢false (sym e))
not_same false true e = absurd (true≢false e)
not_same false false e = refl

no_edge : (es : List Event) (c : List Sym) → all_so NoEdge es c ≡ not (edge_among es c)
no_edge [] c = refl
no_edge (e ∷ es) c = ap (λ b. not (is_edge (symbol c e.tier)) && b) (no_edge es c) ∙ none_of _ _

absent : (es : List Event) (c : List Sym) → all_so Absent es c ≡ not (list_any (is_present c) es)
absent [] c = refl
absent (e ∷ es) c = ap (λ b. not (is_present c e) && b) (absent es c) ∙ none_of _ _

not_inside : (es : List Event) (c : List Sym) → all_so NotInside es c ≡ not (list_any (opens_interior c) es)
not_inside [] c = refl
not_inside (e ∷ es) c = ap (λ b. not (opens_interior c e) && b) (not_inside es c) ∙ none_of _ _

edge_alike : (es : List Event) (c d : List Sym) → all_so NoEdge es c ≡ all_so NoEdge es d
    → edge_among es c ≡ edge_among es d
edge_alike es c d e = not_same _ _ (sym (no_edge es c) ∙ e ∙ no_edge es d)

-- ---- costs

implication_costs : (left right : List Event) (o : ℕ → Bool) (phase : Phase) (c d : List Sym)
    → has_edge_type left ≡ true → edge_cost Implication left right c ≡ edge_cost Implication left right d
    → costs Implication left right o phase c ≡ costs Implication left right o phase d
implication_costs left right o phase c d h e =
    let of : Bool → Bool → Bool → Bool = λ t a b. cond t a (is_unmet_phase phase && b) in
    ap (λ t. of t (edge_cost Implication left right c) (edge_among left c)) h ∙ e
    ∙ sym (ap (λ t. of t (edge_cost Implication left right d) (edge_among left d)) h)

clash_edge_costs : (left right : List Event) (o : ℕ → Bool) (phase : Phase) (c d : List Sym)
    → has_edge_type (left ++ right) ≡ true → edge_cost Clash left right c ≡ edge_cost Clash left right d
    → costs Clash left right o phase c ≡ costs Clash left right o phase d
clash_edge_costs left right o phase c d h e =
    let of : Bool → Bool → Bool → Bool = λ t a b. cond t a (list_all (λ x. o x.tier) (left ++ right) && b) in
    ap (λ t. of t (edge_cost Clash left right c) (edge_among (left ++ right) c)) h ∙ e
    ∙ sym (ap (λ t. of t (edge_cost Clash left right d) (edge_among (left ++ right) d)) h)

clash_inside_costs : (left right : List Event) (o : ℕ → Bool) (phase : Phase) (c d : List Sym)
    → has_edge_type (left ++ right) ≡ false → edge_among (left ++ right) c ≡ edge_among (left ++ right) d
    → costs Clash left right o phase c ≡ costs Clash left right o phase d
clash_inside_costs left right o phase c d h e =
    let of : Bool → Bool → Bool → Bool = λ t a b. cond t a (list_all (λ x. o x.tier) (left ++ right) && b) in
    ap (λ t. of t (edge_cost Clash left right c) (edge_among (left ++ right) c)) h
    ∙ ap (λ b. list_all (λ x. o x.tier) (left ++ right) && b) e
    ∙ sym (ap (λ t. of t (edge_cost Clash left right d) (edge_among (left ++ right) d)) h)

stretch_costs : (left right : List Event) (o : ℕ → Bool) (phase : Phase) (c d : List Sym) → has_edge_type left ≡ false
    → edge_among left c ≡ edge_among left d
    → costs Implication left right o phase c ≡ costs Implication left right o phase d
stretch_costs left right o phase c d h e =
    let of : Bool → Bool → Bool → Bool = λ t a b. cond t a (is_unmet_phase phase && b) in
    ap (λ t. of t (edge_cost Implication left right c) (edge_among left c)) h ∙ ap (λ b. is_unmet_phase phase && b) e
    ∙ sym (ap (λ t. of t (edge_cost Implication left right d) (edge_among left d)) h)

edges_left : (x : Constraint) → x.family ≡ Implication → is_stretch x ≡ false → has_edge_type x.left ≡ true
edges_left x f h = not_same _ _ (sym (ap (λ g. is_implication g && not (has_edge_type x.left)) f) ∙ h)

module _ (x : Constraint) (c d : List Sym) where
  abbrev CostsAlike : Family → Type 0
  CostsAlike f = (o : ℕ → Bool) (phase : Phase) → costs f x.left x.right o phase c ≡ costs f x.left x.right o phase d

  no_next : is_stretch x ≡ false → is_stretch x ≡ true → (phase : Phase)
      → next_phase x.left x.right phase c ≡ next_phase x.left x.right phase d
  no_next h e phase = absurd (true≢false (sym e ∙ h))

  pub implication_alike : x.family ≡ Implication → is_stretch x ≡ false
      → (all_so Present x.left c && all_so Absent x.right c) ≡ (all_so Present x.left d && all_so Absent x.right d)
      → AreAlikeFor x c d
  implication_alike f h e = record {
    cost = subst CostsAlike (sym f) (λ o phase. implication_costs _ _ o _ c d (edges_left x f h) (sym
        (ap (λ b. all_so Present x.left c && b) (absent _ c)) ∙ e ∙ ap (λ b. all_so Present x.left d && b)
        (absent _ d)));
    next = no_next h;
  }

  pub edge_clash_alike : x.family ≡ Clash → is_stretch x ≡ false → has_edge_type (x.left ++ x.right) ≡ true
      → (all_so Present x.left c && all_so Present x.right c) ≡ (all_so Present x.left d && all_so Present x.right d)
      → AreAlikeFor x c d
  edge_clash_alike f h t e = record {
    cost = subst CostsAlike (sym f) (λ o phase. clash_edge_costs x.left x.right o phase c d t
        (list_all-append (is_present c) x.left x.right ∙ e ∙ sym (list_all-append (is_present d) x.left x.right)));
    next = no_next h;
  }

  pub inside_clash_alike : x.family ≡ Clash → is_stretch x ≡ false → has_edge_type (x.left ++ x.right) ≡ false
      → (all_so NoEdge x.left c && all_so NoEdge x.right c) ≡ (all_so NoEdge x.left d && all_so NoEdge x.right d)
      → AreAlikeFor x c d
  inside_clash_alike f h t e = record {
    cost = subst CostsAlike (sym f) (λ o phase. clash_inside_costs x.left x.right o phase c d t (edge_alike _ c d
        (list_all-append (λ v. is_so NoEdge v.part (symbol c v.tier)) x.left x.right ∙ e ∙ sym
        (list_all-append (λ v. is_so NoEdge v.part (symbol d v.tier)) x.left x.right))));
    next = no_next h;
  }

  stretch_next : opens_all x.left c ≡ opens_all x.left d → edge_among x.left c ≡ edge_among x.left d
      → list_any (is_present c) x.right ≡ list_any (is_present d) x.right
      → list_any (opens_interior c) x.right ≡ list_any (opens_interior d) x.right → (phase : Phase)
      → next_phase x.left x.right phase c ≡ next_phase x.left x.right phase d
  stretch_next opened edge present inside phase =
      let of : Bool → Bool → Bool → Bool
      → Phase = λ o e p r. cond o (cond (cond e false (is_met_phase phase || p) || r) met unmet) closed in
      ap₂ (λ o e. of o e (list_any (is_present c) x.right) (list_any (opens_interior c) x.right)) opened edge
      ∙ ap₂ (λ p r. of (opens_all x.left d) (edge_among x.left d) p r) present inside

  stretch_family : (f : Family) → (is_implication f && not (has_edge_type x.left)) ≡ true → f ≡ Implication
  stretch_family Implication e = refl
  stretch_family Clash e = absurd (true≢false (sym e))

  pub stretch_alike : is_stretch x ≡ true → all_so Open x.left c ≡ all_so Open x.left d
      → all_so NoEdge x.left c ≡ all_so NoEdge x.left d → all_so Absent x.right c ≡ all_so Absent x.right d
      → all_so NotInside x.right c ≡ all_so NotInside x.right d → AreAlikeFor x c d
  stretch_alike h opened edge present inside =
      let edges = edge_alike _ c d edge in
      let parts = and_parts _ _ h in
      record {
        cost = subst CostsAlike (sym (stretch_family _ h))
            (λ o phase. stretch_costs _ _ o _ c d (not_same _ _ parts.1) edges);
        next = λ e. stretch_next opened edges (not_same _ _ (sym (absent _ c) ∙ present ∙ absent _ d))
            (not_same _ _ (sym (not_inside x.right c) ∙ inside ∙ not_inside x.right d));
      }

-- ---- lists of tests

pub four_pushed : (old : List Class) (a b c d : Class)
    → (((old ++ a ∷ []) ++ b ∷ []) ++ c ∷ []) ++ d ∷ [] ≡ old ++ a ∷ b ∷ c ∷ d ∷ []
four_pushed [] a b c d = refl
four_pushed (x ∷ old) a b c d = ap (λ xs. x ∷ xs) (four_pushed old a b c d)

pub adds_one : (width : ℕ) (old new : List Class) (test : Class) (alike : List Sym → List Sym → Type 0)
    → new ≡ old ++ test ∷ [] → length (sets_of test) ≡ width
    → ((c d : List Sym) → length c ≡ width → length d ≡ width → has test c ≡ has test d → alike c d)
    → AddsTests width old new alike
adds_one width old new test alike e w h = record {
  added = test ∷ [];
  new_is = e;
  one_width = All-from_recursion (λ (t : Class). length (sets_of t) ≡ width) (test ∷ []) (w, tt);
  told = λ c d lc ld agree. h c d lc ld (recursion_from_All (λ (t : Class). has t c ≡ has t d) (test ∷ []) agree).0;
}

pub adds_four : (width : ℕ) (old new : List Class) (s t u v : Class) (alike : List Sym → List Sym → Type 0)
    → new ≡ (((old ++ s ∷ []) ++ t ∷ []) ++ u ∷ []) ++ v ∷ []
    → length (sets_of s) ≡ width → length (sets_of t) ≡ width → length (sets_of u) ≡ width → length (sets_of v) ≡ width
    → ((c d : List Sym) → length c ≡ width → length d ≡ width → has s c ≡ has s d → has t c ≡ has t d
    → has u c ≡ has u d → has v c ≡ has v d → alike c d) → AddsTests width old new alike
adds_four width old new s t u v alike e ws wt wu wv h = record {
  added = s ∷ t ∷ u ∷ v ∷ [];
  new_is = e ∙ four_pushed _ s t u v;
  one_width = All-from_recursion (λ (x : Class). length (sets_of x) ≡ width) (s ∷ t ∷ u ∷ v ∷ [])
      (ws, (wt, (wu, (wv, tt))));
  told = λ c d lc ld agree. let a = recursion_from_All (λ (x : Class). has x c ≡ has x d)
      (s ∷ t ∷ u ∷ v ∷ []) agree in h c d lc ld a.0 a.1.0 a.1.1.0 a.1.1.1.0;
}
