-- The lines that are tried: those to one target, and then those to a greater one.
use Rattle.std.proofs.Common.{◌≡◌, ℕ, ◌≤◌, List, [], ◌∷◌, ◌++◌, map, refl, ap, ap₂, sym, ◌∙◌, subst, arith}
use Rattle.std.proofs.{Common.AllPairs, lemmas.List.map-append, lemmas.List.Elements.{All-map, All-contains}}
use Rattle.tier_core.specs.declared.class.Class.{Class}
use Rattle.symbol_class.specs.Held.{width_of, ArePieces}
use Rattle.symbol_class.proofs.{Pairs.pairs_map, JoinedClasses.pieces_of_width}
use Rattle.answer_text.specs.{declared.automaton.ArcLine.ArcLine, ArcClasses.arc_classes}
use Rattle.kind_orders.specs.JoinedLines.{arc_to}
use Rattle.kind_orders.proofs.GroupSteps.{pairs-append}

classes_back : (target : ℕ) (classes : List Class) → arc_classes (map (arc_to target) classes) ≡ classes
classes_back target [] = refl
classes_back target (c ∷ cs) = ap (λ xs. c ∷ xs) (classes_back target cs)

module _ (some others : List Class) (lines : List ArcLine)
    (are : lines ≡ map (arc_to 3) some ++ map (arc_to 5) others) where
  pub lines_are_pieces : ArePieces 2 (some ++ others) → ArePieces (width_of (arc_classes lines)) (arc_classes lines)
  lines_are_pieces pieces =
      let same : arc_classes lines ≡ some ++ others =
      ap arc_classes are
      ∙ map-append (λ (arc : ArcLine). arc.class) (map (arc_to 3) some) (map (arc_to 5) others)
      ∙ ap₂ (λ xs ys. xs ++ ys) (classes_back 3 some) (classes_back 5 others) in
      subst (λ (cs : List Class). ArePieces (width_of cs) cs) (sym same) (pieces_of_width 2 (some ++ others) pieces)

  pub lines_rise : AllPairs (λ (a b : ArcLine). a.target ≤ b.target) lines
  lines_rise = subst (AllPairs (λ (a b : ArcLine). a.target ≤ b.target)) (sym are)
      (pairs-append (λ (a b : ArcLine). a.target ≤ b.target) (map (arc_to 3) some) (map (arc_to 5) others)
      (pairs_map (λ (a b : ArcLine). a.target ≤ b.target) (arc_to 3) some (λ i j d less inside. omega arith))
      (pairs_map (λ (a b : ArcLine). a.target ≤ b.target) (arc_to 5) others (λ i j d less inside. omega arith))
      (λ arc c. All-map (λ (b : ArcLine). arc.target ≤ b.target) (arc_to 5) others (λ k d inside.
      let low = All-contains (λ (a : ArcLine). a.target ≤ 3) (map (arc_to 3) some) arc
      (All-map (λ (a : ArcLine). a.target ≤ 3) (arc_to 3) some (λ l e within. omega arith)) c in omega arith)))
