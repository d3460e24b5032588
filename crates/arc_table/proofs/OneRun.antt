-- The classes of one state's moves are disjoint, so that a word is read by one run.
use Rattle.std.proofs.Common.{◌≡◌, suc, List, [], ◌∷◌, length, get_or, refl, sym, ap, ◌∙◌, subst, inl, inr}
use Rattle.std.proofs.{lemmas.Bool.cases_order, lemmas.List.get_or_default}
use Rattle.std.specs.Prelude.{Contains, AllPairs, IsTrue}
use Rattle.weight_law.specs.declared.Weight.{Ghosts}
use Rattle.tier_core.specs.{declared.sym.Sym.Sym, Classes.{has, AreDisjoint}}
use Rattle.arc_table.specs.{declared.arc.TableArc.TableArc, Runs.Reads}

module _ {V : Type 0} {h : Ghosts V} where
  pub length_read : (arcs : List (TableArc V h)) (word : List (List Sym)) → Reads arcs word → length word ≡ length arcs
  length_read [] [] r = refl
  length_read [] (c ∷ word) r = absurd r
  length_read (a ∷ arcs) [] r = absurd r
  length_read (a ∷ arcs) (c ∷ word) r = ap suc (length_read arcs word r.1)

  -- moves that hold one column are one
  pub same_move : (arcs : List (TableArc V h)) → AllPairs (λ a b. AreDisjoint a.class b.class) arcs
      → (a b : TableArc V h) (column : List Sym) → Contains arcs a → Contains arcs b → IsTrue (has a.class column)
      → IsTrue (has b.class column) → a ≡ b
  same_move arcs disjoint a b column ina inb ha hb = elim (cases_order ina.0 inb.0) [
    | inl same ↦ sym ina.2 ∙ (ap (λ k. get_or arcs k a) same ∙ (get_or_default arcs inb.0 a b inb.1 ∙ inb.2))
    | inr other ↦ elim other [
      | inl less ↦
          (let P : TableArc V h → Type 0 = λ x. AreDisjoint x.class (get_or arcs inb.0 a).class in
          let Q : TableArc V h → Type 0 = λ x. AreDisjoint a.class x.class in
          let pair : AreDisjoint a.class b.class = subst Q (get_or_default arcs inb.0 a b inb.1 ∙ inb.2)
          (subst P ina.2 (disjoint ina.0 inb.0 a less inb.1)) in
          absurd (pair column ha hb))
      | inr more ↦
          (let P : TableArc V h → Type 0 = λ x. AreDisjoint x.class (get_or arcs ina.0 b).class in
          let Q : TableArc V h → Type 0 = λ x. AreDisjoint b.class x.class in
          let pair : AreDisjoint b.class a.class = subst Q (get_or_default arcs ina.0 b a ina.1 ∙ ina.2)
          (subst P inb.2 (disjoint inb.0 ina.0 b more ina.1)) in
          absurd (pair column hb ha))
    ]
  ]
