-- A column leads from a cell to one cell at most.
use Rattle.std.proofs.Common.{◌≡◌, ◌≢◌, ℕ, ◌+◌, ◌*◌, List, length, get_or, sym, ap, ◌∙◌, subst, inl, inr, IsTrue}
use Rattle.std.proofs.{Common.Some, lemmas.Bool.cases_order, lemmas.List.get_or_default}
use Rattle.std.specs.Prelude.{AllPairs, Contains}
use Rattle.tier_core.specs.{declared.sym.Sym.Sym, declared.class.Class.Class, Classes.{has, AreDisjoint}}
use Rattle.answer_text.specs.{declared.automaton.ArcLine.ArcLine, declared.automaton.StateLine.StateLine}
use Rattle.answer_text.specs.Right.{numbers_of}
use Rattle.comprehend.specs.Steps.{arcs_at, test_has, Goes, Turns, AreApart, AreTestsApart}
use Rattle.comprehend.proofs.{Cells.one_cell, Numbers.once_at}

-- arcs that hold one column are one
same_arc : (arcs : List ArcLine) → AllPairs (λ a b. AreDisjoint a.class b.class) arcs
    → (a b : ArcLine) (column : List Sym) → Contains arcs a → Contains arcs b → IsTrue (has a.class column)
    → IsTrue (has b.class column) → a ≡ b
same_arc arcs disjoint a b column ina inb ha hb = elim (cases_order ina.0 inb.0) [
  | inl same ↦ sym ina.2 ∙ (ap (λ k. get_or arcs k a) same ∙ (get_or_default arcs inb.0 a b inb.1 ∙ inb.2))
  | inr other ↦ elim other [
    | inl less ↦
        (let P : ArcLine → Type 0 = λ x. AreDisjoint x.class (get_or arcs inb.0 a).class in
        let Q : ArcLine → Type 0 = λ x. AreDisjoint a.class x.class in
        let pair : AreDisjoint a.class b.class = subst Q (get_or_default arcs inb.0 a b inb.1 ∙ inb.2)
        (subst P ina.2 (disjoint ina.0 inb.0 a less inb.1)) in
        absurd (pair column ha hb))
    | inr more ↦
        (let P : ArcLine → Type 0 = λ x. AreDisjoint x.class (get_or arcs ina.0 b).class in
        let Q : ArcLine → Type 0 = λ x. AreDisjoint b.class x.class in
        let pair : AreDisjoint b.class a.class = subst Q (get_or_default arcs ina.0 b a ina.1 ∙ ina.2)
        (subst P inb.2 (disjoint inb.0 ina.0 b more ina.1)) in
        absurd (pair column hb ha))
  ]
]

-- a column leads from a place to one place at most
same_place : (tests : List Class) → AreTestsApart tests → (p q r : ℕ) (column : List Sym) → Turns tests p column q
    → Turns tests p column r → q ≡ r
same_place tests apart p q r column (inl a) (inl b) = a.0 ∙ sym b.0
same_place tests apart p q r column (inl a) (inr b) =
    (let P : ℕ → Type 0 = λ k. IsTrue (test_has tests k column) in absurd (apart p column a.1 (subst P b.0 b.1)))
same_place tests apart p q r column (inr a) (inl b) =
    (let P : ℕ → Type 0 = λ k. IsTrue (test_has tests k column) in absurd (apart p column b.1 (subst P a.0 a.1)))
same_place tests apart p q r column (inr a) (inr b) = a.0 ∙ sym b.0

pub one_step : (states : List StateLine) (tests : List Class) → AllPairs (λ m n. m ≢ n) (numbers_of states)
    → AreApart states → AreTestsApart tests → (v w x : ℕ) (column : List Sym) → Goes states tests v column w
    → Goes states tests v column x → w ≡ x
one_step states tests once apart tests_apart v w x column a b =
    let from = one_cell a.source a.place b.source b.place (length tests) a.before b.before (sym a.leaves ∙ b.leaves) in
    let P : ℕ → Type 0 = λ s. Contains (arcs_at states s) a.arc in
    let arc : a.arc ≡ b.arc = same_arc (arcs_at states b.source) (apart b.source) a.arc b.arc column
    (subst P from.0 a.listed) b.listed a.holds b.holds in
    let target : a.target ≡ b.target = once_at (numbers_of states) b.arc.target once a.target b.target
    (a.leads ∙ ap (λ (y : ArcLine). Some y.target) arc) b.leads in
    let Q : ℕ → Type 0 = λ p. Turns tests p column a.next in
    let next : a.next ≡ b.next = same_place tests tests_apart b.place a.next b.next column
    (subst Q from.1 a.turns) b.turns in
    a.arrives ∙ ap (λ t. t * length tests + a.next) target ∙ ap (λ q. b.target * length tests + q) next ∙ sym b.arrives
