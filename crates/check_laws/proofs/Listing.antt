-- What a stage lists: each kind once, with one potential, at one node.
use Rattle.std.proofs.Common.{◌≡◌, ℕ, ◌<◌, arith, List, [], ◌∷◌, map, length, get_or, refl, ap, sym, ◌∙◌, subst}
use Rattle.std.proofs.{Common.{inl, inr, Contains, Some, slice_get}, lemmas.Bool.cases_order}
use Rattle.std.proofs.{lemmas.List.{get_or-map, get_or_default, length-map}, lemmas.Map.Keys.Less-from_sorted}
use Rattle.std.proofs.lemmas.Option.{slice_get_within, slice_get-get_or, get_or_from_slice_get}
use Rattle.std.specs.List.Sorted.{IsStrictlySortedBy}
use Rattle.tier_core.specs.Kinds.{PrefixKind, kind_order}
use Rattle.tier_core.proofs.{KindTies.not_before_itself, Members.{contains_map, contains_of_map}}
use Rattle.violation.specs.{Prefixes.kind_of_bits, Problems.{Problem, last_stage}}
use Rattle.answer_text.specs.{declared.stage.Node.Node, declared.stage.Stage.Stage}
use Rattle.answer_text.specs.{Right.{nodes_at, kinds_at, IsNodeOf}, Certified.Lists}

-- in a list that ascends, a kind has one place
one_place : (ks : List PrefixKind) → IsStrictlySortedBy kind_order ks → (i j : ℕ) (d : PrefixKind) → i < length ks
    → j < length ks → get_or ks i d ≡ get_or ks j d → i ≡ j
one_place ks sorted i j d a b e = elim (cases_order i j) [
  | inl same ↦ same
  | inr other ↦ elim other [
    | inl less ↦ absurd (not_before_itself (get_or ks j d)
        (ap (λ k. kind_order k (get_or ks j d)) (sym e) ∙ Less-from_sorted kind_order ks i j d sorted less b))
    | inr more ↦ absurd (not_before_itself (get_or ks i d)
        (ap (λ k. kind_order k (get_or ks i d)) e ∙ Less-from_sorted kind_order ks j i d sorted more a))
  ]
]

module _ (problem : Problem) (r : ℕ) where
  -- the kind that a node of stage r tells
  abbrev pub told : Node → PrefixKind
  told node = kind_of_bits problem r node.kind

  -- the place of a member that tells a kind
  told_at : (nodes : List Node) (node : Node) (k : PrefixKind) (i : ℕ) → i < length nodes → get_or nodes i node ≡ node
      → told node ≡ k → get_or (map told nodes) i k ≡ k
  told_at nodes node k i l e t = get_or-map told nodes i node k l ∙ ap told e ∙ t

  module _ (stages : List Stage) where
    pub lists_kind : (k : PrefixKind) (p : ℕ) → Lists problem stages r k p
        → Contains (kinds_at problem r (nodes_at stages r)) k
    lists_kind k p l = subst (Contains (kinds_at problem r (nodes_at stages r))) l.tells
        (contains_map told (nodes_at stages r) l.node l.listed)

    pub kind_listed : (k : PrefixKind) → Contains (kinds_at problem r (nodes_at stages r)) k
        → (p : ℕ) × Lists problem stages r k p
    kind_listed k h =
        let m = contains_of_map told (nodes_at stages r) k h in
        let node : Node = m.0 in
        (node.potential, record { node = node; listed = m.1.0; tells = m.1.1; potential = refl })

    -- the start, which comes first, is listed
    pub first_listed : (k : PrefixKind) → slice_get (kinds_at problem r (nodes_at stages r)) 0 ≡ Some k
        → (p : ℕ) × Lists problem stages r k p
    first_listed k e =
        let kinds : List PrefixKind = kinds_at problem r (nodes_at stages r) in
        kind_listed k (0, slice_get_within kinds 0 k e, get_or_from_slice_get kinds 0 k k e)

    -- a kind has one potential
    pub one_potential : IsStrictlySortedBy kind_order (kinds_at problem r (nodes_at stages r))
        → (k : PrefixKind) (p q : ℕ) → Lists problem stages r k p → Lists problem stages r k q → p ≡ q
    one_potential sorted k p q a b =
        let nodes : List Node = nodes_at stages r in
        let i = a.listed in
        let j = b.listed in
        let size : length (map told nodes) ≡ length nodes = length-map nodes told in
        let same : i.0 ≡ j.0 = one_place (map told nodes) sorted i.0 j.0 k (omega (arith, size, i.1))
        (omega (arith, size, j.1))
        (told_at nodes a.node k i.0 i.1 i.2 a.tells ∙ sym (told_at nodes b.node k j.0 j.1 j.2 b.tells)) in
        let one : a.node ≡ b.node = sym i.2 ∙ get_or_default nodes i.0 a.node b.node i.1
        ∙ ap (λ n. get_or nodes n b.node) same ∙ j.2 in
        sym a.potential ∙ ap (λ (node : Node). node.potential) one ∙ b.potential

-- Nodes by their numbers, under all constraints.
module _ (problem : Problem) (nodes : List Node) where
  abbrev told_last : Node → PrefixKind
  told_last = told problem (last_stage problem)

  pub kind_numbered : (k : PrefixKind) → Contains (kinds_at problem (last_stage problem) nodes) k
      → (n : ℕ) × IsNodeOf problem nodes n k
  kind_numbered k h =
      let m = contains_of_map told_last nodes k h in
      let i = m.1.0 in (
        i.0,
        record {
          node = m.0;
          numbered = slice_get-get_or nodes i.0 m.0 i.1
              ∙ ap (λ (node : Node). Some node) i.2;
          tells = m.1.1;
        },
      )

  pub numbered_kind : (n : ℕ) (k : PrefixKind) → IsNodeOf problem nodes n k
      → Contains (kinds_at problem (last_stage problem) nodes) k
  numbered_kind n k h =
      subst (Contains (kinds_at problem (last_stage problem) nodes)) h.tells
      (contains_map told_last nodes h.node
      (n, slice_get_within nodes n h.node h.numbered, get_or_from_slice_get nodes n h.node h.node h.numbered))

  -- a kind has one number
  pub one_number : IsStrictlySortedBy kind_order (kinds_at problem (last_stage problem) nodes)
      → (k : PrefixKind) (m n : ℕ) → IsNodeOf problem nodes m k → IsNodeOf problem nodes n k → m ≡ n
  one_number sorted k m n a b =
      let size : length (map told_last nodes) ≡ length nodes = length-map nodes told_last in
      let below : m < length nodes = slice_get_within nodes m a.node a.numbered in
      let under : n < length nodes = slice_get_within nodes n b.node b.numbered in
      one_place (map told_last nodes) sorted m n k (omega (arith, size, below)) (omega (arith, size, under))
      (told_at problem (last_stage problem) nodes a.node k m below
      (get_or_from_slice_get nodes m a.node a.node a.numbered) a.tells
      ∙ sym (told_at problem (last_stage problem) nodes b.node k n under
      (get_or_from_slice_get nodes n b.node b.node b.numbered) b.tells))

  -- a number has one kind
  pub one_kind : (k l : PrefixKind) (n : ℕ) → IsNodeOf problem nodes n k → IsNodeOf problem nodes n l → k ≡ l
  one_kind k l n a b =
      sym a.tells
      ∙ ap told_last (sym (get_or_from_slice_get nodes n a.node a.node a.numbered)
      ∙ get_or_from_slice_get nodes n b.node a.node b.numbered)
      ∙ b.tells

-- the kind that comes first has number 0
pub first_numbered : (problem : Problem) (nodes : List Node) (k : PrefixKind)
    → slice_get (kinds_at problem (last_stage problem) nodes) 0 ≡ Some k → IsNodeOf problem nodes 0 k
first_numbered problem [] k e = absurd (omega (arith, slice_get_within [] 0 k e))
first_numbered problem (node ∷ nodes) k e = record {
  node = node;
  numbered = refl;
  tells = get_or_from_slice_get (kinds_at problem (last_stage problem) (node ∷ nodes)) 0 k k e;
}
