-- What is said of an answer's lists, by what is seen of them.
use Rattle.std.proofs.Common.{◌≡◌, ℕ, List, [], ◌∷◌, map, refl, sym, ap, ◌∙◌, subst, Contains}
use Rattle.tier_core.specs.Kinds.{PrefixKind}
use Rattle.violation.specs.{Prefixes.kind_of_bits, Problems.Problem}
use Rattle.answer_text.specs.{declared.stage.Node.Node, declared.stage.Stage.Stage, Right.{nodes_at, kinds_at}}
use Rattle.answer_text.specs.{Certified.Lists, Seen.{node_seen, nodes_seen}, Values.NodeValue}
use Rattle.tier_core.proofs.Members.{contains_map, contains_of_map}
use Rattle.answer_examples.specs.Seen.{node_of}

module _ (problem : Problem) (stages : List Stage) (r : ℕ) (seen : List NodeValue)
    (are : nodes_seen problem stages r ≡ seen) where
  -- what a stage lists is seen, and what is seen is listed
  pub listed_seen : (k : PrefixKind) (p : ℕ) → Lists problem stages r k p → Contains seen (node_of k p)
  listed_seen k p l =
      subst (λ xs. Contains xs (node_of k p)) are
      (subst (Contains (nodes_seen problem stages r))
      (ap (λ x. node_of x l.node.potential) l.tells ∙ ap (λ n. node_of k n) l.potential)
      (contains_map (node_seen problem r) (nodes_at stages r) l.node l.listed))

  pub seen_listed : (k : PrefixKind) (p : ℕ) → Contains seen (node_of k p) → Lists problem stages r k p
  seen_listed k p c =
      let found = contains_of_map (node_seen problem r) (nodes_at stages r) (node_of k p)
      (subst (λ xs. Contains xs (node_of k p)) (sym are) c) in
      record {
        node = found.0;
        listed = found.1.0;
        tells = ap (λ (x : NodeValue). x.kind) found.1.1;
        potential = ap (λ (x : NodeValue). x.potential) found.1.1;
      }

  pub kinds_seen : kinds_at problem r (nodes_at stages r) ≡ map (λ (x : NodeValue). x.kind) seen
  kinds_seen = by_map (nodes_at stages r) ∙ ap (map (λ (x : NodeValue). x.kind)) are
    where
      by_map : (nodes : List Node)
          → kinds_at problem r nodes ≡ map (λ (x : NodeValue). x.kind) (map (node_seen problem r) nodes)
      by_map [] = refl
      by_map (node ∷ nodes) = ap (λ ks. kind_of_bits problem r node.kind ∷ ks) (by_map nodes)
