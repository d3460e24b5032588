-- States and lines by their node numbers, one by one.
use Rattle.std.proofs.Common.{◌≡◌, ◌≢◌, ℕ, zero, suc, ◌+◌, ◌<◌, List, [], ◌∷◌, ◌++◌, Option, None, Some, length}
use Rattle.std.proofs.Common.{get_or, set, replicate, refl, ap, sym, ◌∙◌, subst, arith, ⊎_elim, All, AllPairs}
use Rattle.std.proofs.Common.{Contains, below_more, length-set, get_or-set_same, get_or-set_other}
use Rattle.std.proofs.{lemmas.Bool.{cases_eq, cases_lt}, lemmas.List.map-append}
use Rattle.std.proofs.lemmas.List.Elements.{Contains-append_left, Contains-append_right, Contains-push_cases}
use Rattle.std.proofs.lemmas.List.Elements.{All-map, All-push, All-from_recursion, recursion_from_All}
use Rattle.std.specs.{Cmp.nat_cmp_is, List.Sorted.IsStrictlySortedBy, Ordering.nat_cmp}
use Rattle.std.specs.declared.cmp.Ordering.TheVariants.{Less}
use Rattle.weight_law.specs.declared.Weight.{Ghosts}
use Rattle.arc_table.specs.declared.state.TableState.{TableState}
use Rattle.answer_text.specs.{declared.automaton.StateLine.StateLine, Right.numbers_of}
use Rattle.kind_orders.specs.{Orderings.IsOrdering, AutomatonLines.{state_nodes, IsLineOf, AreLinesOf, AreByNode}}
use Rattle.symbol_class.proofs.Pairs.{pairs_map, pairs_apart}
use Rattle.tier_core.proofs.Members.{All-from_members, contains_of_map}

get_or-replicate_none : (n s : ℕ) → get_or (replicate n (let o : Option ℕ = None in o)) s None ≡ None
get_or-replicate_none zero s = refl
get_or-replicate_none (suc n) zero = refl
get_or-replicate_none (suc n) (suc s) = get_or-replicate_none n s

-- ---- the state of each node number

-- so far, for the first n states and so many node numbers
pub record AreStatesSoFar (nodes : List ℕ) (count n : ℕ) (states : List (Option ℕ)) : Type 0 where
  pub total : length states ≡ count
  pub by_node : AreByNode nodes n states

pub one_state_more : (nodes : List ℕ) (count n : ℕ) (states : List (Option ℕ)) → AllPairs (λ a b. a ≢ b) nodes
    → All (λ node. node < count) nodes → n < length nodes
    → AreStatesSoFar nodes count n states → AreStatesSoFar nodes count (n + 1) (set states (get_or nodes n 0) (Some n))
one_state_more nodes count n states once below l a =
    let mine = get_or nodes n 0 in
    let inside : mine < length states = omega (arith, below n 0 l, a.total) in
    let here : get_or (set states mine (Some n)) mine None
    ≡ Some n = get_or-set_same states mine (Some n) None inside in
    record {
      total = length-set states mine (Some n) ∙ a.total;
      by_node = record {
        forth = below_more (λ state. get_or (set states mine (Some n)) (get_or nodes state 0) None ≡ Some state) n
            (λ state less. get_or-set_other states mine (get_or nodes state 0) (Some n) None (once state n 0 less l)
            ∙ a.by_node.forth state less)
            here;
        back = λ node state e. ⊎_elim
            (λ same.
            let read : get_or (set states mine (Some n)) mine None
            ≡ Some state = sym (ap (λ k. get_or (set states mine (Some n)) k None) same) ∙ e in
            let one : n ≡ state = cc in
            (omega arith, ap (λ s. get_or nodes s 0) (sym one) ∙ sym same))
            (λ other. let old = a.by_node.back node state
            (sym (get_or-set_other states mine node (Some n) None other) ∙ e) in (omega (arith, old.0), old.1))
            (cases_eq node mine);
      };
    }

-- ---- numbers that ascend

strict_push : (xs : List ℕ) (y : ℕ) → IsStrictlySortedBy nat_cmp xs → All (λ x. x < y) xs
    → IsStrictlySortedBy nat_cmp (xs ++ y ∷ [])
unfolding IsStrictlySortedBy
strict_push [] y s below = (tt, tt)
strict_push (x ∷ xs) y s below = (
  recursion_from_All (λ z. nat_cmp x z ≡ Less) (xs ++ y ∷ [])
      (All-push (λ z. nat_cmp x z ≡ Less) xs y (All-from_recursion (λ z. nat_cmp x z ≡ Less) xs s.0)
      (sym (nat_cmp_is x y Less (below 0 0 (omega arith))))),
  strict_push xs y s.1 (λ k d l. below (suc k) d (omega arith)),
)

-- ---- the lines of the states of the first node numbers

pub record AreLinesBelow {W : Type 0} {g : Ghosts W} (kept : List (TableState W g)) (nodes : List ℕ) (n : ℕ)
    (lines : List StateLine) : Type 0 where
  pub ascending : IsStrictlySortedBy nat_cmp (numbers_of lines)
  pub each : (line : StateLine) → Contains lines line
      → (state : ℕ) × (state < length kept) × (get_or nodes state 0 < n) × IsLineOf kept nodes state line
  pub every : (state : ℕ) → state < length kept → get_or nodes state 0 < n
      → (line : StateLine) × Contains lines line × IsLineOf kept nodes state line

module _ {W : Type 0} {g : Ghosts W} (kept : List (TableState W g)) (nodes : List ℕ) (states : List (Option ℕ))
    (count : length nodes ≡ length kept) (by_node : AreByNode nodes (length nodes) states) where
  pub no_lines : AreLinesBelow kept nodes 0 []
  unfolding IsStrictlySortedBy
  no_lines = record {
    ascending = tt;
    each = λ line c. absurd (omega (arith, c.1));
    every = λ state l less. absurd (omega arith);
  }

  -- the state of a node number, where it is one
  the_state : (n state : ℕ) → state < length kept → get_or nodes state 0 ≡ n → get_or states n None ≡ Some state
  the_state n state l e = ap (λ k. get_or states k None) (sym e) ∙ by_node.forth state (omega arith)

  pub skip_node : (n : ℕ) (lines : List StateLine) → get_or states n None ≡ None → AreLinesBelow kept nodes n lines
      → AreLinesBelow kept nodes (n + 1) lines
  skip_node n lines none a = record {
    ascending = a.ascending;
    each = λ line c. let h = a.each line c in (h.0, h.1, omega (arith, h.2), h.3);
    every = λ state l less. ⊎_elim (λ before. a.every state l before)
        (λ past. let there = the_state n state l (omega arith) in cc)
        (cases_lt (get_or nodes state 0) n);
  }

  numbers_below : (n : ℕ) (lines : List StateLine) (line : StateLine) → AreLinesBelow kept nodes n lines
      → line.node ≡ n → All (λ x. x < line.node) (numbers_of lines)
  numbers_below n lines line a e = All-from_members (λ x. x < line.node) (numbers_of lines) (λ x c.
      let r = contains_of_map (λ (s : StateLine). s.node) lines x c in
      let h = a.each r.0 r.1.0 in
      omega (arith, r.1.1, h.2, h.3.node, e))

  pub push_line : (n state : ℕ) (lines : List StateLine) (line : StateLine) → get_or states n None ≡ Some state
      → IsLineOf kept nodes state line → AreLinesBelow kept nodes n lines
      → AreLinesBelow kept nodes (n + 1) (lines ++ line ∷ [])
  push_line n state lines line some is a =
      let own = by_node.back n state some in
      let last : Contains (lines ++ line ∷ []) line = Contains-append_right lines (line ∷ []) line
      (0, omega arith, refl) in
      record {
        ascending = subst (IsStrictlySortedBy nat_cmp) (sym (map-append (λ (s : StateLine). s.node) lines (line ∷ [])))
            (strict_push (numbers_of lines) line.node a.ascending (numbers_below n lines line a (is.node ∙ own.1)));
        each = λ other c. ⊎_elim (λ old. let h = a.each other old in (h.0, h.1, omega (arith, h.2), h.3))
            (λ new. (state, omega (arith, own.0), omega (arith, own.1), subst (IsLineOf kept nodes state) new is))
            (Contains-push_cases lines line other c);
        every = λ t l less. ⊎_elim (λ before. let h = a.every t l before in
            (h.0, Contains-append_left lines (line ∷ []) h.0 h.1, h.2))
            (λ past.
            let there = the_state n t l (omega arith) in
            let one : state ≡ t = cc in
            (line, last, subst (λ s. IsLineOf kept nodes s line) one is))
            (cases_lt (get_or nodes t 0) n);
      }

  pub lines_of_all : (lines : List StateLine) → All (λ node. node < length states) nodes
      → AreLinesBelow kept nodes (length states) lines → AreLinesOf kept nodes lines
  lines_of_all lines below a = record {
    ascending = a.ascending;
    each = λ line c. let h = a.each line c in (h.0, h.1, h.3);
    every = λ state l. a.every state l (below state 0 (omega arith));
  }

-- ---- the node numbers of states that stand for kinds

module _ (ranks states : List ℕ) (o : IsOrdering (length ranks) ranks)
    (kinds : All (λ kind. kind < length ranks) states) where
  pub nodes_below : All (λ node. node < length ranks) (state_nodes ranks states)
  nodes_below = All-map (λ node. node < length ranks) (λ kind. get_or ranks kind 0) states
      (λ k d l. o.below (get_or states k d) 0 (kinds k d l))

  pub nodes_once : AllPairs (λ a b. a ≢ b) states → AllPairs (λ a b. a ≢ b) (state_nodes ranks states)
  nodes_once once = pairs_map (λ a b. a ≢ b) (λ kind. get_or ranks kind 0) states (λ i j d less inside.
      pairs_apart (λ a b. a ≢ b) (λ a b other e. other (sym e)) ranks o.once (get_or states i d) (get_or states j d) 0
      (once i j d less inside) (kinds i d (omega arith)) (kinds j d inside))
