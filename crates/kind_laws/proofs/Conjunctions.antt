-- What a constraint counts hangs on the sets of its types.
use Rattle.std.proofs.Common.{◌≡◌, ℕ, zero, suc, ◌+◌, ◌*◌, ◌-◌, ◌≤◌, Bool, not, ◌&&◌, cond, List, [], ◌∷◌, ◌++◌}
use Rattle.std.proofs.Common.{take, length, get_or, refl, sym, ap, ◌∙◌, arith}
use Rattle.std.specs.List.{list_all, list_any}
use Rattle.tier_core.specs.{declared.sym.Sym.Sym, declared.event.Event.Event, declared.constraint.Family.Family}
use Rattle.tier_core.specs.declared.constraint.Family.TheVariants.{Implication, Clash}
use Rattle.tier_core.specs.{Events.{Interval, meet, is_there}, Kinds.{Phase, closed, unmet, met}}
use Rattle.tier_core.specs.Sides.{has_edge_type, edge_among, is_edge_part}
use Rattle.tier_core.specs.Timelines.{tier_word, column_at, symbol, is_edge}
use Rattle.tier_core.proofs.CountLemmas.{bit}
use Rattle.violation.specs.{Columns.{is_present, edge_cost}, Conditions.IsCountable, Counts.{so_far, viol}}
use Rattle.violation.specs.Moves.{costs, is_unmet_phase}
use Rattle.violation.specs.Prefixes.{is_open, phase, last_where, is_met_in, events_begun}
use Rattle.violation.proofs.{CountSteps.whole, MoveLemmas.{opened_after, column_costs}, WholeCounts.so_far_none}
use Rattle.kind_laws.proofs.Sets.{HasSame, same_all, same_any}

last_same : (f g : List Sym → Bool) → ((column : List Sym) → f column ≡ g column) → (p : List (List Sym)) (n : ℕ)
    → last_where f p n ≡ last_where g p n
last_same f g h p zero = refl
last_same f g h p (suc n) =
    ap (λ b. cond b n (last_where f p n)) (h (column_at p n))
    ∙ ap (λ m. cond (g (column_at p n)) n m) (last_same f g h p n)

-- whether a type has an event in a prefix that meets an interval
abbrev meets_in : List (List Sym) → Interval → Event → Bool
meets_in p m e = list_any (λ x. is_there (meet (m ∷ x ∷ []))) (events_begun p e)

module _ (left right others more : List Event) (same_left : HasSame left others) (same_right : HasSame right more) where
  phase_same : (p : List (List Sym)) → phase left right p ≡ phase others more p
  phase_same p =
      let s : ℕ = last_where (edge_among left) p (length p) in
      let t : ℕ = last_where (edge_among others) p (length p) in
      let at : s ≡ t = last_same (edge_among left) (edge_among others)
      (λ column. same_any (λ e. is_edge (symbol column e.tier)) left others same_left) p (length p) in
      ap (λ b. cond b (cond (is_met_in p right (record { low = 2 * s + 1; high = 2 * length p - 1 })) met unmet) closed)
      (same_all (λ e. is_open (tier_word p e.tier)) left others same_left)
      ∙ ap (λ (n : ℕ). cond (list_all (λ e. is_open (tier_word p e.tier)) others)
      (cond (is_met_in p right (record { low = 2 * n + 1; high = 2 * length p - 1 })) met unmet) closed) at
      ∙ ap (λ b. cond (list_all (λ e. is_open (tier_word p e.tier)) others) (cond b met unmet) closed)
      (same_any (meets_in p (record { low = 2 * t + 1; high = 2 * length p - 1 })) right more same_right)

  implication_same : (o : ℕ → Bool) (p : List (List Sym)) (column : List Sym)
      → costs Implication left right o (phase left right p) column
      ≡ costs Implication others more o (phase others more p) column
  implication_same o p column =
      ap (λ b. cond b (edge_cost Implication left right column)
      (is_unmet_phase (phase left right p) && edge_among left column))
      (same_any (λ e. is_edge_part e.part) left others same_left)
      ∙ ap (λ b. cond (has_edge_type others) (b && not (list_any (is_present column) right))
      (is_unmet_phase (phase left right p) && edge_among left column))
      (same_all (is_present column) left others same_left)
      ∙ ap (λ b. cond (has_edge_type others) (list_all (is_present column) others && not b)
      (is_unmet_phase (phase left right p) && edge_among left column))
      (same_any (is_present column) right more same_right)
      ∙ ap (λ ph. cond (has_edge_type others) (edge_cost Implication others more column)
      (is_unmet_phase ph && edge_among left column))
      (phase_same p)
      ∙ ap (λ b. cond (has_edge_type others) (edge_cost Implication others more column)
      (is_unmet_phase (phase others more p) && b))
      (same_any (λ e. is_edge (symbol column e.tier)) left others same_left)

clash_same : (left right others more : List Event) → HasSame (left ++ right) (others ++ more) → (o : ℕ → Bool)
    (ph other : Phase) (column : List Sym)
    → costs Clash left right o ph column ≡ costs Clash others more o other column
clash_same left right others more same o ph other column =
    ap (λ b. cond b (list_all (is_present column) (left ++ right))
    (list_all (λ e. o e.tier) (left ++ right) && edge_among (left ++ right) column))
    (same_any (λ e. is_edge_part e.part) (left ++ right) (others ++ more) same)
    ∙ ap (λ b. cond (has_edge_type (others ++ more)) b
    (list_all (λ e. o e.tier) (left ++ right) && edge_among (left ++ right) column))
    (same_all (is_present column) (left ++ right) (others ++ more) same)
    ∙ ap (λ b. cond (has_edge_type (others ++ more)) (list_all (is_present column) (others ++ more))
    (b && edge_among (left ++ right) column))
    (same_all (λ e. o e.tier) (left ++ right) (others ++ more) same)
    ∙ ap (λ b. cond (has_edge_type (others ++ more)) (list_all (is_present column) (others ++ more))
    (list_all (λ e. o e.tier) (others ++ more) && b))
    (same_any (λ e. is_edge (symbol column e.tier)) (left ++ right) (others ++ more) same)

-- Constraints whose columns cost the same count the same.
module _ (family : Family) (left right others more : List Event) (T : List (List Sym))
    (a : IsCountable left right T) (b : IsCountable others more T)
    (cost : (o : ℕ → Bool) (p : List (List Sym)) (column : List Sym)
    → costs family left right o (phase left right p) column
    ≡ costs family others more o (phase others more p) column) where
  so_far_same : (k : ℕ) → k ≤ length T → so_far family left right T k ≡ so_far family others more T k
  so_far_same zero l = so_far_none family left right T ∙ sym (so_far_none family others more T)
  so_far_same (suc k) l =
      column_costs family left right T k a (omega arith)
      ∙ ap (λ c. so_far family left right T k + bit c) (cost (opened_after T k) (take k T) (get_or T k []))
      ∙ ap (λ (n : ℕ). n + bit (costs family others more (opened_after T k) (phase others more (take k T))
      (get_or T k []))) (so_far_same k (omega arith))
      ∙ sym (column_costs family others more T k b (omega arith))

  viol_same : viol family left right T ≡ viol family others more T
  viol_same =
      sym (whole family left right T (length T) a (omega arith) (omega arith))
      ∙ so_far_same (length T) (omega arith)
      ∙ whole family others more T (length T) b (omega arith) (omega arith)

pub implication_alike : (left right others more : List Event) (T : List (List Sym)) → IsCountable left right T
    → IsCountable others more T → HasSame left others → HasSame right more
    → viol Implication left right T ≡ viol Implication others more T
implication_alike left right others more T a b s r =
    viol_same Implication left right others more T a b (implication_same left right others more s r)

pub clash_alike : (left right others more : List Event) (T : List (List Sym)) → IsCountable left right T
    → IsCountable others more T → HasSame (left ++ right) (others ++ more)
    → viol Clash left right T ≡ viol Clash others more T
clash_alike left right others more T a b s =
    viol_same Clash left right others more T a b
    (λ o p column. clash_same left right others more s o (phase left right p) (phase others more p) column)
