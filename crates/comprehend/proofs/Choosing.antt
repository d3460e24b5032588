-- The choice among the steps from a cell.
use Rattle.std.proofs.Common.{◌≡◌, ℕ, ◌+◌, ◌*◌, ◌<◌, false, List, Option, None, Some, length, sym, ◌∙◌, subst, ◌⊎◌}
use Rattle.std.proofs.Common.{inl, inr}
use Rattle.std.specs.{Prelude.Contains, Ordering.is_gt}
use Rattle.tier_core.specs.{declared.sym.Sym.Sym, declared.class.Class.Class, Orders.column_cmp}
use Rattle.answer_text.specs.{declared.automaton.StateLine.StateLine, Right.numbers_of}
use Rattle.first_paths.specs.Search.{HasStep, IsLeastStep}
use Rattle.comprehend.specs.{declared.choice.Choice.Choice, Searches.IsLeft}
use Rattle.comprehend.specs.{Steps.{arcs_at, Goes, Turns}, Choices.{IsBetter, LeadsByOne}}
use Rattle.comprehend.proofs.Cells.{one_cell}

module _ (states : List StateLine) (tests : List Class) (left : List ℕ) (n v s p : ℕ)
    (cell : v ≡ s * length tests + p) (inside : p < length tests) where
  leads_goes : (column : List Sym) (w : ℕ) → LeadsByOne (numbers_of states) tests p left n (arcs_at states s) column w
      → Goes states tests v column w
  leads_goes column w l = record {
    source = s;
    target = l.target;
    place = p;
    next = l.along.next;
    leaves = cell;
    arrives = l.along.arrives;
    before = inside;
    after = l.along.after;
    arc = l.arc;
    listed = l.listed;
    leads = l.leads;
    holds = l.along.holds;
    turns = l.along.turns;
  }

  goes_leads : (column : List Sym) (w : ℕ) → Goes states tests v column w → IsLeft left w n
      → LeadsByOne (numbers_of states) tests p left n (arcs_at states s) column w
  goes_leads column w goes at =
      let same = one_cell goes.source goes.place s p (length tests) goes.before inside (sym goes.leaves ∙ cell) in
      let P : ℕ → Type 0 = λ x. Contains (arcs_at states x) goes.arc in
      let Q : ℕ → Type 0 = λ x. Turns tests x column goes.next in
      record {
        arc = goes.arc;
        target = goes.target;
        listed = subst P same.0 goes.listed;
        leads = goes.leads;
        along = record {
          next = goes.next;
          arrives = goes.arrives;
          after = goes.after;
          holds = goes.holds;
          turns = subst Q same.1 goes.turns;
          left_at = at;
        };
      }

  module _ (result : Option Choice) (best : IsBetter
      (LeadsByOne (numbers_of states) tests p left n (arcs_at states s)) None result) where
    pub chosen : (choice : Choice) → result ≡ Some choice
        → IsLeastStep (Goes states tests) (IsLeft left) v n choice.column choice.cell
    chosen choice e = go best.from
      where
        least : (other : List Sym) (x : ℕ) → Goes states tests v other x → IsLeft left x n
            → is_gt (column_cmp choice.column other) ≡ false
        least other x goes at =
            (let b = best.covers other x (goes_leads other x goes at) in
            let both : Some b.0 ≡ Some choice = sym b.1.0 ∙ e in
            let same : b.0 ≡ choice = cc in
            let P : Choice → Type 0 = λ c. is_gt (column_cmp c.column other) ≡ false in
            subst P same b.1.1)

        go : (None ≡ result) ⊎ ((b : Choice) ×
            ((result ≡ Some b) × LeadsByOne (numbers_of states) tests p left n (arcs_at states s) b.column b.cell))
            → IsLeastStep (Goes states tests) (IsLeft left) v n choice.column choice.cell
        go (inl none) = absurd (let no : None ≡ Some choice = none ∙ e in let f : ⊥ = cc in f)
        go (inr b) =
            (let both : Some b.0 ≡ Some choice = sym b.1.0 ∙ e in
            let same : b.0 ≡ choice = cc in
            let P : Choice → Type 0 = λ c. LeadsByOne (numbers_of states) tests p left n
            (arcs_at states s) c.column c.cell in
            let own : P choice = subst P same b.1.1 in
            record { steps = leads_goes choice.column choice.cell own; nearer = own.along.left_at; least = least })

    pub none_chosen : result ≡ None → HasStep (Goes states tests) (IsLeft left) v n → ⊥
    none_chosen e some =
        let b = best.covers some.0 some.1 (goes_leads some.0 some.1 some.2.0 some.2.1) in
        let no : None ≡ Some b.0 = sym e ∙ b.1.0 in
        let f : ⊥ = cc in f
