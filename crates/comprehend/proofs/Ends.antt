-- The cells at which the search begins.
use Rattle.std.proofs.Common.{◌≡◌, ℕ, ◌+◌, ◌*◌, ◌<◌, ◌≤◌, true, false, List, length, get_or, sym, ap, ◌∙◌, arith}
use Rattle.std.proofs.{Common.{inl, inr, IsTrue, map}, lemmas.Bool.{false≢true, cases_lt}}
use Rattle.std.proofs.lemmas.List.{get_or-map, get_or_past, length-map}
use Rattle.tier_core.specs.declared.class.Class.{Class}
use Rattle.answer_text.specs.declared.automaton.StateLine.{StateLine}
use Rattle.comprehend.specs.{Searches.Reaches, Steps.{final_at, IsEndCell}}
use Rattle.first_paths.proofs.Reaching.{reaches_same, reaches_both}

-- the end of one of the first n states
pub record IsEndBelow (states : List StateLine) (tests : List Class) (n v : ℕ) : Type 0 where
  pub end : IsEndCell states tests v
  pub below : end.state < n

module _ (states : List StateLine) (tests : List Class) where
  pub final_is : (s : ℕ) (state : StateLine) → s < length states → state ≡ get_or states s state
      → final_at states s ≡ state.accepting
  final_is s state inside is = get_or-map (λ (x : StateLine). x.accepting) states s state false inside
      ∙ ap (λ (x : StateLine). x.accepting) (sym is)

  pub final_inside : (s : ℕ) → IsTrue (final_at states s) → s < length states
  final_inside s final = elim (cases_lt s (length states)) [
    | inl l ↦ l
    | inr l ↦ absurd (false≢true (sym (get_or_past (map (λ (x : StateLine). x.accepting) states) s false
        (omega (arith, l, length-map states (λ (x : StateLine). x.accepting)))) ∙ final))
  ]

  pub no_end_below : (v : ℕ) → IsEndBelow states tests 0 v → ⊥
  no_end_below v e = omega (arith, e.below)

  -- one state more
  pub end_more : (n cell : ℕ) (state : StateLine) → n < length states → state ≡ get_or states n state
      → cell + 1 ≡ n * length tests + length tests
      → (left mid new before between after : List ℕ) → Reaches (IsEndBelow states tests n) 0 left mid before between
      → Reaches (λ v. IsTrue state.accepting × (v ≡ cell)) 0 mid new between after
      → Reaches (IsEndBelow states tests (n + 1)) 0 left new before after
  end_more n cell state inside is at left mid new before between after first second =
      reaches_both (IsEndBelow states tests n) (λ v. IsTrue state.accepting × (v ≡ cell))
      (IsEndBelow states tests (n + 1))
      (λ v e. elim (cases_lt e.end.state n) [
        | inl less ↦ inl (record { end = e.end; below = less })
        | inr more ↦
            (let same : e.end.state ≡ n = omega (arith, more, e.below) in
            let final : final_at states n ≡ true = ap (final_at states) (sym same) ∙ e.end.final in
            inr (
              sym (final_is n state inside is)
                  ∙ final,
              omega (arith, e.end.cell, ap (λ s. s * length tests) same, at),
            ))
      ])
      (λ v e. record { end = e.end; below = omega (arith, e.below) })
      (λ v h. record {
        end = record {
          state = n;
          final = final_is n state inside is
              ∙ h.0;
          cell = omega (arith, h.1, at);
        };
        below = omega arith;
      })
      0 left mid new before between after first second

  pub all_ends : (n : ℕ) → length states ≤ n → (left new before after : List ℕ)
      → Reaches (IsEndBelow states tests n) 0 left new before after
      → Reaches (IsEndCell states tests) 0 left new before after
  all_ends n all = reaches_same (IsEndBelow states tests n) (IsEndCell states tests) (λ v e. e.end)
      (λ v e. record { end = e; below = omega (arith, final_inside e.state e.final, all) }) 0
