-- The parts of a weight, one constraint after another.
use Rattle.std.proofs.Common.{◌≡◌, ◌≢◌, ℕ, ◌+◌, ◌-◌, ◌<◌, ◌≤◌, List, replicate, length, take, get_or, set, refl}
use Rattle.std.proofs.Common.{sym, ap, ◌∙◌, arith, inl, inr, get_or-set_same, get_or-set_other, take_all}
use Rattle.std.proofs.{lemmas.Bool.cases_lt, lemmas.List.{length-set, length-append, length-replicate, ext_get_or}}
use Rattle.std.proofs.lemmas.List.{get_or_past, get_or_append_left, get_or-append_right, get_or-replicate}
use Rattle.weight_law.specs.Ranked.{parts_of_vector}
use Rattle.tier_core.specs.{declared.kind.Kind.Kind, declared.sym.Sym.Sym}
use Rattle.violation.specs.{Moves.is_tier_open, Problems.last_stage}
use Rattle.violation.proofs.CostLemmas.{length_costs}
use Rattle.kind_moves.specs.{declared.frame.Frame.Frame, Frames.{kind_at_stage, problem_in}}
use Rattle.stage_tables.specs.Ranking.{costs_at}

-- the first n parts are the numbers of a vector, and those behind them are zeros
pub record AreFirst (v parts : List ℕ) (n : ℕ) : Type 0 where
  pub long : length parts ≡ 24
  pub done : (k : ℕ) → k < n → get_or parts k 0 ≡ get_or v k 0
  pub rest : (k : ℕ) → n ≤ k → get_or parts k 0 ≡ 0

abbrev zeros : ℕ → List ℕ
zeros n = replicate n 0

length-zeros : (n : ℕ) → length (zeros n) ≡ n
length-zeros n = length-replicate {A = ℕ} n 0

zero_at : (n k : ℕ) → ◌≡◌ {A = ℕ} (get_or (replicate n 0) k 0) 0
zero_at n k = elim (cases_lt k n) [
  | inl l ↦ get_or-replicate n k 0 0 l
  | inr l ↦ get_or_past _ k 0 (omega (arith, l, length-zeros n))
]

padded_at : (v : List ℕ) (k : ℕ) → get_or (parts_of_vector v) k 0 ≡ get_or v k 0
padded_at v k = elim (cases_lt k (length v)) [
  | inl l ↦ get_or_append_left v (replicate (24 - length v) 0) 0 k l
  | inr l ↦
      (let same : length v ≡ length v = refl in
      get_or-append_right v (replicate (24 - length v) 0) (length v) k 0 same l
      ∙ zero_at (24 - length v) (k - length v)
      ∙ sym (get_or_past v k 0 l))
]

pub none_first : (v : List ℕ) → AreFirst v (replicate 24 0) 0
none_first v = record {
  long = length-zeros 24;
  done = λ k l. absurd (omega (arith, l));
  rest = λ k l. zero_at 24 k;
}

pub next_first : (v parts : List ℕ) (n x : ℕ) → AreFirst v parts n → n < 24 → x ≡ get_or v n 0
    → AreFirst v (set parts n x) (n + 1)
next_first v parts n x first inside is = record {
  long = length-set parts n x ∙ first.long;
  done = λ k l. elim (cases_lt k n) [
    | inl less ↦ (let other : k ≢ n = omega (arith, less) in get_or-set_other parts n k x 0 other ∙ first.done k less)
    | inr more ↦ (let same : k ≡ n = omega (arith, l, more) in ap (λ i. get_or (set parts n x) i 0) same
        ∙ get_or-set_same parts n x 0 (omega (arith, inside, first.long)) ∙ is ∙ ap (λ i. get_or v i 0) (sym same))
  ];
  rest = λ k l. (let other : k ≢ n = omega (arith, l) in get_or-set_other parts n k x 0 other
      ∙ first.rest k (omega (arith, l)));
}

-- with all numbers they are the vector's
pub all_first : (v parts : List ℕ) (n : ℕ) → AreFirst v parts n → n ≡ length v → n ≤ 24 → parts ≡ parts_of_vector v
all_first v parts n first all few =
    let size : length (parts_of_vector v) ≡ 24 = omega
    (arith, length-append v (zeros (24 - length v)), length-zeros (24 - length v), all, few) in
    ext_get_or 0 parts (parts_of_vector v) (first.long ∙ sym size) at
  where
    at : (k : ℕ) → k < length parts → get_or parts k 0 ≡ get_or (parts_of_vector v) k 0
    at k l = elim (cases_lt k n) [
      | inl less ↦ first.done k less ∙ sym (padded_at v k)
      | inr more ↦ first.rest k more ∙ sym (padded_at v k ∙ get_or_past v k 0 (omega (arith, more, all)))
    ]

-- a number for each constraint
pub costs_long : (frame : Frame) (kind : Kind) (column : List Sym)
    → length (costs_at frame kind column) ≡ last_stage (problem_in frame)
costs_long frame kind column =
    let k = kind_at_stage frame (last_stage (problem_in frame)) kind in
    length_costs _ _ _ _ ∙ ap length (take_all (last_stage (problem_in frame)) (problem_in frame).constraints
    (omega arith))
