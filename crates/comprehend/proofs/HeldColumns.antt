-- Which columns the tests of a surface hold.
use Rattle.std.proofs.Common.{◌≡◌, ℕ, zero, suc, ◌+◌, ◌<◌, ◌≤◌, Bool, true, false, not, ◌&&◌, List, [], ◌∷◌, ◌++◌}
use Rattle.std.proofs.Common.{length, get_or, map, drop, cond, refl, sym, ap, ◌∙◌, arith, inl, inr, append_assoc}
use Rattle.std.proofs.Common.{drop-cons, add-one}
use Rattle.std.proofs.lemmas.Bool.{false≢true, and_parts, and_from, cases_lt, not-true, or_parts, or_from}
use Rattle.std.proofs.lemmas.List.{get_or-map, get_or_past, length_push, length-map}
use Rattle.tier_core.specs.{declared.sym.Sym.Sym, declared.sym.Sym.TheVariants.Outside}
use Rattle.tier_core.specs.{declared.tier.TierKind.TierKind, Classes.sets_have, Sets.{is_in, single_set}}
use Rattle.tier_core.specs.{Tiers.{is_overt, numbers_from}, Timelines.{symbol, is_edge, has_edge}}
use Rattle.tier_core.proofs.{SetLemmas.{alone_in, only_in}, KnownSets.{in_all, in_none, in_edgeless}}
use Rattle.comprehend.specs.{Surfaces.heard_in, Tests.{still_sets, heard_sets}}

-- the symbols of the overt tiers, tier by tier
abbrev pub overt_syms : List TierKind → List Sym → List Sym
overt_syms [] column = []
overt_syms (kind ∷ kinds) [] = []
overt_syms (kind ∷ kinds) (s ∷ column) = cond (is_overt kind) (s ∷ overt_syms kinds column) (overt_syms kinds column)

symbol_behind : (front : List Sym) (s : Sym) (rest : List Sym) → symbol (front ++ s ∷ rest) (length front) ≡ s
symbol_behind [] s rest = refl
symbol_behind (x ∷ front) s rest = symbol_behind front s rest

-- they are those that the numbers of the overt tiers name
syms_step : (b : Bool) (whole : List Sym) (n : ℕ) (s : Sym) (numbers : List ℕ) (syms : List Sym) → symbol whole n ≡ s
    → map (symbol whole) numbers ≡ syms → map (symbol whole) (cond b (n ∷ []) [] ++ numbers) ≡ cond b (s ∷ syms) syms
syms_step true whole n s numbers syms first rest = ap (λ x. x ∷ map (symbol whole) numbers) first
    ∙ ap (λ xs. s ∷ xs) rest
syms_step false whole n s numbers syms first rest = rest

syms_named : (kinds : List TierKind) (front column : List Sym) → length column ≡ length kinds
    → map (symbol (front ++ column)) (numbers_from is_overt (length front) kinds) ≡ overt_syms kinds column
syms_named [] front column e = refl
syms_named (kind ∷ kinds) front [] e = absurd (omega (arith, e))
syms_named (kind ∷ kinds) front (s ∷ column) e =
    let whole : front ++ s ∷ column ≡ (front ++ s ∷ []) ++ column = sym (append_assoc front (s ∷ []) column) in
    let long : suc (length front) ≡ length (front ++ s ∷ []) = omega (arith, length_push front s) in
    let rest : map (symbol (front ++ s ∷ column)) (numbers_from is_overt (suc (length front)) kinds)
    ≡ overt_syms kinds column =
    ap (λ c. map (symbol c) (numbers_from is_overt (suc (length front)) kinds)) whole
    ∙ ap (λ n. map (symbol ((front ++ s ∷ []) ++ column)) (numbers_from is_overt n kinds)) long
    ∙ syms_named kinds (front ++ s ∷ []) column (omega (arith, e)) in
    syms_step (is_overt kind) (front ++ s ∷ column) (length front) s
    (numbers_from is_overt (suc (length front)) kinds) (overt_syms kinds column)
    (symbol_behind front s column) rest

pub heard_syms : (kinds : List TierKind) (column : List Sym) → length column ≡ length kinds
    → heard_in (numbers_from is_overt 0 kinds) column ≡ overt_syms kinds column
heard_syms kinds column e = syms_named kinds [] column e

-- the columns without an edge on an overt tier
still_step : (b : Bool) (s : Sym) (syms : List Sym) (rest : Bool) → (has_edge syms ≡ false → rest ≡ true)
    → has_edge (cond b (s ∷ syms) syms) ≡ false → (is_in (cond b 3 31) s && rest) ≡ true
still_step true s syms rest more h = and_from (is_in 3 s) rest
    (in_edgeless s ∙ ap not (or_parts (is_edge s) (has_edge syms) h).0)
    (more (or_parts (is_edge s) (has_edge syms) h).1)
still_step false s syms rest more h = and_from (is_in 31 s) rest (in_all s) (more h)

pub still_holds : (kinds : List TierKind) (column : List Sym) → length column ≡ length kinds
    → has_edge (overt_syms kinds column) ≡ false → sets_have (still_sets kinds) column ≡ true
still_holds [] [] e h = refl
still_holds [] (s ∷ column) e h = absurd (omega (arith, e))
still_holds (kind ∷ kinds) [] e h = absurd (omega (arith, e))
still_holds (kind ∷ kinds) (s ∷ column) e h = still_step (is_overt kind) s (overt_syms kinds column)
    (sets_have (still_sets kinds) column) (still_holds kinds column (omega (arith, e))) h

held_step : (b : Bool) (s : Sym) (syms : List Sym) (rest : Bool) → (rest ≡ true → has_edge syms ≡ false)
    → (is_in (cond b 3 31) s && rest) ≡ true → has_edge (cond b (s ∷ syms) syms) ≡ false
held_step true s syms rest more h =
    let parts : (is_in 3 s ≡ true) × (rest ≡ true) = and_parts (is_in 3 s) rest h in
    or_from (is_edge s) (has_edge syms) (not-true (is_edge s) (sym (in_edgeless s) ∙ parts.0)) (more parts.1)
held_step false s syms rest more h = (let parts : (is_in 31 s ≡ true) × (rest ≡ true) = and_parts
    (is_in 31 s) rest h in more parts.1)

pub still_held : (kinds : List TierKind) (column : List Sym) → sets_have (still_sets kinds) column ≡ true
    → has_edge (overt_syms kinds column) ≡ false
still_held [] column h = refl
still_held (kind ∷ kinds) [] h = refl
still_held (kind ∷ kinds) (s ∷ column) h = held_step (is_overt kind) s (overt_syms kinds column)
    (sets_have (still_sets kinds) column) (still_held kinds column) h

nothing_behind : (own : List Sym) (n : ℕ) → length own ≤ n → [] ≡ drop n own
nothing_behind [] zero l = refl
nothing_behind [] (suc n) l = refl
nothing_behind (s ∷ own) zero l = absurd (omega (arith, l))
nothing_behind (s ∷ own) (suc n) l = nothing_behind own n (omega (arith, l))

-- a list that has an element from n on
has_nth : (own : List Sym) (n : ℕ) (s : Sym) (syms : List Sym) → s ∷ syms ≡ drop n own
    → (n < length own) × (get_or own n Outside ≡ s) × (syms ≡ drop (n + 1) own)
has_nth own n s syms e = elim (cases_lt n (length own)) [
  | inl l ↦
      (let both : s ∷ syms ≡ get_or own n Outside ∷ drop (suc n) own = e ∙ drop-cons own n Outside l in
      let first : s ≡ get_or own n Outside = cc in
      let rest : syms ≡ drop (suc n) own = cc in
      (l, sym first, rest ∙ ap (λ k. drop k own) (sym (add-one n))))
  | inr l ↦ absurd (let no : s ∷ syms ≡ [] = e ∙ sym (nothing_behind own n l) in omega (arith, ap length no))
]

-- the columns that have this one on the overt tiers, from the n-th of its symbols on
module _ (own : List Sym) where
  hear_step : (b : Bool) (n : ℕ) (s : Sym) (syms : List Sym) (rest : ℕ → Bool)
      → ((k : ℕ) → syms ≡ drop k own → rest k ≡ true) → cond b (s ∷ syms) syms ≡ drop n own
      → (is_in (cond b (get_or (map single_set own) n 0) 31) s && rest (cond b (n + 1) n)) ≡ true
  hear_step true n s syms rest more h =
      let nth = has_nth own n s syms h in
      let set : get_or (map single_set own) n 0 ≡ single_set s = get_or-map single_set own n Outside 0 nth.0
      ∙ ap single_set nth.1 in
      and_from (is_in (get_or (map single_set own) n 0) s) (rest (n + 1)) (ap (λ x. is_in x s) set ∙ alone_in s)
      (more (n + 1) nth.2)
  hear_step false n s syms rest more h = and_from (is_in 31 s) (rest n) (in_all s) (more n h)

  pub heard_holds : (kinds : List TierKind) (n : ℕ) (column : List Sym) → length column ≡ length kinds
      → overt_syms kinds column ≡ drop n own → sets_have (heard_sets kinds (map single_set own) n) column ≡ true
  heard_holds [] n [] e h = refl
  heard_holds [] n (s ∷ column) e h = absurd (omega (arith, e))
  heard_holds (kind ∷ kinds) n [] e h = absurd (omega (arith, e))
  heard_holds (kind ∷ kinds) n (s ∷ column) e h =
      hear_step (is_overt kind) n s (overt_syms kinds column)
      (λ k. sets_have (heard_sets kinds (map single_set own) k) column)
      (λ k. heard_holds kinds k column (omega (arith, e))) h

  told_step : (b : Bool) (n m : ℕ) (s : Sym) (syms : List Sym) (rest : ℕ → Bool) (numbers : List ℕ)
      → ((k : ℕ) → length own ≤ k + length numbers → rest k ≡ true → syms ≡ drop k own)
      → length own ≤ n + length (cond b (m ∷ []) [] ++ numbers)
      → (is_in (cond b (get_or (map single_set own) n 0) 31) s && rest (cond b (n + 1) n)) ≡ true
      → cond b (s ∷ syms) syms ≡ drop n own
  told_step true n m s syms rest numbers more few h =
      let parts : (is_in (get_or (map single_set own) n 0) s ≡ true) × (rest (n + 1) ≡ true) = and_parts
      (is_in (get_or (map single_set own) n 0) s) (rest (n + 1)) h in
      let later : syms ≡ drop (n + 1) own = more (n + 1) (omega (arith, few)) parts.1 in
      elim (cases_lt n (length own)) [
        | inl l ↦
            (let set : get_or (map single_set own) n 0
            ≡ single_set (get_or own n Outside) = get_or-map single_set own n Outside 0 l in
            let same : s ≡ get_or own n Outside = only_in (get_or own n Outside) s
            (sym (ap (λ x. is_in x s) set) ∙ parts.0) in
            ap (λ x. x ∷ syms) same ∙ ap (λ xs. get_or own n Outside ∷ xs) (later ∙ ap (λ k. drop k own) (add-one n))
            ∙ sym (drop-cons own n Outside l))
        | inr l ↦ absurd (let none : get_or (map single_set own) n 0
            ≡ 0 = get_or_past (map single_set own) n 0 (omega (arith, l, length-map own single_set)) in false≢true
            (sym (in_none s) ∙ sym (ap (λ x. is_in x s) none) ∙ parts.0))
      ]
  told_step false n m s syms rest numbers more few h =
      (let parts : (is_in 31 s ≡ true) × (rest n ≡ true) = and_parts (is_in 31 s) (rest n) h in more n few parts.1)

  pub heard_held : (kinds : List TierKind) (n m : ℕ) (column : List Sym)
      → length own ≤ n + length (numbers_from is_overt m kinds)
      → sets_have (heard_sets kinds (map single_set own) n) column ≡ true → overt_syms kinds column ≡ drop n own
  heard_held [] n m column few h = nothing_behind own n (omega (arith, few))
  heard_held (kind ∷ kinds) n m [] few h = absurd (false≢true h)
  heard_held (kind ∷ kinds) n m (s ∷ column) few h =
      told_step (is_overt kind) n m s (overt_syms kinds column)
      (λ k. sets_have (heard_sets kinds (map single_set own) k) column) (numbers_from is_overt (suc m) kinds)
      (λ k few_k. heard_held kinds k (suc m) column few_k) few h
