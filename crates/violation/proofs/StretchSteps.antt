-- A stretch: where the meet of interiors begins and ends.
use Rattle.std.proofs.Common.{◌≡◌, ℕ, zero, suc, ◌+◌, ◌*◌, ◌-◌, ◌<◌, ◌≤◌, max, Bool, true, false, ◌&&◌, cond, leb}
use Rattle.std.proofs.Common.{ltb, eqb, List, [], ◌∷◌, map, length, get_or, refl, sym, ap, ◌∙◌, ⊎_elim, arith}
use Rattle.std.proofs.{lemmas.List.get_or-map, lemmas.Bool.{cases_lt, false≢true, eq-eqb, lt-ltb, ltb-true, leb-true}}
use Rattle.std.proofs.{lemmas.Bool.{and_parts, and_from, or_left, or_right, or_cases}, lemmas.Bool.Decides.nat_tests}
use Rattle.std.specs.{Prelude.count_by, List.{AllByRecursion, list_all}}
use Rattle.tier_core.specs.{declared.sym.Sym.Sym, declared.sym.Sym.TheVariants.{Outside, Inside, Start, End, Both}}
use Rattle.tier_core.specs.{declared.event.Event.Event, declared.event.Part.Part}
use Rattle.tier_core.specs.declared.event.Part.TheVariants.{Start as StartOf, End as EndOf, Interior}
use Rattle.tier_core.specs.Events.{Interval, event, events, greatest_low}
use Rattle.tier_core.specs.Timelines.{tier_word, symbol, is_edge, IsWellFormed}
use Rattle.tier_core.specs.{Words.{constituents, starts, ends, is_inside_sym}, Sides.{is_edge_part, edge_among}}
use Rattle.tier_core.proofs.{CountLemmas.{bit, count_cons, all_weaker, all_of}, WordCounts.{start_at, inside_at}}
use Rattle.tier_core.proofs.{WordForm.runs_from_well_formed, WordLemmas.{runs, constituents_late}, Members.all_both}
use Rattle.violation.specs.{Conditions.AreTiersBelow, Counts.choices, Prefixes.last_where}
use Rattle.violation.proofs.{ChoiceLemmas.{all_flat, all_map}, EdgeSteps.{is_at, IsFilled}, EventCounts.between_point}
use Rattle.violation.proofs.MeetLemmas.{contains}

-- the pairs of a well-formed word against its symbols

none_if_zero : {X : Type 0} (p : X → Bool) (xs : List X) → count_by p xs ≡ 0 → AllByRecursion (λ x. p x ≡ false) xs
none_if_zero p [] h = tt
none_if_zero p (x ∷ xs) h =
    (zero_bit (p x) (omega (arith, count_cons p x xs)), none_if_zero p xs (omega (arith, count_cons p x xs)))
  where
    zero_bit : (b : Bool) → bit b ≡ 0 → b ≡ false
    zero_bit true e = absurd (omega arith)
    zero_bit false e = refl

all_forall : {X : Type 0} (P : ℕ → X → Type 0) (xs : List X) → ((n : ℕ) → AllByRecursion (P n) xs)
    → AllByRecursion (λ x. (n : ℕ) → P n x) xs
all_forall P [] h = tt
all_forall P (x ∷ xs) h = (λ n. (h n).0, all_forall P xs (λ n. (h n).1))

from_count_at : {X : Type 0} (p : X → Bool) (b : Bool) (xs : List X) → count_by p xs ≡ bit b
    → AllByRecursion (λ x. p x ≡ true → b ≡ true) xs
from_count_at p true xs h = all_of _ xs (λ x e. refl)
from_count_at p false xs h = all_weaker (λ x. p x ≡ false) _ xs (λ x e t. absurd (false≢true (sym e ∙ t)))
    (none_if_zero p xs h)

from_count : {X : Type 0} (p : ℕ → X → Bool) (f : ℕ → Bool) (xs : List X) → ((n : ℕ) → count_by (p n) xs ≡ bit (f n))
    → AllByRecursion (λ x. (n : ℕ) → p n x ≡ true → f n ≡ true) xs
from_count p f xs h = all_forall (λ n x. p n x ≡ true → f n ≡ true) xs (λ n. from_count_at (p n) (f n) xs (h n))

-- each pair starts where the symbol starts one, and has Inside strictly between
pub record IsDrawnIn (w : List Sym) (c : ℕ × ℕ) : Type 0 where
  pub ordered : c.0 < c.1
  pub start : starts (get_or w c.0 Outside) ≡ true
  pub between : (n : ℕ) → c.0 < n → n < c.1 → is_inside_sym (get_or w n Outside) ≡ true

pub drawn_in : (w : List Sym) → runs false w ≡ true → AllByRecursion (IsDrawnIn w) (constituents w)
drawn_in w r =
    all_weaker (λ c. ((0 ≤ c.0) × (c.0 < c.1)) ×
    (((n : ℕ) → eqb c.0 n ≡ true → starts (get_or w n Outside) ≡ true) ×
    ((n : ℕ) → (ltb c.0 n && ltb n c.1) ≡ true → is_inside_sym (get_or w n Outside) ≡ true))) (IsDrawnIn w)
    (constituents w)
    (λ c a. record {
      ordered = a.0.1;
      start = a.1.0 c.0 (eq-eqb c.0 c.0 refl);
      between = λ n g h. a.1.1 n (and_from (ltb c.0 n) (ltb n c.1) (lt-ltb c.0 n g) (lt-ltb n c.1 h));
    })
    (all_both _ _ _ (constituents_late 0 w)
    (all_both _ _ _
    (from_count (λ n c. eqb c.0 n) (λ n. starts (get_or w n Outside)) (constituents w) (start_at w r))
    (from_count (λ n c. ltb c.0 n && ltb n c.1) (λ n. is_inside_sym (get_or w n Outside)) (constituents w)
    (inside_at w r))))

-- the last place that passes

last_step : (test : List Sym → Bool) (T : List (List Sym)) (n i : ℕ) (b : Bool) → test (get_or T n []) ≡ b → i < suc n
    → test (get_or T i []) ≡ true
    → (i < n → (i ≤ last_where test T n) × (test (get_or T (last_where test T n) []) ≡ true))
    → (i ≤ cond b n (last_where test T n)) × (test (get_or T (cond b n (last_where test T n)) []) ≡ true)
last_step test T n i true e l h rest = (omega arith, e)
last_step test T n i false e l h rest = rest
    (⊎_elim (λ g. g) (λ g. let same : i ≡ n = omega arith in absurd
    (false≢true (sym e ∙ ap (λ m. test (get_or T m [])) (sym same) ∙ h))) (cases_lt i n))

pub last_is : (test : List Sym → Bool) (T : List (List Sym)) (n i : ℕ) → i < n → test (get_or T i []) ≡ true
    → (i ≤ last_where test T n) × (test (get_or T (last_where test T n) []) ≡ true)
last_is test T zero i l h = absurd (omega arith)
last_is test T (suc n) i l h = last_step test T n i (test (get_or T n [])) refl l h (λ g. last_is test T n i g h)

last_at_most : (test : List Sym → Bool) (T : List (List Sym)) (n : ℕ) → last_where test T n + 1 ≤ max n 1
last_at_most test T zero = omega arith
last_at_most test T (suc n) = by_test (test (get_or T n [])) (last_at_most test T n)
  where
    by_test : (b : Bool) → last_where test T n + 1 ≤ max n 1 → cond b n (last_where test T n) + 1 ≤ max (suc n) 1
    by_test true rest = omega arith
    by_test false rest = omega arith

pub last_below : (test : List Sym → Bool) (T : List (List Sym)) (n : ℕ) → 0 < n → last_where test T n < n
last_below test T n l = omega (arith, last_at_most test T n)

-- an event of one type is an event among the types
pub among_each : (es : List Event) → AllByRecursion
    (λ e. (column : List Sym) → is_edge (symbol column e.tier) ≡ true → edge_among es column ≡ true) es
among_each [] = tt
among_each (e ∷ es) = (
  (λ column h. or_left (is_edge (symbol column e.tier)) (edge_among es column) h),
  all_weaker (λ f. (column : List Sym) → is_edge (symbol column f.tier) ≡ true → edge_among es column ≡ true) _ es
      (λ f a column h. or_right (is_edge (symbol column e.tier)) (edge_among es column) (a column h)) (among_each es),
)

edge_not_inside : (s : Sym) → is_edge s ≡ true → is_inside_sym s ≡ true → ⊥
edge_not_inside Outside a b = false≢true a
edge_not_inside Inside a b = false≢true a
edge_not_inside Start a b = false≢true b
edge_not_inside End a b = false≢true b
edge_not_inside Both a b = false≢true b

-- the left events that are open before column k, where s is the last place before it with an edge among them
module _ (width : ℕ) (T : List (List Sym)) (wf : IsWellFormed width T) (k : ℕ) (l : k < length T)
    (left : List Event) where
  pub record StartsStretch (e : Event) (x : Interval) : Type 0 where
    pub low_le : x.low ≤ 2 * last_where (edge_among left) T k + 1
    pub edge : edge_among left (get_or T (last_where (edge_among left) T k) []) ≡ true
    pub low_ge : is_edge (symbol (get_or T (last_where (edge_among left) T k) []) e.tier) ≡ true
        → 2 * last_where (edge_among left) T k + 1 ≤ x.low

  pair_starts : (e : Event) (i j : ℕ) → ((column : List Sym) → is_edge (symbol column e.tier) ≡ true
      → edge_among left column ≡ true)
      → IsDrawnIn (tier_word T e.tier) (i, j) → (contains (2 * k - 1) (event Interior (i, j))) ≡ true
      → StartsStretch e (event Interior (i, j))
  pair_starts e i j among d h =
      let covered : (ltb i k && leb k j) ≡ true = sym (between_point i j k d.ordered) ∙ h in
      let parts : (ltb i k ≡ true) × (leb k j ≡ true) = and_parts (ltb i k) (leb k j) covered in
      let before : i < k = ltb-true i k parts.0 in
      let after : k ≤ j = leb-true k j parts.1 in
      let at : (n : ℕ) → n < length T → get_or (tier_word T e.tier) n Outside ≡ symbol (get_or T n []) e.tier =
      λ n g. get_or-map (λ column. symbol column e.tier) T n [] Outside g in
      let starts_here : starts (symbol (get_or T i []) e.tier) ≡ true = ap starts (sym (at i (omega arith)))
      ∙ d.start in
      let edge_here : edge_among left (get_or T i [])
      ≡ true = among (get_or T i [])
      (or_left (starts (symbol (get_or T i []) e.tier)) (ends (symbol (get_or T i []) e.tier)) starts_here) in
      let last : (i ≤ last_where (edge_among left) T k) ×
      (edge_among left (get_or T (last_where (edge_among left) T k) []) ≡ true) = last_is
      (edge_among left) T k i before edge_here in
      let below : last_where (edge_among left) T k < k = last_below (edge_among left) T k (omega arith) in
      record {
        low_le = omega (arith, last.0);
        edge = last.1;
        low_ge = λ g. ⊎_elim
            (λ less. absurd (edge_not_inside (symbol (get_or T (last_where (edge_among left) T k) []) e.tier) g
            (ap is_inside_sym (sym (at (last_where (edge_among left) T k) (omega arith)))
            ∙ d.between (last_where (edge_among left) T k) less (omega arith))))
            (λ more. omega arith)
            (cases_lt i (last_where (edge_among left) T k));
      }

  events_start : (e : Event) → e.tier < width → is_edge_part e.part ≡ false
      → ((column : List Sym) → is_edge (symbol column e.tier) ≡ true → edge_among left column ≡ true)
      → AllByRecursion (λ x. contains (2 * k - 1) x ≡ true → StartsStretch e x) (events T e)
  events_start e t i among = by_part e.part i
    where
      by_part : (part : Part) → is_edge_part part ≡ false
          → AllByRecursion (λ x. contains (2 * k - 1) x ≡ true → StartsStretch e x)
          (map (event part) (constituents (tier_word T e.tier)))
      by_part StartOf g = absurd (false≢true (sym g))
      by_part EndOf g = absurd (false≢true (sym g))
      by_part Interior g = all_map _ (event Interior) (constituents (tier_word T e.tier))
          (all_weaker (IsDrawnIn (tier_word T e.tier)) _ _ (λ c d. pair_starts e c.0 c.1 among d)
          (drawn_in (tier_word T e.tier) (runs_from_well_formed (tier_word T e.tier) (wf.each_tier e.tier t))))

  -- where the meet of a choice begins
  pub record MeetStarts (es : List Event) (choice : List Interval) : Type 0 where
    pub low_le : greatest_low choice ≤ 2 * last_where (edge_among left) T k + 1
    pub edge : IsFilled choice → edge_among left (get_or T (last_where (edge_among left) T k) []) ≡ true
    pub low_ge : edge_among es (get_or T (last_where (edge_among left) T k) []) ≡ true
        → 2 * last_where (edge_among left) T k + 1 ≤ greatest_low choice

  meet_more : (e : Event) (es : List Event) (x : Interval) (choice : List Interval) → StartsStretch e x
      → MeetStarts es choice → MeetStarts (e ∷ es) (x ∷ choice)
  meet_more e es x choice a b = record {
    low_le = omega (arith, a.low_le, b.low_le);
    edge = λ f. a.edge;
    low_ge = λ g. ⊎_elim (λ h. omega (arith, a.low_ge h)) (λ h. omega (arith, b.low_ge h))
        (or_cases (is_edge (symbol (get_or T (last_where (edge_among left) T k) []) e.tier))
        (edge_among es (get_or T (last_where (edge_among left) T k) [])) g);
  }

  pub meets_start : (es : List Event) → AreTiersBelow width es → AllByRecursion (λ e. is_edge_part e.part ≡ false) es
      → AllByRecursion (λ e. (column : List Sym) → is_edge (symbol column e.tier) ≡ true
      → edge_among left column ≡ true) es
      → AllByRecursion (λ choice. list_all (contains (2 * k - 1)) choice ≡ true → MeetStarts es choice)
      (choices (map (events T) es))
  meets_start [] t i a = (
    (λ h. record {
      low_le = omega arith;
      edge = λ f. absurd f;
      low_ge = λ g. absurd (false≢true g);
    }),
    tt,
  )
  meets_start (e ∷ es) t i a =
      all_flat (λ choice. list_all (contains (2 * k - 1)) choice ≡ true → MeetStarts (e ∷ es) choice) (events T e)
      (choices (map (events T) es))
      (all_weaker (λ x. contains (2 * k - 1) x ≡ true → StartsStretch e x) _ (events T e)
      (λ x f. all_weaker (λ choice. list_all (contains (2 * k - 1)) choice ≡ true → MeetStarts es choice) _
      (choices (map (events T) es))
      (λ choice g h.
      let parts : (contains (2 * k - 1) x ≡ true) × (list_all (contains (2 * k - 1)) choice ≡ true) = and_parts _ _ h in
      meet_more e es x choice (f parts.0) (g parts.1))
      (meets_start es t.1 i.1 a.1))
      (events_start e t.0 i.0 a.0))

  -- the meet of a choice of the left types that is open before column k begins at the last edge
  pub meet_starts_at : (choice : List Interval) → IsFilled choice
      → (list_all (contains (2 * k - 1)) choice ≡ true → MeetStarts left choice)
      → list_all (contains (2 * k - 1)) choice ≡ true → greatest_low choice ≡ 2 * last_where (edge_among left) T k + 1
  meet_starts_at choice f m h =
      let starts_so : MeetStarts left choice = m h in
      omega (arith, starts_so.low_le, starts_so.low_ge (starts_so.edge f))

pub reorder_test : (l h q k : ℕ) (r s : Bool) → h ≡ 2 * q + 1
    → ((leb l (2 * k - 1) && leb (2 * k - 1) h) ≡ true → h ≡ 2 * k - 1 → r ≡ s)
    → ((leb l h && r) && is_at k h) ≡ ((leb l h && is_at k h) && s)
reorder_test l h q k r s o e = grind (arith, nat_tests)
