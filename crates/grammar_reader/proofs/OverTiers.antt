-- What the type of a grammar tells of its constraints.
use Rattle.std.proofs.Common.{◌≡◌, ℕ, ◌≤◌, ◌&&◌, true, nat_lt, nat_le, List, [], ◌∷◌, map, length, refl, ap, sym}
use Rattle.std.proofs.{Common.{◌∙◌, arith, suc, All}, lemmas.Bool.{and_parts, ltb-true, leb-true}}
use Rattle.std.proofs.{lemmas.List.length-map, lemmas.List.Elements.All-from_recursion}
use Rattle.std.specs.{List.{AllByRecursion, list_all}, String.string_bytes}
use Rattle.tier_core.specs.{declared.event.Event.Event, declared.sym.Sym.Sym}
use Rattle.tier_core.specs.{declared.constraint.Constraint.Constraint, declared.tier.TierKind.TierKind}
use Rattle.tier_core.specs.Timelines.{IsWellFormed}
use Rattle.violation.specs.Conditions.{AreTiersBelow, IsOverTiers, IsCountable}
use Rattle.grammar_reader.specs.{declared.grammar.Grammar.Grammar, Values.{is_side, has_sides}}
use Rattle.grammar_reader.specs.Seen.{tiers_by, constraint_seen}

length-tiers_by : (ns : List (List ℕ)) (ks : List TierKind) → length ns ≡ length ks
    → length (tiers_by ns ks) ≡ length ks
length-tiers_by [] [] e = refl
length-tiers_by [] (k ∷ ks) e = absurd (omega arith)
length-tiers_by (n ∷ ns) [] e = absurd (omega arith)
length-tiers_by (n ∷ ns) (k ∷ ks) e = ap (λ m. suc m) (length-tiers_by ns ks (omega arith))

tiers_lower : (n : ℕ) (es : List Event) → list_all (λ e. nat_lt e.tier n) es ≡ true → AreTiersBelow n es
tiers_lower n [] h = tt
tiers_lower n (e ∷ es) h = let parts = and_parts (nat_lt e.tier n) (list_all (λ e. nat_lt e.tier n) es) h in
    (ltb-true e.tier n parts.0, tiers_lower n es parts.1)

side_over : (n : ℕ) (es : List Event) → is_side n es ≡ true → (1 ≤ length es) × AreTiersBelow n es
side_over n es h =
    let parts = and_parts (nat_le 1 (length es) && nat_le (length es) 8) (list_all (λ e. nat_lt e.tier n) es) h in
    let sizes = and_parts (nat_le 1 (length es)) (nat_le (length es) 8) parts.0 in
    (leb-true 1 (length es) sizes.0, tiers_lower n es parts.1)

each_over : (n : ℕ) (cs : List Constraint) → list_all (has_sides n) (map constraint_seen cs) ≡ true
    → AllByRecursion (IsOverTiers n) cs
each_over n [] h = tt
each_over n (c ∷ cs) h =
    let parts = and_parts (has_sides n (constraint_seen c)) (list_all (has_sides n) (map constraint_seen cs)) h in
    let sides = and_parts (is_side n c.left) (is_side n c.right) parts.0 in
    let left = side_over n c.left sides.0 in
    let right = side_over n c.right sides.1 in
    (record { left_below = left.1; right_below = right.1; some_left = omega (arith, left.0) }, each_over n cs parts.1)

-- the constraints of a grammar are over its tiers
pub over_tiers : (g : Grammar) → AllByRecursion (IsOverTiers (length g.tiers.kinds.items)) g.constraints.items
over_tiers g =
    let same : length (map string_bytes g.tiers.names.items)
    ≡ length g.tiers.kinds.items = length-map g.tiers.names.items string_bytes ∙ g.tiers.one_length in
    each_over (length g.tiers.kinds.items) g.constraints.items
    (ap (λ n. list_all (has_sides n) (map constraint_seen g.constraints.items))
    (sym (length-tiers_by (map string_bytes g.tiers.names.items) g.tiers.kinds.items same)) ∙ g.lawful.made.sides)

-- and are at most 24
pub few_constraints : (g : Grammar) → length g.constraints.items ≤ 24
few_constraints g = omega (arith, length-map g.constraints.items constraint_seen, g.lawful.made.few_constraints)

each_countable : (n : ℕ) (T : List (List Sym)) → IsWellFormed n T → (cs : List Constraint)
    → AllByRecursion (IsOverTiers n) cs → AllByRecursion (λ c. IsCountable c.left c.right T) cs
each_countable n T w [] h = tt
each_countable n T w (c ∷ cs) h = (
  record {
    width = n;
    well_formed = w;
    left_below = h.0.left_below;
    right_below = h.0.right_below;
    some_left = h.0.some_left;
  },
  each_countable n T w cs h.1,
)

-- they may be counted on a timeline that is well formed over the tiers
pub all_countable : (g : Grammar) (T : List (List Sym)) → IsWellFormed (length g.tiers.kinds.items) T
    → All (λ c. IsCountable c.left c.right T) g.constraints.items
all_countable g T w =
    All-from_recursion (λ c. IsCountable c.left c.right T) g.constraints.items
    (each_countable (length g.tiers.kinds.items) T w g.constraints.items (over_tiers g))
