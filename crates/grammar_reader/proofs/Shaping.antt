-- What the type of a shape keeps, of the shape of a grammar.
use Rattle.std.proofs.Common.{◌≡◌, ℕ, suc, ◌+◌, ◌<◌, ◌≤◌, Bool, true, false, cond, ◌||◌, List, [], ◌∷◌, length, map}
use Rattle.std.proofs.{Common.{filter, take, get_or, refl, ap, sym, ◌∙◌, arith}, lemmas.Bool.false≢true}
use Rattle.std.proofs.lemmas.List.{length-map, length-take-le}
use Rattle.std.proofs.lemmas.List.FromFn.{length-map-range_with_len, get_or-map-range_with_len}
use Rattle.std.proofs.lemmas.List.Filters.{length-filter_more}
use Rattle.std.specs.List.{list_any}
use Rattle.tier_core.specs.{declared.tier.TierKind.TierKind, declared.constraint.Constraint.Constraint}
use Rattle.tier_core.specs.{Tiers.is_input, Shapes.NeverFalls, Sides.is_stretch}
use Rattle.grammar_reader.specs.{ShapeOf.stretch_counts, Values.inputs_of, Seen.tiers_by}
use Rattle.grammar_reader.proofs.Lists.{filter-map, list_any-map}

-- the kinds of named tiers are those of the table
pub kinds_back : (ns : List (List ℕ)) (ks : List TierKind) → length ns ≡ length ks
    → map (λ t. t.kind) (tiers_by ns ks) ≡ ks
kinds_back [] [] l = refl
kinds_back [] (k ∷ ks) l = absurd (omega arith)
kinds_back (n ∷ ns) [] l = absurd (omega arith)
kinds_back (n ∷ ns) (k ∷ ks) l = ap (λ xs. k ∷ xs) (kinds_back ns ks (omega arith))

-- the input tiers of a table by its kinds
pub length-inputs : (ns : List (List ℕ)) (ks : List TierKind) → length ns ≡ length ks
    → length (inputs_of (tiers_by ns ks)) ≡ length (filter is_input ks)
length-inputs ns ks l = sym (length-map (inputs_of (tiers_by ns ks)) (λ t. t.kind))
    ∙ ap length (filter-map is_input (λ t. t.kind) (tiers_by ns ks))
    ∙ ap (λ xs. length (filter is_input xs)) (kinds_back ns ks l)

some_filtered : (t : Bool) (r : Bool) (k : TierKind) (ks : List TierKind) → (t || r) ≡ true
    → (r ≡ true → 0 < length ks) → 0 < length (cond t (k ∷ ks) ks)
some_filtered true r k ks h f = omega arith
some_filtered false r k ks h f = f h

pub any_filtered : (p : TierKind → Bool) (ks : List TierKind) → list_any p ks ≡ true → 0 < length (filter p ks)
any_filtered p [] h = absurd (false≢true h)
any_filtered p (k ∷ ks) h = some_filtered (p k) (list_any p ks) k (filter p ks) h (any_filtered p ks)

-- some tier is an input tier
pub some_input : (ns : List (List ℕ)) (ks : List TierKind) → length ns ≡ length ks
    → list_any (λ t. is_input t.kind) (tiers_by ns ks) ≡ true → 0 < length (filter is_input ks)
some_input ns ks l h = any_filtered is_input ks
    (ap (list_any is_input) (sym (kinds_back ns ks l)) ∙ list_any-map is_input (λ t. t.kind) (tiers_by ns ks) ∙ h)

-- ---- counts of stretch implications

at_most : (t : Bool) (x : Constraint) (ys : List Constraint) (n : ℕ) → length ys ≤ n
    → length (cond t (x ∷ ys) ys) ≤ suc n
at_most true x ys n l = omega arith
at_most false x ys n l = omega arith

filtered_at_most : (xs : List Constraint) → length (filter is_stretch xs) ≤ length xs
filtered_at_most [] = omega arith
filtered_at_most (x ∷ xs) = at_most (is_stretch x) x (filter is_stretch xs) (length xs) (filtered_at_most xs)

-- one constraint more has no fewer stretch implications
pub count_rises : (xs : List Constraint) (r : ℕ) → r < length xs
    → length (filter is_stretch (take r xs)) ≤ length (filter is_stretch (take (r + 1) xs))
count_rises [] r k = absurd (omega arith)
count_rises (x ∷ xs) r k = let e = length-filter_more is_stretch (x ∷ xs) r x k in omega (arith, e)

count_at : (cs : List Constraint) (r : ℕ) → r < length cs + 1
    → get_or (stretch_counts cs) r 0 ≡ length (filter is_stretch (take r cs))
count_at cs r k = get_or-map-range_with_len (λ i. length (filter is_stretch (take i cs))) 0 (length cs + 1) r r 0 k
    (omega arith)

pub length-stretch_counts : (cs : List Constraint) → length (stretch_counts cs) ≡ length cs + 1
length-stretch_counts cs = length-map-range_with_len (λ i. length (filter is_stretch (take i cs))) 0 (length cs + 1)

pub never_falls : (cs : List Constraint) → length cs ≤ 24 → NeverFalls (stretch_counts cs)
never_falls cs l = record {
  begins = count_at cs 0 (omega arith);
  rises = λ r k.
      let n = length-stretch_counts cs in
      let a = count_at cs r (omega arith) in
      let b = count_at cs (r + 1) (omega arith) in
      let e = count_rises cs r (omega arith) in
      omega (arith, a, b, e);
  most = λ r k.
      let n = length-stretch_counts cs in
      let a = count_at cs r (omega arith) in
      let f = filtered_at_most (take r cs) in
      let t = length-take-le r cs (omega arith) in
      omega (arith, a, f, t);
}
