-- The tiers of a letter, named in tier order, have the letter's mask.
use Rattle.std.proofs.{lemmas.Bool.{or_parts, or_from}, Common.{◌≡◌, ℕ, suc, ◌+◌, ◌*◌, ◌/◌, ◌%◌, ◌^◌, ◌<◌, ◌==◌}}
use Rattle.std.proofs.Common.{Bool, true, false, cond, ◌||◌, ◌⊎◌, inl, inr, List, [], ◌∷◌, ◌++◌, length, map, refl}
use Rattle.std.proofs.Common.{ap, sym, ◌∙◌, arith}
use Rattle.std.specs.{List.list_any, Str.bytes_eq}
use Rattle.tier_core.proofs.MaskBits.{odd_or_even}
use Rattle.grammar_reader.specs.{Names.has_twice, Values.{NamedTier, is_named}, Canonical.{is_odd, names_in}}
use Rattle.grammar_reader.specs.Reading.{named_mask}
use Rattle.grammar_reader.proofs.{Lists.list_any-map, Once.same_name, Twice.other_bytes}

-- ---- names of the tiers of a mask

none_front : (p : List ℕ → Bool) (b : Bool) (w : List ℕ) (ws : List (List ℕ)) → p w ≡ false → list_any p ws ≡ false
    → list_any p (cond b (w ∷ []) [] ++ ws) ≡ false
none_front p true w ws h k = or_from (p w) (list_any p ws) h k
none_front p false w ws h k = k

-- what no tier's name passes, no name of a mask passes
pub none_in : (p : List ℕ → Bool) (ts : List NamedTier) (m : ℕ) → list_any (λ t. p t.name) ts ≡ false
    → list_any p (names_in ts m) ≡ false
none_in p [] m h = refl
none_in p (t ∷ ts) m h = let a = or_parts (p t.name) (list_any (λ u. p u.name) ts) h in none_front p (is_odd m) t.name
    (names_in ts (m / 2)) a.0 (none_in p ts (m / 2) a.1)

-- no name of the other tiers is this tier's
apart_of : (t : NamedTier) (ts : List NamedTier) (h : list_any (bytes_eq t.name) (map (λ u. u.name) ts) ≡ false)
    → list_any (λ u. bytes_eq t.name u.name) ts ≡ false
apart_of t ts h = sym (list_any-map (bytes_eq t.name) (λ u. u.name) ts) ∙ h

once_front : (b : Bool) (w : List ℕ) (ws : List (List ℕ)) → list_any (bytes_eq w) ws ≡ false → has_twice ws ≡ false
    → has_twice (cond b (w ∷ []) [] ++ ws) ≡ false
once_front true w ws h k = or_from (list_any (bytes_eq w) ws) (has_twice ws) h k
once_front false w ws h k = k

pub once_in : (ts : List NamedTier) (m : ℕ) → has_twice (map (λ t. t.name) ts) ≡ false
    → has_twice (names_in ts m) ≡ false
once_in [] m h = refl
once_in (t ∷ ts) m h =
    let a = or_parts (list_any (bytes_eq t.name) (map (λ u. u.name) ts)) (has_twice (map (λ u. u.name) ts)) h in
    once_front (is_odd m) t.name (names_in ts (m / 2)) (none_in (bytes_eq t.name) ts (m / 2) (apart_of t ts a.0))
    (once_in ts (m / 2) a.1)

-- ---- parity

halves_at : (m : ℕ) → (m % 2 ≡ 1) ⊎ (m % 2 ≡ 0) → cond (is_odd m) 1 0 + 2 * (m / 2) ≡ m
halves_at m (inl odd) = let e = ap (λ n. cond (n == 1) 1 0 + 2 * (m / 2)) odd in let d : 1 + 2 * (m / 2)
    ≡ m = omega arith in e ∙ d
halves_at m (inr even) = let e = ap (λ n. cond (n == 1) 1 0 + 2 * (m / 2)) even in let d : 0 + 2 * (m / 2)
    ≡ m = omega arith in e ∙ d

halves : (m : ℕ) → cond (is_odd m) 1 0 + 2 * (m / 2) ≡ m
halves m = halves_at m (odd_or_even m)

-- a letter has a tier
some_front : (b : Bool) (w : List ℕ) (ws : List (List ℕ)) → (b ≡ false → 0 < length ws)
    → 0 < length (cond b (w ∷ []) [] ++ ws)
some_front true w ws h = omega arith
some_front false w ws h = h refl

even_some : (m : ℕ) → 0 < m → is_odd m ≡ false → 0 < m / 2
even_some m l h = let e = halves m in let f = sym (ap (λ b. cond b 1 0 + 2 * (m / 2)) h) ∙ e in omega (arith, f)

half_below : (m n : ℕ) → m < 2 ^ suc n → m / 2 < 2 ^ n
half_below m n h = omega arith

pub some_in : (ts : List NamedTier) (m : ℕ) → 0 < m → m < 2 ^ length ts → 0 < length (names_in ts m)
some_in [] m l h = absurd (omega arith)
some_in (t ∷ ts) m l h = some_front (is_odd m) t.name (names_in ts (m / 2))
    (λ e. some_in ts (m / 2) (even_some m l e) (half_below m (length ts) h))

-- ---- the mask of names

-- a name that no tier has gives no bit
mask_without : (ts : List NamedTier) (w : List ℕ) (ws : List (List ℕ)) → list_any (λ t. bytes_eq w t.name) ts ≡ false
    → named_mask ts (w ∷ ws) ≡ named_mask ts ws
mask_without [] w ws h = refl
mask_without (t ∷ ts) w ws h =
    let a = or_parts (bytes_eq w t.name) (list_any (λ u. bytes_eq w u.name) ts) h in
    ap (λ b. cond (b || list_any (λ n. is_named n t) ws) 1 0 + 2 * named_mask ts (w ∷ ws)) a.0
    ∙ ap (λ n. cond (list_any (λ v. is_named v t) ws) 1 0 + 2 * n) (mask_without ts w ws a.1)

without_front : (ts : List NamedTier) (b : Bool) (w : List ℕ) (ws : List (List ℕ))
    → list_any (λ t. bytes_eq w t.name) ts ≡ false → named_mask ts (cond b (w ∷ []) [] ++ ws) ≡ named_mask ts ws
without_front ts true w ws h = mask_without ts w ws h
without_front ts false w ws h = refl

-- a tier is named where its bit is set
named_front : (t : NamedTier) (b : Bool) (ws : List (List ℕ)) → list_any (λ n. is_named n t) ws ≡ false
    → list_any (λ n. is_named n t) (cond b (t.name ∷ []) [] ++ ws) ≡ b
named_front t true ws h = ap (λ s. s || list_any (λ n. is_named n t) ws) (same_name t.name)
named_front t false ws h = h

others_apart : (t : NamedTier) (ts : List NamedTier) → list_any (λ u. bytes_eq t.name u.name) ts ≡ false
    → list_any (λ u. bytes_eq u.name t.name) ts ≡ false
others_apart t [] h = refl
others_apart t (u ∷ ts) h =
    let a = or_parts (bytes_eq t.name u.name) (list_any (λ v. bytes_eq t.name v.name) ts) h in
    or_from (bytes_eq u.name t.name) (list_any (λ v. bytes_eq v.name t.name) ts) (other_bytes t.name u.name a.0)
    (others_apart t ts a.1)

pub mask_back : (ts : List NamedTier) (m : ℕ) → m < 2 ^ length ts → has_twice (map (λ t. t.name) ts) ≡ false
    → named_mask ts (names_in ts m) ≡ m
mask_back [] m l h = omega arith
mask_back (t ∷ ts) m l h =
    let a = or_parts (list_any (bytes_eq t.name) (map (λ u. u.name) ts)) (has_twice (map (λ u. u.name) ts)) h in
    let other = apart_of t ts a.0 in
    let rest = names_in ts (m / 2) in
    let here : list_any (λ n. is_named n t) (names_in (t ∷ ts) m)
    ≡ is_odd m = named_front t (is_odd m) rest
    (none_in (λ n. is_named n t) ts (m / 2) (others_apart t ts other)) in
    let there : named_mask ts (names_in (t ∷ ts) m) ≡ m / 2 = without_front ts (is_odd m) t.name rest other
    ∙ mask_back ts (m / 2) (half_below m (length ts) l) a.1 in
    ap (λ b. cond b 1 0 + 2 * named_mask ts (names_in (t ∷ ts) m)) here ∙ ap (λ n. cond (is_odd m) 1 0 + 2 * n) there
    ∙ halves m
