-- The canonical text of a grammar is short enough to be read.
use Rattle.timeline_text.proofs.Searches.{by_test}
use Rattle.std.proofs.Common.{◌≡◌, ℕ, zero, suc, ◌+◌, ◌*◌, ◌<◌, ◌≤◌, Bool, true, false, cond, ◌&&◌, ◌||◌, eqb}
use Rattle.std.proofs.Common.{eqb-true, List, [], ◌∷◌, ◌++◌, length, map, filter, ◌/◌, get_or, refl, ap, sym, ◌∙◌}
use Rattle.std.proofs.{Common.{codes, arith, length-append}, lemmas.Bool.{false≢true, and_parts, and_from, or_parts}}
use Rattle.std.proofs.{lemmas.Bool.Decides.nat_tests, lemmas.List.length-map, lemmas.List.Folds.list_all-map}
use Rattle.std.proofs.lemmas.Map.Steps.{length-le_from_distinct_below}
use Rattle.std.specs.Prelude.{nat_le, nat_lt}
use Rattle.std.specs.{List.{list_any, list_all, flat_map, join_with_byte, AllByRecursion, IsDistinct}, Str.bytes_eq}
use Rattle.tier_core.specs.{Tiers.is_input, declared.tier.TierKind.TierKind}
use Rattle.tier_core.specs.{declared.tier.TierKind.TheVariants.{Input, Overt, Hidden}, declared.event.Event.Event}
use Rattle.tier_core.specs.{declared.event.Part.Part, declared.event.Part.TheVariants.{Start, End, Interior}}
use Rattle.tier_core.specs.declared.constraint.Family.{Family}
use Rattle.tier_core.specs.declared.constraint.Family.TheVariants.{Implication, Clash}
use Rattle.timeline_text.specs.declared.letter.Letter.{Letter}
use Rattle.grammar_reader.specs.{Statements.joined_by, Names.{is_name, is_letter_byte, has_twice}}
use Rattle.grammar_reader.specs.Values.{GrammarValue, NamedTier, NamedConstraint, inputs_of, letter_name, is_side}
use Rattle.grammar_reader.specs.{Values.{has_sides, IsProperGrammar}, Canonical.{line_of_words, tier_kind_text}}
use Rattle.grammar_reader.specs.Canonical.{tier_words, is_odd, names_in, letter_words, part_text, event_text}
use Rattle.grammar_reader.specs.Canonical.{intersperse, sign_text, constraint_words, header_words, tier_lines}
use Rattle.grammar_reader.specs.Canonical.{letter_lines, constraint_lines, canonical}
use Rattle.grammar_reader.proofs.{Ascii.name_parts, Joined.{joined_rest, intersperse-cons}, Lawful.all_weaker}
use Rattle.grammar_reader.proofs.Walk.{and_true}

-- ---- lines

-- the bytes of words, with one more for each
abbrev cost : List (List ℕ) → ℕ
cost [] = 0
cost (w ∷ ws) = 1 + length w + cost ws

joined_length : (ws : List (List ℕ)) → length (join_with_byte 32 ws) ≤ cost ws
joined_length [] = omega arith
joined_length (w ∷ []) = omega arith
joined_length (w ∷ v ∷ ws) = let h = joined_length (v ∷ ws) in let n = length-append w
    (32 ∷ join_with_byte 32 (v ∷ ws)) in omega (arith, h, n)

line_length : (ws : List (List ℕ)) → length (line_of_words ws) ≤ 1 + cost ws
line_length ws = let h = joined_length ws in let n = length-append (join_with_byte 32 ws) (10 ∷ []) in omega
    (arith, h, n)

cost-append : (us vs : List (List ℕ)) → cost (us ++ vs) ≡ cost us + cost vs
cost-append [] vs = omega arith
cost-append (u ∷ us) vs = let h = cost-append us vs in omega (arith, h)

-- lines that are no longer than k
lines_length : {X : Type 0} (f : X → List ℕ) (p : X → Bool) (k : ℕ) (xs : List X)
    → ((x : X) → p x ≡ true → length (f x) ≤ k) → list_all p xs ≡ true → length (flat_map f xs) ≤ k * length xs
lines_length f p k [] h a = omega arith
lines_length f p k (x ∷ xs) h a =
    let b = and_parts (p x) (list_all p xs) a in
    let l = h x b.0 in
    let r = lines_length f p k xs h b.1 in
    let n = length-append (f x) (flat_map f xs) in
    omega (arith, l, r, n)

-- ---- names

abbrev is_short : List ℕ → Bool
is_short w = nat_le (length w) 32

short_name : (w : List ℕ) → is_name w ≡ true → is_short w ≡ true
short_name w h = (name_parts w h).short

short_by : (w : List ℕ) → is_short w ≡ true → length w ≤ 32
short_by w h = grind (arith, nat_tests, h)

short_at : (names : List (List ℕ)) (k : ℕ) → list_all is_short names ≡ true → length (get_or names k []) ≤ 32
short_at [] k h = omega arith
short_at (n ∷ names) zero h = short_by n (and_parts (is_short n) (list_all is_short names) h).0
short_at (n ∷ names) (suc k) h = short_at names k (and_parts (is_short n) (list_all is_short names) h).1

kind_length : (kind : TierKind) → length (tier_kind_text kind) ≤ 6
kind_length Input = omega arith
kind_length Overt = omega arith
kind_length Hidden = omega arith

tier_length : (t : NamedTier) → is_name t.name ≡ true → length (line_of_words (tier_words t)) ≤ 46
tier_length t h = let a = line_length (tier_words t) in let b = short_by t.name
    (short_name t.name h) in let k = kind_length t.kind in omega (arith, a, b, k)

-- ---- letters

name_cost : (b : Bool) (w : List ℕ) (ws : List (List ℕ)) → length w ≤ 32
    → cost (cond b (w ∷ []) [] ++ ws) ≤ 33 + cost ws
name_cost true w ws l = omega (arith, l)
name_cost false w ws l = omega arith

names_cost : (ts : List NamedTier) (m : ℕ) → list_all (λ t. is_short t.name) ts ≡ true
    → cost (names_in ts m) ≤ 33 * length ts
names_cost [] m h = omega arith
names_cost (t ∷ ts) m h =
    let a = and_parts (is_short t.name) (list_all (λ u. is_short u.name) ts) h in
    let r = names_cost ts (m / 2) a.1 in
    let c = name_cost (is_odd m) t.name (names_in ts (m / 2)) (short_by t.name a.0) in
    omega (arith, r, c)

kept_all : {X : Type 0} (p q : X → Bool) (xs : List X) → list_all p xs ≡ true → list_all p (filter q xs) ≡ true
kept_all p q [] h = refl
kept_all p q (x ∷ xs) h =
    let a = and_parts (p x) (list_all p xs) h in
    let r = kept_all p q xs a.1 in
    elim (q x) as (λ t. list_all p (cond t (x ∷ filter q xs) (filter q xs))
    ≡ true) [ true ↦ and_from (p x) (list_all p (filter q xs)) a.0 r | false ↦ r ]

letter_length : (tiers : List NamedTier) (l : Letter) → list_all (λ t. is_name t.name) tiers ≡ true
    → length (inputs_of tiers) ≤ 6 → length (line_of_words (letter_words tiers l)) ≤ 210
letter_length tiers l h few =
    let a = line_length (letter_words tiers l) in
    let s = kept_all (λ t. is_short t.name) (λ t. is_input t.kind) tiers
    (all_weaker (λ t. is_name t.name) (λ t. is_short t.name) tiers (λ t k. short_name t.name k) h) in
    let c = names_cost (inputs_of tiers) l.tiers s in
    omega (arith, a, c, few)

letter_below : (b : ℕ) → is_letter_byte (b ∷ []) ≡ true → b < 123
letter_below b h = grind (arith, nat_tests)

letters_below : (ls : List Letter) (q : ℕ) → list_all (λ l. is_letter_byte (letter_name l)) ls ≡ true
    → list_any (eqb q) (map (λ l. l.byte) ls) ≡ true → q < 123
letters_below [] q h k = absurd (false≢true k)
letters_below (l ∷ ls) q h k =
    let a = and_parts (is_letter_byte (letter_name l)) (list_all (λ x. is_letter_byte (letter_name x)) ls) h in
    by_test (eqb q l.byte)
    (λ e. let same = eqb-true q l.byte e in let b = letter_below l.byte a.0 in omega (arith, same, b))
    (λ e. letters_below ls q a.1 (sym (ap (λ t. t || list_any (eqb q) (map (λ x. x.byte) ls)) e) ∙ k))

bytes_apart : (b : ℕ) (ls : List Letter) → list_any (bytes_eq (b ∷ [])) (map letter_name ls) ≡ false
    → AllByRecursion (λ c. eqb b c ≡ false) (map (λ l. l.byte) ls)
bytes_apart b [] h = tt
bytes_apart b (l ∷ ls) h = let a = or_parts (bytes_eq (b ∷ []) (letter_name l))
    (list_any (bytes_eq (b ∷ [])) (map letter_name ls)) h in (and_true (eqb b l.byte) a.0, bytes_apart b ls a.1)

bytes_distinct : (ls : List Letter) → has_twice (map letter_name ls) ≡ false → IsDistinct eqb (map (λ l. l.byte) ls)
unfolding IsDistinct
bytes_distinct [] h = tt
bytes_distinct (l ∷ ls) h = let a = or_parts (list_any (bytes_eq (letter_name l)) (map letter_name ls))
    (has_twice (map letter_name ls)) h in (bytes_apart l.byte ls a.0, bytes_distinct ls a.1)

-- there are no more letters than bytes up to `z`
few_letters : (ls : List Letter) → list_all (λ l. is_letter_byte (letter_name l)) ls ≡ true
    → has_twice (map letter_name ls) ≡ false → length ls ≤ 123
few_letters ls h once =
    let n = length-map ls (λ l. l.byte) in
    let k = length-le_from_distinct_below (map (λ l. l.byte) ls) 123 (bytes_distinct ls once)
    (λ q. letters_below ls q h) in
    omega (arith, n, k)

-- ---- constraints

part_length : (part : Part) (w : List ℕ) → length w ≤ 32 → length (part_text part ++ w) ≤ 33
part_length Start w l = omega (arith, l)
part_length End w l = omega (arith, l)
part_length Interior w l = omega (arith, l)

rest_cost : (joint : List ℕ) (names : List (List ℕ)) (es : List Event) → length joint ≤ 3
    → list_all is_short names ≡ true → cost (joined_rest joint (map (event_text names) es)) ≤ 38 * length es
rest_cost joint names [] j h = omega arith
rest_cost joint names (e ∷ es) j h =
    let p = part_length e.part (get_or names e.tier []) (short_at names e.tier h) in
    let r = rest_cost joint names es j h in
    omega (arith, p, r, j)

side_cost : (joint : List ℕ) (names : List (List ℕ)) (es : List Event) → length joint ≤ 3
    → list_all is_short names ≡ true → cost (intersperse joint (map (event_text names) es)) ≤ 38 * length es
side_cost joint names [] j h = omega arith
side_cost joint names (e ∷ es) j h =
    let p = part_length e.part (get_or names e.tier []) (short_at names e.tier h) in
    let r = rest_cost joint names es j h in
    let c = ap cost (intersperse-cons joint (event_text names e) (map (event_text names) es)) in
    omega (arith, p, r, c)

joint_length : (family : Family) → length (joined_by family) ≤ 3
joint_length Implication = omega arith
joint_length Clash = omega arith

sign_length : (family : Family) → length (sign_text family) ≤ 2
sign_length Implication = omega arith
sign_length Clash = omega arith

few_events : (n : ℕ) (es : List Event) → is_side n es ≡ true → length es ≤ 8
few_events n es h =
    let a = and_parts (nat_le 1 (length es) && nat_le (length es) 8) (list_all (λ e. nat_lt e.tier n) es) h in
    let b = and_parts (nat_le 1 (length es)) (nat_le (length es) 8) a.0 in
    grind (arith, nat_tests, b.1)

constraint_length : (names : List (List ℕ)) (n : ℕ) (c : NamedConstraint) → list_all is_short names ≡ true
    → (is_name c.name && has_sides n c) ≡ true → length (line_of_words (constraint_words names c)) ≤ 656
constraint_length names n c h k =
    let a = and_parts (is_name c.name) (has_sides n c) k in
    let s = and_parts (is_side n c.left) (is_side n c.right) a.1 in
    let left = intersperse (codes "and") (map (event_text names) c.left) in
    let right = sign_text c.family ∷ intersperse (joined_by c.family) (map (event_text names) c.right) in
    let w = line_length (constraint_words names c) in
    let m = short_by c.name (short_name c.name a.0) in
    let b = cost-append left right in
    let l = side_cost (codes "and") names c.left (omega arith) h in
    let r = side_cost (joined_by c.family) names c.right (joint_length c.family) h in
    let g = sign_length c.family in
    let i = few_events n c.left s.0 in
    let j = few_events n c.right s.1 in
    omega (arith, w, m, b, l, r, g, i, j)

both_all : {X : Type 0} (p q : X → Bool) (xs : List X) → list_all p xs ≡ true → list_all q xs ≡ true
    → list_all (λ x. p x && q x) xs ≡ true
both_all p q [] h k = refl
both_all p q (x ∷ xs) h k =
    let a = and_parts (p x) (list_all p xs) h in
    let b = and_parts (q x) (list_all q xs) k in
    and_from (p x && q x) (list_all (λ y. p y && q y) xs) (and_from (p x) (q x) a.0 b.0) (both_all p q xs a.1 b.1)

-- ---- the whole text

pub canonical_length : (g : GrammarValue) → IsProperGrammar g → length (canonical g) ≤ 65536
canonical_length g m =
    let names = map (λ t. t.name) g.tiers in
    let short = list_all-map is_short (λ t. t.name) g.tiers
    ∙ all_weaker (λ t. is_name t.name) (λ t. is_short t.name) g.tiers (λ t k. short_name t.name k) m.tier_names in
    let first = line_of_words header_words in
    let ts = tier_lines g.tiers in
    let ls = letter_lines g.tiers g.letters in
    let cs = constraint_lines names g.constraints in
    let a = lines_length (λ t. line_of_words (tier_words t))
    (λ t. is_name t.name) 46 g.tiers tier_length m.tier_names in
    let b = lines_length (λ l. line_of_words (letter_words g.tiers l))
    (λ l. is_letter_byte (letter_name l)) 210 g.letters
    (λ l h. letter_length g.tiers l m.tier_names m.few_inputs) m.letter_names in
    let c = lines_length (λ k. line_of_words (constraint_words names k))
    (λ k. is_name k.name && has_sides (length g.tiers) k) 656 g.constraints
    (λ k h. constraint_length names (length g.tiers) k short h)
    (both_all (λ k. is_name k.name) (has_sides (length g.tiers)) g.constraints m.constraint_names m.sides) in
    let x = length-append first (ts ++ (ls ++ cs)) in
    let y = length-append ts (ls ++ cs) in
    let z = length-append ls cs in
    let i = m.few_tiers in
    let j = few_letters g.letters m.letter_names m.letters_once in
    let k = m.few_constraints in
    let f : length first ≡ 6 = refl in
    omega (arith, a, b, c, x, y, z, i, j, k, f)
