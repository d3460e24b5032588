-- Names that stand once: what stands at a place, and what is found by its name.
use Rattle.std.proofs.Common.{◌≡◌, ℕ, zero, suc, ◌+◌, ◌<◌, Bool, true, false, cond, not, ◌||◌, List, [], ◌∷◌, ◌++◌}
use Rattle.std.proofs.Common.{length, map, filter, get_or, unwrap_or, Some, None, refl, ap, sym, ◌∙◌, arith}
use Rattle.std.proofs.lemmas.Bool.{false≢true, or_left, or_right, or_parts, or_from, and_parts}
use Rattle.std.proofs.{lemmas.Bool.Decides.nat_tests, lemmas.List.map-append, lemmas.Slice.Eq.bytes_eq-Decides}
use Rattle.std.specs.{Prelude.nat_lt, List.{list_any, list_all, find, position_or_len}, Option.option_map_or}
use Rattle.std.specs.Str.{bytes_eq}
use Rattle.tier_core.specs.Tiers.{is_input}
use Rattle.grammar_reader.specs.{Names.has_twice, Values.{NamedTier, is_named, inputs_of}}
use Rattle.grammar_reader.specs.Reading.{is_unknown, is_input_named, tier_index}
use Rattle.grammar_reader.proofs.{Lists.list_any-map, Twice.{other_bytes, twice_after}}
use Rattle.timeline_text.proofs.Searches.{by_test}

pub same_name : (w : List ℕ) → bytes_eq w w ≡ true
same_name w = (bytes_eq-Decides w w).1 refl

-- ---- tests of each element, with what stands before it and behind it

pub none_by : {X : Type 0} (p : X → Bool) (xs : List X)
    → ((front : List X) (x : X) (rest : List X) → xs ≡ front ++ x ∷ rest → p x ≡ false) → list_any p xs ≡ false
none_by p [] h = refl
none_by p (x ∷ xs) h = or_from (p x) (list_any p xs) (h [] x xs refl)
    (none_by p xs (λ front y rest e. h (x ∷ front) y rest (ap (λ ys. x ∷ ys) e)))

filtered_none : {X : Type 0} (p q : X → Bool) (x : X) (t : Bool) (xs : List X) → q x ≡ t → (q x ≡ true → p x ≡ false)
    → list_any p xs ≡ false → list_any p (cond t (x ∷ xs) xs) ≡ false
filtered_none p q x true xs e h k = or_from (p x) (list_any p xs) (h e) k
filtered_none p q x false xs e h k = k

pub none_kept : {X : Type 0} (p q : X → Bool) (xs : List X)
    → ((front : List X) (x : X) (rest : List X) → xs ≡ front ++ x ∷ rest → q x ≡ true → p x ≡ false)
    → list_any p (filter q xs) ≡ false
none_kept p q [] h = refl
none_kept p q (x ∷ xs) h = filtered_none p q x (q x) (filter q xs) refl (h [] x xs refl)
    (none_kept p q xs (λ front y rest e. h (x ∷ front) y rest (ap (λ ys. x ∷ ys) e)))

pub none_filtered : {X : Type 0} (p q : X → Bool) (xs : List X) → list_any p xs ≡ false
    → list_any p (filter q xs) ≡ false
none_filtered p q [] h = refl
none_filtered p q (x ∷ xs) h = let a = or_parts (p x) (list_any p xs) h in filtered_none p q x (q x)
    (filter q xs) refl (λ k. a.0) (none_filtered p q xs a.1)

not_all : {X : Type 0} (p : X → Bool) (x : X) (xs : List X) → list_all p (x ∷ xs) ≡ true
    → (not (p x) || list_any (λ y. not (p y)) xs) ≡ list_any (λ y. not (p y)) xs
not_all p x xs h = ap (λ t. not t || list_any (λ y. not (p y)) xs) (and_parts (p x) (list_all p xs) h).0

pub none_fails : {X : Type 0} (p : X → Bool) (xs : List X) → list_all p xs ≡ true → list_any (λ x. not (p x)) xs ≡ false
none_fails p [] h = refl
none_fails p (x ∷ xs) h = not_all p x xs h ∙ none_fails p xs (and_parts (p x) (list_all p xs) h).1

pub at_place : {X : Type 0} (p : X → Bool) (front : List X) (x : X) (rest : List X)
    → list_all p (front ++ x ∷ rest) ≡ true → p x ≡ true
at_place p [] x rest h = (and_parts (p x) (list_all p rest) h).0
at_place p (y ∷ front) x rest h = at_place p front x rest (and_parts (p y) (list_all p (front ++ x ∷ rest)) h).1

pub any_at : {X : Type 0} (p : X → Bool) (front : List X) (x : X) (rest : List X) → p x ≡ true
    → list_any p (front ++ x ∷ rest) ≡ true
any_at p [] x rest h = or_left (p x) (list_any p rest) h
any_at p (y ∷ front) x rest h = or_right (p y) (list_any p (front ++ x ∷ rest)) (any_at p front x rest h)

-- ---- names in a list that has none twice

-- what stands at a place is not there before
pub front_once : {X : Type 0} (name : X → List ℕ) (front : List X) (x : X) (rest : List X)
    → has_twice (map name (front ++ x ∷ rest)) ≡ false → list_any (λ y. bytes_eq (name x) (name y)) front ≡ false
front_once name front x rest h =
    let none : list_any (bytes_eq (name x)) (map name front)
    ≡ false = by_test (list_any (bytes_eq (name x)) (map name front))
    (λ e. absurd (false≢true (sym h ∙ (ap has_twice (map-append name front (x ∷ rest))
    ∙ twice_after (map name front) (name x) (map name rest) e))))
    (λ e. e) in
    sym (list_any-map (bytes_eq (name x)) name front) ∙ none

once_kept : (t : NamedTier) (b : Bool) (ts : List NamedTier)
    → list_any (bytes_eq t.name) (map (λ u. u.name) ts) ≡ false → has_twice (map (λ u. u.name) ts) ≡ false
    → has_twice (map (λ u. u.name) (cond b (t ∷ ts) ts)) ≡ false
once_kept t true ts a h = or_from (list_any (bytes_eq t.name) (map (λ u. u.name) ts))
    (has_twice (map (λ u. u.name) ts)) a h
once_kept t false ts a h = h

pub once_filtered : (q : NamedTier → Bool) (ts : List NamedTier) → has_twice (map (λ t. t.name) ts) ≡ false
    → has_twice (map (λ t. t.name) (filter q ts)) ≡ false
once_filtered q [] h = refl
once_filtered q (t ∷ ts) h =
    let a = or_parts (list_any (bytes_eq t.name) (map (λ u. u.name) ts)) (has_twice (map (λ u. u.name) ts)) h in
    let none : list_any (bytes_eq t.name) (map (λ u. u.name) (filter q ts)) ≡ false =
    list_any-map (bytes_eq t.name) (λ u. u.name) (filter q ts)
    ∙ none_filtered (λ u. bytes_eq t.name u.name) q ts
    (sym (list_any-map (bytes_eq t.name) (λ u. u.name) ts) ∙ a.0) in
    once_kept t (q t) (filter q ts) none (once_filtered q ts a.1)

-- ---- tiers by their names

find_at : (front : List NamedTier) (t : NamedTier) (rest : List NamedTier)
    → list_any (λ u. bytes_eq t.name u.name) front ≡ false → find (is_named t.name) (front ++ t ∷ rest) ≡ Some t
find_at [] t rest h = ap (λ b. cond b (Some t) (find (is_named t.name) rest)) (same_name t.name)
find_at (u ∷ front) t rest h =
    let a = or_parts (bytes_eq t.name u.name) (list_any (λ v. bytes_eq t.name v.name) front) h in
    ap (λ b. cond b (Some u) (find (is_named t.name) (front ++ t ∷ rest))) a.0 ∙ find_at front t rest a.1

-- no input tier is unknown
pub none_unknown : (tiers : List NamedTier) → list_any (λ t. is_unknown tiers t.name) (inputs_of tiers) ≡ false
none_unknown tiers = none_kept (λ t. is_unknown tiers t.name) (λ t. is_input t.kind) tiers
    (λ front t rest e k. ap not (ap (list_any (is_named t.name)) e
    ∙ any_at (is_named t.name) front t rest (same_name t.name)))

-- and each is an input tier by its name
pub none_other : (tiers : List NamedTier) → has_twice (map (λ t. t.name) tiers) ≡ false
    → list_any (λ t. not (is_input_named tiers t.name)) (inputs_of tiers) ≡ false
none_other tiers once = none_kept (λ t. not (is_input_named tiers t.name)) (λ t. is_input t.kind) tiers
    (λ front t rest e k.
    let h = sym (ap (λ ts. has_twice (map (λ u. u.name) ts)) e) ∙ once in
    ap (λ o. not (option_map_or (λ u. is_input u.kind) o false))
    (ap (find (is_named t.name)) e ∙ find_at front t rest (front_once (λ u. u.name) front t rest h)) ∙ ap not k)

-- ---- tiers by their numbers

-- the name of the tier with a number
abbrev pub name_at : List NamedTier → ℕ → List ℕ
name_at ts k = get_or (map (λ t. t.name) ts) k []

pub named_at : (p : List ℕ → Bool) (ts : List NamedTier) (k : ℕ) → k < length ts → list_all (λ t. p t.name) ts ≡ true
    → p (name_at ts k) ≡ true
named_at p [] k l h = absurd (omega arith)
named_at p (t ∷ ts) zero l h = (and_parts (p t.name) (list_all (λ u. p u.name) ts) h).0
named_at p (t ∷ ts) (suc k) l h = named_at p ts k (omega arith) (and_parts (p t.name) (list_all (λ u. p u.name) ts) h).1

pub known_at : (ts : List NamedTier) (k : ℕ) → k < length ts → list_any (is_named (name_at ts k)) ts ≡ true
known_at [] k l = absurd (omega arith)
known_at (t ∷ ts) zero l = or_left (bytes_eq t.name t.name) (list_any (is_named t.name) ts) (same_name t.name)
known_at (t ∷ ts) (suc k) l = or_right (bytes_eq (name_at ts k) t.name) (list_any (is_named (name_at ts k)) ts)
    (known_at ts k (omega arith))

none_at : (w : List ℕ) (ts : List NamedTier) (k : ℕ) → k < length ts
    → list_any (bytes_eq w) (map (λ t. t.name) ts) ≡ false → bytes_eq w (name_at ts k) ≡ false
none_at w [] k l h = absurd (omega arith)
none_at w (t ∷ ts) zero l h = (or_parts (bytes_eq w t.name) (list_any (bytes_eq w) (map (λ u. u.name) ts)) h).0
none_at w (t ∷ ts) (suc k) l h = none_at w ts k (omega arith)
    (or_parts (bytes_eq w t.name) (list_any (bytes_eq w) (map (λ u. u.name) ts)) h).1

place_of : (ts : List NamedTier) (k : ℕ) → k < length ts → has_twice (map (λ t. t.name) ts) ≡ false
    → position_or_len (is_named (name_at ts k)) ts ≡ k
place_of [] k l h = absurd (omega arith)
place_of (t ∷ ts) zero l h = ap (λ b. cond (not b) (1 + position_or_len (is_named t.name) ts) 0) (same_name t.name)
place_of (t ∷ ts) (suc k) l h =
    let a = or_parts (list_any (bytes_eq t.name) (map (λ u. u.name) ts)) (has_twice (map (λ u. u.name) ts)) h in
    let m : k < length ts = omega arith in
    let i = place_of ts k m a.1 in
    let s : 1 + k ≡ suc k = omega arith in
    ap (λ b. cond (not b) (1 + position_or_len (is_named (name_at ts k)) ts) 0)
    (other_bytes t.name (name_at ts k) (none_at t.name ts k m a.0)) ∙ ap (λ n. 1 + n) i ∙ s

pub number_at : (ts : List NamedTier) (k : ℕ) → k < length ts → has_twice (map (λ t. t.name) ts) ≡ false
    → tier_index ts (name_at ts k) ≡ k
number_at ts k l h =
    let t : nat_lt k (length ts) ≡ true = grind (arith, nat_tests) in
    ap (λ n. unwrap_or (cond (nat_lt n (length ts)) (Some n) None) 0) (place_of ts k l h)
    ∙ ap (λ b. unwrap_or (cond b (Some k) None) 0) t
