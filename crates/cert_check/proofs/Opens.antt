-- Which tiers are open at a kind: by the flags of the input tiers and of the free tiers.
use Rattle.std.proofs.Common.{◌≡◌, ℕ, zero, suc, ◌+◌, ◌-◌, ◌==◌, ◌<◌, ◌≤◌, ◌||◌, not, Bool, true, false, cond, List}
use Rattle.std.proofs.Common.{[], ◌∷◌, ◌++◌, take, filter, length, get_or, refl, ap, ◌∙◌, arith, eq-eqb, ne_eqb}
use Rattle.std.proofs.{lemmas.List.{length-map, get_or-map, take_all}, lemmas.List.Filters.length-filter_more}
use Rattle.std.proofs.lemmas.List.FromFn.{get_or-map-range_with_len}
use Rattle.tier_core.specs.{declared.sym.Sym.Sym, declared.tier.TierKind.TierKind}
use Rattle.tier_core.specs.declared.tier.TierKind.TheVariants.{Input}
use Rattle.tier_core.specs.{Tiers.{is_input, is_free, kind_at, has_tier, numbers_from}, Kinds.open_tiers, Scan.opens}
use Rattle.tier_core.specs.{Tables.tiers_of_table, Timelines.{tier_word, symbol, IsWellFormed}}
use Rattle.tier_core.specs.{declared.kind.Kind.Kind}
use Rattle.tier_core.specs.{declared.constraint.Constraint.Constraint, declared.tier.TierTable.TierTable}
use Rattle.tier_core.proofs.{WordLemmas.open_suc, WordForm.runs_from_well_formed}
use Rattle.violation.specs.{Candidates.IsForm, Moves.{flag_of, form_opened, is_tier_open}}
use Rattle.violation.specs.{Prefixes.{is_open, kind_of_bits}, Problems.problem_from}
use Rattle.violation.proofs.OpenLemmas.{prefix_open, take_word}
use Rattle.cert_check.specs.Opens.{is_open_before, inputs_before, is_open_by}

count_more : (b : Bool) (k : TierKind) (ks : List TierKind) → length (cond b (k ∷ ks) ks) ≡ cond b 1 0 + length ks
count_more true k ks = omega arith
count_more false k ks = omega arith

-- a tier that is an input tier is one more
pub inputs_more : (kinds : List TierKind) (t : ℕ) → t < length kinds
    → inputs_before kinds (t + 1) ≡ inputs_before kinds t + cond (is_input (kind_at kinds t)) 1 0
inputs_more kinds t l = length-filter_more is_input kinds t Input l

-- and there are more input tiers than before it
pub inputs_in : (kinds : List TierKind) (t : ℕ) → t < length kinds → is_input (kind_at kinds t) ≡ true
    → inputs_before kinds t < length (filter is_input kinds)
inputs_in [] t l h = absurd (omega arith)
inputs_in (k ∷ ks) zero l h = omega (
  arith,
  count_more (is_input k) k (filter is_input ks),
  ap {B = ℕ} (λ b. cond b 1 0) h,
)
inputs_in (k ∷ ks) (suc t) l h =
    let rest = inputs_in ks t (omega arith) h in
    omega (
      arith,
      rest,
      count_more (is_input k) k (filter is_input ks),
      count_more (is_input k) k (filter is_input (take t ks)),
    )

pub all_inputs : (kinds : List TierKind) → inputs_before kinds (length kinds) ≡ length (filter is_input kinds)
all_inputs kinds = ap (λ ks. length (filter is_input ks)) (take_all _ kinds (omega arith))

-- ---- flags of the tiers that pass a test

number_count : (b : Bool) (n : ℕ) (ns : List ℕ) (k : TierKind) (ks : List TierKind) → length ns ≡ length ks
    → length (cond b (n ∷ []) [] ++ ns) ≡ length (cond b (k ∷ ks) ks)
number_count true n ns k ks e = omega (arith, e)
number_count false n ns k ks e = e

pub length-numbers : (test : TierKind → Bool) (n : ℕ) (kinds : List TierKind)
    → length (numbers_from test n kinds) ≡ length (filter test kinds)
length-numbers test n [] = refl
length-numbers test n (k ∷ ks) = number_count _ n (numbers_from test (suc n) ks) k (filter test ks)
    (length-numbers test _ ks)

none_twice : (b : Bool) → false ≡ cond b false false
none_twice true = refl
none_twice false = refl

-- a tier before all of them has no flag
flag_lower : (test : TierKind → Bool) (kinds : List TierKind) (n t : ℕ) (flags : List Bool) → t < n
    → flag_of (numbers_from test n kinds) flags t ≡ false
flag_lower test [] n t flags l = refl
flag_lower test (k ∷ ks) n t flags l = own (λ fs. flag_lower _ ks _ t fs (omega arith)) _ _
  where
    other : (f : Bool) (fs : List Bool) → cond (n == t) f (flag_of (numbers_from test (suc n) ks) fs t)
        ≡ flag_of (numbers_from test (suc n) ks) fs t
    other f fs = ap (λ b. cond b f (flag_of (numbers_from test (suc n) ks) fs t))
        (ne_eqb n t (λ e. absurd (omega (arith, e, l))))

    own : ((fs : List Bool) → flag_of (numbers_from test (suc n) ks) fs t ≡ false) → (b : Bool) (fs : List Bool)
        → flag_of (cond b (n ∷ []) [] ++ numbers_from test (suc n) ks) fs t ≡ false
    own rest true [] = refl
    own rest true (f ∷ fs) = other f fs ∙ rest fs
    own rest false fs = rest fs

pub flag_number : (test : TierKind → Bool) (kinds : List TierKind) (n t : ℕ) (flags : List Bool) → t < length kinds
    → flag_of (numbers_from test n kinds) flags (n + t)
    ≡ cond (test (kind_at kinds t)) (get_or flags (length (filter test (take t kinds))) false) false
flag_number test [] n t flags l = absurd (omega arith)
flag_number test (k ∷ ks) n zero flags l = own _ _
  where
    own : (b : Bool) (fs : List Bool) → flag_of (cond b (n ∷ []) [] ++ numbers_from test (suc n) ks) fs (n + 0)
        ≡ cond b (get_or fs 0 false) false
    own true [] = refl
    own true (f ∷ fs) = ap (λ b. cond b f (flag_of (numbers_from test (suc n) ks) fs (n + 0)))
        (eq-eqb n _ (omega arith))
    own false fs = flag_lower _ ks _ _ fs (omega arith)
flag_number test (k ∷ ks) n (suc t) flags l =
    own (λ fs. let e : n + suc t ≡ suc n + t = omega arith in ap (λ m. flag_of (numbers_from test (suc n) ks) fs m) e ∙
    flag_number test ks (suc n) t fs (omega arith)) _ flags
  where
    own : ((fs : List Bool) → flag_of (numbers_from test (suc n) ks) fs (n + suc t)
        ≡ cond (test (kind_at ks t)) (get_or fs (length (filter test (take t ks))) false) false)
        → (b : Bool) (fs : List Bool) → flag_of (cond b (n ∷ []) [] ++ numbers_from test (suc n) ks) fs (n + suc t)
        ≡ cond (test (kind_at ks t))
        (get_or fs (length (cond b (k ∷ filter test (take t ks)) (filter test (take t ks)))) false) false
    own later true [] = none_twice _
    own later true (f ∷ fs) = ap (λ b. cond b f (flag_of (numbers_from test (suc n) ks) fs (n + suc t)))
        (ne_eqb n (n + suc t) (λ e. absurd (omega (arith, e)))) ∙ later fs
    own later false fs = later fs

frees_before : (kinds : List TierKind) (t : ℕ) → t ≤ length kinds
    → length (filter is_free (take t kinds)) ≡ t - inputs_before kinds t
frees_before kinds t l = let both = split _ t l in omega (arith, both)
  where
    counted : (b : Bool) (k : TierKind) (xs ys : List TierKind)
        → length (cond (not b) (k ∷ xs) xs) + length (cond b (k ∷ ys) ys) ≡ suc (length xs + length ys)
    counted true k xs ys = omega arith
    counted false k xs ys = omega arith

    split : (ks : List TierKind) (n : ℕ) → n ≤ length ks → length (filter is_free (take n ks)) + inputs_before ks n ≡ n
    split ks zero h = refl
    split [] (suc n) h = absurd (omega arith)
    split (k ∷ ks) (suc n) h = counted _ k _ _ ∙ ap (λ m. suc m) (split ks n (omega arith))

-- ---- the tiers of a grammar

flag_cases : (b : Bool) (x y : Bool) → (cond b x false || cond (not b) y false) ≡ cond b x y
flag_cases true true y = refl
flag_cases true false y = refl
flag_cases false x true = refl
flag_cases false x false = refl

-- an input tier is open after the columns of a form where its symbol in the last of these opens it
form_open : (width : ℕ) (u : List (List Sym)) (place j : ℕ) → IsWellFormed width u → j < width → place ≤ length u
    → is_open (tier_word (take place u) j) ≡ is_open_before u place j
form_open width u zero j form h l = refl
form_open width u (suc p) j form h l =
    let well = runs_from_well_formed _ (form.each_tier j h) in
    let size = length-map u (λ (column : List Sym). symbol column j) in
    ap is_open (take_word u (suc p) j) ∙ prefix_open (tier_word u j) (suc p) well (omega (arith, size, l)) ∙ open_suc
    false _ p (omega (arith, size, l)) ∙ ap opens (get_or-map _ u p [] _ (omega (arith, l)))

cond_where : (b x y : Bool) → (b ≡ true → x ≡ y) → cond b x false ≡ cond b y false
cond_where true x y h = h refl
cond_where false x y h = refl

free_in : (kinds : List TierKind) (t : ℕ) → t < length kinds → not (is_input (kind_at kinds t)) ≡ true
    → t - inputs_before kinds t < length (filter is_free kinds)
free_in [] t l h = absurd (omega arith)
free_in (k ∷ ks) t l h =
    let more = length-filter_more is_free (k ∷ ks) t Input l in
    let here = ap {B = ℕ} (λ b. cond b 1 0) h in
    omega (arith, more, here, frees_before (k ∷ ks) t (omega (arith, l)), frees_rise (k ∷ ks) (t + 1))
  where
    counted : (b : Bool) (x : TierKind) (xs ys : List TierKind) → length xs ≤ length ys
        → length (cond b (x ∷ xs) xs) ≤ length (cond b (x ∷ ys) ys)
    counted true x xs ys e = omega (arith, e)
    counted false x xs ys e = e

    frees_rise : (xs : List TierKind) (n : ℕ) → length (filter is_free (take n xs)) ≤ length (filter is_free xs)
    frees_rise xs zero = omega arith
    frees_rise [] (suc n) = omega arith
    frees_rise (x ∷ xs) (suc n) = counted _ x _ _ (frees_rise xs n)

module _ (table : TierTable) (constraints : List Constraint) (u : List (List Sym))
    (form : IsForm (tiers_of_table table) u) (stage : ℕ) (kind : Kind) (within : kind.place ≤ length u) where
  abbrev kinds : List TierKind
  kinds = table.kinds.items

  module _ (t : ℕ) (l : t < length table.kinds.items) where
    abbrev inputs : List Bool
    inputs = form_opened (tiers_of_table table) u kind.place

    abbrev frees : List Bool
    frees = open_tiers (length (numbers_from is_free 0 kinds)) kind.opened

    abbrev first : Bool
    first = is_open_before u kind.place (inputs_before kinds t)

    abbrev second : Bool
    second = has_tier kind.opened (t - inputs_before kinds t)

    input : flag_of (numbers_from is_input 0 kinds) inputs t ≡ cond (is_input (kind_at kinds t)) first false
    input =
        ap (λ n. flag_of (numbers_from is_input 0 kinds) inputs n) (let e : t ≡ 0 + t = omega arith in e)
        ∙ flag_number is_input kinds 0 t inputs l
        ∙ cond_where (is_input (kind_at kinds t)) (get_or inputs (inputs_before kinds t) false) first (λ h.
        let below : inputs_before kinds t < length (numbers_from is_input 0 kinds) = omega
        (arith, inputs_in kinds t l h, length-numbers is_input 0 kinds) in
        get_or-map-range_with_len _ 0 _ _ _ false below (omega arith) ∙ form_open
        (length (numbers_from is_input 0 kinds)) u kind.place (inputs_before kinds t) form.well_formed below within)

    free : flag_of (numbers_from is_free 0 kinds) frees t ≡ cond (not (is_input (kind_at kinds t))) second false
    free =
        ap (λ n. flag_of (numbers_from is_free 0 kinds) frees n) (let e : t ≡ 0 + t = omega arith in e)
        ∙ flag_number is_free kinds 0 t frees l
        ∙ cond_where (not (is_input (kind_at kinds t)))
        (get_or frees (length (filter is_free (take t kinds))) false) second (λ h.
        let below : t - inputs_before kinds t < length (numbers_from is_free 0 kinds) = omega
        (arith, free_in kinds t l h, length-numbers is_free 0 kinds) in
        ap (λ n. get_or frees n false) (frees_before kinds t (omega (arith, l))) ∙ get_or-map-range_with_len _ 0 _ _ _
        false below (omega arith))

    -- a tier is open at a kind as it is told tier by tier
    pub open_told : is_tier_open (problem_from table constraints u)
        (kind_of_bits (problem_from table constraints u) stage kind) t
        ≡ is_open_by table.kinds.items u kind.place kind.opened t
    open_told =
        ap (λ b. b || flag_of (numbers_from is_free 0 kinds) frees t) input
        ∙ ap (λ b. cond (is_input (kind_at kinds t)) first false || b) free
        ∙ flag_cases (is_input (kind_at kinds t)) first second
