-- Classes that are joined along a tier, as lists of sets.
use Rattle.std.proofs.Common.{◌≡◌, ◌≢◌, ℕ, suc, ◌+◌, ◌<◌, ◌≤◌, Bool, true, false, cond, ◌||◌, List, [], ◌∷◌, map}
use Rattle.std.proofs.Common.{length, get_or, bit_or, refl, ap, sym, ◌∙◌, subst, arith, All, AllPairs, count_by}
use Rattle.std.proofs.{Common.true≢false, lemmas.Bool.{cond_both, cond-true, cond-false}}
use Rattle.std.proofs.{lemmas.Cmp.{nat_list_cmp_total, tied_itself, alike_right}, lemmas.List.{length-set, set-set}}
use Rattle.std.proofs.lemmas.List.Elements.{All-nil, All-cons, All-head, All-tail, All-weaker}
use Rattle.std.proofs.{lemmas.List.Kept.AllPairs-cons, lemmas.List.Sums.sum_by-cons}
use Rattle.std.specs.{Cmp.Lexicographic.slice_cmp, List.{list_all, list_any}, Ordering.{nat_cmp, is_lt, is_eq, is_gt}}
use Rattle.std.specs.{declared.cmp.Ordering.Ordering, declared.cmp.Ordering.TheVariants.{Less, Equal, Greater}}
use Rattle.tier_core.specs.{declared.sym.Sym.Sym, Symbols.symbols, Sets.is_in, Classes.sets_have}
use Rattle.tier_core.specs.FirstColumn.{first_sym}
use Rattle.symbol_class.specs.{Held.once_if, Joined.{sets_beside, beside_cmp, union_on}}
use Rattle.tier_core.proofs.{Filled.{sets_filled, sets_have-first}, KindTies.{same_numbers, is_equal}}
use Rattle.symbol_class.proofs.{SetLists.have_either, Times.{pairs_head, pairs_tail}}

-- how many of some lists of sets have a column
abbrev pub times_had : List (List ℕ) → List Sym → ℕ
times_had boxes column = count_by (λ sets. sets_have sets column) boxes

-- whether each tier's set has a symbol
abbrev pub are_filled : List ℕ → Bool
are_filled sets = list_all (λ set. list_any (is_in set) symbols) sets

had-cons : (sets : List ℕ) (boxes : List (List ℕ)) (column : List Sym)
    → times_had (sets ∷ boxes) column ≡ once_if (sets_have sets column) + times_had boxes column
had-cons sets boxes column = sum_by-cons (λ xs. once_if (sets_have xs column)) sets boxes

-- neighbours that agree beside a tier are united, from the current sets on
abbrev pub joined_from : ℕ → List ℕ → List (List ℕ) → List (List ℕ)
joined_from t current [] = current ∷ []
joined_from t current (next ∷ rest) = cond (is_eq (beside_cmp t current next))
    (joined_from t (union_on t current next) rest) (current ∷ joined_from t next rest)

pub joined_alike : (t : ℕ) (current next : List ℕ) (rest : List (List ℕ)) → is_eq (beside_cmp t current next) ≡ true
    → joined_from t current (next ∷ rest) ≡ joined_from t (union_on t current next) rest
joined_alike t current next rest e = cond-true (is_eq (beside_cmp t current next))
    (joined_from t (union_on t current next) rest) (current ∷ joined_from t next rest) e

pub joined_other : (t : ℕ) (current next : List ℕ) (rest : List (List ℕ)) → is_eq (beside_cmp t current next) ≡ false
    → joined_from t current (next ∷ rest) ≡ current ∷ joined_from t next rest
joined_other t current next rest e = cond-false (is_eq (beside_cmp t current next))
    (joined_from t (union_on t current next) rest) (current ∷ joined_from t next rest) e

-- sets that tie agree beside the tier
pub agree : (t : ℕ) (a b : List ℕ) → is_eq (beside_cmp t a b) ≡ true → sets_beside t a ≡ sets_beside t b
agree t a b e = same_numbers (sets_beside t a) (sets_beside t b) (is_equal (beside_cmp t a b) e)

-- what is united agrees with the first beside the tier
beside-united : (t : ℕ) (a b : List ℕ) → sets_beside t (union_on t a b) ≡ sets_beside t a
beside-united t a b = set-set a t (bit_or (get_or a t 0) (get_or b t 0)) 0

pub length-united : (t : ℕ) (a b : List ℕ) → length (union_on t a b) ≡ length a
length-united t a b = length-set a t (bit_or (get_or a t 0) (get_or b t 0))

-- ---- how many there are

pub joined_fewer : (t : ℕ) (current : List ℕ) (rest : List (List ℕ))
    → length (joined_from t current rest) ≤ suc (length rest)
joined_fewer t current [] = omega arith
joined_fewer t current (next ∷ rest) =
    cond_both (is_eq (beside_cmp t current next)) (joined_from t (union_on t current next) rest)
    (current ∷ joined_from t next rest) (λ boxes. length boxes ≤ suc (suc (length rest)))
    (λ e. let h = joined_fewer t (union_on t current next) rest in omega (arith, h))
    (λ e. let h = joined_fewer t next rest in omega (arith, h))

-- where there are as many as before, none was united
pub joined_kept : (t : ℕ) (current : List ℕ) (rest : List (List ℕ))
    → length (joined_from t current rest) ≡ suc (length rest) → joined_from t current rest ≡ current ∷ rest
joined_kept t current [] = λ e. refl
joined_kept t current (next ∷ rest) =
    cond_both (is_eq (beside_cmp t current next)) (joined_from t (union_on t current next) rest)
    (current ∷ joined_from t next rest)
    (λ boxes. length boxes ≡ suc (suc (length rest)) → boxes ≡ current ∷ next ∷ rest)
    (λ e many. let h = joined_fewer t (union_on t current next) rest in absurd (omega (arith, h, many)))
    (λ e many. ap (λ boxes. current ∷ boxes) (joined_kept t next rest (omega (arith, many))))

-- ---- what holds of each

pub joined_wide : (t width : ℕ) (current : List ℕ) (rest : List (List ℕ)) → length current ≡ width
    → All (λ sets. length sets ≡ width) rest → All (λ sets. length sets ≡ width) (joined_from t current rest)
joined_wide t width current [] wide all = All-cons (λ sets. length sets ≡ width) current [] wide
    (All-nil (λ sets. length sets ≡ width))
joined_wide t width current (next ∷ rest) wide all =
    let here = All-head (λ sets. length sets ≡ width) next rest all in
    let later = All-tail (λ sets. length sets ≡ width) next rest all in
    cond_both (is_eq (beside_cmp t current next)) (joined_from t (union_on t current next) rest)
    (current ∷ joined_from t next rest) (All (λ sets. length sets ≡ width))
    (λ e. joined_wide t width (union_on t current next) rest (length-united t current next ∙ wide) later)
    (λ e. All-cons (λ sets. length sets ≡ width) current (joined_from t next rest) wide
    (joined_wide t width next rest here later))

-- sets that are united have the columns of both
have_united : (t : ℕ) (a b : List ℕ) (column : List Sym) → t < length a → t < length b
    → is_eq (beside_cmp t a b) ≡ true → sets_have (union_on t a b) column ≡ (sets_have a column || sets_have b column)
have_united t a b column la lb e = have_either a b column t la lb (agree t a b e)

filled-united : (t : ℕ) (a b : List ℕ) → t < length a → t < length b → is_eq (beside_cmp t a b) ≡ true
    → are_filled a ≡ true → are_filled (union_on t a b) ≡ true
filled-united t a b la lb e filled =
    let column = map first_sym a in
    sets_filled (union_on t a b) column (have_united t a b column la lb e
    ∙ ap (λ x. x || sets_have b column) (sets_have-first a filled))

pub joined_filled : (t : ℕ) (current : List ℕ) (rest : List (List ℕ)) → t < length current
    → All (λ sets. t < length sets) rest → are_filled current ≡ true → All (λ sets. are_filled sets ≡ true) rest
    → All (λ sets. are_filled sets ≡ true) (joined_from t current rest)
joined_filled t current [] inside all_inside filled all = All-cons (λ sets. are_filled sets ≡ true) current [] filled
    (All-nil (λ sets. are_filled sets ≡ true))
joined_filled t current (next ∷ rest) inside all_inside filled all =
    let l = All-head (λ sets. t < length sets) next rest all_inside in
    let ls = All-tail (λ sets. t < length sets) next rest all_inside in
    let here = All-head (λ sets. are_filled sets ≡ true) next rest all in
    let later = All-tail (λ sets. are_filled sets ≡ true) next rest all in
    cond_both (is_eq (beside_cmp t current next)) (joined_from t (union_on t current next) rest)
    (current ∷ joined_from t next rest) (All (λ sets. are_filled sets ≡ true))
    (λ e. joined_filled t (union_on t current next) rest (omega (arith, length-united t current next, inside)) ls
    (filled-united t current next inside l e filled) later)
    (λ e. All-cons (λ sets. are_filled sets ≡ true) current (joined_from t next rest) filled
    (joined_filled t next rest l ls here later))

-- ---- how often each column is had

once_either : (a b : Bool) → once_if a + once_if b ≤ 1 → once_if (a || b) ≡ once_if a + once_if b
once_either true true h = absurd (omega arith)
once_either true false h = refl
once_either false true h = refl
once_either false false h = refl

-- columns are had as often as before where none was had twice
pub joined_had : (t : ℕ) (current : List ℕ) (rest : List (List ℕ)) → t < length current
    → All (λ sets. t < length sets) rest → (column : List Sym)
    → once_if (sets_have current column) + times_had rest column ≤ 1
    → times_had (joined_from t current rest) column ≡ once_if (sets_have current column) + times_had rest column
joined_had t current [] inside all_inside column once = had-cons current [] column
joined_had t current (next ∷ rest) inside all_inside column once =
    let l = All-head (λ sets. t < length sets) next rest all_inside in
    let ls = All-tail (λ sets. t < length sets) next rest all_inside in
    let all = had-cons next rest column in
    cond_both (is_eq (beside_cmp t current next)) (joined_from t (union_on t current next) rest)
    (current ∷ joined_from t next rest)
    (λ boxes. times_had boxes column ≡ once_if (sets_have current column) + times_had (next ∷ rest) column)
    (λ e.
    let either : once_if (sets_have (union_on t current next) column)
    ≡ once_if (sets_have current column) + once_if (sets_have next column) =
    ap once_if (have_united t current next column inside l e)
    ∙ once_either (sets_have current column) (sets_have next column) (omega (arith, once, all)) in
    let h = joined_had t (union_on t current next) rest (omega (arith, length-united t current next, inside)) ls column
    (omega (arith, either, once, all)) in
    omega (arith, h, either, all))
    (λ e.
    let h = joined_had t next rest l ls column (omega (arith, once, all)) in
    omega (arith, had-cons current (joined_from t next rest) column, h, all))

-- ---- what differs

abbrev pub Upto : ℕ → List ℕ → List ℕ → Type 0
Upto t a b = is_gt (beside_cmp t a b) ≡ false

abbrev pub Below : ℕ → List ℕ → List ℕ → Type 0
Below t a b = beside_cmp t a b ≡ Less

less_from : (o : Ordering) → is_gt o ≡ false → is_eq o ≡ false → o ≡ Less
less_from Less g e = refl
less_from Equal g e = absurd (true≢false e)
less_from Greater g e = absurd (true≢false g)

below_upto : (t : ℕ) (a b c : List ℕ) → Below t a b → Upto t b c → Below t a c
below_upto t a b c less upto = go (beside_cmp t b c) refl upto
  where
    go : (o : Ordering) → beside_cmp t b c ≡ o → is_gt o ≡ false → Below t a c
    go Less e h = nat_list_cmp_total.trans (sets_beside t a) (sets_beside t b) (sets_beside t c) less e
    go Equal e h = sym (alike_right nat_list_cmp_total (sets_beside t b) (sets_beside t c) (sets_beside t a) e) ∙ less
    go Greater e h = absurd (true≢false h)

upto_itself : (t : ℕ) (a : List ℕ) → Upto t a a
upto_itself t a = ap is_gt (tied_itself nat_list_cmp_total (sets_beside t a))

-- sets that agree beside the tier stand in one place of the order
upto_alike : (t : ℕ) (a b c : List ℕ) → sets_beside t a ≡ sets_beside t b → Upto t b c → Upto t a c
upto_alike t a b c e h = subst (λ xs. is_gt (slice_cmp nat_cmp xs (sets_beside t c)) ≡ false) (sym e) h

-- of sorted sets those that are joined ascend strictly
pub joined_strict : (t : ℕ) (current : List ℕ) (rest : List (List ℕ)) → All (Upto t current) rest
    → AllPairs (Upto t) rest
    → AllPairs (Below t) (joined_from t current rest) × All (Upto t current) (joined_from t current rest)
joined_strict t current [] after sorted = (
  AllPairs-cons (Below t) current [] (All-nil (Below t current)) (λ i j d less inside. absurd (omega arith)),
  All-cons (Upto t current) current [] (upto_itself t current) (All-nil (Upto t current)),
)
joined_strict t current (next ∷ rest) after sorted =
    let here = All-head (Upto t current) next rest after in
    let later = All-tail (Upto t current) next rest after in
    let after_next = pairs_head (Upto t) next rest sorted in
    let sorted_rest = pairs_tail (Upto t) next rest sorted in
    cond_both (is_eq (beside_cmp t current next)) (joined_from t (union_on t current next) rest)
    (current ∷ joined_from t next rest)
    (λ boxes. AllPairs (Below t) boxes × All (Upto t current) boxes)
    (λ e.
    let same = beside-united t current next in
    let h = joined_strict t (union_on t current next) rest
    (All-weaker (Upto t current) (Upto t (union_on t current next))
    (λ x u. upto_alike t (union_on t current next) current x same u) rest later) sorted_rest in (
      h.0,
      All-weaker (Upto t (union_on t current next)) (Upto t current)
          (λ x u. upto_alike t current (union_on t current next) x (sym same) u)
          (joined_from t (union_on t current next) rest) h.1,
    ))
    (λ e.
    let less = less_from (beside_cmp t current next) here e in
    let h = joined_strict t next rest after_next sorted_rest in
    let below = All-weaker (Upto t next) (Below t current) (λ x u. below_upto t current next x less u)
    (joined_from t next rest) h.1 in (
      AllPairs-cons (Below t) current (joined_from t next rest) below h.0,
      All-cons (Upto t current) current (joined_from t next rest) (upto_itself t current)
          (All-weaker (Below t current) (Upto t current) (λ x b. ap is_gt b) (joined_from t next rest) below),
    ))

-- sets of which one is below the other differ beside the tier
pub differ_from_below : (t : ℕ) (a b : List ℕ) → beside_cmp t a b ≡ Less → sets_beside t a ≢ sets_beside t b
differ_from_below t a b less same =
    true≢false (sym (ap is_lt less) ∙ ap (λ xs. is_lt (slice_cmp nat_cmp (sets_beside t a) xs)) (sym same)
    ∙ ap is_lt (tied_itself nat_list_cmp_total (sets_beside t a)))
