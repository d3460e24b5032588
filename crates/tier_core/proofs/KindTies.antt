-- What ties in the order of numbers, of lists of numbers, and of kinds, is the same; and the order of kinds is total.
use Rattle.std.proofs.Common.{◌≡◌, ◌≢◌, ◌⊎◌, inl, inr, ℕ, Bool, true, false, List, [], ◌∷◌, map, refl, ap, ap₂, sym}
use Rattle.std.proofs.Common.{◌∙◌, arith, true≢false}
use Rattle.std.proofs.lemmas.Cmp.{ranked, nat_cmp_total, nat_list_cmp_total, on_total, then_total}
use Rattle.std.specs.{Cmp.{IsTotalOrder, nat_cmp_is}, Cmp.Lexicographic.slice_cmp}
use Rattle.std.specs.Ordering.{nat_cmp, ordering_then, ordering_reverse, is_lt, is_eq, is_gt}
use Rattle.std.specs.{declared.cmp.Ordering.Ordering, declared.cmp.Ordering.TheVariants.{Less, Equal, Greater}}
use Rattle.tier_core.specs.Kinds.{Phase, closed, unmet, met, PrefixKind, open_rank, phase_rank, kind_order}

-- ---- numbers

pub then_equal : (o : Ordering) → ordering_then o Equal ≡ o
then_equal Less = refl
then_equal Equal = refl
then_equal Greater = refl

pub is_equal : (o : Ordering) → is_eq o ≡ true → o ≡ Equal
is_equal Less e = absurd (true≢false (sym e))
is_equal Equal e = refl
is_equal Greater e = absurd (true≢false (sym e))

pub same_cmp : (m n : ℕ) → m ≡ n → nat_cmp m n ≡ Equal
same_cmp m n e = sym (nat_cmp_is m n Equal e)

pub both_equal : (o r : Ordering) → ordering_then o r ≡ Equal → (o ≡ Equal) × (r ≡ Equal)
both_equal Less r e = absurd (true≢false (ap is_lt e))
both_equal Equal r e = (refl, e)
both_equal Greater r e = absurd (true≢false (ap is_gt e))

pub same_number : (m n : ℕ) → nat_cmp m n ≡ Equal → m ≡ n
same_number m n e = ranked m n Equal (sym e)

pub same_numbers : (xs ys : List ℕ) → slice_cmp nat_cmp xs ys ≡ Equal → xs ≡ ys
same_numbers [] [] e = refl
same_numbers [] (y ∷ ys) e = absurd (true≢false (ap is_lt e))
same_numbers (x ∷ xs) [] e = absurd (true≢false (ap is_gt e))
same_numbers (x ∷ xs) (y ∷ ys) e =
    let both = both_equal (nat_cmp x y) (slice_cmp nat_cmp xs ys) e in
    ap₂ (λ z zs. z ∷ zs) (same_number x y both.0) (same_numbers xs ys both.1)

-- ---- kinds

unmapped : {X : Type 0} (f : X → ℕ) → ((x y : X) → f x ≡ f y → x ≡ y) → (xs ys : List X) → map f xs ≡ map f ys → xs ≡ ys
unmapped f one [] [] e = refl
unmapped f one [] (y ∷ ys) e = cc
unmapped f one (x ∷ xs) [] e = cc
unmapped f one (x ∷ xs) (y ∷ ys) e =
    let head : f x ≡ f y = cc in
    let tail : map f xs ≡ map f ys = cc in
    ap₂ (λ z zs. z ∷ zs) (one x y head) (unmapped f one xs ys tail)

pub same_open : (a b : Bool) → open_rank a ≡ open_rank b → a ≡ b
same_open true true e = refl
same_open true false e = absurd (omega arith)
same_open false true e = absurd (omega arith)
same_open false false e = refl

same_phase : (a b : Phase) → phase_rank a ≡ phase_rank b → a ≡ b
same_phase closed closed e = refl
same_phase closed unmet e = absurd (omega arith)
same_phase closed met e = absurd (omega arith)
same_phase unmet closed e = absurd (omega arith)
same_phase unmet unmet e = refl
same_phase unmet met e = absurd (omega arith)
same_phase met closed e = absurd (omega arith)
same_phase met unmet e = absurd (omega arith)
same_phase met met e = refl

-- kinds with the same parts
pub same_parts : (m n : ℕ) (os qs : List Bool) (ps rs : List Phase) → m ≡ n → os ≡ qs → ps ≡ rs
    → (let k : PrefixKind = record { place = m; opened = os; phases = ps } in k)
    ≡ record { place = n; opened = qs; phases = rs }
same_parts m n os qs ps rs a b c =
    ap (λ (x : ℕ). let k : PrefixKind = record { place = x; opened = os; phases = ps } in k) a
    ∙ ap (λ (x : List Bool). let k : PrefixKind = record { place = n; opened = x; phases = ps } in k) b
    ∙ ap (λ (x : List Phase). let k : PrefixKind = record { place = n; opened = qs; phases = x } in k) c

-- kinds that tie are one
pub same_kind : (k l : PrefixKind) → kind_order k l ≡ Equal → k ≡ l
same_kind k l e =
    let opened = slice_cmp nat_cmp (map open_rank k.opened) (map open_rank l.opened) in
    let phases = slice_cmp nat_cmp (map phase_rank k.phases) (map phase_rank l.phases) in
    let first = both_equal (nat_cmp k.place l.place) (ordering_then opened phases) e in
    let second = both_equal opened phases first.1 in
    same_parts k.place l.place k.opened l.opened k.phases l.phases (same_number k.place l.place first.0)
    (unmapped open_rank same_open k.opened l.opened
    (same_numbers (map open_rank k.opened) (map open_rank l.opened) second.0))
    (unmapped phase_rank same_phase k.phases l.phases
    (same_numbers (map phase_rank k.phases) (map phase_rank l.phases) second.1))

-- the order of kinds is total
pub kind_order_total : IsTotalOrder kind_order
kind_order_total =
    then_total (on_total (λ (k : PrefixKind). k.place) nat_cmp_total)
    (then_total (on_total (λ (k : PrefixKind). map open_rank k.opened) nat_list_cmp_total)
    (on_total (λ (k : PrefixKind). map phase_rank k.phases) nat_list_cmp_total))

turned : (o : Ordering) → o ≡ ordering_reverse o → is_lt o ≡ true → ⊥
turned Less e h = true≢false (ap is_lt e)
turned Equal e h = true≢false (sym h)
turned Greater e h = true≢false (sym h)

-- no kind comes before itself
pub not_before_itself : (k : PrefixKind) → kind_order k k ≡ Less → ⊥
not_before_itself k e = turned (kind_order k k) (kind_order_total.antisymm k k) (ap is_lt e)

-- kinds are the same, or are not
pub same_or_not : (k l : PrefixKind) → (k ≡ l) ⊎ (k ≢ l)
same_or_not k l = by (kind_order k l) refl
  where
    by : (o : Ordering) → kind_order k l ≡ o → (k ≡ l) ⊎ (k ≢ l)
    by Less e = inr (λ same. not_before_itself k (ap (kind_order k) same ∙ e))
    by Equal e = inl (same_kind k l e)
    by Greater e = inr (λ same. not_before_itself l
        (ap (kind_order l) (sym same) ∙ kind_order_total.antisymm l k ∙ ap ordering_reverse e))
