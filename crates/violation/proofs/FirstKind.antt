-- The kind of the empty prefix is the first in kind order.
use Rattle.std.proofs.Common.{◌≡◌, ℕ, ◌<◌, List, [], ◌∷◌, map, length, refl, sym, ap, ◌∙◌, arith}
use Rattle.std.proofs.{lemmas.Bool.false≢true, lemmas.Cmp.ranked, lemmas.List.length-map}
use Rattle.std.specs.{List.AllByRecursion, Ordering.{nat_cmp, ordering_then, is_lt}, Cmp.Lexicographic.slice_cmp}
use Rattle.std.specs.{declared.cmp.Ordering.Ordering, declared.cmp.Ordering.TheVariants.{Less, Equal, Greater}}
use Rattle.tier_core.specs.{declared.constraint.Constraint.Constraint, Timelines.tier_word}
use Rattle.tier_core.specs.Kinds.{PrefixKind, open_rank, phase_rank, kind_order}
use Rattle.violation.specs.{Conditions.IsOverTiers, Prefixes.{is_open, phase, kind_of, stretches}, Problems.Problem}
use Rattle.violation.proofs.ClosedPhases.{closed_first}

-- of two comparisons one after another, one is Less where both are
neither_less : (a b : Ordering) → (a ≡ Less → ⊥) → (b ≡ Less → ⊥) → ordering_then a b ≡ Less → ⊥
neither_less Less b p q e = p refl
neither_less Equal b p q e = q e
neither_less Greater b p q e = false≢true (ap is_lt e)

-- a list of numbers of which each is 0 comes first among those of its length
below_zeros : (xs ys : List ℕ) → length xs ≡ length ys → AllByRecursion (λ y. y ≡ 0) ys
    → slice_cmp nat_cmp xs ys ≡ Less → ⊥
below_zeros [] [] l z e = false≢true (ap is_lt e)
below_zeros [] (y ∷ ys) l z e = absurd (omega arith)
below_zeros (x ∷ xs) [] l z e = absurd (omega arith)
below_zeros (x ∷ xs) (y ∷ ys) l z e = neither_less (nat_cmp x y) (slice_cmp nat_cmp xs ys)
    (λ a. let below : x < y = ranked x y Less (sym a) in omega (arith, below, z.0))
    (below_zeros xs ys (omega arith) z.1) e

none_open : (ts : List ℕ) → AllByRecursion (λ y. y ≡ 0) (map open_rank (map (λ t. is_open (tier_word [] t)) ts))
none_open [] = tt
none_open (t ∷ ts) = (refl, none_open ts)

none_met : (width : ℕ) (cs : List Constraint) → AllByRecursion (IsOverTiers width) cs
    → AllByRecursion (λ y. y ≡ 0) (map phase_rank (map (λ c. phase c.left c.right []) cs))
none_met width [] h = tt
none_met width (c ∷ cs) h = (ap phase_rank (closed_first c.left c.right h.0.some_left), none_met width cs h.1)

-- No kind with as many flags and phases comes before that of the empty prefix.
pub none_before : (problem : Problem) (r : ℕ) (k : PrefixKind)
    → AllByRecursion (IsOverTiers problem.tiers.width) (stretches problem r)
    → length k.opened ≡ length problem.tiers.free → length k.phases ≡ length (stretches problem r)
    → kind_order k (kind_of problem r []) ≡ Less → ⊥
none_before problem r k over flags phases e =
    let first = kind_of problem r [] in
    let a = length-map k.opened open_rank in
    let b = length-map first.opened open_rank in
    let c = length-map problem.tiers.free (λ t. is_open (tier_word [] t)) in
    let d = length-map k.phases phase_rank in
    let f = length-map first.phases phase_rank in
    let g = length-map (stretches problem r) (λ c. phase c.left c.right []) in
    let opened = slice_cmp nat_cmp (map open_rank k.opened) (map open_rank first.opened) in
    let later = slice_cmp nat_cmp (map phase_rank k.phases) (map phase_rank first.phases) in
    neither_less (nat_cmp k.place 0) (ordering_then opened later)
    (λ a. let less : k.place < 0 = ranked k.place 0 Less (sym a) in omega (arith, less))
    (neither_less opened later
    (below_zeros (map open_rank k.opened) (map open_rank first.opened) (a ∙ flags ∙ sym c ∙ sym b)
    (none_open problem.tiers.free))
    (below_zeros (map phase_rank k.phases) (map phase_rank first.phases) (d ∙ phases ∙ sym g ∙ sym f)
    (none_met problem.tiers.width (stretches problem r) over)))
    e
