-- One class without another, tier by tier.
use Rattle.std.proofs.Common.{◌≡◌, ℕ, ◌+◌, ◌<◌, ◌≤◌, Bool, true, false, not, ◌&&◌, List, length, get_or, w8, refl}
use Rattle.std.proofs.Common.{ap, sym, ◌∙◌, subst, arith, ⊎_elim}
use Rattle.std.proofs.lemmas.Bool.{false≢true, and_parts, and_from, cases_lt}
use Rattle.std.specs.Int.{bit_not}
use Rattle.tier_core.specs.{declared.sym.Sym.Sym, declared.class.Class.Class, Sets.is_in, Classes.{sets_of, has}}
use Rattle.tier_core.specs.Timelines.{symbol}
use Rattle.tier_core.proofs.ClassLemmas.{same_width, each_in, have_each}
use Rattle.symbol_class.specs.Held.{once_if, AddsClasses}
use Rattle.symbol_class.proofs.{SetLists.is_in-not, Times.{adds_same, adds_then}}

-- `rest` are the columns of a that are in the sets of b on the tiers below this, and the pieces hold
-- the others
pub record IsMinusBelow (old : List Class) (a b : Class) (tier : ℕ) (pieces : List Class) (rest : Class) : Type 0 where
  pub width : length (sets_of rest) ≡ length (sets_of a)
  pub adds : AddsClasses (length (sets_of a)) old pieces (λ column. once_if (has a column && not (has rest column)))
  pub within : (column : List Sym) → has rest column ≡ true → has a column ≡ true
  pub met : (column : List Sym) → has rest column ≡ true → (t : ℕ) → t < tier
      → is_in (get_or (sets_of b) t 0) (symbol column t) ≡ true
  pub kept : (column : List Sym) → has a column ≡ true → has b column ≡ true → has rest column ≡ true
  pub few : length pieces ≤ length old + tier

more_out : (a r i : Bool) → (r ≡ true → a ≡ true)
    → once_if (a && not r) + once_if (r && not i) ≡ once_if (a && not (r && i))
more_out true true true h = refl
more_out true true false h = refl
more_out true false i h = refl
more_out false true i h = absurd (false≢true (h refl))
more_out false false i h = refl

pub minus_more : (old : List Class) (a b : Class) (tier : ℕ) (pieces more : List Class) (rest less next : Class)
    (x : ℕ) → IsMinusBelow old a b tier pieces rest
    → tier < length (sets_of b) → x ≡ get_or (sets_of b) tier 0 → x < 32
    → length (sets_of less) ≡ length (sets_of rest)
    → ((column : List Sym) → has less column ≡ (has rest column && is_in (bit_not w8 x) (symbol column tier)))
    → length (sets_of next) ≡ length (sets_of rest)
    → ((column : List Sym) → has next column ≡ (has rest column && is_in x (symbol column tier)))
    → AddsClasses (length (sets_of less)) pieces more (λ column. once_if (has less column))
    → length more ≤ length pieces + 1
    → IsMinusBelow old a b (tier + 1) more next
minus_more old a b tier pieces more rest less next x so_far inside is few wide_less has_less wide_next has_next adds
    count = record {
      width = wide_next ∙ so_far.width;
      adds = adds_then (length (sets_of a)) old pieces more (λ column. once_if (has a column && not (has rest column)))
          (λ column. once_if (has less column)) (λ column. once_if (has a column && not (has next column)))
          so_far.adds
          (subst (λ w. AddsClasses w pieces more (λ column. once_if (has less column))) (wide_less ∙ so_far.width) adds)
          (λ column.
          ap (λ b. once_if (has a column && not (has rest column)) + once_if b)
          (has_less column ∙ ap (λ b. has rest column && b) (is_in-not x (symbol column tier) (omega arith)))
          ∙ more_out (has a column) (has rest column) (is_in x (symbol column tier)) (so_far.within column)
          ∙ ap (λ b. once_if (has a column && not b)) (sym (has_next column)));
      within = λ column h. so_far.within column (in_rest column h).0;
      met = λ column h t less. ⊎_elim (λ below. so_far.met column (in_rest column h).0 t below)
          (λ here. let at : t ≡ tier = omega arith in
          subst (λ n. is_in (get_or (sets_of b) n 0) (symbol column n) ≡ true) (sym at)
          (subst (λ n. is_in n (symbol column tier) ≡ true) is (in_rest column h).1))
          (cases_lt t tier);
      kept = λ column in_a in_b.
          has_next column
          ∙ and_from (has rest column) (is_in x (symbol column tier)) (so_far.kept column in_a in_b)
          (subst (λ n. is_in n (symbol column tier) ≡ true) (sym is) (each_in (sets_of b) column in_b tier inside));
      few = omega (arith, so_far.few);
    }
  where
    in_rest : (column : List Sym) → has next column ≡ true
        → (has rest column ≡ true) × (is_in x (symbol column tier) ≡ true)
    in_rest column h = and_parts (has rest column) (is_in x (symbol column tier)) (sym (has_next column) ∙ h)

-- after all tiers the pieces hold what b does not
pub minus_all : (old : List Class) (a b : Class) (tier : ℕ) (pieces : List Class) (rest : Class)
    → IsMinusBelow old a b tier pieces rest → length (sets_of b) ≤ tier → length (sets_of a) ≡ length (sets_of b)
    → AddsClasses (length (sets_of a)) old pieces (λ column. once_if (has a column && not (has b column)))
minus_all old a b tier pieces rest so_far all width =
    adds_same (length (sets_of a)) old pieces (λ column. once_if (has a column && not (has rest column)))
    (λ column. once_if (has a column && not (has b column))) so_far.adds
    (λ column. ap once_if (go column (has a column) refl (has rest column) refl (has b column) refl))
  where
    go : (column : List Sym) (p : Bool) → has a column ≡ p → (r : Bool) → has rest column ≡ r → (q : Bool)
        → has b column ≡ q → (p && not r) ≡ (p && not q)
    go column false ea r er q eb = refl
    go column true ea true er true eb = refl
    go column true ea true er false eb = absurd
        (false≢true (sym eb ∙ have_each (sets_of b) column (same_width (sets_of a) column ea ∙ width)
        (λ t less. so_far.met column er t (omega arith))))
    go column true ea false er true eb = absurd (false≢true (sym er ∙ so_far.kept column ea eb))
    go column true ea false er false eb = refl
