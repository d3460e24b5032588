-- What can be told to be so or not: on numbers, lists, symbols and kinds.
use Rattle.std.proofs.Common.{◌≡◌, ℕ, zero, suc, ◌<◌, ◌≤◌, ◌⊎◌, Bool, true, false, List, [], ◌∷◌, length, get_or}
use Rattle.std.proofs.Common.{refl, sym, ap, ap₂, ◌∙◌, subst, arith, inl, inr, Contains, Some, None, Option}
use Rattle.std.proofs.{Common.true≢false, lemmas.Bool.{cases_eq, cases_lt}, lemmas.Cmp.tied_itself}
use Rattle.std.specs.{Ordering.{is_eq, is_lt}, Prelude.unwrap_or, declared.cmp.Ordering.Ordering}
use Rattle.std.specs.declared.cmp.Ordering.TheVariants.{Less, Equal, Greater}
use Rattle.tier_core.specs.{declared.sym.Sym.Sym, Kinds.{PrefixKind, kind_order}, Symbols.rank}
use Rattle.tier_core.proofs.{KindTies.{same_kind, kind_order_total}, SetLemmas.rank_same}

abbrev pub Decided : Type 0 → Type 0
Decided P = P ⊎ (P → ⊥)

pub from_both : {P Q : Type 0} → Decided P → Decided Q → Decided (P × Q)
from_both (inl p) (inl q) = inl (p, q)
from_both (inl p) (inr n) = inr (λ h. n h.1)
from_both (inr n) d = inr (λ h. n h.0)

none_of_two : {P Q : Type 0} → (P → ⊥) → (Q → ⊥) → P ⊎ Q → ⊥
none_of_two m n (inl p) = m p
none_of_two m n (inr q) = n q

pub from_either : {P Q : Type 0} → Decided P → Decided Q → Decided (P ⊎ Q)
from_either (inl p) d = inl (inl p)
from_either (inr m) (inl q) = inl (inr q)
from_either (inr m) (inr n) = inr (none_of_two m n)

-- what is not so in no case is so
pub so_unless : {P : Type 0} → Decided P → ((P → ⊥) → ⊥) → P
so_unless (inl p) h = p
so_unless (inr n) h = absurd (h n)

pub is_below : (m n : ℕ) → Decided (m < n)
is_below m n = elim (cases_lt m n) [
  | inl l ↦ inl l
  | inr g ↦ inr (λ l. absurd (omega (arith, g, l)))
]

pub at_most : (m n : ℕ) → Decided (m ≤ n)
at_most m n = elim (cases_lt n m) [
  | inl l ↦ inr (λ h. absurd (omega (arith, h, l)))
  | inr g ↦ inl g
]

pub is_true : (b : Bool) → Decided (b ≡ true)
is_true true = inl refl
is_true false = inr (λ e. true≢false (sym e))

pub is_false : (b : Bool) → Decided (b ≡ false)
is_false true = inr true≢false
is_false false = inl refl

pub is_bool : (a b : Bool) → Decided (a ≡ b)
is_bool a true = is_true a
is_bool a false = is_false a

-- what is so of all numbers below a bound
pub for_all_below : (P : ℕ → Type 0) (n : ℕ) → ((i : ℕ) → i < n → Decided (P i)) → Decided ((i : ℕ) → i < n → P i)
for_all_below P zero decide = inl (λ i l. absurd (omega arith))
for_all_below P (suc n) decide =
    more (for_all_below P n (λ i l. decide i (omega (arith, l)))) (decide n (omega arith))
  where
    below : (i : ℕ) → i < suc n → (i ≡ n → ⊥) → i < n
    below i l e = elim (cases_lt i n) [
      | inl k ↦ k
      | inr k ↦ absurd (e (omega (arith, k, l)))
    ]

    both : ((i : ℕ) → i < n → P i) → P n → (i : ℕ) → i < suc n → P i
    both h p i l = elim (cases_eq i n) [
      | inl e ↦ subst P (sym e) p
      | inr e ↦ h i (below i l e)
    ]

    more : Decided ((i : ℕ) → i < n → P i) → Decided (P n) → Decided ((i : ℕ) → i < suc n → P i)
    more (inl h) (inl p) = inl (both h p)
    more (inl h) (inr q) = inr (λ f. q (f n (omega arith)))
    more (inr q) d = inr (λ f. q (λ i l. f i (omega (arith, l))))

pub is_symbol : (s t : Sym) → Decided (s ≡ t)
is_symbol s t = elim (cases_eq (rank s) (rank t)) [
  | inl e ↦ inl (rank_same s t e)
  | inr n ↦ inr (λ e. n (ap rank e))
]

pub is_list : {X : Type 0} → ((x y : X) → Decided (x ≡ y)) → (xs ys : List X) → Decided (xs ≡ ys)
is_list is [] [] = inl refl
is_list is [] (y ∷ ys) = inr (λ e. cc)
is_list is (x ∷ xs) [] = inr (λ e. cc)
is_list is (x ∷ xs) (y ∷ ys) = own (is x y) (is_list is xs ys)
  where
    own : Decided (x ≡ y) → Decided (xs ≡ ys) → Decided (x ∷ xs ≡ y ∷ ys)
    own (inl e) (inl f) = inl (ap₂ (λ z zs. z ∷ zs) e f)
    own (inl e) (inr n) = inr (λ f. n cc)
    own (inr n) d = inr (λ f. n cc)

pub is_member : {X : Type 0} → ((x y : X) → Decided (x ≡ y)) → (xs : List X) (x : X) → Decided (Contains xs x)
is_member is [] x = inr (λ h. absurd (omega (arith, h.1)))
is_member is (y ∷ ys) x = own (is y x) (is_member is ys x)
  where
    no_place : (y ≡ x → ⊥) → (Contains ys x → ⊥) → (i : ℕ) → i < length (y ∷ ys) → get_or (y ∷ ys) i x ≡ x → ⊥
    no_place n none zero l e = n e
    no_place n none (suc i) l e = none (i, omega (arith, l), e)

    own : Decided (y ≡ x) → Decided (Contains ys x) → Decided (Contains (y ∷ ys) x)
    own (inl e) d = inl (0, omega arith, e)
    own (inr n) (inl h) = inl (suc h.0, omega (arith, h.1), h.2)
    own (inr n) (inr none) = inr (λ h. no_place n none _ h.1 h.2)

pub is_kind : (k l : PrefixKind) → Decided (k ≡ l)
is_kind k l = by _ refl
  where
    other : is_eq (kind_order k l) ≡ false → k ≡ l → ⊥
    other h e = true≢false
        (sym (ap is_eq (tied_itself kind_order_total l)) ∙ sym (ap (λ x. is_eq (kind_order x l)) e) ∙ h)

    by : (o : Ordering) → kind_order k l ≡ o → Decided (k ≡ l)
    by Less e = inr (other (ap is_eq e))
    by Equal e = inl (same_kind k l e)
    by Greater e = inr (other (ap is_eq e))

pub is_less : (o : Ordering) → Decided (o ≡ Less)
is_less Less = inl refl
is_less Equal = inr (λ e. true≢false (sym (ap is_lt e)))
is_less Greater = inr (λ e. true≢false (sym (ap is_lt e)))

pub is_option : {X : Type 0} → ((x y : X) → Decided (x ≡ y)) → (o p : Option X) → Decided (o ≡ p)
is_option is None None = inl refl
is_option is None (Some y) = inr (λ e. cc)
is_option is (Some x) None = inr (λ e. cc)
is_option is (Some x) (Some y) = own (is x y)
  where
    own : Decided (x ≡ y) → Decided (Some x ≡ Some y)
    own (inl e) = inl (ap (λ z. Some z) e)
    own (inr n) = inr (λ e. n (ap (λ o. unwrap_or o x) e))
