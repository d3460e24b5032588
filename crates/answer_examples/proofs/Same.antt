-- Tests that two values are one: symbols, columns and kinds.
use Rattle.std.proofs.Common.{◌≡◌, ℕ, ◌==◌, Bool, true, false, List, refl, sym, ap, ◌∙◌, subst}
use Rattle.std.proofs.{Common.{Contains, Decides}, lemmas.{Bool.Decides.Decides-eqb, Cmp.tied_itself}}
use Rattle.std.specs.{Bool.beq, List.list_any, Ordering.is_eq, Cmp.Lexicographic.{pointwise, pointwise_decides}}
use Rattle.tier_core.specs.{declared.sym.Sym.Sym, Symbols.rank}
use Rattle.tier_core.specs.Kinds.{PrefixKind, kind_order}
use Rattle.tier_core.proofs.{SetLemmas.rank_same, KindTies.{same_kind as one_kind, is_equal, kind_order_total}}
use Rattle.answer_examples.proofs.Tests.{Decides-by, some_decided}

pub Decides-flag : (a b : Bool) → Decides (beq a b) (a ≡ b)
Decides-flag true true = (λ e. refl, λ e. refl)
Decides-flag true false = (λ e. sym e, λ e. sym e)
Decides-flag false true = (λ e. e, λ e. e)
Decides-flag false false = (λ e. refl, λ e. refl)

abbrev pub same_symbol : Sym → Sym → Bool
same_symbol s t = rank s == rank t

pub Decides-symbol : (s t : Sym) → Decides (same_symbol s t) (s ≡ t)
Decides-symbol s t = Decides-by (Decides-eqb (rank s) (rank t))
    (rank_same s t)
    (ap rank)

abbrev pub same_column : List Sym → List Sym → Bool
same_column c d = pointwise same_symbol c d

pub Decides-column : (c d : List Sym) → Decides (same_column c d) (c ≡ d)
Decides-column c d = pointwise_decides Decides-symbol c d

abbrev pub same_timeline : List (List Sym) → List (List Sym) → Bool
same_timeline T U = pointwise same_column T U

pub Decides-timeline : (T U : List (List Sym)) → Decides (same_timeline T U) (T ≡ U)
Decides-timeline T U = pointwise_decides Decides-column T U

abbrev pub same_numbers : List ℕ → List ℕ → Bool
same_numbers xs ys = pointwise ◌==◌ xs ys

pub Decides-numbers : (xs ys : List ℕ) → Decides (same_numbers xs ys) (xs ≡ ys)
Decides-numbers xs ys = pointwise_decides Decides-eqb xs ys

abbrev pub same_kind : PrefixKind → PrefixKind → Bool
same_kind k l = is_eq (kind_order k l)

pub Decides-kind : (k l : PrefixKind) → Decides (same_kind k l) (k ≡ l)
Decides-kind k l = (
  λ e. one_kind k l (is_equal (kind_order k l) e),
  λ e. ap is_eq (ap (kind_order k) (sym e) ∙ tied_itself kind_order_total k),
)

-- a list has a kind
abbrev pub has_kind : List PrefixKind → PrefixKind → Bool
has_kind kinds k = list_any (λ l. same_kind l k) kinds

pub Decides-has_kind : (kinds : List PrefixKind) (k : PrefixKind) → Decides (has_kind kinds k) (Contains kinds k)
Decides-has_kind kinds k =
    Decides-by (some_decided (λ l. same_kind l k) (λ l. l ≡ k) (λ l. Decides-kind l k) kinds)
    (λ w. subst (Contains kinds) w.1.1 w.1.0)
    (λ c. (k, (c, refl)))
