-- Kinds in kind order: each list of kinds has the same kinds as an ascending one.
use Rattle.std.proofs.Common.{◌≡◌, ◌⊎◌, inl, inr, List, [], ◌∷◌, refl, sym, ap, ◌∙◌, subst, ⊎_elim, Contains}
use Rattle.std.specs.{Prelude.◌↔◌, Ordering.ordering_reverse, declared.cmp.Ordering.Ordering}
use Rattle.std.specs.declared.cmp.Ordering.TheVariants.{Less, Equal, Greater}
use Rattle.tier_core.specs.Kinds.{PrefixKind, kind_order}
use Rattle.tier_core.proofs.{KindTies.{same_kind, kind_order_total}, Members.{contains_none, contains_first}}
use Rattle.tier_core.proofs.Members.{contains_later, contains_cases, all_from_members, all_at_member}
use Rattle.ranked_gen.proofs.Ascending.{Ascends}

-- An ascending list with one kind more.
pub record IsPut (k : PrefixKind) (ks more : List PrefixKind) : Type 0 where
  pub ascends : Ascends kind_order more
  pub has : (l : PrefixKind) → Contains more l ↔ ((k ≡ l) ⊎ Contains ks l)

put : (k : PrefixKind) (ks : List PrefixKind) → Ascends kind_order ks → (more : List PrefixKind) × IsPut k ks more
put k [] a = (
  k ∷ [],
  record {
    ascends = (tt, tt);
    has = λ l. (
      λ c. contains_cases k [] l c,
      λ d. ⊎_elim (λ e. subst (Contains (k ∷ [])) e (contains_first k []))
          (λ none. absurd (contains_none l none)) d,
    );
  },
)
put k (x ∷ xs) a = go (kind_order k x) refl (put k xs a.1)
  where
    go : (o : Ordering) → kind_order k x ≡ o → (more : List PrefixKind) × IsPut k xs more
        → (more : List PrefixKind) × IsPut k (x ∷ xs) more
    go Less e rest = (
      k ∷ x ∷ xs,
      record {
        ascends = (
          (
            e,
            all_from_members (λ l. kind_order k l ≡ Less) xs
                (λ l m. kind_order_total.trans k x l e (all_at_member (λ y. kind_order x y ≡ Less) xs l a.0 m)),
          ),
          a,
        );
        has = λ l. (
          λ c. contains_cases k (x ∷ xs) l c,
          λ d. ⊎_elim (λ s. subst (Contains (k ∷ x ∷ xs)) s (contains_first k (x ∷ xs)))
              (contains_later k (x ∷ xs) l) d,
        );
      },
    )
    go Equal e rest = (
      x ∷ xs,
      record {
        ascends = a;
        has = λ l. (
          inr,
          λ d. ⊎_elim (λ s. subst (Contains (x ∷ xs)) (sym (same_kind k x e) ∙ s)
              (contains_first x xs)) (λ c. c) d,
        );
      },
    )
    go Greater e rest = (
      x ∷ rest.0,
      record {
        ascends = (
          all_from_members (λ l. kind_order x l ≡ Less) rest.0 (λ l m. ⊎_elim
              (λ s. ap (kind_order x) (sym s) ∙ kind_order_total.antisymm x k ∙ ap ordering_reverse e)
              (λ c. all_at_member (λ y. kind_order x y ≡ Less) xs l a.0 c)
              ((rest.1.has l).0 m)),
          rest.1.ascends,
        );
        has = λ l. (
          λ c. ⊎_elim
              (λ s. inr (subst (Contains (x ∷ xs)) s (contains_first x xs)))
              (λ m. ⊎_elim inl (λ old. inr (contains_later x xs l old)) ((rest.1.has l).0 m))
              (contains_cases x rest.0 l c),
          λ d. ⊎_elim
              (λ s. contains_later x rest.0 l ((rest.1.has l).1 (inl s)))
              (λ old. ⊎_elim
              (λ s. subst (Contains (x ∷ rest.0)) s (contains_first x rest.0))
              (λ m. contains_later x rest.0 l ((rest.1.has l).1 (inr m)))
              (contains_cases x xs l old))
              d,
        );
      },
    )

pub sorted_kinds : (ks : List PrefixKind)
    → (sorted : List PrefixKind) × (Ascends kind_order sorted ×
    ((k : PrefixKind) → Contains sorted k ↔ Contains ks k))
sorted_kinds [] = ([], (tt, λ k. (λ c. c, λ c. c)))
sorted_kinds (x ∷ xs) =
    let rest = sorted_kinds xs in
    let more = put x rest.0 rest.1.0 in (
      more.0,
      (
        more.1.ascends,
        λ k. (
          λ c. ⊎_elim (λ s. subst (Contains (x ∷ xs)) s (contains_first x xs))
              (λ m. contains_later x xs k ((rest.1.1 k).0 m)) ((more.1.has k).0 c),
          λ c. (more.1.has k).1 (⊎_elim inl (λ m. inr ((rest.1.1 k).1 m)) (contains_cases x xs k c)),
        ),
      ),
    )
