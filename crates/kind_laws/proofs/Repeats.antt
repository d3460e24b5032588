-- Conjunctions in which a type is repeated.
use Rattle.std.proofs.Common.{◌≡◌, ◌<◌, List, [], ◌∷◌, ◌++◌, Contains, subst, arith}
use Rattle.std.proofs.lemmas.List.Elements.{All-contains, All-from_recursion}
use Rattle.tier_core.specs.{declared.sym.Sym.Sym, declared.event.Event.Event, declared.constraint.Family.Family}
use Rattle.tier_core.specs.declared.constraint.Family.TheVariants.{Implication, Clash}
use Rattle.tier_core.proofs.Members.{contains_first, contains_later}
use Rattle.violation.specs.{Conditions.IsCountable, Counts.viol}
use Rattle.kind_laws.proofs.{Conjunctions.{implication_alike, clash_alike}, Sets.{HasSame, one_of}}

once : (e : Event) (types : List Event) → Contains types e → HasSame (e ∷ types) types
once e types c x = (
  λ d. one_of e types x (Contains types x) (λ s. subst (Contains types) s c) (λ r. r) d,
  λ d. contains_later e types x d,
)

same : (types : List Event) → HasSame types types
same types x = (λ c. c, λ c. c)

in_first : (xs ys : List Event) (x : Event) → Contains xs x → Contains (xs ++ ys) x
in_first [] ys x c = absurd (omega (arith, c.1))
in_first (z ∷ xs) ys x c =
    one_of z xs x (Contains (z ∷ (xs ++ ys)) x) (λ e. subst (Contains (z ∷ (xs ++ ys))) e (contains_first z (xs ++ ys)))
    (λ r. contains_later z (xs ++ ys) x (in_first xs ys x r)) c

in_second : (xs ys : List Event) (x : Event) → Contains ys x → Contains (xs ++ ys) x
in_second [] ys x c = c
in_second (z ∷ xs) ys x c = contains_later z (xs ++ ys) x (in_second xs ys x c)

in_either : (xs ys : List Event) (x : Event) (P : Type 0) → (Contains xs x → P) → (Contains ys x → P)
    → Contains (xs ++ ys) x → P
in_either [] ys x P h k c = k c
in_either (z ∷ xs) ys x P h k c =
    one_of z (xs ++ ys) x P (λ e. h (subst (Contains (z ∷ xs)) e (contains_first z xs)))
    (λ r. in_either xs ys x P (λ d. h (contains_later z xs x d)) k r) c

within : (e : Event) (xs ys : List Event) → Contains ys e → HasSame (xs ++ (e ∷ ys)) (xs ++ ys)
within e xs ys c x = (
  λ d. in_either xs (e ∷ ys) x (Contains (xs ++ ys) x) (λ a. in_first xs ys x a)
      (λ b. in_second xs ys x ((once e ys c x).0 b)) d,
  λ d. in_either xs ys x (Contains (xs ++ (e ∷ ys)) x) (λ a. in_first xs (e ∷ ys) x a)
      (λ b. in_second xs (e ∷ ys) x (contains_later e ys x b)) d,
)

module _ (e : Event) (left right : List Event) (T : List (List Sym)) (countable : IsCountable left right T) where
  more_left : Contains left e → IsCountable (e ∷ left) right T
  more_left c = record {
    width = countable.width;
    well_formed = countable.well_formed;
    left_below = (
      All-contains (λ x. x.tier < countable.width) left e
          (All-from_recursion (λ x. x.tier < countable.width) left countable.left_below) c,
      countable.left_below,
    );
    right_below = countable.right_below;
    some_left = omega arith;
  }

  more_right : Contains right e → IsCountable left (e ∷ right) T
  more_right c = record {
    width = countable.width;
    well_formed = countable.well_formed;
    left_below = countable.left_below;
    right_below = (
      All-contains (λ x. x.tier < countable.width) right e
          (All-from_recursion (λ x. x.tier < countable.width) right countable.right_below) c,
      countable.right_below,
    );
    some_left = countable.some_left;
  }

  pub repeated_left : (family : Family) → Contains left e
      → viol family (e ∷ left) right T ≡ viol family left right T
  repeated_left Implication c =
      implication_alike (e ∷ left) right left right T (more_left c) countable (once e left c) (same right)
  repeated_left Clash c =
      clash_alike (e ∷ left) right left right T (more_left c) countable
      (once e (left ++ right) (in_first left right e c))

  pub repeated_right : (family : Family) → Contains right e
      → viol family left (e ∷ right) T ≡ viol family left right T
  repeated_right Implication c =
      implication_alike left (e ∷ right) left right T (more_right c) countable (same left) (once e right c)
  repeated_right Clash c =
      clash_alike left (e ∷ right) left right T (more_right c) countable (within e left right c)
