-- What one vertex gives to a search backward.
use Rattle.std.proofs.Common.{◌≡◌, ℕ, zero, suc, ◌+◌, ◌<◌, ◌≤◌, List, [], ◌∷◌, ◌++◌, set, length, get_or, refl, sym}
use Rattle.std.proofs.{Common.{ap, ◌∙◌, subst, arith, ◌⊎◌, inl, inr, replicate}, lemmas.Bool.{cases_lt, cases_eq}}
use Rattle.std.proofs.lemmas.Bool.Decides.{nat_tests}
use Rattle.std.proofs.lemmas.List.{length-set, get_or-set_same, get_or-set_other, get_or_past, length_push}
use Rattle.std.proofs.lemmas.List.Elements.{Contains-append_left, Contains-push, Contains-push_cases}
use Rattle.std.specs.Prelude.{Contains}
use Rattle.comprehend.specs.Searches.{no_distance, IsLeft, unknown_at, unknown_count, Reaches}

-- what a number adds to those of which nothing is known
adds-far : (m : ℕ) → no_distance ≤ m → unknown_at m ≡ 1
adds-far m l = grind (arith, nat_tests)

adds-near : (m : ℕ) → m < no_distance → unknown_at m ≡ 0
adds-near m l = grind (arith, nat_tests)

unknown_count-set : (left : List ℕ) (s n : ℕ) → no_distance ≤ get_or left s no_distance → n < no_distance
    → s < length left
    → unknown_count (set left s n) + 1 ≡ unknown_count left
unknown_count-set [] s n none l in_list = absurd (omega (arith, in_list))
unknown_count-set (m ∷ left) zero n none l in_list = omega (arith, adds-far m none, adds-near n l)
unknown_count-set (m ∷ left) (suc s) n none l in_list =
    (let rest = unknown_count-set left s n none l (omega arith) in omega (arith, rest))

-- only vertices have a number
pub known_inside : (left : List ℕ) (s n : ℕ) → IsLeft left s n → s < length left
known_inside left s n at = elim (cases_lt s (length left)) [
  | inl l ↦ l
  | inr l ↦ absurd (omega (arith, get_or_past left s no_distance l, at.number, at.near))
]

-- and only one
pub same_left : (left : List ℕ) (v m n : ℕ) → IsLeft left v m → IsLeft left v n → m ≡ n
same_left left v m n a b = sym a.number ∙ b.number

-- one vertex of which nothing was known
pub one_unknown : (n : ℕ) (left next : List ℕ) (s : ℕ) → n < no_distance → no_distance ≤ get_or left s no_distance
    → s < length left
    → Reaches (λ v. v ≡ s) n left (set left s n) next (next ++ s ∷ [])
one_unknown n left next s near none inside = record {
  same = length-set left s n;
  kept = kept;
  found = found;
  reached = reached;
  stays = λ v here. Contains-append_left next (s ∷ []) v here;
  listed = listed;
  number = number;
}
  where
    there : (v : ℕ) → v ≡ s → IsLeft (set left s n) v n
    there v at = record {
      number = ap (λ x. get_or (set left s n) x no_distance) at
          ∙ get_or-set_same left s n no_distance inside;
      near = near;
    }

    kept : (v d : ℕ) → IsLeft left v d → IsLeft (set left s n) v d
    kept v d known = elim (cases_eq v s) [
      | inl same ↦ absurd (omega (arith, ap (λ x. get_or left x no_distance) same, known.number, known.near, none))
      | inr ne ↦ record { number = get_or-set_other left s v n no_distance ne ∙ known.number; near = known.near }
    ]

    found : (v d : ℕ) → IsLeft (set left s n) v d → IsLeft left v d ⊎ ((d ≡ n) × (v ≡ s) × Contains (next ++ s ∷ []) v)
    found v d known = elim (cases_eq v s) [
      | inl same ↦
          (let P : ℕ → Type 0 = λ x. Contains (next ++ s ∷ []) x in
          inr (sym known.number ∙ (there v same).number, same, subst P (sym same) (Contains-push next s)))
      | inr ne ↦ inl (record {
        number = sym (get_or-set_other left s v n no_distance ne)
            ∙ known.number;
        near = known.near;
      })
    ]

    reached : (v : ℕ) → v ≡ s → (m : ℕ) × IsLeft (set left s n) v m
    reached v at = (n, there v at)

    listed : (v : ℕ) → Contains (next ++ s ∷ []) v → Contains next v ⊎ IsLeft (set left s n) v n
    listed v inn = elim (Contains-push_cases next s v inn) [
      | inl old ↦ inl old
      | inr at ↦ inr (there v (sym at))
    ]

    number : unknown_count (set left s n) + length (next ++ s ∷ []) ≡ unknown_count left + length next
    number = omega (arith, unknown_count-set left s n none near inside, length_push next s)

-- numbers that are all far
pub unknown_count-no_distance : (total : ℕ) → unknown_count (replicate total no_distance) ≡ total
unknown_count-no_distance zero = refl
unknown_count-no_distance (suc total) = (let rest = unknown_count-no_distance total in omega
    (arith, adds-far no_distance (omega arith), rest))

pub none_left : (total v n : ℕ) → IsLeft (replicate total no_distance) v n → ⊥
none_left zero v n at = omega (arith, at.number, at.near)
none_left (suc total) zero n at = omega (arith, at.number, at.near)
none_left (suc total) (suc v) n at = none_left total v n (record { number = at.number; near = at.near })
