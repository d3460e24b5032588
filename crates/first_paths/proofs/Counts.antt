-- What is known of one state more.
use Rattle.std.proofs.Common.{◌≡◌, ℕ, zero, suc, ◌+◌, ◌<◌, true, false, List, [], ◌∷◌, ◌++◌, Option, None, Some, set}
use Rattle.std.proofs.Common.{length, get_or, replicate, refl, sym, ap, ◌∙◌, subst, arith, ◌⊎◌, inl, inr}
use Rattle.std.proofs.{lemmas.Bool.{false≢true, cases_lt, cases_eq}, lemmas.List.{length-set, get_or-set_same}}
use Rattle.std.proofs.lemmas.List.{get_or-set_other, get_or_past, length_push}
use Rattle.std.proofs.lemmas.List.Elements.{Contains-append_left, Contains-push, Contains-push_cases}
use Rattle.std.specs.Prelude.{Contains, is_some}
use Rattle.weight_law.specs.declared.count.Count.{Count}
use Rattle.first_paths.specs.Counted.{IsLeft, unknown_count, Reaches}

unknown_count-set : (left : List (Option Count)) (s : ℕ) (c : Count) → get_or left s None ≡ None → s < length left
    → unknown_count (set left s (Some c)) + 1 ≡ unknown_count left
unknown_count-set [] s c none l = absurd (omega (arith, l))
unknown_count-set (None ∷ left) zero c none l = omega arith
unknown_count-set (Some d ∷ left) zero c none l = cc
unknown_count-set (None ∷ left) (suc s) c none
    l = (let rest = unknown_count-set left s c none (omega arith) in omega (arith, rest))
unknown_count-set (Some d ∷ left) (suc s) c none l = unknown_count-set left s c none (omega arith)

-- only states have a number
pub known_inside : (left : List (Option Count)) (s n : ℕ) → IsLeft left s n → s < length left
known_inside left s n at = elim (cases_lt s (length left)) [
  | inl l ↦ l
  | inr l ↦ (let gone : get_or left s None ≡ None = get_or_past left s None l in let known = at.1 in cc)
]

-- and only one
pub same_left : (left : List (Option Count)) (s m n : ℕ) → IsLeft left s m → IsLeft left s n → m ≡ n
same_left left s m n a b =
    let both : Some a.0 ≡ Some b.0 = sym a.1 ∙ b.1 in
    let one : a.0 ≡ b.0 = cc in
    sym a.2 ∙ ap (λ (c : Count). c.0) one ∙ b.2

pub some_known : (o : Option Count) → is_some o ≡ true → (c : Count) × (o ≡ Some c)
some_known None e = absurd (false≢true e)
some_known (Some c) e = (c, refl)

pub none_known : (o : Option Count) → is_some o ≡ false → o ≡ None
none_known None e = refl
none_known (Some c) e = absurd (false≢true (sym e))

-- one state of which something is known
pub one_known : (n : ℕ) (left : List (Option Count)) (next : List ℕ) (s : ℕ) (c : Count) → get_or left s None ≡ Some c
    → Reaches (λ q. s ≡ q) n left left next next
one_known n left next s c e = record {
  same = refl;
  kept = λ q m known. known;
  found = λ q m known. inl known;
  reached = λ q at. (c.0, (c, ap (λ x. get_or left x None) (sym at) ∙ e, refl));
  stays = λ q here. here;
  listed = λ q here. inl here;
  number = refl;
}

-- one state of which nothing was known
pub one_unknown : (n : ℕ) (left : List (Option Count)) (next : List ℕ) (s : ℕ) (c : Count) → c.0 ≡ n
    → get_or left s None ≡ None → s < length left
    → Reaches (λ q. s ≡ q) n left (set left s (Some c)) next (next ++ s ∷ [])
one_unknown n left next s c is none inside = record {
  same = length-set left s (Some c);
  kept = kept;
  found = found;
  reached = λ q at. (n, there q at);
  stays = λ q here. Contains-append_left next (s ∷ []) q here;
  listed = λ q inn. elim
      (Contains-push_cases next s q inn) [ inl old ↦ inl old | inr at ↦ inr (there q at) ];
  number = omega (arith, unknown_count-set left s c none inside, length_push next s);
}
  where
    there : (q : ℕ) → s ≡ q → IsLeft (set left s (Some c)) q n
    there q at = (
      c,
      ap (λ x. get_or (set left s (Some c)) x None) (sym at)
          ∙ get_or-set_same left s (Some c) None inside,
      is,
    )

    kept : (q m : ℕ) → IsLeft left q m → IsLeft (set left s (Some c)) q m
    kept q m known = elim (cases_eq q s) [
      | inl same ↦
          (let gone : get_or left q None ≡ None = ap (λ x. get_or left x None) same ∙ none in let e = known.1 in cc)
      | inr ne ↦ (known.0, get_or-set_other left s q (Some c) None ne ∙ known.1, known.2)
    ]

    found : (q m : ℕ) → IsLeft (set left s (Some c)) q m
        → IsLeft left q m ⊎ ((m ≡ n) × (s ≡ q) × Contains (next ++ s ∷ []) q)
    found q m known = elim (cases_eq q s) [
      | inl same ↦
          (let P : ℕ → Type 0 = λ x. Contains (next ++ s ∷ []) x in
          inr (
            same_left (set left s (Some c)) q m n known (there q (sym same)),
            sym same,
            subst P (sym same) (Contains-push next s),
          ))
      | inr ne ↦ inl (known.0, sym (get_or-set_other left s q (Some c) None ne) ∙ known.1, known.2)
    ]

-- what holds of nothing else than None
pub none_only : (P : Option Count → Type 0) → ((c : Count) → P (Some c) → ⊥) → (o : Option Count) → P o → o ≡ None
none_only P not None p = refl
none_only P not (Some c) p = absurd (not c p)

-- where nothing is known of any state
pub unknown_count-none : (total : ℕ) → unknown_count (replicate total None) ≡ total
unknown_count-none zero = refl
unknown_count-none (suc total) = (let rest = unknown_count-none total in omega (arith, rest))

pub none_left : (total s n : ℕ) → IsLeft (replicate total None) s n → ⊥
none_left zero s n at = (let e = at.1 in cc)
none_left (suc total) zero n at = (let e = at.1 in cc)
none_left (suc total) (suc s) n at = none_left total s n at
