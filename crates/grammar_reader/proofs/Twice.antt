-- Names that stand twice in a list.
use Rattle.std.proofs.Common.{◌≡◌, ℕ, ◌+◌, ◌<◌, Bool, true, false, cond, ◌||◌, List, [], ◌∷◌, ◌++◌, length, get_or}
use Rattle.std.proofs.Common.{take, drop, map, refl, ap, sym, ◌∙◌}
use Rattle.std.proofs.lemmas.Bool.{false≢true, or_parts, or_from, or_left, or_right}
use Rattle.std.proofs.{lemmas.Slice.Eq.bytes_eq-Decides, lemmas.List.Folds.list_any-append}
use Rattle.std.proofs.lemmas.List.{take-append-drop, take_more, drop_more, map-append}
use Rattle.std.specs.{List.list_any, Str.bytes_eq}
use Rattle.timeline_text.proofs.Searches.{by_test}
use Rattle.grammar_reader.specs.Names.{has_twice}
use Rattle.grammar_reader.proofs.Lists.{list_any-map}
use denote.Ref.{Bor}

pub same_bytes : (m n : List ℕ) → bytes_eq m n ≡ true → bytes_eq n m ≡ true
same_bytes m n h = (bytes_eq-Decides n m).1 (sym ((bytes_eq-Decides m n).0 h))

pub other_bytes : (m n : List ℕ) → bytes_eq m n ≡ false → bytes_eq n m ≡ false
other_bytes m n h = by_test (bytes_eq n m) (λ e. absurd (false≢true (sym h ∙ same_bytes n m e))) (λ e. e)

-- one name more that is not there
pub once_push : (ns : List (List ℕ)) (n : List ℕ) → has_twice ns ≡ false → list_any (bytes_eq n) ns ≡ false
    → has_twice (ns ++ n ∷ []) ≡ false
once_push [] n h k = refl
once_push (m ∷ ns) n h k =
    let a = or_parts (list_any (bytes_eq m) ns) (has_twice ns) h in
    let b = or_parts (bytes_eq n m) (list_any (bytes_eq n) ns) k in
    or_from (list_any (bytes_eq m) (ns ++ n ∷ [])) (has_twice (ns ++ n ∷ []))
    (list_any-append (bytes_eq m) ns (n ∷ [])
    ∙ or_from (list_any (bytes_eq m) ns) (bytes_eq m n || false) a.0
    (or_from (bytes_eq m n) false (other_bytes n m b.0) refl))
    (once_push ns n a.1 b.1)

-- one name more that is there
pub twice_after : (ns : List (List ℕ)) (n : List ℕ) (ms : List (List ℕ)) → list_any (bytes_eq n) ns ≡ true
    → has_twice (ns ++ n ∷ ms) ≡ true
twice_after [] n ms h = absurd (false≢true h)
twice_after (m ∷ ns) n ms h = by_test (bytes_eq n m)
    (λ e. or_left (list_any (bytes_eq m) (ns ++ n ∷ ms)) (has_twice (ns ++ n ∷ ms))
    (list_any-append (bytes_eq m) ns (n ∷ ms)
    ∙ or_right (list_any (bytes_eq m) ns) (bytes_eq m n || list_any (bytes_eq m) ms)
    (or_left (bytes_eq m n) (list_any (bytes_eq m) ms) (same_bytes n m e))))
    (λ e. or_right (list_any (bytes_eq m) (ns ++ n ∷ ms)) (has_twice (ns ++ n ∷ ms))
    (twice_after ns n ms (sym (ap (λ t. t || list_any (bytes_eq n) ns) e) ∙ h)))

-- names that are gone through, with those that are gone through in a set
module _ (names : List (Bor (List ℕ))) (i : ℕ) (d : Bor (List ℕ)) (keys : List (Bor (List ℕ)))
    (here : i < length names) (are : keys ≡ take i names) where
  in_front : (t : Bool) → list_any (λ k. bytes_eq (get_or names i d).now k.now) keys ≡ t
      → list_any (bytes_eq (get_or names i d).now) (map (λ n. n.now) (take i names)) ≡ t
  in_front t h = list_any-map (bytes_eq (get_or names i d).now) (λ n. n.now) (take i names)
      ∙ ap (list_any (λ k. bytes_eq (get_or names i d).now k.now)) (sym are) ∙ h

  -- a name that is in the set
  pub found_twice : list_any (λ k. bytes_eq (get_or names i d).now k.now) keys ≡ true
      → true ≡ has_twice (map (λ n. n.now) names)
  found_twice h =
      let all : names ≡ take i names ++ (get_or names i d ∷ drop (i + 1) names) = sym (take-append-drop i names)
      ∙ ap (λ xs. take i names ++ xs) (drop_more names i d here) in
      sym (ap (λ xs. has_twice (map (λ n. n.now) xs)) all
      ∙ ap has_twice (map-append (λ n. n.now) (take i names) (get_or names i d ∷ drop (i + 1) names))
      ∙ twice_after (map (λ n. n.now) (take i names)) (get_or names i d).now (map (λ n. n.now) (drop (i + 1) names))
      (in_front true h))

  -- and one that is not
  pub still_once : has_twice (map (λ n. n.now) (take i names)) ≡ false
      → list_any (λ k. bytes_eq (get_or names i d).now k.now) keys ≡ false
      → has_twice (map (λ n. n.now) (take (i + 1) names)) ≡ false
  still_once h k = ap (λ xs. has_twice (map (λ n. n.now) xs)) (take_more names i d here)
      ∙ ap has_twice (map-append (λ n. n.now) (take i names) (get_or names i d ∷ []))
      ∙ once_push (map (λ n. n.now) (take i names)) (get_or names i d).now h (in_front false k)

  pub key_more : (new : List (Bor (List ℕ))) → list_any (λ k. bytes_eq (get_or names i d).now k.now) keys ≡ false
      → new ≡ cond (list_any (λ k. bytes_eq (get_or names i d).now k.now) keys) keys (keys ++ get_or names i d ∷ [])
      → new ≡ take (i + 1) names
  key_more new k e = e ∙ ap (λ t. cond t keys (keys ++ get_or names i d ∷ [])) k
      ∙ ap (λ ks. ks ++ get_or names i d ∷ []) are ∙ sym (take_more names i d here)
