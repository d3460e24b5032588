-- Two lists whose elements stand in a relation one by one.
use Rattle.std.proofs.Common.{◌≡◌, ℕ, zero, suc, ◌<◌, List, [], ◌∷◌, ◌++◌, length, get_or, refl, subst, arith}
use Rattle.std.specs.{Prelude.{Contains, AllPairs}, List.AllZip}

module _ {A B : Type 0} (R : A → B → Type 0) where
  pub zip_push : (xs : List A) (ys : List B) (x : A) (y : B) → AllZip R xs ys → R x y
      → AllZip R (xs ++ x ∷ []) (ys ++ y ∷ [])
  zip_push [] [] x y z r = (r, tt)
  zip_push [] (b ∷ ys) x y z r = absurd z
  zip_push (a ∷ xs) [] x y z r = absurd z
  zip_push (a ∷ xs) (b ∷ ys) x y z r = (z.0, zip_push xs ys x y z.1 r)

  pub zip_weaken : (S : A → B → Type 0) → ((x : A) (y : B) → R x y → S x y) → (xs : List A) (ys : List B)
      → AllZip R xs ys → AllZip S xs ys
  zip_weaken S h [] [] z = tt
  zip_weaken S h [] (b ∷ ys) z = absurd z
  zip_weaken S h (a ∷ xs) [] z = absurd z
  zip_weaken S h (a ∷ xs) (b ∷ ys) z = (h a b z.0, zip_weaken S h xs ys z.1)

  pub zip_from : (xs : List A) (ys : List B) → AllZip R xs ys → (k : ℕ) (y : B) → k < length ys → get_or ys k y ≡ y
      → (x : A) × Contains xs x × R x y
  zip_from [] [] z k y l e = absurd (omega arith)
  zip_from [] (b ∷ ys) z k y l e = absurd z
  zip_from (a ∷ xs) [] z k y l e = absurd z
  zip_from (a ∷ xs) (b ∷ ys) z zero y l e = (a, (0, omega arith, refl), rw e at z.0)
  zip_from (a ∷ xs) (b ∷ ys) z (suc k) y l e =
      let rest = zip_from xs ys z.1 k y (omega arith) e in
      (rest.0, (suc rest.1.0, omega (arith, rest.1.1), rest.1.2), rest.2)

  pub zip_to : (xs : List A) (ys : List B) → AllZip R xs ys → (k : ℕ) (x : A) → k < length xs → get_or xs k x ≡ x
      → (y : B) × Contains ys y × R x y
  zip_to [] [] z k x l e = absurd (omega arith)
  zip_to [] (b ∷ ys) z k x l e = absurd z
  zip_to (a ∷ xs) [] z k x l e = absurd z
  zip_to (a ∷ xs) (b ∷ ys) z zero x l e = (b, (0, omega arith, refl), rw e at z.0)
  zip_to (a ∷ xs) (b ∷ ys) z (suc k) x l e =
      let rest = zip_to xs ys z.1 k x (omega arith) e in
      (rest.0, (suc rest.1.0, omega (arith, rest.1.1), rest.1.2), rest.2)

  zip_at : (xs : List A) (ys : List B) → AllZip R xs ys → (k : ℕ) (d : A) (e : B) → k < length ys
      → (k < length xs) × R (get_or xs k d) (get_or ys k e)
  zip_at [] [] z k d e l = absurd (omega arith)
  zip_at [] (b ∷ ys) z k d e l = absurd z
  zip_at (a ∷ xs) [] z k d e l = absurd z
  zip_at (a ∷ xs) (b ∷ ys) z zero d e l = (omega arith, z.0)
  zip_at (a ∷ xs) (b ∷ ys) z (suc k) d e l = let rest = zip_at xs ys z.1 k d e (omega arith) in
      (omega (arith, rest.0), rest.1)

  -- what holds of each two of the first list's elements holds of those of the second
  pub zip_pairs : (P : A → A → Type 0) (Q : B → B → Type 0) → ((a c : A) (b d : B) → R a b → R c d → P a c → Q b d)
      → (xs : List A) (ys : List B) → AllZip R xs ys → AllPairs P xs → AllPairs Q ys
  zip_pairs P Q h [] [] z p i j d l k = absurd (omega arith)
  zip_pairs P Q h [] (b ∷ ys) z p i j d l k = absurd z
  zip_pairs P Q h (a ∷ xs) [] z p i j d l k = absurd z
  zip_pairs P Q h (a ∷ xs) (b ∷ ys) z p i j d l k =
      let first = zip_at (a ∷ xs) (b ∷ ys) z i a d (omega arith) in
      let second = zip_at (a ∷ xs) (b ∷ ys) z j a d k in
      h (get_or (a ∷ xs) i a) (get_or (a ∷ xs) j a) (get_or (b ∷ ys) i d) (get_or (b ∷ ys) j d) first.1 second.1
      (p i j a l second.0)
