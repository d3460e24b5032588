-- What several vertices, one after another, give to a search backward.
use Rattle.std.proofs.Common.{◌≡◌, ℕ, ◌+◌, ◌<◌, List, [], ◌∷◌, ◌++◌, length, get_or, take, refl, sym, ap, ◌∙◌}
use Rattle.std.proofs.{Common.{subst, ◌⊎◌, inl, inr}, lemmas.List.take_more}
use Rattle.std.proofs.lemmas.List.Elements.{Contains-append_left, Contains-push, Contains-push_cases}
use Rattle.std.specs.Prelude.{Contains}
use Rattle.first_paths.specs.Search.{ReachesIn, LeadsToOne}

module _ {X : Type 0} {at : List X → ℕ → ℕ → Type 0} {unknown : List X → ℕ} where
  -- where no vertex is to be reached
  pub reaches_none : (P : ℕ → Type 0) → ((v : ℕ) → P v → ⊥) → (n : ℕ) (left : List X) (next : List ℕ)
      → ReachesIn at unknown P n left left next next
  reaches_none P none n left next = record {
    same = refl;
    kept = λ v m known. known;
    found = λ v m known. inl known;
    reached = λ v here. absurd (none v here);
    stays = λ v here. here;
    listed = λ v here. inl here;
    number = refl;
  }

  -- the same vertices, said otherwise
  pub reaches_same : (P R : ℕ → Type 0) → ((v : ℕ) → P v → R v) → ((v : ℕ) → R v → P v)
      → (n : ℕ) (old new : List X) (before after : List ℕ) → ReachesIn at unknown P n old new before after
      → ReachesIn at unknown R n old new before after
  reaches_same P R into back n old new before after r = record {
    same = r.same;
    kept = r.kept;
    found = λ v m known. elim (r.found v m known) [
      | inl earlier ↦ inl earlier
      | inr now ↦ inr
          (now.0, into v now.1, now.2)
    ];
    reached = λ v here. r.reached v (back v here);
    stays = r.stays;
    listed = r.listed;
    number = r.number;
  }

  -- those of P, and then those of Q
  pub reaches_both : (P Q R : ℕ → Type 0) → ((v : ℕ) → R v → P v ⊎ Q v) → ((v : ℕ) → P v → R v)
      → ((v : ℕ) → Q v → R v)
      → (n : ℕ) (old mid new : List X) (before between after : List ℕ)
      → ReachesIn at unknown P n old mid before between
      → ReachesIn at unknown Q n mid new between after → ReachesIn at unknown R n old new before after
  reaches_both P Q R split left right n old mid new before between after first second = record {
    same = second.same ∙ first.same;
    kept = λ v m e. second.kept v m (first.kept v m e);
    found = found;
    reached = reached;
    stays = λ v here. second.stays v (first.stays v here);
    listed = listed;
    number = second.number ∙ first.number;
  }
    where
      found : (v m : ℕ) → at new v m → at old v m ⊎ ((m ≡ n) × R v × Contains after v)
      found v m e = elim (second.found v m e) [
        | inl known ↦ elim (first.found v m known) [
          | inl earlier ↦ inl earlier
          | inr now ↦ inr (now.0, left v now.1, second.stays v now.2)
        ]
        | inr now ↦ inr (now.0, right v now.1, now.2)
      ]

      reached : (v : ℕ) → R v → (m : ℕ) × at new v m
      reached v r = elim (split v r) [
        | inl p ↦ (let f = first.reached v p in (f.0, second.kept v f.0 f.1))
        | inr p ↦ second.reached v p
      ]

      listed : (v : ℕ) → Contains after v → Contains before v ⊎ at new v n
      listed v here = elim (second.listed v here) [
        | inl earlier ↦ elim (first.listed v earlier) [
          | inl first_is ↦ inl first_is
          | inr known ↦ inr (second.kept v n known)
        ]
        | inr known ↦ inr known
      ]

  -- those that lead to the next element of a list
  pub reaches_more : {A : Type 0} (leads : A → ℕ → Type 0) (elements : List A) (i : ℕ) (d x : A) → i < length elements
      → x ≡ get_or elements i d → (n : ℕ) (old mid new : List X) (before between after : List ℕ)
      → ReachesIn at unknown (LeadsToOne leads (take i elements)) n old mid before between
      → ReachesIn at unknown (leads x) n mid new between after
      → ReachesIn at unknown (LeadsToOne leads (take (i + 1) elements)) n old new before after
  reaches_more {A} leads elements i d x inside is n old mid new before between after first second =
      let last : take (i + 1) elements ≡ take i elements ++ x ∷ [] = take_more elements i d inside
      ∙ ap (λ y. take i elements ++ y ∷ []) (sym is) in
      let P : List A → Type 0 = λ xs. ReachesIn at unknown (LeadsToOne leads xs) n old new before after in
      subst P (sym last)
      (reaches_both (LeadsToOne leads (take i elements)) (leads x) (LeadsToOne leads (take i elements ++ x ∷ []))
      (λ v h. elim (Contains-push_cases (take i elements) x h.0 h.1) [
        | inl earlier ↦ inl (h.0, earlier, h.2)
        | inr now ↦ (let Q : A → Type 0 = λ y. leads y v in inr (subst Q (sym now) h.2))
      ])
      (λ v h. (h.0, Contains-append_left (take i elements) (x ∷ []) h.0 h.1, h.2))
      (λ v h. (x, Contains-push (take i elements) x, h)) n old mid new before between after first second)
