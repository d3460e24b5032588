-- Two weights as one satisfy the laws of weights if each of the two does.
use Rattle.std.specs.Prelude.{◌≡◌, Bool, true, false, ◌&&◌, refl}
use Rattle.std.proofs.Common.{sym, ap, ◌∙◌, arith}
use Rattle.std.proofs.lemmas.Bool.{and_parts, and_from, false≢true}
use Rattle.weight_law.specs.Meaning.{Meaning, IsLawful}
use Rattle.weight_law.specs.Pair.{pair_of, pair_below, pair_meaning}
use Rattle.weight_law.specs.declared.pair.Pair.{Pair}

module _ {A B : Type 0} {a : Meaning A} {b : Meaning B} (la : IsLawful a) (lb : IsLawful b) where
  abbrev Ok : Pair A B → Type 0
  Ok p = (a.lawful p.first && b.lawful p.second) ≡ true

  -- whether a pair is below another, by what its parts are
  abbrev below_of : Pair A B → Pair A B → Bool
  below_of p q = pair_below (a.below p.first q.first) (a.below q.first p.first) (b.below p.second q.second)

  one : (p : Pair A B) → Ok p → a.lawful p.first ≡ true
  one p h = (and_parts (a.lawful p.first) (b.lawful p.second) h).0

  two : (p : Pair A B) → Ok p → b.lawful p.second ≡ true
  two p h = (and_parts (a.lawful p.first) (b.lawful p.second) h).1

  itself : (s t : Bool) → s ≡ false → t ≡ false → pair_below s s t ≡ false
  itself true t p q = absurd (false≢true (sym p))
  itself false t p q = q

  total : (s t u v : Bool) → pair_below s t u ≡ false → pair_below t s v ≡ false
      → (s ≡ false) × (t ≡ false) × (u ≡ false) × (v ≡ false)
  total true t u v p q = absurd (false≢true (sym p))
  total false true u v p q = absurd (false≢true (sym q))
  total false false u v p q = (refl, refl, p, q)

  least : (s t u : Bool) → s ≡ false → u ≡ false → pair_below s t u ≡ false
  least true t u p q = absurd (false≢true (sym p))
  least false true u p q = refl
  least false false u p q = q

  -- by cases on whether p is below q at the first part, q below p, q below r, and r below q
  transitive : (p q r : Pair A B) → Ok p → Ok q → Ok r → below_of p q ≡ true → below_of q r ≡ true → below_of p r ≡ true
  transitive p q r op oq or h k =
      go (a.below p.first q.first) refl (a.below q.first p.first) refl
      (a.below q.first r.first) refl (a.below r.first q.first) refl h k
    where
      first : a.below p.first r.first ≡ true → below_of p r ≡ true
      first e = rw e refl

      second : p.first ≡ q.first → q.first ≡ r.first → b.below p.second r.second ≡ true → below_of p r ≡ true
      second same more e =
          let none = la.below_itself r.first (one r or) in
          let left : a.below p.first r.first ≡ false = ap (λ x. a.below x r.first) (same ∙ more) ∙ none in
          let right : a.below r.first p.first ≡ false = ap (λ x. a.below r.first x) (same ∙ more) ∙ none in
          rw (left, right) e

      go : (s : Bool) → a.below p.first q.first ≡ s → (t : Bool) → a.below q.first p.first ≡ t → (u : Bool)
          → a.below q.first r.first ≡ u → (v : Bool) → a.below r.first q.first ≡ v
          → pair_below s t (b.below p.second q.second) ≡ true → pair_below u v (b.below q.second r.second) ≡ true
          → below_of p r ≡ true
      go true s t t' true u v v' h k =
          first (la.below_transitive p.first q.first r.first (one p op) (one q oq) (one r or) s u)
      go true s t t' false u true v' h k = absurd (false≢true k)
      go true s t t' false u false v' h k =
          let same : q.first ≡ r.first = la.below_total q.first r.first (one q oq) (one r or) u v' in
          first (ap (λ x. a.below p.first x) (sym same) ∙ s)
      go false s true t' u u' v v' h k = absurd (false≢true h)
      go false s false t' true u v v' h k =
          let same : p.first ≡ q.first = la.below_total p.first q.first (one p op) (one q oq) s t' in
          first (ap (λ x. a.below x r.first) same ∙ u)
      go false s false t' false u true v' h k = absurd (false≢true k)
      go false s false t' false u false v' h k =
          second
          (la.below_total p.first q.first (one p op) (one q oq) s t')
          (la.below_total q.first r.first (one q oq) (one r or) u v')
          (lb.below_transitive p.second q.second r.second (two p op) (two q oq) (two r or) h k)

  pub pair_lawful : IsLawful (pair_meaning a b)
  pair_lawful = record {
    lawful_zero = and_from (a.lawful a.zero) (b.lawful b.zero) la.lawful_zero lb.lawful_zero;
    lawful_sum = λ p q op oq.
        and_from (a.lawful (a.sum p.first q.first)) (b.lawful (b.sum p.second q.second))
        (la.lawful_sum p.first q.first (one p op) (one q oq))
        (lb.lawful_sum p.second q.second (two p op) (two q oq));
    size_zero = rw (la.size_zero, lb.size_zero) refl;
    size_sum = λ p q op oq.
        (let s = la.size_sum p.first q.first (one p op) (one q oq) in
        let t = lb.size_sum p.second q.second (two p op) (two q oq) in
        omega (arith, s, t));
    sum_assoc = λ p q r op oq or.
        ap (λ x. pair_of x (b.sum (b.sum p.second q.second) r.second))
        (la.sum_assoc p.first q.first r.first (one p op) (one q oq) (one r or))
        ∙ ap (λ y. pair_of (a.sum p.first (a.sum q.first r.first)) y)
        (lb.sum_assoc p.second q.second r.second (two p op) (two q oq) (two r or));
    sum_comm = λ p q op oq.
        ap (λ x. pair_of x (b.sum p.second q.second)) (la.sum_comm p.first q.first (one p op) (one q oq))
        ∙ ap (λ y. pair_of (a.sum q.first p.first) y) (lb.sum_comm p.second q.second (two p op) (two q oq));
    sum_zero = λ p op.
        ap (λ x. pair_of x (b.sum p.second b.zero)) (la.sum_zero p.first (one p op))
        ∙ ap (λ y. pair_of p.first y) (lb.sum_zero p.second (two p op));
    below_itself = λ p op.
        itself (a.below p.first p.first) (b.below p.second p.second)
        (la.below_itself p.first (one p op))
        (lb.below_itself p.second (two p op));
    below_transitive = transitive;
    below_total = λ p q op oq h k.
        (let none = total (a.below p.first q.first) (a.below q.first p.first)
        (b.below p.second q.second) (b.below q.second p.second) h k in
        ap (λ x. pair_of x p.second) (la.below_total p.first q.first (one p op) (one q oq) none.0 none.1)
        ∙ ap (λ y. pair_of q.first y) (lb.below_total p.second q.second (two p op) (two q oq) none.2 none.3));
    below_zero = λ p op.
        least (a.below p.first a.zero) (a.below a.zero p.first) (b.below p.second b.zero)
        (la.below_zero p.first (one p op))
        (lb.below_zero p.second (two p op));
    below_sum = λ p q r op oq or.
        rw (
          la.below_sum p.first q.first r.first (one p op) (one q oq) (one r or),
          la.below_sum q.first p.first r.first (one q oq) (one p op) (one r or),
          lb.below_sum p.second q.second r.second (two p op) (two q oq) (two r or),
        )
        refl;
  }
