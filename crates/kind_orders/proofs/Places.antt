-- The places of the numbers of an order, one by one.
use Rattle.std.proofs.Common.{◌≡◌, ℕ, ◌+◌, ◌^◌, ◌<◌, ◌≤◌, List, length, get_or, ap, sym, ◌∙◌, arith, ⊎_elim}
use Rattle.std.proofs.lemmas.List.{get_or_default}
use Rattle.kind_orders.specs.Orderings.{IsOrdering, AreRanks}

-- the first n numbers of the order have their places
pub record ArePlaced (order : List ℕ) (n : ℕ) (ranks : List ℕ) : Type 0 where
  pub count : length ranks ≡ length order
  pub placed : (place : ℕ) → place < n → get_or ranks (get_or order place 0) 0 ≡ place

module _ (order : List ℕ) (o : IsOrdering (length order) order) where
  module _ (ranks : List ℕ) (p : ArePlaced order (length order) ranks) where
    -- where a number stands
    place_of : (number : ℕ) → number < length order
        → (place : ℕ) × (place < length order) × (get_or order place 0 ≡ number) × (get_or ranks number 0 ≡ place)
    place_of number l =
        let h = o.every number l in
        let there : get_or order h.0 0 ≡ number = sym (get_or_default order h.0 number 0 h.1) ∙ h.2 in
        (h.0, h.1, there, ap (λ n. get_or ranks n 0) (sym there) ∙ p.placed h.0 h.1)

    pub ranks_told : AreRanks order ranks
    ranks_told = record {
      forth = λ place l. p.placed place l;
      back = λ number l.
          let h = place_of number (omega (arith, p.count)) in
          ap (λ n. get_or order n 0) h.3 ∙ h.2;
    }

    pub ranks_numbers : IsOrdering (length order) ranks
    ranks_numbers = record {
      count = p.count;
      below = λ k d l. let h = place_of k (omega (arith, p.count)) in omega
          (arith, h.1, h.3, get_or_default ranks k d 0 l);
      every = λ place l.
          let number = get_or order place 0 in
          let inside : number < length ranks = omega (arith, o.below place 0 l, p.count) in
          (number, inside, get_or_default ranks number place 0 inside ∙ p.placed place l);
      once = λ i j d less inside e.
          let li : i < length ranks = omega arith in
          let first = place_of i (omega (arith, p.count)) in
          let second = place_of j (omega (arith, p.count)) in
          let same : first.0 ≡ second.0 = sym first.3 ∙ sym (get_or_default ranks i d 0 li) ∙ e
          ∙ get_or_default ranks j d 0 inside ∙ second.3 in
          let one : i ≡ j = sym first.2 ∙ ap (λ n. get_or order n 0) same ∙ second.2 in
          omega arith;
    }
