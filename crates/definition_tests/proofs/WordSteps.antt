-- What is left of a tier at a place: the next end, and the constituents that start from there on.
use Rattle.std.proofs.Common.{◌≡◌, ℕ, ◌+◌, ◌<◌, ◌≤◌, true, false, cond, Option, Some, None, List, [], ◌∷◌, ◌++◌}
use Rattle.std.proofs.Common.{length, get_or, drop, map, ap, sym, ◌∙◌, drop-cons, add-one, append_assoc, suc}
use Rattle.std.proofs.lemmas.List.{drop_all, map-append}
use Rattle.tier_core.specs.{declared.sym.Sym.Sym, declared.event.Part.Part, Events.event}
use Rattle.tier_core.specs.{Timelines.{symbol, tier_word}, Words.{starts, ends, next_end, pair_to, constituents_from}}
use Rattle.definition_tests.specs.{declared.span.Span.Span, Spans.interval}

-- the constituents of a tier that start at place k or later
abbrev pub left_from : List (List Sym) → ℕ → ℕ → List (ℕ × ℕ)
left_from T t k = constituents_from k (tier_word (drop k T) t)

-- the first place from k on at which a constituent of a tier ends
abbrev pub end_from : List (List Sym) → ℕ → ℕ → Option ℕ
end_from T t k = next_end k (tier_word (drop k T) t)

module _ (T : List (List Sym)) (t k : ℕ) (column : List Sym) (h : k < length T) (is : column ≡ get_or T k column) where
  next : drop k T ≡ column ∷ drop (k + 1) T
  next = drop-cons T k column h ∙ ap (λ c. c ∷ drop (suc k) T) (sym is) ∙ ap (λ n. column ∷ drop n T) (sym (add-one k))

  end_step : end_from T t k ≡ cond (ends (symbol column t)) (Some k) (end_from T t (k + 1))
  end_step =
      ap (λ rest. next_end k (tier_word rest t)) next
      ∙ ap (λ n. cond (ends (symbol column t)) (Some k) (next_end n (tier_word (drop (k + 1) T) t))) (sym (add-one k))

  pub end_here : ends (symbol column t) ≡ true → end_from T t k ≡ Some k
  end_here e = end_step ∙ ap (λ b. cond b (Some k) (end_from T t (k + 1))) e

  pub end_later : ends (symbol column t) ≡ false → end_from T t k ≡ end_from T t (k + 1)
  end_later e = end_step ∙ ap (λ b. cond b (Some k) (end_from T t (k + 1))) e

  left_step : left_from T t k ≡ cond (starts (symbol column t)) (pair_to k (end_from T t (k + 1))) []
      ++ left_from T t (k + 1)
  left_step =
      ap (λ rest. constituents_from k (tier_word rest t)) next
      ∙ ap (λ n. cond (starts (symbol column t)) (pair_to k (next_end n (tier_word (drop (k + 1) T) t))) []
      ++ constituents_from n (tier_word (drop (k + 1) T) t)) (sym (add-one k))

  pub left_without_end : starts (symbol column t) ≡ true → end_from T t (k + 1) ≡ None
      → left_from T t k ≡ left_from T t (k + 1)
  left_without_end e n =
      left_step ∙ ap (λ b. cond b (pair_to k (end_from T t (k + 1))) [] ++ left_from T t (k + 1)) e
      ∙ ap (λ j. pair_to k j ++ left_from T t (k + 1)) n

  pub left_with_pair : (j : ℕ) → starts (symbol column t) ≡ true → end_from T t (k + 1) ≡ Some j
      → left_from T t k ≡ (k, j) ∷ left_from T t (k + 1)
  left_with_pair j e n =
      left_step ∙ ap (λ b. cond b (pair_to k (end_from T t (k + 1))) [] ++ left_from T t (k + 1)) e
      ∙ ap (λ o. pair_to k o ++ left_from T t (k + 1)) n

pub end_none : (T : List (List Sym)) (t k : ℕ) → length T ≤ k → end_from T t k ≡ None
end_none T t k h = ap (λ rest. next_end k (tier_word rest t)) (drop_all k T h)

-- a span more, which is the event of the next constituent
pub one_more : (part : Part) (spans : List Span) (span : Span) (c : ℕ × ℕ) (rest : List (ℕ × ℕ))
    → interval span ≡ event part c
    → map interval (spans ++ (span ∷ [])) ++ map (event part) rest ≡ map interval spans ++ map (event part) (c ∷ rest)
one_more part spans span c rest e =
    ap (λ xs. xs ++ map (event part) rest) (map-append interval spans (span ∷ []))
    ∙ append_assoc (map interval spans) (interval span ∷ []) (map (event part) rest)
    ∙ ap (λ x. map interval spans ++ (x ∷ map (event part) rest)) e
