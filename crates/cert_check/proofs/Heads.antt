-- The first faults of an answer as a whole.
use Rattle.std.proofs.Common.{◌≡◌, ℕ, zero, suc, ◌+◌, ◌-◌, ◌<◌, List, [], ◌∷◌, take, length, get_or, refl, sym, ap}
use Rattle.std.proofs.{Common.{◌∙◌, subst, arith, inl, inr}, lemmas.List.get_or-take}
use Rattle.violation.specs.{Candidates.{IsCandidate, counts_on}, Problems.Problem}
use Rattle.answer_text.specs.declared.answer.Answer.{Answer}
use Rattle.cert_check.specs.declared.fault.Fault.{Fault}
use Rattle.cert_check.specs.declared.fault.Fault.TheVariants.{ExampleWrong, CountsDiffer}
use Rattle.cert_check.specs.{Places.{IsBefore}, Faults.HasWrongCount, FirstFaults.IsFirstFault}
use Rattle.cert_check.specs.{Heads.{HasRightForm, HasRightNumbers, IsFirstCountFault}, Parts.InAnswer}
use Rattle.cert_check.proofs.Parts.{none_before, first_fault}

module _ (problem : Problem) (answer : Answer) where
  -- nothing is wrong in a part of the answer
  abbrev pub IsRightPart : ℕ → Type 0
  IsRightPart m = (rest : List ℕ) → InAnswer problem answer m rest → ⊥

  pub form_part : HasRightForm problem → IsRightPart 0
  form_part form rest h = h.0 form.form form.short

  pub numbers_part : HasRightNumbers problem answer → IsRightPart 1
  numbers_part numbers rest h = elim h.1.1.0.listed_is [
    | inl e ↦ h.1.1.0.differs (e ∙ numbers.stages ∙ sym h.1.1.0.wanted_is)
    | inr e ↦ h.1.1.0.differs (omega (arith, e.1, numbers.counts, h.1.1.0.wanted_is))
  ]

  pub example_part : IsCandidate problem answer.example → IsRightPart 2
  example_part example rest h = h.0 example

  pub counts_part : answer.counts.items ≡ counts_on problem answer.example → IsRightPart 3
  counts_part counts rest h =
      let w = h.1.1.1.0 in
      w.differs (w.listed_is ∙ ap (λ (v : List ℕ). get_or v (h.0 - 1) 0) counts ∙ sym w.counted_is)

  below_three : IsRightPart 0 → IsRightPart 1 → (m : ℕ) → m < 2 → IsRightPart m
  below_three a b zero l = a
  below_three a b (suc zero) l = b
  below_three a b (suc (suc m)) l = absurd (omega arith)

  below_four : IsRightPart 0 → IsRightPart 1 → IsRightPart 2 → (m : ℕ) → m < 3 → IsRightPart m
  below_four a b c zero l = a
  below_four a b c (suc zero) l = b
  below_four a b c (suc (suc zero)) l = c
  below_four a b c (suc (suc (suc m))) l = absurd (omega arith)

  pub head_parts : IsRightPart 0 → IsRightPart 1 → IsRightPart 2 → IsRightPart 3 → (m : ℕ) → m < 4 → IsRightPart m
  head_parts a b c d zero l = a
  head_parts a b c d (suc zero) l = b
  head_parts a b c d (suc (suc zero)) l = c
  head_parts a b c d (suc (suc (suc zero))) l = d
  head_parts a b c d (suc (suc (suc (suc m)))) l = absurd (omega arith)

  pub first_example : HasRightForm problem → HasRightNumbers problem answer → (IsCandidate problem answer.example → ⊥)
      → IsFirstFault problem answer ExampleWrong
  first_example form numbers wrong =
      first_fault _ _ _ _ (wrong, refl)
      (none_before _ 2 [] (below_three (form_part form) (numbers_part numbers)) (λ rest w b. b))

  first_counts_at : HasRightForm problem → HasRightNumbers problem answer → IsCandidate problem answer.example
      → (place : ℕ) → place < length answer.counts.items
      → (get_or answer.counts.items place 0 ≡ get_or (counts_on problem answer.example) place 0 → ⊥)
      → take place answer.counts.items ≡ take place (counts_on problem answer.example)
      → IsFirstFault problem answer (CountsDiffer (place + 1) (get_or answer.counts.items place 0)
      (get_or (counts_on problem answer.example) place 0))
  first_counts_at form numbers example place within differs first =
      let listed = answer.counts.items in
      let counted = counts_on problem answer.example in
      first_fault _ _ _ _ (
        record {
          some = omega arith;
          within = omega (arith, within, numbers.counts);
          listed_is = ap (λ n. get_or listed n 0) (omega arith);
          counted_is = ap (λ n. get_or counted n 0) (omega arith);
          differs = differs;
        },
        refl,
      )
      (none_before _ 3 ((place + 1) ∷ []) (below_four (form_part form) (numbers_part numbers) (example_part example))
      (λ rest w b. earlier _ _ _ w.1.1.1.0 (subst (λ q. IsBefore q ((place + 1) ∷ [])) w.1.1.1.1 b)))
    where
      earlier : (constraint n m : ℕ) → HasWrongCount problem answer constraint n m
          → IsBefore (constraint ∷ []) ((place + 1) ∷ []) → ⊥
      earlier constraint n m w (inl less) =
          w.differs (w.listed_is ∙ sym
          (get_or-take place answer.counts.items (constraint - 1) 0 (omega (arith, less, w.some))) ∙ ap
          (λ (v : List ℕ). get_or v (constraint - 1) 0) first ∙ get_or-take _ _ (constraint - 1) 0
          (omega (arith, less, w.some)) ∙ sym w.counted_is)
      earlier constraint n m w (inr same) = same.1

  pub first_counts : HasRightForm problem → HasRightNumbers problem answer → IsCandidate problem answer.example
      → (counted : List ℕ) → counted ≡ counts_on problem answer.example
      → (fault : Fault) → IsFirstCountFault answer.counts.items counted fault → IsFirstFault problem answer fault
  first_counts form numbers example counted is fault h =
      let f : IsFirstCountFault answer.counts.items (counts_on problem answer.example) fault = rw is at h in
      rw f.is (first_counts_at form numbers example _ f.within f.differs f.first)
