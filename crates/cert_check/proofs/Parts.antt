-- Faults by the parts in which they are, and what is before a place.
use Rattle.std.proofs.Common.{◌≡◌, ℕ, ◌<◌, List, [], ◌∷◌, refl, subst, inl, inr}
use Rattle.violation.specs.Problems.{Problem}
use Rattle.answer_text.specs.declared.answer.Answer.{Answer}
use Rattle.cert_check.specs.{declared.fault.Fault.Fault, declared.fault.Fault.TheVariants.{FormWrong, StageMissing}}
use Rattle.cert_check.specs.declared.fault.Fault.TheVariants.{ExampleWrong, CountsDiffer, NodeWrong, StartMissing}
use Rattle.cert_check.specs.declared.fault.Fault.TheVariants.{FinalPotential, NotClosed, Potential, StartPotential}
use Rattle.cert_check.specs.declared.fault.Fault.TheVariants.{StateMissing, FinalsDiffer, ArcsTwice, ArcsDiffer}
use Rattle.cert_check.specs.{Places.{IsBefore}, FirstFaults.{IsFault, IsFirstFault}}
use Rattle.cert_check.specs.Parts.{InStage, InAnswer, IsNoneBefore, IsFirstInStage}

-- nothing is wrong before a place where the parts before it are right, and nothing is wrong before
-- the rest of the place in its own part
pub none_before : (wrong : ℕ → List ℕ → Type 0) (n : ℕ) (ns : List ℕ)
    → ((m : ℕ) → m < n → (rest : List ℕ) → wrong m rest → ⊥)
    → ((rest : List ℕ) → wrong n rest → IsBefore rest ns → ⊥) → IsNoneBefore wrong (n ∷ ns)
none_before wrong n ns lower here part rest w (inl less) = lower part less rest w
none_before wrong n ns lower here part rest w (inr same) = here rest (rw same.0 at w) same.1

-- nothing is before the first place of a part
pub none_first : (rest : List ℕ) → IsBefore rest [] → ⊥
none_first rest b = b

module _ (problem : Problem) (answer : Answer) where
  -- the part in which a fault is
  pub parted : (fault : Fault) (place : List ℕ) → IsFault problem answer fault place
      → (part : ℕ) × ((rest : List ℕ) × (InAnswer problem answer part rest × (place ≡ part ∷ rest)))
  parted FormWrong place h = (0, ([], ((h.0, refl), h.1)))
  parted (StageMissing listed wanted) place h = (1, ([], ((listed, (wanted, (h.0, refl))), h.1)))
  parted ExampleWrong place h = (2, ([], ((h.0, refl), h.1)))
  parted (CountsDiffer constraint listed counted) place h =
      (3, (constraint ∷ [], ((constraint, (listed, (counted, (h.0, refl)))), h.1)))
  parted (NodeWrong stage node) place h =
      (4, (stage ∷ 0 ∷ node ∷ [], ((stage, (0, (node ∷ [], ((node, (h.0, refl)), refl)))), h.1)))
  parted (StartMissing stage) place h = (4, (stage ∷ 1 ∷ [], ((stage, (1, ([], ((h.0, refl), refl)))), h.1)))
  parted (FinalPotential stage node listed) place h = (
    4,
    (
      stage ∷ 2 ∷ node ∷ 0 ∷ [],
      (
        (
          stage,
          (2, (node ∷ 0 ∷ [], ((node, (0, ([], ((listed, (h.0, refl)), refl)))), refl))),
        ),
        h.1,
      ),
    ),
  )
  parted (NotClosed stage node missing) place h =
      (4, (_, ((stage, (2, (_, ((node, (1, (_, ((h.0, (inl (missing, h.1.0), refl)), refl)))), refl)))), h.1.1)))
  parted (Potential stage node listed allowed) place h = (
    4,
    (
      _,
      (
        (stage, (2, (_, ((node, (1, (_, ((h.0, (inr (listed, (allowed, h.1.0)), refl)), refl)))), refl)))),
        h.1.1,
      ),
    ),
  )
  parted (StartPotential stage listed count) place h =
      (4, (stage ∷ 3 ∷ [], ((stage, (3, ([], ((listed, (count, (h.0, refl))), refl)))), h.1)))
  parted (StateMissing state target) place (inl h) = (5, ([], ((h.2, refl), h.3)))
  parted (StateMissing state target) place (inr h) =
      (6, (state ∷ 0 ∷ h.0 ∷ [], ((state, (0, (h.0 ∷ [], ((h.0, (target, (h.1.0, refl))), refl)))), h.1.1)))
  parted (FinalsDiffer state listed) place h =
      (6, (state ∷ 1 ∷ [], ((state, (1, ([], ((listed, (h.0, refl)), refl)))), h.1)))
  parted (ArcsTwice state column) place h = (6, (_, ((state, (2, (_, ((column, (h.0, refl)), refl)))), h.1)))
  parted (ArcsDiffer state column listed kept) place h =
      (6, (_, ((state, (3, (_, ((column, (listed, (kept, (h.0, refl)))), refl)))), h.1)))

  -- a fault comes first where nothing is wrong before it
  pub first_fault : (fault : Fault) (place : List ℕ) → IsFault problem answer fault place
      → IsNoneBefore (InAnswer problem answer) place → IsFirstFault problem answer fault
  first_fault fault place h none = record {
    place = place;
    is = h;
    first = λ other before i b. let p = parted _ _ i in none p.0 p.1.0 p.1.1.0 (rw p.1.1.1 at b);
  }

  -- the first fault of a stage comes first where the parts before the stages and the stages before it are right
  pub first_by_stage : (stage : ℕ) (fault : Fault)
      → ((m : ℕ) → m < 4 → (rest : List ℕ) → InAnswer problem answer m rest → ⊥)
      → ((r : ℕ) → r < stage → (part : ℕ) (rest : List ℕ) → InStage problem answer r part rest → ⊥)
      → IsFirstInStage problem answer stage fault → IsFirstFault problem answer fault
  first_by_stage stage fault lower before f =
      first_fault _ _ f.is (none_before _ 4 (stage ∷ f.place) lower
      (λ rest w b. own _ w (subst (λ q. IsBefore q (stage ∷ f.place)) w.1.1.1.1 b)))
    where
      own : (rest : List ℕ) → (w : (r : ℕ) ×
          ((part : ℕ) × ((place : List ℕ) × (InStage problem answer r part place × (rest ≡ r ∷ part ∷ place)))))
          → IsBefore (w.0 ∷ w.1.0 ∷ w.1.1.0) (stage ∷ f.place) → ⊥
      own rest w (inl less) = before w.0 less w.1.0 w.1.1.0 w.1.1.1.0
      own rest w (inr same) = f.first w.1.0 w.1.1.0 (rw same.0 at w.1.1.1.0) same.1
