-- What a load answers of a file that was opened, or not.
use Rattle.std.proofs.Common.{◌≡◌, ℕ, List, Option, Result, Ok, Err, IfOk, OnErr, Vec, subst, ap, ◌∙◌, ◌≤◌, arith}
use Rattle.std.specs.Prelude.{⊤}
use Rattle.outside.specs.{Faults.{Rose, next_fault_count}, MemShelf.faults_after, FileShelf.{HasRead, IsWholeLoad}}
use Rattle.outside.specs.{declared.shelf.LoadErr.LoadErr, declared.shelf.LoadErr.TheVariants.Failed}

-- a load that has read a file has opened it
pub opened_file : {F E Z : Type 0} (text : F → Option (List ℕ)) (limit : ℕ) (opened : Result F E)
    (r : Result (Vec ℕ Z) LoadErr) → IfOk opened (λ file. IsWholeLoad (text file) limit r)
    → OnErr opened (r ≡ Err Failed) → HasRead r → (file : F) × IsWholeLoad (text file) limit r
opened_file text limit (Ok file) r whole failed read = (file, whole)
opened_file text limit (Err e) r whole failed read = absurd (subst HasRead failed read)

-- nothing is known of a file that is not shown
pub not_shown : {A E : Type 0} (r : Result A E) → IfOk r (λ _. ⊤)
not_shown (Ok a) = tt
not_shown (Err e) = tt

-- a failed load is counted
pub rose_after : {Z : Type 0} (r : Result (Vec ℕ Z) LoadErr) (n m : ℕ) → m ≡ faults_after r n → r ≡ Err Failed
    → Rose n m
rose_after r n m after failed =
    let e : m ≡ next_fault_count n = after ∙ ap (λ r. faults_after r n) failed in
    subst (λ k. k ≤ m) e (omega arith)
