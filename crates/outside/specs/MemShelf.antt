-- A shelf in memory: what it holds, and which of its loads fail.
use Rattle.std.specs.Prelude.{ℕ, Bool, ◌||◌, nat_eq, is_none, is_some, List, Vec, Result, Ok, Err}
use Rattle.std.specs.List.{list_any}
use Rattle.std.specs.BTreeMap.{get_by_text}
use Rattle.outside.specs.Counts.{fault_count}
use Rattle.outside.specs.Faults.{next_fault_count}
use Rattle.outside.specs.Held.{files_of, file_text}
use Rattle.outside.specs.declared.mem_shelf.MemShelf.{MemShelf}
use Rattle.outside.specs.declared.shelf.LoadErr.{LoadErr}
use Rattle.outside.specs.declared.shelf.LoadErr.TheVariants.{Failed, TooLong, NoMemory}

-- the names and the bytes of its files
abbrev pub files_in : MemShelf → List (List ℕ × List ℕ)
files_in shelf = files_of shelf.files.items

-- the numbers of the loads that fail; the first load has number 1
abbrev pub failing_of : MemShelf → List ℕ
failing_of shelf = shelf.failing.items

-- how many loads there have been
abbrev pub loads_of : MemShelf → ℕ
loads_of shelf = shelf.loads

-- how many loads of a name have failed
abbrev pub faults_of : MemShelf → List ℕ → ℕ
faults_of shelf name = fault_count shelf.faults name

-- whether there is a count of the faults of a name, which its first load allocates
abbrev pub has_count : MemShelf → List ℕ → Bool
has_count shelf name = is_some (get_by_text shelf.faults name)

-- whether the latest load fails: its number is one of those, or the name is not held
abbrev pub fails : MemShelf → List ℕ → Bool
fails shelf name =
    list_any (λ number. nat_eq number (loads_of shelf)) (failing_of shelf) || is_none (file_text (files_in shelf) name)

-- the count of faults after a load with this answer
abbrev pub faults_after : {Z : Type 0} → Result (Vec ℕ Z) LoadErr → ℕ → ℕ
faults_after (Err Failed) n = next_fault_count n
faults_after (Err TooLong) n = n
faults_after (Err NoMemory) n = n
faults_after (Ok bytes) n = n
