-- What is loaded from a file of the system.
use Rattle.std.specs.Prelude.{◌≡◌, ℕ, ◌<◌, List, length, Option, IfSome, Vec, Result, Ok, Err, ⊤}
use Rattle.outside.specs.declared.shelf.LoadErr.{LoadErr}
use Rattle.outside.specs.declared.shelf.LoadErr.TheVariants.{Failed, TooLong, NoMemory}

-- a load has read a file to its end, or past the limit
abbrev pub HasRead : {Z : Type 0} → Result (Vec ℕ Z) LoadErr → Type 0
HasRead (Ok bytes) = ⊤
HasRead (Err TooLong) = ⊤
HasRead (Err Failed) = ⊥
HasRead (Err NoMemory) = ⊥

-- a load gave all bytes of a file, if they are known, or there are more of them than the limit
abbrev pub IsWholeLoad : {Z : Type 0} → Option (List ℕ) → ℕ → Result (Vec ℕ Z) LoadErr → Type 0
IsWholeLoad text limit (Ok bytes) = IfSome text (λ text. bytes.items ≡ text)
IsWholeLoad text limit (Err TooLong) = IfSome text (λ text. limit < length text)
IsWholeLoad text limit (Err Failed) = ⊤
IsWholeLoad text limit (Err NoMemory) = ⊤
