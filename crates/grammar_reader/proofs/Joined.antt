-- Words with another between each two.
use Rattle.std.proofs.Common.{◌≡◌, ℕ, List, [], ◌∷◌, ◌++◌, ap, refl}
use Rattle.grammar_reader.specs.Canonical.{intersperse}

-- the words after the first, each behind the one that joins
abbrev pub joined_rest : List ℕ → List (List ℕ) → List (List ℕ)
joined_rest word [] = []
joined_rest word (e ∷ es) = word ∷ e ∷ joined_rest word es

pub intersperse-cons : (word e : List ℕ) (es : List (List ℕ)) → intersperse word (e ∷ es) ≡ e ∷ joined_rest word es
intersperse-cons word e [] = refl
intersperse-cons word e (f ∷ es) = ap (λ ws. e ∷ word ∷ ws) (intersperse-cons word f es)
