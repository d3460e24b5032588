-- Breadth-first searches, backward from the ends of a graph whose steps read columns. Vertices are numbers. What a
-- list of numbers left says is told by `at`, how many columns are left at a vertex, and by `unknown`, of how many
-- vertices nothing is known.
use Rattle.std.specs.Prelude.{◌≡◌, ◌<◌, ◌≤◌, ◌+◌, ◌⊎◌, ℕ, List, [], ◌∷◌, Contains, false, length}
use Rattle.std.specs.Ordering.{is_gt}
use Rattle.tier_core.specs.declared.sym.Sym.{Sym}
use Rattle.tier_core.specs.Orders.{column_cmp}

-- columns are read on the way from a vertex to an end
abbrev pub ReadsFrom : (ℕ → List Sym → ℕ → Type 0) → (ℕ → Type 0) → ℕ → List (List Sym) → Type 0
ReadsFrom step ends v [] = ends v
ReadsFrom step ends v (column ∷ word) = (w : ℕ) × (step v column w × ReadsFrom step ends w word)

-- the numbers are the least numbers of columns left, if there is a way to an end
pub record AreLengths (step : ℕ → List Sym → ℕ → Type 0) (ends : ℕ → Type 0) (left : ℕ → ℕ → Type 0) : Type 0 where
  pub some : (v n : ℕ) → left v n → (word : List (List Sym)) × (ReadsFrom step ends v word × (length word ≡ n))
  pub least : (v : ℕ) (word : List (List Sym)) → ReadsFrom step ends v word
      → (n : ℕ) × (left v n × (n ≤ length word))

-- one of the elements is led to from v
abbrev pub LeadsToOne : {A : Type 0} → (A → ℕ → Type 0) → List A → ℕ → Type 0
LeadsToOne {A} leads elements v = (x : A) × Contains elements x × leads x v

-- a step leads from v to one of the vertices of a level
abbrev pub IsPredecessor : (ℕ → List Sym → ℕ → Type 0) → List ℕ → ℕ → Type 0
IsPredecessor step = LeadsToOne (λ w v. (column : List Sym) × step v column w)

-- the chosen vertices of which nothing was known now have n columns left and are listed, and all else
-- stays the same
pub record ReachesIn {X : Type 0} (at : List X → ℕ → ℕ → Type 0) (unknown : List X → ℕ) (chosen : ℕ → Type 0) (n : ℕ)
    (old new : List X) (before after : List ℕ) : Type 0 where
  pub same : length new ≡ length old
  pub kept : (v m : ℕ) → at old v m → at new v m
  pub found : (v m : ℕ) → at new v m → at old v m ⊎ ((m ≡ n) × chosen v × Contains after v)
  pub reached : (v : ℕ) → chosen v → (m : ℕ) × at new v m
  pub stays : (v : ℕ) → Contains before v → Contains after v
  pub listed : (v : ℕ) → Contains after v → Contains before v ⊎ at new v n
  pub number : unknown new + length after ≡ unknown old + length before

-- the search has found the vertices with at most k columns left, and `level` has those with k
pub record IsSearchedIn {X : Type 0} (at : List X → ℕ → ℕ → Type 0) (unknown : List X → ℕ)
    (step : ℕ → List Sym → ℕ → Type 0) (ends : ℕ → Type 0) (total : ℕ) (left : List X) (level : List ℕ)
    (k : ℕ) : Type 0 where
  pub each : length left ≡ total
  pub few : k + unknown left + length level ≤ total
  pub at_most : (v n : ℕ) → at left v n → n ≤ k
  pub some : (v n : ℕ) → at left v n → (word : List (List Sym)) × (ReadsFrom step ends v word × (length word ≡ n))
  pub ended : (v : ℕ) → ends v → at left v 0
  pub closed : (v w n : ℕ) (column : List Sym) → step v column w → at left w n → n < k
      → (m : ℕ) × (at left v m × (m ≤ n + 1))
  pub last : (v : ℕ) → at left v k → Contains level v
  pub level_is : (v : ℕ) → Contains level v → at left v k

-- of the steps from v to a vertex with n columns left, this one reads the least column
pub record IsLeastStep (step : ℕ → List Sym → ℕ → Type 0) (left : ℕ → ℕ → Type 0) (v n : ℕ) (column : List Sym)
    (w : ℕ) : Type 0 where
  pub steps : step v column w
  pub nearer : left w n
  pub least : (other : List Sym) (x : ℕ) → step v other x → left x n → is_gt (column_cmp column other) ≡ false

-- some step leads from v to a vertex with n columns left
abbrev pub HasStep : (ℕ → List Sym → ℕ → Type 0) → (ℕ → ℕ → Type 0) → ℕ → ℕ → Type 0
HasStep step left v n = (column : List Sym) × (w : ℕ) × (step v column w × left w n)
