-- Why a text is not a timeline.
use Rattle.std.specs.Prelude.{◌≡◌, ◌≢◌, ℕ, ◌<◌, ◌==◌, ◌||◌, Bool, not, List, length, map, Option, Some, is_some, unwrap_or, codes, position}
use Rattle.std.specs.List.{slice_split}
use Rattle.tier_core.specs.declared.sym.Sym.{Sym}
use Rattle.tier_core.specs.declared.sym.Sym.TheVariants.{Outside}
use Rattle.tier_core.specs.Symbols.{sym_of}
use Rattle.tier_core.specs.Words.{IsWellFormedWord}
use Rattle.tier_core.specs.Timelines.{tier_word, has_edge}
use Rattle.timeline_text.specs.declared.form_err.FormErr.{FormErr}
use Rattle.timeline_text.specs.declared.form_err.FormErr.TheVariants.{BadSymbol, WrongWidth, TooLong, NotWellFormed, NotReduced, UnknownLetter, NoMemory}
use Rattle.timeline_text.specs.Bytes.{is_space}

-- whether a byte is a symbol or a space
abbrev pub is_known : ℕ → Bool
is_known b = is_some (sym_of b) || is_space b

-- the pieces between spaces
abbrev pub spaced_pieces : List ℕ → List (List ℕ)
spaced_pieces bytes = slice_split is_space bytes

abbrev pub symbol_of_byte : ℕ → Sym
symbol_of_byte b = unwrap_or (sym_of b) Outside

-- a column for each piece, a symbol for each byte
abbrev pub columns_of : List ℕ → List (List Sym)
columns_of bytes = map (map symbol_of_byte) (spaced_pieces bytes)

abbrev pub bad_symbol : List ℕ → Option ℕ
bad_symbol bytes = position (λ b. not (is_known b)) bytes

abbrev pub wrong_width : ℕ → List ℕ → Option ℕ
wrong_width width bytes = position (λ piece. not (length piece == width)) (spaced_pieces bytes)

abbrev pub no_edge : List (List Sym) → Option ℕ
no_edge T = position (λ column. not (has_edge column)) T

-- the tiers before this one are well formed, and it is not
pub record IsFirstIllFormed (width : ℕ) (T : List (List Sym)) (tier : ℕ) : Type 0 where
  pub there : tier < width
  pub broken : ¬ IsWellFormedWord (tier_word T tier)
  pub before : (t : ℕ) → t < tier → IsWellFormedWord (tier_word T t)

-- when each cause applies, whether or not another applies too
abbrev pub Comes : ℕ → ℕ → List ℕ → FormErr → Type 0
Comes width limit bytes (BadSymbol at) = bad_symbol bytes ≡ Some at
Comes width limit bytes (WrongWidth column) = wrong_width width bytes ≡ Some column
Comes width limit bytes TooLong = limit < length (spaced_pieces bytes)
Comes width limit bytes (NotWellFormed tier) = IsFirstIllFormed width (columns_of bytes) tier
Comes width limit bytes (NotReduced column) = no_edge (columns_of bytes) ≡ Some column
Comes width limit bytes (UnknownLetter at) = ⊥
Comes width limit bytes NoMemory = ⊥

-- the causes are tried in this order
abbrev pub order : FormErr → ℕ
order (BadSymbol at) = 0
order (WrongWidth column) = 1
order TooLong = 2
order (NotWellFormed tier) = 3
order (NotReduced column) = 4
order (UnknownLetter at) = 5
order NoMemory = 6

-- The cause of a text is the first that applies. The word `empty` has none.
pub record IsCause (width limit : ℕ) (bytes : List ℕ) (cause : FormErr) : Type 0 where
  pub other_word : bytes ≢ codes "empty"
  pub comes : Comes width limit bytes cause
  pub first : (other : FormErr) → order other < order cause → ¬ Comes width limit bytes other
