-- Forms that are spelled by letters.
use Rattle.std.specs.Prelude.{◌≡◌, ℕ, ◌+◌, ◌^◌, ◌<◌, ◌≤◌, ◌==◌, not, List, [], ◌∷◌, length, map, drop, Option, Some, None, option_map, is_some, unwrap_or, position, find, suc}
use Rattle.tier_core.specs.declared.sym.Sym.{Sym}
use Rattle.tier_core.specs.Tiers.{has_tier, numbers_from}
use Rattle.tier_core.specs.Words.{constituents}
use Rattle.tier_core.specs.Timelines.{tier_word, IsWellFormed}
use Rattle.timeline_text.specs.declared.letter.Letter.{Letter}
use Rattle.timeline_text.specs.declared.form_err.FormErr.{FormErr}
use Rattle.timeline_text.specs.declared.form_err.FormErr.TheVariants.{BadSymbol, WrongWidth, TooLong, NotWellFormed, NotReduced, UnknownLetter, NoMemory}

-- a letter has some tier, and only tiers below the number of input tiers
pub record HasSound (inputs : ℕ) (letter : Letter) : Type 0 where
  pub some : 0 < letter.tiers
  pub within : letter.tiers < 2 ^ inputs

-- the letter that is written as a byte
abbrev pub letter_of : List Letter → ℕ → Option Letter
letter_of letters b = find (λ letter. letter.byte == b) letters

-- the first byte that is not a letter
abbrev pub unknown_letter : List Letter → List ℕ → Option ℕ
unknown_letter letters bytes = position (λ b. not (is_some (letter_of letters b))) bytes

-- the tiers of the sound of a byte
abbrev pub sound_of : List Letter → ℕ → ℕ
sound_of letters b = unwrap_or (option_map (λ letter. letter.tiers) (letter_of letters b)) 0

-- the sounds of a word, after its `=`
abbrev pub sounds_of : List Letter → List ℕ → List ℕ
sounds_of letters bytes = map (sound_of letters) (drop 1 bytes)

-- letter k makes a constituent (k, k + 1) on each tier of its sound
abbrev pub spelled_on : ℕ → List ℕ → List (ℕ × ℕ)
spelled_on tier sounds = map (λ k. (k, suc k)) (numbers_from (λ sound. has_tier sound tier) 0 sounds)

-- n letters give n + 1 columns, and no letters give none
abbrev pub columns_for : List ℕ → ℕ
columns_for [] = 0
columns_for (sound ∷ sounds) = 2 + length sounds

-- A word of letters spells the form that has exactly their constituents.
pub record IsSpelledBy (letters : List Letter) (inputs : ℕ) (bytes : List ℕ) (T : List (List Sym)) : Type 0 where
  pub known : unknown_letter letters (drop 1 bytes) ≡ None
  pub few : length (sounds_of letters bytes) ≤ 63
  pub size : length T ≡ columns_for (sounds_of letters bytes)
  pub form : IsWellFormed inputs T
  pub drawn : (t : ℕ) → t < inputs → constituents (tier_word T t) ≡ spelled_on t (sounds_of letters bytes)

-- why a word does not spell a form
abbrev pub IsSpellingCause : List Letter → List ℕ → FormErr → Type 0
IsSpellingCause letters bytes (UnknownLetter at) = option_map (λ k. k + 1) (unknown_letter letters (drop 1 bytes))
    ≡ Some at
IsSpellingCause letters bytes TooLong = (unknown_letter letters (drop 1 bytes) ≡ None) × (63 < length (drop 1 bytes))
IsSpellingCause letters bytes (BadSymbol at) = ⊥
IsSpellingCause letters bytes (WrongWidth column) = ⊥
IsSpellingCause letters bytes (NotWellFormed tier) = ⊥
IsSpellingCause letters bytes (NotReduced column) = ⊥
IsSpellingCause letters bytes NoMemory = ⊥
