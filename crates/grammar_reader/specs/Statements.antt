-- What a line says, on its own.
use Rattle.std.specs.Prelude.{ℕ, take, drop, Bool, true, false, List, [], ◌∷◌, ◌++◌, Option, Some, None, ◌||◌, if◌then◌else◌, codes, option_map, option_and_then}
use Rattle.std.specs.List.{slice_split, position_or_len}
use Rattle.std.specs.Str.{bytes_eq}
use Rattle.grammar_reader.specs.Pieces.{Lexeme, opens, closes, equals, clash, implies, word}
use Rattle.tier_core.specs.declared.tier.TierKind.{TierKind}
use Rattle.tier_core.specs.declared.tier.TierKind.TheVariants.{Input, Overt, Hidden}
use Rattle.tier_core.specs.declared.event.Part.{Part}
use Rattle.tier_core.specs.declared.event.Part.TheVariants.{Start, End, Interior}
use Rattle.tier_core.specs.declared.constraint.Family.{Family}
use Rattle.tier_core.specs.declared.constraint.Family.TheVariants.{Implication, Clash}

-- an event, with the name of its tier
pub record NamedEvent : Type 0 where
  pub part : Part
  pub tier : List ℕ

pub data Statement : Type 0 where
  -- `tier NAME KIND`
  tier : List ℕ → TierKind → Statement
  -- `letter X = NAME NAME ..`
  letter : List ℕ → List (List ℕ) → Statement
  -- `constraint NAME EVENTS -> EVENTS` or `constraint NAME EVENTS # EVENTS`
  constraint : List ℕ → Family → List NamedEvent → List NamedEvent → Statement

-- what f gives for each element, if it gives something for every one
abbrev pub each_some : {X Y : Type 0} → (X → Option Y) → List X → Option (List Y)
each_some f [] = Some []
each_some f (x ∷ xs) = option_and_then (λ y. option_map (λ ys. y ∷ ys) (each_some f xs)) (f x)

abbrev pub word_of : Lexeme → Option (List ℕ)
word_of (word w) = Some w
word_of _ = None

-- whether a lexeme is this word
abbrev pub is_the_word : List ℕ → Lexeme → Bool
is_the_word text (word w) = bytes_eq w text
is_the_word text _ = false

abbrev pub is_implies : Lexeme → Bool
is_implies implies = true
is_implies _ = false

abbrev pub is_clash : Lexeme → Bool
is_clash clash = true
is_clash _ = false

abbrev pub is_connective : List ℕ → Bool
is_connective w = bytes_eq w (codes "and") || bytes_eq w (codes "or")

abbrev pub event_on : Part → List ℕ → Option NamedEvent
event_on part w = if is_connective w then None else Some (record { part = part; tier = w })

-- `[NAME`, `]NAME` or `NAME`
abbrev pub event_of : List Lexeme → Option NamedEvent
event_of (opens ∷ word w ∷ []) = event_on Start w
event_of (closes ∷ word w ∷ []) = event_on End w
event_of (word w ∷ []) = event_on Interior w
event_of _ = None

-- one or more events, with this connective between any two neighbours
abbrev pub events_of : List ℕ → List Lexeme → Option (List NamedEvent)
events_of connective lexemes = each_some event_of (slice_split (is_the_word connective) lexemes)

-- what joins the events on the right side
abbrev pub joined_by : Family → List ℕ
joined_by Implication = codes "or"
joined_by Clash = codes "and"

-- `->` or `#`
abbrev pub is_sign : Lexeme → Bool
is_sign l = is_implies l || is_clash l

-- the events before a sign, and those after it
abbrev pub sides : List ℕ → Family → List Lexeme → List Lexeme → Option Statement
sides name family left right = option_and_then
    (λ ls. option_map (λ rs. constraint name family ls rs) (events_of (joined_by family) right))
    (events_of (codes "and") left)

-- the lexemes before a sign, and the rest from the sign on
abbrev pub sides_of : List ℕ → List Lexeme → List Lexeme → Option Statement
sides_of name left (implies ∷ right) = sides name Implication left right
sides_of name left (clash ∷ right) = sides name Clash left right
sides_of name left _ = None

abbrev pub tier_kind_of : List ℕ → Option TierKind
tier_kind_of w =
    if bytes_eq w (codes "input") then Some Input else
    if bytes_eq w (codes "overt") then Some Overt else
    if bytes_eq w (codes "hidden") then Some Hidden else None

abbrev pub tier_line : List Lexeme → Option Statement
tier_line (word name ∷ word kind ∷ []) = option_map (tier name) (tier_kind_of kind)
tier_line _ = None

abbrev pub letter_line : List Lexeme → Option Statement
letter_line (word x ∷ equals ∷ name ∷ names) = option_map (letter x) (each_some word_of (name ∷ names))
letter_line _ = None

-- it is cut at its first sign
abbrev pub constraint_line : List Lexeme → Option Statement
constraint_line (word name ∷ lexemes) = let at = position_or_len is_sign lexemes in sides_of name (take at lexemes)
    (drop at lexemes)
constraint_line _ = None

-- None if the tokens have none of the forms
abbrev pub statement_of : List Lexeme → Option Statement
statement_of (word k ∷ lexemes) =
    if bytes_eq k (codes "tier") then tier_line lexemes else
    if bytes_eq k (codes "letter") then letter_line lexemes else
    if bytes_eq k (codes "constraint") then constraint_line lexemes else None
statement_of _ = None

abbrev pub is_header : List Lexeme → Bool
is_header (word a ∷ word b ∷ []) = if bytes_eq a (codes "otp") then bytes_eq b (codes "1") else false
is_header _ = false
