-- The value of a grammar text, or its first cause.
use Rattle.std.specs.Prelude.{ℕ, ◌+◌, ◌*◌, Bool, true, false, List, [], ◌∷◌, ◌++◌, length, map, not, nat_le, nat_lt, ◌&&◌, ◌||◌, Option, Some, None, unwrap_or, Result, Ok, Err, if◌then◌else◌, position, find}
use Rattle.std.specs.List.{list_any}
use Rattle.std.specs.Option.{option_map_or}
use Rattle.std.specs.Str.{bytes_eq}
use Rattle.tier_core.specs.declared.event.Event.{Event}
use Rattle.tier_core.specs.Tiers.{is_input, is_overt, is_free}
use Rattle.timeline_text.specs.Bytes.{lines_of}
use Rattle.grammar_reader.specs.Pieces.{parts_of, Lexeme, lexeme_of}
use Rattle.grammar_reader.specs.Statements.{Statement, tier, letter, constraint, statement_of, NamedEvent, each_some, is_header}
use Rattle.grammar_reader.specs.Names.{is_name, is_letter_byte, has_twice}
use Rattle.grammar_reader.specs.Values.{GrammarValue, NamedTier, is_named, inputs_of, free_of, letter_name}
use Rattle.grammar_reader.specs.declared.grammar_err.GrammarCause.{GrammarCause}
use Rattle.grammar_reader.specs.declared.grammar_err.GrammarCause.TheVariants.{BadByte, BadHeader, BadLine, BadName, TwiceNamed, UnknownTier, NotInput, TooManyTiers, TooManyConstraints, TooManyEvents, NoInput, NoOvert}

-- what has been made before the first line
abbrev pub nothing : GrammarValue
nothing = record { tiers = []; letters = []; constraints = [] }

-- The causes of a statement, if the lines before it have made g.

-- a word in the place of a name is not a name
abbrev pub has_bad_name : Statement → Bool
has_bad_name (tier name kind) = not (is_name name)
has_bad_name (letter x names) = not (is_letter_byte x) || list_any (λ n. not (is_name n)) names
has_bad_name (constraint name family left right) = not (is_name name)

-- the name is already defined, or a letter has a tier twice
abbrev pub is_twice_named : GrammarValue → Statement → Bool
is_twice_named g (tier name kind) = list_any (is_named name) g.tiers
is_twice_named g (letter x names) = list_any (λ l. bytes_eq x (letter_name l)) g.letters || has_twice names
is_twice_named g (constraint name family left right) = list_any (λ c. bytes_eq name c.name) g.constraints

abbrev pub is_unknown : List NamedTier → List ℕ → Bool
is_unknown tiers name = not (list_any (is_named name) tiers)

-- a tier is named that no earlier line has defined
abbrev pub has_unknown_tier : GrammarValue → Statement → Bool
has_unknown_tier g (tier name kind) = false
has_unknown_tier g (letter x names) = list_any (is_unknown g.tiers) names
has_unknown_tier g (constraint name family left right) = list_any (λ e. is_unknown g.tiers e.tier) left || list_any
    (λ e. is_unknown g.tiers e.tier) right

abbrev pub is_input_named : List NamedTier → List ℕ → Bool
is_input_named tiers name = option_map_or (λ t. is_input t.kind) (find (is_named name) tiers) false

abbrev pub has_no_input : GrammarValue → Statement → Bool
has_no_input g (letter x names) = list_any (λ n. not (is_input_named g.tiers n)) names
has_no_input g _ = false

-- the 13th tier, the 7th input tier or the 9th free tier
abbrev pub is_tier_too_many : GrammarValue → Statement → Bool
is_tier_too_many g (tier name kind) = nat_le 12 (length g.tiers)
    || (is_input kind && nat_le 6 (length (inputs_of g.tiers)))
    || (is_free kind && nat_le 8 (length (free_of g.tiers)))
is_tier_too_many g _ = false

abbrev pub is_constraint_too_many : GrammarValue → Statement → Bool
is_constraint_too_many g (constraint name family left right) = nat_le 24 (length g.constraints)
is_constraint_too_many g _ = false

abbrev pub has_too_many_events : Statement → Bool
has_too_many_events (constraint name family left right) = nat_lt 8 (length left) || nat_lt 8 (length right)
has_too_many_events _ = false

-- the first that applies, in this order
abbrev pub first_that_comes : {X : Type 0} → List (Bool × X) → Option X
first_that_comes [] = None
first_that_comes (row ∷ rows) = if row.0 then Some row.1 else first_that_comes rows

abbrev pub cause_of : GrammarValue → Statement → Option GrammarCause
cause_of g s = first_that_comes
    ((has_bad_name s, BadName)
    ∷ (is_twice_named g s, TwiceNamed)
    ∷ (has_unknown_tier g s, UnknownTier)
    ∷ (has_no_input g s, NotInput)
    ∷ (is_tier_too_many g s, TooManyTiers)
    ∷ (is_constraint_too_many g s, TooManyConstraints)
    ∷ (has_too_many_events s, TooManyEvents)
    ∷ [])

-- the number of a tier
abbrev pub tier_index : List NamedTier → List ℕ → ℕ
tier_index tiers name = unwrap_or (position (is_named name) tiers) 0

abbrev pub indexed_event : List NamedTier → NamedEvent → Event
indexed_event tiers e = record { tier = tier_index tiers e.tier; part = e.part }

-- a bit for each input tier, set if the tier is named
abbrev pub named_mask : List NamedTier → List (List ℕ) → ℕ
named_mask [] names = 0
named_mask (t ∷ ts) names = (if list_any (λ n. is_named n t) names then 1 else 0) + 2 * named_mask ts names

abbrev pub first_byte : List ℕ → ℕ
first_byte [] = 0
first_byte (b ∷ bs) = b

abbrev pub with_statement : GrammarValue → Statement → GrammarValue
with_statement g (tier name kind) = record g { tiers = g.tiers ++ record { name = name; kind = kind } ∷ [] }
with_statement g (letter x names) = record g
    { letters = g.letters ++ record { byte = first_byte x; tiers = named_mask (inputs_of g.tiers) names } ∷ [] }
with_statement g (constraint name family left right) = record g {
  constraints = g.constraints ++
      record {
        name = name;
        family = family;
        left = map (indexed_event g.tiers) left;
        right = map (indexed_event g.tiers) right;
      } ∷ [];
}

abbrev pub after_cause : GrammarValue → Statement → Option GrammarCause → Result GrammarValue GrammarCause
after_cause g s None = Ok (with_statement g s)
after_cause g s (Some cause) = Err cause

abbrev pub after_statement : GrammarValue → Option Statement → Result GrammarValue GrammarCause
after_statement g None = Err BadLine
after_statement g (Some s) = after_cause g s (cause_of g s)

abbrev pub some_grammar : Result GrammarValue GrammarCause → Result (Option GrammarValue) GrammarCause
some_grammar (Ok g) = Ok (Some g)
some_grammar (Err cause) = Err cause

-- None: no header has come yet
abbrev pub after_lexemes : Option GrammarValue → Option (List Lexeme) → Result (Option GrammarValue) GrammarCause
after_lexemes before None = Err BadByte
after_lexemes before (Some []) = Ok before
after_lexemes None (Some (l ∷ ls)) = if is_header (l ∷ ls) then Ok (Some nothing) else Err BadHeader
after_lexemes (Some g) (Some (l ∷ ls)) = some_grammar (after_statement g (statement_of (l ∷ ls)))

abbrev pub after_line : Option GrammarValue → List ℕ → Result (Option GrammarValue) GrammarCause
after_line before line = after_lexemes before (each_some lexeme_of (parts_of line))

-- a line and its cause
pub record At : Type 0 where
  pub line : ℕ
  pub cause : GrammarCause

-- after the last line
abbrev pub finish : Option GrammarValue → Result GrammarValue At
finish None = Err (record { line = 1; cause = BadHeader })
finish (Some g) =
    if not (list_any (λ t. is_input t.kind) g.tiers) then Err (record { line = 0; cause = NoInput }) else
    if not (list_any (λ t. is_overt t.kind) g.tiers) then Err (record { line = 0; cause = NoOvert }) else Ok g

-- a line's cause ends the reading; otherwise it goes on with the rest of the lines
abbrev pub go_on : Result (Option GrammarValue) GrammarCause → ℕ → (Option GrammarValue → Result GrammarValue At)
    → Result GrammarValue At
go_on (Ok after) n rest = rest after
go_on (Err cause) n rest = Err (record { line = n; cause = cause })

-- the lines from number n on
abbrev pub after_lines : Option GrammarValue → ℕ → List (List ℕ) → Result GrammarValue At
after_lines before n [] = finish before
after_lines before n (line ∷ lines) = go_on (after_line before line) n (λ after. after_lines after (n + 1) lines)

abbrev pub grammar_of : List ℕ → Result GrammarValue At
grammar_of bytes = after_lines None 1 (lines_of bytes)
