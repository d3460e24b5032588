-- Lines that say a timeline.
use Rattle.std.specs.Prelude.{ℕ, zero, suc, not, true, ◌&&◌, Bool, false, if◌then◌else◌, nat_lt, List, [], ◌∷◌, length, codes, Option, Some, None, option_and_then, Result}
use Rattle.std.specs.Option.{ok_or}
use Rattle.std.specs.Str.{bytes_eq}
use Rattle.tier_core.specs.declared.sym.Sym.{Sym}
use Rattle.tier_core.specs.Scan.{fits, opens}
use Rattle.tier_core.specs.Timelines.{tier_word}
use Rattle.timeline_text.specs.declared.form_err.FormErr.{FormErr}
use Rattle.timeline_text.specs.declared.form_err.FormErr.TheVariants.{BadSymbol, WrongWidth, TooLong, NotWellFormed, NotReduced, UnknownLetter, NoMemory}
use Rattle.timeline_text.specs.Causes.{bad_symbol, wrong_width, no_edge, spaced_pieces, columns_of}
use Rattle.answer_reader.specs.declared.answer_err.AnswerCause.{AnswerCause}
use Rattle.answer_reader.specs.declared.answer_err.AnswerCause.TheVariants.{BadLine}
use Rattle.answer_reader.specs.Cuts.{behind}

-- a tier's symbols draw constituents, from where the tier is open or not
abbrev pub is_drawn : Bool → List Sym → Bool
is_drawn is_open [] = not is_open
is_drawn is_open (s ∷ w) = fits is_open s && is_drawn (opens s) w

-- each tier below this number is well formed
abbrev pub are_drawn : ℕ → List (List Sym) → Bool
are_drawn zero T = true
are_drawn (suc tier) T = is_drawn false (tier_word T tier) && are_drawn tier T

-- nothing of the kind that was looked for was found
abbrev pub unless : {X : Type 0} → Option ℕ → Option X → Option X
unless None read = read
unless (Some place) read = None

-- the timeline of a text that has no cause
abbrev pub timeline_of : ℕ → ℕ → List ℕ → Option (List (List Sym))
timeline_of width limit bytes = if bytes_eq bytes (codes "empty") then Some [] else
    unless (bad_symbol bytes) (unless (wrong_width width bytes)
    (if nat_lt limit (length (spaced_pieces bytes)) then None else
    if are_drawn width (columns_of bytes) then unless (no_edge (columns_of bytes)) (Some (columns_of bytes)) else None))

-- whether memory ran out
abbrev pub is_no_memory : FormErr → Bool
is_no_memory (BadSymbol at) = false
is_no_memory (WrongWidth column) = false
is_no_memory TooLong = false
is_no_memory (NotWellFormed tier) = false
is_no_memory (NotReduced column) = false
is_no_memory (UnknownLetter at) = false
is_no_memory NoMemory = true

-- `form TIMELINE` or `example TIMELINE`: the timeline is all that follows the word and its space
abbrev pub timeline_said : List ℕ → ℕ → ℕ → List ℕ → Result (List (List Sym)) AnswerCause
timeline_said word width limit line = ok_or (option_and_then (timeline_of width limit) (behind word line)) BadLine
