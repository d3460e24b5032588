-- No line that is written has an end of a line in it.
use Rattle.std.proofs.Common.{◌≡◌, ℕ, ◌^◌, ◌<◌, ◌==◌, ◌||◌, Bool, true, false, cond, List, [], ◌∷◌, ◌++◌, length}
use Rattle.std.proofs.{Common.{map, filter, codes, refl, ap, ◌∙◌}, lemmas.List.Folds.list_any-append}
use Rattle.std.specs.{Fmt.decimal, List.list_any}
use Rattle.tier_core.specs.{declared.sym.Sym.Sym, declared.sym.Sym.TheVariants.{Outside, Inside, Start, End, Both}}
use Rattle.tier_core.specs.{Kinds.{Phase, closed, unmet, met, PrefixKind}, Sets.is_in, Symbols.{byte_of, symbols}}
use Rattle.timeline_text.specs.{Texts.text_of, Bytes.is_newline}
use Rattle.answer_text.specs.Text.{after_space, spaced_numbers, set_text, class_text, open_byte, phase_byte}
use Rattle.answer_text.specs.Text.{kind_text, final_mark, counts_line}
use Rattle.answer_reader.proofs.{Decimals.decimal_without, WrittenLines.{AreCounts, large}}

-- no end of a line
abbrev pub IsFree : List ℕ → Type 0
IsFree bytes = list_any is_newline bytes ≡ false

pub both_free : (a b : List ℕ) → IsFree a → IsFree b → IsFree (a ++ b)
both_free a b f g = list_any-append _ a b ∙ ap (λ t. t || list_any is_newline b) f ∙ g

pub decimal_free : (n : ℕ) → n < 2 ^ 64 → IsFree (decimal n)
decimal_free n l = decimal_without 10 n refl l

column_free : (column : List Sym) → IsFree (map byte_of column)
column_free [] = refl
column_free (Outside ∷ column) = column_free column
column_free (Inside ∷ column) = column_free column
column_free (Start ∷ column) = column_free column
column_free (End ∷ column) = column_free column
column_free (Both ∷ column) = column_free column

pub timeline_free : (T : List (List Sym)) → IsFree (text_of T)
timeline_free [] = refl
timeline_free (column ∷ []) = column_free column
timeline_free (column ∷ next ∷ T) = both_free (map byte_of column) (32 ∷ text_of (next ∷ T)) (column_free column)
    (timeline_free (next ∷ T))

spaced_free : (ns : List ℕ) → AreCounts ns → IsFree (spaced_numbers ns)
spaced_free [] are = refl
spaced_free (n ∷ ns) are = both_free (decimal n) (spaced_numbers ns) (decimal_free n (large n are.0))
    (spaced_free ns are.1)

pub counts_free : (ns : List ℕ) → AreCounts ns → IsFree (counts_line ns)
counts_free ns are = spaced_free ns are

opens_free : (opened : List Bool) → IsFree (map open_byte opened)
opens_free [] = refl
opens_free (true ∷ opened) = opens_free opened
opens_free (false ∷ opened) = opens_free opened

phases_free : (phases : List Phase) → IsFree (map phase_byte phases)
phases_free [] = refl
phases_free (closed ∷ phases) = phases_free phases
phases_free (unmet ∷ phases) = phases_free phases
phases_free (met ∷ phases) = phases_free phases

kind_free : (k : PrefixKind) → k.place < 2 ^ 64 → IsFree (kind_text k)
kind_free k l = both_free (decimal k.place ++ codes "/" ++ map open_byte k.opened ++ codes "/")
    (map phase_byte k.phases) (both_free (decimal k.place ++ codes "/" ++ map open_byte k.opened) (codes "/")
    (both_free (decimal k.place ++ codes "/") (map open_byte k.opened) (both_free (decimal k.place) (codes "/")
    (decimal_free _ l) refl) (opens_free k.opened)) refl) (phases_free k.phases)

pub node_free : (k : PrefixKind) (potential : ℕ) → k.place < 2 ^ 64 → potential < 2 ^ 64
    → IsFree (codes "node " ++ (kind_text k ++ after_space potential))
node_free k potential l m = both_free (kind_text k) (after_space potential) (kind_free k l) (decimal_free potential m)

set_free : (set : ℕ) (t : Bool) (bytes : List ℕ) → IsFree bytes
    → IsFree (cond t bytes (codes "{" ++ bytes ++ codes "}"))
set_free set true bytes f = f
set_free set false bytes f = both_free bytes (codes "}") f refl

class_free : (sets : List ℕ) → IsFree (class_text sets)
class_free [] = refl
class_free (set ∷ sets) =
    both_free (set_text set) (class_text sets)
    (set_free set (length (map byte_of (filter (is_in set) symbols)) == 1) (map byte_of (filter (is_in set) symbols))
    (column_free (filter (is_in set) symbols))) (class_free sets)

pub arc_free : (target : ℕ) (sets : List ℕ) → target < 2 ^ 64
    → IsFree (codes "arc " ++ (decimal target ++ codes " " ++ class_text sets))
arc_free target sets l = both_free (decimal target ++ codes " ") (class_text sets)
    (both_free (decimal target) (codes " ") (decimal_free _ l) refl) (class_free sets)

pub state_free : (node : ℕ) (accepting : Bool) → node < 2 ^ 64
    → IsFree (codes "state " ++ (decimal node ++ final_mark accepting))
state_free node true l = both_free (decimal node) (final_mark true) (decimal_free _ l) refl
state_free node false l = both_free (decimal node) (final_mark false) (decimal_free _ l) refl

pub stage_free : (r count : ℕ) → r < 2 ^ 64 → count < 2 ^ 64
    → IsFree (codes "stage " ++ (decimal r ++ 32 ∷ decimal count))
stage_free r count l m = both_free (decimal r) (32 ∷ decimal count) (decimal_free r l) (decimal_free _ m)
