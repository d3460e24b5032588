-- The canonical text of a grammar: a line for each tier, letter and constraint, each group in its order.
use Rattle.std.specs.Prelude.{ℕ, ◌+◌, ◌/◌, ◌%◌, ◌==◌, Bool, if◌then◌else◌, List, [], ◌∷◌, ◌++◌, map, codes, slice_index_or}
use Rattle.std.specs.List.{flat_map, join_with_byte}
use Rattle.tier_core.specs.declared.event.Event.{Event}
use Rattle.tier_core.specs.declared.event.Part.{Part}
use Rattle.tier_core.specs.declared.event.Part.TheVariants.{Start, End, Interior}
use Rattle.tier_core.specs.declared.tier.TierKind.{TierKind}
use Rattle.tier_core.specs.declared.tier.TierKind.TheVariants.{Input, Overt, Hidden}
use Rattle.tier_core.specs.declared.constraint.Family.{Family}
use Rattle.tier_core.specs.declared.constraint.Family.TheVariants.{Implication, Clash}
use Rattle.timeline_text.specs.declared.letter.Letter.{Letter}
use Rattle.grammar_reader.specs.Statements.{joined_by}
use Rattle.grammar_reader.specs.Values.{GrammarValue, NamedTier, NamedConstraint, inputs_of}

-- words with one space between them, and the end of the line
abbrev pub line_of_words : List (List ℕ) → List ℕ
line_of_words words = join_with_byte 32 words ++ 10 ∷ []

abbrev pub tier_kind_text : TierKind → List ℕ
tier_kind_text Input = codes "input"
tier_kind_text Overt = codes "overt"
tier_kind_text Hidden = codes "hidden"

abbrev pub tier_words : NamedTier → List (List ℕ)
tier_words t = codes "tier" ∷ t.name ∷ tier_kind_text t.kind ∷ []

abbrev pub is_odd : ℕ → Bool
is_odd n = n % 2 == 1

-- the names of the tiers in a mask, whose lowest bit is that of the first tier
abbrev pub names_in : List NamedTier → ℕ → List (List ℕ)
names_in [] mask = []
names_in (t ∷ ts) mask = (if is_odd mask then t.name ∷ [] else []) ++ names_in ts (mask / 2)

abbrev pub letter_words : List NamedTier → Letter → List (List ℕ)
letter_words tiers letter = codes "letter" ∷ (letter.byte ∷ []) ∷ codes "=" ∷ names_in (inputs_of tiers) letter.tiers

abbrev pub part_text : Part → List ℕ
part_text Start = codes "["
part_text End = codes "]"
part_text Interior = []

-- an event, if the tiers have these names
abbrev pub event_text : List (List ℕ) → Event → List ℕ
event_text names e = part_text e.part ++ slice_index_or names e.tier []

-- with a word between any two neighbours
abbrev pub intersperse : List ℕ → List (List ℕ) → List (List ℕ)
intersperse word [] = []
intersperse word (e ∷ []) = e ∷ []
intersperse word (e ∷ f ∷ es) = e ∷ word ∷ intersperse word (f ∷ es)

abbrev pub sign_text : Family → List ℕ
sign_text Implication = codes "->"
sign_text Clash = codes "#"

abbrev pub constraint_words : List (List ℕ) → NamedConstraint → List (List ℕ)
constraint_words names c = codes "constraint" ∷ c.name ∷ (intersperse (codes "and") (map (event_text names) c.left)
    ++ (sign_text c.family ∷ intersperse (joined_by c.family) (map (event_text names) c.right)))

abbrev pub header_words : List (List ℕ)
header_words = codes "otp" ∷ codes "1" ∷ []

-- the lines of tiers, of letters and of constraints
abbrev pub tier_lines : List NamedTier → List ℕ
tier_lines tiers = flat_map (λ t. line_of_words (tier_words t)) tiers

abbrev pub letter_lines : List NamedTier → List Letter → List ℕ
letter_lines tiers letters = flat_map (λ l. line_of_words (letter_words tiers l)) letters

abbrev pub constraint_lines : List (List ℕ) → List NamedConstraint → List ℕ
constraint_lines names constraints = flat_map (λ c. line_of_words (constraint_words names c)) constraints

abbrev pub canonical : GrammarValue → List ℕ
canonical g = line_of_words header_words
    ++ (tier_lines g.tiers ++ (letter_lines g.tiers g.letters
    ++ constraint_lines (map (λ t. t.name) g.tiers) g.constraints))
