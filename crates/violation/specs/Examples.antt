-- Timelines, constraints and kinds from their texts, for the examples.
use Rattle.std.specs.Prelude.{ℕ, ◌==◌, if◌then◌else◌, List, [], ◌∷◌, map, unwrap_or, codes, String}
use Rattle.std.specs.declared.alloc.Global.{Global}
use Rattle.std.specs.List.{position_or_len}
use Rattle.tier_core.specs.declared.sym.Sym.{Sym}
use Rattle.tier_core.specs.declared.sym.Sym.TheVariants.{Outside}
use Rattle.tier_core.specs.declared.event.Event.{Event}
use Rattle.tier_core.specs.declared.event.Part.TheVariants.{Start as StartOf, End as EndOf, Interior}
use Rattle.tier_core.specs.declared.constraint.Family.TheVariants.{Implication, Clash}
use Rattle.tier_core.specs.declared.constraint.Constraint.{Constraint}
use Rattle.tier_core.specs.Symbols.{sym_of}
use Rattle.tier_core.specs.Tiers.{Tiers}
use Rattle.tier_core.specs.Kinds.{closed, unmet, met, PrefixKind, Phase}
use Rattle.violation.specs.Counts.{viol}
use Rattle.violation.specs.Candidates.{IsCandidate}
use Rattle.violation.specs.Prefixes.{phase, kind_of}
use Rattle.violation.specs.Moves.{next_kind, move_costs}
use Rattle.violation.specs.Problems.{Problem, problem_from}

-- a text cut at its spaces
abbrev pub pieces : List ℕ → List (List ℕ)
pieces [] = [] ∷ []
pieces (b ∷ text) = if b == 32 then [] ∷ pieces text else onto b (pieces text)
  where
    onto : ℕ → List (List ℕ) → List (List ℕ)
    onto b [] = (b ∷ []) ∷ []
    onto b (piece ∷ rest) = (b ∷ piece) ∷ rest

-- the symbols that the bytes `-`, `+`, `[`, `]` and `|` stand for
abbrev pub read_syms : List ℕ → List Sym
read_syms text = map (λ b. unwrap_or (sym_of b) Outside) text

-- the timeline of a text such as `[- ]-`: its columns, with one space between two. It also reads
-- words, one beside the other.
abbrev pub timeline : List ℕ → List (List Sym)
timeline text = map read_syms (pieces text)

-- the type of events of a text such as `[a`, `]a` or `a`, where each tier has a name of one byte
abbrev pub read_event : List ℕ → List ℕ → Event
read_event names [] = record { tier = 0; part = Interior }
read_event names (b ∷ text) = if b == 91 then record { tier = tier_of text; part = StartOf } else
    (if b == 93 then record { tier = tier_of text; part = EndOf } else record
    { tier = tier_of (b ∷ text); part = Interior })
  where
    tier_of : List ℕ → ℕ
    tier_of [] = 0
    tier_of (name ∷ rest) = position_or_len (λ n. n == name) names

-- the types of events of a text such as `]a [a`
abbrev pub types : List ℕ → List ℕ → List Event
types names text = map (read_event names) (pieces text)

-- the violations of the implication, or the clash, of two sides on a timeline, all given by their
-- texts
abbrev pub misses : List ℕ → List ℕ → List ℕ → List ℕ → ℕ
misses names left right text = viol Implication (types names left) (types names right) (timeline text)

abbrev pub clashes : List ℕ → List ℕ → List ℕ → List ℕ → ℕ
clashes names left right text = viol Clash (types names left) (types names right) (timeline text)

-- an input tier A and an overt tier a
abbrev pub two_tiers : Tiers
two_tiers = record { width = 2; input = 0 ∷ []; overt = 1 ∷ []; free = 1 ∷ [] }

-- what is asked over these tiers
abbrev pub over_two : List Constraint → List (List Sym) → Problem
over_two constraints form = record { tiers = two_tiers; constraints = constraints; form = form }

-- an implication over these two tiers, of any name
abbrev pub implication : List ℕ → List ℕ → String Global → Constraint
implication left right name = record {
  name = name;
  family = Implication;
  left = types (codes "Aa") left;
  right = types (codes "Aa") right;
}

-- `A -> a` and `a -> A`
abbrev pub max_a : String Global → Constraint
max_a = implication (codes "A") (codes "a")

abbrev pub dep_a : String Global → Constraint
dep_a = implication (codes "a") (codes "A")

-- a kind from its place, `+` for each open tier and `-` for each other, and `u` for unmet, `m` for
-- met and `.` for closed
abbrev pub read_kind : ℕ → List ℕ → List ℕ → PrefixKind
read_kind place opened phases = record {
  place = place;
  opened = map (λ b. b == 43) opened;
  phases = map (λ b. if b == 117 then unmet else (if b == 109 then met else closed)) phases;
}

-- the kind under `A -> a` and `a -> A`, whatever their names, of a prefix that is given by its text
abbrev pub kind_after : String Global → String Global → List ℕ → PrefixKind
kind_after max dep text = kind_of (over_two (max_a max ∷ dep_a dep ∷ []) []) 2 (timeline text)

-- what the move from a kind by a column costs under these two, for the form `[ ]`
abbrev pub costs_by : String Global → String Global → PrefixKind → List ℕ → List ℕ
costs_by max dep k column = move_costs (over_two (max_a max ∷ dep_a dep ∷ []) (timeline (codes "[ ]"))) 2 k
    (read_syms column)

-- the kind that it leads to
abbrev pub moved_by : String Global → String Global → PrefixKind → List ℕ → PrefixKind
moved_by max dep k column = next_kind (over_two (max_a max ∷ dep_a dep ∷ []) []) 2 k (read_syms column)

-- the phase of the implication of two sides, with the tiers A and a, after a prefix
abbrev pub phase_after : List ℕ → List ℕ → List ℕ → Phase
phase_after left right text = phase (types (codes "Aa") left) (types (codes "Aa") right) (timeline text)

-- a timeline is a candidate of a form with the tiers A and a
abbrev pub IsCandidateOf : List ℕ → List ℕ → Type 0
IsCandidateOf form text = IsCandidate (over_two [] (timeline form)) (timeline text)
