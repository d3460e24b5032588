-- Tiers and constraints of the code, as plain records.
use Rattle.std.specs.Prelude.{ℕ, List, [], ◌∷◌, map}
use Rattle.std.specs.String.{string_bytes}
use Rattle.tier_core.specs.declared.tier.TierKind.{TierKind}
use Rattle.tier_core.specs.declared.constraint.Constraint.{Constraint}
use Rattle.timeline_text.specs.declared.letter.Letter.{Letter}
use Rattle.grammar_reader.specs.Values.{NamedTier, NamedConstraint, GrammarValue}
use Rattle.std.specs.declared.string.String.{String}
use denote.Ref.{Bor}

abbrev pub tier_seen : Bor (List ℕ) × TierKind → NamedTier
tier_seen e = record { name = e.0.now; kind = e.1 }

abbrev pub tiers_seen : List (Bor (List ℕ) × TierKind) → List NamedTier
tiers_seen entries = map tier_seen entries

abbrev pub constraint_seen : Constraint → NamedConstraint
constraint_seen c = record { name = string_bytes c.name; family = c.family; left = c.left; right = c.right }

-- the names and kinds of tiers
abbrev pub tiers_by : List (List ℕ) → List TierKind → List NamedTier
tiers_by [] kinds = []
tiers_by (name ∷ names) [] = []
tiers_by (name ∷ names) (kind ∷ kinds) = record { name = name; kind = kind } ∷ tiers_by names kinds

-- the value of a grammar with these parts
abbrev pub value_by : {A : Type 0} → List (String A) → List TierKind → List Letter → List Constraint → GrammarValue
value_by names kinds letters constraints = record {
  tiers = tiers_by (map string_bytes names) kinds;
  letters = letters;
  constraints = map constraint_seen constraints;
}
