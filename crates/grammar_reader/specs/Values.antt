-- The value of a grammar, as plain lists.
use Rattle.std.specs.Prelude.{◌≡◌, ℕ, ◌≤◌, ◌^◌, Bool, true, false, IsTrue, not, nat_le, nat_lt, ◌&&◌, List, [], ◌∷◌, ◌++◌, length, map, filter}
use Rattle.std.specs.List.{list_any, list_all}
use Rattle.std.specs.Str.{bytes_eq}
use Rattle.tier_core.specs.declared.event.Event.{Event}
use Rattle.tier_core.specs.declared.tier.TierKind.{TierKind}
use Rattle.tier_core.specs.declared.constraint.Family.{Family}
use Rattle.tier_core.specs.Tiers.{is_input, is_overt, is_free}
use Rattle.timeline_text.specs.declared.letter.Letter.{Letter}
use Rattle.grammar_reader.specs.Names.{is_name, is_letter_byte, has_twice}

pub record NamedTier : Type 0 where
  pub name : List ℕ
  pub kind : TierKind

pub record NamedConstraint : Type 0 where
  pub name : List ℕ
  pub family : Family
  pub left : List Event
  pub right : List Event

-- Tiers in their order, letters with masks of input tiers, and constraints in ranked order.
pub record GrammarValue : Type 0 where
  pub tiers : List NamedTier
  pub letters : List Letter
  pub constraints : List NamedConstraint

abbrev pub is_named : List ℕ → NamedTier → Bool
is_named name t = bytes_eq name t.name

abbrev pub inputs_of : List NamedTier → List NamedTier
inputs_of tiers = filter (λ t. is_input t.kind) tiers

abbrev pub free_of : List NamedTier → List NamedTier
free_of tiers = filter (λ t. is_free t.kind) tiers

abbrev pub letter_name : Letter → List ℕ
letter_name letter = letter.byte ∷ []

-- a letter has at least one tier, and only input tiers
abbrev pub has_sound : ℕ → Letter → Bool
has_sound inputs letter = nat_lt 0 letter.tiers && nat_lt letter.tiers (2 ^ inputs)

-- from 1 to 8 events on tiers that exist
abbrev pub is_side : ℕ → List Event → Bool
is_side tiers events = nat_le 1 (length events) && nat_le (length events) 8 && list_all
    (λ e. nat_lt e.tier tiers) events

abbrev pub has_sides : ℕ → NamedConstraint → Bool
has_sides tiers c = is_side tiers c.left && is_side tiers c.right

-- names are proper names and unique, and the tiers of the grammar are within the limits
pub record IsProperGrammar (g : GrammarValue) : Type 0 where
  pub tier_names : IsTrue (list_all (λ t. is_name t.name) g.tiers)
  pub tiers_once : has_twice (map (λ t. t.name) g.tiers) ≡ false
  pub few_tiers : length g.tiers ≤ 12
  pub few_inputs : length (inputs_of g.tiers) ≤ 6
  pub few_free : length (free_of g.tiers) ≤ 8
  pub letter_names : IsTrue (list_all (λ l. is_letter_byte (letter_name l)) g.letters)
  pub letters_once : has_twice (map letter_name g.letters) ≡ false
  pub sounds : IsTrue (list_all (has_sound (length (inputs_of g.tiers))) g.letters)
  pub constraint_names : IsTrue (list_all (λ c. is_name c.name) g.constraints)
  pub constraints_once : has_twice (map (λ c. c.name) g.constraints) ≡ false
  pub few_constraints : length g.constraints ≤ 24
  pub sides : IsTrue (list_all (has_sides (length g.tiers)) g.constraints)

-- moreover some tier is an input tier, and some tier is overt
pub record IsGrammar (g : GrammarValue) : Type 0 where
  pub made : IsProperGrammar g
  pub input : IsTrue (list_any (λ t. is_input t.kind) g.tiers)
  pub overt : IsTrue (list_any (λ t. is_overt t.kind) g.tiers)
