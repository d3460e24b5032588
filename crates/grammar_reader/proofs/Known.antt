-- Look-ups in the map of tiers.
use Rattle.std.proofs.Common.{◌≡◌, ℕ, Bool, true, false, cond, ◌||◌, List, [], ◌∷◌, refl, ap, sym, ◌∙◌, Option}
use Rattle.std.proofs.{Common.{Some, None, is_some, is_none, map, position, unwrap_or}, lemmas.List.length-map}
use Rattle.std.specs.{List.{list_any, find, position_or_len}, Map.{lookup, keys_of}, Option.option_map_or}
use Rattle.std.specs.{Cmp.Lexicographic.pointwise, Prelude.nat_eq}
use Rattle.tier_core.specs.{Tiers.is_input, declared.tier.TierKind.TierKind}
use Rattle.grammar_reader.specs.{Values.{is_named, NamedTier}, Seen.{tier_seen, tiers_seen}, Reading.is_input_named}
use Rattle.grammar_reader.proofs.Lists.{position-map}
use denote.Ref.{Bor}

some_or : {X : Type 0} (t : Bool) (x : X) (o : Option X) → is_some (cond t (Some x) o) ≡ (t || is_some o)
some_or true x o = refl
some_or false x o = refl

-- a name that the map has is the name of a tier
pub known_any : (name : List ℕ) (es : List (Bor (List ℕ) × TierKind))
    → is_some (lookup (λ k. pointwise nat_eq name k.now) es) ≡ list_any (is_named name) (tiers_seen es)
known_any name [] = refl
known_any name (e ∷ es) = some_or (pointwise nat_eq name e.0.now) e.1 (lookup (λ k. pointwise nat_eq name k.now) es)
    ∙ ap (λ t. pointwise nat_eq name e.0.now || t) (known_any name es)

kind_or : (t : Bool) (e : Bor (List ℕ) × TierKind) (o : Option TierKind) (p : Option NamedTier)
    → option_map_or is_input o false ≡ option_map_or (λ x. is_input x.kind) p false
    → option_map_or is_input (cond t (Some e.1) o) false
    ≡ option_map_or (λ x. is_input x.kind) (cond t (Some (tier_seen e)) p) false
kind_or true e o p h = refl
kind_or false e o p h = h

-- the kind that the map has of a name
pub input_by : (name : List ℕ) (es : List (Bor (List ℕ) × TierKind))
    → option_map_or is_input (lookup (λ k. pointwise nat_eq name k.now) es) false
    ≡ is_input_named (tiers_seen es) name
input_by name [] = refl
input_by name (e ∷ es) = kind_or (pointwise nat_eq name e.0.now) e (lookup (λ k. pointwise nat_eq name k.now) es)
    (find (is_named name) (tiers_seen es)) (input_by name es)

-- the number of a name among the keys is its number among the tiers
pub number_by : (name : List ℕ) (es : List (Bor (List ℕ) × TierKind))
    → position (λ k. pointwise nat_eq name k.now) (keys_of es) ≡ position (is_named name) (tiers_seen es)
number_by name es = position-map (λ k. pointwise nat_eq name k.now) (λ e. e.0) es
    ∙ sym (position-map (is_named name) tier_seen es)
