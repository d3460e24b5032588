-- The columns of a spelled form, letter by letter, as they are made.
use Rattle.std.specs.Prelude.{ℕ, Bool, true, false, List, [], ◌∷◌, map}
use Rattle.std.specs.List.{range_with_len}
use Rattle.tier_core.specs.declared.sym.Sym.{Sym}
use Rattle.tier_core.specs.declared.sym.Sym.TheVariants.{Outside, Start, End, Both}
use Rattle.tier_core.specs.Tiers.{has_tier}

-- a constituent ends if the letter before has the tier, and one starts if the letter after has it
abbrev pub boundary_symbol : Bool → Bool → Sym
boundary_symbol true true = Both
boundary_symbol true false = End
boundary_symbol false true = Start
boundary_symbol false false = Outside

-- the column between two sounds
abbrev pub column_between : ℕ → ℕ → ℕ → List Sym
column_between inputs before after = map (λ tier. boundary_symbol (has_tier before tier) (has_tier after tier))
    (range_with_len 0 inputs)

-- the columns after a sound
abbrev pub columns_after : ℕ → ℕ → List ℕ → List (List Sym)
columns_after inputs before [] = column_between inputs before 0 ∷ []
columns_after inputs before (sound ∷ sounds) = column_between inputs before sound ∷ columns_after inputs sound sounds
