-- The sets that have every symbol, and those that have none.
use Rattle.std.proofs.Common.{◌≡◌, ℕ, ◌<◌, ◌≤◌, ◌==◌, ◌&&◌, true, false, List, [], ◌∷◌, set, take, length, get_or}
use Rattle.std.proofs.{Common.{refl, ap, sym, ◌∙◌, arith}, lemmas.Bool.{agree_below_at, eqb-true}}
use Rattle.std.proofs.lemmas.List.{length-take-le, get_or-take}
use Rattle.tier_core.specs.{declared.sym.Sym.Sym, Classes.sets_have, Sets.is_in, Timelines.symbol}
use Rattle.tier_core.proofs.{ClassLemmas.have_each, KnownSets.{in_all, in_none}}

pub full_have : (sets : List ℕ) (column : List Sym) → length column ≡ length sets
    → ((t : ℕ) → t < length sets → get_or sets t 0 ≡ 31) → sets_have sets column ≡ true
full_have sets column wide full =
    have_each sets column wide (λ t inside. ap (λ x. is_in x (symbol column t)) (full t inside)
    ∙ in_all (symbol column t))

pub empty_have : (sets : List ℕ) (column : List Sym) → 0 < length sets → sets_have (set sets 0 0) column ≡ false
empty_have [] column some = absurd (omega arith)
empty_have (x ∷ xs) [] some = refl
empty_have (x ∷ xs) (s ∷ column) some = ap (λ b. b && sets_have xs column) (in_none s)

-- the numbers of twelve full sets
abbrev pub twelve_full : List ℕ
twelve_full = 31 ∷ 31 ∷ 31 ∷ 31 ∷ 31 ∷ 31 ∷ 31 ∷ 31 ∷ 31 ∷ 31 ∷ 31 ∷ 31 ∷ []

pub front_have : (n : ℕ) (column : List Sym) → n ≤ 12 → length column ≡ n
    → sets_have (take n twelve_full) column ≡ true
front_have n column few wide =
    let long : length (take n twelve_full) ≡ n = length-take-le n twelve_full few in
    full_have (take n twelve_full) column (wide ∙ sym long) (λ t inside.
    get_or-take n twelve_full t 0 (omega arith)
    ∙ eqb-true (get_or twelve_full t 0) 31 (agree_below_at (λ t. get_or twelve_full t 0 == 31) (λ _. true) 12 t refl
    (omega arith)))
