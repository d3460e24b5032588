-- A class, read tier by tier.
use Rattle.std.proofs.Common.{◌≡◌, ℕ, zero, suc, ◌+◌, ◌-◌, ◌<◌, List, [], ◌∷◌, ◌++◌, length, take, set, Option}
use Rattle.std.proofs.Common.{Some, None, option_map, option_and_then, refl, ap, sym, ◌∙◌, arith, append_assoc}
use Rattle.std.proofs.lemmas.List.{take_more_set}
use Rattle.answer_reader.specs.{Classes.{set_and_rest, class_of}, Decoding.decode_set}
use Rattle.answer_reader.proofs.Sets.{decoded_is_front}

-- sets that were read, and those that are read behind them
abbrev pub behind_sets : List ℕ → Option (List ℕ) → Option (List ℕ)
behind_sets sets more = option_map (λ xs. sets ++ xs) more

pub set_more : (sets : List ℕ) (x : ℕ) (o : Option (List ℕ)) → behind_sets sets (option_map (λ xs. x ∷ xs) o)
    ≡ behind_sets (sets ++ x ∷ []) o
set_more sets x None = refl
set_more sets x (Some xs) = ap (λ (ys : List ℕ). let r = Some ys in r) (sym (append_assoc sets (x ∷ []) xs))

with_tier : (sets rest behind : List ℕ) (m x : ℕ) (whole : Option (List ℕ)) → decode_set rest ≡ Some (x, behind)
    → behind_sets sets (class_of (suc m) rest) ≡ whole → behind_sets (sets ++ x ∷ []) (class_of m behind) ≡ whole
with_tier sets rest behind m x whole d h =
    let e : set_and_rest rest ≡ Some (x, behind) = sym (decoded_is_front rest) ∙ d in
    sym (set_more sets x (class_of m behind))
    ∙ ap (λ f. behind_sets sets (option_and_then
    (λ (front : ℕ × List ℕ). option_map (λ xs. front.0 ∷ xs) (class_of m front.1)) f)) (sym e) ∙ h

-- a tier's set stands at the front
pub tier_read : (n tier : ℕ) (sets rest behind : List ℕ) (x : ℕ) (whole : Option (List ℕ)) → tier < n
    → tier < length sets → decode_set rest ≡ Some (x, behind)
    → behind_sets (take tier sets) (class_of (n - tier) rest) ≡ whole
    → behind_sets (take (tier + 1) (set sets tier x)) (class_of (n - (tier + 1)) behind) ≡ whole
tier_read n tier sets rest behind x whole l within d h =
    let more : n - tier ≡ suc (n - (tier + 1)) = omega arith in
    ap (λ xs. behind_sets xs (class_of (n - (tier + 1)) behind)) (take_more_set sets tier x within)
    ∙ with_tier (take tier sets) rest behind (n - (tier + 1)) x whole d
    (sym (ap (λ k. behind_sets (take tier sets) (class_of k rest)) more) ∙ h)

-- or none does
pub tier_missing : (n tier : ℕ) (sets rest : List ℕ) (whole : Option (List ℕ)) → tier < n → decode_set rest ≡ None
    → behind_sets sets (class_of (n - tier) rest) ≡ whole → None ≡ whole
tier_missing n tier sets rest whole l d h =
    let more : n - tier ≡ suc (n - (tier + 1)) = omega arith in
    let e : set_and_rest rest ≡ None = sym (decoded_is_front rest) ∙ d in
    ap (λ f. behind_sets sets (option_and_then
    (λ (front : ℕ × List ℕ). option_map (λ xs. front.0 ∷ xs) (class_of (n - (tier + 1)) front.1)) f)) (sym e)
    ∙ sym (ap (λ k. behind_sets sets (class_of k rest)) more) ∙ h

length_at : (width : ℕ) (o : Option (ℕ × List ℕ)) (sets : List ℕ)
    → ((bytes xs : List ℕ) → class_of width bytes ≡ Some xs → length xs ≡ width)
    → option_and_then (λ (front : ℕ × List ℕ). option_map (λ xs. front.0 ∷ xs) (class_of width front.1)) o ≡ Some sets
    → length sets ≡ suc width
length_at width None sets h e = absurd (let n : ⊥ = cc in n)
length_at width (Some front) sets h e = by _ refl e
  where
    by : (o : Option (List ℕ)) → class_of width front.1 ≡ o → option_map (λ xs. front.0 ∷ xs) o ≡ Some sets
        → length sets ≡ suc width
    by None is g = absurd (let n : ⊥ = cc in n)
    by (Some xs) is g = let same : front.0 ∷ xs ≡ sets = cc in sym (ap length same) ∙ ap suc (h front.1 xs is)

-- a set for each tier
pub class_width : (width : ℕ) (bytes sets : List ℕ) → class_of width bytes ≡ Some sets → length sets ≡ width
class_width zero [] sets e = let same : [] ≡ sets = cc in sym (ap length same)
class_width zero (b ∷ bytes) sets e = absurd (let n : ⊥ = cc in n)
class_width (suc width) bytes sets e = length_at _ _ _ (class_width width) e
