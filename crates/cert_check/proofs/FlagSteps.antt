-- The free tiers that are open after a column, by a mask that is made tier by tier.
use Rattle.std.proofs.Common.{◌≡◌, ℕ, suc, ◌+◌, ◌^◌, ◌<◌, ◌≤◌, Bool, true, false, cond, List, [], ◌∷◌, ◌++◌, map}
use Rattle.std.proofs.Common.{drop, length, get_or, refl, ap, ap₂, sym, ◌∙◌, subst, arith}
use Rattle.std.proofs.lemmas.List.{append-nil, append_assoc, at_drop_more, drop_all, length-map}
use Rattle.std.proofs.lemmas.List.FromFn.{fill_by_all, length-map-range_with_len, get_or-map-range_with_len}
use Rattle.std.proofs.lemmas.List.FromFn.{map-range_with_len_more}
use Rattle.tier_core.specs.{declared.tier.TierKind.TierKind, Kinds.open_tiers}
use Rattle.tier_core.specs.Tiers.{has_tier, is_free, numbers_from}

-- what is asked of the free tiers from one on
abbrev pub rest_from : (ℕ → Bool) → List TierKind → ℕ → List Bool
rest_from f kinds k = map f (numbers_from is_free k (drop k kinds))

rest_step : (f : ℕ → Bool) (kinds : List TierKind) (k : ℕ) (d : TierKind) (b : Bool) → k < length kinds
    → is_free (get_or kinds k d) ≡ b
    → rest_from f kinds k ≡ cond b (f k ∷ rest_from f kinds (k + 1)) (rest_from f kinds (k + 1))
rest_step f kinds k d b l h =
    let one : suc k ≡ k + 1 = omega arith in
    at_drop_more (λ ks. map f (numbers_from is_free k ks)) kinds k d l
    ∙ ap (λ c. map f (cond c (k ∷ []) [] ++ numbers_from is_free (suc k) (drop (k + 1) kinds))) h
    ∙ ap (λ n. map f (cond b (k ∷ []) [] ++ numbers_from is_free n (drop (k + 1) kinds))) one
    ∙ by b
  where
    by : (b : Bool) → map f (cond b (k ∷ []) [] ++ numbers_from is_free (k + 1) (drop (k + 1) kinds))
        ≡ cond b (f k ∷ rest_from f kinds (k + 1)) (rest_from f kinds (k + 1))
    by true = refl
    by false = refl

-- the flags of the free tiers before one are in a mask
pub record AreFlagged (f : ℕ → Bool) (kinds : List TierKind) (tier free mask : ℕ) : Type 0 where
  pub few : free ≤ tier
  pub within : mask < 2 ^ free
  pub told : open_tiers free mask ++ rest_from f kinds tier ≡ map f (numbers_from is_free 0 kinds)

pub flagged_more : (f : ℕ → Bool) (kinds : List TierKind) (tier free mask more : ℕ) (d : TierKind)
    → AreFlagged f kinds tier free mask → tier < length kinds → is_free (get_or kinds tier d) ≡ true
    → more < 2 ^ (free + 1) → has_tier more free ≡ f tier
    → ((t : ℕ) → t < free → has_tier more t ≡ has_tier mask t) → AreFlagged f kinds (tier + 1) (free + 1) more
flagged_more f kinds tier free mask more d a l h within here others =
    let same =
    fill_by_all (has_tier more) (open_tiers free mask) free false (length-map-range_with_len (has_tier mask) 0 free)
    (λ k b. get_or-map-range_with_len _ 0 _ k k false b (omega arith) ∙ sym (others k b)) in
    record {
      few = omega (arith, a.few);
      within = within;
      told = ap (λ fs. fs ++ rest_from f kinds (tier + 1)) (map-range_with_len_more (has_tier more) 0 free free
          (omega arith) ∙ ap₂ (λ fs b. fs ++ b ∷ []) (sym same) here) ∙ append_assoc (open_tiers free mask)
          (f tier ∷ []) (rest_from f kinds (tier + 1)) ∙ ap (λ fs. open_tiers free mask ++ fs)
          (sym (rest_step f _ _ d _ l h)) ∙ a.told;
    }

pub flagged_same : (f : ℕ → Bool) (kinds : List TierKind) (tier free mask : ℕ) (d : TierKind)
    → AreFlagged f kinds tier free mask → tier < length kinds → is_free (get_or kinds tier d) ≡ false
    → AreFlagged f kinds (tier + 1) free mask
flagged_same f kinds tier free mask d a l h = record {
  few = omega (arith, a.few);
  within = a.within;
  told = ap (λ fs. open_tiers free mask ++ fs) (sym (rest_step f _ _ d _ l h)) ∙ a.told;
}

module _ (f : ℕ → Bool) (kinds : List TierKind) (tier free mask : ℕ) (a : AreFlagged f kinds tier free mask)
    (l : length kinds ≤ tier) where
  told : open_tiers free mask ≡ map f (numbers_from is_free 0 kinds)
  told = sym (append-nil (open_tiers free mask)) ∙ ap
      (λ ks. open_tiers free mask ++ map f (numbers_from is_free tier ks)) (sym (drop_all _ kinds l)) ∙ a.told

  count : free ≡ length (numbers_from is_free 0 kinds)
  count = sym (length-map-range_with_len (has_tier mask) 0 free) ∙ ap length told
      ∙ length-map (numbers_from is_free 0 kinds) f

  pub flagged_told : open_tiers (length (numbers_from is_free 0 kinds)) mask ≡ map f (numbers_from is_free 0 kinds)
  flagged_told = ap (λ n. open_tiers n mask) (sym count) ∙ told

  pub flagged_within : mask < 2 ^ length (numbers_from is_free 0 kinds)
  flagged_within = let P : ℕ → Type 0 = λ n. mask < 2 ^ n in subst P count a.within
