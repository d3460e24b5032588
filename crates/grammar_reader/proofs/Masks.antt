-- The mask of the input tiers that are named, tier by tier.
use Rattle.std.proofs.Common.{◌≡◌, ℕ, suc, ◌+◌, ◌*◌, ◌^◌, ◌<◌, ◌≤◌, Bool, true, false, cond, List, ◌∷◌, length}
use Rattle.std.proofs.{Common.{get_or, drop, ap, sym, ◌∙◌, arith}, lemmas.List.drop_more}
use Rattle.std.specs.{List.list_any, Str.bytes_eq}
use Rattle.tier_core.specs.{declared.tier.TierKind.TierKind, Tiers.is_input}
use Rattle.tier_core.proofs.MaskBits.{mask_shift}
use Rattle.grammar_reader.specs.{Values.inputs_of, Seen.{tier_seen, tiers_seen}, Reading.named_mask}
use denote.Ref.{Bor}

module _ (es : List (Bor (List ℕ) × TierKind)) (names : List (List ℕ)) (k : ℕ) (e : Bor (List ℕ) × TierKind)
    (here : k < length es) (is : e ≡ get_or es k e) where
  next : drop k es ≡ e ∷ drop (k + 1) es
  next = drop_more es k e here ∙ ap (λ x. x ∷ drop (k + 1) es) (sym is)

  -- a tier that is no input tier
  pub mask_skip : (m b : ℕ) → is_input e.1 ≡ false
      → m + b * named_mask (inputs_of (tiers_seen (drop k es))) names
      ≡ m + b * named_mask (inputs_of (tiers_seen (drop (k + 1) es))) names
  mask_skip m b i = ap (λ xs. m + b * named_mask (inputs_of (tiers_seen xs)) names) next
      ∙ ap (λ t. m + b * named_mask (cond t (tier_seen e ∷ inputs_of (tiers_seen (drop (k + 1) es)))
      (inputs_of (tiers_seen (drop (k + 1) es)))) names) i

  -- an input tier, which is named or not
  pub mask_next : (m b : ℕ) (t : Bool) → is_input e.1 ≡ true → t ≡ list_any (λ n. bytes_eq n e.0.now) names
      → m + b * named_mask (inputs_of (tiers_seen (drop k es))) names
      ≡ m + cond t b 0 + b * 2 * named_mask (inputs_of (tiers_seen (drop (k + 1) es))) names
  mask_next m b t i n = ap (λ xs. m + b * named_mask (inputs_of (tiers_seen xs)) names) next
      ∙ ap (λ u. m + b * named_mask (cond u (tier_seen e ∷ inputs_of (tiers_seen (drop (k + 1) es)))
      (inputs_of (tiers_seen (drop (k + 1) es)))) names) i
      ∙ ap (λ u. m + b * (cond u 1 0 + 2 * named_mask (inputs_of (tiers_seen (drop (k + 1) es))) names)) (sym n)
      ∙ mask_shift m b (named_mask (inputs_of (tiers_seen (drop (k + 1) es))) names) t

pub power_more : (n b k : ℕ) → n ≡ k + 1 → b ≤ 2 ^ k → b * 2 ≤ 2 ^ n
power_more n b k e l = let p : 2 ^ (suc k)
    ≡ 2 ^ n = ap (λ i. 2 ^ i) (let s : suc k ≡ n = omega arith in s) in omega arith

pub power_later : (n b k : ℕ) → n ≡ k + 1 → b ≤ 2 ^ k → b ≤ 2 ^ n
power_later n b k e l = let p : 2 ^ (suc k)
    ≡ 2 ^ n = ap (λ i. 2 ^ i) (let s : suc k ≡ n = omega arith in s) in omega arith
