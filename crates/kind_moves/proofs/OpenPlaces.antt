-- The masks of the tiers of a table, and which input tiers are open at the places of a form.
use Rattle.std.proofs.Common.{◌≡◌, ◌↔◌, ℕ, suc, ◌^◌, ◌==◌, ◌<◌, ◌≤◌, ◌||◌, Bool, true, false, cond, IsTrue, List}
use Rattle.std.proofs.Common.{[], ◌∷◌, map, take, length, get_or, refl, ap, sym, ◌∙◌, arith, bit_or}
use Rattle.std.proofs.{lemmas.Bool.false≢true, lemmas.List.{length-map, get_or-map}}
use Rattle.std.proofs.lemmas.List.FromFn.{fill_by_all, length-map-range_with_len, get_or-map-range_with_len}
use Rattle.std.proofs.{lemmas.Nat.or_lt, lemmas.Nat.Bits.bit_at-zero}
use Rattle.std.specs.List.{range_with_len}
use Rattle.tier_core.specs.{declared.sym.Sym.Sym, declared.sym.Sym.TheVariants.Outside}
use Rattle.tier_core.specs.declared.tier.TierKind.{TierKind}
use Rattle.tier_core.specs.{declared.tier.TierKind.TheVariants.{Input, Overt, Hidden}, Kinds.open_tiers, Scan.opens}
use Rattle.tier_core.specs.Timelines.{tier_word, symbol, column_at}
use Rattle.tier_core.specs.Tiers.{Tiers, is_free, is_overt, kind_at, has_tier, tiers_of, numbers_from}
use Rattle.tier_core.proofs.{TableMasks.{IsMaskOf, tiers_of_mask, mask_of_kind, overt_alone}, WordLemmas.open_suc}
use Rattle.tier_core.proofs.WordForm.{runs_from_well_formed}
use Rattle.violation.specs.{Candidates.IsForm, Moves.{flag_of, form_opened}, Prefixes.is_open}
use Rattle.violation.proofs.OpenLemmas.{prefix_open, take_word}
use Rattle.kind_moves.specs.Masks.{AreOpenAt}
use Rattle.kind_moves.proofs.MaskSteps.{or_tier}

-- ---- free tiers

is_hidden : TierKind → Bool
is_hidden Input = false
is_hidden Overt = false
is_hidden Hidden = true

hidden_alone : (k : TierKind) → IsTrue (is_hidden k) ↔ (k ≡ Hidden)
unfolding is_hidden
hidden_alone Input = (λ h. absurd (false≢true h), λ h. cc)
hidden_alone Overt = (λ h. absurd (false≢true h), λ h. cc)
hidden_alone Hidden = (λ h. refl, λ h. refl)

overt_or_hidden : (k : TierKind) → (is_overt k || is_hidden k) ≡ is_free k
unfolding is_hidden
overt_or_hidden Input = refl
overt_or_hidden Overt = refl
overt_or_hidden Hidden = refl

-- the mask of the free tiers
pub free_mask : (kinds : List TierKind) (overt hidden : ℕ) → length kinds ≤ 12 → overt < 2 ^ length kinds
    → hidden < 2 ^ length kinds
    → ((t : ℕ) → t < length kinds → IsTrue (has_tier overt t) ↔ (kind_at kinds t ≡ Overt))
    → ((t : ℕ) → t < length kinds → IsTrue (has_tier hidden t) ↔ (kind_at kinds t ≡ Hidden))
    → tiers_of (bit_or overt hidden) ≡ numbers_from is_free 0 kinds
free_mask kinds overt hidden few lo lh bo bh =
    let o : IsMaskOf is_overt kinds overt = mask_of_kind is_overt kinds Overt overt overt_alone few lo bo in
    let h : IsMaskOf is_hidden kinds hidden = mask_of_kind is_hidden kinds Hidden hidden hidden_alone few lh bh in
    tiers_of_mask is_free kinds (bit_or overt hidden) (record {
      few = few;
      within = or_lt (length kinds) overt hidden lo lh;
      bits = λ t l. or_tier overt hidden t ∙ ap (λ b. b || has_tier hidden t) (o.bits t l)
          ∙ ap (λ b. is_overt (kind_at kinds t) || b) (h.bits t l) ∙ overt_or_hidden (kind_at kinds t);
    })

-- ---- input tiers

flag_false : (xs ns : List ℕ) (t : ℕ) → flag_of xs (map (λ n. false) ns) t ≡ false
flag_false [] ns t = refl
flag_false (x ∷ xs) [] t = refl
flag_false (x ∷ xs) (n ∷ ns) t = either (x == t) (flag_false xs ns t)
  where
    either : (b : Bool) → flag_of xs (map (λ n. false) ns) t ≡ false
        → cond b false (flag_of xs (map (λ n. false) ns) t) ≡ false
    either true e = refl
    either false e = e

-- before the first column none is open
pub open_first : (tiers : Tiers) (u : List (List Sym)) → AreOpenAt tiers u 0 0
open_first tiers u t = ap (λ b. b == 1) (bit_at-zero t) ∙ sym (flag_false tiers.input
    (range_with_len 0 (length tiers.input)) t)

-- an input tier is open after the columns of a form where its symbol in the last of these opens it
pub form_open_after : (tiers : Tiers) (u : List (List Sym)) → IsForm tiers u → (p j : ℕ) → p < length u
    → j < length tiers.input
    → is_open (tier_word (take (suc p) u) j) ≡ opens (symbol (column_at u p) j)
form_open_after tiers u form p j l h =
    let well = runs_from_well_formed (tier_word u j) (form.well_formed.each_tier j h) in
    let size : length (tier_word u j) ≡ length u = length-map u (λ (column : List Sym). symbol column j) in
    ap is_open (take_word u (suc p) j) ∙ prefix_open (tier_word u j) (suc p) well (omega arith)
    ∙ open_suc false (tier_word u j) p (omega arith)
    ∙ ap opens (get_or-map (λ column. symbol column j) u p [] Outside l)

-- the flags of a mask that has the tiers which a column opens, laid out on the input tiers
pub open_later : (tiers : Tiers) (u : List (List Sym)) → IsForm tiers u → (p inputs opened mask : ℕ) → p < length u
    → tiers_of inputs ≡ tiers.input
    → ((t : ℕ) → has_tier opened t ≡ opens (symbol (column_at u p) t))
    → ((t : ℕ) → has_tier mask t ≡ flag_of (tiers_of inputs) (open_tiers (length (tiers_of inputs)) opened) t)
    → AreOpenAt tiers u (suc p) mask
open_later tiers u form p inputs opened mask l e bits laid t =
    let flags : form_opened tiers u (suc p) ≡ open_tiers (length tiers.input) opened =
    fill_by_all (has_tier opened) (form_opened tiers u (suc p)) (length tiers.input) false
    (length-map-range_with_len (λ j. is_open (tier_word (take (suc p) u) j)) 0 (length tiers.input))
    (λ j h. get_or-map-range_with_len (λ j. is_open (tier_word (take (suc p) u) j)) 0 (length tiers.input) j j false h
    (omega arith) ∙ form_open_after tiers u form p j l h ∙ sym (bits j)) in
    laid t ∙ ap (λ ts. flag_of ts (open_tiers (length ts) opened) t) e
    ∙ ap (λ fs. flag_of tiers.input fs t) (sym flags)

-- masks for the first places
pub record AreSoFar (tiers : Tiers) (u : List (List Sym)) (n : ℕ) (masks : List ℕ) : Type 0 where
  pub count : length masks ≡ n
  pub each : (place : ℕ) → place < n → AreOpenAt tiers u place (get_or masks place 0)
