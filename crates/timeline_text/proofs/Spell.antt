-- The columns that are made of letters have exactly the constituents of the letters.
use Rattle.std.proofs.Common.{◌≡◌, ℕ, zero, suc, ◌+◌, ◌/◌, ◌%◌, ◌^◌, ◌<◌, ◌≤◌, ◌==◌, Bool, true, false, cond, List}
use Rattle.std.proofs.Common.{[], ◌∷◌, ◌++◌, length, map, drop, Some, ◌⊎◌, inl, inr, Option, None, not, is_some}
use Rattle.std.proofs.Common.{unwrap_or, option_map, Result, Ok, Err, refl, ap, sym, ◌∙◌, subst, arith}
use Rattle.std.proofs.{lemmas.Nat.Bits.{bit_at_lowest, bit_at-suc}, lemmas.List.Elements.recursion_from_All}
use Rattle.std.proofs.lemmas.List.Folds.{list_any_at}
use Rattle.std.proofs.lemmas.List.FromFn.{length-map-range_with_len, get_or-map-range_with_len}
use Rattle.std.proofs.{lemmas.List.length-map, lemmas.Bool.{or_parts, not-false}}
use Rattle.std.specs.{Prelude.{MatchResult, IfOk, All}, List.{list_any, AllByRecursion}}
use Rattle.tier_core.specs.{declared.sym.Sym.Sym, declared.sym.Sym.TheVariants.Outside}
use Rattle.tier_core.specs.Tiers.{has_tier, numbers_from}
use Rattle.tier_core.specs.Words.{next_end, pair_to, constituents, constituents_from}
use Rattle.tier_core.specs.Timelines.{tier_word, symbol, is_edge, has_edge, IsReduced, IsWellFormed}
use Rattle.tier_core.proofs.{WordLemmas.runs, WordForm.well_formed_from_runs, MaskBits.{no_bit, odd_or_even}}
use Rattle.timeline_text.specs.{declared.letter.Letter.Letter, Spelling.{spelled_on, columns_for, HasSound}}
use Rattle.timeline_text.specs.Spelling.{letter_of, unknown_letter, sound_of, sounds_of, IsSpelledBy}
use Rattle.timeline_text.specs.Between.{boundary_symbol, column_between, columns_after}
use Rattle.timeline_text.proofs.Searches.{none_any}

-- one tier, by which letters have it
abbrev tier_after : Bool → List Bool → List Sym
tier_after before [] = boundary_symbol before false ∷ []
tier_after before (has ∷ hs) = boundary_symbol before has ∷ tier_after has hs

abbrev pairs_from : ℕ → List Bool → List (ℕ × ℕ)
pairs_from i [] = []
pairs_from i (true ∷ hs) = (i, suc i) ∷ pairs_from (suc i) hs
pairs_from i (false ∷ hs) = pairs_from (suc i) hs

runs_after : (b : Bool) (hs : List Bool) → runs b (tier_after b hs) ≡ true
runs_after true [] = refl
runs_after false [] = refl
runs_after true (true ∷ hs) = runs_after true hs
runs_after true (false ∷ hs) = runs_after false hs
runs_after false (true ∷ hs) = runs_after true hs
runs_after false (false ∷ hs) = runs_after false hs

ends_next : (i : ℕ) (hs : List Bool) → next_end i (tier_after true hs) ≡ Some i
ends_next i [] = refl
ends_next i (true ∷ hs) = refl
ends_next i (false ∷ hs) = refl

constituents_after : (b : Bool) (i : ℕ) (hs : List Bool) → constituents_from i (tier_after b hs) ≡ pairs_from i hs
constituents_after true i [] = refl
constituents_after false i [] = refl
constituents_after true i (true ∷ hs) = ap (λ o. pair_to i o ++ constituents_from (suc i) (tier_after true hs))
    (ends_next (suc i) hs) ∙ ap (λ cs. (i, suc i) ∷ cs) (constituents_after true (suc i) hs)
constituents_after true i (false ∷ hs) = constituents_after false (suc i) hs
constituents_after false i (true ∷ hs) = ap (λ o. pair_to i o ++ constituents_from (suc i) (tier_after true hs))
    (ends_next (suc i) hs) ∙ ap (λ cs. (i, suc i) ∷ cs) (constituents_after true (suc i) hs)
constituents_after false i (false ∷ hs) = constituents_after false (suc i) hs

pair_here : (i : ℕ) (t : Bool) (ns : List ℕ) (hs : List Bool) → map (λ k. (k, suc k)) ns ≡ pairs_from (suc i) hs
    → map (λ k. (k, suc k)) (cond t (i ∷ []) [] ++ ns) ≡ pairs_from i (t ∷ hs)
pair_here i true ns hs e = ap (λ cs. (i, suc i) ∷ cs) e
pair_here i false ns hs e = e

pairs_of_numbers : (t i : ℕ) (sounds : List ℕ)
    → map (λ k. (k, suc k)) (numbers_from (λ sound. has_tier sound t) i sounds)
    ≡ pairs_from i (map (λ sound. has_tier sound t) sounds)
pairs_of_numbers t i [] = refl
pairs_of_numbers t i (sound ∷ sounds) = pair_here i (has_tier sound t)
    (numbers_from (λ s. has_tier s t) (suc i) sounds) (map (λ s. has_tier s t) sounds)
    (pairs_of_numbers t (suc i) sounds)

symbol_between : (inputs before after t : ℕ) → t < inputs
    → symbol (column_between inputs before after) t ≡ boundary_symbol (has_tier before t) (has_tier after t)
symbol_between inputs before after t l = get_or-map-range_with_len
    (λ tier. boundary_symbol (has_tier before tier) (has_tier after tier)) 0 inputs t t Outside l (omega arith)

word_after : (inputs before t : ℕ) (sounds : List ℕ) → t < inputs
    → tier_word (columns_after inputs before sounds) t
    ≡ tier_after (has_tier before t) (map (λ sound. has_tier sound t) sounds)
word_after inputs before t [] l = ap (λ s. s ∷ [])
    (symbol_between inputs before 0 t l ∙ ap (boundary_symbol (has_tier before t)) (no_bit t))
word_after inputs before t (sound ∷ sounds) l =
    ap (λ s. s ∷ tier_word (columns_after inputs sound sounds) t) (symbol_between inputs before sound t l)
    ∙ ap (λ w. boundary_symbol (has_tier before t) (has_tier sound t) ∷ w) (word_after inputs sound t sounds l)

width_after : (inputs before : ℕ) (sounds : List ℕ)
    → AllByRecursion (λ column. length column ≡ inputs) (columns_after inputs before sounds)
width_after inputs before [] = (
  length-map-range_with_len
      (λ tier. boundary_symbol (has_tier before tier) (has_tier 0 tier)) 0 inputs,
  tt,
)
width_after inputs before (sound ∷ sounds) = (
  length-map-range_with_len (λ tier. boundary_symbol (has_tier before tier) (has_tier sound tier)) 0 inputs,
  width_after inputs sound sounds,
)

-- what letters spell is well formed
pub spelled_form : (inputs : ℕ) (sounds : List ℕ) → IsWellFormed inputs (columns_after inputs 0 sounds)
spelled_form inputs sounds = record {
  one_width = width_after inputs 0 sounds;
  each_tier = λ t l. well_formed_from_runs _
      (ap (runs false) (word_after inputs 0 t sounds l
      ∙ ap (λ b. tier_after b (map (λ sound. has_tier sound t) sounds)) (no_bit t))
      ∙ runs_after false (map (λ sound. has_tier sound t) sounds));
}

-- and has the constituents of the letters
pub spelled_drawn : (inputs t : ℕ) (sounds : List ℕ) → t < inputs
    → constituents (tier_word (columns_after inputs 0 sounds) t) ≡ spelled_on t sounds
spelled_drawn inputs t sounds l = ap (constituents_from 0) (word_after inputs 0 t sounds l)
    ∙ constituents_after (has_tier 0 t) 0 (map (λ sound. has_tier sound t) sounds) ∙ sym (pairs_of_numbers t 0 sounds)

pub length_after : (inputs before : ℕ) (sounds : List ℕ)
    → length (columns_after inputs before sounds) ≡ 1 + length sounds
length_after inputs before [] = refl
length_after inputs before (sound ∷ sounds) = let n = length_after inputs sound sounds in omega arith

-- a mask with a tier has one below a bound that it is within
record Tier (inputs mask : ℕ) : Type 0 where
  at : ℕ
  there : at < inputs
  has : has_tier mask at ≡ true

by_parity : (inputs mask : ℕ) → (mask % 2 ≡ 1) ⊎ (mask % 2 ≡ 0) → (mask % 2 ≡ 0 → Tier inputs (mask / 2))
    → Tier (suc inputs) mask
by_parity inputs mask (inl odd) half = record
    { at = 0; there = omega arith; has = ap (λ n. n == 1) (bit_at_lowest mask ∙ odd) }
by_parity inputs mask (inr even) half =
    let t = half even in
    record {
      at = suc t.at;
      there = let k = t.there in omega arith;
      has = ap (λ n. n == 1) (bit_at-suc mask t.at)
          ∙ t.has;
    }

a_tier : (inputs mask : ℕ) → 0 < mask → mask < 2 ^ inputs → Tier inputs mask
a_tier zero mask h l = absurd (omega arith)
a_tier (suc inputs) mask h l = by_parity inputs mask (odd_or_even mask)
    (λ even. a_tier inputs (mask / 2) (omega arith) (omega arith))

edge_before : (a b : Bool) → a ≡ true → is_edge (boundary_symbol a b) ≡ true
edge_before true true h = refl
edge_before true false h = refl
edge_before false b h = cc

edge_after : (a b : Bool) → b ≡ true → is_edge (boundary_symbol a b) ≡ true
edge_after true true h = refl
edge_after false true h = refl
edge_after a false h = cc

edge_at : (inputs before after t : ℕ) → t < inputs → is_edge (boundary_symbol (has_tier before t) (has_tier after t))
    ≡ true
    → has_edge (column_between inputs before after) ≡ true
edge_at inputs before after t l h =
    let n = length-map-range_with_len (λ tier. boundary_symbol (has_tier before tier) (has_tier after tier)) 0 inputs in
    list_any_at is_edge (column_between inputs before after) t Outside (omega arith)
    (ap is_edge (symbol_between inputs before after t l) ∙ h)

abbrev pub IsSound : ℕ → ℕ → Type 0
IsSound inputs sound = (0 < sound) × (sound < 2 ^ inputs)

before_edge : (inputs before after : ℕ) → IsSound inputs before → has_edge (column_between inputs before after) ≡ true
before_edge inputs before after s = let t = a_tier inputs before s.0 s.1 in edge_at inputs before after t.at t.there
    (edge_before _ _ t.has)

after_edge : (inputs before after : ℕ) → IsSound inputs after → has_edge (column_between inputs before after) ≡ true
after_edge inputs before after s = let t = a_tier inputs after s.0 s.1 in edge_at inputs before after t.at t.there
    (edge_after _ _ t.has)

reduced_after : (inputs before : ℕ) (sounds : List ℕ) → IsSound inputs before → AllByRecursion (IsSound inputs) sounds
    → IsReduced (columns_after inputs before sounds)
reduced_after inputs before [] s h = (before_edge inputs before 0 s, tt)
reduced_after inputs before (sound ∷ sounds) s h =
    (before_edge inputs before sound s, reduced_after inputs sound sounds h.0 h.1)

-- each column has an edge
pub spelled_reduced : (inputs : ℕ) (sounds : List ℕ) → 0 < length sounds → AllByRecursion (IsSound inputs) sounds
    → IsReduced (columns_after inputs 0 sounds)
spelled_reduced inputs [] l h = absurd (omega arith)
spelled_reduced inputs (sound ∷ sounds) l h = (after_edge inputs 0 sound h.0, reduced_after inputs sound sounds h.0 h.1)

pub spelled_size : (inputs : ℕ) (sounds : List ℕ) → 0 < length sounds
    → length (columns_after inputs 0 sounds) ≡ columns_for sounds
spelled_size inputs [] l = absurd (omega arith)
spelled_size inputs (sound ∷ sounds) l = let n = length_after inputs sound sounds in omega arith

abbrev tiers_of : Option Letter → ℕ
tiers_of o = unwrap_or (option_map (λ letter. letter.tiers) o) 0

sound_at : (inputs : ℕ) (t : Bool) (letter : Letter) (o : Option Letter) → HasSound inputs letter
    → (is_some o ≡ true → IsSound inputs (tiers_of o)) → is_some (cond t (Some letter) o) ≡ true
    → IsSound inputs (tiers_of (cond t (Some letter) o))
sound_at inputs true letter o h k e = (h.some, h.within)
sound_at inputs false letter o h k e = k e

letter_sound : (inputs : ℕ) (letters : List Letter) (b : ℕ) → AllByRecursion (HasSound inputs) letters
    → is_some (letter_of letters b) ≡ true → IsSound inputs (sound_of letters b)
letter_sound inputs [] b h e = cc
letter_sound inputs (letter ∷ letters) b h e = sound_at inputs (letter.byte == b) letter (letter_of letters b) h.0
    (letter_sound inputs letters b h.1) e

sounds_by : (inputs : ℕ) (letters : List Letter) (word : List ℕ) → AllByRecursion (HasSound inputs) letters
    → list_any (λ b. not (is_some (letter_of letters b))) word ≡ false
    → AllByRecursion (IsSound inputs) (map (sound_of letters) word)
sounds_by inputs letters [] h e = tt
sounds_by inputs letters (b ∷ word) h e =
    let each = or_parts (not (is_some (letter_of letters b)))
    (list_any (λ x. not (is_some (letter_of letters x))) word) e in
    (letter_sound inputs letters b h (not-false _ each.0), sounds_by inputs letters word h each.1)

-- each letter of a word has a sound
pub sounds_are : (inputs : ℕ) (letters : List Letter) (word : List ℕ) → All (HasSound inputs) letters
    → list_any (λ b. not (is_some (letter_of letters b))) word ≡ false
    → AllByRecursion (IsSound inputs) (map (sound_of letters) word)
sounds_are inputs letters word h e = sounds_by inputs letters word (recursion_from_All (HasSound inputs) letters h) e

-- a fact of the one value that may be returned
pub ok_at : {X E : Type 0} (x : X) (Q : E → Type 0) (P : X → Type 0) (r : Result X E) → MatchResult r (λ t. t ≡ x) Q
    → P x → IfOk r P
ok_at x Q P (Ok t) h p = subst P (sym h) p
ok_at x Q P (Err e) h p = tt

-- what a word with letters spells
pub spelled_by : (letters : List Letter) (inputs : ℕ) (bytes : List ℕ) → unknown_letter letters (drop 1 bytes) ≡ None
    → length (drop 1 bytes) ≤ 63 → 0 < length (drop 1 bytes)
    → IsSpelledBy letters inputs bytes (columns_after inputs 0 (sounds_of letters bytes))
spelled_by letters inputs bytes known few some =
    let n = length-map (drop 1 bytes) (sound_of letters) in
    record {
      known = known;
      few = omega arith;
      size = spelled_size inputs (sounds_of letters bytes) (omega arith);
      form = spelled_form inputs (sounds_of letters bytes);
      drawn = λ t l. spelled_drawn inputs t (sounds_of letters bytes) l;
    }

pub spelled_edges : (letters : List Letter) (inputs : ℕ) (bytes : List ℕ) → All (HasSound inputs) letters
    → unknown_letter letters (drop 1 bytes) ≡ None → 0 < length (drop 1 bytes)
    → IsReduced (columns_after inputs 0 (sounds_of letters bytes))
spelled_edges letters inputs bytes sounds known some =
    let n = length-map (drop 1 bytes) (sound_of letters) in
    spelled_reduced inputs (sounds_of letters bytes) (omega arith)
    (sounds_are inputs letters (drop 1 bytes) sounds
    (none_any (λ b. not (is_some (letter_of letters b))) (drop 1 bytes) known))

-- the word without letters
pub spelled_nothing : (letters : List Letter) (inputs : ℕ) (bytes : List ℕ) → drop 1 bytes ≡ []
    → IsSpelledBy letters inputs bytes []
spelled_nothing letters inputs bytes e = record {
  known = ap (unknown_letter letters) e;
  few = subst (λ (w : List ℕ). length (map (sound_of letters) w) ≤ 63) (sym e) (omega arith);
  size = ap (λ w. columns_for (map (sound_of letters) w)) (sym e);
  form = record { one_width = tt; each_tier = λ t l. well_formed_from_runs [] refl };
  drawn = λ t l. ap (λ w. spelled_on t (map (sound_of letters) w)) (sym e);
}
