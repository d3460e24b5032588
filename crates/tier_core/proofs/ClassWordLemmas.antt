-- Sets in the word of a class: one is put, two words are met.
use Rattle.std.proofs.Common.{◌≡◌, ◌≢◌, ℕ, ◌+◌, ◌-◌, ◌*◌, ◌/◌, ◌%◌, ◌^◌, ◌<◌, ◌≤◌, List, length, get_or, bit_and}
use Rattle.std.proofs.{Common.{bit_xor, ap, sym, ◌∙◌, subst, arith, ⊎_elim}, Math.Nat.{div-eq_of_lt, mod-eq_of_lt}}
use Rattle.std.proofs.{Math.Pow.{pow_mono, mod-mod-pow}, lemmas.Bool.cases_lt}
use Rattle.std.proofs.lemmas.List.FromFn.{length-map-range_with_len, get_or-map-range_with_len, fill_by_all}
use Rattle.std.proofs.lemmas.Nat.{pow_pos, shl-shr, shl_whole, xor_lt, xor_shr, xor_mod, field_of, mod_low}
use Rattle.std.proofs.lemmas.Nat.{shl_below, pow-add, and_shr, and_mod}
use Rattle.std.specs.Int.Bits.{xor_assoc, xor_self, xor_zero_l, xor_zero_r, and_self}
use Rattle.tier_core.specs.ClassWords.{width_in, set_in, sets_in, below_in}

-- ---- what a word has

pub width_from : (word n : ℕ) → n ≤ 12 → below_in word n ≡ n → width_in word ≡ n
width_from word n few e =
    let parts : 64 - 5 * n ≡ (60 - 5 * n) + 4 = omega arith in
    sym (mod-mod-pow word (60 - 5 * n) 4) ∙ ap (λ j. word % 2 ^ j % 2 ^ 4) (sym parts) ∙ ap (λ x. x % 2 ^ 4) e
    ∙ mod-eq_of_lt (omega arith)

-- no sets stand above a small number
pub starts_with : (n : ℕ) → n ≤ 12 → below_in n n ≡ n
starts_with n few =
    let small : 2 ^ 4 ≤ 2 ^ (64 - 5 * n) = pow_mono {i = 4} {j = 64 - 5 * n} (omega arith) in
    mod-eq_of_lt (omega arith)

pub length_in : (word n : ℕ) → length (sets_in word n) ≡ n
length_in word n = length-map-range_with_len (set_in word) 0 n

pub get_in : (word n t : ℕ) → t < n → get_or (sets_in word n) t 0 ≡ set_in word t
get_in word n t l = get_or-map-range_with_len (set_in word) 0 n t t 0 l (omega arith)

pub sets_from : (word n : ℕ) (sets : List ℕ) → length sets ≡ n → ((t : ℕ) → t < n → set_in word t ≡ get_or sets t 0)
    → sets_in word n ≡ sets
sets_from word n sets e h = sym (fill_by_all (set_in word) sets n 0 e (λ t l. sym (h t l)))

-- ---- five bits are turned

module _ (w d k : ℕ) (few : d < 2 ^ 5) where
  turned_here : bit_xor w (d * 2 ^ k) / 2 ^ k % 2 ^ 5 ≡ bit_xor (w / 2 ^ k % 2 ^ 5) d
  turned_here =
      ap (λ x. x % 2 ^ 5) (xor_shr w (d * 2 ^ k) k ∙ ap (bit_xor (w / 2 ^ k)) (shl-shr d k))
      ∙ xor_mod (w / 2 ^ k) d 5 ∙ ap (bit_xor (w / 2 ^ k % 2 ^ 5)) (mod-eq_of_lt few)

  turned_above : (i : ℕ) → k + 5 ≤ i → bit_xor w (d * 2 ^ k) / 2 ^ i ≡ w / 2 ^ i
  turned_above i above =
      let wide : 2 ^ (5 + k) ≤ 2 ^ i = pow_mono (omega arith) in
      xor_shr w (d * 2 ^ k) i
      ∙ ap (bit_xor (w / 2 ^ i)) (div-eq_of_lt (omega (arith, shl_below d 5 k few, wide)))
      ∙ xor_zero_r (w / 2 ^ i)

  turned_below : (i : ℕ) → i ≤ k → bit_xor w (d * 2 ^ k) % 2 ^ i ≡ w % 2 ^ i
  turned_below i below =
      let parts : k ≡ (k - i) + i = omega arith in
      let whole : d * 2 ^ k ≡ d * 2 ^ (k - i) * 2 ^ i + 0 = ap (λ j. d * 2 ^ j) parts
      ∙ ap (λ x. d * x) (pow-add 2 (k - i) i) ∙ omega arith in
      xor_mod w (d * 2 ^ k) i
      ∙ ap (bit_xor (w % 2 ^ i)) (ap (λ x. x % 2 ^ i) whole ∙ mod_low (d * 2 ^ (k - i)) i 0 (pow_pos i))
      ∙ xor_zero_r (w % 2 ^ i)

  -- the shifted bits fit
  turned_fits : k + 5 ≤ 64 → d * 2 ^ k % 2 ^ 64 ≡ d * 2 ^ k
  turned_fits h = shl_whole d 5 k 64 few (omega arith)

-- ---- the set of a tier is put

module _ (w x s t : ℕ) (inside : t < 12) (is : x ≡ bit_xor (set_in w t) s) (few : s < 32) where
  x_few : x < 2 ^ 5
  x_few = subst (λ y. y < 2 ^ 5) (sym is) (xor_lt 5 (set_in w t) s (omega arith) few)

  put_is : bit_xor w (x * 2 ^ (59 - 5 * t) % 2 ^ 64) ≡ bit_xor w (x * 2 ^ (59 - 5 * t))
  put_is = ap (bit_xor w) (turned_fits w x (59 - 5 * t) x_few (omega arith))

  pub put_here : set_in (bit_xor w (x * 2 ^ (59 - 5 * t) % 2 ^ 64)) t ≡ s
  put_here =
      ap (λ v. set_in v t) put_is ∙ turned_here w x (59 - 5 * t) x_few ∙ ap (bit_xor (set_in w t)) is
      ∙ sym (xor_assoc (set_in w t) (set_in w t) s) ∙ ap (λ v. bit_xor v s) (xor_self (set_in w t)) ∙ xor_zero_l s

  pub put_others : (r : ℕ) → r < 12 → r ≢ t → set_in (bit_xor w (x * 2 ^ (59 - 5 * t) % 2 ^ 64)) r ≡ set_in w r
  put_others r other apart = ap (λ v. set_in v r) put_is ∙ ⊎_elim before behind (cases_lt r t)
    where
      before : r < t → set_in (bit_xor w (x * 2 ^ (59 - 5 * t))) r ≡ set_in w r
      before l = ap (λ v. v % 2 ^ 5) (turned_above w x (59 - 5 * t) x_few (59 - 5 * r) (omega arith))

      behind : t ≤ r → set_in (bit_xor w (x * 2 ^ (59 - 5 * t))) r ≡ set_in w r
      behind l =
          sym (field_of (bit_xor w (x * 2 ^ (59 - 5 * t))) 5 (59 - 5 * r))
          ∙ ap (λ v. v / 2 ^ (59 - 5 * r)) (turned_below w x (59 - 5 * t) x_few (5 + (59 - 5 * r)) (omega arith))
          ∙ field_of w 5 (59 - 5 * r)

  pub put_below : (n : ℕ) → t < n → n ≤ 12 → below_in (bit_xor w (x * 2 ^ (59 - 5 * t) % 2 ^ 64)) n ≡ below_in w n
  put_below n l few_n = ap (λ v. below_in v n) put_is ∙ turned_below w x (59 - 5 * t) x_few (64 - 5 * n) (omega arith)

-- ---- two words are met

pub met_at : (a b t : ℕ) → set_in (bit_and a b) t ≡ bit_and (set_in a t) (set_in b t)
met_at a b t = ap (λ x. x % 2 ^ 5) (and_shr a b (59 - 5 * t)) ∙ and_mod (a / 2 ^ (59 - 5 * t)) (b / 2 ^ (59 - 5 * t)) 5

pub met_below : (a b n : ℕ) → below_in a n ≡ n → below_in b n ≡ n → below_in (bit_and a b) n ≡ n
met_below a b n ea eb = and_mod a b (64 - 5 * n) ∙ ap (λ x. bit_and x (below_in b n)) ea ∙ ap (bit_and n) eb
    ∙ and_self n
