-- Masks that loops make tier by tier.
use Rattle.std.proofs.Common.{subst, ◌≡◌, ◌≢◌, ℕ, zero, suc, ◌+◌, ◌-◌, ◌^◌, ◌==◌, ◌<◌, ◌≤◌, ◌||◌, not, nat_eq, Bool}
use Rattle.std.proofs.Common.{true, false, cond, List, [], ◌∷◌, ◌++◌, map, min, length, refl, ap, sym, ◌∙◌, arith}
use Rattle.std.proofs.{Common.{add-one, ⊎_elim, eq-eqb, ne_eqb, bit_and, bit_or}, lemmas.Bool.cases_lt}
use Rattle.std.proofs.lemmas.List.{append-nil, map-append, length_push, get_or_past}
use Rattle.std.proofs.lemmas.List.FromFn.{fill_by_all, length-map-range_with_len, get_or-map-range_with_len}
use Rattle.std.proofs.{lemmas.List.FromFn.map-range_with_len_more, lemmas.Nat.pow_below}
use Rattle.std.proofs.lemmas.Nat.Bits.{bit_at_and, bit_at_ones, bit_at_or, bit_at-lt}
use Rattle.std.specs.{Int.bit_at, List.{AllByRecursion, list_any}}
use Rattle.tier_core.specs.{declared.sym.Sym.Sym, declared.sym.Sym.TheVariants.Outside, Kinds.open_tiers, Scan.opens}
use Rattle.tier_core.specs.{Timelines.symbol, Tiers.{has_tier, tiers_below, tiers_of}}
use Rattle.tier_core.proofs.{CountLemmas.{all_append, all_weaker}, MaskBits.{none_from, no_flag, most_one}}
use Rattle.violation.specs.Moves.{flag_of}

-- a tier of either mask is one of both
pub or_tier : (a b t : ℕ) → has_tier (bit_or a b) t ≡ (has_tier a t || has_tier b t)
or_tier a b t = ap (λ n. n == 1) (bit_at_or a b t) ∙ most_one (bit_at a t) (bit_at b t) (bit_at-lt a t)
    (bit_at-lt b t)

pub tiers_more : (tiers n : ℕ) → has_tier tiers n ≡ true → tiers_below tiers (n + 1) ≡ tiers_below tiers n ++ n ∷ []
tiers_more tiers n h = ap (tiers_below tiers) (add-one n) ∙ ap (λ b. tiers_below tiers n ++ cond b (n ∷ []) []) h

pub tiers_same : (tiers n : ℕ) → has_tier tiers n ≡ false → tiers_below tiers (n + 1) ≡ tiers_below tiers n
tiers_same tiers n h = ap (tiers_below tiers) (add-one n) ∙ ap (λ b. tiers_below tiers n ++ cond b (n ∷ []) []) h
    ∙ append-nil (tiers_below tiers n)

pub tiers_lower : (tiers n : ℕ) → AllByRecursion (λ t. t < n) (tiers_below tiers n)
tiers_lower tiers zero = tt
tiers_lower tiers (suc n) = all_append (λ t. t < suc n) (tiers_below tiers n) (cond (has_tier tiers n) (n ∷ []) [])
    (all_weaker (λ t. t < n) (λ t. t < suc n) (tiers_below tiers n) (λ t h. omega arith) (tiers_lower tiers n))
    (own (has_tier tiers n))
  where
    own : (b : Bool) → AllByRecursion (λ t. t < suc n) (cond b (n ∷ []) [])
    own true = (omega arith, tt)
    own false = tt

bit_and_one : (x : ℕ) → x < 2 → min x 1 ≡ x
bit_and_one zero l = refl
bit_and_one (suc zero) l = refl
bit_and_one (suc (suc x)) l = absurd (omega arith)

-- the lowest bits of a mask
pub lowest_at : (mask count ones t : ℕ) → ones ≡ 2 ^ count - 1 → t < count
    → has_tier (bit_and mask ones) t ≡ has_tier mask t
lowest_at mask count ones t is l = ap (λ n. n == 1)
    (bit_at_and mask ones t ∙ ap (λ n. min (bit_at mask t) n) (ap (λ m. bit_at m t) is ∙ bit_at_ones count t l)
    ∙ bit_and_one (bit_at mask t) (bit_at-lt mask t))

-- masks with the same lowest bits have the same flags
pub same_flags : (n a b : ℕ) → ((t : ℕ) → t < n → has_tier a t ≡ has_tier b t) → open_tiers n a ≡ open_tiers n b
same_flags n a b h = fill_by_all (has_tier b) (open_tiers n a) n false (length-map-range_with_len (has_tier a) 0 n)
    (λ k l. get_or-map-range_with_len (has_tier a) 0 n k k false l (omega arith) ∙ h k l)

-- the lowest bits of a mask are 0 exactly if it has none of so many flags
pub no_lowest : (n count mask low : ℕ) → count ≡ n → low < 2 ^ count
    → ((t : ℕ) → t < count → has_tier low t ≡ has_tier mask t)
    → nat_eq low 0 ≡ not (list_any (λ flag. flag) (open_tiers n mask))
no_lowest n count mask low same within bits =
    no_flag n low (subst (λ m. low < 2 ^ m) same within)
    ∙ ap (λ flags. not (list_any (λ flag. flag) flags)) (same_flags n low mask (λ t l. bits t (omega (arith, same))))

-- ---- flags that are laid out on tiers

-- one flag more, seen on the other tiers
flag_other : (xs : List ℕ) (flags : List Bool) (x t : ℕ) (flag : Bool) → length flags ≡ length xs → x ≢ t
    → flag_of (xs ++ x ∷ []) (flags ++ flag ∷ []) t ≡ flag_of xs flags t
flag_other [] [] x t flag e n = ap (λ b. cond b flag false) (ne_eqb x t n)
flag_other [] (f ∷ fs) x t flag e n = absurd (omega arith)
flag_other (y ∷ xs) [] x t flag e n = absurd (omega arith)
flag_other (y ∷ xs) (f ∷ fs) x t flag e n = ap (λ b. cond (y == t) f b) (flag_other xs fs x t flag (omega arith) n)

-- and on its own
flag_own : (xs : List ℕ) (flags : List Bool) (x : ℕ) (flag : Bool) → length flags ≡ length xs
    → AllByRecursion (λ t. t < x) xs → flag_of (xs ++ x ∷ []) (flags ++ flag ∷ []) x ≡ flag
flag_own [] [] x flag e a = ap (λ b. cond b flag false) (eq-eqb x x refl)
flag_own [] (f ∷ fs) x flag e a = absurd (omega arith)
flag_own (y ∷ xs) [] x flag e a = absurd (omega arith)
flag_own (y ∷ xs) (f ∷ fs) x flag e a =
    let less : y < x = a.0 in
    let other : y ≢ x = λ s. absurd (omega arith) in
    ap (λ b. cond b f (flag_of (xs ++ x ∷ []) (fs ++ flag ∷ []) x)) (ne_eqb y x other)
    ∙ flag_own xs fs x flag (omega arith) a.1

-- the flags of the tiers below n are laid out on them
pub record AreLaid (tiers flags n next laid : ℕ) : Type 0 where
  pub count : next ≡ length (tiers_below tiers n)
  pub few : next ≤ n
  pub within : laid < 2 ^ n
  pub bits : (t : ℕ) → has_tier laid t ≡ flag_of (tiers_below tiers n) (open_tiers next flags) t

-- one tier more, which takes the next flag
pub laid_more : (tiers flags n next laid more : ℕ) → AreLaid tiers flags n next laid → has_tier tiers n ≡ true
    → more < 2 ^ (n + 1) → has_tier more n ≡ has_tier flags next
    → ((t : ℕ) → t < n → has_tier more t ≡ has_tier laid t) → AreLaid tiers flags (n + 1) (next + 1) more
laid_more tiers flags n next laid more a h within here others =
    let tb = tiers_below tiers n in
    let size : length (open_tiers next flags) ≡ next = length-map-range_with_len (has_tier flags) 0 next in
    let flags_more : open_tiers (next + 1) flags ≡ open_tiers next flags ++ has_tier flags
    next ∷ [] = map-range_with_len_more (has_tier flags) 0 next next (omega arith) in
    let same : (t : ℕ) → flag_of (tiers_below tiers (n + 1)) (open_tiers (next + 1) flags) t
    ≡ flag_of (tb ++ n ∷ []) (open_tiers next flags ++ has_tier flags next ∷ []) t =
    λ t. ap (λ ts. flag_of ts (open_tiers (next + 1) flags) t) (tiers_more tiers n h)
    ∙ ap (λ fs. flag_of (tb ++ n ∷ []) fs t) flags_more in
    let other : (t : ℕ) → n ≢ t → flag_of (tiers_below tiers (n + 1)) (open_tiers (next + 1) flags) t
    ≡ has_tier laid t =
    λ t d. same t ∙ flag_other tb (open_tiers next flags) n t (has_tier flags next) (omega (arith, size, a.count)) d
    ∙ sym (a.bits t) in
    record {
      count = omega (arith, a.count, ap length (tiers_more tiers n h), length_push tb n);
      few = omega (arith, a.few);
      within = within;
      bits = λ t. ⊎_elim
          (λ below. let d : n ≢ t = λ e. absurd (omega arith) in others t below ∙ sym (other t d))
          (λ above. ⊎_elim
          (λ beyond. let d : n ≢ t = λ e. absurd (omega arith) in none_from more (n + 1) t within (omega arith)
          ∙ sym (other t d ∙ none_from laid n t a.within (omega arith)))
          (λ at. let is : t ≡ n = omega arith in
          ap (has_tier more) is ∙ here ∙ sym (ap (flag_of (tiers_below tiers (n + 1))
          (open_tiers (next + 1) flags)) is ∙ same n ∙ flag_own tb (open_tiers next flags) n (has_tier flags next)
          (omega (arith, size, a.count)) (tiers_lower tiers n)))
          (cases_lt n t))
          (cases_lt t n);
    }

pub laid_same : (tiers flags n next laid : ℕ) → AreLaid tiers flags n next laid → has_tier tiers n ≡ false
    → AreLaid tiers flags (n + 1) next laid
laid_same tiers flags n next laid a h = record {
  count = a.count ∙ sym (ap length (tiers_same tiers n h));
  few = omega (arith, a.few);
  within = let more : 2 ^ n < 2 ^ (n + 1) = pow_below n (n + 1) (omega arith) in omega (arith, a.within);
  bits = λ t. a.bits t ∙ sym (ap (λ ts. flag_of ts (open_tiers next flags) t) (tiers_same tiers n h));
}

pub laid_all : (tiers flags n next laid : ℕ) → AreLaid tiers flags n next laid → n ≡ 12 → (t : ℕ)
    → has_tier laid t ≡ flag_of (tiers_of tiers) (open_tiers (length (tiers_of tiers)) flags) t
unfolding tiers_of
laid_all tiers flags n next laid a e t =
    a.bits t ∙ ap (λ m. flag_of (tiers_below tiers n) (open_tiers m flags) t) a.count
    ∙ ap (λ m. flag_of (tiers_below tiers m) (open_tiers (length (tiers_below tiers m)) flags) t) e

-- ---- flags that are taken from tiers

-- the flags are those of the tiers below n
pub record AreTaken (tiers mask n next flags : ℕ) : Type 0 where
  pub count : next ≡ length (tiers_below tiers n)
  pub few : next ≤ n
  pub within : flags < 2 ^ next
  pub taken : open_tiers next flags ≡ map (has_tier mask) (tiers_below tiers n)

pub taken_more : (tiers mask n next flags more : ℕ) → AreTaken tiers mask n next flags → has_tier tiers n ≡ true
    → more < 2 ^ (next + 1) → has_tier more next ≡ has_tier mask n
    → ((t : ℕ) → t < next → has_tier more t ≡ has_tier flags t) → AreTaken tiers mask (n + 1) (next + 1) more
taken_more tiers mask n next flags more a h within here others =
    let tb = tiers_below tiers n in
    let same : open_tiers next flags ≡ open_tiers next more = same_flags next flags more (λ t l. sym (others t l)) in
    record {
      count = omega (arith, a.count, ap length (tiers_more tiers n h), length_push tb n);
      few = omega (arith, a.few);
      within = within;
      taken = map-range_with_len_more (has_tier more) 0 next next (omega arith)
          ∙ ap (λ fs. fs ++ has_tier more next ∷ []) (sym same ∙ a.taken)
          ∙ ap (λ b. map (has_tier mask) tb ++ b ∷ []) here
          ∙ sym (ap (map (has_tier mask)) (tiers_more tiers n h) ∙ map-append (has_tier mask) tb (n ∷ []));
    }

pub taken_same : (tiers mask n next flags : ℕ) → AreTaken tiers mask n next flags → has_tier tiers n ≡ false
    → AreTaken tiers mask (n + 1) next flags
taken_same tiers mask n next flags a h = record {
  count = a.count ∙ sym (ap length (tiers_same tiers n h));
  few = omega (arith, a.few);
  within = a.within;
  taken = a.taken ∙ sym (ap (map (has_tier mask)) (tiers_same tiers n h));
}

pub taken_all : (tiers mask n next flags : ℕ) → AreTaken tiers mask n next flags → n ≡ 12
    → open_tiers (length (tiers_of tiers)) flags ≡ map (has_tier mask) (tiers_of tiers)
unfolding tiers_of
taken_all tiers mask n next flags a e =
    ap (λ m. open_tiers (length (tiers_below tiers m)) flags) (sym e) ∙ ap (λ m. open_tiers m flags) (sym a.count)
    ∙ a.taken ∙ ap (λ m. map (has_tier mask) (tiers_below tiers m)) e

pub taken_within : (tiers mask n next flags : ℕ) → AreTaken tiers mask n next flags → n ≡ 12
    → flags < 2 ^ length (tiers_of tiers)
unfolding tiers_of
taken_within tiers mask n next flags a e =
    let P : ℕ → Type 0 = λ m. flags < 2 ^ m in
    subst P (a.count ∙ ap (λ m. length (tiers_below tiers m)) e) a.within

-- ---- the tiers that are open after a column

pub record AreOpened (column : List Sym) (n mask : ℕ) : Type 0 where
  pub within : mask < 2 ^ n
  pub bits : (t : ℕ) → t < n → has_tier mask t ≡ opens (symbol column t)

pub opened_all : (column : List Sym) (n mask : ℕ) → AreOpened column n mask → n ≡ length column → (t : ℕ)
    → has_tier mask t ≡ opens (symbol column t)
opened_all column n mask a e t = ⊎_elim (λ below. a.bits t below)
    (λ above. none_from mask n t a.within above ∙ sym (ap opens (get_or_past column t Outside (omega arith))))
    (cases_lt t n)
