-- Columns of a class by the tiers that they leave open.
use Rattle.std.proofs.Common.{◌≡◌, ◌↔◌, ℕ, zero, suc, ◌+◌, ◌^◌, ◌<◌, ◌≤◌, Bool, true, false, not, ◌&&◌, cond}
use Rattle.std.proofs.Common.{IsTrue, List, [], ◌∷◌, ◌++◌, length, refl, ap, ap₂, sym, ◌∙◌, subst, arith, ⊎_elim}
use Rattle.std.proofs.{Common.{All, Contains}, lemmas.Bool.{false≢true, and_parts, and_from, cases_lt}}
use Rattle.std.proofs.lemmas.List.{map-append, length-map, length_push}
use Rattle.std.proofs.lemmas.List.Elements.{All-contains, Contains-append_left, Contains-push}
use Rattle.std.proofs.lemmas.List.FromFn.{map-range_with_len_more, length-map-range_with_len}
use Rattle.tier_core.specs.{declared.class.Class.Class, declared.sym.Sym.Sym, Classes.{sets_of, has}}
use Rattle.tier_core.specs.{Kinds.open_tiers, Scan.opens, Sets.is_in, Tiers.{has_tier, tiers_below, tiers_of}}
use Rattle.tier_core.specs.Timelines.{symbol}
use Rattle.tier_core.proofs.MaskBits.{AreBits, bits_of, open_bits, same_mask}
use Rattle.violation.proofs.KindBits.{told_same}
use Rattle.kind_moves.specs.Leaving.{opened_among}
use Rattle.kind_moves.proofs.MaskSteps.{tiers_more, tiers_same}

-- ---- the tiers of a mask

listed_tier : (mask n t : ℕ) → t < n → has_tier mask t ≡ true → Contains (tiers_below mask n) t
listed_tier mask zero t l h = absurd (omega arith)
listed_tier mask (suc n) t l h = ⊎_elim
    (λ below. Contains-append_left (tiers_below mask n) (cond (has_tier mask n) (n ∷ []) []) t
    (listed_tier mask n t below h))
    (λ above. let at : t ≡ n = omega arith in
    subst (λ m. Contains (tiers_below mask n ++ cond (has_tier mask n) (n ∷ []) []) m) (sym at)
    (subst (λ b. Contains (tiers_below mask n ++ cond b (n ∷ []) []) n) (sym (ap (has_tier mask) (sym at) ∙ h))
    (Contains-push (tiers_below mask n) n)))
    (cases_lt t n)

-- each tier of a mask is below what all are below
pub tier_within : (mask width t : ℕ) → All (λ t. t < width) (tiers_of mask) → t < 12 → has_tier mask t ≡ true
    → t < width
unfolding tiers_of
tier_within mask width t all l h = All-contains (λ t. t < width) (tiers_below mask 12) t all (listed_tier mask 12 t l h)

-- ---- one tier after another

last_same : (xs ys : List Bool) (a b : Bool) → (xs ++ a ∷ []) ≡ (ys ++ b ∷ []) → length xs ≡ length ys
    → (xs ≡ ys) × (a ≡ b)
last_same [] [] a b e l = (refl, cc)
last_same [] (y ∷ ys) a b e l = absurd (omega arith)
last_same (x ∷ xs) [] a b e l = absurd (omega arith)
last_same (x ∷ xs) (y ∷ ys) a b e l =
    let head : x ≡ y = cc in
    let tail : (xs ++ a ∷ []) ≡ (ys ++ b ∷ []) = cc in
    let rest : (xs ≡ ys) × (a ≡ b) = last_same xs ys a b tail (omega arith) in
    (ap₂ (λ z zs. z ∷ zs) head rest.0, rest.1)

left_here : (flag b : Bool) → cond flag b (not b) ≡ true → b ≡ flag
left_here true b h = h
left_here false true h = absurd (false≢true h)
left_here false false h = refl

here_left : (flag b : Bool) → b ≡ flag → cond flag b (not b) ≡ true
here_left true b h = h
here_left false true h = absurd (false≢true (sym h))
here_left false false h = refl

-- the columns of a class that leave the tiers of a mask below n open as flags say
pub record AreLeft (class rest : Class) (tiers opened n next : ℕ) : Type 0 where
  pub count : next ≡ length (tiers_below tiers n)
  pub few : next ≤ n
  pub width : length (sets_of rest) ≡ length (sets_of class)
  pub columns : (column : List Sym) → IsTrue (has rest column)
      ↔ (IsTrue (has class column) × (opened_among (tiers_below tiers n) column ≡ open_tiers next opened))

pub left_none : (class : Class) (tiers opened : ℕ) → AreLeft class class tiers opened 0 0
left_none class tiers opened = record {
  count = refl;
  few = omega arith;
  width = refl;
  columns = λ column. (λ h. (h, refl), λ h. h.0);
}

pub left_more : (class rest more : Class) (tiers opened n next set : ℕ) (flag : Bool)
    → AreLeft class rest tiers opened n next → has_tier tiers n ≡ true → flag ≡ has_tier opened next
    → length (sets_of more) ≡ length (sets_of rest)
    → ((column : List Sym) → has more column ≡ (has rest column && is_in set (symbol column n)))
    → ((s : Sym) → is_in set s ≡ cond flag (opens s) (not (opens s)))
    → AreLeft class more tiers opened (n + 1) (next + 1)
left_more class rest more tiers opened n next set flag a h is wide has_more symbols =
    let tb = tiers_below tiers n in
    let flags_more : open_tiers (next + 1) opened ≡ open_tiers next opened ++ has_tier opened next ∷ [] =
    map-range_with_len_more (has_tier opened) 0 next next (omega arith) in
    let among_more : (column : List Sym) → opened_among (tiers_below tiers (n + 1)) column
    ≡ opened_among tb column ++ opens (symbol column n) ∷ [] =
    λ column. ap (λ ts. opened_among ts column) (tiers_more tiers n h)
    ∙ map-append (λ t. opens (symbol column t)) tb (n ∷ []) in
    record {
      count = omega (arith, a.count, ap length (tiers_more tiers n h), length_push tb n);
      few = omega (arith, a.few);
      width = wide ∙ a.width;
      columns = λ column. (
        λ m.
            let parts = and_parts (has rest column) (is_in set (symbol column n)) (sym (has_more column) ∙ m) in
            let before = (a.columns column).0 parts.0 in
            let here = left_here flag (opens (symbol column n)) (sym (symbols (symbol column n)) ∙ parts.1) ∙ is in (
              before.0,
              among_more column ∙ ap₂ (λ xs x. xs ++ x ∷ []) before.1 here ∙ sym flags_more,
            ),
        λ p.
            let size : length (opened_among tb column) ≡ length (open_tiers next opened) =
            length-map tb (λ t. opens (symbol column t)) ∙ sym a.count
            ∙ sym (length-map-range_with_len (has_tier opened) 0 next) in
            let both = last_same (opened_among tb column) (open_tiers next opened) (opens (symbol column n))
            (has_tier opened next) (sym (among_more column) ∙ p.1 ∙ flags_more) size in
            has_more column ∙ and_from (has rest column) (is_in set (symbol column n))
            ((a.columns column).1 (p.0, both.0))
            (symbols (symbol column n) ∙ here_left flag (opens (symbol column n)) (both.1 ∙ sym is)),
      );
    }

pub left_same : (class rest : Class) (tiers opened n next : ℕ) → AreLeft class rest tiers opened n next
    → has_tier tiers n ≡ false → AreLeft class rest tiers opened (n + 1) next
left_same class rest tiers opened n next a h =
    let same = sym (tiers_same tiers n h) in
    record {
      count = a.count ∙ ap length same;
      few = omega (arith, a.few);
      width = a.width;
      columns = λ column. subst (λ ts. IsTrue (has rest column) ↔ (IsTrue (has class column)
          × (opened_among ts column ≡ open_tiers next opened))) same (a.columns column);
    }

-- when all tiers are done
pub left_all : (class rest : Class) (tiers opened n next : ℕ) → AreLeft class rest tiers opened n next → n ≡ 12
    → (column : List Sym) → IsTrue (has rest column) ↔ (IsTrue (has class column)
    × (opened_among (tiers_of tiers) column ≡ open_tiers (length (tiers_of tiers)) opened))
unfolding tiers_of
left_all class rest tiers opened n next a e column =
    subst (λ m. IsTrue (has rest column) ↔ (IsTrue (has class column)
    × (opened_among (tiers_below tiers m) column ≡ open_tiers (length (tiers_below tiers m)) opened))) e
    (subst (λ k. IsTrue (has rest column) ↔ (IsTrue (has class column)
    × (opened_among (tiers_below tiers n) column ≡ open_tiers k opened))) a.count (a.columns column))

-- ---- the number of the tiers that a column leaves open

-- the number whose bits are the tiers that are open after a column
pub left_number : List ℕ → List Sym → ℕ
left_number tiers column = (bits_of (opened_among tiers column)).0

number_bits : (tiers : List ℕ) (column : List Sym) → AreBits (opened_among tiers column) (left_number tiers column)
unfolding left_number
number_bits tiers column = (bits_of (opened_among tiers column)).1

pub number_below : (tiers : List ℕ) (column : List Sym) → left_number tiers column < 2 ^ length tiers
number_below tiers column =
    let Below : ℕ → Type 0 = λ n. left_number tiers column < 2 ^ n in
    subst Below (length-map tiers (λ t. opens (symbol column t))) (number_bits tiers column).within

number_told : (tiers : List ℕ) (column : List Sym)
    → open_tiers (length tiers) (left_number tiers column) ≡ opened_among tiers column
number_told tiers column =
    ap (λ n. open_tiers n (left_number tiers column)) (sym (length-map tiers (λ t. opens (symbol column t))))
    ∙ open_bits (opened_among tiers column) (left_number tiers column) (number_bits tiers column)

-- what a column leaves open is told by its number
pub flags_by_number : (tiers : List ℕ) (column : List Sym) (opened : ℕ) → opened < 2 ^ length tiers
    → (opened_among tiers column ≡ open_tiers (length tiers) opened) ↔ (left_number tiers column ≡ opened)
flags_by_number tiers column opened l = (
  λ e. same_mask (left_number tiers column) opened (length tiers) (number_below tiers column) l
      (λ i h. told_same (has_tier (left_number tiers column)) (has_tier opened) (length tiers) i false
      (number_told tiers column ∙ e) h),
  λ e. sym (number_told tiers column) ∙ ap (open_tiers (length tiers)) e,
)
