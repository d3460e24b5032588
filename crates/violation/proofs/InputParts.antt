-- The input part of a column is compared with a column of a form, tier by tier.
use Rattle.std.proofs.Common.{◌≡◌, ℕ, suc, ◌+◌, ◌<◌, ◌≤◌, ◌↔◌, Bool, true, false, ◌&&◌, cond, IsTrue, List, [], ◌∷◌}
use Rattle.std.proofs.Common.{◌++◌, map, drop, length, get_or, refl, ap, ap₂, sym, ◌∙◌, arith}
use Rattle.std.proofs.lemmas.Bool.{and_parts, and_from, false≢true}
use Rattle.std.proofs.lemmas.List.{at_drop_more, drop_all, length-drop}
use Rattle.tier_core.specs.{declared.sym.Sym.Sym, declared.sym.Sym.TheVariants.Outside}
use Rattle.tier_core.specs.{declared.tier.TierKind.TierKind, Sets.{is_in, single_set}, Tiers.{is_input, numbers_from}}
use Rattle.tier_core.specs.Timelines.{symbol}
use Rattle.tier_core.proofs.SetLemmas.{alone_in, only_in}
use Rattle.violation.proofs.CandidateLemmas.{part_from, part_end}

-- one tier of the part
pub part_step : (kinds : List TierKind) (column : List Sym) (k : ℕ) (d : TierKind) (b : Bool) → k < length kinds
    → is_input (get_or kinds k d) ≡ b
    → part_from kinds column k ≡ cond b (symbol column k ∷ part_from kinds column (k + 1))
    (part_from kinds column (k + 1))
part_step kinds column k d b l h =
    let one : suc k ≡ k + 1 = omega arith in
    at_drop_more (λ ks. map (symbol column) (numbers_from is_input k ks)) kinds k d l
    ∙ ap (λ c. map (symbol column) (cond c (k ∷ []) [] ++ numbers_from is_input (suc k) (drop (k + 1) kinds))) h
    ∙ ap (λ n. map (symbol column) (cond b (k ∷ []) [] ++ numbers_from is_input n (drop (k + 1) kinds))) one
    ∙ by b
  where
    by : (b : Bool) → map (symbol column) (cond b (k ∷ []) [] ++ numbers_from is_input (k + 1) (drop (k + 1) kinds))
        ≡ cond b (symbol column k ∷ part_from kinds column (k + 1)) (part_from kinds column (k + 1))
    by true = refl
    by false = refl

-- So far a class is narrowed, the tiers from k on are to read what is left of the form, and both together
-- are to say the whole.
abbrev pub ReadsOn : Bool → Type 0 → List TierKind → List Sym → List Sym → ℕ → ℕ → Type 0
ReadsOn rest Whole kinds column form k next =
    (IsTrue rest × (part_from kinds column k ≡ drop next form)) ↔ Whole

head_same : (x y : Sym) (xs ys : List Sym) → (x ∷ xs) ≡ (y ∷ ys) → x ≡ y
head_same x y xs ys e = cc

tail_same : (x y : Sym) (xs ys : List Sym) → (x ∷ xs) ≡ (y ∷ ys) → xs ≡ ys
tail_same x y xs ys e = cc

pub reads_more : {Whole : Type 0} (after rest : Bool) (kinds : List TierKind) (column form : List Sym)
    (k next set : ℕ) (d : TierKind)
    → k < length kinds → is_input (get_or kinds k d) ≡ true
    → next < length form → set ≡ single_set (symbol form next) → after ≡ (rest && is_in set (symbol column k))
    → ReadsOn rest Whole kinds column form k next → ReadsOn after Whole kinds column form (k + 1) (next + 1)
reads_more after rest kinds column form k next set d l h within alone e so_far =
    let here = part_step kinds column k d true l h in
    let read : drop next form ≡ symbol form next ∷ drop (next + 1) form =
    at_drop_more (λ xs. xs) form next Outside within in
    let same = e ∙ ap (λ x. rest && is_in x (symbol column k)) alone in (
      λ p. let parts = and_parts rest (is_in (single_set (symbol form next)) (symbol column k)) (sym same ∙ p.0) in
          so_far.0 (
            parts.0,
            here ∙ ap₂ (λ x xs. x ∷ xs) (only_in (symbol form next) (symbol column k) parts.1) p.1 ∙ sym read,
          ),
      λ p. let q = so_far.1 p in
          let both : (symbol column k ∷ part_from kinds column (k + 1)) ≡ (symbol form next ∷ drop (next + 1) form) =
          sym here ∙ q.1 ∙ read in (
            same ∙ and_from rest (is_in (single_set (symbol form next)) (symbol column k)) q.0
                (ap (is_in (single_set (symbol form next))) (head_same _ _ _ _ both) ∙ alone_in (symbol form next)),
            tail_same _ _ _ _ both,
          ),
    )

pub reads_same : {Whole : Type 0} (rest : Bool) (kinds : List TierKind) (column form : List Sym) (k next : ℕ)
    (d : TierKind)
    → k < length kinds → is_input (get_or kinds k d) ≡ false
    → ReadsOn rest Whole kinds column form k next → ReadsOn rest Whole kinds column form (k + 1) next
reads_same rest kinds column form k next d l h so_far =
    let here = part_step kinds column k d false l h in
    (λ p. so_far.0 (p.0, here ∙ p.1), λ p. let q = so_far.1 p in (q.0, sym here ∙ q.1))

-- where no tier is left, none of the form may be left
pub reads_all : {Whole : Type 0} (rest : Bool) (kinds : List TierKind) (column form : List Sym) (k next : ℕ)
    → length kinds ≤ k → length form ≤ next → ReadsOn rest Whole kinds column form k next → IsTrue rest ↔ Whole
reads_all rest kinds column form k next l m so_far = (
  λ h. so_far.0 (h, part_end kinds column k l ∙ sym (drop_all next form m)),
  λ p. (so_far.1 p).0,
)

-- where more of the form is left than of the tiers, no column reads it
pub reads_none : {Whole : Type 0} (none rest : Bool) (kinds : List TierKind) (column form : List Sym) (k next : ℕ)
    → length kinds ≤ k → next < length form → none ≡ false
    → ReadsOn rest Whole kinds column form k next → IsTrue none ↔ Whole
reads_none none rest kinds column form k next l within e so_far = (
  λ h. absurd (false≢true (sym e ∙ h)),
  λ p. let q = so_far.1 p in absurd (omega (
    arith,
    ap length (sym q.1 ∙ part_end kinds column k l),
    length-drop next form,
  )),
)
