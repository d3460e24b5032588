-- Reading one tier of a timeline, column by column.
use Rattle.std.proofs.Common.{◌≡◌, ℕ, ◌+◌, ◌<◌, ◌≤◌, Bool, true, false, ◌&&◌, not, List, ◌∷◌, length, get_or, drop}
use Rattle.std.proofs.{Common.{ap, sym, ◌∙◌}, lemmas.List.{drop_more, drop_all}}
use Rattle.tier_core.specs.{declared.sym.Sym.Sym, Timelines.{tier_word, symbol}, Scan.{fits, opens}}
use Rattle.tier_core.specs.Words.{IsWellFormedWord}
use Rattle.tier_core.proofs.{WordLemmas.runs, WordForm.{runs_from_well_formed, well_formed_from_runs}}

-- the next symbol, and the rest of the tier
pub next_symbol : (T : List (List Sym)) (k t : ℕ) (b : Bool) (column : List Sym) (s : Sym) → k < length T
    → column ≡ get_or T k column → s ≡ symbol column t
    → runs b (tier_word (drop k T) t) ≡ (fits b s && runs (opens s) (tier_word (drop (k + 1) T) t))
next_symbol T k t b column s l e f =
    ap (λ U. runs b (tier_word U t)) (drop_more T k column l)
    ∙ ap (λ c. runs b (symbol c t ∷ tier_word (drop (k + 1) T) t)) (sym e)
    ∙ ap (λ x. runs b (x ∷ tier_word (drop (k + 1) T) t)) (sym f)

-- a symbol that fits
pub symbol_fits : (T : List (List Sym)) (k t : ℕ) (b : Bool) (column : List Sym) (s : Sym) → k < length T
    → column ≡ get_or T k column → s ≡ symbol column t → fits b s ≡ true
    → runs b (tier_word (drop k T) t) ≡ runs (opens s) (tier_word (drop (k + 1) T) t)
symbol_fits T k t b column s l e f h = next_symbol T k t b column s l e f
    ∙ ap (λ x. x && runs (opens s) (tier_word (drop (k + 1) T) t)) h

-- one that does not
pub symbol_unfit : (T : List (List Sym)) (k t : ℕ) (b : Bool) (column : List Sym) (s : Sym) → k < length T
    → column ≡ get_or T k column → s ≡ symbol column t → fits b s ≡ false
    → runs b (tier_word (drop k T) t) ≡ false
symbol_unfit T k t b column s l e f h = next_symbol T k t b column s l e f
    ∙ ap (λ x. x && runs (opens s) (tier_word (drop (k + 1) T) t)) h

pub no_more : (T : List (List Sym)) (k t : ℕ) (b : Bool) → length T ≤ k → runs b (tier_word (drop k T) t) ≡ not b
no_more T k t b l = ap (λ U. runs b (tier_word U t)) (drop_all k T l)

-- an answer that is whether the tier reads well
pub well_formed_where : (w : List Sym) (r : Bool) → runs false w ≡ r
    → (r ≡ true → IsWellFormedWord w) × (IsWellFormedWord w → r ≡ true)
well_formed_where w r e = (λ h. well_formed_from_runs w (e ∙ h), λ wf. sym e ∙ runs_from_well_formed w wf)
