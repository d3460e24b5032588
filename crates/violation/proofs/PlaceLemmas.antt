-- An input tier is open after a prefix where it is open after its squeezed input part.
use Rattle.std.proofs.Common.{◌≡◌, ℕ, ◌<◌, Bool, true, false, cond, List, [], ◌∷◌, map, length, get_or, refl, sym}
use Rattle.std.proofs.{Common.{ap, ◌∙◌, subst, arith}, lemmas.List.{get_or-map, length-map}}
use Rattle.std.proofs.{lemmas.List.Folds.list_any_at, lemmas.Bool.{false≢true, false_from_ne_true, and_parts}}
use Rattle.tier_core.specs.{declared.sym.Sym.Sym, declared.sym.Sym.TheVariants.{Outside, Inside, Start, End, Both}}
use Rattle.tier_core.specs.{Scan.{fits, opens}, Timelines.{tier_word, symbol, is_edge, has_edge, project, squeeze}}
use Rattle.tier_core.proofs.WordLemmas.{open_at}
use Rattle.violation.proofs.OpenLemmas.{reads}

-- a symbol without an edge leaves its tier as it is
pub stays_open : (b : Bool) (s : Sym) → fits b s ≡ true → is_edge s ≡ false → opens s ≡ b
stays_open true Outside f e = absurd (false≢true f)
stays_open true Inside f e = refl
stays_open true Start f e = absurd (false≢true f)
stays_open true End f e = absurd (false≢true (sym e))
stays_open true Both f e = absurd (false≢true (sym e))
stays_open false Outside f e = refl
stays_open false Inside f e = absurd (false≢true f)
stays_open false Start f e = absurd (false≢true (sym e))
stays_open false End f e = absurd (false≢true f)
stays_open false Both f e = absurd (false≢true f)

no_edge_at : (inputs : List ℕ) (column : List Sym) (j : ℕ) → j < length inputs
    → has_edge (map (symbol column) inputs) ≡ false → is_edge (symbol column (get_or inputs j 0)) ≡ false
no_edge_at inputs column j l h =
    false_from_ne_true _ (λ e. false≢true
    (sym h ∙ list_any_at is_edge (map (symbol column) inputs) j Outside
    (omega (arith, length-map inputs (symbol column)))
    (ap is_edge (get_or-map (symbol column) inputs j 0 Outside l) ∙ e)))

-- an input tier is open after a prefix exactly where it is open after the squeezed input part
pub input_open : (inputs : List ℕ) (j : ℕ) → j < length inputs → (b : Bool) (p : List (List Sym))
    → reads b (tier_word p (get_or inputs j 0)) ≡ true
    → open_at b (tier_word (squeeze (project inputs p)) j) (length (squeeze (project inputs p)))
    ≡ open_at b (tier_word p (get_or inputs j 0)) (length p)
input_open inputs j l b [] r = refl
input_open inputs j l b (column ∷ p) r =
    by_edge (has_edge (map (symbol column) inputs)) refl (λ d h. input_open inputs j l d p h)
  where
    parts : (fits b (symbol column (get_or inputs j 0)) ≡ true) ×
        (reads (opens (symbol column (get_or inputs j 0))) (tier_word p (get_or inputs j 0)) ≡ true)
    parts = and_parts _ _ r

    by_edge : (e : Bool) → has_edge (map (symbol column) inputs) ≡ e
        → ((d : Bool) → reads d (tier_word p (get_or inputs j 0)) ≡ true
        → open_at d (tier_word (squeeze (project inputs p)) j) (length (squeeze (project inputs p)))
        ≡ open_at d (tier_word p (get_or inputs j 0)) (length p))
        → open_at b (tier_word (squeeze (project inputs (column ∷ p))) j)
        (length (squeeze (project inputs (column ∷ p))))
        ≡ open_at b (tier_word (column ∷ p) (get_or inputs j 0)) (length (column ∷ p))
    by_edge true e rest =
        ap (λ (U : List (List Sym)). open_at b (tier_word U j) (length U))
        (ap (λ c. cond c (map (symbol column) inputs ∷ squeeze (project inputs p))
        (squeeze (project inputs p))) e)
        ∙ ap (λ s. open_at (opens s) (tier_word (squeeze (project inputs p)) j) (length (squeeze (project inputs p))))
        (get_or-map (symbol column) inputs j 0 Outside l)
        ∙ rest (opens (symbol column (get_or inputs j 0))) parts.1
    by_edge false e rest =
        let same : opens (symbol column (get_or inputs j 0))
        ≡ b = stays_open b (symbol column (get_or inputs j 0)) parts.0 (no_edge_at inputs column j l e) in
        ap (λ (U : List (List Sym)). open_at b (tier_word U j) (length U))
        (ap (λ c. cond c (map (symbol column) inputs ∷ squeeze (project inputs p))
        (squeeze (project inputs p))) e)
        ∙ rest b (subst (λ d. reads d (tier_word p (get_or inputs j 0)) ≡ true) same parts.1)
        ∙ ap (λ d. open_at d (tier_word p (get_or inputs j 0)) (length p)) (sym same)
