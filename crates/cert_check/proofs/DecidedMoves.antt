-- Whether a stage lists a kind, a column fits one, and a move is kept, can be told.
use Rattle.std.proofs.Common.{◌≡◌, ℕ, ◌+◌, ◌<◌, ◌≤◌, ◌⊎◌, true, false, List, length, ap, ◌∙◌, arith, inl, inr}
use Rattle.std.proofs.{Common.Contains, lemmas.Bool.{cases_eq, cases_lt}}
use Rattle.std.specs.List.Sorted.{IsStrictlySortedBy}
use Rattle.tier_core.specs.{declared.sym.Sym.Sym, Kinds.{PrefixKind, kind_order}, Scan.fits}
use Rattle.tier_core.specs.Timelines.{symbol, column_at, has_edge}
use Rattle.violation.specs.Moves.{FitsKind, next_kind, cost_of, cut_kind, is_tier_open, input_of}
use Rattle.violation.specs.Problems.{Problem, last_place}
use Rattle.answer_text.specs.{declared.stage.Stage.Stage, Right.{nodes_at, kinds_at}}
use Rattle.answer_text.specs.Certified.{Lists, IsTightAt, IsKeptBelow}
use Rattle.check_laws.proofs.Listing.{lists_kind, kind_listed, one_potential}
use Rattle.cert_check.specs.Faults.{IsUnlisted}
use Rattle.cert_check.proofs.Decisions.{Decided, from_both, from_either, is_below, is_true, is_false, for_all_below}
use Rattle.cert_check.proofs.Decisions.{is_symbol, is_list, is_member, is_kind}

module _ (problem : Problem) where
  -- what is asked of a column's symbols, and of its input part
  abbrev AreFitting : PrefixKind → List Sym → Type 0
  AreFitting k column = (t : ℕ) → t < problem.tiers.width → fits (is_tier_open problem k t) (symbol column t) ≡ true

  abbrev HasInput : PrefixKind → List Sym → Type 0
  HasInput k column = (has_edge (input_of problem.tiers column) ≡ false) ⊎
      ((k.place < last_place problem) × (input_of problem.tiers column ≡ column_at problem.form k.place))

  -- a column fits a kind or not
  pub is_fitting : (k : PrefixKind) (column : List Sym) → Decided (FitsKind problem k column)
  is_fitting k column =
      own (cases_eq (length column) problem.tiers.width) (for_all_below _ _ (λ t l. is_true _)) (is_true _)
      (from_either (is_false _) (from_both (is_below _ _) (is_list is_symbol _ _)))
    where
      own : Decided (length column ≡ problem.tiers.width) → Decided (AreFitting k column)
          → Decided (has_edge column ≡ true) → Decided (HasInput k column) → Decided (FitsKind problem k column)
      own (inl w) (inl s) (inl e) (inl i) = inl (record { width = w; symbols = s; edge = e; input = i })
      own (inl w) (inl s) (inl e) (inr n) = inr (λ f. n f.input)
      own (inl w) (inl s) (inr n) i = inr (λ f. n f.edge)
      own (inl w) (inr n) e i = inr (λ f. n f.symbols)
      own (inr n) s e i = inr (λ f. n f.width)

  module _ (stages : List Stage) where
    -- a stage lists a kind or not
    pub is_listed : (r : ℕ) (k : PrefixKind)
        → ((p : ℕ) × Lists problem stages r k p) ⊎ IsUnlisted problem stages r k
    is_listed r k = own (is_member is_kind _ k)
      where
        own : Decided (Contains (kinds_at problem r (nodes_at stages r)) k)
            → ((p : ℕ) × Lists problem stages r k p) ⊎ IsUnlisted problem stages r k
        own (inl h) = inl (kind_listed _ r _ k h)
        own (inr n) = inr (λ p h. n (lists_kind _ r _ k p h))

    -- a column is tight at a stage whose kinds ascend, or not
    pub is_tight : (j : ℕ) → IsStrictlySortedBy kind_order (kinds_at problem j (nodes_at stages j))
        → (k : PrefixKind) (column : List Sym) → Decided (IsTightAt problem stages j k column)
    is_tight j ascending k column = own (is_listed j _) (is_listed j _)
      where
        falls : (p q : ℕ) → Lists problem stages j (cut_kind problem j k) p
            → Lists problem stages j (next_kind problem j (cut_kind problem j k) column) q
            → Decided (p ≡ cost_of problem j (cut_kind problem j k) column + q)
            → Decided (IsTightAt problem stages j k column)
        falls p q a b (inl e) = inl (record { before = p; after = q; leaves = a; arrives = b; falls = e })
        falls p q a b (inr n) = inr (λ t. n (one_potential _ j _ ascending _ p _ a t.leaves ∙ t.falls ∙ ap
            (λ x. cost_of problem j (cut_kind problem j k) column + x)
            (one_potential _ j _ ascending _ _ q t.arrives b)))

        own : ((p : ℕ) × Lists problem stages j (cut_kind problem j k) p)
            ⊎ IsUnlisted problem stages j (cut_kind problem j k)
            → ((p : ℕ) × Lists problem stages j (next_kind problem j (cut_kind problem j k) column) p)
            ⊎ IsUnlisted problem stages j (next_kind problem j (cut_kind problem j k) column)
            → Decided (IsTightAt problem stages j k column)
        own (inl a) (inl b) = falls _ _ a.1 b.1 (cases_eq a.0 (cost_of problem j (cut_kind problem j k) column + b.0))
        own (inl a) (inr n) = inr (λ t. n t.after t.arrives)
        own (inr n) b = inr (λ t. n t.before t.leaves)

    abbrev IsTightFrom : PrefixKind → List Sym → ℕ → Type 0
    IsTightFrom k column j = 1 ≤ j → IsTightAt problem stages j k column

    -- a move is kept below a stage, or not, where the kinds of the stages below it ascend
    pub is_kept : (r : ℕ) → ((j : ℕ) → j < r → IsStrictlySortedBy kind_order (kinds_at problem j (nodes_at stages j)))
        → (k : PrefixKind) (column : List Sym) → Decided (IsKeptBelow problem stages r k column)
    is_kept r ascending k column = own (is_fitting k _) (for_all_below _ r (λ j l. tight j (ascending j l)))
      where
        tight : (j : ℕ) → IsStrictlySortedBy kind_order (kinds_at problem j (nodes_at stages j))
            → Decided (IsTightFrom k column j)
        tight j h = told (is_tight j h k _)
          where
            told : Decided (IsTightAt problem stages j k column) → Decided (IsTightFrom k column j)
            told (inl t) = inl (λ some. t)
            told (inr n) = elim (cases_lt 0 j) [
              | inl l ↦ inr (λ t. n (t (omega (arith, l))))
              | inr g ↦ inl (λ some. absurd (omega (arith, g, some)))
            ]

        own : Decided (FitsKind problem k column) → Decided ((j : ℕ) → j < r → IsTightFrom k column j)
            → Decided (IsKeptBelow problem stages r k column)
        own (inl f) (inl t) = inl (record { fits = f; tight = λ j some l. t j l some })
        own (inl f) (inr n) = inr (λ h. n (λ j l some. h.tight j some l))
        own (inr n) t = inr (λ h. n h.fits)
