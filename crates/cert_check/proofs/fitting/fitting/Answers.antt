use Rattle.std.proofs.Common.{◌≡◌, ◌↔◌, ℕ, ◌<◌, false, not, ◌&&◌, IsTrue, List, [], map, length, refl, ap}
use Rattle.std.proofs.{Common.{sym, ◌∙◌, arith}, lemmas.Bool.{false≢true, and_parts, and_from}}
use Rattle.tier_core.specs.{declared.class.Class.Class, declared.sym.Sym.Sym, declared.tier.TierKind.TierKind}
use Rattle.tier_core.specs.{Classes.{sets_of, has}, Tiers.{is_input, numbers_from}}
use Rattle.tier_core.specs.Timelines.{symbol, has_edge}
use Rattle.tier_core.proofs.ClassLemmas.{same_width}
use Rattle.symbol_class.specs.Held.{once_if}
use Rattle.symbol_class.proofs.Times.{adds_none}
use Rattle.violation.specs.{Prefixes.kind_of_bits}
use Rattle.violation.proofs.SplitLemmas.{tiers_split}
use Rattle.cert_check.specs.{Subjects.problem_of}
use Rattle.cert_check.proofs.{FittingSteps.{met_where, are_fitting}, Subjects.{form_wide, mask_agrees}}
use Rattle.cert_check.proofs.fitting.fitting.Goals as goal

still_by : (width : ℕ) (kinds own : List TierKind) (coming box still : Class) → kinds ≡ own
    → length (sets_of coming) ≡ length kinds
    → ((column : List Sym) → has still column ≡ (has coming column && has box column))
    → ((column : List Sym) → length column ≡ length kinds
    → has box column ≡ not (has_edge (map (symbol column) (numbers_from is_input 0 kinds))))
    → (column : List Sym)
    → has still column ≡ (has coming column && not (has_edge (map (symbol column) (numbers_from is_input 0 own))))
still_by width kinds own coming box still same wide met told column =
    met_where _ _ _ _ (met column) (λ h. told column (same_width _ _ h ∙ wide) ∙ ap
    (λ ks. not (has_edge (map (symbol column) (numbers_from is_input 0 ks)))) same)

read_by : (place last : ℕ) (kinds own : List TierKind) (coming box reading : Class) (column_read wanted : List Sym)
    → kinds ≡ own → column_read ≡ wanted → place < last → length (sets_of coming) ≡ length kinds
    → ((column : List Sym) → has reading column ≡ (has coming column && has box column))
    → ((column : List Sym) → length column ≡ length kinds
    → IsTrue (has box column) ↔ (map (symbol column) (numbers_from is_input 0 kinds) ≡ column_read))
    → (column : List Sym) → IsTrue (has reading column) ↔ (IsTrue (has coming column)
    × ((place < last) × (map (symbol column) (numbers_from is_input 0 own) ≡ wanted)))
read_by place last kinds own coming box reading column_read wanted same is l wide met told column = (
  λ h. let parts = and_parts _ _ (sym (met column) ∙ h) in
      let width = same_width _ _ parts.0 ∙ wide in (
        parts.0,
        (
          l,
          ap (λ ks. map (symbol column) (numbers_from is_input 0 ks)) (sym same)
              ∙ (told column width).0 parts.1 ∙ is,
        ),
      ),
  λ r. let width = same_width _ _ r.0 ∙ wide in
      met column ∙ and_from _ _ r.0
      ((told column width).1 (ap (λ ks. map (symbol column) (numbers_from is_input 0 ks)) same ∙ r.1.1 ∙ sym is)),
)

none_by : (place last : ℕ) (coming : Class) (P : List Sym → Type 0) → place ≡ last
    → (column : List Sym) → IsTrue false ↔ (IsTrue (has coming column) × ((place < last) × P column))
none_by place last coming P e column = (λ h. absurd (false≢true h), λ r. absurd (omega (arith, r.1.0, e)))

pub open_tiers-requires-clause-wide : goal.open_tiers-requires-clause-wide
open_tiers-requires-clause-wide c =
    let s = c.args.subject.now in
    rw c.as_slice-kinds.ensures.value (form_wide s c.requires.ready 0 (omega arith))

pub returns-then-place-len : goal.returns-then-place-len
returns-then-place-len c stage =
    let s = c.args.subject.now in
    let problem = problem_of s in
    let kind = c.args.kind.now in
    let own = s.grammar.now.tiers.kinds.items in
    let same = c.as_slice-kinds.ensures.value in
    let coming = c.coming_box-coming.result in
    let still = c.meet-still.result in
    let bare = c.edgeless_box.result in
    let k = kind_of_bits problem stage kind in
    let wide = c.coming_box-coming.ensures.width ∙ ap (λ (ks : List TierKind). length ks) same in
    are_fitting problem k coming still bare c.open_tiers.result (λ column. false) (tiers_split own).inputs_below wide
    (mask_agrees s c.requires.ready stage kind c.requires.place _ (rw same at c.open_tiers.ensures))
    (rw (ap (λ (ks : List TierKind). length ks) same) at c.coming_box-coming.ensures.columns) (still_by 0 _ _ _ _ _ same
    c.coming_box-coming.ensures.width c.meet-still.ensures.columns c.still_box.ensures.columns)
    (rw (ap (λ (ks : List TierKind). length ks) same) at c.edgeless_box.ensures.columns)
    (none_by _ _ _ _ (c.if-place-len.true ∙ c.len.ensures)) (length (sets_of still)) c.push_minus.new.pieces.items
    c.push_minus.new.pieces.items (c.meet-still.ensures.width ∙ wide) problem.tiers.width refl
    (rw c.new-pieces.ensures.items at c.in_ok-push_minus.ensures.held)
    (adds_none _ c.push_minus.new.pieces.items (λ column. once_if (false && not (has still column))) (λ column. refl))

pub reading_box-requires-clause-form : goal.reading_box-requires-clause-form
reading_box-requires-clause-form c =
    let s = c.args.subject.now in
    ap (λ (xs : List Sym). length xs) (c.syms.ensures.value ∙ c.column.ensures) ∙ rw c.as_slice-kinds.ensures.value
    (form_wide s c.requires.ready 0 (omega arith) c.args.kind.now.place []
    (omega (arith, c.requires.place, c.if-place-len.false, c.len.ensures)))

pub returns : goal.returns
returns c stage =
    let s = c.args.subject.now in
    let problem = problem_of s in
    let kind = c.args.kind.now in
    let own = s.grammar.now.tiers.kinds.items in
    let same = c.as_slice-kinds.ensures.value in
    let coming = c.coming_box-coming.result in
    let still = c.meet-still.result in
    let reading = c.meet-reading.result in
    let bare = c.edgeless_box.result in
    let k = kind_of_bits problem stage kind in
    let wide = c.coming_box-coming.ensures.width ∙ ap (λ (ks : List TierKind). length ks) same in
    are_fitting problem k coming still bare c.open_tiers.result (has reading) (tiers_split own).inputs_below wide
    (mask_agrees s c.requires.ready stage kind c.requires.place _ (rw same at c.open_tiers.ensures))
    (rw (ap (λ (ks : List TierKind). length ks) same) at c.coming_box-coming.ensures.columns) (still_by 0 _ _ _ _ _ same
    c.coming_box-coming.ensures.width c.meet-still.ensures.columns c.still_box.ensures.columns)
    (rw (ap (λ (ks : List TierKind). length ks) same) at c.edgeless_box.ensures.columns) (read_by _ _ _ _ _ _ _ _ _ same
    (c.syms.ensures.value ∙ c.column.ensures) (omega (arith, c.requires.place, c.if-place-len.false, c.len.ensures))
    c.coming_box-coming.ensures.width c.meet-reading.ensures.columns c.reading_box.ensures.columns)
    (length (sets_of still)) c.push_minus.new.pieces.items c.push_minus-2.new.pieces.items
    (c.meet-still.ensures.width ∙ wide) (length (sets_of reading)) (c.meet-reading.ensures.width ∙ wide)
    (rw c.new-pieces.ensures.items at c.in_ok-push_minus.ensures.held) c.in_ok-push_minus-2.ensures.held
