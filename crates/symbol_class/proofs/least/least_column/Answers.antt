use Rattle.std.proofs.Common.{◌≡◌, ℕ, false, IsTrue, List, map, length, take, ap, sym, ◌∙◌, subst, arith}
use Rattle.std.proofs.lemmas.List.{take_all}
use Rattle.std.specs.Ordering.{is_gt}
use Rattle.tier_core.specs.{declared.sym.Sym.Sym, declared.class.Class.Class, Classes.{sets_of, has}}
use Rattle.tier_core.specs.{Orders.column_cmp, FirstColumn.{first_sym, first_column}}
use Rattle.tier_core.proofs.Filled.{has-first_column, first_column_least}
use Rattle.symbol_class.proofs.least.least_column.Goals as goal

-- the symbols that were found for all tiers are the first column
all_tiers : (class : Class) (syms column : List Sym) (width n : ℕ) → column ≡ take width syms
    → width ≡ length (sets_of class) → n ≡ width → take n syms ≡ map first_sym (take n (sets_of class))
    → column ≡ first_column class
all_tiers class syms column width n is wide last done =
    is ∙ ap (λ k. take k syms) (sym last) ∙ done ∙ ap (map first_sym) (take_all n (sets_of class) (omega arith))

pub returns-clause-held : goal.returns-clause-held
returns-clause-held c filled =
    let class = c.args.class.now in
    let first = all_tiers class c.loop-tier.syms c.from_syms.result c.width-width.result c.loop-tier.tier
    c.from_syms.ensures c.width-width.ensures.value
    (omega (arith, c.loop-tier-test.false, c.loop-tier.auto.tier-end)) c.loop-tier.invariant.done in
    subst (λ (column : List Sym). IsTrue (has class column)) (sym first) (has-first_column class filled)

pub returns-clause-least : goal.returns-clause-least
returns-clause-least c column holds =
    let class = c.args.class.now in
    let first = all_tiers class c.loop-tier.syms c.from_syms.result c.width-width.result c.loop-tier.tier
    c.from_syms.ensures c.width-width.ensures.value
    (omega (arith, c.loop-tier-test.false, c.loop-tier.auto.tier-end)) c.loop-tier.invariant.done in
    subst (λ (least : List Sym). is_gt (column_cmp least column) ≡ false) (sym first)
    (first_column_least class column holds)
