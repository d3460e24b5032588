-- Each grammar has an overt tier.
use Rattle.std.proofs.{Common.{◌≤◌, length, map, string_bytes, ap, sym, ◌∙◌, arith}, lemmas.List.length-map}
use Rattle.std.specs.List.{list_any}
use Rattle.tier_core.specs.{Tiers.is_overt, Tables.tiers_of_table}
use Rattle.tier_core.proofs.TableMasks.{length-numbers_from}
use Rattle.grammar_reader.specs.{declared.grammar.Grammar.Grammar, Seen.tiers_by}
use Rattle.grammar_reader.proofs.{Lists.list_any-map, Shaping.{any_filtered, kinds_back}}

pub some_overt : (g : Grammar) → 1 ≤ length (tiers_of_table g.tiers).overt
some_overt g =
    let names = map string_bytes g.tiers.names.items in
    let kinds = g.tiers.kinds.items in
    let same = length-map g.tiers.names.items string_bytes ∙ g.tiers.one_length in
    let some = any_filtered is_overt kinds
    (ap (list_any is_overt) (sym (kinds_back names kinds same))
    ∙ list_any-map is_overt (λ t. t.kind) (tiers_by names kinds) ∙ g.lawful.overt) in
    let counted = length-numbers_from is_overt 0 kinds in
    omega (arith, counted, some)
