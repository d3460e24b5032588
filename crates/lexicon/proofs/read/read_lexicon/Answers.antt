use Rattle.std.proofs.Common.{◌≡◌, ◌≢◌, ℕ, ◌≤◌, Some, List, length, map, ap, sym, ◌∙◌, arith}
use Rattle.std.proofs.{lemmas.List.length-map, lemmas.Result.{IfErr-weaker, IfOk-weaker}}
use Rattle.tier_core.specs.Tables.{tiers_of_table}
use Rattle.toml.specs.{Data.Data, View.{table_view, view}}
use Rattle.lexicon.specs.{declared.lex_err.LexErr.TheVariants.NoMemory, Elements.elements_of}
use Rattle.lexicon.specs.{Entries.{AreEntries, IsFirstEntryFault}, Lexicons.{IsLexicon, IsLexiconCause}}
use Rattle.lexicon.specs.Seen.{entries_seen, entry_seen}
use Rattle.lexicon.proofs.{EntryLemmas.zip_length, LexiconLemmas.{bad_element, is_lexicon, listed_are, too_many}}
use Rattle.lexicon.proofs.read.read_lexicon.Goals as goal

pub returns-then-len-gt-ENTRY_LIMIT-clause-err : goal.returns-then-len-gt-ENTRY_LIMIT-clause-err
returns-then-len-gt-ENTRY_LIMIT-clause-err c =
    let values = c.in-Some-as_array.elements.now.items in
    λ _. too_many
    (length (tiers_of_table c.args.grammar.now.tiers).input) c.args.grammar.now.letters.items c.args.bytes.now
    (table_view c.in_ok-table.table) (map view values) c.in_ok-table.ensures.ok
    (listed_are (table_view c.in_ok-table.table)
    (view c.in-Some.value.now) values c.in-Some.ensures c.in-Some-as_array.ensures)
    (omega (arith, length-map values view, c.in-Some-as_array.elements.now.ok.0))

pub returns-clause-ok : goal.returns-clause-ok
returns-clause-ok c =
    let inputs : ℕ = length (tiers_of_table c.args.grammar.now.tiers).input in
    let letters = c.args.grammar.now.letters.items in
    let ds : List Data = map view c.deref.result.now in
    let listed : elements_of (table_view c.in_ok-table.table) ≡ Some ds =
    listed_are (table_view c.in_ok-table.table)
    (view c.in-Some.value.now) c.in-Some-as_array.elements.now.items c.in-Some.ensures c.in-Some-as_array.ensures
    ∙ ap (λ vs. Some (map view vs)) (sym c.deref.ensures.value) in
    let few : length ds ≤ 1000 = omega (arith, length-map c.deref.result.now view) in
    IfOk-weaker c.read_elements.result (λ entries. AreEntries inputs letters ds (entries_seen entries.items))
    (λ entries. IsLexicon inputs letters c.args.bytes.now (entries_seen entries.items))
    (λ entries are. is_lexicon inputs letters c.args.bytes.now (table_view c.in_ok-table.table) ds
    (entries_seen entries.items) c.in_ok-table.ensures.ok listed few are)
    c.read_elements.ensures.ok

pub returns-clause-few : goal.returns-clause-few
returns-clause-few c =
    let inputs : ℕ = length (tiers_of_table c.args.grammar.now.tiers).input in
    let letters = c.args.grammar.now.letters.items in
    let ds : List Data = map view c.deref.result.now in
    let few : length ds ≤ 1000 = omega (arith, length-map c.deref.result.now view) in
    IfOk-weaker c.read_elements.result (λ entries. AreEntries inputs letters ds (entries_seen entries.items))
    (λ entries. length entries.items ≤ 1000)
    (λ entries are. omega (
      arith,
      zip_length inputs letters ds (entries_seen entries.items) are.each,
      length-map entries.items entry_seen,
      few,
    ))
    c.read_elements.ensures.ok

pub returns-clause-err : goal.returns-clause-err
returns-clause-err c =
    let inputs : ℕ = length (tiers_of_table c.args.grammar.now.tiers).input in
    let letters = c.args.grammar.now.letters.items in
    let ds : List Data = map view c.deref.result.now in
    let listed : elements_of (table_view c.in_ok-table.table) ≡ Some ds =
    listed_are (table_view c.in_ok-table.table)
    (view c.in-Some.value.now) c.in-Some-as_array.elements.now.items c.in-Some.ensures c.in-Some-as_array.ensures
    ∙ ap (λ vs. Some (map view vs)) (sym c.deref.ensures.value) in
    let few : length ds ≤ 1000 = omega (arith, length-map c.deref.result.now view) in
    IfErr-weaker c.read_elements.result (λ e. e ≢ NoMemory → IsFirstEntryFault inputs letters ds e)
    (λ e. e ≢ NoMemory → IsLexiconCause inputs letters c.args.bytes.now e)
    (λ e h n. bad_element inputs letters c.args.bytes.now
    (table_view c.in_ok-table.table) ds e c.in_ok-table.ensures.ok listed few (h n))
    c.read_elements.ensures.err
