use Rattle.std.proofs.Common.{ℕ, ◌+◌, ◌≤◌, Some, List, length, map, take, All, refl, ap, sym, ◌∙◌, subst}
use Rattle.std.proofs.{lemmas.List.Elements.All-push, lemmas.Result.err_from_is_err_and}
use Rattle.tier_core.specs.Tables.{tiers_of_table}
use Rattle.toml.specs.View.{view}
use Rattle.violation.specs.Candidates.{IsForm}
use Rattle.lexicon.specs.{declared.entry.Entry.Entry, Entries.{AreEntries, LexicalEntry, is_among, names_of}}
use Rattle.lexicon.specs.Seen.{entries_seen, entry_seen}
use Rattle.lexicon.proofs.EntryLemmas.{among_by, bad_entry, keys_more, next_entry, refused_word, seen_more}
use Rattle.lexicon.proofs.EntryLemmas.{twice_named}
use Rattle.lexicon.proofs.read.push_elements.Goals as goal

pub returns-in_default-clause-err : goal.returns-in_default-clause-err
returns-in_default-clause-err c = λ _. bad_entry
    (length (tiers_of_table c.args.grammar.now.tiers).input) c.args.grammar.now.letters.items c.args.elements.now
    c.loop-place.place c.index-elements-place.result c.loop-place-test.true c.index-elements-place.is
    (entries_seen c.loop-place.entries.items) c.loop-place.invariant.are
    (sym c.in_default.ensures)

pub returns-then-contains-clause-err : goal.returns-then-contains-clause-err
returns-then-contains-clause-err c = λ _. twice_named
    (length (tiers_of_table c.args.grammar.now.tiers).input) c.args.grammar.now.letters.items c.args.elements.now
    c.loop-place.place c.index-elements-place.result c.loop-place-test.true c.index-elements-place.is
    (entries_seen c.loop-place.entries.items) c.loop-place.invariant.are
    c.in-Some.name.now c.in-Some.word.now (sym c.in-Some.ensures)
    (among_by c.in-Some.name.now c.as_bytes.result.now c.loop-place.names.keys
    (entries_seen c.loop-place.entries.items) c.contains.result _ c.loop-place.invariant.keys
    c.as_bytes.ensures.value c.contains.ensures c.if-contains.true)

pub returns-in_err-form-clause-err : goal.returns-in_err-form-clause-err
returns-in_err-form-clause-err c =
    let p = err_from_is_err_and c.from_residual.result c.from_residual.ensures.1 in
    rw (p.1, p.2) (λ n. refused_word (length
    (tiers_of_table c.args.grammar.now.tiers).input) c.args.grammar.now.letters.items c.args.elements.now
    c.loop-place.place c.index-elements-place.result c.loop-place-test.true c.index-elements-place.is
    (entries_seen c.loop-place.entries.items) c.loop-place.invariant.are
    c.in-Some.name.now c.in-Some.word.now _ (sym c.in-Some.ensures)
    (among_by c.in-Some.name.now c.as_bytes.result.now c.loop-place.names.keys
    (entries_seen c.loop-place.entries.items) c.contains.result _ c.loop-place.invariant.keys
    c.as_bytes.ensures.value c.contains.ensures c.if-contains.false)
    (c.in_err-form.ensures.err n))

pub returns-in_err-push-clause-err : goal.returns-in_err-push-clause-err
returns-in_err-push-clause-err c =
    let p = err_from_is_err_and c.from_residual-in_err-push.result c.from_residual-in_err-push.ensures.1 in
    rw (p.1, p.2) (λ n. absurd (n refl))

pub loop-place-preserved : goal.loop-place-preserved
loop-place-preserved c =
    let inputs : ℕ = length (tiers_of_table c.args.grammar.now.tiers).input in
    let old : List Entry = c.loop-place.entries.items in
    let entry : Entry = record { name = c.in_ok-name.name; form = c.in_ok-form.form } in
    let more = seen_more old c.push.new.self.items entry c.in_ok-push.ensures.items in
    let new = among_by c.in-Some.name.now c.as_bytes.result.now c.loop-place.names.keys
    (entries_seen old) c.contains.result _ c.loop-place.invariant.keys c.as_bytes.ensures.value c.contains.ensures
    c.if-contains.false in
    let named = c.in_ok-name.ensures.ok in
    record {
      are = subst (λ (es : List LexicalEntry). AreEntries inputs c.args.grammar.now.letters.items
          (map view (take (c.loop-place.place + 1) c.args.elements.now)) es) more
          (next_entry inputs c.args.grammar.now.letters.items c.args.elements.now c.loop-place.place
          c.index-elements-place.result c.loop-place-test.true c.index-elements-place.is
          (entries_seen old) c.loop-place.invariant.are (entry_seen entry)
          (record {
            word = c.in-Some.word.now;
            writes = sym c.in-Some.ensures
                ∙ ap (λ (n : List ℕ). Some (n, c.in-Some.word.now)) (sym named);
            read = c.in_ok-form.ensures.ok;
          })
          (ap (λ n. is_among n (names_of (entries_seen old))) named ∙ new));
      keys = keys_more c.in-Some.name.now c.as_bytes-in-loop-place.result c.loop-place.names.keys
          c.insert.new.self.keys (entries_seen old)
          (entry_seen entry) c.loop-place.invariant.keys c.as_bytes-in-loop-place.ensures.value new
          c.in_ok-insert.ensures.keys named ∙ ap names_of more;
      forms = subst (All (λ (e : Entry). IsForm (tiers_of_table c.args.grammar.now.tiers) e.form))
          (sym c.in_ok-push.ensures.items)
          (All-push (λ (e : Entry). IsForm
          (tiers_of_table c.args.grammar.now.tiers) e.form) old entry c.loop-place.invariant.forms
          c.in_ok-form.ensures.form);
      short = subst (All (λ (e : Entry). length e.form ≤ 64)) (sym c.in_ok-push.ensures.items)
          (All-push
          (λ (e : Entry). length e.form ≤ 64) old entry c.loop-place.invariant.short c.in_ok-form.ensures.short);
    }
