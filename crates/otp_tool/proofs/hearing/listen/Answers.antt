use Rattle.std.proofs.Common.{◌≡◌, List, refl, sym, subst}
use Rattle.outside.specs.Writers.{Puts}
use Rattle.violation.specs.Problems.{problem_from}
use Rattle.lexicon.specs.declared.entry.Entry.{Entry}
use Rattle.comprehend.specs.{declared.hit.Hit.Hit, Hears.{AreEntriesWithin, Hears, forms_of}}
use Rattle.comprehend.specs.HitText.{hits_text, names_of}
use Rattle.otp_tool.specs.{Files.IsHeld, Steps.{IsRefusal, RefusesEntry, change_of}}
use Rattle.otp_tool.proofs.HearingLemmas.{hits_written, no_entry, no_lexicon_loaded, no_lexicon_read, no_surface}
use Rattle.otp_tool.proofs.hearing.listen.Goals as goal

pub returns-in-Err-clause-work : goal.returns-in-Err-clause-work
returns-in-Err-clause-work g c = no_surface c.args.grammar.now _ c.args.lexicon.now c.args.budget _ refl _
    c.in-Err.ensures.err

pub returns-in-Err-load_second-clause-work : goal.returns-in-Err-load_second-clause-work
returns-in-Err-load_second-clause-work g c = no_lexicon_loaded c.args.grammar.now _ _ c.args.budget _ c.in-Ok.ensures.ok
    _ refl _ c.in-Err-load_second.ensures.err

pub returns-in-Err-lexicon_of-clause-work : goal.returns-in-Err-lexicon_of-clause-work
returns-in-Err-lexicon_of-clause-work g c =
    let same = c.deref.ensures.value in
    no_lexicon_read c.args.grammar.now _ _ c.args.budget _ c.in-Ok.ensures.ok _ _
    (rw same c.in-Ok-load_second.ensures.ok) refl _ c.in-Err-lexicon_of.ensures.err

pub returns-clause-work : goal.returns-clause-work
returns-clause-work g c =
    let same = c.deref.ensures.value in
    let ask = problem_from c.args.grammar.now.tiers c.args.grammar.now.constraints.items in
    no_entry c.args.grammar.now _ _ _ _ c.in-Ok.ensures.ok _ _ c.in-Ok-lexicon_of.ensures.ok _
    (rw same c.in-Ok-load_second.ensures.ok) refl _ (rw c.deref-2.ensures.value at c.in-Err-heard.ensures.err)

pub returns-in-Ok-heard-clause-work : goal.returns-in-Ok-heard-clause-work
returns-in-Ok-heard-clause-work g c =
    let same : c.deref.result.now ≡ c.in-Ok-load_second.bytes.items = c.deref.ensures.value in
    let ask = problem_from c.args.grammar.now.tiers c.args.grammar.now.constraints.items in
    let entries = c.in-Ok-lexicon_of.entries.items in
    hits_written c.args.grammar.now c.args.surface.now c.args.lexicon.now c.args.budget c.in-Ok.surface
    c.in-Ok.ensures.ok c.deref.result.now c.in-Ok-lexicon_of.entries.items c.in-Ok-lexicon_of.ensures.ok
    c.in-Ok-heard.hits.items
    (subst (λ (es : List Entry). Hears ask (forms_of es) c.in-Ok.surface c.in-Ok-heard.hits.items)
    c.deref-2.ensures.value c.in-Ok-heard.ensures.hears)
    (subst (λ (es : List Entry). AreEntriesWithin ask (forms_of es) c.args.budget)
    c.deref-2.ensures.value c.in-Ok-heard.ensures.within)
    g.F.Shelf g.O.Sink c.args.shelf.now c.load_second.new.shelf c.args.sink.now c.put_hits.new.sink
    (subst (IsHeld (g.F.Shelf.held c.args.shelf.now c.args.lexicon.now)) (sym same) c.in-Ok-load_second.ensures.ok)
    c.put_hits.result
    (subst (λ (hits : List Hit). Puts g.O.Sink c.args.sink.now c.put_hits.new.sink (hits_text (names_of entries) hits)
    c.put_hits.result) c.deref-in-Ok-heard-2.ensures.value
    (subst (λ (es : List Entry). Puts g.O.Sink c.args.sink.now c.put_hits.new.sink
    (hits_text (names_of es) c.deref-in-Ok-heard-2.result.now) c.put_hits.result)
    c.deref-in-Ok-heard.ensures.value c.put_hits.ensures))
    c.write_status.result c.write_status.ensures
