use Rattle.std.proofs.{Common.{map, ap, sym, ◌∙◌}, lemmas.List.length-map}
use Rattle.std.specs.String.{string_bytes}
use Rattle.outside.proofs.Writing.{◌▹◌, cut, pushes_as, stop}
use Rattle.grammar_reader.specs.{Canonical.{constraint_lines, line_of_words}, Grammars.value_of, Seen.constraint_seen}
use Rattle.grammar_reader.proofs.Adding.{names_back}
use Rattle.grammar_reader.proofs.put.push_grammar.Goals as goal

pub returns-in_err-push_line : goal.returns-in_err-push_line
returns-in_err-push_line g c =
    let words = ap line_of_words (c.as_slice.ensures ∙ c.header_words.ensures) in
    let header = pushes_as words c.in_err-push_line.ensures in
    stop c.from_residual.ensures.1 (cut _ header)

pub returns-in_err-push_tiers : goal.returns-in_err-push_tiers
returns-in_err-push_tiers g c =
    let header = pushes_as (ap line_of_words (c.as_slice.ensures ∙ c.header_words.ensures)) c.in_ok-push_line.ensures in
    stop c.from_residual-in_err-push_tiers.ensures.1 (header ▹ cut _ c.in_err-push_tiers.ensures)

pub returns-in_err-push_letters : goal.returns-in_err-push_letters
returns-in_err-push_letters g c =
    let header = pushes_as (ap line_of_words (c.as_slice.ensures ∙ c.header_words.ensures)) c.in_ok-push_line.ensures in
    let letters = rw c.deref.ensures.value at c.in_err-push_letters.ensures in
    stop c.from_residual-in_err-push_letters.ensures.1 (header ▹ (c.in_ok-push_tiers.ensures ▹ cut _ letters))

pub returns : goal.returns
returns g c =
    let v = value_of c.args.grammar.now in
    let header = pushes_as (ap line_of_words (c.as_slice.ensures ∙ c.header_words.ensures)) c.in_ok-push_line.ensures in
    let letters = rw c.deref.ensures.value at c.in_ok-push_letters.ensures in
    let named = names_back _ _ (length-map c.args.grammar.now.tiers.names.items string_bytes
    ∙ c.args.grammar.now.tiers.one_length) in
    let same = ap (map string_bytes) c.deref-2.ensures.value ∙ sym named in
    let last = pushes_as
    (ap (λ ns. constraint_lines ns (map constraint_seen c.deref-3.result.now)) same
    ∙ ap (λ cs. constraint_lines (map (λ t. t.name) v.tiers) (map constraint_seen cs)) c.deref-3.ensures.value)
    c.push_constraints.ensures in
    header ▹ (c.in_ok-push_tiers.ensures ▹ (letters ▹ last))
