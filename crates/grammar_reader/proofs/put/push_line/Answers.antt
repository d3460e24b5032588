use Rattle.outside.proofs.Writing.{◌▹◌, cut, pushes_as, stop}
use Rattle.grammar_reader.specs.Words.{word_text}
use Rattle.grammar_reader.proofs.LineText.{line_text}
use Rattle.grammar_reader.proofs.put.push_line.Goals as goal

pub returns-in_err-push_word : goal.returns-in_err-push_word
returns-in_err-push_word g c =
    stop c.from_residual.ensures.1
    (pushes_as (line_text word_text c.in-Some.ensures.cases.0) (cut _ (cut _ c.in_err-push_word.ensures)))

pub returns-in_err-push_spaced : goal.returns-in_err-push_spaced
returns-in_err-push_spaced g c =
    let words = c.in_ok-push_word.ensures ▹ c.in_err-push_spaced.ensures in
    stop c.from_residual-in_err-push_spaced.ensures.1
    (pushes_as (line_text word_text c.in-Some.ensures.cases.0) (cut _ words))

pub returns : goal.returns
returns g c =
    pushes_as (line_text word_text c.in-Some.ensures.cases.0)
    (c.in_ok-push_word.ensures ▹ c.in_ok-push_spaced.ensures ▹ c.push-2.ensures)
