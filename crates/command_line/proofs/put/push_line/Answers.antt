use Rattle.command_line.proofs.put.push_line.Goals as goal

pub returns-in-LexiconRefused : goal.returns-in-LexiconRefused
returns-in-LexiconRefused g c =
    rw (c.in-LexiconRefused.is, ← c.lexicon_cause.ensures) c.push_refused-in-LexiconRefused.ensures

pub returns-in-AnswerRefused : goal.returns-in-AnswerRefused
returns-in-AnswerRefused g c =
    rw (c.in-AnswerRefused.is, ← c.answer_cause-cause.ensures) c.push_refused_at-in-AnswerRefused.ensures
