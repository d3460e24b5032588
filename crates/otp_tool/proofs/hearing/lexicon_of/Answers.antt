use Rattle.std.proofs.Common.{◌≢◌, refl, rules}
use Rattle.lexicon.specs.{declared.lex_err.LexErr.TheVariants.NoMemory, Seen.entries_seen}
use Rattle.otp_tool.proofs.HearingLemmas.{is_lexicon, refused_lexicon}
use Rattle.otp_tool.proofs.hearing.lexicon_of.Goals as goal

pub returns-in-Ok-clause-ok : goal.returns-in-Ok-clause-ok
returns-in-Ok-clause-ok c = is_lexicon c.args.grammar.now _ c.requires _ c.in-Ok.ensures.ok

pub returns-in-Err-clause-err : goal.returns-in-Err-clause-err
returns-in-Err-clause-err c =
    let other : c.in-Err.cause ≢ NoMemory = search rules in
    (refl, refused_lexicon c.args.grammar.now _ c.requires _ (c.in-Err.ensures.err other))
