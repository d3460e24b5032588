use Rattle.std.proofs.Common.{◌≡◌, ap, sym, ◌∙◌, subst, IfOk, IfErr, List, ℕ, Option, Some}
use Rattle.std.proofs.lemmas.Result.{IfErr-weaker}
use Rattle.grammar_reader.specs.Grammars.{value_of}
use Rattle.command_line.specs.{declared.status.Status.Status, declared.status.Status.TheVariants.NoMemory}
use Rattle.otp_tool.specs.{Files.{faults_of, grammar_told}, Steps.{IsLoadRefusal, IsLoaded}}
use Rattle.otp_tool.proofs.commands.grammar_of.Goals as goal

pub returns-in-Some-clause-ok : goal.returns-in-Some-clause-ok
returns-in-Some-clause-ok g c = rw c.in-Some.ensures c.load_grammar.ensures.ok

pub returns-in-Some-clause-err : goal.returns-in-Some-clause-err
returns-in-Some-clause-err g c = rw c.in-Some.ensures c.load_grammar.ensures.err

pub returns-in-Some-clause-others : goal.returns-in-Some-clause-others
returns-in-Some-clause-others g c = λ other unnamed.
    c.load_grammar.ensures.others other (λ e. unnamed (c.in-Some.ensures ∙ ap Some (sym e)))

pub returns-in-None-clause-ok : goal.returns-in-None-clause-ok
returns-in-None-clause-ok g c = rw c.in-None.ensures c.sample_grammar.ensures.ok

pub returns-in-None-clause-err : goal.returns-in-None-clause-err
returns-in-None-clause-err g c =
    let refuses : Option (List ℕ) → Status → Type 0 = λ file.
    IsLoadRefusal (grammar_told (g.F.Shelf.held c.args.shelf.now) file)
    (faults_of (g.F.Shelf.faults c.args.shelf.now) file) (faults_of (g.F.Shelf.faults c.args.shelf.now) file) in
    IfErr-weaker c.sample_grammar.result (λ status. status ≡ NoMemory) (refuses _)
    (λ status e. rw e tt) c.sample_grammar.ensures.err
