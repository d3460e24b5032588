-- What reading a statement gives.
use Rattle.std.proofs.Common.{◌≡◌, List, ap, sym, ◌∙◌, Option, Some, None, Result, Ok, Err}
use Rattle.std.specs.Prelude.{MatchResult, OnOk, IfErr}
use Rattle.grammar_reader.specs.{Pieces.Lexeme, Statements.{Statement, statement_of}, Values.GrammarValue}
use Rattle.grammar_reader.specs.{Reading.{cause_of, with_statement, after_cause, after_statement}, Made.FailsAt}
use Rattle.grammar_reader.specs.declared.lexeme.LineErr.{LineErr}
use Rattle.grammar_reader.specs.declared.lexeme.LineErr.TheVariants.{Cause, NoMemory}

-- a statement without a cause is added, unless memory is wanting
pub added : (r : Result (Unit {0}) LineErr) (g : GrammarValue) (ls : List Lexeme) (s : Statement) (new : GrammarValue)
    → statement_of ls ≡ Some s → cause_of g s ≡ None
    → OnOk r (new ≡ with_statement g s) → IfErr r (λ e. e ≡ NoMemory)
    → MatchResult r (λ x. after_statement g (statement_of ls) ≡ Ok new)
    (λ e. FailsAt e (after_statement g (statement_of ls)))
added (Ok x) g ls s new e n h k = ap (after_statement g) e ∙ ap (after_cause g s) n ∙ ap Ok (sym h)
added (Err NoMemory) g ls s new e n h k = tt
added (Err (Cause c)) g ls s new e n h k = let bad : Cause c ≡ NoMemory = k in cc
