-- Going from line to line.
use Rattle.std.proofs.Common.{◌≡◌, ℕ, ◌+◌, ◌<◌, List, length, get_or, drop, ap, ◌∙◌, Option, Ok, Err}
use Rattle.grammar_reader.specs.{Values.GrammarValue, Reading.{At, after_line, after_lines, go_on}}
use Rattle.grammar_reader.specs.declared.grammar_err.GrammarCause.{GrammarCause}
use Rattle.grammar_reader.proofs.FromLine.{from_line}

-- a line without a cause
pub line_passed : (before after : Option GrammarValue) (n k : ℕ) (lines : List (List ℕ)) (line : List ℕ)
    → k < length lines → line ≡ get_or lines k line → after_line before line ≡ Ok after →
    after_lines before n (drop k lines) ≡ after_lines after (n + 1) (drop (k + 1) lines)
line_passed before after n k lines line h e r = ap (after_lines before n) (from_line lines k line h e)
    ∙ ap (λ x. go_on x n (λ next. after_lines next (n + 1) (drop (k + 1) lines))) r

-- the first line with a cause
pub line_refused : (before : Option GrammarValue) (n k : ℕ) (lines : List (List ℕ)) (line : List ℕ)
    (cause : GrammarCause) → k < length lines → line ≡ get_or lines k line → after_line before line ≡ Err cause →
    after_lines before n (drop k lines) ≡ Err (record { line = n; cause = cause })
line_refused before n k lines line cause h e r = ap (after_lines before n) (from_line lines k line h e)
    ∙ ap (λ x. go_on x n (λ next. after_lines next (n + 1) (drop (k + 1) lines))) r
