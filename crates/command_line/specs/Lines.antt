-- The numbers and the lines of statuses.
use Rattle.std.specs.Prelude.{ℕ, List, [], ◌++◌, codes}
use Rattle.std.specs.Fmt.{decimal}
use Rattle.timeline_text.specs.declared.form_err.FormErr.{FormErr}
use Rattle.timeline_text.specs.declared.form_err.FormErr.TheVariants.{BadSymbol, WrongWidth, TooLong as TooManyColumns, NotWellFormed, NotReduced, UnknownLetter, NoMemory as NoMemoryForForm}
use Rattle.grammar_reader.specs.declared.grammar_err.GrammarCause.{GrammarCause}
use Rattle.grammar_reader.specs.declared.grammar_err.GrammarCause.TheVariants.{BadByte, BadHeader, BadLine, BadName, TwiceNamed, UnknownTier, NotInput, TooManyTiers, TooManyConstraints, TooManyEvents, NoInput, NoOvert}
use Rattle.answer_reader.specs.declared.answer_err.AnswerCause.{AnswerCause}
use Rattle.answer_reader.specs.declared.answer_err.AnswerCause.TheVariants.{CutShort, BadHeader as BadAnswerHeader, BadLine as BadAnswerLine, BadNumber, BadClass, BadOrder, ExtraBytes}
use Rattle.lexicon.specs.declared.lex_err.LexErr.{LexErr}
use Rattle.lexicon.specs.declared.lex_err.LexErr.TheVariants.{NotToml, TooMany as TooManyEntries, BadEntry, TwiceNamed as NamedTwice, BadForm, NoMemory as NoMemoryForLexicon}
use Rattle.tableau.specs.declared.rows_err.RowsCause.{RowsCause}
use Rattle.tableau.specs.declared.rows_err.RowsCause.TheVariants.{Form, NotCandidate, TooMany}
use Rattle.command_line.specs.declared.status.Status.{Status}
use Rattle.command_line.specs.declared.status.Status.TheVariants.{Done, No, Usage, GrammarRefused, FormRefused, LexiconRefused, AnswerRefused, Budget, ReadFault, WriteFault, NoMemory, RowsRefused, TooLong}

abbrev pub status_number : Status → ℕ
status_number Done = 0
status_number No = 1
status_number Usage = 2
status_number (GrammarRefused word line cause) = 3
status_number (FormRefused word cause) = 4
status_number (LexiconRefused word cause) = 5
status_number (AnswerRefused word line cause) = 6
status_number (Budget entry stage) = 7
status_number (ReadFault word) = 8
status_number WriteFault = 9
status_number NoMemory = 10
status_number (RowsRefused word row cause) = 11
status_number (TooLong word) = 12

-- the cause of a grammar is its name
abbrev pub grammar_cause_text : GrammarCause → List ℕ
grammar_cause_text BadByte = codes "BadByte"
grammar_cause_text BadHeader = codes "BadHeader"
grammar_cause_text BadLine = codes "BadLine"
grammar_cause_text BadName = codes "BadName"
grammar_cause_text TwiceNamed = codes "TwiceNamed"
grammar_cause_text UnknownTier = codes "UnknownTier"
grammar_cause_text NotInput = codes "NotInput"
grammar_cause_text TooManyTiers = codes "TooManyTiers"
grammar_cause_text TooManyConstraints = codes "TooManyConstraints"
grammar_cause_text TooManyEvents = codes "TooManyEvents"
grammar_cause_text NoInput = codes "NoInput"
grammar_cause_text NoOvert = codes "NoOvert"

-- the cause of a form is its name, and its number after one space
abbrev pub form_cause_text : FormErr → List ℕ
form_cause_text (BadSymbol at) = codes "BadSymbol " ++ decimal at
form_cause_text (WrongWidth column) = codes "WrongWidth " ++ decimal column
form_cause_text TooManyColumns = codes "TooLong"
form_cause_text (NotWellFormed tier) = codes "NotWellFormed " ++ decimal tier
form_cause_text (NotReduced column) = codes "NotReduced " ++ decimal column
form_cause_text (UnknownLetter at) = codes "UnknownLetter " ++ decimal at
form_cause_text NoMemoryForForm = codes "NoMemory"

-- the cause of a row is its name, or that of a form
abbrev pub rows_cause_text : RowsCause → List ℕ
rows_cause_text (Form cause) = form_cause_text cause
rows_cause_text NotCandidate = codes "NotCandidate"
rows_cause_text TooMany = codes "TooMany"

-- the cause of a lexicon is its name, the number of its entry, and the cause of the entry's form
abbrev pub lexicon_cause_text : LexErr → List ℕ
lexicon_cause_text NotToml = codes "NotToml"
lexicon_cause_text TooManyEntries = codes "TooMany"
lexicon_cause_text (BadEntry index) = codes "BadEntry " ++ decimal index
lexicon_cause_text (NamedTwice index) = codes "TwiceNamed " ++ decimal index
lexicon_cause_text (BadForm index cause) = ((codes "BadForm " ++ decimal index) ++ codes " ") ++ form_cause_text cause
lexicon_cause_text NoMemoryForLexicon = codes "NoMemory"

-- the cause of an answer is its name
abbrev pub answer_cause_text : AnswerCause → List ℕ
answer_cause_text CutShort = codes "CutShort"
answer_cause_text BadAnswerHeader = codes "BadHeader"
answer_cause_text BadAnswerLine = codes "BadLine"
answer_cause_text BadNumber = codes "BadNumber"
answer_cause_text BadClass = codes "BadClass"
answer_cause_text BadOrder = codes "BadOrder"
answer_cause_text ExtraBytes = codes "ExtraBytes"

-- the line of a status; where all is done there is none
abbrev pub status_text : Status → List ℕ
status_text Done = []
status_text No = codes "no\n"
status_text Usage = codes "usage\n"
status_text (GrammarRefused word line cause) =
    (codes "grammar word " ++ decimal word)
    ++ (((codes " line " ++ decimal line) ++ codes ": ") ++ (grammar_cause_text cause ++ codes "\n"))
status_text (FormRefused word cause) =
    ((codes "form word " ++ decimal word) ++ codes ": ") ++ (form_cause_text cause ++ codes "\n")
status_text (LexiconRefused word cause) =
    ((codes "lexicon word " ++ decimal word) ++ codes ": ") ++ (lexicon_cause_text cause ++ codes "\n")
status_text (AnswerRefused word line cause) =
    (codes "answer word " ++ decimal word)
    ++ (((codes " line " ++ decimal line) ++ codes ": ") ++ (answer_cause_text cause ++ codes "\n"))
status_text (Budget entry stage) =
    (codes "budget entry " ++ decimal entry) ++ ((codes " stage " ++ decimal stage) ++ codes "\n")
status_text (ReadFault word) = (codes "read fault word " ++ decimal word) ++ codes "\n"
status_text WriteFault = codes "write fault\n"
status_text NoMemory = codes "no memory\n"
status_text (RowsRefused word row cause) =
    (codes "rows word " ++ decimal word)
    ++ (((codes " row " ++ decimal row) ++ codes ": ") ++ (rows_cause_text cause ++ codes "\n"))
status_text (TooLong word) = (codes "too long word " ++ decimal word) ++ codes "\n"
