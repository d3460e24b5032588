-- The text of a cause as its line gives it.
use Rattle.std.specs.Prelude.{ℕ, List, ◌++◌, codes}
use Rattle.std.specs.Fmt.{decimal}
use Rattle.command_line.specs.declared.cause.Cause.{Cause}
use Rattle.command_line.specs.declared.cause.Cause.TheVariants.{Named, Form, Entry, EntryForm}
use Rattle.command_line.specs.Lines.{form_cause_text}

abbrev pub cause_text : Cause → List ℕ
cause_text (Named name) = name.now
cause_text (Form cause) = form_cause_text cause
cause_text (Entry name index) = name.now ++ decimal index
cause_text (EntryForm index cause) =
    ((codes "BadForm " ++ decimal index) ++ codes " ") ++ form_cause_text cause
