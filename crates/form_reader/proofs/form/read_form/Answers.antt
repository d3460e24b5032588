use Rattle.std.proofs.Common.{◌≡◌, ℕ, ◌≤◌, length, List, All, ap, sym, ◌∙◌, subst}
use Rattle.timeline_text.specs.{declared.letter.Letter.Letter, Spelling.HasSound}
use Rattle.form_reader.proofs.InputTiers.{few_inputs, some_inputs, sounds}
use Rattle.form_reader.proofs.form.read_form.Goals as goal

pub read_spelled-requires-clause-some : goal.read_spelled-requires-clause-some
read_spelled-requires-clause-some c =
    let n = c.input_count-inputs.ensures.value in
    subst (λ m. 1 ≤ m) (sym n) (some_inputs c.args.grammar.now)

pub read_spelled-requires-clause-few : goal.read_spelled-requires-clause-few
read_spelled-requires-clause-few c =
    let n = c.input_count-inputs.ensures.value in
    subst (λ m. m ≤ 6) (sym n) (few_inputs c.args.grammar.now)

pub read_spelled-requires-clause-sounds : goal.read_spelled-requires-clause-sounds
read_spelled-requires-clause-sounds c =
    let n = c.input_count-inputs.ensures.value in
    subst (λ (letters : List Letter). All (HasSound c.input_count-inputs.result) letters) (sym c.deref.ensures.value)
    (sounds c.args.grammar.now c.input_count-inputs.result n)

pub read_timeline-requires-clause-some : goal.read_timeline-requires-clause-some
read_timeline-requires-clause-some c =
    let n = c.input_count-inputs.ensures.value in
    subst (λ m. 1 ≤ m) (sym n) (some_inputs c.args.grammar.now)
