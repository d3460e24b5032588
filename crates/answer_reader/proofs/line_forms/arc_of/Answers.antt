use Rattle.std.proofs.Common.{option_map, ap, sym, ◌∙◌}
use Rattle.tier_core.specs.Classes.{sets_of}
use Rattle.answer_reader.proofs.ClassLoop.{class_width}
use Rattle.answer_reader.proofs.line_forms.arc_of.Goals as goal

pub returns-in-Some-class_of-clause-within : goal.returns-in-Some-class_of-clause-within
returns-in-Some-class_of-clause-within c = record {
  wide = class_width _ _ _ (sym c.class_of.ensures ∙ ap (option_map sets_of) c.in-Some-class_of.is);
  target = c.in-Some-number_below.ensures.below;
}
