use Rattle.std.specs.Prelude.{refl, codes}
use Rattle.violation.specs.Examples.{timeline}
use Rattle.violation.proofs.ExampleLemmas.{right_words}
use Rattle.violation.proofs.examples.timelines.well_formed_words.Goals as goal

pub returns : goal.returns
returns c = right_words (timeline (codes "- -- [] [+] -[]- [|] [||] []-[] [][] [+|+] -[++]-")) refl
