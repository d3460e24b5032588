use Rattle.answer_text.proofs.Counts.{ones_of}
use Rattle.answer_reader.proofs.head.input_count.Goals as goal

pub returns : goal.returns
returns c = ones_of _ _ c.args.shape.now.few c.args.shape.now.within
