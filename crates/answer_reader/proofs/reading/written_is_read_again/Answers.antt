use Rattle.answer_reader.proofs.WrittenAnswer.{read_back}
use Rattle.answer_reader.proofs.reading.written_is_read_again.Goals as goal

pub returns : goal.returns
returns c = read_back
