use Rattle.timeline_text.proofs.Deciding.{read_again}
use Rattle.timeline_text.proofs.reading.written_is_read_again.Goals as goal

pub returns : goal.returns
returns c = read_again
