use Rattle.outside.proofs.Loading.{opened_file}
use Rattle.outside.proofs.file_shelf.FileShelfShelf.load.Goals as goal

pub returns-clause-whole : goal.returns-clause-whole
returns-clause-whole g c =
    opened_file g.R.File.Read.remaining c.args.limit c.open.result c.read_opened-answer.result
    c.read_opened-answer.ensures.whole
    c.read_opened-answer.ensures.unopened
