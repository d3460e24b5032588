use Rattle.outside.proofs.Writing.{pushes_held, refused, stop, through}
use Rattle.outside.proofs.out_buffer.OutBuffer.push.Goals as goal

pub returns-then-piece-room : goal.returns-then-piece-room
returns-then-piece-room g c = pushes_held c.args.sink.now tt c.hold.ensures

pub returns-in_err-flush : goal.returns-in_err-flush
returns-in_err-flush g c =
    stop c.from_residual.ensures.1
    (refused c.args.piece.now c.flush.ensures.empty c.in_err-flush.ensures.puts)

pub returns : goal.returns
returns g c = through c.flush.ensures.empty c.in_ok-flush.ensures.puts c.put_all.ensures
