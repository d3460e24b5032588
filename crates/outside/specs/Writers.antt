-- What a writer of a text promises.
use Rattle.std.specs.Prelude.{◌≡◌, ℕ, ◌≤◌, List, [], ◌++◌, Result, Err, OnErr, OnOk}
use Rattle.outside.specs.Faults.{Rose}
use Rattle.outside.specs.Sent.{append_if_seen, HasSentPart, Sends}
use Rattle.outside.specs.declared.sink.Sink.{Ghosts}
use Rattle.outside.specs.declared.sink.WriteErr.{WriteErr}
use Rattle.outside.specs.declared.sink.WriteErr.TheVariants.{Failed}

-- a sink is given a whole text, and `result` says how that ended
pub record Puts {O A : Type 0} (sink : Ghosts O) (old new : O) (text : List ℕ)
    (result : Result A WriteErr) : Type 0 where
  -- if `result` is Ok, exactly this text has been taken
  pub ok : OnOk result (sink.taken new ≡ append_if_seen (sink.taken old) text)
  -- in any case some prefix of it has been taken
  pub part : HasSentPart (sink.taken old) text (sink.taken new)
  -- the count of faults never falls, and Failed comes only if it has risen
  pub never_falls : sink.faults old ≤ sink.faults new
  pub failed : result ≡ Err Failed → Rose (sink.faults old) (sink.faults new)

-- the same through a buffer: a text is appended to its waiting bytes, from `waits` to `left`
pub record Pushes {O A : Type 0} (sink : Ghosts O) (old new : O) (waits left text : List ℕ)
    (result : Result A WriteErr) : Type 0 where
  -- if `result` is Ok, what waited and the text have been taken, except for what is left
  pub ok : OnOk result (Sends (sink.taken old) (waits ++ text) (sink.taken new) left)
  -- in any case some prefix of both has been taken
  pub part : HasSentPart (sink.taken old) (waits ++ text) (sink.taken new)
  -- a refusal ends the text: nothing waits any more
  pub err : OnErr result (left ≡ [])
  pub never_falls : sink.faults old ≤ sink.faults new
  pub failed : result ≡ Err Failed → Rose (sink.faults old) (sink.faults new)
