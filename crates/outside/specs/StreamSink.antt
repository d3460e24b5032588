-- A stream of the system as a sink.
use Rattle.std.specs.Prelude.{ℕ, Option, List}

pub record Streaming : Type 0 where
  -- the bytes that the stream holds, or None if it does not show them
  pub contents : Option (List ℕ)
  -- how many writes have failed
  pub faults : ℕ
