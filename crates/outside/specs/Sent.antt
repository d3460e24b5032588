-- What a sink has taken, and how much of a text.
use Rattle.std.specs.Prelude.{◌≡◌, ℕ, Option, List, ◌++◌, option_map}

-- the bytes taken so far followed by a piece; None if the sink does not show its bytes
abbrev pub append_if_seen : Option (List ℕ) → List ℕ → Option (List ℕ)
append_if_seen taken piece = option_map (λ bytes. bytes ++ piece) taken

-- since old, the text has been taken except for what is left
pub record Sends (old : Option (List ℕ)) (text : List ℕ) (new : Option (List ℕ)) (left : List ℕ) : Type 0 where
  pub sent : List ℕ
  pub taken : new ≡ append_if_seen old sent
  pub whole : text ≡ sent ++ left

-- since old, some prefix of the text has been taken
pub record HasSentPart (old : Option (List ℕ)) (text : List ℕ) (new : Option (List ℕ)) : Type 0 where
  pub left : List ℕ
  pub sends : Sends old text new left
