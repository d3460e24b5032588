-- A number that is 1 or 0 by a test, of tests that part one another.
use Rattle.std.proofs.Common.{◌≡◌, ◌+◌, Bool, true, false, not, ◌&&◌, ◌||◌, refl}
use Rattle.symbol_class.specs.Held.{once_if}

pub either_once : (s b r : Bool)
    → once_if (s && not b) + once_if (r && not s) ≡ once_if ((s && not b) || (r && not s))
either_once true true true = refl
either_once true true false = refl
either_once true false true = refl
either_once true false false = refl
either_once false b true = refl
either_once false b false = refl
