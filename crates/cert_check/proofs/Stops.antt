-- What a stop says, in other words.
use Rattle.std.proofs.{Common.{◌≡◌, IfErr, Result}, lemmas.Result.IfErr-weaker}
use Rattle.cert_check.specs.{declared.fault.Fault.Fault, declared.stop.Stop.Stop}
use Rattle.cert_check.specs.{declared.stop.Stop.TheVariants.{Found, NoMemory}, Stops.StopsBy}

-- what a stop by a fault says
pub stop_said : (P : Fault → Type 0) (stop : Stop) (fault : Fault) → stop ≡ Found fault → StopsBy P stop → P fault
stop_said P stop fault e p = rw e at p

pub stop_says : (P Q : Fault → Type 0) → ((fault : Fault) → P fault → Q fault) → (stop : Stop) → StopsBy P stop
    → StopsBy Q stop
stop_says P Q h (Found fault) p = h fault p
stop_says P Q h NoMemory p = tt

pub stops_say : {T : Type 0} (r : Result T Stop) (P Q : Fault → Type 0) → ((fault : Fault) → P fault → Q fault)
    → IfErr r (StopsBy P) → IfErr r (StopsBy Q)
stops_say r P Q h e = IfErr-weaker r (StopsBy P) (StopsBy Q) (stop_says P Q h) e
