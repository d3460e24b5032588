-- Why a checker stops: by a fault of which this is said, or because memory ran out, which says
-- nothing.
use Rattle.cert_check.specs.declared.fault.Fault.{Fault}
use Rattle.cert_check.specs.declared.stop.Stop.{Stop}
use Rattle.cert_check.specs.declared.stop.Stop.TheVariants.{Found, NoMemory}

abbrev pub StopsBy : (Fault → Type 0) → Stop → Type 0
StopsBy said (Found fault) = said fault
StopsBy said NoMemory = Unit {0}
