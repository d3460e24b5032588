-- Counts of faults by name.
use Rattle.std.specs.Prelude.{ℕ, List, String, unwrap_or}
use Rattle.std.specs.BTreeMap.{BTreeMap, get_by_text}

-- the count of a name; one that was never asked for has no faults
abbrev pub fault_count : {Y : Type 0} → BTreeMap (String Y) ℕ → List ℕ → ℕ
fault_count counts name = unwrap_or (get_by_text counts name) 0
