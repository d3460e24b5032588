-- What an answer takes from kinds in order: the kinds and potentials of a stage, and node numbers.
use Rattle.std.proofs.Common.{◌≡◌, ℕ, ◌<◌, List, length, sym, ◌∙◌, subst}
use Rattle.kind_orders.specs.Orderings.{IsOrdering}

-- an order is one of as many numbers as it has
pub ordering_of_own : (n : ℕ) (order : List ℕ) → IsOrdering n order → IsOrdering (length order) order
ordering_of_own n order o = subst (λ m. IsOrdering m order) (sym o.count) o
