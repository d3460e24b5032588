-- Two weights as one: added part by part, and compared by the first and then by the second.
use Rattle.std.specs.Prelude.{max, Bool, true, false, ◌&&◌}
use Rattle.weight_law.specs.Meaning.{Meaning}
use Rattle.weight_law.specs.declared.pair.Pair.{Pair}

abbrev pub pair_of : {A B : Type 0} → A → B → Pair A B
pair_of a b = record { first = a; second = b }

-- whether a pair is below another: its first part is below, or neither first part is below the
-- other, and its second part is below
abbrev pub pair_below : Bool → Bool → Bool → Bool
pair_below true back second = true
pair_below false true second = false
pair_below false false second = second

abbrev pub pair_meaning : {A B : Type 0} → Meaning A → Meaning B → Meaning (Pair A B)
pair_meaning a b = record {
  zero = pair_of a.zero b.zero;
  size = λ p. max (a.size p.first) (b.size p.second);
  lawful = λ p. a.lawful p.first && b.lawful p.second;
  sum = λ p q. pair_of (a.sum p.first q.first) (b.sum p.second q.second);
  below = λ p q. pair_below (a.below p.first q.first) (a.below q.first p.first) (b.below p.second q.second);
}
