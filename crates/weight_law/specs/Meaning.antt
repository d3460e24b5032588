-- What weights mean, as contracts see them, and their laws: an ordered commutative monoid whose
-- least value is its zero, like costs in the semirings of weighted automata (after Ellison 1994).
use Rattle.std.specs.Prelude.{◌≡◌, ℕ, ◌+◌, ◌≤◌, Bool, true, false, if◌then◌else◌}
use Rattle.std.specs.declared.cmp.Ordering.{Ordering}
use Rattle.std.specs.declared.cmp.Ordering.TheVariants.{Less, Equal, Greater}

-- what a type of weights means: `below` is a strict order, and `lawful` holds of every value of the
-- type. Its numbers are unlimited: `size` bounds what a sum needs
pub record Meaning (W : Type 0) : Type 0 where
  pub zero : W
  pub size : W → ℕ
  pub lawful : W → Bool
  pub sum : W → W → W
  pub below : W → W → Bool

-- how two weights compare
abbrev pub order_of : {W : Type 0} → Meaning W → W → W → Ordering
order_of m a b = if m.below a b then Less else (if m.below b a then Greater else Equal)

-- a is at most b: b is not below a
abbrev pub AtMost : {W : Type 0} → Meaning W → W → W → Type 0
AtMost m a b = m.below b a ≡ false

-- the laws, which hold for all lawful weights: sums are associative and commutative with `zero`
-- neutral, `below` is a total order with `zero` least, and adding the same weight preserves it
pub record IsLawful {W : Type 0} (m : Meaning W) : Type 0 where
  pub lawful_zero : m.lawful m.zero ≡ true
  pub lawful_sum : (a b : W) → m.lawful a ≡ true → m.lawful b ≡ true → m.lawful (m.sum a b) ≡ true
  pub size_zero : m.size m.zero ≡ 0
  pub size_sum : (a b : W) → m.lawful a ≡ true → m.lawful b ≡ true → m.size (m.sum a b) ≤ m.size a + m.size b
  pub sum_assoc : (a b c : W) → m.lawful a ≡ true → m.lawful b ≡ true → m.lawful c ≡ true → m.sum (m.sum a b) c ≡ m.sum a (m.sum b c)
  pub sum_comm : (a b : W) → m.lawful a ≡ true → m.lawful b ≡ true → m.sum a b ≡ m.sum b a
  pub sum_zero : (a : W) → m.lawful a ≡ true → m.sum a m.zero ≡ a
  pub below_itself : (a : W) → m.lawful a ≡ true → m.below a a ≡ false
  pub below_transitive : (a b c : W) → m.lawful a ≡ true → m.lawful b ≡ true → m.lawful c ≡ true → m.below a b ≡ true → m.below b c ≡ true → m.below a c ≡ true
  pub below_total : (a b : W) → m.lawful a ≡ true → m.lawful b ≡ true → m.below a b ≡ false → m.below b a ≡ false → a ≡ b
  pub below_zero : (a : W) → m.lawful a ≡ true → m.below a m.zero ≡ false
  pub below_sum : (a b c : W) → m.lawful a ≡ true → m.lawful b ≡ true → m.lawful c ≡ true → m.below (m.sum a c) (m.sum b c) ≡ m.below a b
