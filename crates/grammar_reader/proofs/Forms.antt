-- What steps of a form that fail, or that go on, say of the whole.
use Rattle.std.proofs.Common.{◌≡◌, ap, ◌∙◌, Option, Some, option_map, option_and_then}

pub both_some : {X Y Z : Type 0} (f : X → Y → Z) (x : X) (y : Y) (o : Option X) (r : Option Y) → o ≡ Some x
    → r ≡ Some y → option_and_then (λ a. option_map (f a) r) o ≡ Some (f x y)
both_some f x y o r e h = ap (option_and_then (λ a. option_map (f a) r)) e ∙ ap (option_map (f x)) h
