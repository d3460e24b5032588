-- Bytes that are written at the front of an array.
use Rattle.std.proofs.Common.{◌≡◌, ℕ, ◌+◌, ◌<◌, List, [], ◌∷◌, ◌++◌, map, take, set, length, ap, sym, ◌∙◌, arith}
use Rattle.std.proofs.{lemmas.List.{take_more_set, map_push}, lemmas.List.FromFn.map-range_with_len_more}
use Rattle.std.specs.List.{range_with_len}

-- one byte more
pub bytes_more : {Y : Type 0} (g : Y → ℕ) (f : ℕ → Y) (bytes : List ℕ) (n byte : ℕ) → n < length bytes → byte ≡ g (f n)
    → take n bytes ≡ map g (map f (range_with_len 0 n))
    → take (n + 1) (set bytes n byte) ≡ map g (map f (range_with_len 0 (n + 1)))
bytes_more g f bytes n byte h is e =
    take_more_set bytes n byte h ∙ ap (λ xs. xs ++ byte ∷ []) e
    ∙ ap (λ b. map g (map f (range_with_len 0 n)) ++ b ∷ []) is
    ∙ sym (map_push g (map f (range_with_len 0 n)) (f n))
    ∙ sym (ap (map g) (map-range_with_len_more f 0 n n (omega arith)))
