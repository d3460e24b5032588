-- The first line of a text, and the lines behind it.
use Rattle.std.proofs.Common.{◌≡◌, ℕ, ◌+◌, ◌<◌, ◌==◌, false, List, [], ◌∷◌, length, cond, take, drop, refl, ap, sym}
use Rattle.std.proofs.{Common.{◌∙◌, arith, Some, None, position, All}, lemmas.Bool.Decides.nat_tests}
use Rattle.std.proofs.lemmas.List.Splits.{slice_split_first, slice_split_none, length-slice_split}
use Rattle.std.specs.List.{slice_split, position_or_len, before_first, after_first}
use Rattle.std.specs.Str.Lines.{lines, lines_of_parts, strip_carriage_return}
use Rattle.timeline_text.proofs.Splits.{none_passes}

-- a part with parts behind it is a line
part_is_line : (part : List ℕ) (parts : List (List ℕ)) → 0 < length parts
    → lines_of_parts (part ∷ parts) ≡ strip_carriage_return part ∷ lines_of_parts parts
part_is_line part [] h = absurd (omega arith)
part_is_line part (next ∷ parts) h = refl

some_part : (bytes : List ℕ) → 0 < length (slice_split (λ b. b == 10) bytes)
some_part bytes = omega (arith, length-slice_split (λ b. b == 10) bytes)

within : (bytes : List ℕ) (end : ℕ) → position (λ b. b == 10) bytes ≡ Some end
    → (position_or_len (λ b. b == 10) bytes ≡ end) × (end < length bytes)
within bytes end h = grind (arith, nat_tests)

-- there is a line feed
pub cut_at : (bytes front behind line : List ℕ) (end : ℕ) → position (λ b. b == 10) bytes ≡ Some end
    → front ≡ take end bytes → behind ≡ drop (end + 1) bytes → line ≡ strip_carriage_return front
    → lines bytes ≡ line ∷ lines behind
cut_at bytes front behind line end h f d e =
    let w = within bytes end h in
    let less : position_or_len (λ b. b == 10) bytes < length bytes = omega (arith, w.0, w.1) in
    let head : before_first (λ b. b == 10) bytes ≡ front = ap (λ n. take n bytes) w.0 ∙ sym f in
    let tail : after_first (λ b. b == 10) bytes ≡ behind = ap (λ n. drop (n + 1) bytes) w.0 ∙ sym d in
    ap lines_of_parts (slice_split_first (λ b. b == 10) bytes 0 less)
    ∙ part_is_line (before_first (λ b. b == 10) bytes) (slice_split (λ b. b == 10) (after_first (λ b. b == 10) bytes))
    (some_part (after_first (λ b. b == 10) bytes))
    ∙ ap (λ x. strip_carriage_return x ∷ lines (after_first (λ b. b == 10) bytes)) head
    ∙ ap (λ x. strip_carriage_return front ∷ lines x) tail
    ∙ ap (λ x. x ∷ lines behind) (sym e)

last_line : (bytes : List ℕ) → 0 < length bytes → lines_of_parts (bytes ∷ []) ≡ bytes ∷ []
last_line bytes h = let some : (length bytes == 0)
    ≡ false = grind (arith, nat_tests) in ap (λ b. cond b [] (bytes ∷ [])) some

pub nothing_behind : (behind : List ℕ) → length behind ≡ 0 → lines behind ≡ []
nothing_behind [] h = refl
nothing_behind (b ∷ behind) h = absurd (omega arith)

-- there is none, so that the text is its last line
pub cut_none : (bytes behind : List ℕ) → 0 < length bytes → position (λ b. b == 10) bytes ≡ None → length behind ≡ 0
    → lines bytes ≡ bytes ∷ lines behind
cut_none bytes behind some h n =
    let passes : All (λ b. (b == 10) ≡ false) bytes = none_passes (λ b. b == 10) bytes h in
    ap lines_of_parts (slice_split_none (λ b. b == 10) bytes passes) ∙ last_line bytes some
    ∙ ap (λ ls. bytes ∷ ls) (sym (nothing_behind behind n))
