-- Numbers as they are written, read again.
use Rattle.std.proofs.Common.{◌≡◌, ℕ, ◌+◌, ◌-◌, ◌*◌, ◌%◌, ◌^◌, ◌<◌, ◌≤◌, ◌==◌, ◌||◌, true, false, cond, nat_lt}
use Rattle.std.proofs.Common.{List, [], ◌∷◌, ◌++◌, length, get_or, Some, None, refl, ap, sym, ◌∙◌, arith, ne_eqb}
use Rattle.std.proofs.{lemmas.Bool.{and_from, and_parts}, lemmas.Bool.Decides.nat_tests, lemmas.Fmt.decimal_by_steps}
use Rattle.std.proofs.{lemmas.List.length_push, lemmas.List.Folds.list_all-append}
use Rattle.std.specs.{Fmt.decimal, List.{list_all, list_any}}
use Rattle.timeline_text.specs.Bytes.{is_digit}
use Rattle.answer_reader.specs.Numbers.{is_run, value_from, has_leading_zero, number_below}

-- digits that write a number
record AreDigitsOf (n : ℕ) (ds : List ℕ) : Type 0 where
  digits : list_all is_digit ds ≡ true
  some : 0 < length ds
  value : value_from 0 ds ≡ n
  plain : has_leading_zero ds ≡ false
  first : 1 ≤ n → 48 < get_or ds 0 0

digit : (d : ℕ) → d < 10 → is_digit (48 + d) ≡ true
digit d l = grind (arith, nat_tests)

value_push : (m : ℕ) (ds : List ℕ) (d : ℕ) → value_from m (ds ++ d ∷ []) ≡ value_from m ds * 10 + (d - 48)
value_push m [] d = refl
value_push m (b ∷ ds) d = value_push (m * 10 + (b - 48)) ds d

not_zero : (b : ℕ) → 48 < b → (b == 48) ≡ false
not_zero b l = ne_eqb b 48 (λ e. absurd (omega arith))

still_plain : (ds : List ℕ) (d : ℕ) → 0 < length ds → 48 < get_or ds 0 0 → has_leading_zero (ds ++ d ∷ []) ≡ false
still_plain [] d l f = absurd (omega arith)
still_plain (b ∷ []) d l f = not_zero b f
still_plain (b ∷ c ∷ ds) d l f = not_zero b f

first_push : (ds : List ℕ) (d : ℕ) → 0 < length ds → get_or (ds ++ d ∷ []) 0 0 ≡ get_or ds 0 0
first_push [] d l = absurd (omega arith)
first_push (b ∷ ds) d l = refl

decimal_digits : (n : ℕ) → n < 2 ^ 64 → AreDigitsOf n (decimal n)
decimal_digits = decimal_by_steps AreDigitsOf
    (λ n l. record {
      digits = and_from (is_digit (48 + n)) true (digit n l) refl;
      some = omega arith;
      value = omega
          arith;
      plain = refl;
      first = λ k. omega arith;
    })
    (λ n ds ten is.
    let f = is.first (omega arith) in
    let size = length_push ds (48 + n % 10) in
    record {
      digits = list_all-append is_digit ds ((48 + n % 10) ∷ [])
          ∙ and_from (list_all is_digit ds) (list_all is_digit ((48 + n % 10) ∷ [])) is.digits
          (and_from (is_digit (48 + n % 10)) true (digit (n % 10) (omega arith)) refl);
      some = omega arith;
      value = value_push 0 ds (48 + n % 10) ∙ ap (λ v. v * 10 + (48 + n % 10 - 48)) is.value ∙ omega arith;
      plain = still_plain ds (48 + n % 10) is.some f;
      first = λ k. omega (arith, first_push ds (48 + n % 10) is.some, f);
    })

-- a number is written as a run of digits
pub run_decimal : (n : ℕ) → n < 2 ^ 64 → is_run (decimal n) ≡ true
run_decimal n l =
    let d = decimal_digits n l in
    and_from _ _
    (let some : nat_lt 0 (length (decimal n)) ≡ true = grind (arith, nat_tests, d.some) in some) d.digits

below : (bound n : ℕ) → n < bound → cond (nat_lt n bound) (Some n) None ≡ Some n
below bound n l = grind (arith, nat_tests)

-- and read as the same
pub number_decimal : (bound n : ℕ) → n < bound → n < 2 ^ 64 → number_below bound (decimal n) ≡ Some n
number_decimal bound n l k =
    let d = decimal_digits n k in
    ap (λ t. cond t None (cond (nat_lt (value_from 0 (decimal n)) bound) (Some (value_from 0 (decimal n))) None))
    d.plain ∙ ap (λ v. cond (nat_lt v bound) (Some v) None) d.value ∙ below _ n l

-- no digit is another byte
other_byte : (b d : ℕ) → is_digit b ≡ false → is_digit d ≡ true → (d == b) ≡ false
other_byte b d other is = ne_eqb d b
    (λ e. absurd (let same = ap is_digit e in let bad = sym other ∙ sym same ∙ is in cc))

digits_without : (b : ℕ) → is_digit b ≡ false → (ds : List ℕ) → list_all is_digit ds ≡ true
    → list_any (λ x. x == b) ds ≡ false
digits_without b other [] h = refl
digits_without b other (d ∷ ds) h =
    let p = and_parts (is_digit d) (list_all is_digit ds) h in
    ap (λ t. t || list_any (λ x. x == b) ds) (other_byte b d other p.0) ∙ digits_without b other ds p.1

pub decimal_without : (b n : ℕ) → is_digit b ≡ false → n < 2 ^ 64 → list_any (λ x. x == b) (decimal n) ≡ false
decimal_without b n other l = digits_without b other _ (decimal_digits n l).digits
