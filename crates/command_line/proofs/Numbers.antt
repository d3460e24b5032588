-- What is read of a word that is a number.
use Rattle.std.proofs.{Common.{◌≡◌, ℕ, ◌<◌, ◌≤◌, ◌^◌, List, Result, Ok, arith}, lemmas.Fmt.parse-decimal}
use Rattle.std.specs.Str.Parse.{ParsesUnsigned}
use Rattle.command_line.specs.Commands.{IsNumber}

-- a number's word is read as the number
pub read_so : {E : Type 0} (most : ℕ) (word : List ℕ) (number : ℕ) (read : Result ℕ E) → most ≤ 65536
    → ParsesUnsigned 32 10 word read → IsNumber most word number → read ≡ Ok number
read_so most word number read few parsed is =
    let small : number < 2 ^ 32 = omega (arith, is.1.1, few) in
    let wide : number < 2 ^ 64 = omega (arith, is.1.1, few) in
    parse-decimal 32 number word read small wide is.0 parsed
