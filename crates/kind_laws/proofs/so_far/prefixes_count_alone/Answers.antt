use Rattle.std.proofs.{Common.{◌++◌, sym, ◌∙◌, arith}, lemmas.List.{length-append, take-append-le}}
use Rattle.violation.proofs.{Countable.countable_over, MoveLemmas.so_far_of_prefix}
use Rattle.kind_laws.proofs.so_far.prefixes_count_alone.Goals as goal

pub returns : goal.returns
returns x width c over p q w a b n l =
    so_far_of_prefix c.family c.left c.right (p ++ q) (p ++ w) n (countable_over over a) (countable_over over b)
    (omega (arith, length-append p q)) (omega (arith, length-append p w))
    (λ m h. take-append-le m p q (omega arith) ∙ sym (take-append-le m p w (omega arith)))
