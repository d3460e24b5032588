use Rattle.std.proofs.Common.{◌≡◌, ℕ, zero, suc, ◌<◌, List, [], ◌∷◌, length, get_or, sym, ◌∙◌, subst, arith}
use Rattle.std.specs.List.{AllByRecursion}
use Rattle.tier_core.specs.{declared.sym.Sym.Sym, Shapes.masked_count}
use Rattle.check_tests.proofs.tests.verdict_by_second_column.Goals as goal

all_at : {X : Type 0} (P : X → Type 0) (xs : List X) (i : ℕ) (d : X) → i < length xs → AllByRecursion P xs
    → P (get_or xs i d)
all_at P [] i d l a = absurd (omega (arith, l))
all_at P (x ∷ xs) zero d l a = a.0
all_at P (x ∷ xs) (suc i) d l a = all_at P xs i d (omega (arith, l)) a.1

pub check-requires : goal.check-requires
check-requires c =
    let readable = c.requires.readable in
    let other = c.with_form-other.ensures in
    let wide : List Sym → Type 0 = λ column. length column ≡ masked_count c.args.shape.now.inputs in
    let long : 1 < length c.args.answer.form = omega (arith, c.len.ensures, c.if-len-lt2.false) in
    record {
      shape = c.args.shape.now;
      of_grammar = c.requires.shape;
      readable = record {
        form_width = subst (AllByRecursion wide) (sym (other.form ∙ c.in_ok-form.ensures))
            (all_at wide c.args.answer.form 1 [] long readable.form_width, tt);
        example_width = rw other.example readable.example_width;
        example_size = rw other.example readable.example_size;
        few_counts = rw other.counts readable.few_counts;
        counts = rw other.counts readable.counts;
        few_stages = rw other.stages readable.few_stages;
        stages = rw other.stages readable.stages;
        states = rw (other.stages, other.automaton) readable.states;
      };
    }
