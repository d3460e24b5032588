use Rattle.std.proofs.Common.{◌≡◌, ◌∷◌, [], ◌++◌, List, map, ap, sym, ◌∙◌, append-nil}
use Rattle.std.specs.List.{join_with_byte}
use Rattle.outside.proofs.Writing.{◌▹◌, cut, pushes_as, stop}
use Rattle.tier_core.specs.{Symbols.byte_of, declared.sym.Sym.Sym}
use Rattle.timeline_text.specs.{Texts.text_of, Tails.tail_text}
use Rattle.timeline_text.proofs.put.push_timeline.Goals as goal

join_tail : (x : List Sym) (cs : List (List Sym))
    → join_with_byte 32 (map (map byte_of) (x ∷ cs)) ≡ map byte_of x ++ tail_text cs
join_tail x [] = sym (append-nil (map byte_of x))
join_tail x (c ∷ cs) = ap (λ t. map byte_of x ++ (32 ∷ t)) (join_tail c cs)

-- the text of a first column and of others
cut_text : (columns : List (List Sym)) (first : List Sym) (others : List (List Sym)) → columns ≡ first ∷ others
    → map byte_of first ++ tail_text others ≡ text_of columns
cut_text columns first others e = sym (ap text_of e ∙ join_tail first others)

pub returns-in_err-push_column : goal.returns-in_err-push_column
returns-in_err-push_column g c =
    let e = cut_text c.args.timeline.now _ _ (sym c.columns.ensures ∙ c.in-Some.ensures.cases.0) in
    stop c.from_residual.ensures.1 (pushes_as e (cut _ c.in_err-push_column.ensures))

pub returns : goal.returns
returns g c =
    let e = cut_text c.args.timeline.now _ _ (sym c.columns.ensures ∙ c.in-Some.ensures.cases.0) in
    pushes_as e (c.in_ok-push_column.ensures ▹ c.push_tail.ensures)
