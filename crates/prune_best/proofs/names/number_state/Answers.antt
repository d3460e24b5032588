use Rattle.std.proofs.{Common.{◌≡◌, None, length, get_or, sym, ◌∙◌, arith}, lemmas.List.get_or_read}
use Rattle.prune_best.proofs.Numbering.{names_few, grows-same, numbered-push}
use Rattle.prune_best.proofs.names.number_state.Goals as goal

pub returns-in-Some-clause-grows : goal.returns-in-Some-clause-grows
returns-in-Some-clause-grows c =
    let names = c.args.names.now.items in
    let numbers = c.args.numbers.now.items in
    let read : c.index.result.now
    ≡ get_or numbers c.args.state None = get_or_read numbers c.args.state c.index.result.now c.requires.inside
    c.index.ensures None in
    grows-same names numbers c.requires.numbered c.in-Some.number c.args.state (sym read ∙ c.in-Some.is)

pub overflow_cast-number : goal.overflow_cast-number
overflow_cast-number c =
    omega (
      arith,
      names_few c.args.names.now.items c.args.numbers.now.items c.requires.numbered,
      c.requires.few,
      c.args.names.now.ok,
      c.len-number.ensures,
    )

pub returns-in_ok-push-in-None-clause-numbered : goal.returns-in_ok-push-in-None-clause-numbered
returns-in_ok-push-in-None-clause-numbered c =
    let names = c.args.names.now.items in
    let numbers = c.args.numbers.now.items in
    let read : c.index.result.now
    ≡ get_or numbers c.args.state None = get_or_read numbers c.args.state c.index.result.now c.requires.inside
    c.index.ensures None in
    let last : c.len-number.result ≡ length names = omega (arith, c.len-number.ensures, c.args.names.now.ok) in
    rw c.in_ok-push-in-None.ensures.items
    (numbered-push names numbers c.requires.numbered c.len-number.result c.args.state last c.requires.inside
    (sym read ∙ c.in-None.is))
