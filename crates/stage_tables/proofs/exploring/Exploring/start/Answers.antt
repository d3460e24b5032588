use Rattle.std.proofs.{Common.{◌≡◌, length, sym, ap, ◌∙◌, arith}, lemmas.Option.slice_get_within}
use Rattle.std.proofs.lemmas.Result.{err_from_is_err_and}
use Rattle.stage_tables.proofs.Beginning.{none_apart, put_alone, numbered_alone, first_found}
use Rattle.stage_tables.proofs.exploring.Exploring.start.Goals as goal

pub number_of-requires-clause-apart : goal.number_of-requires-clause-apart
number_of-requires-clause-apart c = none_apart _ c.new.ensures.empty

pub returns-clause-found : goal.returns-clause-found
returns-clause-found c =
    let exploring = c.args.self.now in
    let entries = c.number_of.new.listed.kinds.entries in
    let said = c.in_ok-_start.ensures in
    record {
      found = first_found _ _ _ exploring.kept.now.some _ _ said.apart (numbered_alone _ _ _ _ 0 c.new.ensures.empty
          said.numbered) (c.start.ensures exploring.stage);
      few = said.few;
    }

pub returns-clause-one : goal.returns-clause-one
returns-clause-one c = ap (λ xs. length xs) (numbered_alone _ _ _ _ 0 c.new.ensures.empty
    c.in_ok-_start.ensures.numbered)

pub returns-in_err-_start-clause-within : goal.returns-in_err-_start-clause-within
returns-in_err-_start-clause-within c =
    let p = err_from_is_err_and c.from_residual.result c.from_residual.ensures.1 in
    let said = c.in_err-_start.ensures in
    let same : p.0 ≡ c.in_err-_start.field-0.0 = p.2 in
    let entries = c.number_of.new.listed.kinds.entries in
    rw p.1 (λ over.
    (let alone = put_alone c.new.result.entries entries c.start.result 0 c.new.ensures.empty
    (said.over_put (sym same ∙ over)) in
    let one : length entries ≡ 1 = ap (λ xs. length xs) alone in
    absurd (omega (arith, one, said.over (sym same ∙ over), c.requires.budget))))

pub number_of-requires-clause-over_one : goal.number_of-requires-clause-over_one
number_of-requires-clause-over_one c k s at =
    let long = slice_get_within c.new.result.entries k (c.start.result, s) at in
    let none = ap (λ xs. length xs) c.new.ensures.empty in
    absurd (omega (arith, long, none))
