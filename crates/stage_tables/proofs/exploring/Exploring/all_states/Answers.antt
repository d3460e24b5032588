use Rattle.std.proofs.{Common.{◌≡◌, List, length, ap, sym, ◌∙◌, arith}, lemmas.List.length-map}
use Rattle.std.proofs.{lemmas.Option.slice_get_within, lemmas.Result.err_from_is_err_and}
use Rattle.std.specs.Map.{keys_of}
use Rattle.tier_core.specs.declared.kind.Kind.{Kind}
use Rattle.stage_tables.proofs.Named.{new_targets, new_filled, new_width, new_disjoint}
use Rattle.stage_tables.proofs.exploring.Exploring.all_states.Goals as goal

pub of_states-requires : goal.of_states-requires
of_states-requires c =
    let exploring = c.args.self.now in
    let frame = exploring.frame.now in
    let kept = exploring.kept.now in
    let entries = c.states.new.listed.kinds.entries in
    let states = c.in_ok-states.states.items in
    let done = c.in_ok-states.ensures in
    let found = done.found.found in
    record {
      some = omega (arith, slice_get_within entries 0 (found.start.0, 0) found.start.1, done.each);
      few = omega (arith, done.each, done.found.few, c.requires.few);
      targets = new_targets frame exploring.first exploring.stage kept.states.items entries found states done.taken
          done.each;
      disjoint = new_disjoint frame exploring.first exploring.stage kept.states.items entries found states done.taken
          done.each kept.disjoint;
      filled = new_filled frame exploring.first exploring.stage kept.states.items entries found states done.taken
          done.each;
      one_width = new_width frame exploring.first exploring.stage kept.states.items entries found states done.taken
          done.each;
    }

pub returns-clause-found : goal.returns-clause-found
returns-clause-found c =
    let listed = c.states.new.listed in
    let done = c.in_ok-states.ensures in
    rw c.of_states.ensures
    (record {
      entries = listed.kinds.entries;
      named = c.in-Ok.ensures.items ∙ c.as_slice.ensures ∙ c.keys.ensures.rest;
      found = done.found.found;
      taken = done.taken;
      all = done.each;
    })

pub returns-clause-few : goal.returns-clause-few
returns-clause-few c =
    let entries = c.states.new.listed.kinds.entries in
    let named = c.in-Ok.ensures.items ∙ c.as_slice.ensures ∙ c.keys.ensures.rest in
    omega (
      arith,
      ap (λ (xs : List Kind). length xs) named,
      length-map entries (λ e. e.0),
      c.in_ok-states.ensures.found.few,
    )

pub returns-in_err-listed-clause-over : goal.returns-in_err-listed-clause-over
returns-in_err-listed-clause-over c =
    let p = err_from_is_err_and c.from_residual.result c.from_residual.ensures.1 in
    let same : p.0 ≡ c.in_err-listed.field-0.0 = p.2 in
    rw p.1 (λ over. absurd (c.in_err-listed.ensures.within (sym same ∙ over)))

pub returns-in_err-states-clause-over : goal.returns-in_err-states-clause-over
returns-in_err-states-clause-over c =
    let p = err_from_is_err_and c.from_residual-in_err-states.result c.from_residual-in_err-states.ensures.1 in
    let same : p.0 ≡ c.in_err-states.field-0.0 = p.2 in
    rw p.1 (λ over. (c.states.new.listed, c.in_err-states.ensures.beyond (sym same ∙ over)))
