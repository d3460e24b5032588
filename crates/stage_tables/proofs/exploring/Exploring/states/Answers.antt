use Rattle.std.proofs.{Common.{◌≡◌, ◌<◌, not, length, ap, sym, ◌∙◌, arith}, lemmas.Option.slice_get_within}
use Rattle.stage_tables.specs.Listed.{IsAt}
use Rattle.stage_tables.proofs.{Listing.{at_found, none_found}, Finding.taken_push, Beginning.{none_made, one_more}}
use Rattle.stage_tables.proofs.exploring.Exploring.states.Goals as goal

pub making-init : goal.making-init
making-init c = record {
  found = c.requires.found;
  taken = none_made _ _ _ _ _ _ c.requires.one c.new-states.ensures.items;
}

pub new_moves-requires-clause-found : goal.new_moves-requires-clause-found
new_moves-requires-clause-found c = c.making.invariant.found

pub new_moves-requires-clause-over : goal.new_moves-requires-clause-over
new_moves-requires-clause-over c = (
  c.len.result,
  sym c.entry_at.ensures ∙ c.in-Some.is,
)

pub new_moves-requires-clause-state : goal.new_moves-requires-clause-state
new_moves-requires-clause-state c =
    (c.making.invariant.found.found.stands c.len.result c.in-Some.kind c.in-Some.state
    (sym c.entry_at.ensures ∙ c.in-Some.is)).within

pub at_end-requires : goal.at_end-requires
at_end-requires c =
    (c.making.invariant.found.found.stands c.len.result c.in-Some.kind c.in-Some.state
    (sym c.entry_at.ensures ∙ c.in-Some.is)).fits.place

pub making-smaller : goal.making-smaller
making-smaller c =
    let n = length c.making.states.items in
    let entries = c.making.listed.kinds.entries in
    let inside = slice_get_within entries c.len.result _ (sym c.entry_at.ensures ∙ c.in-Some.is) in
    let few : n < c.args.self.now.budget = omega (
      arith,
      inside,
      c.len.ensures,
      c.making.states.ok,
      c.making.invariant.found.few,
    ) in
    rw (c.push.ensures.items, c.is_err.ensures.negation ∙ ap not c.if-is_err.false) (one_more _ _ _ few)

pub making-preserved : goal.making-preserved
making-preserved c =
    let entries = c.making.listed.kinds.entries in
    let next = c.new_moves.new.listed in
    let done = c.in_ok-arcs.ensures in
    let n = length c.making.states.items in
    let same : c.len.result ≡ n = omega (arith, c.len.ensures, c.making.states.ok) in
    let at : IsAt entries n c.in-Some.kind c.in-Some.state = at_found entries c.len.result n c.entry_at.result
    c.in-Some.kind c.in-Some.state c.entry_at.ensures c.in-Some.is same in
    record {
      found = done.found;
      taken = rw (c.push.ensures.items, c.is_err.ensures.negation ∙ ap not c.if-is_err.false)
          (taken_push c.args.self.now.frame.now c.args.self.now.first c.args.self.now.stage
          c.args.self.now.kept.now.states.items entries next.kinds.entries done.stays c.making.states.items _
          c.in-Some.kind c.in-Some.state
          c.making.invariant.taken at
          (record { accepts = c.at_end.ensures c.args.self.now.stage; taken = done.taken }) done.targets);
    }

pub returns-clause-found : goal.returns-clause-found
returns-clause-found c = c.making.invariant.found

pub returns-clause-taken : goal.returns-clause-taken
returns-clause-taken c = c.making.invariant.taken

pub returns-clause-each : goal.returns-clause-each
returns-clause-each c =
    let none = none_found c.making.listed.kinds.entries c.len.result (sym c.entry_at.ensures ∙ c.in_default.is) in
    omega (arith, none, c.len.ensures, c.making.states.ok, c.making.invariant.taken.within)
