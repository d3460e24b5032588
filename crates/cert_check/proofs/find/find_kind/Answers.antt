use Rattle.std.proofs.Common.{◌≡◌, List, Some, Contains, MatchOption, slice_get}
use Rattle.tier_core.specs.{Kinds.{PrefixKind}}
use Rattle.cert_check.proofs.Subjects.{tell_same, told_read}
use Rattle.cert_check.proofs.find.find_kind.Goals as goal

pub find-requires-clause-ascending : goal.find-requires-clause-ascending
find-requires-clause-ascending c =
    rw ((told_read c.args.subject.now c.requires.ready c.args.stage c.requires.stage c.as_slice-nodes.result.now
    c.index.result.now c.as_slice-nodes.ensures.value c.index.ensures)) c.requires.ascends

pub returns : goal.returns
returns c =
    let s = c.args.subject.now in
    let Found : List PrefixKind → PrefixKind
    → Type 0 = λ kinds k. MatchOption c.find.result (Contains kinds k → ⊥) (λ n. slice_get kinds n ≡ Some k) in
    rw (tell_same s c.requires.ready c.args.stage c.requires.stage c.args.kind.now) at (rw (told_read s c.requires.ready
    c.args.stage c.requires.stage c.as_slice-nodes.result.now c.index.result.now c.as_slice-nodes.ensures.value
    c.index.ensures) at c.find.ensures)
