use Rattle.std.proofs.{Common.{sym, ◌∙◌, map}, lemmas.Simd.map-map}
use Rattle.std.proofs.lemmas.Iterator.Consumers.{YieldsList-end, YieldsList-from_rest}
use Rattle.std.specs.Map.{values_of}
use Rattle.grammar_reader.specs.Seen.{tier_seen}
use Rattle.grammar_reader.proofs.read.kinds_of.Goals as goal

pub returns : goal.returns
returns c =
    let e = (YieldsList-end (YieldsList-from_rest (values_of c.args.tiers.now.entries)
    (cc)) c.loop-kind.yielded _ c.loop-kind.yielded_by _ _ c.in-None.is c.next.ensures.steps).0 in
    c.loop-kind.invariant ∙ e ∙ sym (map-map (λ t. t.kind) tier_seen c.args.tiers.now.entries)
