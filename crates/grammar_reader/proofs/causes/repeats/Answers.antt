use Rattle.std.proofs.Common.{sym, ◌∙◌}
use Rattle.grammar_reader.proofs.Twice.{found_twice, still_once, key_more}
use Rattle.grammar_reader.proofs.causes.repeats.Goals as goal

pub returns-then-contains : goal.returns-then-contains
returns-then-contains c = found_twice c.args.names.now c.loop-name.name-index _ c.loop-name.seen.keys
    c.loop-name-test.true c.loop-name.invariant.keys (sym c.contains.ensures ∙ c.if-contains.true)

pub loop-name-preserved : goal.loop-name-preserved
loop-name-preserved c = record {
  keys = key_more c.args.names.now c.loop-name.name-index _ c.loop-name.seen.keys c.loop-name-test.true
      c.loop-name.invariant.keys c.insert.new.self.keys
      (sym c.contains.ensures ∙ c.if-contains.false) c.in_ok-insert.ensures.keys;
  once = still_once c.args.names.now c.loop-name.name-index _ c.loop-name.seen.keys c.loop-name-test.true
      c.loop-name.invariant.keys c.loop-name.invariant.once (sym c.contains.ensures ∙ c.if-contains.false);
}
