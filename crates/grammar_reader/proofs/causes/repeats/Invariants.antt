use Rattle.std.proofs.Common.{◌≡◌, false, map, take}
use Rattle.grammar_reader.specs.Names.{has_twice}
use Rattle.grammar_reader.proofs.causes.repeats.Given as goal

-- the names so far are in the set, each once
abbrev pub invariant-loop-name : goal.invariant-loop-name
invariant-loop-name l = record {
  keys : l.seen.keys ≡ take l.name-index l.names;
  once : has_twice (map (λ n. n.now) (take l.name-index l.names)) ≡ false;
}
