use Rattle.std.proofs.Common.{◌<◌, ◌-◌, ◌++◌, List, length}
use Rattle.tier_core.specs.declared.sym.Sym.{Sym}
use Rattle.first_paths.specs.Counted.{IsLeft, Goes, IsEnd}
use Rattle.first_paths.proofs.FirstStep.{IsFirstFrom}
use Rattle.first_paths.proofs.follow.first.Given as goal

abbrev pub invariant-loop-done : goal.invariant-loop-done
invariant-loop-done l = record {
  inside : l.state < length l.table.states.items;
  left_is : IsLeft l.left.items l.state (l.most - l.done);
  first : (word : List (List Sym))
      → IsFirstFrom (Goes l.table.states.items) (IsEnd l.table.states.items) l.state word
      → IsFirstFrom (Goes l.table.states.items) (IsEnd l.table.states.items) 0 (l.timeline ++ word);
}
