use Rattle.std.proofs.Common.{◌-◌, ◌++◌, List}
use Rattle.tier_core.specs.declared.sym.Sym.{Sym}
use Rattle.comprehend.specs.{Searches.IsLeft, Steps.{Goes, IsEndCell}}
use Rattle.first_paths.proofs.FirstStep.{IsFirstFrom}
use Rattle.comprehend.proofs.follow.follow.Given as goal

abbrev pub invariant-loop-done : goal.invariant-loop-done
invariant-loop-done l = record {
  left_is : IsLeft l.left l.from (l.most - l.done);
  first : (word : List (List Sym)) → IsFirstFrom (Goes l.states l.tests) (IsEndCell l.states l.tests) l.from word
      → IsFirstFrom (Goes l.states l.tests) (IsEndCell l.states l.tests) l.start (l.timeline ++ word);
}
