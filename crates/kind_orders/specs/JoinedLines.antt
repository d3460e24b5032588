-- Arcs that read what others read, and are joined.
use Rattle.std.specs.Prelude.{ℕ, ◌≡◌, Bool, ◌&&◌, IsTrue, List, ◌++◌, map, All, AllPairs, IsSorted}
use Rattle.std.specs.List.{count_by}
use Rattle.tier_core.specs.declared.sym.Sym.{Sym}
use Rattle.tier_core.specs.declared.class.Class.{Class}
use Rattle.tier_core.specs.Classes.{has}
use Rattle.tier_core.specs.Filled.{is_filled}
use Rattle.symbol_class.specs.ClassOrder.{class_cmp}
use Rattle.symbol_class.specs.Held.{times_held}
use Rattle.symbol_class.specs.Joined.{DifferTwice}
use Rattle.answer_text.specs.declared.automaton.ArcLine.{ArcLine}
use Rattle.kind_orders.specs.JoinedArcs.{AreJoined}

-- the arc to a target on a class
abbrev pub arc_to : ℕ → Class → ArcLine
arc_to target class = record { target = target; class = class }

-- how many arcs to such targets have a column
abbrev pub times_to : (ℕ → Bool) → List ArcLine → List Sym → ℕ
times_to to arcs column = count_by (λ arc. to arc.target && has arc.class column) arcs

-- Arcs have each column as often as lines have it, to each target; none is empty, and they are
-- joined.
pub record AreJoinedFrom (lines arcs : List ArcLine) : Type 0 where
  pub held : (to : ℕ → Bool) (column : List Sym) → times_to to arcs column ≡ times_to to lines column
  pub filled : All (λ arc. IsTrue (is_filled arc.class)) arcs
  pub joined : AreJoined arcs

-- Arcs to one target are put at the end of others: their classes hold each column as often as these
-- classes, none is empty, any two differ in the sets of at least two tiers, and they are sorted.
pub record AddsJoined (target : ℕ) (classes : List Class) (old new : List ArcLine) : Type 0 where
  pub added : List Class
  pub new_is : new ≡ old ++ map (arc_to target) added
  pub held : (column : List Sym) → times_held added column ≡ times_held classes column
  pub filled : All (λ class. IsTrue (is_filled class)) added
  pub differ : AllPairs DifferTwice added
  pub sorted : IsSorted class_cmp added
