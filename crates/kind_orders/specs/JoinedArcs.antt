-- Joined arcs: as few as can be got by joining the classes of two arcs to one state along a tier.
use Rattle.std.specs.Prelude.{◌≡◌, List, All, AllPairs}
use Rattle.symbol_class.specs.Joined.{DifferTwice}
use Rattle.answer_text.specs.declared.automaton.ArcLine.{ArcLine}
use Rattle.answer_text.specs.declared.automaton.StateLine.{StateLine}

-- any two arcs with the same target differ in the sets of at least two tiers
abbrev pub AreJoined : List ArcLine → Type 0
AreJoined arcs = AllPairs (λ a b. a.target ≡ b.target → DifferTwice a.class b.class) arcs

-- the arcs of each state are joined
abbrev pub HaveJoinedArcs : List StateLine → Type 0
HaveJoinedArcs states = All (λ state. AreJoined state.arcs.items) states
