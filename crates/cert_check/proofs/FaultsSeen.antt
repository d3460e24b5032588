-- Two answers that are seen alike have the same faults.
use Rattle.std.proofs.Common.{◌≡◌, ℕ, ◌+◌, ◌-◌, Bool, IsTrue, List, [], length, map, slice_get, Some}
use Rattle.std.proofs.{Common.{None, Option, sym, ap, ◌∙◌, subst, inl, inr}, lemmas.Simd.map-map}
use Rattle.std.specs.Prelude.{◌↔◌, slice_index_or}
use Rattle.tier_core.specs.{declared.sym.Sym.Sym, declared.kind.Kind.Kind, declared.constraint.Constraint.Constraint}
use Rattle.tier_core.specs.{Classes.{has}, Kinds.{PrefixKind, prefix_kind}}
use Rattle.grammar_reader.specs.Requirements.{requirements_seen}
use Rattle.violation.specs.{Candidates.{IsCandidate, count_at}, Moves.{next_kind, cost_of, cut_kind, is_final}}
use Rattle.violation.specs.{Prefixes.kind_of_bits, Problems.{Problem, last_stage}}
use Rattle.answer_text.specs.{declared.stage.Node.Node, declared.automaton.ArcLine.ArcLine}
use Rattle.answer_text.specs.{declared.automaton.StateLine.StateLine, declared.answer.Answer.Answer}
use Rattle.answer_text.specs.{Right.{nodes_at, kinds_at, numbers_of}, Seen.node_seen}
use Rattle.answer_text.specs.Values.{ArcValue, NodeValue, StateValue, arc_value}
use Rattle.answer_text.specs.Certified.{Lists, IsKeptBelow, IsTightAt, start_potential}
use Rattle.cert_check.specs.{declared.fault.Fault.Fault, declared.fault.Verdict.Verdict}
use Rattle.cert_check.specs.declared.fault.Verdict.TheVariants.{Yes, No}
use Rattle.cert_check.specs.declared.fault.Fault.TheVariants.{FormWrong, StageMissing, ExampleWrong, CountsDiffer}
use Rattle.cert_check.specs.declared.fault.Fault.TheVariants.{NodeWrong, StartMissing, FinalPotential, NotClosed}
use Rattle.cert_check.specs.declared.fault.Fault.TheVariants.{Potential, StartPotential, StateMissing, FinalsDiffer}
use Rattle.cert_check.specs.declared.fault.Fault.TheVariants.{ArcsTwice, ArcsDiffer}
use Rattle.cert_check.specs.Faults.{LacksStage, HasWrongCount, HasNode, IsInOrder, HasWrongNode, LacksStart}
use Rattle.cert_check.specs.Faults.{HasFinalPotential, TellsKind, IsNotClosed, HasHighPotential, HasWrongStart}
use Rattle.cert_check.specs.Faults.{HasState, IsKindOfState, LacksTarget, HasWrongMark, HasTwice, IsListedTarget}
use Rattle.cert_check.specs.{Faults.{IsKeptTarget, HasWrongArcs}, FirstFaults.{IsFault, IsFirstFault, LacksState}}
use Rattle.cert_check.specs.{Verdicts.IsVerdict, Seen.{AreAskedAlike, AreSeenAlike}}
use Rattle.cert_check.proofs.AskedAlike.{by_alike, same_closed, same_cost, same_count, same_cut, same_kind}
use Rattle.cert_check.proofs.AskedAlike.{same_move, same_stretch_count, same_vec, with_constraints}
use Rattle.cert_check.proofs.SeenLists.{at_number, member}

-- Two answers that are seen alike, each for its own constraints, which require the same.
record Two : Type 0 where
  base : Problem
  cs : List Constraint
  ds : List Constraint
  asked : requirements_seen cs ≡ requirements_seen ds
  a : Answer
  b : Answer
  seen : AreSeenAlike (with_constraints base cs) a b

abbrev here : Two → Problem
here s = with_constraints s.base s.cs

abbrev there : Two → Problem
there s = with_constraints s.base s.ds

same_told : (s : Two) (r : ℕ) (kind : Kind) → kind_of_bits (here s) r kind ≡ kind_of_bits (there s) r kind
same_told s r kind = ap (λ n. prefix_kind (length s.base.tiers.free) n kind) (same_stretch_count s.base _ _ s.asked r)

-- nodes are seen alike for either
nodes_there : (s : Two) (r : ℕ) → map (node_seen (there s) r) (nodes_at s.a.stages.items r)
    ≡ map (node_seen (there s) r) (nodes_at s.b.stages.items r)
nodes_there s r =
    let seen_by : ℕ → Node → NodeValue = λ n node. record {
      kind = prefix_kind (length s.base.tiers.free) n node.kind;
      potential = node.potential;
    } in
    subst (λ n. map (seen_by n) (nodes_at s.a.stages.items r) ≡ map (seen_by n) (nodes_at s.b.stages.items r))
    (same_stretch_count s.base _ _ s.asked r) (s.seen.nodes r)

abbrev turned : Two → Two
turned s = record {
  base = s.base;
  cs = s.ds;
  ds = s.cs;
  asked = sym s.asked;
  a = s.b;
  b = s.a;
  seen = record {
    form = sym s.seen.form;
    counts = sym s.seen.counts;
    example = sym s.seen.example;
    stages = sym s.seen.stages;
    nodes = λ r. sym (nodes_there s r);
    states = sym s.seen.states;
  };
}

-- ---- nodes

same_stage : (s : Two) → last_stage (here s) ≡ last_stage (there s)
same_stage s = same_count _ _ s.asked

same_kinds : (s : Two) (r : ℕ)
    → kinds_at (here s) r (nodes_at s.a.stages.items r) ≡ kinds_at (there s) r (nodes_at s.b.stages.items r)
same_kinds s r =
    let by = map (λ (v : NodeValue). v.kind) in
    sym (map-map _ _ _) ∙ ap by (s.seen.nodes r) ∙ map-map _ _ _ ∙ ap
    (λ n. map (λ (node : Node). prefix_kind (length s.base.tiers.free) n node.kind) (nodes_at s.b.stages.items r))
    (same_stretch_count s.base _ _ s.asked r)

-- a node of the other answer that is seen as the same
record Matches (s : Two) (stage n : ℕ) (node : Node) : Type 0 where
  other : Node
  is : HasNode s.b stage n other
  told : kind_of_bits (here s) stage node.kind ≡ kind_of_bits (there s) stage other.kind
  potential : node.potential ≡ other.potential

matching : (s : Two) (stage n : ℕ) (node : Node) → HasNode s.a stage n node → Matches s stage n node
matching s stage n node h =
    let found = at_number _ _ _ (s.seen.nodes stage) n _ h.numbered in record {
      other = found.0;
      is = record { within = rw s.seen.stages at h.within; numbered = found.1.0 };
      told = sym (ap (λ (v : NodeValue). v.kind) found.1.1) ∙ same_told s _ found.0.kind;
      potential = sym (ap (λ (v : NodeValue). v.potential) found.1.1);
    }

lists : (s : Two) (r : ℕ) (k : PrefixKind) (p : ℕ) → Lists (here s) s.a.stages.items r k p
    → Lists (there s) s.b.stages.items r k p
lists s r k p l =
    let found = member _ _ _ (s.seen.nodes r) _ l.listed in record {
      node = found.0;
      listed = found.1.0;
      tells = sym (same_told s r found.0.kind) ∙ ap (λ (v : NodeValue). v.kind) found.1.1 ∙ l.tells;
      potential = ap (λ (v : NodeValue). v.potential) found.1.1 ∙ l.potential;
    }

-- ---- kept moves

move : (s : Two) (r : ℕ) (k : PrefixKind) (column : List Sym)
    → next_kind (here s) r k column ≡ next_kind (there s) r k column
move s r k column = same_move s.base _ _ s.asked r k _

cost : (s : Two) (r : ℕ) (k : PrefixKind) (column : List Sym)
    → cost_of (here s) r k column ≡ cost_of (there s) r k column
cost s r k column = same_cost s.base _ _ s.asked r k _

is_tight : (s : Two) (j : ℕ) (k : PrefixKind) (column : List Sym) → IsTightAt (here s) s.a.stages.items j k column
    → IsTightAt (there s) s.b.stages.items j k column
is_tight s j k column t =
    let cuts = same_cut s.base _ _ s.asked j k in record {
      before = t.before;
      after = t.after;
      leaves = lists s j _ _ (rw cuts at t.leaves);
      arrives = lists s j _ _
          (rw (ap (λ l. next_kind (here s) j l column) cuts ∙ move s j (cut_kind (there s) j k) column) at t.arrives);
      falls = t.falls ∙ ap (λ n. n + t.after) (ap (λ l. cost_of (here s) j l column) cuts ∙ cost s j _ _);
    }

is_kept : (s : Two) (r : ℕ) (k : PrefixKind) (column : List Sym) → IsKeptBelow (here s) s.a.stages.items r k column
    → IsKeptBelow (there s) s.b.stages.items r k column
is_kept s r k column kept = record {
  fits = record {
    width = kept.fits.width;
    symbols = kept.fits.symbols;
    edge = kept.fits.edge;
    input = kept.fits.input;
  };
  tight = λ j some less. is_tight s j k _ (kept.tight j some less);
}

-- ---- the whole of an answer

lacks_stage : (s : Two) (listed wanted : ℕ) → LacksStage (here s) s.a listed wanted
    → LacksStage (there s) s.b listed wanted
lacks_stage s listed wanted l = record {
  wanted_is = l.wanted_is ∙ ap (λ n. n + 1) (same_stage s);
  differs = l.differs;
  listed_is = rw s.seen.counts at (rw s.seen.stages at l.listed_is);
}

candidate : (s : Two) → IsCandidate (here s) s.a.example → IsCandidate (there s) s.b.example
candidate s h = subst (IsCandidate (there s)) s.seen.example
    (record { well_formed = h.well_formed; reduced = h.reduced; input = h.input })

wrong_count : (s : Two) (constraint listed counted : ℕ) → HasWrongCount (here s) s.a constraint listed counted
    → HasWrongCount (there s) s.b constraint listed counted
wrong_count s constraint listed counted h = record {
  some = h.some;
  within = rw (same_stage s) at h.within;
  listed_is = h.listed_is ∙ ap (λ ns. slice_index_or ns (constraint - 1) 0) s.seen.counts;
  counted_is = h.counted_is ∙ ap (λ ns. slice_index_or ns (constraint - 1) 0) (same_vec s.base _ _ s.asked _) ∙ ap
      (count_at (there s) constraint) s.seen.example;
  differs = h.differs;
}

-- ---- the stages

in_order : (s : Two) (stage n : ℕ) (k : PrefixKind) → IsInOrder (here s) s.a.stages.items stage n k
    → IsInOrder (there s) s.b.stages.items stage n k
in_order s stage n k h = record {
  possible = record {
    place = h.possible.place;
    phases = same_closed s.base _ _ s.asked _ k _ h.possible.phases;
  };
  after = λ l some before. h.after l some (rw ((same_kinds s stage)) before);
  cut_before = λ some. rw (same_cut s.base s.cs s.ds s.asked (stage - 1) k) at
      (rw (same_kinds s (stage - 1)) at (h.cut_before some));
}

wrong_node : (s : Two) (stage n : ℕ) → HasWrongNode (here s) s.a stage n → HasWrongNode (there s) s.b stage n
wrong_node s stage n h =
    let m = matching s _ n _ h.is in record {
      node = m.other;
      is = m.is;
      wrong = λ o. h.wrong (rw m.told (in_order (turned s) _ n _ o));
    }

lacks_start : (s : Two) (stage : ℕ) → LacksStart (here s) s.a stage → LacksStart (there s) s.b stage
lacks_start s stage h = record {
  within = rw s.seen.stages at h.within;
  lacks = λ e. h.lacks
      (ap (λ ks. slice_get ks 0) (same_kinds s _) ∙ e ∙ ap (λ k. Some k) (sym (same_kind s.base _ _ s.asked _ [])));
}

final_potential : (s : Two) (stage n listed : ℕ) → HasFinalPotential (here s) s.a stage n listed
    → HasFinalPotential (there s) s.b stage n listed
final_potential s stage n listed h =
    let m = matching s _ n _ h.is in record {
      node = m.other;
      is = m.is;
      final = subst (λ k. IsTrue (is_final (there s) k)) m.told h.final;
      listed_is = h.listed_is ∙ m.potential;
      differs = h.differs;
    }

-- what is said of the moves of a kind of one node is said of the node that matches it
abbrev kind_at : Problem → ℕ → Node → PrefixKind
kind_at problem stage node = kind_of_bits problem stage node.kind

kept_there : (s : Two) (stage n : ℕ) (node : Node) (m : Matches s stage n node) (column : List Sym)
    → IsKeptBelow (here s) s.a.stages.items stage (kind_at (here s) stage node) column
    → IsKeptBelow (there s) s.b.stages.items stage (kind_at (there s) stage m.other) column
kept_there s stage n node m column kept = rw m.told at (is_kept s _ _ _ kept)

target_there : (s : Two) (stage n : ℕ) (node : Node) (m : Matches s stage n node) (column : List Sym)
    → next_kind (here s) stage (kind_at (here s) stage node) column
    ≡ next_kind (there s) stage (kind_at (there s) stage m.other) column
target_there s stage n node m column =
    move s _ (kind_at (here s) stage node) _ ∙ ap (λ k. next_kind (there s) stage k column) m.told

tells : (s : Two) (stage : ℕ) (kind : Kind) (k l : PrefixKind) → k ≡ l → TellsKind (here s) stage kind k
    → TellsKind (there s) stage kind l
tells s stage kind k l e t = record {
  tells = sym (same_told s _ kind) ∙ t.tells ∙ e;
  opened = t.opened;
  stretches = rw (same_stretch_count s.base s.cs s.ds s.asked stage) at t.stretches;
}

not_closed : (s : Two) (stage n : ℕ) (column : List Sym) (missing : Kind)
    → IsNotClosed (here s) s.a stage n column missing → IsNotClosed (there s) s.b stage n column missing
not_closed s stage n column missing h =
    let m = matching s _ n _ h.is in
    let target = target_there s _ n _ m _ in record {
      node = m.other;
      is = m.is;
      kept = kept_there s _ n _ m _ h.kept;
      leads = tells s _ _ _ _ target h.leads;
      unlisted = λ p l. h.unlisted p (rw target (lists (turned s) _ _ p l));
    }

high_potential : (s : Two) (stage n : ℕ) (column : List Sym) (listed allowed : ℕ)
    → HasHighPotential (here s) s.a stage n column listed allowed
    → HasHighPotential (there s) s.b stage n column listed allowed
high_potential s stage n column listed allowed h =
    let m = matching s _ n _ h.is in record {
      node = m.other;
      is = m.is;
      kept = kept_there s _ n _ m _ h.kept;
      next = h.next;
      leads = rw (target_there s stage n h.node m column) at (lists s _ _ _ h.leads);
      listed_is = h.listed_is ∙ m.potential;
      allowed_is = h.allowed_is ∙ ap (λ c. c + h.next)
          (cost s _ _ _ ∙ ap (λ k. cost_of (there s) stage k column) m.told);
      above = h.above;
    }

wrong_start : (s : Two) (stage listed count : ℕ) → HasWrongStart s.a stage listed count
    → HasWrongStart s.b stage listed count
wrong_start s stage listed count h =
    let m = matching s _ 0 _ h.is in record {
      node = m.other;
      is = m.is;
      listed_is = h.listed_is ∙ m.potential;
      count_is = h.count_is ∙ ap (λ counts. start_potential counts stage) s.seen.counts;
      differs = h.differs;
    }

-- ---- the automaton

same_numbers : (s : Two) → numbers_of s.a.automaton.states.items ≡ numbers_of s.b.automaton.states.items
same_numbers s = sym (map-map _ _ _) ∙ ap (map (λ (v : StateValue). v.node)) s.seen.states ∙ map-map _ _ _

-- a state of the other answer that is seen as the same
record Pairs (s : Two) (state : ℕ) (line : StateLine) : Type 0 where
  other : StateLine
  is : HasState s.b state other
  mark : line.accepting ≡ other.accepting
  arcs : map arc_value line.arcs.items ≡ map arc_value other.arcs.items

pairing : (s : Two) (state : ℕ) (line : StateLine) → HasState s.a state line → Pairs s state line
pairing s state line h =
    let found = member _ _ _ s.seen.states _ h.listed in record {
      other = found.0;
      is = record { listed = found.1.0; numbered = ap (λ (v : StateValue). v.node) found.1.1 ∙ h.numbered };
      mark = sym (ap (λ (v : StateValue). v.accepting) found.1.1);
      arcs = sym (ap (λ (v : StateValue). v.arcs) found.1.1);
    }

holds : (x y : ArcLine) (column : List Sym) → arc_value y ≡ arc_value x → IsTrue (has x.class column)
    → IsTrue (has y.class column)
holds x y column e h = rw ((ap (λ (v : ArcValue). v.sets) e)) h

lacks_target : (s : Two) (state arc target : ℕ) → LacksTarget s.a state arc target → LacksTarget s.b state arc target
lacks_target s state arc target h =
    let m = pairing s _ _ h.is in
    let found = at_number _ _ _ m.arcs _ _ h.numbered in record {
      line = m.other;
      is = m.is;
      arc_line = found.0;
      numbered = found.1.0;
      target_is = h.target_is ∙ sym (ap (λ (v : ArcValue). v.target) found.1.1);
      lacks = λ i. h.lacks (rw ((same_numbers s)) i);
    }

lacks_state : (s : Two) (state target : ℕ) (place : List ℕ) → LacksState s.a state target place
    → LacksState s.b state target place
lacks_state s state target place (inl h) = inl (h.0, h.1, (λ i. h.2 (rw ((same_numbers s)) i)), h.3)
lacks_state s state target place (inr h) = inr (h.0, (lacks_target s _ _ _ h.1.0, h.1.1))

node_of : (s : Two) (n : ℕ) (k : PrefixKind) → IsKindOfState (here s) s.a n k → IsKindOfState (there s) s.b n k
node_of s n k h =
    let last = last_stage (here s) in
    let found = at_number _ _ _ (s.seen.nodes last) n _ h.numbered in
    let told = sym (same_told s _ found.0.kind) ∙ ap (λ (v : NodeValue). v.kind) found.1.1 ∙ h.tells in record {
      node = found.0;
      numbered = subst (λ r. slice_get (nodes_at s.b.stages.items r) n ≡ Some found.0) (same_stage s) found.1.0;
      tells = subst (λ r. kind_of_bits (there s) r found.0.kind ≡ k) (same_stage s) told;
    }

wrong_mark : (s : Two) (state : ℕ) (listed : Bool) → HasWrongMark (here s) s.a state listed
    → HasWrongMark (there s) s.b state listed
wrong_mark s state listed h =
    let m = pairing s _ _ h.is in record {
      line = m.other;
      is = m.is;
      kind = h.kind;
      of_kind = node_of s _ _ h.of_kind;
      listed_is = h.listed_is ∙ m.mark;
      differs = h.differs;
    }

twice : (s : Two) (state : ℕ) (column : List Sym) → HasTwice s.a state column → HasTwice s.b state column
twice s state column h =
    let m = pairing s _ _ h.is in
    let first = at_number _ _ _ m.arcs _ _ h.first_is in
    let second = at_number _ _ _ m.arcs _ _ h.second_is in record {
      line = m.other;
      is = m.is;
      first = h.first;
      second = h.second;
      ascending = h.ascending;
      first_arc = first.0;
      first_is = first.1.0;
      second_arc = second.0;
      second_is = second.1.0;
      in_first = holds _ _ _ first.1.1 h.in_first;
      in_second = holds _ _ _ second.1.1 h.in_second;
    }

listed_target : (xs ys : List ArcLine) → map arc_value xs ≡ map arc_value ys → (column : List Sym) (target : Option ℕ)
    → IsListedTarget xs column target → IsListedTarget ys column target
listed_target xs ys e column None h = λ y in_ys held.
    let found = member _ ys xs (sym e) y in_ys in
    h found.0 found.1.0 (holds y _ _ found.1.1 held)
listed_target xs ys e column (Some m) h =
    let found = member _ xs ys e _ h.1.0 in (
      found.0,
      (found.1.0, holds _ _ _ found.1.1 h.1.1, ap (λ (v : ArcValue). v.target) found.1.1 ∙ h.1.2),
    )

kept_at_end : (s : Two) (k : PrefixKind) (column : List Sym)
    → IsKeptBelow (here s) s.a.stages.items (last_stage (here s) + 1) k column
    → IsKeptBelow (there s) s.b.stages.items (last_stage (there s) + 1) k column
kept_at_end s k column kept = rw (same_stage s) at (is_kept s _ k _ kept)

kept_target : (s : Two) (k : PrefixKind) (column : List Sym) (target : Option ℕ)
    → IsKeptTarget (here s) s.a k column target → IsKeptTarget (there s) s.b k column target
kept_target s k column None h = λ kept. h (kept_at_end (turned s) k _ kept)
kept_target s k column (Some m) h = (
  kept_at_end s k _ h.0,
  rw (move s (last_stage (here s)) k column ∙ ap (λ r. next_kind (there s) r k column) (same_stage s)) at
      (node_of s m _ h.1),
)

wrong_arcs : (s : Two) (state : ℕ) (column : List Sym) (listed kept : Option ℕ)
    → HasWrongArcs (here s) s.a state column listed kept → HasWrongArcs (there s) s.b state column listed kept
wrong_arcs s state column listed kept h =
    let m = pairing s _ _ h.is in record {
      line = m.other;
      is = m.is;
      kind = h.kind;
      of_kind = node_of s _ _ h.of_kind;
      listed_is = listed_target _ _ m.arcs _ _ h.listed_is;
      kept_is = kept_target s _ _ _ h.kept_is;
      differs = h.differs;
    }

-- ---- all faults

fault_there : (s : Two) (fault : Fault) (place : List ℕ) → IsFault (here s) s.a fault place
    → IsFault (there s) s.b fault place
fault_there s FormWrong place f = (f.0, f.1)
fault_there s (StageMissing listed wanted) place f = (lacks_stage s _ _ f.0, f.1)
fault_there s ExampleWrong place f = ((λ c. f.0 (candidate (turned s) c)), f.1)
fault_there s (CountsDiffer constraint listed counted) place f = (wrong_count s _ _ _ f.0, f.1)
fault_there s (NodeWrong stage node) place f = (wrong_node s _ _ f.0, f.1)
fault_there s (StartMissing stage) place f = (lacks_start s _ f.0, f.1)
fault_there s (FinalPotential stage node listed) place f = (final_potential s _ _ _ f.0, f.1)
fault_there s (NotClosed stage node missing) place f = (f.0, (not_closed s _ _ _ _ f.1.0, f.1.1))
fault_there s (Potential stage node listed allowed) place f = (f.0, (high_potential s _ _ _ _ _ f.1.0, f.1.1))
fault_there s (StartPotential stage listed count) place f = (wrong_start s _ _ _ f.0, f.1)
fault_there s (StateMissing state target) place f = lacks_state s _ _ _ f
fault_there s (FinalsDiffer state listed) place f = (wrong_mark s _ _ f.0, f.1)
fault_there s (ArcsTwice state column) place f = (twice s _ _ f.0, f.1)
fault_there s (ArcsDiffer state column listed kept) place f = (wrong_arcs s _ _ _ _ f.0, f.1)

-- ---- any two problems that are asked alike

abbrev two : (base : Problem) (cs ds : List Constraint) → requirements_seen cs ≡ requirements_seen ds
    → (a b : Answer) → AreSeenAlike (with_constraints base cs) a b → Two
two base cs ds asked a b seen = record { base = base; cs = cs; ds = ds; asked = asked; a = a; b = b; seen = seen }

asked_back : (p q : Problem) → AreAskedAlike p q → AreAskedAlike q p
asked_back p q alike =
    record { tiers = sym alike.tiers; constraints = sym alike.constraints; form = sym alike.form }

module _ (a b : Answer) where
  faults : (p q : Problem) → AreAskedAlike p q → AreSeenAlike p a b → (fault : Fault) (place : List ℕ)
      → IsFault p a fault place → IsFault q b fault place
  faults = by_alike _ (λ base cs ds asked seen. fault_there (two base cs ds asked a b seen))

  seen_back : (p q : Problem) → AreAskedAlike p q → AreSeenAlike p a b → AreSeenAlike q b a
  seen_back = by_alike _ (λ base cs ds asked seen. (turned (two base cs ds asked a b seen)).seen)

pub same_faults : (p q : Problem) (a b : Answer) → AreAskedAlike p q → AreSeenAlike p a b → (fault : Fault)
    (place : List ℕ) → IsFault p a fault place ↔ IsFault q b fault place
same_faults p q a b alike seen fault place = (
  faults a b p q alike seen _ _,
  faults b a q p (asked_back p q alike) (seen_back a b p q alike seen) _ _,
)

pub same_first : (p q : Problem) (a b : Answer) → AreAskedAlike p q → AreSeenAlike p a b → (fault : Fault)
    → IsFirstFault p a fault → IsFirstFault q b fault
same_first p q a b alike seen fault f = record {
  place = f.place;
  is = (same_faults p q a b alike seen _ _).0 f.is;
  first = λ other before is. f.first other before ((same_faults p q a b alike seen _ _).1 is);
}

verdict_there : (p q : Problem) (a b : Answer) → AreAskedAlike p q → AreSeenAlike p a b → (verdict : Verdict)
    → IsVerdict p a verdict → IsVerdict q b verdict
verdict_there p q a b alike seen Yes v = λ fault place f. v fault place ((same_faults p q a b alike seen _ _).1 f)
verdict_there p q a b alike seen (No fault) v = same_first p q a b alike seen _ v

pub same_verdict : (p q : Problem) (a b : Answer) → AreAskedAlike p q → AreSeenAlike p a b → (verdict : Verdict)
    → IsVerdict p a verdict ↔ IsVerdict q b verdict
same_verdict p q a b alike seen verdict = (
  verdict_there p q a b alike seen _,
  verdict_there q p b a (asked_back p q alike) (seen_back a b p q alike seen) _,
)
