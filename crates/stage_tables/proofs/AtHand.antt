-- Columns of a kept move that are taken together, to a kind that is at hand.
use Rattle.std.proofs.Common.{◌≡◌, ℕ, ◌+◌, ◌≤◌, ◌||◌, Bool, List, [], ◌∷◌, ◌++◌, length, refl, ap, sym, ◌∙◌, subst}
use Rattle.std.proofs.{Common.{arith, Contains, IsTrue}, lemmas.List.Elements.{All-nil, All-push}}
use Rattle.weight_law.specs.{declared.Weight.Ghosts, declared.count.Count.Count}
use Rattle.weight_law.specs.declared.unit_weight.UnitWeight.{UnitWeight}
use Rattle.tier_core.specs.{declared.class.Class.Class, declared.kind.Kind.Kind, declared.sym.Sym.Sym}
use Rattle.tier_core.specs.{Classes.{sets_of, has}, Filled.is_filled, Tiers.has_tier}
use Rattle.symbol_class.specs.{Held.{times_held, once_if}, Parts.{differs, IsAlike}}
use Rattle.arc_table.specs.{declared.arc.TableArc.TableArc, declared.state.TableState.TableState, Moves.moves_at}
use Rattle.violation.specs.Moves.{cut_kind}
use Rattle.kind_moves.specs.{declared.last_tests.LastTests.LastTests, Frames.{problem_in, kind_at_stage, IsMove}}
use Rattle.kind_moves.specs.{LastMoves.AreLastTests, Pieces.cost_under}
use Rattle.kind_moves.proofs.{LawSteps.some_move, SameLast.same_by_last}
use Rattle.kind_tables.proofs.Exploring.{cut_leads}
use Rattle.stage_tables.specs.{declared.exploring.Exploring.Exploring, declared.listed.Listed.Listed}
use Rattle.stage_tables.specs.{Exploring.AddsTaken, Kept.IsKeptTable}
use Rattle.stage_tables.specs.Listed.{IsAt, AreFound, IsTaken, IsTakenFrom}
use Rattle.stage_tables.specs.TestedParts.{AreSomeOf}
use Rattle.stage_tables.proofs.{KeptTables.cut_named, LeftBefore.move_fits, Taking.last_cost}

module _ {g : Ghosts UnitWeight} (exploring : Exploring) (next : exploring.before + 1 ≡ exploring.stage)
    (kept : List (TableState UnitWeight g))
    (table : IsKeptTable (problem_in exploring.frame.now) exploring.before kept)
    (entries : List (Kind × ℕ)) (found : AreFound exploring.frame.now exploring.stage kept entries)
    (kind : Kind) (s : ℕ) (here : (k : ℕ) × IsAt entries k kind s) (tests : LastTests)
    (are : AreLastTests exploring.frame.now exploring.before exploring.stage kind tests)
    (arc : TableArc UnitWeight g) (listed : Contains (moves_at kept s) arc)
    (class : Class) (part : AreSomeOf exploring arc.class class)
    (is_met : Bool) (met : (column : List Sym) → IsTrue (has class column)
    → (differs tests.begun column || differs tests.met column) ≡ is_met)
    (target : Kind) (number : ℕ) (at : IsAt entries number target arc.target)
    (bit : has_tier target.met tests.bit ≡ is_met) where
  further : exploring.before ≤ exploring.stage
  further = omega arith

  -- each column leads to the kind
  goes : (column : List Sym) → IsTrue (has class column)
      → IsMove exploring.frame.now exploring.stage kind column target
  goes column held =
      let frame = exploring.frame.now in
      let problem = problem_in frame in
      let before = exploring.before in
      let stage = exploring.stage in
      let reached = found.reached here.0 kind s here.1 in
      let fits = move_fits frame before stage further exploring.within kept table kind s reached arc listed column
      (part.within column held) in
      let step = some_move frame stage kind column (found.stands here.0 kind s here.1).fits fits in
      let cut_target = cut_named frame before stage further exploring.within kept table.0 table.1 target arc.target
      (found.reached number target arc.target at) in
      let cut_kind_at = cut_named frame before stage further exploring.within kept table.0 table.1 kind s reached in
      let cut_next = ap (cut_kind problem before) step.1.leads
      ∙ cut_leads problem before stage further table.0 kept table.1.named (kind_at_stage frame stage kind) s arc column
      cut_kind_at listed (part.within column held) in
      let bits = ap (has_tier target.met) (sym are.bit) ∙ bit ∙ sym (met column held)
      ∙ sym (are.met_after column step.0 fits step.1.leads) in
      let one : target ≡ step.0 = same_by_last frame before stage are.phase target step.0
      (found.stands number target arc.target at).fits step.1.next_fits (cut_target ∙ sym cut_next) bits in
      subst (λ (k : Kind). IsMove frame stage kind column k) (sym one) step.1

  pub taken_at_hand : {h : Ghosts Count} (cost : ℕ) → ((column : List Sym) → IsTrue (has class column)
      → once_if (differs tests.cost column) ≡ cost)
      → (made : TableArc Count h) → made.class ≡ class → made.target ≡ number → made.weight.0 ≡ cost
      → IsTaken exploring.frame.now exploring.first exploring.stage entries kind arc made
  taken_at_hand cost costs made same to weight = record {
    next = target;
    at = subst (λ (k : ℕ). IsAt entries k target arc.target) (sym to) at;
    within = λ column h. part.within column (held_by column h);
    moves = λ column h. goes column (held_by column h);
    weighs = λ column h. weight ∙ sym (costed column h)
        ∙ last_cost (problem_in exploring.frame.now) exploring.stage
        (kind_at_stage exploring.frame.now exploring.stage kind) column;
    alike = λ r low high.
        (let last : exploring.stage ≡ r = omega (arith, low, high, exploring.last_alone next) in
        subst (λ (r : ℕ). IsAlike (cost_under exploring.frame.now exploring.stage r kind) made.class) last
        (λ c d has_c has_d. costed c has_c ∙ sym (costed d has_d)));
    filled = subst (λ (c : Class). IsTrue (is_filled c)) (sym same) part.filled;
    wide = ap (λ (c : Class). length (sets_of c)) same ∙ part.wide;
  }
    where
      held_by : (column : List Sym) → IsTrue (has made.class column) → IsTrue (has class column)
      held_by column h = subst (λ (c : Class). IsTrue (has c column)) same h

      costed : (column : List Sym) → IsTrue (has made.class column)
          → cost_under exploring.frame.now exploring.stage exploring.stage kind column ≡ cost
      costed column h = are.costs column (goes _ (held_by _ h)).column_fits.width ∙ costs column (held_by _ h)

-- it is put behind others
pub taken_alone : {g : Ghosts UnitWeight} {h : Ghosts Count} (exploring : Exploring) (listed : Listed) (kind : Kind)
    (arc : TableArc UnitWeight g) (old : List (TableArc Count h)) (made : TableArc Count h)
    → IsTaken exploring.frame.now exploring.first exploring.stage listed.kinds.entries kind arc made
    → made.class ≡ arc.class → AddsTaken exploring listed listed kind arc old (old ++ made ∷ [])
taken_alone exploring listed kind arc old made taken same = record {
  added = made ∷ [];
  new_is = refl;
  targets = λ k low high. absurd (omega (arith, low, high));
  taken = record {
    each = All-push (IsTakenFrom exploring.frame.now exploring.first exploring.stage listed.kinds.entries kind
        (arc ∷ [])) [] made
        (All-nil (IsTakenFrom exploring.frame.now exploring.first exploring.stage listed.kinds.entries kind
        (arc ∷ [])))
        (record { arc = arc; listed = (0, omega arith, refl); taken = taken });
    held = λ column fits. ap (λ (c : Class). times_held (c ∷ []) column) same;
  };
}
