use Rattle.std.proofs.{Common.{ℕ, Some, refl, ap, ◌∙◌, inl}, lemmas.Map.Made.AllPairs-from_IsDistinct}
use Rattle.std.specs.Map.{keys_of}
use Rattle.tier_core.proofs.SameKinds.{kind_eq-Decides}
use Rattle.stage_tables.specs.Listed.{AreApart, IsNumbered}
use Rattle.stage_tables.proofs.Numbering.{numbered, numbered_as, few_numbered, put_beyond}
use Rattle.stage_tables.proofs.listed.number_of.Goals.{In-Ok}
use Rattle.stage_tables.proofs.listed.number_of.Goals as goal

-- no two kinds are the same after one is inserted
inserted_apart : (c : In-Ok) → AreApart c.insert_full.new.self.entries
inserted_apart c = AllPairs-from_IsDistinct kind_eq-Decides _ c.in-Ok.ensures.unique

-- and the one that is inserted is numbered
inserted : (c : In-Ok) → IsNumbered c.args.listed.now.kinds.entries c.insert_full.new.self.entries c.in-Ok.found.0
    c.args.kind c.args.state
inserted c = numbered_as _ _ _ _ _ _ _ c.in-Ok.ensures.entries
    c.in-Ok.ensures.index (numbered _ _ _ c.requires.over_one)

pub returns-in-Some-clause-numbered : goal.returns-in-Some-clause-numbered
returns-in-Some-clause-numbered c =
    let here = c.in-Some.ensures in
    record {
      at = here.1 ∙ ap (λ (x : ℕ). Some (c.args.kind, x)) (c.requires.over_one c.in-Some.number here.0 here.1);
      grows = inl refl;
    }

pub returns-then-number-budget-clause-over_apart : goal.returns-then-number-budget-clause-over_apart
returns-then-number-budget-clause-over_apart c over = inserted_apart
    (goal.at.returns-then-number-budget-clause-over_apart c).In-Ok

pub returns-then-number-budget-clause-over_put : goal.returns-then-number-budget-clause-over_put
returns-then-number-budget-clause-over_put c over = put_beyond _ _ _ _ _ _
    (inserted (goal.at.returns-then-number-budget-clause-over_put c).In-Ok) c.requires.few c.if-number-budget.true

pub returns-clause-apart : goal.returns-clause-apart
returns-clause-apart c = rw c.keep_at_hand.ensures (inserted_apart (goal.at.returns-clause-apart c).In-Ok)

pub returns-clause-numbered : goal.returns-clause-numbered
returns-clause-numbered c = rw c.keep_at_hand.ensures (inserted (goal.at.returns-clause-numbered c).In-Ok)

pub returns-clause-few : goal.returns-clause-few
returns-clause-few c = rw c.keep_at_hand.ensures
    (few_numbered _ _ _ _ _ _ (inserted (goal.at.returns-clause-few c).In-Ok) c.requires.few c.if-number-budget.false)
