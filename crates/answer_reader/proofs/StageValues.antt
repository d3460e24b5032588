-- The stages of the code, and their values.
use Rattle.std.proofs.Common.{◌≡◌, ℕ, zero, suc, ◌+◌, ◌-◌, ◌<◌, List, [], ◌∷◌, ◌++◌, length, map, refl, ap, sym}
use Rattle.std.proofs.{Common.{◌∙◌, subst, arith, ⊎_elim}, lemmas.Bool.cases_lt}
use Rattle.std.proofs.lemmas.List.{length-map, length_push}
use Rattle.tier_core.specs.declared.shape.Shape.{Shape}
use Rattle.answer_text.specs.{declared.stage.Stage.Stage, Right.nodes_at}
use Rattle.answer_text.specs.Readable.{IsReadableStage, AreReadableStages, last_nodes}
use Rattle.answer_text.specs.Values.{node_value, stage_values}
use Rattle.answer_reader.specs.Stages.{is_empty, last_count}

pub length_values : (shape : Shape) (r : ℕ) (stages : List Stage) → length (stage_values shape r stages) ≡ length stages
length_values shape r [] = refl
length_values shape r (stage ∷ stages) = ap suc (length_values shape (r + 1) stages)

pub empty_values : (shape : Shape) (r : ℕ) (stages : List Stage) → is_empty (stage_values shape r stages)
    ≡ is_empty stages
empty_values shape r [] = refl
empty_values shape r (stage ∷ stages) = refl

values_push_from : (shape : Shape) (r : ℕ) (stages : List Stage) (stage : Stage)
    → stage_values shape r (stages ++ stage ∷ [])
    ≡ stage_values shape r stages ++ map (node_value shape (r + length stages)) stage.nodes.items ∷ []
values_push_from shape r [] stage = let e : r
    ≡ r + 0 = omega arith in ap (λ k. map (node_value shape k) stage.nodes.items ∷ []) e
values_push_from shape r (first ∷ stages) stage =
    let e : r + 1 + length stages ≡ r + suc (length stages) = omega arith in
    ap (λ xs. map (node_value shape r) first.nodes.items ∷ xs)
    (values_push_from shape (r + 1) stages stage
    ∙ ap (λ k. stage_values shape (r + 1) stages ++ map (node_value shape k) stage.nodes.items ∷ []) e)

-- one stage more
pub values_push : (shape : Shape) (stages : List Stage) (stage : Stage)
    → stage_values shape 0 (stages ++ stage ∷ [])
    ≡ stage_values shape 0 stages ++ map (node_value shape (length stages)) stage.nodes.items ∷ []
values_push shape stages stage =
    let e : 0 + length stages ≡ length stages = omega arith in
    values_push_from shape 0 stages stage
    ∙ ap (λ k. stage_values shape 0 stages ++ map (node_value shape k) stage.nodes.items ∷ []) e

pub last_values : (shape : Shape) (r : ℕ) (stages : List Stage) → last_count (stage_values shape r stages)
    ≡ length (last_nodes stages)
last_values shape r [] = refl
last_values shape r (stage ∷ []) = length-map stage.nodes.items (node_value shape r)
last_values shape r (stage ∷ next ∷ stages) =
    let one : length (stage ∷ next ∷ stages) - 1 ≡ suc (length (next ∷ stages) - 1) = omega arith in
    last_values shape (r + 1) (next ∷ stages) ∙ ap (λ k. length (nodes_at (stage ∷ next ∷ stages) k)) (sym one)

-- ---- readable stages

nodes_front : (stages : List Stage) (stage : Stage) (r : ℕ) → r < length stages → nodes_at (stages ++ stage ∷ []) r
    ≡ nodes_at stages r
nodes_front [] stage r l = absurd (omega arith)
nodes_front (first ∷ stages) stage zero l = refl
nodes_front (first ∷ stages) stage (suc r) l = nodes_front stages stage r (omega arith)

nodes_behind : (stages : List Stage) (stage : Stage) → nodes_at (stages ++ stage ∷ []) (length stages)
    ≡ stage.nodes.items
nodes_behind [] stage = refl
nodes_behind (first ∷ stages) stage = nodes_behind stages stage

pub readable_push : (shape : Shape) (stages : List Stage) (stage : Stage) → AreReadableStages shape stages
    → IsReadableStage shape (length stages) stage.nodes.items
    → AreReadableStages shape (stages ++ stage ∷ [])
readable_push shape stages stage are is r l = ⊎_elim
    (λ before. subst (IsReadableStage shape r) (sym (nodes_front stages stage r before)) (are r before))
    (λ behind.
    let n = length_push stages stage in
    let here : length stages ≡ r = omega arith in
    subst (λ k. IsReadableStage shape k (nodes_at (stages ++ stage ∷ []) k)) here
    (subst (IsReadableStage shape (length stages)) (sym (nodes_behind stages stage)) is))
    (cases_lt r (length stages))
