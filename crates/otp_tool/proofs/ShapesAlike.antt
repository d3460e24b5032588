-- Shapes of one grammar have the same readings of a text.
use Rattle.std.proofs.Common.{◌≡◌, ℕ, ◌+◌, ◌-◌, Bool, true, false, List, [], ◌∷◌, ◌++◌, length, map, filter, take}
use Rattle.std.proofs.{Common.{Result, Ok, Err, codes, refl, ap, sym, ◌∙◌}, lemmas.List.{length-map, take-map}}
use Rattle.std.specs.{Prelude.{if◌then◌else◌, slice_index_or}, List.range_with_len}
use Rattle.tier_core.specs.{declared.sym.Sym.Sym, declared.constraint.Constraint.Constraint}
use Rattle.tier_core.specs.{declared.shape.Shape.Shape, Shapes.masked_count, KindShapes.free_count, Sides.is_stretch}
use Rattle.grammar_reader.specs.{Requirements.{Requirement, requirement_seen, requirements_seen}, Values.GrammarValue}
use Rattle.grammar_reader.specs.ShapeOf.{stretch_counts}
use Rattle.answer_reader.specs.{declared.answer_err.AnswerCause.AnswerCause, Reading.{answer_of, answer_with}}
use Rattle.answer_reader.specs.Reading.{behind_form, HeadValue, constraint_count, form_of, example_of}
use Rattle.answer_reader.specs.Reading.{stages_behind, states_behind}
use Rattle.answer_reader.specs.{Lines.{automaton_of, counts_of, header_of, stage_of}, Nodes.node_of}
use Rattle.answer_reader.specs.{Orders.{in_order, node_less}, Stages.{StagePlace, StagesRead, behind_stages}}
use Rattle.answer_reader.specs.Stages.{in_stage, is_automaton, last_count, stages_from, stages_read, next_node}
use Rattle.answer_reader.specs.{Stages.with_nodes, States.{behind_states, states_from}}
use Rattle.answer_reader.specs.{Steps.{At, and_then, first_line, go_on, line_then}, Timelines.timeline_said}
use Rattle.timeline_text.specs.Bytes.{lines_of}
use Rattle.answer_text.specs.Values.{NodeValue}
use Rattle.otp_tool.specs.Answers.{IsShapeFor}
use Rattle.cert_check.proofs.AskedAlike.{is_seen_stretch, seen_filter}

-- ---- going on alike

go_on_alike : {X Y : Type 0} (r : Result X AnswerCause) (n : ℕ) (f h : X → Result Y At) → ((x : X) → f x ≡ h x)
    → go_on r n f ≡ go_on r n h
go_on_alike (Ok x) n f h e = e x
go_on_alike (Err cause) n f h e = refl

then_alike : {X Y : Type 0} (r : Result X At) (f h : X → Result Y At) → ((x : X) → f x ≡ h x)
    → and_then f r ≡ and_then h r
then_alike (Ok x) f h e = e x
then_alike (Err at) f h e = refl

line_alike : {X Y : Type 0} (of other : List ℕ → Result X AnswerCause) (f h : X → ℕ → List (List ℕ) → Result Y At)
    → of ≡ other → ((x : X) (n : ℕ) (lines : List (List ℕ)) → f x n lines ≡ h x n lines) → (n : ℕ)
    → (lines : List (List ℕ)) → line_then of f n lines ≡ line_then other h n lines
line_alike of other f h same e n lines = ap (λ by. line_then by f n lines) same ∙ then_alike _ _ _
    (λ read. e read.0 (n + 1) read.1)

choose : {Y : Type 0} (b : Bool) (p q r : Y) → q ≡ r → (if b then p else q) ≡ (if b then p else r)
choose true p q r e = refl
choose false p q r e = e

-- ---- two shapes

pub record AreAlike (s t : Shape) : Type 0 where
  pub width : s.width ≡ t.width
  pub inputs : masked_count s.inputs ≡ masked_count t.inputs
  pub phases : s.phases.items ≡ t.phases.items

module _ (s t : Shape) (alike : AreAlike s t) where
  same_free : free_count s ≡ free_count t
  same_free = ap (λ w. w - masked_count s.inputs) alike.width ∙ ap (λ i. t.width - i) alike.inputs

  same_node : (columns stage : ℕ) (nodes : List NodeValue) (line : List ℕ)
      → next_node s columns stage nodes line ≡ next_node t columns stage nodes line
  same_node columns stage nodes line =
      ap (λ free. in_order node_less nodes (node_of free (slice_index_or s.phases.items stage 0) columns line))
      same_free
      ∙ ap (λ phases. in_order node_less nodes (node_of (free_count t) (slice_index_or phases stage 0) columns line))
      alike.phases

  same_stages : (columns : ℕ) (place : StagePlace) (n : ℕ) (lines : List (List ℕ))
      → stages_from s columns place n lines ≡ stages_from t columns place n lines
  same_stages columns place n [] = refl
  same_stages columns place n (left ∷ []) = refl
  same_stages columns (behind_stages stages) n (line ∷ next ∷ lines) = choose (is_automaton stages line)
      (go_on (automaton_of (last_count stages) line) n (stages_read stages (n + 1) (next ∷ lines))) _ _
      (ap (λ (phases : List ℕ). go_on (stage_of (length phases) (length stages) line) n (λ nodes. stages_from s columns
      (with_nodes stages nodes []) (n + 1) (next ∷ lines))) alike.phases ∙ go_on_alike _ n _ _ (λ nodes. same_stages
      columns (with_nodes stages nodes []) (n + 1) (next ∷ lines)))
  same_stages columns (in_stage stages more nodes) n (line ∷ next ∷ lines) = ap
      (λ r. go_on r n (λ node. stages_from s columns (with_nodes stages more (nodes ++ node ∷ [])) (n + 1)
      (next ∷ lines))) (same_node columns (length stages) nodes line) ∙ go_on_alike _ n _ _ (λ node. same_stages columns
      (with_nodes stages more (nodes ++ node ∷ [])) (n + 1) (next ∷ lines))

  same_states : (head : HeadValue) (read : StagesRead) → states_behind s head read ≡ states_behind t head read
  same_states head read =
      ap (λ width. and_then (answer_with head read)
      (states_from width (last_count read.stages) (behind_states read.states []) read.number read.lines)) alike.width

  same_behind : (head : HeadValue) (n : ℕ) (lines : List (List ℕ))
      → stages_behind s head n lines ≡ stages_behind t head n lines
  same_behind head n lines =
      ap (λ r. and_then (states_behind s head) r) (same_stages (length head.form) (behind_stages []) n lines)
      ∙ then_alike (stages_from t (length head.form) (behind_stages []) n lines) (states_behind s head)
      (states_behind t head) (same_states head)

  abbrev headed : List (List Sym) → List ℕ → List (List Sym) → HeadValue
  headed form counts example = record { form = form; counts = counts; example = example }

  same_form : (form : List (List Sym)) (n : ℕ) (lines : List (List ℕ))
      → behind_form s form n lines ≡ behind_form t form n lines
  same_form form = line_alike _ _ _ _ (ap (λ (phases : List ℕ). counts_of (length phases - 1)) alike.phases)
      (λ counts. line_alike _ _ _ _ (ap (λ width. timeline_said (codes "example ") width 65536) alike.width)
      (λ example. same_behind _))

  pub same_reading : (bytes : List ℕ) → answer_of s bytes ≡ answer_of t bytes
  same_reading bytes =
      line_alike header_of header_of (λ header. line_then (form_of s) (behind_form s))
      (λ header. line_then (form_of t) (behind_form t)) refl
      (λ header. line_alike (form_of s) (form_of t) (behind_form s) (behind_form t)
      (ap (λ inputs. timeline_said (codes "form ") inputs 64) alike.inputs) same_form)
      1 (lines_of bytes)

-- ---- shapes of one grammar

seen_stretches : (r : ℕ) (cs : List Constraint)
    → length (filter is_stretch (take r cs)) ≡ length (filter is_seen_stretch (take r (requirements_seen cs)))
seen_stretches r cs =
    sym (length-map (filter is_stretch (take r cs)) requirement_seen)
    ∙ ap length (seen_filter (take r cs) ∙ ap (filter is_seen_stretch) (sym (take-map requirement_seen r cs)))

-- the counts by what is seen
abbrev seen_counts : List Requirement → List ℕ
seen_counts ns = map (λ r. length (filter is_seen_stretch (take r ns))) (range_with_len 0 (length ns + 1))

pub map_alike : {X Y : Type 0} (f h : X → Y) (xs : List X) → ((x : X) → f x ≡ h x) → map f xs ≡ map h xs
map_alike f h [] e = refl
map_alike f h (x ∷ xs) e = ap (λ y. y ∷ map f xs) (e x) ∙ ap (λ ys. h x ∷ ys) (map_alike f h xs e)

counted_as_seen : (cs : List Constraint) → stretch_counts cs ≡ seen_counts (requirements_seen cs)
counted_as_seen cs = map_alike _ _ _ (λ r. seen_stretches r cs)
    ∙ ap (λ n. map (λ r. length (filter is_seen_stretch (take r (requirements_seen cs)))) (range_with_len 0 (n + 1)))
    (sym (length-map cs requirement_seen))

pub shapes_alike : (g : GrammarValue) (s t : Shape) → IsShapeFor g s → IsShapeFor g t → AreAlike s t
shapes_alike g s t a b = record {
  width = a.width ∙ sym b.width;
  inputs = ap length (a.inputs ∙ sym b.inputs);
  phases = a.phases ∙ counted_as_seen _ ∙ ap seen_counts (a.seen ∙ sym b.seen) ∙ sym (counted_as_seen _) ∙ sym b.phases;
}
