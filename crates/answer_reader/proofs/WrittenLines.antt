-- Each line that is written says what was written.
use Rattle.std.proofs.Common.{◌≡◌, ℕ, zero, suc, ◌+◌, ◌^◌, ◌<◌, ◌≤◌, ◌==◌, ◌&&◌, Bool, true, false, cond, nat_lt}
use Rattle.std.proofs.Common.{List, [], ◌∷◌, ◌++◌, length, map, codes, Option, Some, None, option_map}
use Rattle.std.proofs.Common.{option_and_then, Result, Ok, Err, refl, ap, sym, ◌∙◌, subst, arith, append_assoc}
use Rattle.std.proofs.{Common.{append-nil, ⊎_elim}, lemmas.Bool.{and_from, or_parts, cases_lt}}
use Rattle.std.proofs.{lemmas.Bool.Decides.nat_tests, lemmas.List.length-map}
use Rattle.std.specs.{Fmt.decimal, List.{list_all, list_any, slice_split, range_with_len, AllByRecursion, onto_first}}
use Rattle.std.specs.{List.position_or_len, Option.ok_or}
use Rattle.tier_core.specs.Kinds.{Phase, closed, unmet, met, PrefixKind}
use Rattle.answer_text.specs.Text.{after_space, spaced_numbers, set_text, class_text, open_byte, phase_byte}
use Rattle.answer_text.specs.{Text.{kind_text, final_mark, counts_line}, Values.{NodeValue, ArcValue}}
use Rattle.answer_reader.specs.declared.answer_err.AnswerCause.{AnswerCause}
use Rattle.answer_reader.specs.declared.answer_err.AnswerCause.TheVariants.{BadLine, BadNumber, BadClass}
use Rattle.answer_reader.specs.{Classes.{set_and_rest, class_of}, Cuts.{parts_at, cut}}
use Rattle.answer_reader.specs.Lines.{counts_words, counts_said, counts_of, number_said, stage_words, stage_said}
use Rattle.answer_reader.specs.Lines.{stage_of, is_number, automaton_of, final_words, state_words, state_with}
use Rattle.answer_reader.specs.Lines.{state_said, state_of, arc_words, arc_with, arc_if_target, arc_said, arc_of}
use Rattle.answer_reader.specs.Nodes.{is_open_byte, is_phase_byte, phase_of_byte, are_each, NodeWords}
use Rattle.answer_reader.specs.Nodes.{with_potential, node_words, are_node_words, node_by, node_with, node_said}
use Rattle.answer_reader.specs.{Nodes.node_of, Numbers.{is_run, number_below, numbers_below}}
use Rattle.timeline_text.specs.Bytes.{is_space}
use Rattle.answer_reader.proofs.Decimals.{run_decimal, number_decimal, decimal_without}
use Rattle.answer_reader.proofs.Sets.{IsDecoded, each_decoded, decoded_is_front}
use Rattle.answer_reader.proofs.WrittenWords.{behind_front, one_further, cut_word, split_word}

-- ---- nodes

opens_told : (opened : List Bool) → map (λ b. b == 43) (map open_byte opened) ≡ opened
opens_told [] = refl
opens_told (true ∷ opened) = ap (λ xs. true ∷ xs) (opens_told opened)
opens_told (false ∷ opened) = ap (λ xs. false ∷ xs) (opens_told opened)

opens_pass : (opened : List Bool) → list_all is_open_byte (map open_byte opened) ≡ true
opens_pass [] = refl
opens_pass (true ∷ opened) = opens_pass opened
opens_pass (false ∷ opened) = opens_pass opened

opens_without : (opened : List Bool) → list_any (λ x. x == 47) (map open_byte opened) ≡ false
opens_without [] = refl
opens_without (true ∷ opened) = opens_without opened
opens_without (false ∷ opened) = opens_without opened

phases_told : (phases : List Phase) → map phase_of_byte (map phase_byte phases) ≡ phases
phases_told [] = refl
phases_told (closed ∷ phases) = ap (λ xs. closed ∷ xs) (phases_told phases)
phases_told (unmet ∷ phases) = ap (λ xs. unmet ∷ xs) (phases_told phases)
phases_told (met ∷ phases) = ap (λ xs. met ∷ xs) (phases_told phases)

phases_pass : (phases : List Phase) → list_all is_phase_byte (map phase_byte phases) ≡ true
phases_pass [] = refl
phases_pass (closed ∷ phases) = phases_pass phases
phases_pass (unmet ∷ phases) = phases_pass phases
phases_pass (met ∷ phases) = phases_pass phases

phases_without : (phases : List Phase) → list_any (λ x. x == 32) (map phase_byte phases) ≡ false
phases_without [] = refl
phases_without (closed ∷ phases) = phases_without phases
phases_without (unmet ∷ phases) = phases_without phases
phases_without (met ∷ phases) = phases_without phases

same_number : (n : ℕ) → (n == n) ≡ true
same_number n = grind (arith, nat_tests)

each_of : (test : ℕ → Bool) (n : ℕ) (bytes : List ℕ) → length bytes ≡ n → list_all test bytes ≡ true
    → are_each test n bytes ≡ true
each_of test n bytes l h = and_from _ _ (ap (λ k. k == n) l ∙ same_number n) h

module _ (k : PrefixKind) (potential : ℕ) (small : k.place < 2 ^ 64) (less : potential < 2 ^ 64) where
  abbrev words : NodeWords
  words = record {
    place = decimal k.place;
    opened = map open_byte k.opened;
    phases = map phase_byte k.phases;
    potential = decimal potential;
  }

  -- the line behind `node `
  abbrev behind_node : List ℕ
  behind_node = decimal k.place ++ 47 ∷ (map open_byte k.opened
      ++ 47 ∷ (map phase_byte k.phases ++ 32 ∷ decimal potential))

  line_is : kind_text k ++ after_space potential ≡ behind_node
  line_is = simp append_assoc

  words_back : node_words (codes "node " ++ (kind_text k ++ after_space potential)) ≡ Some words
  words_back =
      ap (λ o. option_and_then (λ kind. option_and_then
      (λ p. option_and_then (λ q. option_map (with_potential p.0 q.0) (cut 32 q.1)) (cut 47 p.1)) (cut 47 kind)) o)
      (behind_front (codes "node ") (kind_text k ++ after_space potential)
      ∙ ap (λ (xs : List ℕ). let r = Some xs in r) line_is) ∙ ap
      (λ o. option_and_then (λ p. option_and_then (λ q. option_map (with_potential p.0 q.0) (cut 32 q.1)) (cut 47 p.1))
      o) (cut_word 47 (decimal k.place) (map open_byte k.opened ++ 47 ∷ (map phase_byte k.phases ++ 32 ∷ decimal
      potential)) refl (decimal_without 47 _ refl small)) ∙ ap
      (λ o. option_and_then (λ (q : List ℕ × List ℕ). option_map (with_potential (decimal k.place) q.0) (cut 32 q.1)) o)
      (cut_word 47 (map open_byte k.opened) (map phase_byte k.phases ++ 32 ∷ decimal potential) refl
      (opens_without k.opened)) ∙ ap (λ o. option_map (with_potential (decimal k.place) (map open_byte k.opened)) o)
      (cut_word 32 _ _ refl (phases_without k.phases))

  words_pass : (free stretches : ℕ) → length k.opened ≡ free → length k.phases ≡ stretches
      → are_node_words free stretches words ≡ true
  words_pass free stretches f s =
      let a = run_decimal _ small in
      let b = each_of _ _ _ (length-map k.opened open_byte ∙ f) (opens_pass k.opened) in
      let c = each_of _ _ _ (length-map k.phases phase_byte ∙ s) (phases_pass k.phases) in
      let d = run_decimal _ less in
      ap (λ t. t && are_each is_open_byte free (map open_byte k.opened) && are_each is_phase_byte stretches
      (map phase_byte k.phases) && is_run (decimal potential)) a
      ∙ ap (λ t. t && are_each is_phase_byte stretches (map phase_byte k.phases) && is_run (decimal potential)) b
      ∙ ap (λ t. t && is_run (decimal potential)) c ∙ d

  node_is : node_by words k.place potential ≡ record { kind = k; potential = potential }
  node_is =
      ap (λ xs. let r : NodeValue = record {
        kind = record { place = k.place; opened = xs; phases = map phase_of_byte (map phase_byte k.phases) };
        potential = potential;
      } in r) (opens_told _)
      ∙ ap (λ xs. let r : NodeValue = record
      { kind = record { place = k.place; opened = k.opened; phases = xs }; potential = potential } in r) (phases_told _)

  numbers_back : (columns : ℕ) → k.place ≤ columns → potential ≤ 1000000000 → node_with columns words
      ≡ Some (node_by words k.place potential)
  numbers_back columns l m =
      ap (λ o. option_and_then (λ place. option_map (node_by words place)
      (number_below 1000000001 (decimal potential))) o) (number_decimal _ _ (omega arith) small)
      ∙ ap (option_map (node_by words k.place)) (number_decimal _ _ (omega arith) less)

  -- the line of a node
  pub node_back : (free stretches columns : ℕ) → length k.opened ≡ free → length k.phases ≡ stretches
      → k.place ≤ columns → potential ≤ 1000000000
      → node_of free stretches columns (codes "node " ++ (kind_text k ++ after_space potential))
      ≡ Ok (record { kind = k; potential = potential })
  node_back free stretches columns f s l m = ap (node_said free stretches columns) words_back
      ∙ ap (λ t. cond t (ok_or (node_with columns words) BadNumber) (Err BadLine)) (words_pass _ _ f s)
      ∙ ap (λ o. ok_or o BadNumber) (numbers_back _ l m)
      ∙ ap (λ (x : NodeValue). let r = Ok x in r) node_is

-- ---- classes

in_range : (P : ℕ → Type 0) (a n : ℕ) → AllByRecursion P (range_with_len a n) → (s : ℕ) → a ≤ s → s < a + n → P s
in_range P a zero all s l u = absurd (omega arith)
in_range P a (suc n) all s l u = ⊎_elim
    (λ later. in_range P (a + 1) n all.1 s (omega arith) (omega arith))
    (λ here. subst P (let same : a ≡ s = omega arith in same) all.0)
    (cases_lt a s)

front_back : (set : ℕ) (rest : List ℕ) → 1 ≤ set → set < 32 → set_and_rest (set_text set ++ rest) ≡ Some (set, rest)
front_back set rest l u = sym (decoded_is_front (set_text set ++ rest))
    ∙ in_range IsDecoded 1 31 each_decoded set l (omega arith) rest

-- sets from 1 to 31
abbrev pub AreFull : List ℕ → Type 0
AreFull sets = AllByRecursion (λ set. (1 ≤ set) × (set < 32)) sets

class_back : (sets : List ℕ) → AreFull sets → class_of (length sets) (class_text sets) ≡ Some sets
class_back [] full = refl
class_back (set ∷ sets) full =
    ap (λ o. option_and_then (λ (front : ℕ × List ℕ). option_map (λ xs. front.0 ∷ xs)
    (class_of (length sets) front.1)) o) (front_back set (class_text sets) full.0.0 full.0.1)
    ∙ ap (λ o. option_map (λ xs. set ∷ xs) o) (class_back sets full.1)

-- ---- arcs

module _ (target nodes : ℕ) (sets : List ℕ) (there : target < nodes) (small : target < 2 ^ 64) (full : AreFull sets)
  where
    arc_words_back : arc_words (codes "arc " ++ (decimal target ++ 32 ∷ class_text sets))
        ≡ Some (decimal target, class_text sets)
    arc_words_back =
        ap (option_and_then (cut 32)) (behind_front (codes "arc ") (decimal target ++ 32 ∷ class_text sets))
        ∙ cut_word 32 _ _ refl (decimal_without 32 _ refl small)

    -- the line of an arc
    pub arc_back : (width : ℕ) → length sets ≡ width
        → arc_of width nodes (codes "arc " ++ (decimal target ++ 32 ∷ class_text sets))
        ≡ Ok (record { target = target; sets = sets })
    arc_back width w =
        ap (arc_said width nodes) arc_words_back
        ∙ ap (λ t. cond t (arc_if_target width (number_below nodes (decimal target)) (class_text sets)) (Err BadLine))
        (run_decimal target small)
        ∙ ap (λ o. arc_if_target width o (class_text sets)) (number_decimal nodes target there small)
        ∙ ap (λ k. arc_with k target (class_text sets)) (sym w)
        ∙ ap (λ o. ok_or (option_map (λ xs. let r : ArcValue = record { target = target; sets = xs } in r) o) BadClass)
        (class_back sets full)

-- ---- states

not_cut_at : (b : ℕ) (word : List ℕ) → list_any (λ x. x == b) word ≡ false → position_or_len (λ x. x == b) word
    ≡ length word
not_cut_at b [] h = refl
not_cut_at b (w ∷ word) h =
    let p = or_parts _ _ h in
    one_further _ _ _ p.0 (not_cut_at b word p.1)

not_found : (n : ℕ) → cond (nat_lt n n) (Some n) None ≡ None
not_found n = grind (arith, nat_tests)

no_cut : (b : ℕ) (word : List ℕ) → list_any (λ x. x == b) word ≡ false → cut b word ≡ None
no_cut b word h = ap (λ k. option_map (parts_at word) (cond (nat_lt k (length word)) (Some k) None)) (not_cut_at b _ h)
    ∙ ap (option_map (parts_at word)) (not_found _)

module _ (node nodes : ℕ) (there : node < nodes) (small : node < 2 ^ 64) where
  state_words_back : (accepting : Bool) → state_words (codes "state " ++ (decimal node ++ final_mark accepting))
      ≡ Some (record { node = decimal node; accepting = accepting })
  state_words_back false =
      ap (option_and_then (λ rest. final_words rest (cut 32 rest))) (behind_front (codes "state ") (decimal node ++ []))
      ∙ ap (λ rest. final_words rest (cut 32 rest)) (append-nil (decimal node))
      ∙ ap (final_words (decimal node)) (no_cut 32 (decimal node) (decimal_without 32 _ refl small))
  state_words_back true = ap (option_and_then (λ rest. final_words rest (cut 32 rest)))
      (behind_front (codes "state ") (decimal node ++ codes " final"))
      ∙ ap (final_words (decimal node ++ codes " final")) (cut_word 32 (decimal node) (codes "final") refl
      (decimal_without 32 _ refl small))

  -- the line of a state
  pub state_back : (accepting : Bool) → state_of nodes (codes "state " ++ (decimal node ++ final_mark accepting))
      ≡ Ok (record { node = node; accepting = accepting; arcs = [] })
  state_back accepting = ap (state_said nodes) (state_words_back _)
      ∙ ap (λ t. cond t (ok_or (option_map (state_with (record { node = decimal node; accepting = accepting }))
      (number_below nodes (decimal node))) BadNumber) (Err BadLine)) (run_decimal _ small)
      ∙ ap (λ o. ok_or (option_map (state_with (record { node = decimal node; accepting = accepting })) o) BadNumber)
      (number_decimal _ _ there small)

-- ---- stages and the automaton

-- the line of the automaton
pub automaton_back : (nodes states : ℕ) → states ≤ nodes → states < 2 ^ 64
    → automaton_of nodes (codes "automaton " ++ decimal states) ≡ Ok states
automaton_back nodes states l small = ap (number_said (nodes + 1)) (behind_front (codes "automaton ") (decimal states))
    ∙ ap (λ t. cond t (ok_or (number_below (nodes + 1) (decimal states)) BadNumber) (Err BadLine)) (run_decimal _ small)
    ∙ ap (λ o. ok_or o BadNumber) (number_decimal _ _ (omega arith) small)

-- the line of a stage
pub stage_back : (stages next count : ℕ) → next < stages → stages ≤ 25 → count ≤ 65536
    → stage_of stages next (codes "stage " ++ (decimal next ++ 32 ∷ decimal count)) ≡ Ok count
stage_back stages next count l few m =
    let w = ap (option_and_then (cut 32)) (behind_front (codes "stage ") (decimal next ++ 32 ∷ decimal count))
    ∙ cut_word 32 (decimal next) (decimal count) refl (decimal_without 32 _ refl small_next) in
    ap (stage_said stages next) w
    ∙ ap (λ t. cond t (cond (is_number next (number_below stages (decimal next)))
    (ok_or (number_below 65537 (decimal count)) BadNumber) (Err BadNumber)) (Err BadLine))
    (and_from _ _ (run_decimal _ small_next) (run_decimal _ small_count))
    ∙ ap (λ o. cond (is_number next o) (ok_or (number_below 65537 (decimal count)) BadNumber) (Err BadNumber))
    (number_decimal _ _ l small_next) ∙ ap (λ t. cond t (ok_or (number_below 65537 (decimal count)) BadNumber)
    (Err BadNumber)) (same_number _) ∙ ap (λ o. ok_or o BadNumber) (number_decimal _ _ (omega arith) small_count)
  where
    small_next : next < 2 ^ 64
    small_next = omega arith

    small_count : count < 2 ^ 64
    small_count = omega arith

-- ---- counts

whole_word : (p : ℕ → Bool) (word : List ℕ) → list_any p word ≡ false → slice_split p word ≡ word ∷ []
whole_word p [] h = refl
whole_word p (w ∷ word) h =
    let q = or_parts _ _ h in
    ap (λ t. cond t ([] ∷ slice_split p word) (onto_first w (slice_split p word))) q.0
    ∙ ap (onto_first w) (whole_word p word q.1)

-- each is at most 1,000,000,000
abbrev pub AreCounts : List ℕ → Type 0
AreCounts ns = AllByRecursion (λ n. n ≤ 1000000000) ns

pub large : (n : ℕ) → n ≤ 1000000000 → n < 2 ^ 64
large n l = omega arith

words_of : (n : ℕ) (ns : List ℕ) → n ≤ 1000000000 → AreCounts ns → slice_split is_space (decimal n ++ spaced_numbers ns)
    ≡ decimal n ∷ map decimal ns
words_of n [] l are = ap (slice_split is_space) (append-nil (decimal n))
    ∙ whole_word _ _ (decimal_without 32 n refl (large n l))
words_of n (m ∷ ns) l are = split_word _ _ 32 _ refl (decimal_without 32 n refl (large n l)) ∙ ap (λ ws. decimal n ∷ ws)
    (words_of m ns are.0 are.1)

all_runs : (ns : List ℕ) → AreCounts ns → list_all is_run (map decimal ns) ≡ true
all_runs [] are = refl
all_runs (n ∷ ns) are = and_from _ _ (run_decimal n (large n are.0)) (all_runs ns are.1)

all_numbers : (ns : List ℕ) → AreCounts ns → numbers_below 1000000001 (map decimal ns) ≡ Some ns
all_numbers [] are = refl
all_numbers (n ∷ ns) are = ap
    (λ o. option_and_then (λ m. option_map (λ ms. m ∷ ms) (numbers_below 1000000001 (map decimal ns))) o)
    (number_decimal _ n (omega (arith, are.0)) (large n are.0)) ∙ ap (option_map (λ ms. n ∷ ms)) (all_numbers ns are.1)

counts_words_back : (ns : List ℕ) → AreCounts ns → counts_words (counts_line ns) ≡ Some (map decimal ns)
counts_words_back [] are = refl
counts_words_back (n ∷ ns) are = ap (option_map (slice_split is_space))
    (behind_front (codes "counts ") (decimal n ++ spaced_numbers ns))
    ∙ ap (λ (ws : List (List ℕ)). let r = Some ws in r) (words_of n ns are.0 are.1)

-- the line of the counts
pub counts_back : (constraints : ℕ) (ns : List ℕ) → length ns ≡ constraints → AreCounts ns
    → counts_of constraints (counts_line ns) ≡ Ok ns
counts_back constraints ns l are = ap (counts_said constraints) (counts_words_back ns are)
    ∙ ap (λ t. cond t (ok_or (numbers_below 1000000001 (map decimal ns)) BadNumber) (Err BadLine))
    (and_from _ _ (ap (λ k. k == constraints) (length-map ns decimal ∙ l) ∙ same_number _) (all_runs ns are))
    ∙ ap (λ o. ok_or o BadNumber) (all_numbers ns are)
