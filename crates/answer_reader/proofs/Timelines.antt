-- The timeline of a text, found by tests, is the one whose text it is.
use Rattle.std.proofs.Common.{◌≡◌, ◌≢◌, ℕ, zero, suc, ◌<◌, ◌≤◌, ◌&&◌, Bool, true, false, cond, nat_lt, List, []}
use Rattle.std.proofs.Common.{◌∷◌, length, codes, Option, Some, None, option_and_then, Result, Ok, Err, refl, ap}
use Rattle.std.proofs.Common.{sym, ◌∙◌, subst, arith, ⊎_elim}
use Rattle.std.proofs.{lemmas.Bool.{false≢true, and_parts, and_from, cases_lt}, lemmas.Bool.Decides.nat_tests}
use Rattle.std.proofs.lemmas.Slice.Eq.{bytes_eq-Decides}
use Rattle.std.specs.{Option.{ok_or, MatchOption}, Result.{MatchResult, IfOk}, Str.bytes_eq}
use Rattle.tier_core.specs.{declared.sym.Sym.Sym, Scan.{fits, opens}, Timelines.tier_word, Words.IsWellFormedWord}
use Rattle.tier_core.proofs.{WordLemmas.runs, WordForm.{runs_from_well_formed, well_formed_from_runs}}
use Rattle.timeline_text.specs.{declared.form_err.FormErr.FormErr, declared.form_err.FormErr.TheVariants.NoMemory}
use Rattle.timeline_text.specs.Causes.{bad_symbol, wrong_width, no_edge, spaced_pieces, columns_of, IsCause}
use Rattle.timeline_text.specs.Texts.{text_of, IsTextOf}
use Rattle.timeline_text.proofs.{Cuts.{columns_back, no_word}, Deciding.{not_the_word, the_word, bad_symbol_is}}
use Rattle.timeline_text.proofs.Deciding.{wrong_width_is, too_long_is, not_reduced_is, no_cause, empty_text}
use Rattle.timeline_text.proofs.{Deciding.not_both, Searches.{by_test, by_option}}
use Rattle.answer_reader.specs.declared.answer_err.AnswerCause.{AnswerCause}
use Rattle.answer_reader.specs.declared.answer_err.AnswerCause.TheVariants.{BadLine}
use Rattle.answer_reader.specs.{declared.answer_err.AnswerErr.AnswerErr, Cuts.behind}
use Rattle.answer_reader.specs.Timelines.{is_drawn, are_drawn, unless, timeline_of, is_no_memory, timeline_said}

drawn_runs : (b : Bool) (w : List Sym) → is_drawn b w ≡ runs b w
drawn_runs b [] = refl
drawn_runs b (s ∷ w) = ap (λ t. fits b s && t) (drawn_runs _ w)

well_formed_below : (n : ℕ) (T : List (List Sym)) → are_drawn n T ≡ true → (t : ℕ) → t < n
    → IsWellFormedWord (tier_word T t)
well_formed_below zero T h t l = absurd (omega arith)
well_formed_below (suc n) T h t l =
    let p = and_parts (is_drawn false (tier_word T n)) (are_drawn n T) h in
    ⊎_elim
    (λ before. well_formed_below n T p.1 t before)
    (λ here. subst (λ (k : ℕ). IsWellFormedWord (tier_word T k)) (let same : n ≡ t = omega arith in same)
    (well_formed_from_runs _ (sym (drawn_runs false (tier_word T n)) ∙ p.0))) (cases_lt t n)

drawn_below : (n : ℕ) (T : List (List Sym)) → ((t : ℕ) → t < n → IsWellFormedWord (tier_word T t)) → are_drawn n T
    ≡ true
drawn_below zero T h = refl
drawn_below (suc n) T h = and_from _ _ (drawn_runs false (tier_word T n) ∙ runs_from_well_formed _ (h n (omega arith)))
    (drawn_below n T (λ t l. h t (omega arith)))

unless_some : {X : Type 0} (o : Option ℕ) (r : Option X) (x : X) → unless o r ≡ Some x → (o ≡ None) × (r ≡ Some x)
unless_some None r x h = (refl, h)
unless_some (Some k) r x h = absurd (let n : ⊥ = cc in n)

if_not : {X : Type 0} (t : Bool) (r : Option X) (x : X) → cond t None r ≡ Some x → (t ≡ false) × (r ≡ Some x)
if_not true r x h = absurd (let n : ⊥ = cc in n)
if_not false r x h = (refl, h)

if_so : {X : Type 0} (t : Bool) (r : Option X) (x : X) → cond t r None ≡ Some x → (t ≡ true) × (r ≡ Some x)
if_so true r x h = (refl, h)
if_so false r x h = absurd (let n : ⊥ = cc in n)

module _ (width limit : ℕ) (bytes : List ℕ) where
  abbrev columns : List (List Sym)
  columns = columns_of bytes

  abbrev with_edges : Option (List (List Sym))
  with_edges = unless (no_edge columns) (Some columns)

  abbrev well_formed : Option (List (List Sym))
  well_formed = cond (are_drawn width columns) with_edges None

  abbrev within : Option (List (List Sym))
  within = cond (nat_lt limit (length (spaced_pieces bytes))) None well_formed

  abbrev wide : Option (List (List Sym))
  wide = unless (wrong_width width bytes) within

  -- what is found where the text is not the word `empty`
  abbrev found : Option (List (List Sym))
  found = unless (bad_symbol bytes) wide

  found_is : (T : List (List Sym)) → found ≡ Some T → IsTextOf width limit bytes T
  found_is T h =
      let a = unless_some (bad_symbol bytes) wide T h in
      let b = unless_some (wrong_width width bytes) within T a.1 in
      let c = if_not (nat_lt limit (length (spaced_pieces bytes))) well_formed T b.1 in
      let d = if_so (are_drawn width columns) with_edges T c.1 in
      let e = unless_some (no_edge columns) (Some columns) T d.1 in
      let same : columns_of bytes ≡ T = cc in
      let few : length (spaced_pieces bytes) ≤ limit = grind (arith, nat_tests) in
      subst (IsTextOf width limit bytes) same
      (no_cause width limit bytes a.0 b.0 few (well_formed_below width (columns_of bytes) d.0) e.0)

  at_word : (t : Bool) (T : List (List Sym)) → bytes_eq bytes (codes "empty") ≡ t → cond t (Some []) found ≡ Some T
      → IsTextOf width limit bytes T
  at_word true T e h = let same : []
      ≡ T = cc in subst (IsTextOf width limit bytes) same (empty_text _ _ _ (the_word _ e))
  at_word false T e h = found_is T h

  -- what is found has this text
  pub timeline_is : (T : List (List Sym)) → timeline_of width limit bytes ≡ Some T → IsTextOf width limit bytes T
  timeline_is T h = at_word _ T refl h

  found_for : (column : List Sym) (T : List (List Sym)) → IsTextOf width limit bytes (column ∷ T)
      → bytes ≢ codes "empty" → found ≡ Some (column ∷ T)
  found_for column T t other =
      let a : bad_symbol bytes ≡ None = by_option (bad_symbol bytes)
      (λ at h. absurd (not_both width limit bytes (column ∷ T) _ t (bad_symbol_is width limit bytes other at h)))
      (λ e. e) in
      let b : wrong_width width bytes
      ≡ None = by_option (wrong_width width bytes)
      (λ k h. absurd (not_both width limit bytes (column ∷ T) _ t (wrong_width_is width limit bytes other k a h)))
      (λ e. e) in
      let c : nat_lt limit (length (spaced_pieces bytes))
      ≡ false = by_test (nat_lt limit (length (spaced_pieces bytes)))
      (λ h. absurd (not_both width limit bytes (column ∷ T) _ t
      (too_long_is width limit bytes other a b (grind (arith, nat_tests))))) (λ e. e) in
      let few : length (spaced_pieces bytes) ≤ limit = grind (arith, nat_tests) in
      let same : columns_of bytes ≡ column ∷ T = ap columns_of t.text ∙ columns_back column T in
      let words : (k : ℕ) → k < width
      → IsWellFormedWord (tier_word (columns_of bytes) k) = λ k l. subst
      (λ (U : List (List Sym)). IsWellFormedWord (tier_word U k)) (sym same) (t.form.each_tier k l) in
      let e : no_edge (columns_of bytes)
      ≡ None = by_option (no_edge (columns_of bytes))
      (λ k h. absurd (not_both width limit bytes (column ∷ T) _ t
      (not_reduced_is width limit bytes other k a b few words h))) (λ e. e) in
      ap (λ o. unless o wide) a ∙ ap (λ o. unless o within) b ∙ ap (λ u. cond u None well_formed) c
      ∙ ap (λ u. cond u with_edges None) (drawn_below width columns words) ∙ ap (λ o. unless o (Some columns)) e
      ∙ ap (λ U. let r : Option (List (List Sym)) = Some U in r) same

  -- the timeline of a text is found
  pub timeline_for : (T : List (List Sym)) → IsTextOf width limit bytes T → timeline_of width limit bytes ≡ Some T
  timeline_for [] t = ap (λ u. cond u (Some []) found) ((bytes_eq-Decides _ _).1 t.text)
  timeline_for (column ∷ T) t = ap (λ u. cond u (Some []) found)
      (sym (ap (λ b. bytes_eq b (codes "empty")) (sym t.text)) ∙ no_word _ T) ∙ found_for _ T t
      (not_the_word _ (sym (ap (λ b. bytes_eq b (codes "empty")) (sym t.text)) ∙ no_word _ T))

  -- where a cause comes none is found
  pub no_timeline : (e : FormErr) → IsCause width limit bytes e → timeline_of width limit bytes ≡ None
  no_timeline e c = by_option _ (λ T h. absurd (not_both _ _ _ T e (timeline_is T h) c)) (λ n. n)

pub other_cause : (e : FormErr) → is_no_memory e ≡ false → e ≢ NoMemory
other_cause e h same = false≢true (sym h ∙ ap is_no_memory same)

-- ---- lines that say a timeline

abbrev pub SaysTimeline : List ℕ → ℕ → ℕ → List ℕ → Result (List (List Sym)) AnswerCause → Type 0
SaysTimeline word width limit line said = MatchResult said (λ T. timeline_said word width limit line ≡ Ok T)
    (λ cause. timeline_said word width limit line ≡ Err cause)

-- what was read, as the code has it: as a timeline, or as none
pub said_by : (word : List ℕ) (width limit : ℕ) (line : List ℕ) (read : Option (List (List Sym)))
    (said : Result (List (List Sym)) AnswerCause)
    → MatchOption read (timeline_said word width limit line ≡ Err BadLine)
    (λ T. timeline_said word width limit line ≡ Ok T)
    → MatchResult said (λ T. MatchOption read ⊥ (λ each. each ≡ T))
    (λ cause. (cause ≡ BadLine) × MatchOption read (Unit {0}) (λ each. ⊥))
    → SaysTimeline word width limit line said
said_by word width limit line None (Ok T) r s = absurd s
said_by word width limit line (Some U) (Ok T) r s = r
    ∙ ap (λ V. let q = Ok V in q) s
said_by word width limit line None (Err cause) r s = r
    ∙ ap (λ c. let q = Err c in q) (sym s.0)
said_by word width limit line (Some U) (Err cause) r s = absurd s.1

pub said_of : (word : List ℕ) (width limit : ℕ) (line text : List ℕ) (read : Option (List (List Sym)))
    → behind word line ≡ Some text → read ≡ timeline_of width limit text
    → MatchOption read (timeline_said word width limit line ≡ Err BadLine)
    (λ T. timeline_said word width limit line ≡ Ok T)
said_of word width limit line text None b r = ap (λ o. ok_or (option_and_then (timeline_of width limit) o) BadLine) b
    ∙ ap (λ o. ok_or o BadLine) (sym r)
said_of word width limit line text (Some T) b r = ap
    (λ o. ok_or (option_and_then (timeline_of width limit) o) BadLine) b ∙ ap (λ o. ok_or o BadLine) (sym r)

said_at : (width limit : ℕ) (o : Option (List ℕ)) (T : List (List Sym))
    → ok_or (option_and_then (timeline_of width limit) o) BadLine ≡ Ok T → IsTextOf width limit (text_of T) T
said_at width limit None T h = absurd (let n : ⊥ = cc in n)
said_at width limit (Some text) T h = by (timeline_of width limit text) refl h
  where
    by : (r : Option (List (List Sym))) → timeline_of width limit text ≡ r → ok_or r BadLine ≡ Ok T
        → IsTextOf width limit (text_of T) T
    by None is g = absurd (let n : ⊥ = cc in n)
    by (Some U) is g =
        let same : U ≡ T = cc in
        let t = timeline_is width limit text U is in
        subst (λ (V : List (List Sym)). IsTextOf width limit (text_of V) V) same
        (record { text = refl; form = t.form; reduced = t.reduced; within = t.within })

-- what is read is within the limits
pub read_within : (word : List ℕ) (width limit : ℕ) (line : List ℕ) (said : Result (List (List Sym)) AnswerCause)
    (result : Result (List (List Sym)) AnswerErr) (cause : AnswerCause → AnswerErr)
    → SaysTimeline word width limit line said → MatchResult said (λ T. result ≡ Ok T) (λ c. result ≡ Err (cause c))
    → IfOk result (λ T. IsTextOf width limit (text_of T) T)
read_within word width limit line (Ok T) result cause h r = subst
    (λ x. IfOk x (λ V. IsTextOf width limit (text_of V) V)) (sym r) (said_at width limit (behind word line) T h)
read_within word width limit line (Err c) result cause h r = subst
    (λ x. IfOk x (λ V. IsTextOf width limit (text_of V) V)) (sym r) tt
