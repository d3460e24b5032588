-- The numbers of words, one by one.
use Rattle.std.proofs.Common.{◌≡◌, ℕ, zero, suc, ◌<◌, ◌==◌, ◌&&◌, Bool, true, false, cond, List, [], ◌∷◌, ◌++◌}
use Rattle.std.proofs.Common.{length, drop, get_or, Option, Some, None, option_map, option_and_then, Result, Ok}
use Rattle.std.proofs.Common.{Err, refl, ap, sym, ◌∙◌, subst, arith, drop-cons, append-nil, eqb-true}
use Rattle.std.proofs.lemmas.Bool.{and_parts}
use Rattle.std.specs.{List.list_all, Option.ok_or, Result.{MatchResult, IfOk}, declared.alloc.Global.Global}
use Rattle.std.specs.declared.vec.Vec.{Vec}
use Rattle.answer_reader.specs.declared.answer_err.AnswerCause.{AnswerCause}
use Rattle.answer_reader.specs.declared.answer_err.AnswerCause.TheVariants.{BadLine, BadNumber}
use Rattle.answer_reader.specs.{declared.answer_err.AnswerErr.AnswerErr, Lines.{counts_words, counts_said, counts_of}}
use Rattle.answer_reader.specs.Numbers.{is_run, number_below, numbers_below}
use Rattle.answer_reader.proofs.ClassLoop.{behind_sets, set_more}

-- each of them passes
pub passes_at : {X : Type 0} (test : X → Bool) (xs : List X) (k : ℕ) (d : X) → list_all test xs ≡ true → k < length xs
    → test (get_or xs k d) ≡ true
passes_at test [] k d h l = absurd (omega arith)
passes_at test (x ∷ xs) zero d h l = (and_parts (test x) (list_all test xs) h).0
passes_at test (x ∷ xs) (suc k) d h l = passes_at test xs k d (and_parts (test x) (list_all test xs) h).1 (omega arith)

-- the numbers of the words so far, and those of the words that are left
pub record AreNumbers (bound : ℕ) (words : List (List ℕ)) (k : ℕ) (numbers : List ℕ) : Type 0 where
  pub rest : behind_sets numbers (numbers_below bound (drop k words)) ≡ numbers_below bound words

abbrev with_rest : ℕ → List (List ℕ) → ℕ → Option ℕ → Option (List ℕ)
with_rest bound words k o = option_and_then
    (λ n. option_map (λ ns. n ∷ ns) (numbers_below bound (drop (suc k) words))) o

numbers_at : (bound : ℕ) (words : List (List ℕ)) (k : ℕ) (word : List ℕ) → k < length words → word ≡ get_or words k word
    → numbers_below bound (drop k words) ≡ with_rest bound words k (number_below bound word)
numbers_at bound words k word l e = ap (numbers_below bound) (drop-cons words k word l)
    ∙ ap (λ w. with_rest bound words k (number_below bound w)) (sym e)

pub number_read : (bound : ℕ) (words : List (List ℕ)) (k : ℕ) (numbers : List ℕ) (word : List ℕ) (n : ℕ)
    → AreNumbers bound words k numbers → k < length words → word ≡ get_or words k word
    → Some n ≡ number_below bound word → AreNumbers bound words (suc k) (numbers ++ n ∷ [])
number_read bound words k numbers word n are l e is = record {
  rest = sym (set_more _ n _) ∙ ap (λ o. behind_sets numbers (with_rest bound words k o)) is ∙ ap (behind_sets numbers)
      (sym (numbers_at _ _ k _ l e)) ∙ are.rest;
}

pub number_missing : (bound : ℕ) (words : List (List ℕ)) (k : ℕ) (numbers : List ℕ) (word : List ℕ)
    → AreNumbers bound words k numbers → k < length words → word ≡ get_or words k word
    → None ≡ number_below bound word → None ≡ numbers_below bound words
number_missing bound words k numbers word are l e is = ap (λ o. behind_sets numbers (with_rest bound words k o)) is
    ∙ ap (behind_sets numbers) (sym (numbers_at _ _ k _ l e)) ∙ are.rest

drop_all : {X : Type 0} (xs : List X) → drop (length xs) xs ≡ []
drop_all [] = refl
drop_all (x ∷ xs) = drop_all xs

pub numbers_read : (bound : ℕ) (words : List (List ℕ)) (k : ℕ) (numbers : List ℕ) → AreNumbers bound words k numbers
    → k ≡ length words → Some numbers ≡ numbers_below bound words
numbers_read bound words k numbers are e =
    ap (λ (ns : List ℕ). let r = Some ns in r) (sym (append-nil numbers))
    ∙ ap (λ ws. behind_sets numbers (numbers_below bound ws)) (sym (ap (λ j. drop j words) e ∙ drop_all words))
    ∙ are.rest

length_at : (words : List (List ℕ)) (bound : ℕ) (o : Option ℕ) (ns : List ℕ)
    → ((ms : List ℕ) → numbers_below bound words ≡ Some ms → length ms ≡ length words)
    → option_and_then (λ n. option_map (λ ms. n ∷ ms) (numbers_below bound words)) o ≡ Some ns → length ns
    ≡ suc (length words)
length_at words bound None ns h e = absurd (let n : ⊥ = cc in n)
length_at words bound (Some n) ns h e = by (numbers_below bound words) refl e
  where
    by : (o : Option (List ℕ)) → numbers_below bound words ≡ o → option_map (λ ms. n ∷ ms) o ≡ Some ns → length ns
        ≡ suc (length words)
    by None is g = absurd (let n : ⊥ = cc in n)
    by (Some ms) is g = let same : n ∷ ms ≡ ns = cc in sym (ap length same) ∙ ap suc (h ms is)

-- a number for each word
numbers_length : (bound : ℕ) (words : List (List ℕ)) (ns : List ℕ) → numbers_below bound words ≡ Some ns → length ns
    ≡ length words
numbers_length bound [] ns e = let same : [] ≡ ns = cc in sym (ap length same)
numbers_length bound (word ∷ words) ns e = length_at _ _ _ ns (numbers_length bound words) e

said_size : (constraints : ℕ) (runs : List (List ℕ)) (ns : List ℕ) (t : Bool)
    → ((length runs == constraints) && list_all is_run runs) ≡ t
    → cond t (ok_or (numbers_below 1000000001 runs) BadNumber) (Err BadLine) ≡ Ok ns → length ns ≡ constraints
said_size constraints runs ns false e h = absurd (let n : ⊥ = cc in n)
said_size constraints runs ns true e h = by (numbers_below 1000000001 runs) refl h
  where
    by : (o : Option (List ℕ)) → numbers_below 1000000001 runs ≡ o → ok_or o BadNumber ≡ Ok ns → length ns ≡ constraints
    by None is g = absurd (let n : ⊥ = cc in n)
    by (Some ms) is g =
        let same : ms ≡ ns = cc in
        sym (ap length same) ∙ numbers_length _ _ ms is
        ∙ eqb-true (length runs) constraints (and_parts (length runs == constraints) (list_all is_run runs) e).0

counts_size : (constraints : ℕ) (words : Option (List (List ℕ))) (ns : List ℕ) → counts_said constraints words ≡ Ok ns
    → length ns ≡ constraints
counts_size constraints None ns h = absurd (let n : ⊥ = cc in n)
counts_size constraints (Some runs) ns h = said_size _ _ ns _ refl h

-- one count for each constraint
pub one_each : (constraints : ℕ) (line : List ℕ) (said : Result (Vec ℕ Global) AnswerCause)
    (result : Result (Vec ℕ Global) AnswerErr) (cause : AnswerCause → AnswerErr)
    → MatchResult said (λ counts. counts_of constraints line ≡ Ok counts.items)
    (λ c. counts_of constraints line ≡ Err c)
    → MatchResult said (λ counts. result ≡ Ok counts) (λ c. result ≡ Err (cause c))
    → IfOk result (λ counts. length counts.items ≡ constraints)
one_each constraints line (Ok counts) result cause h r = rw r (counts_size _ _ _ h)
one_each constraints line (Err c) result cause h r = rw r tt
