-- Refusals of one step as those of a whole command.
use Rattle.std.proofs.Common.{◌≡◌, inl, inr, ℕ, ◌<◌, List, length, Option, Some, refl, ap, sym, subst}
use Rattle.command_line.specs.{declared.status.Status.Status, declared.status.Status.TheVariants.{Done, No, Usage}}
use Rattle.command_line.specs.declared.status.Status.TheVariants.{GrammarRefused, FormRefused, LexiconRefused}
use Rattle.command_line.specs.declared.status.Status.TheVariants.{AnswerRefused, Budget, ReadFault, WriteFault}
use Rattle.command_line.specs.declared.status.Status.TheVariants.{NoMemory, RowsRefused, TooLong}
use Rattle.grammar_reader.specs.Values.{GrammarValue}
use Rattle.violation.specs.Problems.{Problem}
use Rattle.otp_tool.specs.{Files.NamedFile, Grammars.{AreAsked, IsAsked}}
use Rattle.otp_tool.specs.{Lexicons.{IsLexiconFile, IsSurfaceOf, forms_in}, Findings.{Finding, FindsForAnswer}}
use Rattle.otp_tool.specs.Findings.{FindsForHearing, FindsForOnce, FindsForTableau, long_second, no_form, no_rows}
use Rattle.otp_tool.specs.{Findings.{no_lexicon, no_answer, over_budget}, Steps.{Change, IsRefusal, IsSecondRefusal}}
use Rattle.otp_tool.specs.Steps.{IsWork, RefusesBudget, RefusesEntry, RefusesForm, IsUntouched, RefusesLexicon}
use Rattle.otp_tool.specs.Steps.{RefusesOnce, RefusesRows, RefusesSurface}
use Rattle.tier_core.specs.declared.sym.Sym.{Sym}
use Rattle.lexicon.specs.Entries.{LexicalEntry}
use Rattle.otp_tool.proofs.OutcomeLemmas.{long_held, some_held, some_second}

module _ (P Q : Finding → Type 0) (weaker : (x : Finding) → P x → Q x) where
  pub refusal_weaker : (s : Status) → IsRefusal P s → IsRefusal Q s
  refusal_weaker (FormRefused word cause) r = weaker (no_form word cause) r
  refusal_weaker (LexiconRefused word cause) r = (r.0, weaker (no_lexicon cause) r.1)
  refusal_weaker (AnswerRefused word line cause) r = (r.0, weaker (no_answer line cause) r.1)
  refusal_weaker (Budget entry stage) r = weaker (over_budget entry stage) r
  refusal_weaker NoMemory r = tt
  refusal_weaker (RowsRefused word row cause) r = (r.0, weaker (no_rows row cause) r.1)
  refusal_weaker (TooLong word) r = weaker (long_second word) r
  refusal_weaker other r = absurd r

-- ---- answers

module _ (g : GrammarValue) (word : List ℕ) (budget : ℕ) where
  pub form_for_answer : (x : Finding) → RefusesForm g word x → FindsForAnswer g word budget x
  form_for_answer x r = rw r.is (refl, r.fact)

  pub budget_for_answer : (problem : Problem) → IsAsked g word problem → (x : Finding) → RefusesBudget problem budget x
      → FindsForAnswer g word budget x
  budget_for_answer problem a x r =
      rw r.is (refl, record { problem = problem; is_asked = a; over = r.fact })

  pub form_for_once : (x : Finding) → RefusesForm g word x → FindsForOnce g word budget x
  form_for_once x r = rw r.is (refl, r.fact)

  pub budget_for_once : (problem : Problem) → IsAsked g word problem → (x : Finding) → RefusesOnce problem budget x
      → FindsForOnce g word budget x
  budget_for_once problem a x r =
      rw r.is (refl, record { problem = problem; is_asked = a; fact = r.fact })

-- ---- tableaux

module _ (g : GrammarValue) (word : List ℕ) (budget : ℕ) (bytes : List ℕ) where
  pub form_for_tableau : (x : Finding) → RefusesForm g word x → FindsForTableau g word budget bytes x
  form_for_tableau x r = rw r.is (refl, r.fact)

  pub rows_for_tableau : (problem : Problem) → IsAsked g word problem → (x : Finding)
      → RefusesRows problem budget bytes x → FindsForTableau g word budget bytes x
  rows_for_tableau problem a x (inl r) =
      rw r.is (record { problem = problem; is_asked = a; fact = r.fact })
  rows_for_tableau problem a x (inr r) = rw r.1.is
      (refl, record { problem = problem; is_asked = a; fact = (r.0, r.1.fact) })

-- ---- hearing

module _ (g : GrammarValue) (word : List ℕ) (budget : ℕ) (bytes : List ℕ) where
  pub surface_for_hearing : (x : Finding) → RefusesSurface g word x → FindsForHearing g word budget bytes x
  surface_for_hearing x r = rw r.is (refl, r.fact)

  module _ (surface : List (List Sym)) (read : IsSurfaceOf g word surface) where
    pub lexicon_for_hearing : (x : Finding) → RefusesLexicon g bytes x → FindsForHearing g word budget bytes x
    lexicon_for_hearing x r = rw r.is ((surface, read), r.fact)

    pub entry_for_hearing : (ask : List (List Sym) → Problem) → AreAsked g ask → (entries : List LexicalEntry)
        → IsLexiconFile g bytes entries → (x : Finding) → RefusesEntry ask (forms_in entries) budget x
        → FindsForHearing g word budget bytes x
    entry_for_hearing ask a entries file x r = rw r.is (record {
      ask = ask;
      are_asked = a;
      surface = surface;
      read = read;
      entries = entries;
      file = file;
      fact = r.fact;
    })

-- ---- second files

module _ (reaches : Type 0) (finds : List ℕ → Finding → Type 0) (writes : List ℕ → List ℕ
    → Type 0) (c : Change) (untouched : IsUntouched c.taking) where
  -- a refusal before the second file is loaded
  pub refused_before : (second : Option NamedFile) (P : Finding → Type 0)
      → ((bytes : List ℕ) (x : Finding) → P x → finds bytes x) → (s : Status) → IsRefusal P s
      → IsWork second reaches finds writes c s
  refused_before second P weaker s r =
      let b = some_second c.held second in
      inr (record {
        bytes = b.0;
        holds = b.1;
        step = inl (refusal_weaker P _ (weaker b.0) s r, untouched);
      })

  module _ (file : NamedFile) (reached : reaches) (long : (bytes : List ℕ) → file.limit < length bytes
      → finds bytes (long_second file.word)) where
    pub second_refused : (s : Status)
        → IsSecondRefusal file (c.held file.name) (c.faults_before file.name) (c.faults_after file.name) s
        → IsWork (Some file) reaches finds writes c s
    second_refused (ReadFault word) r = inl (record {
      file = file;
      is_second = refl;
      reached = reached;
      rose = r.1;
      answer = ap ReadFault r.0;
      untouched = untouched;
    })
    second_refused NoMemory r =
        let b = some_held _ in
        inr (record { bytes = b.0; holds = b.1; step = inl (tt, untouched) })
    second_refused (TooLong word) r =
        let l = long_held _ _ r.1 in
        inr (record {
          bytes = l.bytes;
          holds = l.holds;
          step = inl (rw r.0 (long l.bytes l.long), untouched);
        })
    second_refused other r = absurd r
