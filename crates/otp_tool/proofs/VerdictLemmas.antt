-- Where the shelf tells, the bytes of an answer settle the status of `check`.
use Rattle.std.proofs.Common.{◌≡◌, ◌⊎◌, inl, inr, ℕ, List, Option, refl, ◌∙◌, subst}
use Rattle.outside.specs.Faults.{Rose}
use Rattle.command_line.specs.{declared.status.Status.Status, declared.status.Status.TheVariants.{Done, No, NoMemory}}
use Rattle.command_line.specs.Commands.{Command, IsCommand, canon, score, generate, show, tableau, once, comprehend}
use Rattle.command_line.specs.Commands.{check, sample}
use Rattle.grammar_reader.specs.Values.{GrammarValue}
use Rattle.cert_check.specs.{declared.fault.Fault.Fault, declared.fault.Verdict.Verdict}
use Rattle.cert_check.specs.declared.fault.Verdict.TheVariants.{Yes, No as Not}
use Rattle.command_line.proofs.CommandLemmas.{one_command}
use Rattle.answer_text.specs.Values.{answer_value}
use Rattle.otp_tool.specs.{Answers.{HasVerdict, IsJudged, IsVerdictText}, Grammars.{IsFileOf, OnGrammar}}
use Rattle.otp_tool.specs.Findings.{FindsIn, ready}
use Rattle.otp_tool.specs.Outcomes.{Checks, HasReadFault, IsToldVerdict, IsWrittenBehind, MayRead, status_of}
use Rattle.otp_tool.specs.{Results.{IsNoResult, IsResult, text_widths}, Steps.{Change, IsOutcome}}
use Rattle.otp_tool.proofs.{DueLemmas.complete, FindingLemmas.{one_finding, same_grammar}}

-- ---- what is written

-- a text says a verdict that its bytes have
has_verdict : (verdict : Verdict) (g : GrammarValue) (bytes text : List ℕ)
    → IsVerdictText text_widths verdict g bytes text → HasVerdict g bytes verdict
has_verdict verdict g bytes text t = record {
  judged = record {
    within = t.within;
    answer = t.answer;
    problem = t.problem;
    reading = t.reading;
    is_verdict = t.is_verdict;
  };
  settled = t.settled;
}

says_done : (command : Command) (g : GrammarValue) (second text : List ℕ) → Checks command
    → IsResult command g second text → HasVerdict g second Yes
says_done (check name answer) g second text c r = has_verdict _ g _ _ r
says_done other g second text c r = absurd c

says_no : (command : Command) (g : GrammarValue) (second text : List ℕ) → Checks command
    → IsNoResult command g second text → (fault : Fault) × HasVerdict g second (Not fault)
says_no (check name answer) g second text c r = (r.0, has_verdict _ g _ _ r.1)
says_no other g second text c r = absurd c

module _ (words : List (List ℕ)) (c : Change) (verdict : Verdict) (told : IsToldVerdict words c.held verdict) where
  abbrev checking : Command
  checking = told.accepts.command

  -- what is written is for bytes that the shelf may hold
  of_written : (writes : Command → GrammarValue → List ℕ → List ℕ → Type 0) (taken : List ℕ → Type 0) (status : Status)
      → ((g : GrammarValue) (bytes second text : List ℕ) → IsFileOf bytes g
      → MayRead words c.held checking bytes second → writes checking g second text → status ≡ status_of verdict)
      → IsWrittenBehind words c.held writes taken → status ≡ status_of verdict
  of_written writes taken status says w =
      let same = one_command _ _ _ w.reads.are told.accepts.are in
      let reads = rw same at w.reads in
      let result = rw same at w.result in
      says result.grammar w.bytes w.second w.text result.file reads result.fact

  of_done : (s : Status) → s ≡ Done → IsOutcome words c s → Done ≡ status_of verdict
  of_done s e o = of_written _ _ _ (λ g bytes second text file reads r. told.only bytes second reads Yes
      (record { grammar = g; file = file; fact = says_done _ g _ _ told.checks r })) (rw e at o).1

  of_no : (s : Status) → s ≡ No → IsOutcome words c s → No ≡ status_of verdict
  of_no s e o = of_written _ _ No (λ g bytes second text file reads r.
      let v = says_no _ g _ _ told.checks r in
      told.only bytes second reads (Not v.0) (record { grammar = g; file = file; fact = v.1 })) (rw e at o).1

  by_end : (s : Status) → IsOutcome words c s → (s ≡ Done) ⊎ ((s ≡ No) ⊎ (s ≡ NoMemory))
      → (s ≡ status_of verdict) ⊎ (s ≡ NoMemory)
  by_end s o (inl e) = inl (e ∙ of_done s e o)
  by_end s o (inr (inl e)) = inl (e ∙ of_no s e o)
  by_end s o (inr (inr e)) = inr e

pub settled : (words : List (List ℕ)) (c : Change) (s : Status) → IsOutcome words c s → (verdict : Verdict)
    → IsToldVerdict words c.held verdict
    → ((word : ℕ) → HasReadFault words c.held c.faults_before c.faults_after word → ⊥)
    → (Rose c.taking.before c.taking.after → ⊥) → (s ≡ status_of verdict) ⊎ (s ≡ NoMemory)
settled words c s o verdict told unread unwritten =
    by_end _ c _ told s o (complete _ c s o told.accepts unread unwritten)

-- ---- what is told

-- an answer that is judged is one that is read
is_ready : (command : Command) (g : GrammarValue) (second : List ℕ) (verdict : Verdict) → Checks command
    → IsJudged g second verdict → FindsIn command g second ready
is_ready (check name answer) g second verdict c j = (
  answer_value j.reading.shape j.answer,
  record {
    within = j.within;
    shape = j.reading.shape;
    of_grammar = j.reading.of_grammar;
    is = j.reading.read;
  },
)
is_ready other g second verdict c j = absurd c

-- bytes have no verdict of another status than one on an answer that they are read as
one_status : (g : GrammarValue) (bytes : List ℕ) (verdict other : Verdict) → IsJudged g bytes verdict
    → HasVerdict g bytes other → status_of other ≡ status_of verdict
one_status g bytes Yes Yes j h = refl
one_status g bytes (Not fault) (Not other) j h = refl
one_status g bytes Yes (Not fault) j h =
    let first = h.settled j.answer j.problem j.reading in
    absurd (j.is_verdict fault first.place first.is)
one_status g bytes (Not fault) Yes j h =
    absurd (h.settled j.answer j.problem j.reading fault j.is_verdict.place j.is_verdict.is)

pub told_by_verdict : (words : List (List ℕ)) (held : List ℕ → Option (List ℕ)) (command : Command)
    (verdict : Verdict) → IsCommand words command → Checks command
    → ((bytes second : List ℕ) → MayRead words held command bytes second
    → OnGrammar (λ g. IsJudged g second verdict) bytes) → IsToldVerdict words held verdict
told_by_verdict words held command verdict are checks judges = record {
  accepts = record {
    command = command;
    are = are;
    only = λ bytes second reads other found.
        let j = judges bytes second reads in
        one_finding command bytes second other ready found (record {
          grammar = j.grammar;
          file = j.file;
          fact = is_ready command j.grammar second verdict checks j.fact;
        });
  };
  checks = checks;
  only = λ bytes second reads other h.
      let j = judges bytes second reads in
      let same = same_grammar bytes h.grammar j.grammar h.file j.file in
      one_status j.grammar second verdict other j.fact (subst (λ g. HasVerdict g second other) same h.fact);
}
