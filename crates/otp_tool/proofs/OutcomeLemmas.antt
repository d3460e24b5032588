-- From the steps of a command to what stands behind its status.
use Rattle.std.proofs.Common.{◌≡◌, ◌⊎◌, inl, inr, ℕ, zero, suc, ◌<◌, ◌≤◌, List, [], ◌∷◌, length, Option, Some, None}
use Rattle.std.proofs.Common.{IfSome, refl, ap, sym, subst, arith}
use Rattle.std.specs.Option.{option_map}
use Rattle.outside.specs.{Faults.Rose, Sent.{append_if_seen, HasSentPart}}
use Rattle.command_line.specs.{declared.status.Status.Status, declared.status.Status.TheVariants.{Done, No, Usage}}
use Rattle.command_line.specs.declared.status.Status.TheVariants.{GrammarRefused, FormRefused, LexiconRefused}
use Rattle.command_line.specs.declared.status.Status.TheVariants.{AnswerRefused, Budget, ReadFault, WriteFault}
use Rattle.command_line.specs.declared.status.Status.TheVariants.{NoMemory, RowsRefused, TooLong}
use Rattle.command_line.specs.Commands.{Command, IsCommand, named_grammar}
use Rattle.grammar_reader.specs.Values.{GrammarValue}
use Rattle.otp_tool.specs.Files.{IsHeld, IsSecondHeld, NamedFile, faults_of, grammar_told, second_file}
use Rattle.otp_tool.specs.{Grammars.OnGrammar, Findings.{Finding, FindsIn, Finds, ReachesSecondFile, long_file}}
use Rattle.otp_tool.specs.Findings.{no_grammar, no_form, long_second, no_rows, no_lexicon, no_answer, over_budget}
use Rattle.otp_tool.specs.{Findings.ready, Results.{IsNoResult, IsResult, IsAnyResult}}
use Rattle.otp_tool.specs.{Outcomes.{HasReadFault, IsBehind, IsWrittenBehind, MayRead}, Steps.{Change, IsWriteStatus}}
use Rattle.otp_tool.specs.Steps.{IsLoadRefusal, IsLoaded, IsNoEnd, IsNotRead, IsOutcome, IsPartTaken, IsRefusal}
use Rattle.otp_tool.specs.Steps.{IsStep, IsUntouched, IsWork, IsWorkOf, SinkChange}

-- so many bytes
abbrev zeros : ℕ → List ℕ
zeros zero = []
zeros (suc n) = 0 ∷ zeros n

length_zeros : (n : ℕ) → length (zeros n) ≡ n
length_zeros zero = refl
length_zeros (suc n) = let e = length_zeros n in omega (arith, e)

-- bytes that may be held, and are too long
pub record IsLong (held : Option (List ℕ)) (limit : ℕ) : Type 0 where
  pub bytes : List ℕ
  pub holds : IsHeld held bytes
  pub long : limit < length bytes

pub long_held : (held : Option (List ℕ)) (limit : ℕ) → IfSome held (λ text. limit < length text) → IsLong held limit
long_held None limit l = record {
  bytes = zeros (suc limit);
  holds = tt;
  long = rw (length_zeros (suc limit)) (omega arith);
}
long_held (Some text) limit l = record { bytes = text; holds = refl; long = l }

-- some bytes that may be held
pub some_held : (held : Option (List ℕ)) → (bytes : List ℕ) × IsHeld held bytes
some_held None = ([], tt)
some_held (Some text) = (text, refl)

pub some_second : (held : List ℕ → Option (List ℕ)) (second : Option NamedFile)
    → (bytes : List ℕ) × IsSecondHeld held second bytes
some_second held None = ([], tt)
some_second held (Some file) = some_held _

pub nothing_taken : (t : SinkChange) → IsUntouched t → t.new ≡ t.old
nothing_taken t e = ap (λ (now : Option (List ℕ) × ℕ). now.0) e

-- ---- a shelf that has loaded one file before

pub rose_before : (a b c : ℕ) → a ≤ b → Rose b c → Rose a c
rose_before a b c l r = omega (arith, l, r)

held_before : (now old : Option (List ℕ)) (bytes : List ℕ) → now ≡ old → IsHeld now bytes → IsHeld old bytes
held_before now old bytes e h = rw e at h

second_before : (now old : List ℕ → Option (List ℕ)) → ((name : List ℕ) → now name ≡ old name)
    → (second : Option NamedFile) (bytes : List ℕ)
    → IsSecondHeld now second bytes → IsSecondHeld old second bytes
second_before now old e None bytes h = tt
second_before now old e (Some file) bytes h = held_before _ _ _ (e file.name) h

-- the work of a command, from before the load of its grammar on
module _ (held : List ℕ → Option (List ℕ)) (before : List ℕ → ℕ) (c : Change) (same : (name : List ℕ)
    → c.held name ≡ held name) (less : (name : List ℕ) → before name ≤ c.faults_before name) where
  abbrev earlier : Change
  earlier = record { held = held; faults_before = before; faults_after = c.faults_after; taking = c.taking }

  pub work_before : (second : Option NamedFile) (reaches : Type 0) (finds : List ℕ → Finding → Type 0) (writes : List ℕ
      → List ℕ → Type 0) (s : Status)
      → IsWork second reaches finds writes c s → IsWork second reaches finds writes earlier s
  work_before second reaches finds writes s (inl n) = inl (record {
    file = n.file;
    is_second = n.is_second;
    reached = n.reached;
    rose = rose_before _ _ _ (less n.file.name) n.rose;
    answer = n.answer;
    untouched = n.untouched;
  })
  work_before second reaches finds writes s (inr w) = inr (record {
    bytes = w.bytes;
    holds = second_before _ _ same _ _ w.holds;
    step = w.step;
  })

  pub work_of_before : (command : Command) (g : GrammarValue) (s : Status) → IsWorkOf command g c s
      → IsWorkOf command g earlier s
  work_of_before command g s (inl w) = inl (work_before _ _ _ _ s w)
  work_of_before command g s (inr n) = inr (record {
    bytes = n.bytes;
    holds = second_before _ _ same _ _ n.holds;
    found = n.found;
    end = n.end;
  })

module _ (words : List (List ℕ)) (c : Change) (command : Command) (are : IsCommand words command) where
  -- ---- from loading

  -- before a second file is loaded
  found_first : (x : Finding) (bytes : List ℕ) → IsHeld (grammar_told c.held (named_grammar command)) bytes
      → ((second : List ℕ) → Finds command bytes second x) → IsBehind words c.held x
  found_first x bytes h f =
      let s = some_second c.held (second_file command) in record {
        command = command;
        bytes = bytes;
        second = s.0;
        reads = record { are = are; holds = h; holds_second = s.1 };
        finds = f s.0;
      }

  -- the file of a grammar has a fault only if there is one
  grammar_fault : (name : Option (List ℕ)) → named_grammar command ≡ name → (word : ℕ) → word ≡ 1
      → Rose (faults_of c.faults_before name) (faults_of c.faults_after name)
      → HasReadFault words c.held c.faults_before c.faults_after word
  grammar_fault None e word w rose = absurd (omega (arith, rose))
  grammar_fault (Some name) e word w rose = record {
    command = command;
    are = are;
    file = record { word = 1; name = name; limit = 65536 };
    loads = inl (ap (option_map (λ (n : List ℕ). record { word = 1; name = n; limit = 65536 })) e);
    by_word = w;
    rose = rose;
  }

  pub by_load : IsUntouched c.taking → (s : Status)
      → IsLoadRefusal (grammar_told c.held (named_grammar command)) (faults_of c.faults_before (named_grammar command))
      (faults_of c.faults_after (named_grammar command)) s → IsOutcome words c s
  by_load t (GrammarRefused word line cause) r = (
    r.0,
    found_first _ _ r.1.holds (λ second. (r.1.within, r.1.refused)),
    t,
  )
  by_load t (ReadFault word) r = (grammar_fault _ refl _ r.0 r.1, t)
  by_load t NoMemory r = ((command, are), inl (nothing_taken _ t))
  by_load t (TooLong word) r =
      let l = long_held _ _ r.1 in
      (inl (r.0, found_first _ _ l.holds (λ second. l.long)), t)
  by_load t other r = absurd r

  module _ (g : GrammarValue) (l : IsLoaded (grammar_told c.held (named_grammar command)) g) where
    on : (P : GrammarValue → Type 0) → P g → OnGrammar P l.bytes
    on P p = record { grammar = g; file = l.file; fact = p }

    module _ (second : List ℕ) (holds : IsSecondHeld c.held (second_file command) second) where
      reads : MayRead words c.held command l.bytes second
      reads = record { are = are; holds = l.holds; holds_second = holds }

      behind : (x : Finding) → Finds command l.bytes second x → IsBehind words c.held x
      behind x f = record { command = command; bytes = l.bytes; second = second; reads = reads; finds = f }

      is_ready : FindsIn command g second ready → IsBehind words c.held ready
      is_ready f = behind _ (on _ f)

      -- ---- from a refusal

      by_refusal : IsUntouched c.taking → (s : Status) → IsRefusal (FindsIn command g second) s
          → IsOutcome words c s
      by_refusal t (FormRefused word cause) r = (behind _ (on _ r), t)
      by_refusal t (LexiconRefused word cause) r = (r.0, behind _ (on _ r.1), t)
      by_refusal t (AnswerRefused word line cause) r = (r.0, behind _ (on _ r.1), t)
      by_refusal t (Budget entry stage) r = (behind _ (on _ r), t)
      by_refusal t NoMemory r = ((command, are), inl (nothing_taken _ t))
      by_refusal t (RowsRefused word row cause) r = (r.0, behind _ (on _ r.1), t)
      by_refusal t (TooLong word) r = (inr (behind _ (on _ r)), t)
      by_refusal t other r = absurd r

      -- ---- from writing

      written : (writes : Command → GrammarValue → List ℕ → List ℕ → Type 0) (P : List ℕ → Type 0) (text : List ℕ)
          → writes command g second text → P text → IsWrittenBehind words c.held writes P
      written writes P text r p = record {
        command = command;
        bytes = l.bytes;
        second = second;
        reads = reads;
        text = text;
        result = on _ r;
        fact = p;
      }

      part : IsPartTaken (IsAnyResult command g second) c.taking
          → IsWrittenBehind words c.held IsAnyResult (λ text. HasSentPart c.taking.old text c.taking.new)
      part p = written _ _ _ p.is p.part

      -- a front of a text of one kind is one of either
      plain_part : IsPartTaken (IsResult command g second) c.taking
          → IsPartTaken (IsAnyResult command g second) c.taking
      plain_part p = record { text = p.text; is = inl p.is; part = p.part }

      no_part : IsPartTaken (IsNoResult command g second) c.taking → IsPartTaken (IsAnyResult command g second) c.taking
      no_part p = record { text = p.text; is = inr p.is; part = p.part }

      memory : (writes : List ℕ → Type 0) → (IsPartTaken writes c.taking → IsPartTaken (IsAnyResult command g second)
          c.taking)
          → (c.taking.new ≡ c.taking.old) ⊎ IsPartTaken writes c.taking
          → (c.taking.new ≡ c.taking.old)
          ⊎ IsWrittenBehind words c.held IsAnyResult (λ text. HasSentPart c.taking.old text c.taking.new)
      memory writes turn (inl e) = inl e
      memory writes turn (inr p) = inr (part (turn p))

      by_end : FindsIn command g second ready → (s : Status) → IsWriteStatus (IsResult command g second) c.taking s
          → IsOutcome words c s
      by_end f Done e = (
        is_ready f,
        written _ _ _ e.is e.taken,
      )
      by_end f WriteFault e = (is_ready f, part (plain_part e.0), e.1)
      by_end f NoMemory e = ((command, are), memory _ plain_part e)
      by_end f other e = absurd e

      by_no_end : FindsIn command g second ready → (s : Status) → IsNoEnd (IsNoResult command g second) c.taking s
          → IsOutcome words c s
      by_no_end f No e = (
        is_ready f,
        written _ _ _ e.is e.taken,
      )
      by_no_end f WriteFault e = (is_ready f, part (no_part e.0), e.1)
      by_no_end f NoMemory e = ((command, are), memory _ no_part e)
      by_no_end f other e = absurd e

      by_step : (s : Status) → IsStep (FindsIn command g second) (IsResult command g second) c.taking s
          → IsOutcome words c s
      by_step s (inl r) = by_refusal r.1 s r.0
      by_step s (inr e) = by_end e.0 s e.1

    -- ---- from a second file

    unread : (s : Status) → IsNotRead (second_file command) (ReachesSecondFile command g) c s → IsOutcome words c s
    unread s n = rw n.answer (
      record {
        command = command;
        are = are;
        file = n.file;
        loads = inr (
          n.is_second,
          record
              { bytes = l.bytes; holds = l.holds; accepts = on _ n.reached },
        );
        by_word = refl;
        rose = n.rose;
      },
      n.untouched,
    )

    pub by_work : (s : Status) → IsWorkOf command g c s → IsOutcome words c s
    by_work s (inl (inl n)) = unread s n
    by_work s (inl (inr w)) = by_step _ w.holds s w.step
    by_work s (inr n) = by_no_end _ n.holds n.found s n.end
