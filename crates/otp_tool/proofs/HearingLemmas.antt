-- What `comprehend` does with a grammar, a surface and a lexicon file.
use Rattle.std.proofs.Common.{◌≡◌, inl, inr, ℕ, ◌≤◌, List, length, Some, Result, refl, ap, sym, subst}
use Rattle.std.proofs.lemmas.Simd.{map-map}
use Rattle.outside.specs.{Writers.Puts, declared.sink.WriteErr.WriteErr, declared.sink.Sink.Ghosts as SinkGhosts}
use Rattle.outside.specs.declared.shelf.Shelf.{Ghosts as ShelfGhosts}
use Rattle.tier_core.specs.{declared.sym.Sym.Sym, Tiers.Tiers, Tables.tiers_of_table}
use Rattle.timeline_text.specs.{declared.form_err.FormErr.FormErr, Texts.IsTextOf, Causes.IsCause}
use Rattle.grammar_reader.specs.{declared.grammar.Grammar.Grammar, Grammars.value_of}
use Rattle.violation.specs.Problems.{Problem, problem_from}
use Rattle.lexicon.specs.{declared.entry.Entry.Entry, declared.lex_err.LexErr.LexErr}
use Rattle.lexicon.specs.{Entries.{LexicalEntry, names_of as names_in}, Lexicons.{IsLexicon, IsLexiconCause}}
use Rattle.lexicon.specs.Seen.{entries_seen, entry_seen}
use Rattle.comprehend.specs.{declared.hit.Hit.Hit, Hears.{AreEntriesWithin, Hears, forms_of}}
use Rattle.comprehend.specs.HitText.{hits_text, names_of}
use Rattle.command_line.specs.declared.status.Status.{Status}
use Rattle.otp_tool.specs.{Files.{IsHeld, lexicon_file}, Grammars.{AreAsked, overt_count}}
use Rattle.otp_tool.specs.Lexicons.{HasSurfaceWord, IsLexiconFile, IsSurfaceOf, forms_in}
use Rattle.otp_tool.specs.{Findings.{FindsForHearing, no_form, no_lexicon, ready}, Results.IsHeardText}
use Rattle.otp_tool.specs.Steps.{Change, IsHearingWork, IsRefusal, IsSecondRefusal, RefusesEntry, RefusesLexicon}
use Rattle.otp_tool.specs.Steps.{IsUntouched, RefusesSurface, change_of, write_status}
use Rattle.otp_tool.proofs.GrammarLemmas.{same_requirements, same_tiers}
use Rattle.otp_tool.proofs.RefusalLemmas.{entry_for_hearing, lexicon_for_hearing, refusal_weaker, refused_before}
use Rattle.otp_tool.proofs.{RefusalLemmas.{second_refused, surface_for_hearing}, StepLemmas.written}

-- ---- reading

module _ (g : Grammar) where
  asks_all : AreAsked (value_of g) (problem_from g.tiers g.constraints.items)
  asks_all = record {
    tiers = λ u. sym (same_tiers g);
    constraints = λ u. sym (same_requirements g);
    form = λ u. refl;
  }

  same_overt : overt_count (value_of g) ≡ length (tiers_of_table g.tiers).overt
  same_overt = ap (λ (tiers : Tiers). length tiers.overt) (same_tiers g)

  module _ (word : List ℕ) where
    pub is_read : (s : List (List Sym)) → IsTextOf (length (tiers_of_table g.tiers).overt) 64 word s
        → IsSurfaceOf (value_of g) word s
    is_read s t = rw same_overt t

    pub refused_surface : (cause : FormErr) → IsCause (length (tiers_of_table g.tiers).overt) 64 word cause
        → RefusesSurface (value_of g) word (no_form 3 cause)
    refused_surface cause r = record {
      value = cause;
      is = refl;
      fact = rw same_overt r;
    }

  module _ (bytes : List ℕ) (within : length bytes ≤ 4194304) where
    pub is_lexicon : (entries : List LexicalEntry)
        → IsLexicon (length (tiers_of_table g.tiers).input) g.letters.items bytes entries
        → IsLexiconFile (value_of g) bytes entries
    is_lexicon entries l = record {
      within = within;
      are = subst (λ (tiers : Tiers). IsLexicon (length tiers.input) g.letters.items bytes entries) (sym (same_tiers g))
          l;
    }

    pub refused_lexicon : (cause : LexErr)
        → IsLexiconCause (length (tiers_of_table g.tiers).input) g.letters.items bytes cause
        → RefusesLexicon (value_of g) bytes (no_lexicon cause)
    refused_lexicon cause r = record {
      value = cause;
      is = refl;
      fact = record {
        within = within;
        refused = subst (λ (tiers : Tiers). IsLexiconCause (length tiers.input) g.letters.items bytes cause)
            (sym (same_tiers g)) r;
      };
    }

-- ---- entries as the code has them

same_forms : (entries : List Entry) → forms_of entries ≡ forms_in (entries_seen entries)
same_forms entries = sym (map-map (λ (e : LexicalEntry). e.form) entry_seen entries)

same_names : (entries : List Entry) → names_of entries ≡ names_in (entries_seen entries)
same_names entries = sym (map-map (λ (e : LexicalEntry). e.name) entry_seen entries)

-- ---- the command

module _ (g : Grammar) (surface lexicon : List ℕ) (budget : ℕ) where
  abbrev Work : Change → Status → Type 0
  Work c s = IsHearingWork (value_of g) lexicon surface budget c s

  pub no_surface : (c : Change) → IsUntouched c.taking → (s : Status)
      → IsRefusal (RefusesSurface (value_of g) surface) s → Work c s
  no_surface c t s r = refused_before _ _ _ c t _ _ (surface_for_hearing (value_of g) surface budget) s r

  module _ (heard : List (List Sym)) (read : IsSurfaceOf (value_of g) surface heard) where
    pub no_lexicon_loaded : (c : Change) → IsUntouched c.taking → (s : Status)
        → IsSecondRefusal (lexicon_file lexicon) (c.held lexicon) (c.faults_before lexicon) (c.faults_after lexicon) s
        → Work c s
    no_lexicon_loaded c t s r = second_refused _ _ _ c t _ (heard, read) (λ bytes l. (refl, ((heard, read), l))) s r

    module _ (bytes : List ℕ) where
      pub no_lexicon_read : (c : Change) → IsHeld (c.held lexicon) bytes → IsUntouched c.taking → (s : Status)
          → IsRefusal (RefusesLexicon (value_of g) bytes) s → Work c s
      no_lexicon_read c h t s r = inr (record {
        bytes = bytes;
        holds = h;
        step = inl (
          refusal_weaker _ _ (lexicon_for_hearing _ _ _ _ _ read) s r,
          t,
        );
      })

      module _ (entries : List Entry) (file : IsLexiconFile (value_of g) bytes (entries_seen entries)) where
        abbrev ask : List (List Sym) → Problem
        ask = problem_from g.tiers g.constraints.items

        pub no_entry : (c : Change) → IsHeld (c.held lexicon) bytes → IsUntouched c.taking → (s : Status)
            → IsRefusal (RefusesEntry ask (forms_of entries) budget) s → Work c s
        no_entry c h t s r = inr (record {
          bytes = bytes;
          holds = h;
          step = inl (
            refusal_weaker _ _ (entry_for_hearing _ _ _ _ _ read _ (asks_all g) _ file) s (rw (same_forms entries)
                at r),
            t,
          );
        })

        module _ (hits : List Hit) (hears : Hears ask (forms_of entries) heard hits)
            (within : AreEntriesWithin ask (forms_of entries) budget) where
          is_ready : FindsForHearing (value_of g) surface budget bytes ready
          is_ready = record {
            ask = ask;
            are_asked = asks_all g;
            surface = heard;
            read = read;
            entries = entries_seen entries;
            file = file;
            fact = rw (same_forms entries) at within;
          }

          is_text : IsHeardText (value_of g) surface bytes (hits_text (names_of entries) hits)
          is_text = record {
            ask = ask;
            are_asked = asks_all g;
            surface = heard;
            read = read;
            entries = entries_seen entries;
            file = file;
            fact = record {
              hits = hits;
              hears = rw (same_forms entries) at hears;
              written = ap (λ names. hits_text names hits) (same_names _);
            };
          }

          pub hits_written : {F O A : Type 0} (shelf : ShelfGhosts F) (sink : SinkGhosts O) (from to : F) (old new : O)
              → IsHeld (shelf.held from lexicon) bytes
              → (r : Result A WriteErr) → Puts sink old new (hits_text (names_of entries) hits) r
              → (s : Status) → s ≡ write_status r → Work (change_of shelf sink from to old new) s
          hits_written shelf sink from to old new h r p s e = inr (record {
            bytes = bytes;
            holds = h;
            step = written _ _ is_text (FindsForHearing (value_of g) surface budget bytes) is_ready r p s e;
          })
