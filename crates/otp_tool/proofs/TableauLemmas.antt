-- What `tableau` does with a grammar, a form and a rows file.
use Rattle.std.proofs.Common.{◌≡◌, inl, inr, ℕ, ◌≤◌, List, length, All, Some, Result, refl, sym, subst, arith}
use Rattle.std.proofs.lemmas.List.Elements.{All-weaker}
use Rattle.std.specs.Str.Lines.{lines}
use Rattle.outside.specs.{Writers.Puts, declared.sink.WriteErr.WriteErr, declared.sink.Sink.Ghosts as SinkGhosts}
use Rattle.outside.specs.declared.shelf.Shelf.{Ghosts as ShelfGhosts}
use Rattle.tier_core.specs.declared.sym.Sym.{Sym}
use Rattle.grammar_reader.specs.{declared.grammar.Grammar.Grammar, Grammars.value_of}
use Rattle.violation.specs.{Candidates.IsCandidate, Problems.{Problem, problem_from}}
use Rattle.answer_text.specs.{declared.answer.Answer.Answer, Right.IsRight}
use Rattle.tableau.specs.{declared.table.Tableau.Tableau, Layout.tableau_text, Rows.AreRowsOf}
use Rattle.tableau.specs.Tableaux.{IsTableauOf, names_seen}
use Rattle.command_line.specs.declared.status.Status.{Status}
use Rattle.otp_tool.specs.{Files.{IsHeld, rows_file}, Grammars.IsAsked, Findings.{FindsForTableau, HasForm, ready}}
use Rattle.otp_tool.specs.{Results.IsTableauText, Steps.{Change, IsMadeTableau, IsRefusal, IsSecondRefusal}}
use Rattle.otp_tool.specs.Steps.{IsTableauWork, RefusesBudget, IsUntouched, RefusesFile, RefusesForm, RefusesRows}
use Rattle.otp_tool.specs.Steps.{change_of, write_status}
use Rattle.otp_tool.proofs.{GrammarLemmas.same_names, RefusalLemmas.{form_for_tableau, refusal_weaker}}
use Rattle.otp_tool.proofs.{RefusalLemmas.{refused_before, rows_for_tableau, second_refused}, StepLemmas.written}

-- ---- making a tableau

module _ (g : Grammar) (u : List (List Sym)) where
  abbrev problem : Problem
  problem = problem_from g.tiers g.constraints.items u

  abbrev called : List (List ℕ)
  called = names_seen g.constraints.items

  module _ (answer : Answer) (right : IsRight problem answer) where
    -- what is asked by the form of the answer is the same
    abbrev answered : Problem
    answered = problem_from g.tiers g.constraints.items answer.form

    pub right_for : IsRight answered answer
    right_for = subst (λ v. IsRight (problem_from g.tiers g.constraints.items v) answer) (sym right.form) right

    pub candidates_for : (rows : List (List (List Sym))) → All (IsCandidate problem) rows
        → All (IsCandidate answered) rows
    candidates_for rows a = rw right.form a

    pub tableau_for : (rows : List (List (List Sym))) (made : Tableau) → IsTableauOf called answered rows made
        → IsTableauOf called problem rows made
    tableau_for rows made t = rw right.form at t

  module _ (budget : ℕ) (bytes : List ℕ) where
    pub no_rows_made : (s : Status) → IsRefusal (RefusesFile problem bytes) s
        → IsRefusal (RefusesRows problem budget bytes) s
    no_rows_made s r = refusal_weaker (RefusesFile problem bytes) (RefusesRows problem budget bytes) (λ x f. inl f) s r

    pub not_within : (rows : List (List (List Sym))) → length bytes ≤ 4194304 → AreRowsOf problem (lines bytes) rows
        → (s : Status)
        → IsRefusal (RefusesBudget problem budget) s → IsRefusal (RefusesRows problem budget bytes) s
    not_within rows w a s r =
        refusal_weaker (RefusesBudget problem budget) (RefusesRows problem budget bytes)
        (λ x o. inr (record { within = w; rows = rows; are = a }, o)) s r

pub few_columns : (rows : List (List (List Sym))) → All (λ T. length T ≤ 4096) rows → All (λ T. length T ≤ 65536) rows
few_columns rows a = All-weaker (λ T. length T ≤ 4096) (λ T. length T ≤ 65536) (λ T l. omega (arith, l)) rows a

-- ---- the command

module _ (g : Grammar) (form rows : List ℕ) (budget : ℕ) where
  abbrev Work : Change → Status → Type 0
  Work c s = IsTableauWork (value_of g) form rows budget c s

  pub no_form_read : (c : Change) → IsUntouched c.taking → (s : Status)
      → IsRefusal (RefusesForm (value_of g) form) s → Work c s
  no_form_read c t s r = refused_before _ _ _ c t _ _ (form_for_tableau (value_of g) form budget) s r

  module _ (u : List (List Sym)) (a : IsAsked (value_of g) form (problem g u)) where
    has_form : HasForm (value_of g) form
    has_form = (u, a.form)

    pub no_file_loaded : (c : Change) → IsUntouched c.taking → (s : Status)
        → IsSecondRefusal (rows_file rows) (c.held rows) (c.faults_before rows) (c.faults_after rows) s → Work c s
    no_file_loaded c t s r = second_refused _ _ _ c t _ has_form (λ bytes l. (refl, (has_form, l))) s r

    module _ (bytes : List ℕ) (within : length bytes ≤ 4194304) where
      pub no_tableau : (c : Change) → IsHeld (c.held rows) bytes → IsUntouched c.taking → (s : Status)
          → IsRefusal (RefusesRows (problem g u) budget bytes) s → Work c s
      no_tableau c h t s r = inr (record {
        bytes = bytes;
        holds = h;
        step = inl (
          refusal_weaker _ _ (rows_for_tableau _ _ _ _ _ a) s r,
          t,
        );
      })

      module _ (made : Tableau) (m : IsMadeTableau (called g u) (problem g u) budget bytes made) where
        is_ready : FindsForTableau (value_of g) form budget bytes ready
        is_ready = record {
          problem = problem g u;
          is_asked = a;
          fact = (record { within = within; rows = m.rows; are = m.read }, m.within);
        }

        is_text : IsTableauText (value_of g) form bytes (tableau_text made)
        is_text = record {
          problem = problem g u;
          is_asked = a;
          rows = m.rows;
          read = m.read;
          tableau = made;
          is_tableau = rw (same_names g) m.is_tableau;
          written = refl;
        }

        pub tableau_written : {F O A : Type 0} (shelf : ShelfGhosts F) (sink : SinkGhosts O) (from to : F) (old new : O)
            → IsHeld (shelf.held from rows) bytes
            → (r : Result A WriteErr) → Puts sink old new (tableau_text made) r → (s : Status) → s ≡ write_status r
            → Work (change_of shelf sink from to old new) s
        tableau_written shelf sink from to old new h r p s e = inr (record {
          bytes = bytes;
          holds = h;
          step = written _ _ is_text (FindsForTableau (value_of g) form budget bytes) is_ready r p s e;
        })
