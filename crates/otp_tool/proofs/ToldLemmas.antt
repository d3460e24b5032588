-- What the bytes of a grammar's file tell of a command's findings.
use Rattle.std.proofs.{Common.{◌≡◌, ℕ, List, [], ◌∷◌, Option, Some, refl, sym, ◌∙◌, subst}, lemmas.Simd.map-map}
use Rattle.std.specs.{Prelude.String, declared.alloc.Global.Global}
use Rattle.tier_core.specs.declared.sym.Sym.{Sym}
use Rattle.grammar_reader.specs.Requirements.{requirement_seen, requirements_of, requirements_seen}
use Rattle.grammar_reader.specs.Values.{GrammarValue}
use Rattle.violation.specs.Problems.{Problem}
use Rattle.cert_check.specs.Seen.{AreAskedAlike}
use Rattle.ranked_gen.specs.Budgets.{AreAllWithin, IsFirstOver}
use Rattle.form_reader.specs.Forms.{IsReadAs}
use Rattle.command_line.specs.Commands.{Command, IsCommand, canon, score, generate, show, tableau, once, comprehend}
use Rattle.command_line.specs.{Commands.{check, sample, named_grammar}, Words.words_of}
use Rattle.otp_tool.specs.{Asked.{TellsProblem, constraint_of, problem_of}, Files.{IsHeld, grammar_told}}
use Rattle.otp_tool.specs.Findings.{Finding, Finds, FindsForAnswer, FindsIn, over_budget, ready}
use Rattle.otp_tool.specs.{Grammars.{AreAsked, IsAsked, IsFileOf, grammar_inputs}, Outcomes.{IsTold, MayRead}}
use Rattle.otp_tool.proofs.{AnswerFindings.{only_over, only_within}, FindingLemmas.{one_finding, only_in}}

-- ---- problems

module _ (name : String Global) (g : GrammarValue) where
  required : (u : List (List Sym)) → requirements_seen (problem_of name g u).constraints ≡ requirements_of g
  required u = map-map requirement_seen (constraint_of name) g.constraints

  pub is_asked : (word : List ℕ) (u : List (List Sym)) → IsReadAs (grammar_inputs g) g.letters word u
      → IsAsked g word (problem_of name g u)
  is_asked word u r = record { tiers = refl; constraints = required u; form = r }

  pub are_asked : AreAsked g (problem_of name g)
  are_asked = record { tiers = λ u. refl; constraints = required; form = λ u. refl }

  pub asked_alike : (word : List ℕ) (problem : Problem) → IsAsked g word problem
      → AreAskedAlike problem (problem_of name g problem.form)
  asked_alike word problem a = record {
    tiers = a.tiers;
    constraints = a.constraints ∙ sym (required problem.form);
    form = refl;
  }

-- ---- names

no_words : (word : List ℕ) (words : List (List ℕ)) → [] ≡ word ∷ words → ⊥
no_words word words e = cc

-- a command has words
never_none : (command : Command) → IsCommand [] command → ⊥
never_none (canon g) e = no_words _ _ e
never_none (score g t) e = no_words _ _ e
never_none (generate g f b) e = no_words _ _ e.are
never_none (show g f b) e = no_words _ _ e.are
never_none (tableau g f r b) e = no_words _ _ e.are
never_none (once g f b) e = no_words _ _ e.are
never_none (comprehend g l s b) e = no_words _ _ e.are
never_none (check g a) e = no_words _ _ e
never_none (sample n) e = no_words _ _ e.are

-- so there is a name
pub some_name : (words : List (String Global)) (command : Command) → IsCommand (words_of words) command → String Global
some_name [] command c = absurd (never_none _ c)
some_name (name ∷ words) command c = name

-- ---- what is told

pub told_by_finding : (words : List (List ℕ)) (held : List ℕ → Option (List ℕ)) (command : Command)
    (finding : Finding) → IsCommand words command
    → ((bytes second : List ℕ) → MayRead words held command bytes second → Finds command bytes second finding)
    → IsTold words held finding
told_by_finding words held command finding are finds = record {
  command = command;
  are = are;
  only = λ bytes second reads other f. one_finding command bytes second other finding f (finds bytes second reads);
}

-- a command finds one thing in the grammar of a file that is told
told_in : (words : List (List ℕ)) (held : List ℕ → Option (List ℕ)) (command : Command) (file bytes : List ℕ)
    (g : GrammarValue) (finding : Finding) → IsCommand words command → named_grammar command ≡ Some file
    → held file ≡ Some bytes → IsFileOf bytes g
    → ((second : List ℕ) (other : Finding) → FindsIn command g second other → other ≡ finding)
    → IsTold words held finding
told_in words held command file bytes g finding are named told is only = record {
  command = command;
  are = are;
  only = λ read second reads other f.
      let at : IsHeld (held file) read =
      subst (λ (o : Option (List ℕ)). IsHeld (grammar_told held o) read) named reads.holds in
      let same : read ≡ bytes = subst (λ (o : Option (List ℕ)). IsHeld o read) told at in
      only_in command bytes second g is finding (only second) other
      (subst (λ (b : List ℕ). Finds command b second other) same f);
}

module _ (words : List (String Global)) (held : List ℕ → Option (List ℕ)) (file form : List ℕ) (budget : ℕ)
    (g : GrammarValue) (u : List (List Sym)) (tells : TellsProblem held file form g u) (command : Command)
    (are : IsCommand (words_of words) command) (named : named_grammar command ≡ Some file)
    (finds : (second : List ℕ) (x : Finding) → FindsIn command g second x → FindsForAnswer g form budget x) where
  name : String Global
  name = some_name words command are

  asks : IsAsked g form (problem_of name g u)
  asks = is_asked name g form u tells.form

  pub told_ready : ((name : String Global) → AreAllWithin (problem_of name g u) budget)
      → IsTold (words_of words) held ready
  told_ready within = told_in (words_of words) held command file tells.bytes g ready are named tells.told tells.grammar
      (λ second other f. only_within g form budget
      (record { problem = problem_of name g u; is_asked = asks; fact = within name }) other (finds second other f))

  pub told_over : (stage : ℕ) → ((name : String Global) → IsFirstOver (problem_of name g u) budget stage)
      → IsTold (words_of words) held (over_budget 0 stage)
  told_over stage over = told_in (words_of words) held command file tells.bytes g (over_budget 0 stage) are named
      tells.told tells.grammar
      (λ second other f. only_over g form budget stage
      (record { problem = problem_of name g u; is_asked = asks; over = over name }) other (finds second other f))
