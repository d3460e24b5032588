-- Each grammar that is read is within the limits, with names that are names and are there once.
use Rattle.std.proofs.Common.{◌≡◌, ℕ, ◌+◌, ◌<◌, Bool, true, false, cond, not, List, [], ◌∷◌, length, take, drop}
use Rattle.std.proofs.Common.{Option, Some, None, option_map, option_and_then, Result, Ok, Err, codes, refl, ap}
use Rattle.std.proofs.{Common.{sym, ◌∙◌, subst, arith}, lemmas.List.Splits.length-slice_split}
use Rattle.std.specs.{List.{list_any, slice_split, position_or_len}, Str.bytes_eq}
use Rattle.tier_core.specs.{Tiers.{is_input, is_overt}, declared.constraint.Family.Family}
use Rattle.tier_core.specs.declared.constraint.Family.TheVariants.{Implication, Clash}
use Rattle.timeline_text.proofs.Searches.{by_test}
use Rattle.timeline_text.specs.Bytes.{lines_of}
use Rattle.grammar_reader.specs.Pieces.{parts_of, Lexeme, opens, closes, equals, clash, implies, word, lexeme_of}
use Rattle.grammar_reader.specs.Statements.{Statement, tier, letter, constraint, NamedEvent, each_some, word_of}
use Rattle.grammar_reader.specs.Statements.{is_the_word, is_header, is_sign, event_of, events_of, joined_by}
use Rattle.grammar_reader.specs.Statements.{sides_of, tier_kind_of, tier_line, letter_line, constraint_line}
use Rattle.grammar_reader.specs.{Statements.statement_of, Said.HasParts}
use Rattle.grammar_reader.specs.{Values.{GrammarValue, IsProperGrammar, IsGrammar}, Reading.{nothing, cause_of}}
use Rattle.grammar_reader.specs.Reading.{with_statement, after_cause, after_statement, some_grammar, after_lexemes}
use Rattle.grammar_reader.specs.Reading.{after_line, finish, go_on, after_lines, grammar_of, At}
use Rattle.grammar_reader.specs.declared.grammar_err.GrammarCause.{GrammarCause}
use Rattle.grammar_reader.specs.declared.grammar_err.GrammarCause.TheVariants.{NoInput, NoOvert}
use Rattle.grammar_reader.proofs.Lawful.{no_cause, tier_made, letter_made, constraint_made, nothing_made}

-- ---- what a line says has its parts

abbrev PartsOf : Option Statement → Type 0
PartsOf None = Unit {0}
PartsOf (Some s) = HasParts s

parts_test : (t : Bool) (o p : Option Statement) → PartsOf o → PartsOf p → PartsOf (cond t o p)
parts_test true o p h k = h
parts_test false o p h k = k

parts_kind : (name : List ℕ) (o : Option _) → PartsOf (option_map (tier name) o)
parts_kind name None = tt
parts_kind name (Some kind) = tt

parts_tier : (ls : List Lexeme) → PartsOf (tier_line ls)
parts_tier [] = tt
parts_tier (opens ∷ ls) = tt
parts_tier (closes ∷ ls) = tt
parts_tier (equals ∷ ls) = tt
parts_tier (clash ∷ ls) = tt
parts_tier (implies ∷ ls) = tt
parts_tier (word name ∷ []) = tt
parts_tier (word name ∷ opens ∷ ls) = tt
parts_tier (word name ∷ closes ∷ ls) = tt
parts_tier (word name ∷ equals ∷ ls) = tt
parts_tier (word name ∷ clash ∷ ls) = tt
parts_tier (word name ∷ implies ∷ ls) = tt
parts_tier (word name ∷ word kind ∷ []) = parts_kind name (tier_kind_of kind)
parts_tier (word name ∷ word kind ∷ l ∷ ls) = tt

parts_names : (x : List ℕ) (o : Option (List ℕ)) (r : Option (List (List ℕ)))
    → PartsOf (option_map (letter x) (option_and_then (λ y. option_map (λ ys. y ∷ ys) r) o))
parts_names x None r = tt
parts_names x (Some y) None = tt
parts_names x (Some y) (Some ys) = omega arith

parts_letter : (ls : List Lexeme) → PartsOf (letter_line ls)
parts_letter [] = tt
parts_letter (opens ∷ ls) = tt
parts_letter (closes ∷ ls) = tt
parts_letter (equals ∷ ls) = tt
parts_letter (clash ∷ ls) = tt
parts_letter (implies ∷ ls) = tt
parts_letter (word x ∷ []) = tt
parts_letter (word x ∷ opens ∷ ls) = tt
parts_letter (word x ∷ closes ∷ ls) = tt
parts_letter (word x ∷ clash ∷ ls) = tt
parts_letter (word x ∷ implies ∷ ls) = tt
parts_letter (word x ∷ word w ∷ ls) = tt
parts_letter (word x ∷ equals ∷ []) = tt
parts_letter (word x ∷ equals ∷ name ∷ names) = parts_names x (word_of name) (each_some word_of names)

abbrev HasSome : Option (List NamedEvent) → Type 0
HasSome None = Unit {0}
HasSome (Some es) = 0 < length es

each_one : (o : Option NamedEvent) (r : Option (List NamedEvent))
    → HasSome (option_and_then (λ y. option_map (λ ys. y ∷ ys) r) o)
each_one None r = tt
each_one (Some y) None = tt
each_one (Some y) (Some ys) = omega arith

each_nonempty : (pieces : List (List Lexeme)) → 0 < length pieces → HasSome (each_some event_of pieces)
each_nonempty [] l = absurd (omega arith)
each_nonempty (p ∷ ps) l = each_one (event_of p) (each_some event_of ps)

events_nonempty : (w : List ℕ) (ls : List Lexeme) → HasSome (events_of w ls)
events_nonempty w ls = let n = length-slice_split (is_the_word w) ls in each_nonempty (slice_split (is_the_word w) ls)
    (omega arith)

parts_both : (name : List ℕ) (family : Family) (l r : Option (List NamedEvent)) → HasSome l → HasSome r
    → PartsOf (option_and_then (λ ls. option_map (λ rs. constraint name family ls rs) r) l)
parts_both name family None r h k = tt
parts_both name family (Some ls) None h k = tt
parts_both name family (Some ls) (Some rs) h k = (h, k)

parts_sides : (name : List ℕ) (left rest : List Lexeme) → PartsOf (sides_of name left rest)
parts_sides name left [] = tt
parts_sides name left (opens ∷ ls) = tt
parts_sides name left (closes ∷ ls) = tt
parts_sides name left (equals ∷ ls) = tt
parts_sides name left (word w ∷ ls) = tt
parts_sides name left (implies ∷ right) = parts_both name Implication _ _ (events_nonempty (joined_by Clash) left)
    (events_nonempty (joined_by Implication) right)
parts_sides name left (clash ∷ right) = parts_both name Clash _ _ (events_nonempty (joined_by Clash) left)
    (events_nonempty (joined_by Clash) right)

parts_constraint : (ls : List Lexeme) → PartsOf (constraint_line ls)
parts_constraint [] = tt
parts_constraint (opens ∷ ls) = tt
parts_constraint (closes ∷ ls) = tt
parts_constraint (equals ∷ ls) = tt
parts_constraint (clash ∷ ls) = tt
parts_constraint (implies ∷ ls) = tt
parts_constraint (word name ∷ ls) = parts_sides name (take (position_or_len is_sign ls) ls)
    (drop (position_or_len is_sign ls) ls)

parts_statement : (ls : List Lexeme) → PartsOf (statement_of ls)
parts_statement [] = tt
parts_statement (opens ∷ ls) = tt
parts_statement (closes ∷ ls) = tt
parts_statement (equals ∷ ls) = tt
parts_statement (clash ∷ ls) = tt
parts_statement (implies ∷ ls) = tt
parts_statement (word k ∷ ls) =
    let third = parts_test (bytes_eq k (codes "constraint")) (constraint_line ls) None (parts_constraint ls) tt in
    let second = parts_test (bytes_eq k (codes "letter")) (letter_line ls)
    (cond (bytes_eq k (codes "constraint")) (constraint_line ls) None) (parts_letter ls) third in
    parts_test (bytes_eq k (codes "tier")) (tier_line ls)
    (cond (bytes_eq k (codes "letter")) (letter_line ls)
    (cond (bytes_eq k (codes "constraint")) (constraint_line ls) None)) (parts_tier ls) second

pub has_parts : (ls : List Lexeme) (s : Statement) → statement_of ls ≡ Some s → HasParts s
has_parts ls s e = subst PartsOf e (parts_statement ls)

-- ---- a statement without a cause

pub statement_made : (g : GrammarValue) (s : Statement) → HasParts s → IsProperGrammar g → cause_of g s ≡ None
    → IsProperGrammar (with_statement g s)
statement_made g (tier name kind) h m n = tier_made g name kind m (no_cause g (tier name kind) n)
statement_made g (letter x []) h m n = absurd (omega arith)
statement_made g (letter x (name ∷ names)) h m n = letter_made g x name names m (no_cause g (letter x (name ∷ names)) n)
statement_made g (constraint name family left right) h m n = constraint_made g name family left right h.0 h.1 m
    (no_cause g (constraint name family left right) n)

-- ---- lines

abbrev SoFar : Option GrammarValue → Type 0
SoFar None = Unit {0}
SoFar (Some g) = IsProperGrammar g

abbrev made : GrammarValue → Result (Option GrammarValue) GrammarCause
made g = Ok (Some g)

ok_some : (g : GrammarValue) (after : Option GrammarValue) → IsProperGrammar g → made g ≡ Ok after → SoFar after
ok_some g after m e = subst SoFar (let same : Some g ≡ after = cc in same) m

by_cause : (g : GrammarValue) (s : Statement) (c : Option GrammarCause) (after : Option GrammarValue) → HasParts s
    → IsProperGrammar g → cause_of g s ≡ c → some_grammar (after_cause g s c) ≡ Ok after → SoFar after
by_cause g s None after h m e k = ok_some (with_statement g s) after (statement_made g s h m e) k
by_cause g s (Some c) after h m e k = cc

by_statement : (g : GrammarValue) (o : Option Statement) (after : Option GrammarValue) → PartsOf o → IsProperGrammar g
    → some_grammar (after_statement g o) ≡ Ok after → SoFar after
by_statement g None after h m k = cc
by_statement g (Some s) after h m k = by_cause g s (cause_of g s) after h m refl k

by_header : (t : Bool) (after : Option GrammarValue) (c : GrammarCause)
    → cond t (Ok (Some nothing)) (Err c) ≡ Ok after → SoFar after
by_header true after c k = ok_some nothing after nothing_made k
by_header false after c k = cc

by_lexemes : (before : Option GrammarValue) (o : Option (List Lexeme)) (after : Option GrammarValue) → SoFar before
    → after_lexemes before o ≡ Ok after → SoFar after
by_lexemes before None after h k = cc
by_lexemes before (Some []) after h k = subst SoFar (let same : before ≡ after = cc in same) h
by_lexemes None (Some (l ∷ ls)) after h k = by_header (is_header (l ∷ ls)) after _ k
by_lexemes (Some g) (Some (l ∷ ls)) after h k = by_statement g (statement_of (l ∷ ls)) after
    (parts_statement (l ∷ ls)) h k

at_end : (before : Option GrammarValue) (g : GrammarValue) → SoFar before → finish before ≡ Ok g → IsGrammar g
at_end None g h k = cc
at_end (Some before) g h k = by_test (list_any (λ t. is_input t.kind) before.tiers)
    (λ i. by_test (list_any (λ t. is_overt t.kind) before.tiers)
    (λ o.
    let same : before ≡ g = let e = sym (tests true true i o) ∙ k in cc in
    subst IsGrammar same (record { made = h; input = i; overt = o }))
    (λ o. let e = sym (tests true false i o) ∙ k in cc))
    (λ i. let e = sym (first_test i) ∙ k in cc)
  where
    tests : (a b : Bool) → list_any (λ t. is_input t.kind) before.tiers ≡ a
        → list_any (λ t. is_overt t.kind) before.tiers ≡ b
        → finish (Some before) ≡ cond (not a) (Err (record { line = 0; cause = NoInput }))
        (cond (not b) (Err (record { line = 0; cause = NoOvert })) (Ok before))
    tests a b x y = ap (λ u. cond (not u) (Err (record { line = 0; cause = NoInput }))
        (cond (not (list_any (λ t. is_overt t.kind) before.tiers)) (Err (record { line = 0; cause = NoOvert }))
        (Ok before))) x ∙ ap (λ u. cond (not a) (Err (record { line = 0; cause = NoInput }))
        (cond (not u) (Err (record { line = 0; cause = NoOvert })) (Ok before))) y

    first_test : list_any (λ t. is_input t.kind) before.tiers ≡ false
        → finish (Some before) ≡ Err (record { line = 0; cause = NoInput })
    first_test x = ap (λ u. cond (not u) (Err (record { line = 0; cause = NoInput }))
        (cond (not (list_any (λ t. is_overt t.kind) before.tiers)) (Err (record { line = 0; cause = NoOvert }))
        (Ok before))) x

by_line : (n : ℕ) (r : Result (Option GrammarValue) GrammarCause)
    (rest : Option GrammarValue → Result GrammarValue At) (g : GrammarValue)
    → ((after : Option GrammarValue) → r ≡ Ok after → rest after ≡ Ok g → IsGrammar g) → go_on r n rest ≡ Ok g
    → IsGrammar g
by_line n (Ok after) rest g h k = h after refl k
by_line n (Err c) rest g h k = cc

by_lines : (before : Option GrammarValue) (n : ℕ) (lines : List (List ℕ)) (g : GrammarValue) → SoFar before
    → after_lines before n lines ≡ Ok g → IsGrammar g
by_lines before n [] g h k = at_end before g h k
by_lines before n (line ∷ lines) g h k = by_line n (after_line before line) (λ after. after_lines after (n + 1) lines) g
    (λ after e r. by_lines after (n + 1) lines g
    (by_lexemes before (each_some lexeme_of (parts_of line)) after h e) r) k

-- a grammar that is read is lawful
pub read_is_lawful : (bytes : List ℕ) (g : GrammarValue) → grammar_of bytes ≡ Ok g → IsGrammar g
read_is_lawful bytes g e = by_lines None 1 (lines_of bytes) g tt e

-- a grammar with an input tier and an overt tier is whole
pub whole_is : (g : GrammarValue) → list_any (λ t. is_input t.kind) g.tiers ≡ true
    → list_any (λ t. is_overt t.kind) g.tiers ≡ true → finish (Some g) ≡ Ok g
whole_is g i o =
    ap (λ u. cond (not u) (Err (record { line = 0; cause = NoInput }))
    (cond (not (list_any (λ t. is_overt t.kind) g.tiers)) (Err (record { line = 0; cause = NoOvert })) (Ok g))) i
    ∙ ap (λ u. cond (not u) (Err (record { line = 0; cause = NoOvert })) (Ok g)) o
