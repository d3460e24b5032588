-- The canonical text of a grammar is read as that grammar, line by line.
use Rattle.std.proofs.Common.{◌≡◌, ℕ, ◌+◌, ◌<◌, true, false, not, List, [], ◌∷◌, ◌++◌, length, map, refl, ap, sym}
use Rattle.std.proofs.Common.{◌∙◌, subst, codes, append_assoc, append-nil, arith, Option, Some, None, option_map}
use Rattle.std.proofs.{Common.{Result, Ok}, lemmas.Bool.{or_parts, not-false}}
use Rattle.std.specs.List.{list_any, list_all, AllByRecursion}
use Rattle.tier_core.specs.declared.tier.TierKind.{TierKind}
use Rattle.tier_core.specs.{declared.tier.TierKind.TheVariants.{Input, Overt, Hidden}, Tiers.is_input}
use Rattle.timeline_text.specs.{declared.letter.Letter.Letter, Bytes.lines_of}
use Rattle.grammar_reader.specs.{Pieces.{Lexeme, equals, word}, Statements.{Statement, tier, letter, constraint}}
use Rattle.grammar_reader.specs.Statements.{each_some, word_of, tier_kind_of, letter_line, statement_of, joined_by}
use Rattle.grammar_reader.specs.{Names.{is_name, is_letter_byte}, Values.{GrammarValue, NamedTier, NamedConstraint}}
use Rattle.grammar_reader.specs.{Values.{inputs_of, letter_name, IsProperGrammar, IsGrammar}, Reading.{At, nothing}}
use Rattle.grammar_reader.specs.Reading.{with_statement, after_cause, after_statement, some_grammar, after_lexemes}
use Rattle.grammar_reader.specs.Reading.{after_lines, go_on, grammar_of, indexed_event}
use Rattle.grammar_reader.specs.Canonical.{line_of_words, tier_kind_text, tier_words, names_in, letter_words}
use Rattle.grammar_reader.specs.Canonical.{event_text, intersperse, sign_text, constraint_words, header_words}
use Rattle.grammar_reader.specs.Canonical.{tier_lines, letter_lines, constraint_lines, canonical}
use Rattle.grammar_reader.proofs.{Lawful.{NoCause, cause_none}, LawfulLines.whole_is}
use Rattle.grammar_reader.proofs.LineLexemes.{AreRead, read_none, read_next, read_both, line_lexemes, line_first}
use Rattle.grammar_reader.proofs.WordLexemes.{name_read, letter_read, kind_read, and_read, joint_read, sign_lexeme}
use Rattle.grammar_reader.proofs.{WordLexemes.{sign_read, equals_read}, MasksBack.{some_in, mask_back}}
use Rattle.grammar_reader.proofs.Once.{at_place, once_filtered}
use Rattle.grammar_reader.proofs.Sides.{HasName, named_event, side_lexemes, side_read, both_sides, constraint_back}
use Rattle.grammar_reader.proofs.{Adding.grammar_by, Uncaused.{with_tiers, with_letters, tier_uncaused}}
use Rattle.grammar_reader.proofs.Uncaused.{letter_uncaused, sound_at, sides_at, names_of, constraint_uncaused}
use Rattle.grammar_reader.proofs.Uncaused.{numbers_back, names_are}

-- after what was read before, the text is read as a grammar, whatever the number of its first line
Reads : Option GrammarValue → List ℕ → GrammarValue → Type 0
Reads before text g = (n : ℕ) → after_lines before n (lines_of text) ≡ Ok g

-- ---- a line

reads_line : (before after : Option GrammarValue) (ws : List (List ℕ)) (ls : List Lexeme) (rest : List ℕ)
    (g : GrammarValue) → AreRead ws ls → after_lexemes before (Some ls) ≡ Ok after → Reads after rest g
    → Reads before (line_of_words ws ++ rest) g
unfolding Reads
reads_line before after ws ls rest g r e h = λ n.
    ap (after_lines before n) (line_first ws ls rest r)
    ∙ ap (λ o. go_on (after_lexemes before o) n (λ next. after_lines next (n + 1) (lines_of rest)))
    (line_lexemes ws ls r)
    ∙ ap (λ x. go_on x n (λ next. after_lines next (n + 1) (lines_of rest))) e
    ∙ h (n + 1)

-- a line that says something, and has no cause
reads_statement : (before : GrammarValue) (s : Statement) (ws : List (List ℕ)) (l : Lexeme) (ls : List Lexeme)
    (rest : List ℕ) (g : GrammarValue) → AreRead ws (l ∷ ls) → statement_of (l ∷ ls) ≡ Some s → NoCause before s
    → Reads (Some (with_statement before s)) rest g → Reads (Some before) (line_of_words ws ++ rest) g
reads_statement before s ws l ls rest g r e n h = reads_line (Some before) (Some (with_statement before s)) ws
    (l ∷ ls) rest g r
    (ap (λ o. some_grammar (after_statement before o)) e
    ∙ ap (λ c. some_grammar (after_cause before s c)) (cause_none before s n)) h

reads_as : (before : Option GrammarValue) (text same : List ℕ) (g : GrammarValue) → text ≡ same → Reads before same g
    → Reads before text g
reads_as before text same g e h = subst (λ t. Reads before t g) (sym e) h

reads_after : (before same : GrammarValue) (text : List ℕ) (g : GrammarValue) → before ≡ same
    → Reads (Some same) text g → Reads (Some before) text g
reads_after before same text g e h = subst (λ b. Reads (Some b) text g) (sym e) h

-- ---- what the lexemes of a line say

kind_back : (kind : TierKind) → tier_kind_of (tier_kind_text kind) ≡ Some kind
kind_back Input = refl
kind_back Overt = refl
kind_back Hidden = refl

words_back : (ws : List (List ℕ)) → each_some word_of (map word ws) ≡ Some ws
words_back [] = refl
words_back (w ∷ ws) = ap (option_map (λ ys. w ∷ ys)) (words_back ws)

letter_back : (x : List ℕ) (ws : List (List ℕ)) → 0 < length ws
    → letter_line (word x ∷ equals ∷ map word ws) ≡ Some (letter x ws)
letter_back x [] l = absurd (omega arith)
letter_back x (w ∷ ws) l = ap (option_map (letter x)) (words_back (w ∷ ws))

names_read : (ws : List (List ℕ)) → list_any (λ n. not (is_name n)) ws ≡ false → AreRead ws (map word ws)
names_read [] h = read_none
names_read (w ∷ ws) h =
    let a = or_parts (not (is_name w)) (list_any (λ n. not (is_name n)) ws) h in
    read_next w (word w ∷ []) ws (map word ws) (name_read w (not-false (is_name w) a.0)) (names_read ws a.1)

-- ---- the lines of tiers

module _ (g : GrammarValue) (m : IsProperGrammar g) where
  tier_read : (t : NamedTier) → is_name t.name ≡ true
      → AreRead (tier_words t) (word (codes "tier") ∷ word t.name ∷ word (tier_kind_text t.kind) ∷ [])
  tier_read t h = read_next (codes "tier") (word (codes "tier") ∷ []) (t.name ∷ tier_kind_text t.kind ∷ [])
      (word t.name ∷ word (tier_kind_text t.kind) ∷ []) (record { inner = refl; lexemes = refl })
      (read_next t.name (word t.name ∷ []) (tier_kind_text t.kind ∷ []) (word (tier_kind_text t.kind) ∷ [])
      (name_read t.name h)
      (read_next (tier_kind_text t.kind) (word (tier_kind_text t.kind) ∷ []) [] [] (kind_read t.kind) read_none))

  tiers_read : (front ts : List NamedTier) (rest : List ℕ) → g.tiers ≡ front ++ ts
      → Reads (Some (with_tiers g.tiers)) rest g → Reads (Some (with_tiers front)) (tier_lines ts ++ rest) g
  tiers_read front [] rest e h = reads_after (with_tiers front) (with_tiers g.tiers) rest g
      (ap with_tiers (sym (e ∙ append-nil front))) h
  tiers_read front (t ∷ ts) rest e h =
      let line = line_of_words (tier_words t) in
      let named = at_place (λ x. is_name x.name) front t ts
      (sym (ap (list_all (λ x. is_name x.name)) e) ∙ m.tier_names) in
      reads_as (Some (with_tiers front)) ((line ++ tier_lines ts) ++ rest) (line ++ (tier_lines ts ++ rest)) g
      (append_assoc line (tier_lines ts) rest)
      (reads_statement (with_tiers front) (tier t.name t.kind) (tier_words t) (word (codes "tier"))
      (word t.name ∷ word (tier_kind_text t.kind) ∷ []) (tier_lines ts ++ rest) g (tier_read t named)
      (ap (option_map (tier t.name)) (kind_back t.kind)) (tier_uncaused g front t ts m e)
      (tiers_read (front ++ t ∷ []) ts rest (e ∙ sym (append_assoc front (t ∷ []) ts)) h))

  -- ---- the lines of letters

  letter_words_read : (l : Letter) → is_letter_byte (letter_name l) ≡ true
      → list_any (λ n. not (is_name n)) (names_in (inputs_of g.tiers) l.tiers) ≡ false
      → AreRead (letter_words g.tiers l)
      (word (codes "letter") ∷ word (letter_name l) ∷ equals ∷ map word (names_in (inputs_of g.tiers) l.tiers))
  letter_words_read l h k =
      let names = names_in (inputs_of g.tiers) l.tiers in
      read_next (codes "letter") (word (codes "letter") ∷ []) (letter_name l ∷ codes "=" ∷ names)
      (word (letter_name l) ∷ equals ∷ map word names) (record { inner = refl; lexemes = refl })
      (read_next (letter_name l) (word (letter_name l) ∷ []) (codes "=" ∷ names) (equals ∷ map word names)
      (letter_read l.byte h)
      (read_next (codes "=") (equals ∷ []) names (map word names) equals_read (names_read names k)))

  letters_read : (front ls : List Letter) (rest : List ℕ) → g.letters ≡ front ++ ls
      → Reads (Some (with_letters g.tiers g.letters)) rest g
      → Reads (Some (with_letters g.tiers front)) (letter_lines g.tiers ls ++ rest) g
  letters_read front [] rest e h = reads_after (with_letters g.tiers front) (with_letters g.tiers g.letters) rest g
      (ap (with_letters g.tiers) (sym (e ∙ append-nil front))) h
  letters_read front (l ∷ ls) rest e h =
      let line = line_of_words (letter_words g.tiers l) in
      let names = names_in (inputs_of g.tiers) l.tiers in
      let uncaused = letter_uncaused g front l ls m e in
      let good = or_parts (not (is_letter_byte (letter_name l)))
      (list_any (λ n. not (is_name n)) names) uncaused.names in
      let sound = sound_at g front l ls m e in
      let mask = mask_back (inputs_of g.tiers) l.tiers sound.1
      (once_filtered (λ t. is_input t.kind) g.tiers m.tiers_once) in
      reads_as (Some (with_letters g.tiers front)) ((line ++ letter_lines g.tiers ls) ++ rest)
      (line ++ (letter_lines g.tiers ls ++ rest)) g (append_assoc line (letter_lines g.tiers ls) rest)
      (reads_statement (with_letters g.tiers front) (letter (letter_name l) names) (letter_words g.tiers l)
      (word (codes "letter")) (word (letter_name l) ∷ equals ∷ map word names) (letter_lines g.tiers ls ++ rest) g
      (letter_words_read l (not-false (is_letter_byte (letter_name l)) good.0) good.1)
      (letter_back (letter_name l) names (some_in (inputs_of g.tiers) l.tiers sound.0 sound.1)) uncaused
      (reads_after (with_statement (with_letters g.tiers front) (letter (letter_name l) names))
      (with_letters g.tiers (front ++ l ∷ [])) (letter_lines g.tiers ls ++ rest) g
      (ap (λ k. with_letters g.tiers (front ++ record { byte = l.byte; tiers = k } ∷ [])) mask)
      (letters_read (front ++ l ∷ []) ls rest (e ∙ sym (append_assoc front (l ∷ []) ls)) h)))

  -- ---- the lines of constraints

  constraint_words_read : (c : NamedConstraint) → is_name c.name ≡ true
      → AllByRecursion (HasName (names_of g.tiers)) c.left → AllByRecursion (HasName (names_of g.tiers)) c.right
      → AreRead (constraint_words (names_of g.tiers) c)
      (word (codes "constraint") ∷ word c.name ∷ both_sides (names_of g.tiers) c.family c.left c.right)
  constraint_words_read c h left right =
      let names = names_of g.tiers in
      let joint = joined_by c.family in
      let left_words = intersperse (codes "and") (map (event_text names) c.left) in
      let right_words = intersperse joint (map (event_text names) c.right) in
      let sides = left_words ++ sign_text c.family ∷ right_words in
      read_next (codes "constraint") (word (codes "constraint") ∷ []) (c.name ∷ sides)
      (word c.name ∷ both_sides names c.family c.left c.right) (record { inner = refl; lexemes = refl })
      (read_next c.name (word c.name ∷ []) sides (both_sides names c.family c.left c.right) (name_read c.name h)
      (read_both left_words (side_lexemes (codes "and") names c.left) (sign_text c.family ∷ right_words)
      (sign_lexeme c.family ∷ side_lexemes joint names c.right)
      (side_read (codes "and") names c.left and_read left)
      (read_next (sign_text c.family) (sign_lexeme c.family ∷ []) right_words (side_lexemes joint names c.right)
      (sign_read c.family) (side_read joint names c.right (joint_read c.family) right))))

  constraints_read : (front cs : List NamedConstraint) → g.constraints ≡ front ++ cs → Reads (Some g) [] g
      → Reads (Some (grammar_by g.tiers g.letters front)) (constraint_lines (names_of g.tiers) cs) g
  constraints_read front [] e h = reads_after (grammar_by g.tiers g.letters front)
      (grammar_by g.tiers g.letters g.constraints) [] g
      (ap (grammar_by g.tiers g.letters) (sym (e ∙ append-nil front))) h
  constraints_read front (c ∷ cs) e h =
      let names = names_of g.tiers in
      let sides = sides_at g front c cs m e in
      let named = at_place (λ x. is_name x.name) front c cs
      (sym (ap (list_all (λ x. is_name x.name)) e) ∙ m.constraint_names) in
      let left = names_are g.tiers c.left m.tier_names sides.left.within in
      let right = names_are g.tiers c.right m.tier_names sides.right.within in
      let said = constraint c.name c.family (map (named_event names) c.left) (map (named_event names) c.right) in
      let ls = numbers_back g.tiers c.left m.tiers_once sides.left.within in
      let rs = numbers_back g.tiers c.right m.tiers_once sides.right.within in
      reads_statement (grammar_by g.tiers g.letters front) said (constraint_words names c)
      (word (codes "constraint")) (word c.name ∷ both_sides names c.family c.left c.right)
      (constraint_lines names cs) g
      (constraint_words_read c named left right)
      (constraint_back names c.name c.family c.left c.right sides.left.some sides.right.some left right)
      (constraint_uncaused g front c cs m e)
      (reads_after (with_statement (grammar_by g.tiers g.letters front) said)
      (grammar_by g.tiers g.letters (front ++ c ∷ [])) (constraint_lines names cs) g
      (ap (λ es. grammar_by g.tiers g.letters
      (front ++ record {
        name = c.name;
        family = c.family;
        left = es;
        right = map (indexed_event g.tiers) (map (named_event names) c.right);
      } ∷ [])) ls
      ∙ ap (λ es. grammar_by g.tiers g.letters
      (front ++ record { name = c.name; family = c.family; left = c.left; right = es } ∷ [])) rs)
      (constraints_read (front ++ c ∷ []) cs (e ∙ sym (append_assoc front (c ∷ []) cs)) h))

-- ---- the whole text

reads_end : (g : GrammarValue) → IsGrammar g → Reads (Some g) [] g
unfolding Reads
reads_end g h = λ n. whole_is g h.input h.overt

reads_canonical : (g : GrammarValue) → IsGrammar g → Reads None (canonical g) g
reads_canonical g h =
    let rest = letter_lines g.tiers g.letters ++ constraint_lines (names_of g.tiers) g.constraints in
    reads_line None (Some nothing) header_words (word (codes "otp") ∷ word (codes "1") ∷ [])
    (tier_lines g.tiers ++ rest) g (record { inner = refl; lexemes = refl }) refl
    (tiers_read g h.made [] g.tiers rest refl
    (letters_read g h.made [] g.letters (constraint_lines (names_of g.tiers) g.constraints) refl
    (constraints_read g h.made [] g.constraints refl (reads_end g h))))

pub read_again : (g : GrammarValue) → IsGrammar g → grammar_of (canonical g) ≡ Ok g
unfolding Reads
read_again g h = reads_canonical g h 1

abbrev found : GrammarValue → Result GrammarValue At
found g = Ok g

-- grammars that are written alike are the same
pub same_text : (g h : GrammarValue) → IsGrammar g → IsGrammar h → canonical g ≡ canonical h → g ≡ h
same_text g h i j e = let k : found g ≡ found h = sym (read_again g i) ∙ ap grammar_of e ∙ read_again h j in cc
