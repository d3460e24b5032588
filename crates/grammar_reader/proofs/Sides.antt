-- The events of a side: the words that join them are read, and cut, as they were joined.
use Rattle.std.proofs.{lemmas.Bool.{or_parts, not-true}, Common.{◌≡◌, ℕ, suc, ◌+◌, ◌<◌, true, false, cond, List, []}}
use Rattle.std.proofs.Common.{◌∷◌, ◌++◌, length, map, take, drop, refl, ap, sym, ◌∙◌, codes, append-nil, arith}
use Rattle.std.proofs.Common.{append_assoc, length-append, subst, take_at, drop_at, Some, None}
use Rattle.std.proofs.{lemmas.List.Elements.All-from_recursion, lemmas.List.Splits.{slice_split_none, slice_split_at}}
use Rattle.std.specs.{Prelude.{slice_index_or, All}, List.{slice_split, position_or_len, AllByRecursion}}
use Rattle.std.specs.Str.{bytes_eq}
use Rattle.tier_core.specs.{declared.event.Event.Event, declared.event.Part.Part}
use Rattle.tier_core.specs.{declared.event.Part.TheVariants.{Start, End, Interior}, declared.constraint.Family.Family}
use Rattle.tier_core.specs.declared.constraint.Family.TheVariants.{Implication, Clash}
use Rattle.grammar_reader.specs.{Pieces.{Lexeme, word}, Statements.{NamedEvent, constraint, each_some, is_the_word}}
use Rattle.grammar_reader.specs.Statements.{is_connective, event_of, events_of, joined_by, is_sign, sides_of}
use Rattle.grammar_reader.specs.{Statements.constraint_line, Names.is_name, Canonical.{event_text, intersperse}}
use Rattle.grammar_reader.proofs.{Ascii.name_parts, Forms.both_some, Joined.{joined_rest, intersperse-cons}}
use Rattle.grammar_reader.proofs.LineLexemes.{IsRead, AreRead, read_none, read_next}
use Rattle.grammar_reader.proofs.WordLexemes.{part_lexemes, event_lexemes, event_read, sign_lexeme}

-- an event on a tier that has a name
abbrev pub HasName : List (List ℕ) → Event → Type 0
HasName names e = is_name (slice_index_or names e.tier []) ≡ true

-- an event by the name of its tier
abbrev pub named_event : List (List ℕ) → Event → NamedEvent
named_event names e = record { part = e.part; tier = slice_index_or names e.tier [] }

-- the lexemes of the events after the first, each behind the word that joins
abbrev pub rest_lexemes : List ℕ → List (List ℕ) → List Event → List Lexeme
rest_lexemes joint names [] = []
rest_lexemes joint names (e ∷ es) = word joint ∷ (event_lexemes names e ++ rest_lexemes joint names es)

abbrev pub side_lexemes : List ℕ → List (List ℕ) → List Event → List Lexeme
side_lexemes joint names [] = []
side_lexemes joint names (e ∷ es) = event_lexemes names e ++ rest_lexemes joint names es

-- ---- words

rest_read : (joint : List ℕ) (names : List (List ℕ)) (es : List Event) → IsRead joint (word joint ∷ [])
    → AllByRecursion (HasName names) es → AreRead (joined_rest joint (map (event_text names) es))
    (rest_lexemes joint names es)
rest_read joint names [] j h = read_none
rest_read joint names (e ∷ es) j h = read_next joint (word joint ∷ [])
    (event_text names e ∷ joined_rest joint (map (event_text names) es))
    (event_lexemes names e ++ rest_lexemes joint names es) j
    (read_next (event_text names e) (event_lexemes names e) (joined_rest joint (map (event_text names) es))
    (rest_lexemes joint names es) (event_read names e h.0) (rest_read joint names es j h.1))

pub side_read : (joint : List ℕ) (names : List (List ℕ)) (es : List Event) → IsRead joint (word joint ∷ [])
    → AllByRecursion (HasName names) es → AreRead (intersperse joint (map (event_text names) es))
    (side_lexemes joint names es)
side_read joint names [] j h = read_none
side_read joint names (e ∷ es) j h = subst (λ ws. AreRead ws (side_lexemes joint names (e ∷ es)))
    (sym (intersperse-cons joint (event_text names e) (map (event_text names) es)))
    (read_next (event_text names e) (event_lexemes names e) (joined_rest joint (map (event_text names) es))
    (rest_lexemes joint names es) (event_read names e h.0) (rest_read joint names es j h.1))

-- ---- events

-- a word that joins events
abbrev pub IsJoint : List ℕ → Type 0
IsJoint joint = (w : List ℕ) → is_name w ≡ true → bytes_eq w joint ≡ false

is_no_connective : (w : List ℕ) → is_name w ≡ true → is_connective w ≡ false
is_no_connective w h = not-true (is_connective w) (name_parts w h).other

pub and_joint : IsJoint (codes "and")
and_joint w h = (or_parts (bytes_eq w (codes "and")) (bytes_eq w (codes "or")) (is_no_connective w h)).0

or_joint : IsJoint (codes "or")
or_joint w h = (or_parts (bytes_eq w (codes "and")) (bytes_eq w (codes "or")) (is_no_connective w h)).1

uncut_part : (joint w : List ℕ) (part : Part) → bytes_eq w joint ≡ false
    → AllByRecursion (λ l. is_the_word joint l ≡ false) (part_lexemes part ++ word w ∷ [])
uncut_part joint w Start h = (refl, (h, tt))
uncut_part joint w End h = (refl, (h, tt))
uncut_part joint w Interior h = (h, tt)

-- no lexeme of an event is the word that joins
uncut : (joint : List ℕ) (names : List (List ℕ)) (e : Event) → IsJoint joint → HasName names e
    → All (λ l. is_the_word joint l ≡ false) (event_lexemes names e)
uncut joint names e j h = All-from_recursion (λ l. is_the_word joint l ≡ false) (event_lexemes names e)
    (uncut_part joint (slice_index_or names e.tier []) e.part (j (slice_index_or names e.tier []) h))

cut_side : (joint : List ℕ) (names : List (List ℕ)) (e : Event) (es : List Event) → IsJoint joint
    → bytes_eq joint joint ≡ true → AllByRecursion (HasName names) (e ∷ es)
    → slice_split (is_the_word joint) (side_lexemes joint names (e ∷ es)) ≡ map (event_lexemes names) (e ∷ es)
cut_side joint names e [] j s h = ap (slice_split (is_the_word joint)) (append-nil (event_lexemes names e))
    ∙ slice_split_none (is_the_word joint) (event_lexemes names e) (uncut joint names e j h.0)
cut_side joint names e (f ∷ es) j s h = slice_split_at (is_the_word joint) (event_lexemes names e) (word joint)
    (side_lexemes joint names (f ∷ es)) (uncut joint names e j h.0) s
    ∙ ap (λ ps. event_lexemes names e ∷ ps) (cut_side joint names f es j s h.1)

event_back_part : (w : List ℕ) (part : Part) → is_connective w ≡ false
    → event_of (part_lexemes part ++ word w ∷ []) ≡ Some (record { part = part; tier = w })
event_back_part w Start h = ap (λ t. cond t None (Some (record { part = Start; tier = w }))) h
event_back_part w End h = ap (λ t. cond t None (Some (record { part = End; tier = w }))) h
event_back_part w Interior h = ap (λ t. cond t None (Some (record { part = Interior; tier = w }))) h

event_back : (names : List (List ℕ)) (e : Event) → HasName names e
    → event_of (event_lexemes names e) ≡ Some (named_event names e)
event_back names e h = event_back_part (slice_index_or names e.tier []) e.part
    (is_no_connective (slice_index_or names e.tier []) h)

events_back_each : (names : List (List ℕ)) (es : List Event) → AllByRecursion (HasName names) es
    → each_some event_of (map (event_lexemes names) es) ≡ Some (map (named_event names) es)
events_back_each names [] h = refl
events_back_each names (e ∷ es) h = both_some (λ x xs. x ∷ xs) (named_event names e) (map (named_event names) es)
    (event_of (event_lexemes names e)) (each_some event_of (map (event_lexemes names) es)) (event_back names e h.0)
    (events_back_each names es h.1)

-- the events of a side are read again
pub events_back : (joint : List ℕ) (names : List (List ℕ)) (es : List Event) → IsJoint joint
    → bytes_eq joint joint ≡ true → 0 < length es → AllByRecursion (HasName names) es
    → events_of joint (side_lexemes joint names es) ≡ Some (map (named_event names) es)
events_back joint names [] j s l h = absurd (omega arith)
events_back joint names (e ∷ es) j s l h = ap (each_some event_of) (cut_side joint names e es j s h)
    ∙ events_back_each names (e ∷ es) h

-- ---- the sign

not_sign : (part : Part) (w : List ℕ) (rest : List Lexeme)
    → position_or_len is_sign ((part_lexemes part ++ word w ∷ []) ++ rest)
    ≡ length (part_lexemes part ++ word w ∷ []) + position_or_len is_sign rest
not_sign Start w rest = omega arith
not_sign End w rest = omega arith
not_sign Interior w rest = omega arith

sign_behind : (family : Family) (right : List Lexeme) → position_or_len is_sign (sign_lexeme family ∷ right) ≡ 0
sign_behind Implication right = refl
sign_behind Clash right = refl

-- a sign behind an event and what follows it
sign_past : (names : List (List ℕ)) (e : Event) (rest right : List Lexeme)
    → position_or_len is_sign (rest ++ right) ≡ length rest
    → position_or_len is_sign ((event_lexemes names e ++ rest) ++ right) ≡ length (event_lexemes names e ++ rest)
sign_past names e rest right h = ap (position_or_len is_sign) (append_assoc (event_lexemes names e) rest right)
    ∙ not_sign e.part (slice_index_or names e.tier []) (rest ++ right)
    ∙ ap (λ n. length (event_lexemes names e) + n) h ∙ sym (length-append (event_lexemes names e) rest)

sign_after_rest : (joint : List ℕ) (names : List (List ℕ)) (es : List Event) (family : Family) (right : List Lexeme)
    → position_or_len is_sign (rest_lexemes joint names es ++ sign_lexeme family ∷ right)
    ≡ length (rest_lexemes joint names es)
sign_after_rest joint names [] family right = sign_behind family right
sign_after_rest joint names (e ∷ es) family right =
    let i = sign_past names e (rest_lexemes joint names es) (sign_lexeme family ∷ right)
    (sign_after_rest joint names es family right) in
    let s : 1 + length (side_lexemes joint names (e ∷ es))
    ≡ suc (length (side_lexemes joint names (e ∷ es))) = omega arith in
    ap (λ n. 1 + n) i ∙ s

sign_after : (joint : List ℕ) (names : List (List ℕ)) (es : List Event) (family : Family) (right : List Lexeme)
    → position_or_len is_sign (side_lexemes joint names es ++ sign_lexeme family ∷ right)
    ≡ length (side_lexemes joint names es)
sign_after joint names [] family right = sign_behind family right
sign_after joint names (e ∷ es) family right = sign_past names e (rest_lexemes joint names es)
    (sign_lexeme family ∷ right) (sign_after_rest joint names es family right)

-- ---- a line of a constraint

sides_back : (names : List (List ℕ)) (name : List ℕ) (family : Family) (left right : List Event) → 0 < length left
    → 0 < length right → AllByRecursion (HasName names) left → AllByRecursion (HasName names) right
    → sides_of name (side_lexemes (codes "and") names left)
    (sign_lexeme family ∷ side_lexemes (joined_by family) names right)
    ≡ Some (constraint name family (map (named_event names) left) (map (named_event names) right))
sides_back names name Implication left right l r h k = both_some (λ ls rs. constraint name Implication ls rs)
    (map (named_event names) left) (map (named_event names) right)
    (events_of (codes "and") (side_lexemes (codes "and") names left))
    (events_of (codes "or") (side_lexemes (codes "or") names right))
    (events_back (codes "and") names left and_joint refl l h) (events_back (codes "or") names right or_joint refl r k)
sides_back names name Clash left right l r h k = both_some (λ ls rs. constraint name Clash ls rs)
    (map (named_event names) left) (map (named_event names) right)
    (events_of (codes "and") (side_lexemes (codes "and") names left))
    (events_of (codes "and") (side_lexemes (codes "and") names right))
    (events_back (codes "and") names left and_joint refl l h) (events_back (codes "and") names right and_joint refl r k)

-- the lexemes behind the name of a constraint
abbrev pub both_sides : List (List ℕ) → Family → List Event → List Event → List Lexeme
both_sides names family left right = side_lexemes (codes "and") names left
    ++ sign_lexeme family ∷ side_lexemes (joined_by family) names right

pub constraint_back : (names : List (List ℕ)) (name : List ℕ) (family : Family) (left right : List Event)
    → 0 < length left → 0 < length right → AllByRecursion (HasName names) left → AllByRecursion (HasName names) right
    → constraint_line (word name ∷ both_sides names family left right)
    ≡ Some (constraint name family (map (named_event names) left) (map (named_event names) right))
constraint_back names name family left right l r h k =
    let ls = side_lexemes (codes "and") names left in
    let rs = sign_lexeme family ∷ side_lexemes (joined_by family) names right in
    ap (λ n. sides_of name (take n (ls ++ rs)) (drop n (ls ++ rs)))
    (sign_after (codes "and") names left family (side_lexemes (joined_by family) names right))
    ∙ ap (λ xs. sides_of name xs (drop (length ls) (ls ++ rs))) (take_at ls rs (length ls) refl)
    ∙ ap (λ xs. sides_of name ls xs) (drop_at ls rs (length ls) refl)
    ∙ sides_back names name family left right l r h k
