-- What each word of a canonical line is read as.
use Rattle.std.proofs.{lemmas.Bool.{and_parts, and_from}, Common.{◌≡◌, ℕ, Bool, true, false, cond, not, ◌&&◌, ◌||◌}}
use Rattle.std.proofs.Common.{◌==◌, List, [], ◌∷◌, ◌++◌, filter, refl, ap, ◌∙◌, codes, Option, Some, None}
use Rattle.std.proofs.Common.{option_map, option_and_then}
use Rattle.std.specs.{Prelude.slice_index_or, List.list_all, Str.bytes_eq}
use Rattle.tier_core.specs.{declared.event.Event.Event, declared.event.Part.Part}
use Rattle.tier_core.specs.{declared.event.Part.TheVariants.{Start, End, Interior}, declared.tier.TierKind.TierKind}
use Rattle.tier_core.specs.declared.tier.TierKind.TheVariants.{Input, Overt, Hidden}
use Rattle.tier_core.specs.declared.constraint.Family.{Family}
use Rattle.tier_core.specs.declared.constraint.Family.TheVariants.{Implication, Clash}
use Rattle.timeline_text.specs.Bytes.{is_newline}
use Rattle.grammar_reader.specs.Pieces.{is_comment, is_word_byte, holds_together, onto_piece, token_pieces}
use Rattle.grammar_reader.specs.Pieces.{is_spacing, Lexeme, opens, closes, equals, clash, implies, word, lexeme_of}
use Rattle.grammar_reader.specs.{Pieces.goes_on, Statements.{each_some, joined_by}, Names.{is_name, is_letter_byte}}
use Rattle.grammar_reader.specs.Canonical.{tier_kind_text, part_text, event_text, sign_text}
use Rattle.grammar_reader.proofs.{Ascii.name_parts, Lawful.all_weaker, LineLexemes.{is_inner, IsRead}}
use Rattle.grammar_reader.proofs.{Steps.{is_other, plain_word}, Walk.apart}

-- ---- words of letters, digits and `_`

inner_byte : (b : ℕ) → is_word_byte b ≡ true → is_inner b ≡ true
inner_byte b h =
    let p = plain_word b h in
    and_from (not (is_newline b) && not (is_comment b)) (not (b == 13))
    (and_from (not (is_newline b)) (not (is_comment b)) (ap not p.newline) (ap not p.comment)) (ap not p.return)

one_piece : (b : ℕ) (bs : List ℕ) → list_all is_word_byte (b ∷ bs) ≡ true → token_pieces (b ∷ bs) ≡ (b ∷ bs) ∷ []
one_piece b [] h = refl
one_piece b (c ∷ bs) h =
    let x = and_parts (is_word_byte b) (list_all is_word_byte (c ∷ bs)) h in
    let y = and_parts (is_word_byte c) (list_all is_word_byte bs) x.1 in
    let t : holds_together b c ≡ true = ap (λ s. (s && is_word_byte c) || ((b == 45) && (c == 62))) x.0
    ∙ ap (λ s. s || ((b == 45) && (c == 62))) y.0 in
    ap (onto_piece b) (one_piece c bs x.1) ∙ ap (λ s. cond s ((b ∷ c ∷ bs) ∷ []) ((b ∷ []) ∷ (c ∷ bs) ∷ [])) t

no_sign : (b c : ℕ) (bs cs : List ℕ) → is_word_byte b ≡ true → is_word_byte c ≡ false
    → bytes_eq (b ∷ bs) (c ∷ cs) ≡ false
no_sign b c bs cs h k = ap (λ t. t && bytes_eq bs cs) (is_other is_word_byte b c h k)

otherwise : {X : Type 0} (t : Bool) (x r y : X) → t ≡ false → r ≡ y → cond t x r ≡ y
otherwise t x r y e h = ap (λ s. cond s x r) e ∙ h

lexeme_word : (b : ℕ) (bs : List ℕ) → list_all is_word_byte (b ∷ bs) ≡ true → lexeme_of (b ∷ bs) ≡ Some (word (b ∷ bs))
lexeme_word b bs h =
    let w : List ℕ = b ∷ bs in
    let k = (and_parts (is_word_byte b) (list_all is_word_byte bs) h).0 in
    let o5 : Option Lexeme = cond (list_all is_word_byte w) (Some (word w)) None in
    let o4 : Option Lexeme = cond (bytes_eq w (codes "->")) (Some implies) o5 in
    let o3 : Option Lexeme = cond (bytes_eq w (codes "#")) (Some clash) o4 in
    let o2 : Option Lexeme = cond (bytes_eq w (codes "=")) (Some equals) o3 in
    let o1 : Option Lexeme = cond (bytes_eq w (codes "]")) (Some closes) o2 in
    otherwise (bytes_eq w (codes "[")) (Some opens) o1 (Some (word w)) (no_sign b 91 bs [] k refl)
    (otherwise (bytes_eq w (codes "]")) (Some closes) o2 (Some (word w)) (no_sign b 93 bs [] k refl)
    (otherwise (bytes_eq w (codes "=")) (Some equals) o3 (Some (word w)) (no_sign b 61 bs [] k refl)
    (otherwise (bytes_eq w (codes "#")) (Some clash) o4 (Some (word w)) (no_sign b 35 bs [] k refl)
    (otherwise (bytes_eq w (codes "->")) (Some implies) o5 (Some (word w)) (no_sign b 45 bs (62 ∷ []) k refl)
    (ap (λ t. cond t (Some (word w)) None) h)))))

pub word_read : (b : ℕ) (bs : List ℕ) → list_all is_word_byte (b ∷ bs) ≡ true → IsRead (b ∷ bs) (word (b ∷ bs) ∷ [])
word_read b bs h = record {
  inner = all_weaker is_word_byte is_inner (b ∷ bs) inner_byte h;
  lexemes = ap (λ ps. each_some lexeme_of (filter (λ piece. not (is_spacing piece)) ps)) (one_piece b bs h)
      ∙ ap (λ t. each_some lexeme_of (cond (not t) ((b ∷ bs) ∷ []) []))
      (plain_word b (and_parts (is_word_byte b) (list_all is_word_byte bs) h).0).spacing
      ∙ ap (option_and_then (λ y. option_map (λ ys. y ∷ ys) (Some []))) (lexeme_word b bs h);
}

pub name_read : (w : List ℕ) → is_name w ≡ true → IsRead w (word w ∷ [])
name_read [] h = cc
name_read (b ∷ bs) h = word_read b bs (name_parts (b ∷ bs) h).bytes

pub letter_read : (b : ℕ) → is_letter_byte (b ∷ []) ≡ true → IsRead (b ∷ []) (word (b ∷ []) ∷ [])
letter_read b h = word_read b [] (ap (λ t. (t || (b == 95)) && true) h)

pub kind_read : (kind : TierKind) → IsRead (tier_kind_text kind) (word (tier_kind_text kind) ∷ [])
kind_read Input = record { inner = refl; lexemes = refl }
kind_read Overt = record { inner = refl; lexemes = refl }
kind_read Hidden = record { inner = refl; lexemes = refl }

-- what goes_on the events of the left side
pub and_read : IsRead (codes "and") (word (codes "and") ∷ [])
and_read = record { inner = refl; lexemes = refl }

-- and those of the right side
pub joint_read : (family : Family) → IsRead (joined_by family) (word (joined_by family) ∷ [])
joint_read Implication = record { inner = refl; lexemes = refl }
joint_read Clash = record { inner = refl; lexemes = refl }

-- ---- signs

abbrev pub sign_lexeme : Family → Lexeme
sign_lexeme Implication = implies
sign_lexeme Clash = clash

pub sign_read : (family : Family) → IsRead (sign_text family) (sign_lexeme family ∷ [])
sign_read Implication = record { inner = refl; lexemes = refl }
sign_read Clash = record { inner = refl; lexemes = refl }

pub equals_read : IsRead (codes "=") (equals ∷ [])
equals_read = record { inner = refl; lexemes = refl }

-- ---- events

abbrev pub part_lexemes : Part → List Lexeme
part_lexemes Start = opens ∷ []
part_lexemes End = closes ∷ []
part_lexemes Interior = []

abbrev pub event_lexemes : List (List ℕ) → Event → List Lexeme
event_lexemes names e = part_lexemes e.part ++ word (slice_index_or names e.tier []) ∷ []

opens_before : (w : List ℕ) → goes_on 91 w ≡ false
opens_before [] = refl
opens_before (c ∷ w) = refl

closes_before : (w : List ℕ) → goes_on 93 w ≡ false
closes_before [] = refl
closes_before (c ∷ w) = refl

part_read : (part : Part) (w : List ℕ) → IsRead w (word w ∷ [])
    → IsRead (part_text part ++ w) (part_lexemes part ++ word w ∷ [])
part_read Start w r = record {
  inner = r.inner;
  lexemes = ap (λ ps. each_some lexeme_of (filter (λ piece. not (is_spacing piece)) ps)) (apart 91 w (opens_before w))
      ∙ ap (option_map (λ ls. opens ∷ ls)) r.lexemes;
}
part_read End w r = record {
  inner = r.inner;
  lexemes = ap (λ ps. each_some lexeme_of (filter (λ piece. not (is_spacing piece)) ps))
      (apart 93 w (closes_before w)) ∙ ap (option_map (λ ls. closes ∷ ls)) r.lexemes;
}
part_read Interior w r = r

pub event_read : (names : List (List ℕ)) (e : Event) → is_name (slice_index_or names e.tier []) ≡ true
    → IsRead (event_text names e) (event_lexemes names e)
event_read names e h = part_read e.part (slice_index_or names e.tier []) (name_read (slice_index_or names e.tier []) h)
