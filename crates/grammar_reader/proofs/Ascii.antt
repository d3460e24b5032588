-- Names are ASCII.
use Rattle.std.proofs.Common.{◌≡◌, ℕ, zero, suc, ◌+◌, ◌<◌, Bool, true, false, ◌&&◌, List, [], ◌∷◌, length, get_or}
use Rattle.std.proofs.{Common.{map, refl, ap, sym, ◌∙◌, arith, subst}, lemmas.Bool.Decides.nat_tests}
use Rattle.std.proofs.{lemmas.Str.IsUtf8-from_ascii, lemmas.Bool.and_parts}
use Rattle.std.specs.{Prelude.{not, nat_le}, List.list_all, Str.{IsUtf8, IsAscii}, Map.keys_of}
use Rattle.tier_core.specs.declared.tier.TierKind.{TierKind}
use Rattle.grammar_reader.specs.{Pieces.is_word_byte, Statements.is_connective, Names.{is_name, begins_with_letter}}
use Rattle.grammar_reader.specs.{Seen.{tier_seen, tiers_seen, tiers_by}, Values.NamedTier}
use denote.Ref.{Bor}

byte_below : (b : ℕ) → is_word_byte b ≡ true → b < 128
byte_below b h = grind (arith, nat_tests)

ascii_at : (w : List ℕ) (i : ℕ) → list_all is_word_byte w ≡ true → get_or w i 0 < 128
ascii_at [] i h = omega arith
ascii_at (b ∷ w) zero h = byte_below b ((and_parts (is_word_byte b) (list_all is_word_byte w) h).0)
ascii_at (b ∷ w) (suc i) h = ascii_at w i ((and_parts (is_word_byte b) (list_all is_word_byte w) h).1)

-- what makes a word a name
pub record Name (w : List ℕ) : Type 0 where
  pub short : nat_le (length w) 32 ≡ true
  pub begins : begins_with_letter w ≡ true
  pub bytes : list_all is_word_byte w ≡ true
  pub other : not (is_connective w) ≡ true

pub name_parts : (w : List ℕ) → is_name w ≡ true → Name w
name_parts w h =
    let a = and_parts (nat_le (length w) 32 && begins_with_letter w && list_all is_word_byte w)
    (not (is_connective w)) h in
    let b = and_parts (nat_le (length w) 32 && begins_with_letter w) (list_all is_word_byte w) a.0 in
    let c = and_parts (nat_le (length w) 32) (begins_with_letter w) b.0 in
    record { short = c.0; begins = c.1; bytes = b.1; other = a.1 }

pub name_utf8 : (w : List ℕ) → is_name w ≡ true → IsUtf8 w
name_utf8 w h = IsUtf8-from_ascii w (λ i. ascii_at w i (name_parts w h).bytes)

-- each key of the map of tiers is a name
pub key_name : (es : List (Bor (List ℕ) × TierKind)) (i : ℕ) (d : Bor (List ℕ)) → i < length (keys_of es)
    → list_all (λ t. is_name t.name) (tiers_seen es) ≡ true → is_name (get_or (keys_of es) i d).now ≡ true
key_name [] i d l h = absurd (omega arith)
key_name (e ∷ es) zero d l h = (and_parts (is_name e.0.now) (list_all (λ t. is_name t.name) (tiers_seen es)) h).0
key_name (e ∷ es) (suc i) d l h = key_name es i d (omega arith)
    ((and_parts (is_name e.0.now) (list_all (λ t. is_name t.name) (tiers_seen es)) h).1)

-- tiers by the names and kinds of tiers
pub tiers_back : (ts : List NamedTier) → tiers_by (map (λ t. t.name) ts) (map (λ t. t.kind) ts) ≡ ts
tiers_back [] = refl
tiers_back (t ∷ ts) = ap (λ us. t ∷ us) (tiers_back ts)
