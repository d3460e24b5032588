-- The lines of a hit, put together.
use Rattle.std.proofs.Common.{◌≡◌, ◌<◌, List, [], ◌++◌, codes, length, get_or, sym, ap, ◌∙◌, append-nil}
use Rattle.std.proofs.lemmas.List.{get_or-map}
use Rattle.std.specs.String.{string_bytes}
use Rattle.answer_text.specs.Text.{line, lines_text}
use Rattle.lexicon.specs.declared.entry.Entry.{Entry}
use Rattle.timeline_text.specs.Texts.{text_of}
use Rattle.comprehend.specs.{declared.hit.Hit.Hit, HitText.{names_of, hit_lines}}

pub hit_text_is : (lexicon : List Entry) (hit : Hit) (entry : Entry) → hit.index < length lexicon
    → entry ≡ get_or lexicon hit.index entry
    → line (codes "entry " ++ string_bytes entry.name)
    ++ line (codes "example " ++ text_of hit.example) ≡ lines_text (hit_lines (names_of lexicon) hit)
hit_text_is lexicon hit entry inside is =
    let name : get_or (names_of lexicon) hit.index [] ≡ string_bytes entry.name =
    get_or-map (λ (e : Entry). string_bytes e.name) lexicon hit.index entry [] inside
    ∙ ap (λ (e : Entry). string_bytes e.name) (sym is) in
    ap (λ n. line (codes "entry " ++ n) ++ line (codes "example " ++ text_of hit.example)) (sym name)
    ∙ ap (λ t. line (codes "entry " ++ get_or (names_of lexicon) hit.index []) ++ t)
    (sym (append-nil (line (codes "example " ++ text_of hit.example))))
