-- Each byte of the text of a timeline is a symbol or a space.
use Rattle.std.proofs.Common.{◌≡◌, false, not, ◌||◌, List, [], ◌∷◌, map, refl, ap, ◌∙◌}
use Rattle.std.proofs.lemmas.List.Folds.{list_any-append}
use Rattle.std.specs.List.{list_any}
use Rattle.tier_core.specs.{declared.sym.Sym.Sym, declared.sym.Sym.TheVariants.{Outside, Inside, Start, End, Both}}
use Rattle.tier_core.specs.Symbols.{byte_of}
use Rattle.timeline_text.specs.{Texts.text_of, Causes.is_known}

sym_known : (s : Sym) → not (is_known (byte_of s)) ≡ false
sym_known Outside = refl
sym_known Inside = refl
sym_known Start = refl
sym_known End = refl
sym_known Both = refl

column_known : (column : List Sym) → list_any (λ b. not (is_known b)) (map byte_of column) ≡ false
column_known [] = refl
column_known (s ∷ column) = ap (λ t. t || list_any (λ b. not (is_known b)) (map byte_of column)) (sym_known s)
    ∙ column_known column

pub text_known : (column : List Sym) (T : List (List Sym))
    → list_any (λ b. not (is_known b)) (text_of (column ∷ T)) ≡ false
text_known column [] = column_known column
text_known column (next ∷ T) = list_any-append (λ b. not (is_known b)) (map byte_of column) (32 ∷ text_of (next ∷ T))
    ∙ ap (λ t. t || list_any (λ b. not (is_known b)) (32 ∷ text_of (next ∷ T))) (column_known column)
    ∙ text_known next T
