-- Looking a name up in a list of files, one after the other.
use Rattle.std.proofs.Common.{◌≡◌, ℕ, ◌+◌, ◌<◌, true, false, cond, List, ◌∷◌, length, get_or, drop, Some, String}
use Rattle.std.proofs.Common.{Vec, string_bytes, ap, sym, ◌∙◌, drop-cons, add-one}
use Rattle.std.specs.Str.{bytes_eq}
use Rattle.outside.specs.Held.{files_of, file_text}

-- `file` is the file at index i, as a loop over the files reads it
module _ {Y Z : Type 0} (files : List (String Y × Vec ℕ Z)) (name : List ℕ) (i : ℕ) (file : String Y × Vec ℕ Z)
    (h : i < length files) (is : file ≡ get_or files i file) where
  cut : file_text (files_of (drop i files)) name ≡ file_text (files_of (file ∷ drop (i + 1) files)) name
  cut = ap (λ fs. file_text (files_of fs) name) (drop-cons files i file h
      ∙ ap (λ n. get_or files i file ∷ drop n files) (sym (add-one i)) ∙ ap (λ f. f ∷ drop (i + 1) files) (sym is))

  -- it has the name
  pub file_text-here : bytes_eq (string_bytes file.0) name ≡ true
      → file_text (files_of (drop i files)) name ≡ Some file.1.items
  file_text-here e = cut ∙ ap (λ b. cond b (Some file.1.items) (file_text (files_of (drop (i + 1) files)) name)) e

  -- it has another name
  pub file_text-next : bytes_eq (string_bytes file.0) name ≡ false
      → file_text (files_of (drop i files)) name ≡ file_text (files_of (drop (i + 1) files)) name
  file_text-next e = cut ∙ ap (λ b. cond b (Some file.1.items) (file_text (files_of (drop (i + 1) files)) name)) e
