-- The element at a place, and those after it.
use Rattle.std.proofs.Common.{◌≡◌, ℕ, suc, ◌+◌, ◌<◌, List, ◌∷◌, length, get_or, drop, ap, sym, ◌∙◌, drop-cons}
use Rattle.std.proofs.Common.{add-one}

pub from_line : {X : Type 0} (lines : List X) (k : ℕ) (line : X) → k < length lines → line ≡ get_or lines k line
    → drop k lines ≡ line ∷ drop (k + 1) lines
from_line lines k line h e = drop-cons lines k line h ∙ ap (λ x. x ∷ drop (suc k) lines) (sym e)
    ∙ ap (λ n. line ∷ drop n lines) (sym (add-one k))
