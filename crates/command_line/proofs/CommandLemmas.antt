-- Words are those of one command at most.
use Rattle.std.proofs.Common.{◌≡◌, ℕ, ◌<◌, ◌≤◌, ◌^◌, List, [], ◌∷◌, codes, drop, get_or, ap, sym, ◌∙◌, subst, arith}
use Rattle.std.proofs.{Common.refl, lemmas.Fmt.decimal_injective}
use Rattle.std.specs.{Prelude.if◌then◌else◌, Str.bytes_eq}
use Rattle.command_line.specs.Commands.{Command, canon, score, generate, show, tableau, once, comprehend, check}
use Rattle.command_line.specs.Commands.{sample, IsBudget, IsCommand}

-- one budget at most is given
one_budget : (words : List (List ℕ)) (a b : ℕ) → IsBudget words a → IsBudget words b → a ≡ b
one_budget [] a b p q = p ∙ sym q
one_budget (word ∷ []) a b p q =
    let few : a < 2 ^ 64 = omega (arith, p.1.1) in
    let less : b < 2 ^ 64 = omega (arith, q.1.1) in
    decimal_injective a b few less (sym p.0 ∙ q.0)
one_budget (word ∷ other ∷ words) a b p q = absurd p

-- the command that words are by the names and places of words, where they are one with this budget
abbrev by_places : List (List ℕ) → ℕ → Command
by_places words b =
    let name = get_or words 0 [] in
    let g = get_or words 1 [] in
    let first = get_or words 2 [] in
    let second = get_or words 3 [] in
    if bytes_eq name (codes "canon") then canon g else
    (if bytes_eq name (codes "score") then score g first else
    (if bytes_eq name (codes "generate") then generate g first b else
    (if bytes_eq name (codes "show") then show g first b else
    (if bytes_eq name (codes "tableau") then tableau g first second b else
    (if bytes_eq name (codes "once") then once g first b else
    (if bytes_eq name (codes "comprehend") then comprehend g first second b else
    (if bytes_eq name (codes "sample") then sample b else check g first)))))))

-- how many words stand before the budget of a command with this name
abbrev words_before : List ℕ → ℕ
words_before name =
    if bytes_eq name (codes "canon") then 2 else
    (if bytes_eq name (codes "tableau") then 4 else
    (if bytes_eq name (codes "comprehend") then 4 else
    (if bytes_eq name (codes "sample") then 1 else 3)))

abbrev behind : List (List ℕ) → List (List ℕ)
behind words = drop (words_before (get_or words 0 [])) words

-- the budget of a command, or the number that stands in its place, and the default budget where it has none
abbrev budget_in : Command → ℕ
budget_in (canon g) = 20000
budget_in (score g t) = 20000
budget_in (generate g f b) = b
budget_in (show g f b) = b
budget_in (tableau g f r b) = b
budget_in (once g f b) = b
budget_in (comprehend g l s b) = b
budget_in (check g a) = 20000
budget_in (sample n) = n

said_so : (words : List (List ℕ)) (a : Command) → IsCommand words a → by_places words (budget_in a) ≡ a
said_so words (canon g) p = ap (λ w. by_places w 20000) p
said_so words (score g t) p = ap (λ w. by_places w 20000) p
said_so words (generate g f b) p = ap (λ w. by_places w b) p.are
said_so words (show g f b) p = ap (λ w. by_places w b) p.are
said_so words (tableau g f r b) p = ap (λ w. by_places w b) p.are
said_so words (once g f b) p = ap (λ w. by_places w b) p.are
said_so words (comprehend g l s b) p = ap (λ w. by_places w b) p.are
said_so words (check g a) p = ap (λ w. by_places w 20000) p
said_so words (sample n) p = ap (λ w. by_places w n) p.are

budget_of : (words : List (List ℕ)) (a : Command) → IsCommand words a → IsBudget (behind words) (budget_in a)
budget_of words (canon g) p = subst (λ w. IsBudget (behind w) 20000) (sym p) refl
budget_of words (score g t) p = subst (λ w. IsBudget (behind w) 20000) (sym p) refl
budget_of words (generate g f b) p = subst (λ w. IsBudget (behind w) b) (sym p.are) p.budgeted
budget_of words (show g f b) p = subst (λ w. IsBudget (behind w) b) (sym p.are) p.budgeted
budget_of words (tableau g f r b) p = subst (λ w. IsBudget (behind w) b) (sym p.are) p.budgeted
budget_of words (once g f b) p = subst (λ w. IsBudget (behind w) b) (sym p.are) p.budgeted
budget_of words (comprehend g l s b) p = subst (λ w. IsBudget (behind w) b) (sym p.are) p.budgeted
budget_of words (check g a) p = subst (λ w. IsBudget (behind w) 20000) (sym p) refl
budget_of words (sample n) p =
    let most : n ≤ 65536 = omega (arith, p.is_number.1.1) in
    subst (λ w. IsBudget (behind w) n) (sym p.are) (p.is_number.0, (p.is_number.1.0, most))

pub one_command : (words : List (List ℕ)) (a b : Command) → IsCommand words a → IsCommand words b → a ≡ b
one_command words a b p q =
    let same = one_budget (behind words) (budget_in a) (budget_in b) (budget_of words a p) (budget_of words b q) in
    sym (said_so words a p) ∙ ap (by_places words) same ∙ said_so words b q
