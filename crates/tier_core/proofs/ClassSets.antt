-- The sets of a class, from its word.
use Rattle.std.proofs.Common.{◌≡◌, ◌≢◌, ℕ, ◌+◌, ◌<◌, ◌≤◌, ◌^◌, List, length, get_or, set, map, bit_and, refl, ap}
use Rattle.std.proofs.{Common.{ap₂, sym, ◌∙◌, subst, arith, ⊎_elim}, lemmas.Bool.cases_eq}
use Rattle.std.proofs.lemmas.List.Elements.{All-from_get_or}
use Rattle.std.proofs.lemmas.List.{length-set, length-map, get_or-map, get_or-set_same, get_or-set_other}
use Rattle.std.specs.{Cmp.Lexicographic.slice_cmp, Ordering.nat_cmp}
use Rattle.tier_core.specs.{declared.class.Class.Class, ClassWords.{width_in, set_in, sets_in, below_in}}
use Rattle.tier_core.specs.{Classes.sets_of, Sets.{MeetAt, AreSets, single_set}, Timelines.symbol}
use Rattle.tier_core.specs.{declared.sym.Sym.Sym, declared.sym.Sym.TheVariants.Outside}
use Rattle.tier_core.proofs.ClassWordLemmas.{width_from, length_in, get_in, sets_from, met_at, met_below}
use Rattle.tier_core.proofs.ClassOrder.{words_cmp}

in_word : (class : Class) → sets_of class ≡ sets_in class.word (width_in class.word)
unfolding sets_of
in_word class = refl

-- one word is one class
pub same_sets : (a b : Class) → a.word ≡ b.word → sets_of a ≡ sets_of b
same_sets a b e = in_word a ∙ ap (λ word. sets_in word (width_in word)) e ∙ sym (in_word b)

pub width_is : (class : Class) → length (sets_of class) ≡ width_in class.word
width_is class = ap length (in_word class) ∙ length_in class.word (width_in class.word)

pub set_is : (class : Class) (t : ℕ) → t < length (sets_of class) → get_or (sets_of class) t 0 ≡ set_in class.word t
set_is class t inside = ap (λ sets. get_or sets t 0) (in_word class)
    ∙ get_in class.word (width_in class.word) t (omega (arith, width_is class))

-- a class has the sets that its word has, where it has as many
pub sets_are : (class : Class) (sets : List ℕ) → width_in class.word ≡ length sets
    → ((t : ℕ) → t < length sets → set_in class.word t ≡ get_or sets t 0) → sets_of class ≡ sets
sets_are class sets wide each =
    in_word class ∙ sets_from class.word (width_in class.word) sets (sym wide) (λ t inside. each t (omega arith))

-- one set of a class is put
pub sets_put : (class put : Class) (tier x : ℕ) → tier < width_in class.word → width_in put.word ≡ width_in class.word
    → set_in put.word tier ≡ x → ((t : ℕ) → t < 12 → t ≢ tier → set_in put.word t ≡ set_in class.word t)
    → sets_of put ≡ set (sets_of class) tier x
sets_put class put tier x inside wide here others =
    let long : length (set (sets_of class) tier x) ≡ width_in class.word = length-set (sets_of class) tier x
    ∙ width_is class in
    sets_are put (set (sets_of class) tier x) (wide ∙ sym long)
    (λ t l. ⊎_elim (λ e. ap (set_in put.word) e ∙ here
    ∙ sym (get_or-set_same (sets_of class) tier x 0 (omega (arith, width_is class)))
    ∙ ap (λ k. get_or (set (sets_of class) tier x) k 0) (sym e))
    (λ apart. others t (omega (arith, class.few)) apart ∙ sym (set_is class t (omega (arith, width_is class)))
    ∙ sym (get_or-set_other (sets_of class) tier t x 0 apart))
    (cases_eq t tier))

-- where a set is put, and words are met, there are as many tiers as before
pub put_width : (class : Class) (word tier : ℕ) → tier < length (sets_of class)
    → ((n : ℕ) → tier < n → n ≤ 12 → below_in word n ≡ below_in class.word n)
    → (width_in word ≡ width_in class.word) × (below_in word (width_in class.word) ≡ width_in class.word)
put_width class word tier inside below =
    let same : below_in word (width_in class.word)
    ≡ width_in class.word = below (width_in class.word) (omega (arith, width_is class)) class.few ∙ class.rest in
    (width_from word (width_in class.word) class.few same, same)

pub met_width : (a b : Class) → length (sets_of a) ≡ length (sets_of b)
    → (width_in (bit_and a.word b.word) ≡ width_in a.word) ×
    (below_in (bit_and a.word b.word) (width_in a.word) ≡ width_in a.word)
met_width a b e =
    let same : width_in b.word ≡ width_in a.word = sym (width_is b) ∙ sym e ∙ width_is a in
    let below : below_in (bit_and a.word b.word) (width_in a.word)
    ≡ width_in a.word = met_below a.word b.word (width_in a.word) a.rest
    (ap (below_in b.word) (sym same) ∙ b.rest ∙ same) in
    (width_from (bit_and a.word b.word) (width_in a.word) a.few below, below)

pub sets_met : (a b both : Class) → both.word ≡ bit_and a.word b.word → length (sets_of a) ≡ length (sets_of b)
    → MeetAt (sets_of a) (sets_of b) (sets_of both)
sets_met a b both is same t inside =
    set_is both t (omega (arith, width_is both, width_is a, ap width_in is, (met_width a b same).0))
    ∙ ap (λ w. set_in w t) is ∙ met_at a.word b.word t
    ∙ ap₂ bit_and (sym (set_is a t inside)) (sym (set_is b t (omega arith)))

pub sets_ordered : (a b : Class) → a.word < 2 ^ 64 → b.word < 2 ^ 64
    → nat_cmp a.word b.word ≡ slice_cmp nat_cmp (sets_of a) (sets_of b)
sets_ordered a b la lb =
    words_cmp a.word b.word (width_in a.word) (width_in b.word) a.few b.few la lb a.rest b.rest refl refl
    ∙ ap₂ (slice_cmp nat_cmp) (sym (in_word a)) (sym (in_word b))

-- each set of a class is one
pub sets_few : (class : Class) → AreSets (sets_of class)
sets_few class = All-from_get_or (λ x. x < 32) (sets_of class) 0
    (λ t inside. subst (λ x. x < 32) (sym (set_is class t inside)) (omega arith))

-- ---- the class of one column

pub single_next : (word next tier x : ℕ) (column : List Sym) → tier < length column → length column ≤ 12
    → x ≡ single_set (symbol column tier)
    → set_in next tier ≡ x → ((t : ℕ) → t < 12 → t ≢ tier → set_in next t ≡ set_in word t)
    → ((t : ℕ) → t < tier → set_in word t ≡ get_or (map single_set column) t 0) → (t : ℕ) → t < tier + 1
    → set_in next t ≡ get_or (map single_set column) t 0
single_next word next tier x column inside few is here others done t l =
    ⊎_elim (λ e. ap (set_in next) e ∙ here ∙ is ∙ sym (get_or-map single_set column tier Outside 0 inside)
    ∙ ap (λ k. get_or (map single_set column) k 0) (sym e))
    (λ apart. others t (omega arith) apart ∙ done t (omega arith))
    (cases_eq t tier)

pub sets_single : (class : Class) (column : List Sym) → below_in class.word (length column) ≡ length column
    → length column ≤ 12
    → ((t : ℕ) → t < length column → set_in class.word t ≡ get_or (map single_set column) t 0)
    → sets_of class ≡ map single_set column
sets_single class column rest few each =
    let long : length (map single_set column) ≡ length column = length-map column single_set in
    sets_are class (map single_set column) (width_from class.word (length column) few rest ∙ sym long)
    (λ t l. each t (omega arith))
