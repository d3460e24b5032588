-- Adding what a line says.
use Rattle.std.proofs.Common.{◌≡◌, ℕ, ◌+◌, ◌<◌, false, cond, ◌∷◌, [], ◌++◌, List, length, map, take, drop, get_or}
use Rattle.std.proofs.Common.{set, Global, refl, ap, sym, ◌∙◌, arith, None}
use Rattle.std.proofs.lemmas.List.{map-append, take_more, take_more_set, drop_more}
use Rattle.std.specs.{Prelude.nat_eq, List.list_any, Map.lookup, Cmp.Lexicographic.pointwise, String.string_bytes}
use Rattle.std.specs.declared.string.String.{String}
use Rattle.tier_core.specs.{declared.tier.TierKind.TierKind, declared.event.Event.Event}
use Rattle.tier_core.specs.{declared.constraint.Family.Family, declared.constraint.Constraint.Constraint}
use Rattle.tier_core.specs.Tiers.{is_input}
use Rattle.timeline_text.specs.declared.letter.Letter.{Letter}
use Rattle.grammar_reader.specs.Canonical.{names_in}
use Rattle.grammar_reader.specs.Values.{is_named, NamedTier, NamedConstraint, GrammarValue, inputs_of}
use Rattle.grammar_reader.specs.Seen.{tier_seen, tiers_seen, tiers_by, constraint_seen}
use Rattle.grammar_reader.proofs.{Known.known_any, Lexing.none_of}
use denote.Ref.{Bor}

-- a name that no tier has is no key
pub absent_by : (name : List ℕ) (es : List (Bor (List ℕ) × TierKind))
    → list_any (is_named name) (tiers_seen es) ≡ false → lookup (λ k. pointwise nat_eq name k.now) es ≡ None
absent_by name es h = none_of (lookup (λ k. pointwise nat_eq name k.now) es) (known_any name es ∙ h)

-- one tier more
pub tier_added : (es new : List (Bor (List ℕ) × TierKind)) (name : Bor (List ℕ)) (kind : TierKind)
    → new ≡ es ++ (name, kind) ∷ [] → tiers_seen new ≡ tiers_seen es ++ record { name = name.now; kind = kind } ∷ []
tier_added es new name kind e = ap tiers_seen e ∙ map-append tier_seen es ((name, kind) ∷ [])

abbrev pub grammar_with : List Letter → List NamedConstraint → List NamedTier → GrammarValue
grammar_with letters constraints tiers = record { tiers = tiers; letters = letters; constraints = constraints }

abbrev pub grammar_by : List NamedTier → List Letter → List NamedConstraint → GrammarValue
grammar_by tiers letters constraints = record { tiers = tiers; letters = letters; constraints = constraints }

abbrev named : List ℕ → Family → List Event → List Event → NamedConstraint
named n f l r = record { name = n; family = f; left = l; right = r }

pub with_tiers : (ts us : List NamedTier) (letters : List Letter) (constraints : List NamedConstraint) → ts ≡ us
    → grammar_with letters constraints ts ≡ grammar_with letters constraints us
with_tiers ts us letters constraints e = ap (grammar_with letters constraints) e

-- one event of a side more
pub event_more : {X Y : Type 0} (f : X → Y) (events : List X) (found : List Y) (p : ℕ) (d : X) (y : Y)
    → p < length events → p < length found → take p found ≡ map f (take p events) → y ≡ f (get_or events p d)
    → take (p + 1) (set found p y) ≡ map f (take (p + 1) events)
event_more f events found p d y l m e g = take_more_set found p y m ∙ ap (λ xs. xs ++ y ∷ []) e
    ∙ ap (λ x. map f (take p events) ++ x ∷ []) g
    ∙ sym (ap (map f) (take_more events p d l) ∙ map-append f (take p events) (get_or events p d ∷ []))

-- a constraint by its parts
pub constraint_is : (c : Constraint) (name : List ℕ) (family : Family) (left right : List Event)
    → string_bytes c.name ≡ name → c.family ≡ family → c.left ≡ left → c.right ≡ right
    → constraint_seen c ≡ record { name = name; family = family; left = left; right = right }
constraint_is c name family left right n f l r =
    ap (λ x. named x c.family c.left c.right) n ∙ ap (λ x. named name x c.left c.right) f
    ∙ ap (λ x. named name family x c.right) l ∙ ap (named name family left) r

-- one constraint more
pub constraint_added : (ts : List NamedTier) (ls : List Letter) (cs new : List Constraint) (c : Constraint)
    (n : NamedConstraint) → new ≡ cs ++ c ∷ [] → constraint_seen c ≡ n
    → grammar_by ts ls (map constraint_seen new) ≡ grammar_by ts ls (map constraint_seen cs ++ n ∷ [])
constraint_added ts ls cs new c n e f = ap (grammar_by ts ls)
    (ap (map constraint_seen) e ∙ map-append constraint_seen cs (c ∷ [])
    ∙ ap (λ x. map constraint_seen cs ++ x ∷ []) f)

-- the next tier, and those after it
pub tiers_next : (names : List (String Global)) (kinds same : List TierKind) (i : ℕ) (n : String Global)
    (k : TierKind) → same ≡ kinds → i < length same → length names ≡ length kinds
    → tiers_by (map string_bytes (drop i names)) (drop i kinds)
    ≡ record { name = string_bytes (get_or names i n); kind = get_or same i k } ∷ tiers_by
    (map string_bytes (drop (i + 1) names)) (drop (i + 1) kinds)
tiers_next names kinds same i n k e l m =
    ap (λ ks. tiers_by (map string_bytes (drop i names)) (drop i ks)) (sym e)
    ∙ ap (λ ns. tiers_by (map string_bytes ns) (drop i same)) (drop_more names i n (let w = ap length e in omega arith))
    ∙ ap (λ ks. tiers_by (string_bytes (get_or names i n) ∷ map string_bytes (drop (i + 1) names)) ks)
    (drop_more same i k l)
    ∙ ap (λ ks. record { name = string_bytes (get_or names i n); kind = get_or same i k } ∷ tiers_by
    (map string_bytes (drop (i + 1) names)) (drop (i + 1) ks)) e

-- the names of tiers by their names
pub names_back : (ns : List (List ℕ)) (ks : List TierKind) → length ns ≡ length ks
    → map (λ t. t.name) (tiers_by ns ks) ≡ ns
names_back [] ks l = refl
names_back (n ∷ ns) [] l = absurd (omega arith)
names_back (n ∷ ns) (k ∷ ks) l = ap (λ xs. n ∷ xs) (names_back ns ks (omega arith))

-- a tier that is no input tier is not among those of a mask
pub names_skip : (names : List (String Global)) (kinds same : List TierKind) (i mask : ℕ) (k : TierKind)
    → same ≡ kinds → i < length same → length names ≡ length kinds → is_input (get_or same i k) ≡ false
    → names_in (inputs_of (tiers_by (map string_bytes (drop i names)) (drop i kinds))) mask
    ≡ names_in (inputs_of (tiers_by (map string_bytes (drop (i + 1) names)) (drop (i + 1) kinds))) mask
names_skip [] kinds same i mask k e l m o = let w = ap length e in absurd (omega arith)
names_skip (n ∷ names) kinds same i mask k e l m o =
    let rest = tiers_by (map string_bytes (drop (i + 1) (n ∷ names))) (drop (i + 1) kinds) in
    ap (λ ts. names_in (inputs_of ts) mask) (tiers_next (n ∷ names) kinds same i n k e l m)
    ∙ ap (λ t. names_in (cond t (record {
      name = string_bytes (get_or (n ∷ names) i n);
      kind = get_or same i k;
    } ∷ inputs_of rest) (inputs_of rest)) mask) o
