-- What the lines of a text make is within the limits, with names that are names and are there once.
use Rattle.std.proofs.Common.{◌≡◌, ℕ, suc, ◌+◌, ◌*◌, ◌^◌, ◌<◌, ◌≤◌, Bool, true, false, cond, not, ◌&&◌, ◌||◌, List}
use Rattle.std.proofs.Common.{[], ◌∷◌, ◌++◌, length, map, Some, None, refl, ap, sym, ◌∙◌, subst, arith}
use Rattle.std.proofs.{Common.length-append, lemmas.Bool.{false≢true, and_parts, and_from, or_parts, not-false}}
use Rattle.std.proofs.{lemmas.Bool.Decides.nat_tests, lemmas.List.{map-append, length-map}}
use Rattle.std.proofs.{lemmas.List.Elements.filter-append, lemmas.List.Folds.list_all-append}
use Rattle.std.specs.{Prelude.{nat_le, nat_lt}, List.{list_any, list_all, find, position_or_len}}
use Rattle.std.specs.{Option.option_map_or, Str.bytes_eq}
use Rattle.tier_core.specs.{declared.event.Event.Event, declared.tier.TierKind.TierKind, Tiers.{is_input, is_free}}
use Rattle.timeline_text.specs.declared.letter.Letter.{Letter}
use Rattle.timeline_text.proofs.Searches.{by_test}
use Rattle.grammar_reader.specs.Statements.{Statement, tier, letter, constraint, NamedEvent}
use Rattle.grammar_reader.specs.{Names.{is_name, is_letter_byte, has_twice}, Values.{GrammarValue, NamedTier}}
use Rattle.grammar_reader.specs.Values.{NamedConstraint, is_named, inputs_of, free_of, letter_name, has_sound}
use Rattle.grammar_reader.specs.{Values.{is_side, has_sides, IsProperGrammar}, Reading.{nothing, has_bad_name}}
use Rattle.grammar_reader.specs.Reading.{is_twice_named, is_unknown, has_unknown_tier, is_input_named, has_no_input}
use Rattle.grammar_reader.specs.Reading.{is_tier_too_many, is_constraint_too_many, has_too_many_events}
use Rattle.grammar_reader.specs.Reading.{first_that_comes, cause_of, tier_index, indexed_event, named_mask}
use Rattle.grammar_reader.specs.{Reading.{first_byte, with_statement}, declared.grammar_err.GrammarCause.GrammarCause}
use Rattle.grammar_reader.specs.declared.grammar_err.GrammarCause.TheVariants.{BadName, TwiceNamed, UnknownTier}
use Rattle.grammar_reader.specs.declared.grammar_err.GrammarCause.TheVariants.{NotInput, TooManyTiers}
use Rattle.grammar_reader.specs.declared.grammar_err.GrammarCause.TheVariants.{TooManyConstraints, TooManyEvents}
use Rattle.grammar_reader.proofs.{Lists.list_any-map, Twice.once_push}

-- ---- tests

pub all_weaker : {X : Type 0} (p q : X → Bool) (xs : List X) → ((x : X) → p x ≡ true → q x ≡ true)
    → list_all p xs ≡ true → list_all q xs ≡ true
all_weaker p q [] k h = refl
all_weaker p q (x ∷ xs) k h = let e = and_parts (p x) (list_all p xs) h in and_from (q x) (list_all q xs) (k x e.0)
    (all_weaker p q xs k e.1)

pub all_push : {X : Type 0} (p : X → Bool) (xs : List X) (x : X) → list_all p xs ≡ true → p x ≡ true
    → list_all p (xs ++ x ∷ []) ≡ true
all_push p xs x h k = list_all-append p xs (x ∷ [])
    ∙ and_from (list_all p xs) (p x && true) h (and_from (p x) true k refl)

-- no row of the table of causes comes
record NoRow (t : Bool) (rows : List (Bool × GrammarCause)) : Type 0 where
  here : t ≡ false
  rest : first_that_comes rows ≡ None

no_row : (t : Bool) (c : GrammarCause) (rows : List (Bool × GrammarCause)) → first_that_comes ((t, c) ∷ rows) ≡ None
    → NoRow t rows
no_row true c rows h = cc
no_row false c rows h = record { here = refl; rest = h }

-- what no cause of a statement says
pub record NoCause (g : GrammarValue) (s : Statement) : Type 0 where
  pub names : has_bad_name s ≡ false
  pub once : is_twice_named g s ≡ false
  pub known : has_unknown_tier g s ≡ false
  pub inputs : has_no_input g s ≡ false
  pub tiers : is_tier_too_many g s ≡ false
  pub constraints : is_constraint_too_many g s ≡ false
  pub events : has_too_many_events s ≡ false

abbrev rows7 : GrammarValue → Statement → List (Bool × GrammarCause)
rows7 g s = (has_too_many_events s, TooManyEvents) ∷ []

abbrev rows6 : GrammarValue → Statement → List (Bool × GrammarCause)
rows6 g s = (is_constraint_too_many g s, TooManyConstraints) ∷ rows7 g s

abbrev rows5 : GrammarValue → Statement → List (Bool × GrammarCause)
rows5 g s = (is_tier_too_many g s, TooManyTiers) ∷ rows6 g s

abbrev rows4 : GrammarValue → Statement → List (Bool × GrammarCause)
rows4 g s = (has_no_input g s, NotInput) ∷ rows5 g s

abbrev rows3 : GrammarValue → Statement → List (Bool × GrammarCause)
rows3 g s = (has_unknown_tier g s, UnknownTier) ∷ rows4 g s

abbrev rows2 : GrammarValue → Statement → List (Bool × GrammarCause)
rows2 g s = (is_twice_named g s, TwiceNamed) ∷ rows3 g s

pub no_cause : (g : GrammarValue) (s : Statement) → cause_of g s ≡ None → NoCause g s
no_cause g s h =
    let a = no_row (has_bad_name s) BadName (rows2 g s) h in
    let b = no_row (is_twice_named g s) TwiceNamed (rows3 g s) a.rest in
    let c = no_row (has_unknown_tier g s) UnknownTier (rows4 g s) b.rest in
    let d = no_row (has_no_input g s) NotInput (rows5 g s) c.rest in
    let e = no_row (is_tier_too_many g s) TooManyTiers (rows6 g s) d.rest in
    let f = no_row (is_constraint_too_many g s) TooManyConstraints (rows7 g s) e.rest in
    let i = no_row (has_too_many_events s) TooManyEvents [] f.rest in
    record {
      names = a.here;
      once = b.here;
      known = c.here;
      inputs = d.here;
      tiers = e.here;
      constraints = f.here;
      events = i.here;
    }

pub cause_none : (g : GrammarValue) (s : Statement) → NoCause g s → cause_of g s ≡ None
cause_none g s n =
    ap (λ t. first_that_comes ((t, BadName) ∷ rows2 g s)) n.names
    ∙ ap (λ t. first_that_comes ((t, TwiceNamed) ∷ rows3 g s)) n.once
    ∙ ap (λ t. first_that_comes ((t, UnknownTier) ∷ rows4 g s)) n.known
    ∙ ap (λ t. first_that_comes ((t, NotInput) ∷ rows5 g s)) n.inputs
    ∙ ap (λ t. first_that_comes ((t, TooManyTiers) ∷ rows6 g s)) n.tiers
    ∙ ap (λ t. first_that_comes ((t, TooManyConstraints) ∷ rows7 g s)) n.constraints
    ∙ ap (λ t. first_that_comes ((t, TooManyEvents) ∷ [])) n.events

-- ---- tiers

-- masks and numbers of tiers stay within more tiers
sound_within : (m n : ℕ) (l : Letter) → 2 ^ m ≤ 2 ^ n → has_sound m l ≡ true → has_sound n l ≡ true
sound_within m n l k h = let e = and_parts (nat_lt 0 l.tiers) (nat_lt l.tiers (2 ^ m)) h in and_from
    (nat_lt 0 l.tiers) (nat_lt l.tiers (2 ^ n)) e.0 (grind (arith, nat_tests, e.1))

side_within : (m n : ℕ) (es : List Event) → m ≤ n → is_side m es ≡ true → is_side n es ≡ true
side_within m n es k h =
    let e = and_parts (nat_le 1 (length es) && nat_le (length es) 8) (list_all (λ x. nat_lt x.tier m) es) h in
    and_from (nat_le 1 (length es) && nat_le (length es) 8) (list_all (λ x. nat_lt x.tier n) es) e.0
    (all_weaker (λ x. nat_lt x.tier m) (λ x. nat_lt x.tier n) es (λ x t. grind (arith, nat_tests)) e.1)

sides_within : (m n : ℕ) (c : NamedConstraint) → m ≤ n → has_sides m c ≡ true → has_sides n c ≡ true
sides_within m n c k h = let e = and_parts (is_side m c.left) (is_side m c.right) h in and_from (is_side n c.left)
    (is_side n c.right) (side_within m n c.left k e.0) (side_within m n c.right k e.1)

pow_more : (m n : ℕ) → m ≤ n → n ≤ m + 1 → 2 ^ m ≤ 2 ^ n
pow_more m n k l = by_test (nat_lt m n) (λ e. let same : n
    ≡ suc m = grind (arith, nat_tests) in subst (λ (x : ℕ). 2 ^ m ≤ 2 ^ x) (sym same) (omega arith))
    (λ e. let same : n ≡ m = grind (arith, nat_tests) in subst (λ (x : ℕ). 2 ^ m ≤ 2 ^ x) (sym same) (omega arith))

-- what the limits say of the tiers with one more
record Fits (tiers : List NamedTier) (t : NamedTier) : Type 0 where
  all : length (tiers ++ t ∷ []) ≤ 12
  inputs : length (inputs_of (tiers ++ t ∷ [])) ≤ 6
  free : length (free_of (tiers ++ t ∷ [])) ≤ 8
  more : length (inputs_of tiers) ≤ length (inputs_of (tiers ++ t ∷ []))
  one : length (inputs_of (tiers ++ t ∷ [])) ≤ length (inputs_of tiers) + 1

kind_fits : (tiers : List NamedTier) (name : List ℕ) (kind : TierKind) → length (inputs_of tiers) ≤ 6
    → length (free_of tiers) ≤ 8
    → (nat_le 12 (length tiers) || (is_input kind && nat_le 6 (length (inputs_of tiers))) ||
    (is_free kind && nat_le 8 (length (free_of tiers)))) ≡ false
    → Fits tiers (record { name = name; kind = kind })
kind_fits tiers name kind i f h =
    let a = or_parts (nat_le 12 (length tiers) || (is_input kind && nat_le 6 (length (inputs_of tiers))))
    (is_free kind && nat_le 8 (length (free_of tiers))) h in
    let b = or_parts (nat_le 12 (length tiers)) (is_input kind && nat_le 6 (length (inputs_of tiers))) a.0 in
    by_kind kind b.0 b.1 a.1
  where
    by_kind : (kind : TierKind) → nat_le 12 (length tiers) ≡ false
        → (is_input kind && nat_le 6 (length (inputs_of tiers))) ≡ false
        → (is_free kind && nat_le 8 (length (free_of tiers))) ≡ false
        → Fits tiers (record { name = name; kind = kind })
    by_kind kind x y z =
        let t : NamedTier = record { name = name; kind = kind } in
        let m : length tiers < 12 = grind (arith, nat_tests) in
        let p = ap length (filter-append (λ u. is_input u.kind) tiers (t ∷ []))
        ∙ length-append (inputs_of tiers) (inputs_of (t ∷ [])) in
        let q = ap length (filter-append (λ u. is_free u.kind) tiers (t ∷ []))
        ∙ length-append (free_of tiers) (free_of (t ∷ [])) in
        record {
          all = omega (arith, length-append tiers (t ∷ []));
          inputs = by_test (is_input kind)
              (λ e. let l : length (inputs_of tiers) < 6 = let w = sym
              (ap (λ b. b && nat_le 6 (length (inputs_of tiers))) e)
              ∙ y in grind (arith, nat_tests) in let o : length (inputs_of (t ∷ []))
              ≡ 1 = ap (λ b. length (cond b (t ∷ []) [])) e in omega arith)
              (λ e. let o : length (inputs_of (t ∷ [])) ≡ 0 = ap (λ b. length (cond b (t ∷ []) [])) e in omega arith);
          free = by_test (is_free kind)
              (λ e. let l : length (free_of tiers) < 8 = let w = sym
              (ap (λ b. b && nat_le 8 (length (free_of tiers))) e)
              ∙ z in grind (arith, nat_tests) in let o : length (free_of (t ∷ []))
              ≡ 1 = ap (λ b. length (cond b (t ∷ []) [])) e in omega arith)
              (λ e. let o : length (free_of (t ∷ [])) ≡ 0 = ap (λ b. length (cond b (t ∷ []) [])) e in omega arith);
          more = omega arith;
          one = by_test (is_input kind)
              (λ e. let o : length (inputs_of (t ∷ [])) ≡ 1 = ap (λ b. length (cond b (t ∷ []) [])) e in omega arith)
              (λ e. let o : length (inputs_of (t ∷ [])) ≡ 0 = ap (λ b. length (cond b (t ∷ []) [])) e in omega arith);
        }

-- a tier without a cause
pub tier_made : (g : GrammarValue) (name : List ℕ) (kind : TierKind) → IsProperGrammar g → NoCause g (tier name kind)
    → IsProperGrammar (with_statement g (tier name kind))
tier_made g name kind m n =
    let t : NamedTier = record { name = name; kind = kind } in
    let fits = kind_fits g.tiers name kind m.few_inputs m.few_free n.tiers in
    let longer : length g.tiers ≤ length (g.tiers ++ t ∷ []) = omega (arith, length-append g.tiers (t ∷ [])) in
    record {
      tier_names = all_push (λ x. is_name x.name) g.tiers t m.tier_names (not-false (is_name name) n.names);
      tiers_once = ap has_twice (map-append (λ x. x.name) g.tiers (t ∷ []))
          ∙ once_push (map (λ x. x.name) g.tiers) name m.tiers_once
          (list_any-map (bytes_eq name) (λ x. x.name) g.tiers ∙ n.once);
      few_tiers = fits.all;
      few_inputs = fits.inputs;
      few_free = fits.free;
      letter_names = m.letter_names;
      letters_once = m.letters_once;
      sounds = all_weaker (has_sound (length (inputs_of g.tiers)))
          (has_sound (length (inputs_of (g.tiers ++ t ∷ [])))) g.letters
          (λ l h. sound_within (length (inputs_of g.tiers)) (length (inputs_of (g.tiers ++ t ∷ []))) l
          (pow_more (length (inputs_of g.tiers))
          (length (inputs_of (g.tiers ++ t ∷ []))) fits.more fits.one) h) m.sounds;
      constraint_names = m.constraint_names;
      constraints_once = m.constraints_once;
      few_constraints = m.few_constraints;
      sides = all_weaker (has_sides (length g.tiers)) (has_sides (length (g.tiers ++ t ∷ []))) g.constraints
          (λ c h. sides_within (length g.tiers) (length (g.tiers ++ t ∷ [])) c longer h) m.sides;
    }

-- ---- letters

bit_below : (t : Bool) (k m : ℕ) → m < 2 ^ k → cond t 1 0 + 2 * m < 2 ^ (suc k)
bit_below true k m h = omega arith
bit_below false k m h = omega arith

mask_below : (ts : List NamedTier) (names : List (List ℕ)) → named_mask ts names < 2 ^ length ts
mask_below [] names = omega arith
mask_below (t ∷ ts) names = bit_below (list_any (λ n. is_named n t) names) (length ts) (named_mask ts names)
    (mask_below ts names)

bit_some : (t : Bool) (m : ℕ) → (t ≡ false → 0 < m) → 0 < cond t 1 0 + 2 * m
bit_some true m h = omega arith
bit_some false m h = let l = h refl in omega arith

-- a name of an input tier is found among the input tiers
input_found : (tiers : List NamedTier) (name : List ℕ) → is_input_named tiers name ≡ true
    → list_any (is_named name) (inputs_of tiers) ≡ true
input_found [] name h = absurd (false≢true h)
input_found (t ∷ tiers) name h = by_test (is_named name t)
    (λ e.
    let k : is_input t.kind ≡ true = sym
    (ap (λ b. option_map_or (λ x. is_input x.kind) (cond b (Some t) (find (is_named name) tiers)) false) e) ∙ h in
    ap (λ b. list_any (is_named name) (cond b (t ∷ inputs_of tiers) (inputs_of tiers))) k
    ∙ ap (λ b. b || list_any (is_named name) (inputs_of tiers)) e)
    (λ e.
    let rest = input_found tiers name (sym
    (ap (λ b. option_map_or (λ x. is_input x.kind) (cond b (Some t) (find (is_named name) tiers)) false) e)
    ∙ h) in
    by_test (is_input t.kind)
    (λ k. ap (λ b. list_any (is_named name) (cond b (t ∷ inputs_of tiers) (inputs_of tiers))) k
    ∙ ap (λ b. b || list_any (is_named name) (inputs_of tiers)) e ∙ rest)
    (λ k. ap (λ b. list_any (is_named name) (cond b (t ∷ inputs_of tiers) (inputs_of tiers))) k ∙ rest))

mask_some : (ts : List NamedTier) (name : List ℕ) (names : List (List ℕ)) → list_any (is_named name) ts ≡ true
    → 0 < named_mask ts (name ∷ names)
mask_some [] name names h = absurd (false≢true h)
mask_some (t ∷ ts) name names h = bit_some (is_named name t || list_any (λ n. is_named n t) names)
    (named_mask ts (name ∷ names))
    (λ e. mask_some ts name names (let a = or_parts (is_named name t) (list_any (λ n. is_named n t) names) e in sym
    (ap (λ b. b || list_any (is_named name) ts) a.0) ∙ h))

one_byte : (x : List ℕ) → is_letter_byte x ≡ true → x ≡ first_byte x ∷ []
one_byte [] h = absurd (false≢true h)
one_byte (b ∷ []) h = refl
one_byte (b ∷ c ∷ x) h = absurd (false≢true h)

sound_made : (tiers : List NamedTier) (x : List ℕ) (name : List ℕ) (names : List (List ℕ))
    → is_input_named tiers name ≡ true → has_sound (length (inputs_of tiers))
    (record { byte = first_byte x; tiers = named_mask (inputs_of tiers) (name ∷ names) }) ≡ true
sound_made tiers x name names h =
    let some = mask_some (inputs_of tiers) name names (input_found tiers name h) in
    let below = mask_below (inputs_of tiers) (name ∷ names) in
    and_from (nat_lt 0 (named_mask (inputs_of tiers) (name ∷ names)))
    (nat_lt (named_mask (inputs_of tiers) (name ∷ names)) (2 ^ length (inputs_of tiers))) (grind (arith, nat_tests))
    (grind (arith, nat_tests))

-- a letter without a cause
pub letter_made : (g : GrammarValue) (x name : List ℕ) (names : List (List ℕ)) → IsProperGrammar g
    → NoCause g (letter x (name ∷ names)) → IsProperGrammar (with_statement g (letter x (name ∷ names)))
letter_made g x name names m n =
    let l : Letter = record { byte = first_byte x; tiers = named_mask (inputs_of g.tiers) (name ∷ names) } in
    let a = or_parts (not (is_letter_byte x)) (list_any (λ w. not (is_name w)) (name ∷ names)) n.names in
    let is = one_byte x (not-false (is_letter_byte x) a.0) in
    let b = or_parts (list_any (λ k. bytes_eq x (letter_name k)) g.letters) (has_twice (name ∷ names)) n.once in
    let c = or_parts (not (is_input_named g.tiers name))
    (list_any (λ w. not (is_input_named g.tiers w)) names) n.inputs in
    record {
      tier_names = m.tier_names;
      tiers_once = m.tiers_once;
      few_tiers = m.few_tiers;
      few_inputs = m.few_inputs;
      few_free = m.few_free;
      letter_names = all_push (λ k. is_letter_byte (letter_name k)) g.letters l m.letter_names
          (ap is_letter_byte (sym is) ∙ not-false (is_letter_byte x) a.0);
      letters_once = ap has_twice (map-append letter_name g.letters (l ∷ []))
          ∙ once_push (map letter_name g.letters) (letter_name l) m.letters_once
          (list_any-map (bytes_eq (letter_name l)) letter_name g.letters
          ∙ ap (λ w. list_any (λ k. bytes_eq w (letter_name k)) g.letters) (sym is) ∙ b.0);
      sounds = all_push (has_sound (length (inputs_of g.tiers))) g.letters l m.sounds
          (sound_made g.tiers x name names (not-false (is_input_named g.tiers name) c.0));
      constraint_names = m.constraint_names;
      constraints_once = m.constraints_once;
      few_constraints = m.few_constraints;
      sides = m.sides;
    }

-- ---- constraints

found_below : (t : Bool) (n m : ℕ) (r : Bool) → (t || r) ≡ true → (r ≡ true → n < m) → cond (not t) (1 + n) 0 < suc m
found_below true n m r h k = omega arith
found_below false n m r h k = let l = k h in omega arith

place_below : (tiers : List NamedTier) (name : List ℕ) → list_any (is_named name) tiers ≡ true
    → position_or_len (is_named name) tiers < length tiers
place_below [] name h = absurd (false≢true h)
place_below (t ∷ tiers) name h = found_below (is_named name t) (position_or_len (is_named name) tiers) (length tiers)
    (list_any (is_named name) tiers) h (place_below tiers name)

pub number_below : (tiers : List NamedTier) (name : List ℕ) → list_any (is_named name) tiers ≡ true
    → tier_index tiers name < length tiers
number_below tiers name h = let l = place_below tiers name h in grind (arith, nat_tests)

numbers_below : (tiers : List NamedTier) (es : List NamedEvent) → list_any (λ e. is_unknown tiers e.tier) es ≡ false
    → list_all (λ e. nat_lt e.tier (length tiers)) (map (indexed_event tiers) es) ≡ true
numbers_below tiers [] h = refl
numbers_below tiers (e ∷ es) h =
    let a = or_parts (is_unknown tiers e.tier) (list_any (λ x. is_unknown tiers x.tier) es) h in
    let l = number_below tiers e.tier (not-false (list_any (is_named e.tier) tiers) a.0) in
    and_from (nat_lt (tier_index tiers e.tier) (length tiers))
    (list_all (λ x. nat_lt x.tier (length tiers)) (map (indexed_event tiers) es)) (grind (arith, nat_tests))
    (numbers_below tiers es a.1)

side_made : (tiers : List NamedTier) (es : List NamedEvent) → 0 < length es → nat_lt 8 (length es) ≡ false
    → list_any (λ e. is_unknown tiers e.tier) es ≡ false → is_side (length tiers) (map (indexed_event tiers) es) ≡ true
side_made tiers es some few known =
    let n = length-map es (indexed_event tiers) in
    and_from (nat_le 1 (length (map (indexed_event tiers) es)) && nat_le (length (map (indexed_event tiers) es)) 8)
    (list_all (λ e. nat_lt e.tier (length tiers)) (map (indexed_event tiers) es))
    (and_from (nat_le 1 (length (map (indexed_event tiers) es))) (nat_le (length (map (indexed_event tiers) es)) 8)
    (grind (arith, nat_tests)) (grind (arith, nat_tests)))
    (numbers_below tiers es known)

-- a constraint without a cause
pub constraint_made : (g : GrammarValue) (name : List ℕ) (family : _) (left right : List NamedEvent) → 0 < length left
    → 0 < length right → IsProperGrammar g → NoCause g (constraint name family left right)
    → IsProperGrammar (with_statement g (constraint name family left right))
constraint_made g name family left right some_left some_right m n =
    let c : NamedConstraint = record {
      name = name;
      family = family;
      left = map (indexed_event g.tiers) left;
      right = map (indexed_event g.tiers) right;
    } in
    let k = or_parts (list_any (λ e. is_unknown g.tiers e.tier) left)
    (list_any (λ e. is_unknown g.tiers e.tier) right) n.known in
    let e = or_parts (nat_lt 8 (length left)) (nat_lt 8 (length right)) n.events in
    record {
      tier_names = m.tier_names;
      tiers_once = m.tiers_once;
      few_tiers = m.few_tiers;
      few_inputs = m.few_inputs;
      few_free = m.few_free;
      letter_names = m.letter_names;
      letters_once = m.letters_once;
      sounds = m.sounds;
      constraint_names = all_push (λ x. is_name x.name) g.constraints c m.constraint_names
          (not-false (is_name name) n.names);
      constraints_once = ap has_twice (map-append (λ x. x.name) g.constraints (c ∷ []))
          ∙ once_push (map (λ x. x.name) g.constraints) name m.constraints_once
          (list_any-map (bytes_eq name) (λ x. x.name) g.constraints ∙ n.once);
      few_constraints = let few : nat_le 24 (length g.constraints)
          ≡ false = n.constraints in let a = length-append g.constraints (c ∷ []) in grind (arith, nat_tests);
      sides = all_push (has_sides (length g.tiers)) g.constraints c m.sides
          (and_from (is_side (length g.tiers) c.left) (is_side (length g.tiers) c.right)
          (side_made g.tiers left some_left e.0 k.0) (side_made g.tiers right some_right e.1 k.1));
    }

pub nothing_made : IsProperGrammar nothing
nothing_made = record {
  tier_names = refl;
  tiers_once = refl;
  few_tiers = omega arith;
  few_inputs = omega arith;
  few_free = omega arith;
  letter_names = refl;
  letters_once = refl;
  sounds = refl;
  constraint_names = refl;
  constraints_once = refl;
  few_constraints = omega arith;
  sides = refl;
}
