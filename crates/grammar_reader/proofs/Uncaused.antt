-- No line of a canonical text has a cause, given the lines before it.
use Rattle.timeline_text.proofs.Searches.{by_test}
use Rattle.std.proofs.{lemmas.Bool.{and_parts, or_from}, Common.{◌≡◌, ℕ, ◌^◌, ◌<◌, ◌≤◌, Bool, true, false, cond, not}}
use Rattle.std.proofs.Common.{◌&&◌, ◌||◌, List, [], ◌∷◌, ◌++◌, length, map, filter, refl, ap, sym, ◌∙◌, subst}
use Rattle.std.proofs.{Common.{arith, length-append}, lemmas.Bool.Decides.nat_tests, lemmas.List.length-map}
use Rattle.std.proofs.lemmas.List.Elements.{filter-append}
use Rattle.std.specs.{Prelude.{nat_lt, nat_le}, List.{list_any, list_all, AllByRecursion}, Str.bytes_eq}
use Rattle.tier_core.specs.{declared.event.Event.Event, Tiers.{is_input, is_free}}
use Rattle.tier_core.proofs.Bools.{and_false}
use Rattle.timeline_text.specs.declared.letter.Letter.{Letter}
use Rattle.grammar_reader.specs.{Statements.{tier, letter, constraint}, Names.{is_name, is_letter_byte, has_twice}}
use Rattle.grammar_reader.specs.Values.{GrammarValue, NamedTier, NamedConstraint, inputs_of, free_of, letter_name}
use Rattle.grammar_reader.specs.{Values.{has_sound, is_side, has_sides, IsProperGrammar}, Canonical.names_in}
use Rattle.grammar_reader.specs.Reading.{is_unknown, is_input_named, indexed_event}
use Rattle.grammar_reader.proofs.{Lawful.NoCause, MasksBack.{none_in, once_in}, Once.{none_filtered, none_fails}}
use Rattle.grammar_reader.proofs.Once.{at_place, front_once, once_filtered, none_unknown, none_other, name_at}
use Rattle.grammar_reader.proofs.{Once.{known_at, number_at, named_at}, Sides.{HasName, named_event}}
use Rattle.grammar_reader.proofs.Adding.{grammar_by}

-- ---- grammars of which some lines are read

abbrev pub with_tiers : List NamedTier → GrammarValue
with_tiers tiers = record { tiers = tiers; letters = []; constraints = [] }

abbrev pub with_letters : List NamedTier → List Letter → GrammarValue
with_letters tiers letters = record { tiers = tiers; letters = letters; constraints = [] }

-- ---- tiers

not_all_before : {X : Type 0} (front : List X) (x : X) (rest : List X) (n : ℕ) → length (front ++ x ∷ rest) ≤ n
    → nat_le n (length front) ≡ false
not_all_before front x rest n l = let k = length-append front
    (x ∷ rest) in let m : length front < n = omega arith in grind (arith, nat_tests)

one_kept : {X : Type 0} (b : Bool) (x : X) (xs : List X) → b ≡ true → 1 ≤ length (cond b (x ∷ xs) xs)
one_kept true x xs e = omega arith
one_kept false x xs e = cc

few_before : {X : Type 0} (p : X → Bool) (front : List X) (x : X) (rest : List X) (n : ℕ)
    → length (filter p (front ++ x ∷ rest)) ≤ n → (p x && nat_le n (length (filter p front))) ≡ false
few_before p front x rest n l = by_test (p x)
    (λ e.
    let k = ap length (filter-append p front (x ∷ rest)) ∙ length-append (filter p front) (filter p (x ∷ rest)) in
    let o = one_kept (p x) x (filter p rest) e in
    let m : length (filter p front) < n = omega (arith, k, o, l) in
    let t : nat_le n (length (filter p front)) ≡ false = grind (arith, nat_tests) in
    ap (λ b. p x && b) t ∙ and_false (p x))
    (λ e. ap (λ b. b && nat_le n (length (filter p front))) e)

pub tier_uncaused : (g : GrammarValue) (front : List NamedTier) (t : NamedTier) (rest : List NamedTier)
    → IsProperGrammar g
    → g.tiers ≡ front ++ t ∷ rest → NoCause (with_tiers front) (tier t.name t.kind)
tier_uncaused g front t rest m e = record {
  names = ap not (at_place (λ x. is_name x.name) front t rest
      (sym (ap (list_all (λ x. is_name x.name)) e) ∙ m.tier_names));
  once = front_once (λ x. x.name) front t rest (sym (ap (λ ts. has_twice (map (λ x. x.name) ts)) e) ∙ m.tiers_once);
  known = refl;
  inputs = refl;
  tiers = or_from (nat_le 12 (length front) || (is_input t.kind && nat_le 6 (length (inputs_of front))))
      (is_free t.kind && nat_le 8 (length (free_of front)))
      (or_from (nat_le 12 (length front)) (is_input t.kind && nat_le 6 (length (inputs_of front)))
      (not_all_before front t rest 12 (subst (λ (ts : List NamedTier). length ts ≤ 12) e m.few_tiers))
      (few_before (λ x. is_input x.kind) front t rest 6
      (subst (λ (ts : List NamedTier). length (inputs_of ts) ≤ 6) e m.few_inputs)))
      (few_before (λ x. is_free x.kind) front t rest 8
      (subst (λ (ts : List NamedTier). length (free_of ts) ≤ 8) e m.few_free));
  constraints = refl;
  events = refl;
}

-- ---- letters

pub letter_uncaused : (g : GrammarValue) (front : List Letter) (l : Letter) (rest : List Letter) → IsProperGrammar g
    → g.letters ≡ front ++ l ∷ rest → NoCause (with_letters g.tiers front)
    (letter (letter_name l) (names_in (inputs_of g.tiers) l.tiers))
letter_uncaused g front l rest m e = record {
  names = or_from (not (is_letter_byte (letter_name l)))
      (list_any (λ n. not (is_name n)) (names_in (inputs_of g.tiers) l.tiers))
      (ap not (at_place (λ x. is_letter_byte (letter_name x)) front l rest
      (sym (ap (list_all (λ x. is_letter_byte (letter_name x))) e) ∙ m.letter_names)))
      (none_in (λ n. not (is_name n)) (inputs_of g.tiers) l.tiers
      (none_filtered (λ t. not (is_name t.name)) (λ t. is_input t.kind) g.tiers
      (none_fails (λ t. is_name t.name) g.tiers m.tier_names)));
  once = or_from (list_any (λ k. bytes_eq (letter_name l) (letter_name k)) front)
      (has_twice (names_in (inputs_of g.tiers) l.tiers))
      (front_once letter_name front l rest (sym (ap (λ ls. has_twice (map letter_name ls)) e) ∙ m.letters_once))
      (once_in (inputs_of g.tiers) l.tiers (once_filtered (λ t. is_input t.kind) g.tiers m.tiers_once));
  known = none_in (is_unknown g.tiers) (inputs_of g.tiers) l.tiers (none_unknown g.tiers);
  inputs = none_in (λ n. not (is_input_named g.tiers n)) (inputs_of g.tiers) l.tiers (none_other g.tiers m.tiers_once);
  tiers = refl;
  constraints = refl;
  events = refl;
}

pub sound_at : (g : GrammarValue) (front : List Letter) (l : Letter) (rest : List Letter) → IsProperGrammar g
    → g.letters ≡ front ++ l ∷ rest → (0 < l.tiers) × (l.tiers < 2 ^ length (inputs_of g.tiers))
sound_at g front l rest m e =
    let h = at_place (has_sound (length (inputs_of g.tiers))) front l rest
    (sym (ap (list_all (has_sound (length (inputs_of g.tiers)))) e) ∙ m.sounds) in
    let a = and_parts (nat_lt 0 l.tiers) (nat_lt l.tiers (2 ^ length (inputs_of g.tiers))) h in
    (grind (arith, nat_tests, a.0), grind (arith, nat_tests, a.1))

-- ---- constraints

-- the events of a side: from 1 to 8, on tiers that exist
pub record Side (tiers : ℕ) (es : List Event) : Type 0 where
  pub some : 0 < length es
  pub few : length es ≤ 8
  pub within : list_all (λ e. nat_lt e.tier tiers) es ≡ true

side_parts : (tiers : ℕ) (es : List Event) → is_side tiers es ≡ true → Side tiers es
side_parts tiers es h =
    let a = and_parts (nat_le 1 (length es) && nat_le (length es) 8) (list_all (λ e. nat_lt e.tier tiers) es) h in
    let b = and_parts (nat_le 1 (length es)) (nat_le (length es) 8) a.0 in
    record { some = grind (arith, nat_tests, b.0); few = grind (arith, nat_tests, b.1); within = a.1 }

-- both sides of a constraint
pub record Sides (tiers : ℕ) (c : NamedConstraint) : Type 0 where
  pub left : Side tiers c.left
  pub right : Side tiers c.right

pub sides_at : (g : GrammarValue) (front : List NamedConstraint) (c : NamedConstraint) (rest : List NamedConstraint)
    → IsProperGrammar g → g.constraints ≡ front ++ c ∷ rest → Sides (length g.tiers) c
sides_at g front c rest m e =
    let h = at_place (has_sides (length g.tiers)) front c rest
    (sym (ap (list_all (has_sides (length g.tiers))) e) ∙ m.sides) in
    let a = and_parts (is_side (length g.tiers) c.left) (is_side (length g.tiers) c.right) h in
    record { left = side_parts (length g.tiers) c.left a.0; right = side_parts (length g.tiers) c.right a.1 }

-- the number of a tier that exists
below_at : (n k : ℕ) → nat_lt k n ≡ true → k < n
below_at n k h = grind (arith, nat_tests, h)

abbrev pub names_of : List NamedTier → List (List ℕ)
names_of tiers = map (λ t. t.name) tiers

side_known : (tiers : List NamedTier) (es : List Event) → list_all (λ e. nat_lt e.tier (length tiers)) es ≡ true
    → list_any (λ e. is_unknown tiers e.tier) (map (named_event (names_of tiers)) es) ≡ false
side_known tiers [] h = refl
side_known tiers (e ∷ es) h =
    let a = and_parts (nat_lt e.tier (length tiers)) (list_all (λ x. nat_lt x.tier (length tiers)) es) h in
    or_from (is_unknown tiers (name_at tiers e.tier))
    (list_any (λ x. is_unknown tiers x.tier) (map (named_event (names_of tiers)) es))
    (ap not (known_at tiers e.tier (below_at (length tiers) e.tier a.0))) (side_known tiers es a.1)

few_named : (names : List (List ℕ)) (es : List Event) → length es ≤ 8
    → nat_lt 8 (length (map (named_event names) es)) ≡ false
few_named names es l = let n = length-map es (named_event names) in let k : length
    (map (named_event names) es) ≤ 8 = omega arith in grind (arith, nat_tests)

pub constraint_uncaused : (g : GrammarValue) (front : List NamedConstraint) (c : NamedConstraint)
    (rest : List NamedConstraint) → IsProperGrammar g → g.constraints ≡ front ++ c ∷ rest
    → NoCause (grammar_by g.tiers g.letters front)
    (constraint c.name c.family (map (named_event (names_of g.tiers)) c.left)
    (map (named_event (names_of g.tiers)) c.right))
constraint_uncaused g front c rest m e =
    let s = sides_at g front c rest m e in
    let left = map (named_event (names_of g.tiers)) c.left in
    let right = map (named_event (names_of g.tiers)) c.right in
    record {
      names = ap not (at_place (λ x. is_name x.name) front c rest
          (sym (ap (list_all (λ x. is_name x.name)) e) ∙ m.constraint_names));
      once = front_once (λ x. x.name) front c rest
          (sym (ap (λ cs. has_twice (map (λ x. x.name) cs)) e) ∙ m.constraints_once);
      known = or_from (list_any (λ x. is_unknown g.tiers x.tier) left)
          (list_any (λ x. is_unknown g.tiers x.tier) right) (side_known g.tiers c.left s.left.within)
          (side_known g.tiers c.right s.right.within);
      inputs = refl;
      tiers = refl;
      constraints = not_all_before front c rest 24
          (subst (λ (cs : List NamedConstraint). length cs ≤ 24) e m.few_constraints);
      events = or_from (nat_lt 8 (length left)) (nat_lt 8 (length right))
          (few_named (names_of g.tiers) c.left s.left.few) (few_named (names_of g.tiers) c.right s.right.few);
    }

-- an event on a tier with this number
abbrev numbered_as : Event → ℕ → Event
numbered_as e k = record { tier = k; part = e.part }

-- the events of a side, numbered again
pub numbers_back : (tiers : List NamedTier) (es : List Event) → has_twice (names_of tiers) ≡ false
    → list_all (λ e. nat_lt e.tier (length tiers)) es ≡ true
    → map (indexed_event tiers) (map (named_event (names_of tiers)) es) ≡ es
numbers_back tiers [] once h = refl
numbers_back tiers (e ∷ es) once h =
    let a = and_parts (nat_lt e.tier (length tiers)) (list_all (λ x. nat_lt x.tier (length tiers)) es) h in
    let n = number_at tiers e.tier (below_at (length tiers) e.tier a.0) once in
    ap (λ k. numbered_as e k ∷ map (indexed_event tiers) (map (named_event (names_of tiers)) es)) n
    ∙ ap (λ xs. e ∷ xs) (numbers_back tiers es once a.1)

-- and their names
pub names_are : (tiers : List NamedTier) (es : List Event) → list_all (λ t. is_name t.name) tiers ≡ true
    → list_all (λ e. nat_lt e.tier (length tiers)) es ≡ true → AllByRecursion (HasName (names_of tiers)) es
names_are tiers [] named h = tt
names_are tiers (e ∷ es) named h =
    let a = and_parts (nat_lt e.tier (length tiers)) (list_all (λ x. nat_lt x.tier (length tiers)) es) h in
    (named_at is_name tiers e.tier (below_at (length tiers) e.tier a.0) named, names_are tiers es named a.1)
