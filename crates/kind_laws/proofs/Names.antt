-- Names for kinds: a place, open free tiers, and whether each open stretch is met.
use Rattle.std.proofs.Common.{◌≡◌, ℕ, zero, suc, ◌+◌, ◌*◌, ◌^◌, ◌≤◌, Bool, true, false, not, cond, List, [], ◌∷◌}
use Rattle.std.proofs.{Common.{◌++◌, map, length, refl, sym, ap, ◌∙◌, subst, arith, Contains}, lemmas.Bool.false≢true}
use Rattle.std.proofs.lemmas.List.{length-append, length-map}
use Rattle.std.proofs.lemmas.List.Elements.{Contains-append_left, Contains-append_right}
use Rattle.std.proofs.lemmas.List.FromFn.{length-range_with_len}
use Rattle.std.specs.List.{flat_map, range_with_len}
use Rattle.tier_core.specs.{declared.constraint.Constraint.Constraint, Kinds.{Phase, closed, unmet, met, PrefixKind}}
use Rattle.tier_core.proofs.{Members.{contains_first, contains_map, contains_flat}, RangeMembers.range_has}
use Rattle.violation.specs.{Moves.is_met_phase, Phases.{is_closed, is_left_open, AreClosedOr}, Prefixes.stretches}
use Rattle.violation.specs.Problems.{Problem, last_place}

-- every list of so many flags
abbrev pub flags : ℕ → List (List Bool)
flags zero = [] ∷ []
flags (suc n) = map (λ fs. true ∷ fs) (flags n) ++ map (λ fs. false ∷ fs) (flags n)

pub flag_count : (n : ℕ) → length (flags n) ≡ 2 ^ n
flag_count zero = refl
flag_count (suc n) =
    omega (
      arith,
      length-append (map (λ fs. true ∷ fs) (flags n)) (map (λ fs. false ∷ fs) (flags n)),
      length-map (flags n) (λ (fs : List Bool). true ∷ fs),
      length-map (flags n) (λ (fs : List Bool). false ∷ fs),
      flag_count n,
    )

pub flags_in : {X : Type 0} (g : X → Bool) (xs : List X) → Contains (flags (length xs)) (map g xs)
flags_in g [] = contains_first [] []
flags_in g (x ∷ xs) = step (g x) (flags_in g xs)
  where
    step : (b : Bool) → Contains (flags (length xs)) (map g xs)
        → Contains (map (λ fs. true ∷ fs) (flags (length xs)) ++ map (λ fs. false ∷ fs) (flags (length xs)))
        (b ∷ map g xs)
    step true h =
        Contains-append_left (map (λ fs. true ∷ fs) (flags (length xs))) (map (λ fs. false ∷ fs) (flags (length xs)))
        (true ∷ map g xs) (contains_map (λ (fs : List Bool). true ∷ fs) (flags (length xs)) (map g xs) h)
    step false h =
        Contains-append_right (map (λ fs. true ∷ fs) (flags (length xs))) (map (λ fs. false ∷ fs) (flags (length xs)))
        (false ∷ map g xs) (contains_map (λ (fs : List Bool). false ∷ fs) (flags (length xs)) (map g xs) h)

times_more : (l n : ℕ) → suc l * n ≡ n + l * n
times_more l n = omega arith

no_times : (n : ℕ) → 0 ≡ 0 * n
no_times n = omega arith

pub flat_count : {X Y : Type 0} (f : X → List Y) (n : ℕ) → ((x : X) → length (f x) ≡ n) → (xs : List X)
    → length (flat_map f xs) ≡ length xs * n
flat_count f n each [] = no_times n
flat_count f n each (x ∷ xs) =
    let one : length (f x) ≡ n = each x in
    let more : length (flat_map f xs) ≡ length xs * n = flat_count f n each xs in
    length-append (f x) (flat_map f xs) ∙ ap (λ m. m + length (flat_map f xs)) one ∙ ap (λ m. n + m) more
    ∙ sym (times_more (length xs) n)

-- phases from one flag for each implication: closed where it is not open, else met where the flag is set
abbrev pub phases_by : (Constraint → Bool) → List Constraint → List Bool → List Phase
phases_by is_open [] flags = []
phases_by is_open (c ∷ cs) [] = []
phases_by is_open (c ∷ cs) (b ∷ flags) = cond (is_open c) (cond b met unmet) closed ∷ phases_by is_open cs flags

one_phase : (ph : Phase) (a : Bool) → is_closed ph ≡ not a → ph ≡ cond a (cond (is_met_phase ph) met unmet) closed
one_phase closed true e = absurd (false≢true (sym e))
one_phase closed false e = refl
one_phase unmet true e = refl
one_phase unmet false e = absurd (false≢true e)
one_phase met true e = refl
one_phase met false e = absurd (false≢true e)

-- phases that are closed where they have to be are told by which are met
pub phases_told : (is_open : Constraint → Bool) (cs : List Constraint) (ps : List Phase) → AreClosedOr is_open cs ps
    → ps ≡ phases_by is_open cs (map is_met_phase ps)
phases_told is_open [] [] h = refl
phases_told is_open [] (p ∷ ps) h = absurd h
phases_told is_open (c ∷ cs) [] h = absurd h
phases_told is_open (c ∷ cs) (p ∷ ps) h =
    ap (λ q. q ∷ ps) (one_phase p (is_open c) h.0)
    ∙ ap (λ qs. cond (is_open c) (cond (is_met_phase p) met unmet) closed ∷ qs) (phases_told is_open cs ps h.1)

pub as_many : (is_open : Constraint → Bool) (cs : List Constraint) (ps : List Phase) → AreClosedOr is_open cs ps
    → length ps ≡ length cs
as_many is_open [] [] h = refl
as_many is_open [] (p ∷ ps) h = absurd h
as_many is_open (c ∷ cs) [] h = absurd h
as_many is_open (c ∷ cs) (p ∷ ps) h = ap suc (as_many is_open cs ps h.1)

-- a place and open free tiers, with no phases
abbrev base : ℕ → List Bool → PrefixKind
base place opened = record { place = place; opened = opened; phases = [] }

-- each place with each set of open free tiers
abbrev bases : Problem → List PrefixKind
bases problem = flat_map (λ place. map (base place) (flags (length problem.tiers.free)))
    (range_with_len 0 (last_place problem + 1))

-- a kind by its place and open tiers, and which of its phases are met
abbrev named : Problem → ℕ → PrefixKind → List Bool → PrefixKind
named problem r k fs = record {
  place = k.place;
  opened = k.opened;
  phases = phases_by (is_left_open problem k) (stretches problem r) fs;
}

abbrev pub names : Problem → ℕ → List PrefixKind
names problem r = flat_map (λ k. map (named problem r k) (flags (length (stretches problem r)))) (bases problem)

base_count : (problem : Problem) → length (bases problem) ≡ (last_place problem + 1) * 2 ^ length problem.tiers.free
base_count problem =
    flat_count (λ place. map (base place) (flags (length problem.tiers.free))) (2 ^ length problem.tiers.free)
    (λ place. length-map (flags (length problem.tiers.free)) (base place) ∙ flag_count (length problem.tiers.free))
    (range_with_len 0 (last_place problem + 1))
    ∙ ap (λ n. n * 2 ^ length problem.tiers.free) (length-range_with_len 0 (last_place problem + 1))

pub name_count : (problem : Problem) (r : ℕ) → length (names problem r)
    ≡ (last_place problem + 1) * 2 ^ length problem.tiers.free * 2 ^ length (stretches problem r)
name_count problem r =
    flat_count (λ k. map (named problem r k) (flags (length (stretches problem r)))) (2 ^ length (stretches problem r))
    (λ k. length-map (flags (length (stretches problem r))) (named problem r k)
    ∙ flag_count (length (stretches problem r)))
    (bases problem)
    ∙ ap (λ n. n * 2 ^ length (stretches problem r)) (base_count problem)

-- a kind with a place in the form, a flag for each free tier, and phases closed where they have to be
-- is one of the names
pub name_in : (problem : Problem) (r place : ℕ) (is_open : ℕ → Bool) (ps : List Phase)
    → place ≤ last_place problem
    → AreClosedOr (is_left_open problem (base place (map is_open problem.tiers.free))) (stretches problem r) ps
    → Contains (names problem r) (record { place = place; opened = map is_open problem.tiers.free; phases = ps })
name_in problem r place is_open ps l h =
    let opened : List Bool = map is_open problem.tiers.free in
    let cs : List Constraint = stretches problem r in
    let here : Contains (bases problem) (base place opened) =
    contains_flat (λ place. map (base place) (flags (length problem.tiers.free)))
    (range_with_len 0 (last_place problem + 1)) place (base place opened)
    (range_has 0 (last_place problem + 1) place (omega arith) (omega arith))
    (contains_map (base place) (flags (length problem.tiers.free)) opened (flags_in is_open problem.tiers.free)) in
    let met_flags : Contains (flags (length cs)) (map is_met_phase ps) =
    subst (λ n. Contains (flags n) (map is_met_phase ps)) (as_many (is_left_open problem (base place opened)) cs ps h)
    (flags_in is_met_phase ps) in
    let name : Contains (names problem r) (named problem r (base place opened) (map is_met_phase ps)) =
    contains_flat (λ k. map (named problem r k) (flags (length cs))) (bases problem) (base place opened)
    (named problem r (base place opened) (map is_met_phase ps)) here
    (contains_map (named problem r (base place opened)) (flags (length cs)) (map is_met_phase ps) met_flags) in
    subst (λ qs. Contains (names problem r) (record { place = place; opened = opened; phases = qs }))
    (sym (phases_told (is_left_open problem (base place opened)) cs ps h)) name
