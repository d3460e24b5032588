-- Masks of phases that a loop makes constraint by constraint.
use Rattle.std.proofs.Common.{◌≡◌, ℕ, ◌+◌, ◌^◌, ◌<◌, ◌≤◌, ◌&&◌, Bool, true, false, cond, List, [], ◌∷◌, ◌++◌}
use Rattle.std.proofs.Common.{filter, take, length, get_or, refl, ap, sym, ◌∙◌, subst, arith, ⊎_elim, bit_and}
use Rattle.std.proofs.{lemmas.Bool.cases_lt, lemmas.List.{length_push, append-nil, take_all}}
use Rattle.std.proofs.{lemmas.List.Elements.filter_more, lemmas.List.FromFn.{fill_by_all, length-map-range_with_len}}
use Rattle.std.proofs.lemmas.List.FromFn.{get_or-map-range_with_len, map-range_with_len_more}
use Rattle.tier_core.specs.{declared.kind.Kind.Kind, declared.sym.Sym.Sym, declared.constraint.Constraint.Constraint}
use Rattle.tier_core.specs.{Kinds.{Phase, closed, phase_by_bits, phase_at, phases}, Tiers.has_tier, Sides.is_stretch}
use Rattle.tier_core.specs.PhaseBits.{phases_by, told_at}
use Rattle.tier_core.proofs.{KindLemmas.not_both, MaskBits.{apart_from, none_from}}
use Rattle.violation.specs.Moves.{is_unmet_phase, is_met_phase, next_phase, next_phases}
use Rattle.violation.proofs.KindBits.{phase_told, one_of}

-- ---- one bit more

-- a mask with one bit more, of this value
pub record HasMore (mask n : ℕ) (b : Bool) (more : ℕ) : Type 0 where
  pub within : more < 2 ^ (n + 1)
  pub here : has_tier more n ≡ b
  pub others : (i : ℕ) → i < n → has_tier more i ≡ has_tier mask i

-- ---- one phase more

module _ (u m n u' m' : ℕ) (phase : Phase) (hu : HasMore u n (is_unmet_phase phase) u')
    (hm : HasMore m n (is_met_phase phase) m') where
  more_apart : bit_and u m ≡ 0 → bit_and u' m' ≡ 0
  more_apart a = apart_from u' m' (λ i. ⊎_elim
      (λ below. ap (λ b. b && has_tier m' i) (hu.others i below) ∙ ap (λ b. has_tier u i && b) (hm.others i below)
      ∙ not_both u m i a)
      (λ above. ⊎_elim
      (λ beyond. ap (λ b. b && has_tier m' i) (none_from u' (n + 1) i hu.within (omega arith)))
      (λ at. let is : i ≡ n = omega arith in ap (λ k. has_tier u' k && has_tier m' k) is
      ∙ ap (λ b. b && has_tier m' n) hu.here ∙ ap (λ b. is_unmet_phase phase && b) hm.here ∙ one_of phase)
      (cases_lt n i))
      (cases_lt i n))

  told_others : (i : ℕ) → i < n → told_at u' m' i ≡ told_at u m i
  told_others i l = ap (λ b. phase_by_bits b (has_tier m' i)) (hu.others i l)
      ∙ ap (phase_by_bits (has_tier u i)) (hm.others i l)

  told_here : told_at u' m' n ≡ phase
  told_here = ap (λ b. phase_by_bits b (has_tier m' n)) hu.here ∙ ap (phase_by_bits (is_unmet_phase phase)) hm.here
      ∙ phase_told phase

-- one constraint more is one stretch implication more, or none
pub stretches_more : (cs : List Constraint) (n : ℕ) (c : Constraint) (b : Bool) → n < length cs → c ≡ get_or cs n c
    → is_stretch c ≡ b → filter is_stretch (take (n + 1) cs) ≡ filter is_stretch (take n cs) ++ cond b (c ∷ []) []
stretches_more cs n c b l is h =
    filter_more is_stretch cs n c l
    ∙ ap (λ x. filter is_stretch (take n cs) ++ cond (is_stretch x) (x ∷ []) []) (sym is)
    ∙ ap (λ b. filter is_stretch (take n cs) ++ cond b (c ∷ []) []) h

pub next_append : (cs : List Constraint) (ps : List Phase) (c : Constraint) (p : Phase) (column : List Sym)
    → length ps ≡ length cs
    → next_phases (cs ++ c ∷ []) (ps ++ p ∷ []) column ≡ next_phases cs ps column ++ next_phase c.left c.right p
    column ∷ []
next_append [] [] c p column e = refl
next_append [] (q ∷ ps) c p column e = absurd (omega arith)
next_append (d ∷ cs) [] c p column e = absurd (omega arith)
next_append (d ∷ cs) (q ∷ ps) c p column e = ap (λ x. next_phase d.left d.right q column ∷ x)
    (next_append cs ps c p column (omega arith))

-- the masks tell the next phases of the stretch implications among the first n constraints
pub record AreNext (cs : List Constraint) (kind : Kind) (column : List Sym) (n next u m : ℕ) : Type 0 where
  pub count : next ≡ length (filter is_stretch (take n cs))
  pub few : next ≤ n
  pub apart : bit_and u m ≡ 0
  pub unmet_within : u < 2 ^ next
  pub met_within : m < 2 ^ next
  pub told : phases_by next u m ≡ next_phases (filter is_stretch (take n cs)) (phases next kind) column

pub next_more : (cs : List Constraint) (kind : Kind) (column : List Sym) (n next u m u' m' : ℕ) (c : Constraint)
    (phase : Phase) → AreNext cs kind column n next u m → n < length cs → c ≡ get_or cs n c → is_stretch c ≡ true
    → HasMore u next (is_unmet_phase phase) u' → HasMore m next (is_met_phase phase) m'
    → phase ≡ next_phase c.left c.right (phase_at kind next) column
    → AreNext cs kind column (n + 1) (next + 1) u' m'
next_more cs kind column n next u m u' m' c phase a l is h hu hm here =
    let fs = filter is_stretch (take n cs) in
    let more : filter is_stretch (take (n + 1) cs) ≡ fs ++ c ∷ [] = stretches_more cs n c true l is h in
    let same : phases_by next u m ≡ phases_by next u' m' = fill_by_all (told_at u' m')
    (phases_by next u m) next closed (length-map-range_with_len (told_at u m) 0 next)
    (λ i b. get_or-map-range_with_len (told_at u m) 0 next i i closed b (omega arith)
    ∙ sym (told_others u m next u' m' phase hu hm i b)) in
    let size : length (phases next kind) ≡ length fs = length-map-range_with_len (phase_at kind) 0 next ∙ a.count in
    record {
      count = omega (arith, a.count, ap length more, length_push fs c);
      few = omega (arith, a.few);
      apart = more_apart u m next u' m' phase hu hm a.apart;
      unmet_within = hu.within;
      met_within = hm.within;
      told = map-range_with_len_more (told_at u' m') 0 next next (omega arith)
          ∙ ap (λ ps. ps ++ told_at u' m' next ∷ []) (sym same ∙ a.told)
          ∙ ap (λ p. next_phases fs (phases next kind) column ++ p ∷ []) (told_here u m next u' m' phase hu hm ∙ here)
          ∙ sym (ap (λ x. next_phases x (phases (next + 1) kind) column) more
          ∙ ap (λ ps. next_phases (fs ++ c ∷ []) ps column)
          (map-range_with_len_more (phase_at kind) 0 next next (omega arith))
          ∙ next_append fs (phases next kind) c (phase_at kind next) column size);
    }

pub next_same : (cs : List Constraint) (kind : Kind) (column : List Sym) (n next u m : ℕ) (c : Constraint)
    → AreNext cs kind column n next u m → n < length cs → c ≡ get_or cs n c → is_stretch c ≡ false
    → AreNext cs kind column (n + 1) next u m
next_same cs kind column n next u m c a l is h =
    let fs = filter is_stretch (take n cs) in
    let same : filter is_stretch (take (n + 1) cs) ≡ fs = stretches_more cs n c false l is h ∙ append-nil fs in
    record {
      count = a.count ∙ sym (ap length same);
      few = omega (arith, a.few);
      apart = a.apart;
      unmet_within = a.unmet_within;
      met_within = a.met_within;
      told = a.told ∙ sym (ap (λ x. next_phases x (phases next kind) column) same);
    }

-- the masks tell the next phases of all
pub record AreAllNext (cs : List Constraint) (kind : Kind) (column : List Sym) (u m : ℕ) : Type 0 where
  pub told : phases_by (length (filter is_stretch cs)) u m ≡ next_phases (filter is_stretch cs)
      (phases (length (filter is_stretch cs)) kind) column
  pub unmet_within : u < 2 ^ length (filter is_stretch cs)
  pub met_within : m < 2 ^ length (filter is_stretch cs)

pub next_all : (cs : List Constraint) (kind : Kind) (column : List Sym) (n next u m : ℕ)
    → AreNext cs kind column n next u m → length cs ≤ n → AreAllNext cs kind column u m
next_all cs kind column n next u m a l =
    let whole : take n cs ≡ cs = take_all n cs l in
    let count : next ≡ length (filter is_stretch cs) = a.count ∙ ap (λ x. length (filter is_stretch x)) whole in
    let Told : ℕ → List Constraint → Type 0 = λ k x. phases_by k u m
    ≡ next_phases (filter is_stretch x) (phases k kind) column in
    let Below : ℕ → ℕ → Type 0 = λ mask k. mask < 2 ^ k in
    record {
      told = subst (λ k. Told k cs) count (subst (Told next) whole a.told);
      unmet_within = subst (Below u) count a.unmet_within;
      met_within = subst (Below m) count a.met_within;
    }
