-- Kinds by their bits: each list of phases is told by two masks, some bits tell each kind, and they are one.
use Rattle.std.proofs.Common.{◌≡◌, ℕ, ◌^◌, ◌<◌, ◌&&◌, Bool, true, false, List, map, length, get_or, refl, ap, sym}
use Rattle.std.proofs.{Common.{◌∙◌, subst, arith, ⊎_elim, bit_and}, Props.props, lemmas.Bool.cases_lt}
use Rattle.std.proofs.lemmas.List.{length-map, get_or-map}
use Rattle.std.proofs.lemmas.List.FromFn.{fill_by_all, get_or-map-range_with_len}
use Rattle.std.specs.List.{range_with_len}
use Rattle.tier_core.specs.{declared.kind.Kind.Kind, Kinds.{Phase, closed, unmet, met, PrefixKind, AreStretchesBelow}}
use Rattle.tier_core.specs.Kinds.{phase_by_bits, phase_at, phases, open_tiers, prefix_kind}
use Rattle.tier_core.specs.{PhaseBits.{told_at, phases_by}, Tiers.has_tier}
use Rattle.tier_core.proofs.KindLemmas.{not_both}
use Rattle.tier_core.proofs.MaskBits.{AreBits, bits_of, open_bits, apart_from, none_from, same_mask}
use Rattle.tier_core.proofs.{KindTies.same_parts, SameKinds.same_fields}
use Rattle.violation.specs.Moves.{is_unmet_phase, is_met_phase}

-- ---- masks of phases

pub phase_told : (p : Phase) → phase_by_bits (is_unmet_phase p) (is_met_phase p) ≡ p
phase_told closed = refl
phase_told unmet = refl
phase_told met = refl

pub one_of : (p : Phase) → (is_unmet_phase p && is_met_phase p) ≡ false
one_of closed = refl
one_of unmet = refl
one_of met = refl

-- masks of the unmet and of the met ones of some phases
module _ (ps : List Phase) (u m : ℕ) (unmets : AreBits (map is_unmet_phase ps) u)
    (mets : AreBits (map is_met_phase ps) m) where
  unmet_in : (i : ℕ) → i < length ps → has_tier u i ≡ is_unmet_phase (get_or ps i closed)
  unmet_in i l = unmets.each i (omega (arith, l, length-map ps is_unmet_phase))
      ∙ get_or-map is_unmet_phase ps i closed false l

  met_in : (i : ℕ) → i < length ps → has_tier m i ≡ is_met_phase (get_or ps i closed)
  met_in i l = mets.each i (omega (arith, l, length-map ps is_met_phase)) ∙ get_or-map is_met_phase ps i closed false l

  phases_told : phases_by (length ps) u m ≡ ps
  phases_told = sym (fill_by_all (told_at u m) ps (length ps) closed refl
      (λ i l. sym (ap (λ b. phase_by_bits b (has_tier m i)) (unmet_in i l)
      ∙ ap (phase_by_bits (is_unmet_phase (get_or ps i closed))) (met_in i l) ∙ phase_told (get_or ps i closed))))

  phases_apart : bit_and u m ≡ 0
  phases_apart = apart_from u m (λ i. ⊎_elim
      (λ l. ap (λ b. b && has_tier m i) (unmet_in i l) ∙ ap (λ b. is_unmet_phase (get_or ps i closed) && b)
      (met_in i l) ∙ one_of (get_or ps i closed))
      (λ l. ap (λ b. b && has_tier m i) (none_from u (length (map is_unmet_phase ps)) i unmets.within
      (omega (arith, l, length-map ps is_unmet_phase))))
      (cases_lt i (length ps)))

-- the bit of `unmet` tells whether the phase is unmet
pub unmet_at : (kind : Kind) (i : ℕ) → has_tier kind.unmet i ≡ is_unmet_phase (phase_at kind i)
unmet_at kind i = by (has_tier kind.unmet i) (has_tier kind.met i) (not_both kind.unmet kind.met i kind.apart)
  where
    by : (a b : Bool) → (a && b) ≡ false → a ≡ is_unmet_phase (phase_by_bits a b)
    by true true e = e
    by true false e = refl
    by false true e = refl
    by false false e = refl

-- and that of `met` whether it is met
pub met_at : (kind : Kind) (i : ℕ) → has_tier kind.met i ≡ is_met_phase (phase_at kind i)
met_at kind i = by (has_tier kind.unmet i) (has_tier kind.met i)
  where
    by : (a b : Bool) → b ≡ is_met_phase (phase_by_bits a b)
    by true true = refl
    by true false = refl
    by false true = refl
    by false false = refl

-- ---- the bits of a kind

-- bits tell a kind, among so many free tiers and so many stretch implications
pub record AreBitsOf (free count : ℕ) (k : PrefixKind) (kind : Kind) : Type 0 where
  pub tells : prefix_kind free count kind ≡ k
  pub opened : kind.opened < 2 ^ free
  pub stretches : AreStretchesBelow count kind

-- some bits tell a kind that has so many flags and phases
pub kind_for : (free count : ℕ) (k : PrefixKind) → length k.opened ≡ free → length k.phases ≡ count
    → (kind : Kind) × AreBitsOf free count k kind
kind_for free count k frees counts = (
  record {
    place = k.place;
    opened = opened.0;
    unmet = unmets.0;
    met = mets.0;
    apart = phases_apart k.phases unmets.0 mets.0 unmets.1 mets.1;
  },
  record {
    tells = same_parts k.place k.place (open_tiers free opened.0) k.opened
        (phases_by count unmets.0 mets.0) k.phases refl
        (ap (λ n. open_tiers n opened.0) (sym frees) ∙ open_bits k.opened opened.0 opened.1)
        (ap (λ n. phases_by n unmets.0 mets.0) (sym counts) ∙ phases_told k.phases unmets.0 mets.0 unmets.1 mets.1);
    opened = subst (λ n. opened.0 < 2 ^ n) frees opened.1.within;
    stretches = record {
      unmet = subst (λ n. unmets.0 < 2 ^ n) (length-map k.phases is_unmet_phase ∙ counts) unmets.1.within;
      met = subst (λ n. mets.0 < 2 ^ n) (length-map k.phases is_met_phase ∙ counts) mets.1.within;
    };
  },
)
  where
    opened : (mask : ℕ) × AreBits k.opened mask
    opened = bits_of k.opened

    unmets : (mask : ℕ) × AreBits (map is_unmet_phase k.phases) mask
    unmets = bits_of (map is_unmet_phase k.phases)

    mets : (mask : ℕ) × AreBits (map is_met_phase k.phases) mask
    mets = bits_of (map is_met_phase k.phases)

-- what is told place by place
pub told_same : {X : Type 0} (f g : ℕ → X) (n i : ℕ) (d : X) → map f (range_with_len 0 n) ≡ map g (range_with_len 0 n)
    → i < n → f i ≡ g i
told_same f g n i d e l = sym (get_or-map-range_with_len f 0 n i i d l (omega arith)) ∙ ap (λ xs. get_or xs i d) e
    ∙ get_or-map-range_with_len g 0 n i i d l (omega arith)

-- bits that tell one kind are the same
pub one_told : (free count : ℕ) (x : PrefixKind) (k l : Kind) → AreBitsOf free count x k → AreBitsOf free count x l
    → k ≡ l
one_told free count x k l a b =
    let e : prefix_kind free count k ≡ prefix_kind free count l = a.tells ∙ sym b.tells in
    let told : phases count k ≡ phases count l = ap (λ (y : PrefixKind). y.phases) e in
    same_fields k l
    (ap (λ (y : PrefixKind). y.place) e)
    (same_mask k.opened l.opened free a.opened b.opened
    (λ i h. told_same (has_tier k.opened) (has_tier l.opened) free i false (ap (λ (y : PrefixKind). y.opened) e) h))
    (same_mask k.unmet l.unmet count a.stretches.unmet b.stretches.unmet (λ i h. unmet_at k i
    ∙ ap is_unmet_phase (told_same (phase_at k) (phase_at l) count i closed told h) ∙ sym (unmet_at l i)))
    (same_mask k.met l.met count a.stretches.met b.stretches.met (λ i h. met_at k i
    ∙ ap is_met_phase (told_same (phase_at k) (phase_at l) count i closed told h) ∙ sym (met_at l i)))
