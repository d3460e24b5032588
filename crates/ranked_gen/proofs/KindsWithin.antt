-- Kinds that have a number when no constraint is ranked.
use Rattle.std.proofs.Common.{◌≡◌, ℕ, ◌+◌, ◌*◌, ◌/◌, ◌^◌, ◌<◌, ◌≤◌, ◌⊎◌, inl, inr, Bool, true, false, cond, List}
use Rattle.std.proofs.{Common.{[], ◌∷◌, length, refl, ap, sym, ◌∙◌, subst, arith}, lemmas.Bool.false≢true}
use Rattle.std.proofs.{lemmas.Nat.{div_below, pow_pos}, Math.Nat.mul-le-mul_right, lemmas.List.length-map}
use Rattle.tier_core.specs.{declared.sym.Sym.Sym, Kinds.PrefixKind, Scan.opens}
use Rattle.tier_core.specs.Timelines.{has_edge, symbol, tier_word, column_at}
use Rattle.violation.specs.{Candidates.IsForm, Conditions.AreSplit, Prefixes.{is_open, kind_of}}
use Rattle.violation.specs.{Moves.{FitsKind, next_kind, input_of}, Walks.{HasMoves, walk_end, BeginsCandidate}}
use Rattle.violation.specs.Problems.{last_place, Problem}
use Rattle.violation.proofs.WalkLemmas.{moves_begin, reached_is}
use Rattle.ranked_gen.specs.{Numbers.{number_of_flags, number_of_kind, kind_of_number}, Listed.kind_count}
use Rattle.ranked_gen.proofs.NumberLemmas.{length-flags_of, number-lt}

-- a kind that the numbers tell: its place is in the form, and it has a flag for each free tier
pub record IsWithin (problem : Problem) (k : PrefixKind) : Type 0 where
  pub place : k.place ≤ last_place problem
  pub flags : length k.opened ≡ length problem.tiers.free
  pub phases : k.phases ≡ []

pub number_within : (problem : Problem) (k : PrefixKind) → IsWithin problem k
    → number_of_kind (length problem.tiers.free) k < kind_count problem
number_within problem k w =
    let size = 2 ^ length problem.tiers.free in
    let below : number_of_flags k.opened < size = omega (arith, number-lt k.opened, ap (λ n. 2 ^ n) w.flags) in
    let places : k.place * size ≤ last_place problem * size = mul-le-mul_right size w.place in
    omega (arith, below, places)

pub numbered_within : (problem : Problem) (i : ℕ) → i < kind_count problem
    → IsWithin problem (kind_of_number (length problem.tiers.free) i)
numbered_within problem i l = record {
  place = let below : i / 2 ^ length problem.tiers.free < last_place problem + 1 = div_below i
      (2 ^ length problem.tiers.free) (last_place problem + 1) (pow_pos (length problem.tiers.free)) l in omega arith;
  flags = length-flags_of (length problem.tiers.free) i;
  phases = refl;
}

module _ (problem : Problem) (split : AreSplit problem.tiers) where
  -- a move stays within
  pub moved_within : (k : PrefixKind) (column : List Sym) → FitsKind problem k column → k.place ≤ last_place problem
      → IsWithin problem (next_kind problem 0 k column)
  moved_within k column fit l = record {
    place = go (has_edge (input_of problem.tiers column)) refl fit.input;
    flags = length-map problem.tiers.free (λ t. opens (symbol column t));
    phases = refl;
  }
    where
      go : (b : Bool) → has_edge (input_of problem.tiers column) ≡ b
          → (has_edge (input_of problem.tiers column) ≡ false) ⊎
          ((k.place < last_place problem) × (input_of problem.tiers column ≡ column_at problem.form k.place))
          → k.place + cond b 1 0 ≤ last_place problem
      go true e (inl none) = absurd (false≢true (sym none ∙ e))
      go true e (inr next) = omega (arith, next.0)
      go false e other = omega arith

  -- the kind of the empty prefix is the first
  pub start_within : IsWithin problem (kind_of problem 0 [])
  start_within = record {
    place = omega arith;
    flags = length-map problem.tiers.free (λ t. is_open (tier_word [] t));
    phases = refl;
  }

  pub reached_within : (k : PrefixKind) (T : List (List Sym)) → IsWithin problem k → HasMoves problem 0 k T
      → IsWithin problem (walk_end problem 0 k T)
  reached_within k [] w h = w
  reached_within k (column ∷ T) w h = reached_within (next_kind problem 0 k column) T
      (moved_within k column h.0 w.place) h.1

  -- the kind of a prefix of a candidate is within
  pub kind_within : IsForm problem.tiers problem.form → (p : List (List Sym)) → BeginsCandidate problem p
      → IsWithin problem (kind_of problem 0 p)
  kind_within form p b =
      let walk = (moves_begin problem 0 split form tt p).1 b in
      subst (IsWithin problem) (reached_is problem 0 split form tt p walk)
      (reached_within (kind_of problem 0 []) p start_within walk)
