-- Columns that are not told apart have moves that are alike; and tests that are put one behind the other.
use Rattle.std.proofs.Common.{◌≡◌, ℕ, zero, suc, ◌+◌, ◌-◌, ◌<◌, Bool, true, false, cond, List, [], ◌∷◌, ◌++◌, length}
use Rattle.std.proofs.Common.{map, take, drop, filter, get_or, refl, sym, ap, ap₂, ◌∙◌, subst, arith}
use Rattle.std.proofs.Common.{append_assoc, append-nil}
use Rattle.std.proofs.Common.{below_more}
use Rattle.std.proofs.lemmas.List.Elements.{All-from_recursion, recursion_from_All, All-append}
use Rattle.std.specs.List.{AllByRecursion}
use Rattle.tier_core.specs.{declared.class.Class.Class, declared.constraint.Constraint.Constraint}
use Rattle.tier_core.specs.{declared.sym.Sym.Sym, Classes.{sets_of, has}, Sides.is_stretch}
use Rattle.tier_core.specs.{Kinds.{Phase, PrefixKind}, Scan.opens, Timelines.{symbol, has_edge}}
use Rattle.violation.specs.Moves.{input_of, is_tier_open, next_phases, next_kind, cost_of, costs_each, move_costs}
use Rattle.violation.specs.{Moves.{cut_kind, first_phase}, Prefixes.stretches, Problems.Problem}
use Rattle.violation.proofs.{NextPhases.stretches_more, TierLemmas.map_agree, WalkLemmas.all_split}
use Rattle.cert_check.specs.{Alike.AreAlikeFor, Fitting.OpenAlike, Left.MoveAlike, Tests.{AddsTests, AgreeOn}}
use Rattle.cert_check.proofs.AlikeMoves.{IsNextAlike, all_next_alike}
use Rattle.cert_check.proofs.TestLemmas.{adds_one}

-- ---- tests one behind the other

agree_parts : (xs ys : List Class) (c d : List Sym) → AgreeOn (xs ++ ys) c d → AgreeOn xs c d × AgreeOn ys c d
agree_parts xs ys c d agree =
    let P : Class → Type 0 = λ test. has test c ≡ has test d in
    let both = all_split P xs ys (recursion_from_All P (xs ++ ys) agree) in
    (All-from_recursion P xs both.0, All-from_recursion P ys both.1)

pub adds_no_tests : (width : ℕ) (old : List Class) (alike : List Sym → List Sym → Type 0)
    → ((c d : List Sym) → alike c d) → AddsTests width old old alike
adds_no_tests width old alike always = record {
  added = [];
  new_is = sym (append-nil old);
  one_width = All-from_recursion (λ (test : Class). length (sets_of test) ≡ width) [] tt;
  told = λ c d lc ld agree. always c d;
}

pub adds_weaker : (width : ℕ) (old new : List Class) (P Q : List Sym → List Sym → Type 0)
    → ((c d : List Sym) → P c d → Q c d) → AddsTests width old new P → AddsTests width old new Q
adds_weaker width old new P Q weaker a = record {
  added = a.added;
  new_is = a.new_is;
  one_width = a.one_width;
  told = λ c d lc ld agree. weaker c d (a.told c d lc ld agree);
}

pub adds_then : (width : ℕ) (old mid new : List Class) (P Q R : List Sym → List Sym → Type 0)
    → ((c d : List Sym) → P c d → Q c d → R c d) → AddsTests width old mid P → AddsTests width mid new Q
    → AddsTests width old new R
adds_then width old mid new P Q R hangs a b = record {
  added = a.added ++ b.added;
  new_is = b.new_is ∙ ap (λ xs. xs ++ b.added) a.new_is ∙ append_assoc old a.added b.added;
  one_width = All-append (λ (test : Class). length (sets_of test) ≡ width) a.added b.added a.one_width b.one_width;
  told = λ c d lc ld agree.
      let both = agree_parts _ _ c d agree in
      hangs c d (a.told c d lc ld both.0) (b.told c d lc ld both.1);
}

-- one more open tier is tested
pub open_more : (width : ℕ) (old mid new : List Class) (test : Class) (tier : ℕ)
    → AddsTests width old mid (λ c d. (t : ℕ) → t < tier → opens (symbol c t) ≡ opens (symbol d t))
    → new ≡ mid ++ test ∷ [] → length (sets_of test) ≡ width
    → ((c : List Sym) → length c ≡ width → has test c ≡ opens (symbol c tier))
    → AddsTests width old new (λ c d. (t : ℕ) → t < tier + 1 → opens (symbol c t) ≡ opens (symbol d t))
open_more width old mid new test tier a is wide told =
    adds_then _ _ _ _ _ _ _ (λ c d so_far here. below_more _ _ so_far here) a
    (adds_one _ _ _ _ _ is wide (λ c d lc ld e. sym (told c lc) ∙ e ∙ told d ld))

-- ---- columns that go on alike

each_open : (ts : List ℕ) (width : ℕ) (c d : List Sym) → AllByRecursion (λ t. t < width) ts → OpenAlike width c d
    → AllByRecursion (λ t. opens (symbol c t) ≡ opens (symbol d t)) ts
each_open [] width c d below h = tt
each_open (t ∷ ts) width c d below h = (h t below.0, each_open ts _ c d below.1 h)

-- the phases of more constraints, where those of the first ones are the same
phases_split : (cs more : List Constraint) (ps : List Phase) (c d : List Sym)
    → next_phases cs (take (length cs) ps) c ≡ next_phases cs (take (length cs) ps) d
    → AllByRecursion (IsNextAlike c d) more → next_phases (cs ++ more) ps c ≡ next_phases (cs ++ more) ps d
phases_split [] more ps c d e a = all_next_alike more c d a ps
phases_split (x ∷ cs) more [] c d e a = refl
phases_split (x ∷ cs) more (p ∷ ps) c d e a =
    ap₂ (λ q qs. q ∷ qs) (ap first_phase e) (phases_split cs more ps c d (ap (drop 1) e) a)

-- the cost of one constraint among some
cost_alike_at : (cs : List Constraint) (r : ℕ) (o : ℕ → Bool) (ps : List Phase) (x : Constraint) (c d : List Sym)
    → r < length cs → x ≡ get_or cs r x → AreAlikeFor x c d
    → get_or (costs_each (take (suc r) cs) o ps c) r 0 ≡ get_or (costs_each (take (suc r) cs) o ps d) r 0
cost_alike_at [] r o ps x c d l is a = absurd (omega (arith, l))
cost_alike_at (y ∷ cs) zero o ps x c d l is a =
    let here : AreAlikeFor y c d = subst (λ z. AreAlikeFor z c d) is a in
    ap (λ b. cond b 1 0) (here.cost o (first_phase ps))
cost_alike_at (y ∷ cs) (suc r) o ps x c d l is a = cost_alike_at cs r o _ x c d (omega (arith, l)) is a

module _ (problem : Problem) (k : PrefixKind) (c d : List Sym) where
  abbrev of : Bool → List Bool → List Phase → PrefixKind
  of e bs ps = record { place = k.place + cond e 1 0; opened = bs; phases = ps }

  -- at stage 0
  pub first_moves : AllByRecursion (λ t. t < problem.tiers.width) problem.tiers.free
      → has_edge (input_of problem.tiers c) ≡ has_edge (input_of problem.tiers d)
      → OpenAlike problem.tiers.width c d → MoveAlike problem 0 k c d
  first_moves below edge opened = record {
    moves = ap (λ e. of e (map (λ t. opens (symbol c t)) problem.tiers.free) []) edge
        ∙ ap (λ bs. of (has_edge (input_of problem.tiers d)) bs []) (map_agree _ _ _ (each_open _ _ c d below opened));
    costs = refl;
  }

  -- at a later stage, if they lead to one kind of the stage before
  pub next_moves : (r : ℕ) (x : Constraint) → r < length problem.constraints → x ≡ get_or problem.constraints r x
      → next_kind problem r (cut_kind problem r k) c ≡ next_kind problem r (cut_kind problem r k) d
      → AreAlikeFor x c d → MoveAlike problem (suc r) k c d
  next_moves r x l is before alike = record {
    moves = ap (λ n. of (has_edge (input_of problem.tiers c)) (map (λ t. opens (symbol c t)) problem.tiers.free) n) all
        ∙ ap (λ (l : PrefixKind). of_kind l) before;
    costs = at_last c ∙ cost_alike_at problem.constraints r (is_tier_open problem k) k.phases x c d l is alike
        ∙ sym (at_last d);
  }
    where
      at_last : (e : List Sym) → cost_of problem (suc r) k e
          ≡ get_or (costs_each (take (suc r) problem.constraints) (is_tier_open problem k) k.phases e) r 0
      at_last e = ap (λ n. get_or (move_costs problem (suc r) k e) n 0) (let f : suc r - 1 ≡ r = omega arith in f)

      all : next_phases (stretches problem (suc r)) k.phases c ≡ next_phases (stretches problem (suc r)) k.phases d
      all = by _ refl
        where
          by : (b : Bool) → is_stretch x ≡ b
              → next_phases (stretches problem (suc r)) k.phases c ≡ next_phases (stretches problem (suc r)) k.phases d
          by b h = subst (λ cs. next_phases cs k.phases c ≡ next_phases cs k.phases d)
              (sym (ap (λ n. filter is_stretch (take n problem.constraints))
              (let e : suc r ≡ r + 1 = omega arith in e) ∙ stretches_more problem.constraints r x b l is h))
              (phases_split (stretches problem r) (cond b (x ∷ []) []) k.phases c d
              (ap (λ (l : PrefixKind). l.phases) before) (told b h))
            where
              told : (b : Bool) → is_stretch x ≡ b → AllByRecursion (IsNextAlike c d) (cond b (x ∷ []) [])
              told true e = (alike.next e, tt)
              told false e = tt

      of_kind : PrefixKind → PrefixKind
      of_kind l = record {
        place = l.place;
        opened = l.opened;
        phases = next_phases (stretches problem (suc r)) k.phases d;
      }
