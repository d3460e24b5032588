-- One more old move, kept or not.
use Rattle.std.proofs.Common.{◌≡◌, ℕ, ◌+◌, ◌<◌, List, [], ◌∷◌, ◌++◌, Option, None, Some, length, get_or, refl, sym}
use Rattle.std.proofs.{Common.{ap, ◌∙◌, subst, arith, inl, inr}, lemmas.Bool.cases_lt, lemmas.List.get_or_read}
use Rattle.std.proofs.lemmas.List.Elements.{Contains-get_or, Contains-append_left, Contains-push}
use Rattle.std.proofs.{lemmas.List.Elements.Contains-push_cases, lemmas.List.Quantifiers.all_pairs_push}
use Rattle.std.specs.Prelude.{Contains, AllPairs, IsSome}
use Rattle.weight_law.specs.{declared.Weight.Ghosts, Meaning.Meaning}
use Rattle.tier_core.specs.{declared.class.Class.Class, Classes.AreDisjoint}
use Rattle.arc_table.specs.declared.arc.TableArc.{TableArc}
use Rattle.distances.specs.Best.{weight_through}
use Rattle.prune_best.specs.{Names.{IsNamed, Grows}, Kept.{IsTightArc, Matches, AreTightMoves, NamesTargets}}

pub some_added : {W : Type 0} (m : Meaning W) (a w : W) (o : Option W) → weight_through m a o ≡ Some w → IsSome o
some_added m a w None e = cc
some_added m a w (Some b) e = refl

module _ {W V : Type 0} {g : Ghosts W} {h : Ghosts V} (least : List (Option W)) (w : W)
    (arcs : List (TableArc W g)) where
  pub skip : (names : List ℕ) (moves : List (TableArc V h)) (n : ℕ) (arc : TableArc W g) → n < length arcs
      → arc ≡ get_or arcs n arc → (IsTightArc least w arc → ⊥) → AreTightMoves least names w arcs moves n
      → AreTightMoves least names w arcs moves (n + 1)
  skip names moves n arc inside read not old = record {
    from = λ b c. (let f = old.from b c in (f.0, omega (arith, f.1), f.2));
    to = λ j d l kept. elim (cases_lt j n) [
      | inl lower ↦ old.to j d lower kept
      | inr upper ↦
          (let at : j ≡ n = omega arith in
          let same : get_or arcs j d ≡ arc = ap (λ k. get_or arcs k d) at
          ∙ sym (get_or_read arcs n arc inside read d) in
          let P : TableArc W g → Type 0 = IsTightArc least w in
          absurd (not (subst P same kept)))
    ];
    apart = old.apart;
  }

  pub keep : (names next : List ℕ) (moves : List (TableArc V h)) (n : ℕ) (arc : TableArc W g) (b : TableArc V h)
      → n < length arcs → arc ≡ get_or arcs n arc → ((j t : ℕ) → IsNamed names j t → IsNamed next j t)
      → IsTightArc least w arc → Matches next arc b → AreTightMoves least names w arcs moves n
      → AreTightMoves least next w arcs (moves ++ b ∷ []) (n + 1)
  keep names next moves n arc b inside read stays kept match old = record { from = from; to = to; apart = apart }
    where
      at_n : (d : TableArc W g) → arc ≡ get_or arcs n d
      at_n d = get_or_read arcs n arc inside read d

      Good : TableArc V h → TableArc W g → Type 0
      Good c a = IsTightArc least w a × Matches next a c

      from : (c : TableArc V h) → Contains (moves ++ b ∷ []) c
          → (j : ℕ) × (j < n + 1) × ((d : TableArc W g)
          → IsTightArc least w (get_or arcs j d) × Matches next (get_or arcs j d) c)
      from c here = elim (Contains-push_cases moves b c here) [
        | inl there ↦ (let f = old.from c there in (
          f.0,
          omega (arith, f.1),
          λ d.
              (let e = f.2 d in (e.0, (e.1.0, stays c.target (get_or arcs f.0 d).target e.1.1))),
        ))
        | inr same ↦ (
          n,
          omega arith,
          λ d.
              (let P : TableArc V h → Type 0 = λ x. IsTightArc least w (get_or arcs n d) × Matches next
              (get_or arcs n d) x in
              let Q : TableArc W g → Type 0 = λ x. IsTightArc least w x × Matches next x b in
              subst P same (subst Q (at_n d) (kept, match))),
        )
      ]

      to : (j : ℕ) (d : TableArc W g) → j < n + 1 → IsTightArc least w (get_or arcs j d)
          → (c : TableArc V h) × Contains (moves ++ b ∷ []) c × Matches next (get_or arcs j d) c
      to j d l k = elim (cases_lt j n) [
        | inl lower ↦ (let f = old.to j d lower k in (
          f.0,
          Contains-append_left moves (b ∷ []) f.0 f.1,
          (f.2.0, stays f.0.target (get_or arcs j d).target f.2.1),
        ))
        | inr upper ↦
            (let at : n ≡ j = omega arith in
            let Q : TableArc W g → Type 0 = λ x. Matches next x b in
            (b, Contains-push moves b, subst Q (at_n d ∙ ap (λ k. get_or arcs k d) at) match))
      ]

      apart : AllPairs (λ a b. AreDisjoint a.class b.class) arcs
          → AllPairs (λ a b. AreDisjoint a.class b.class) (moves ++ b ∷ [])
      apart p = all_pairs_push (λ a b. AreDisjoint a.class b.class) moves b (old.apart p)
          (λ k d l.
          (let f = old.from (get_or moves k d) (Contains-get_or moves k d l) in
          let pair = p f.0 n arc f.1 inside in
          let P : Class → Type 0 = λ x. AreDisjoint x b.class in
          let Q : Class → Type 0 = λ x. AreDisjoint (get_or arcs f.0 arc).class x in
          subst P (sym (f.2 arc).1.0) (subst Q (ap (λ x. x.class) (sym (at_n arc)) ∙ sym match.0) pair)))

pub keep-names : {W V : Type 0} {h : Ghosts V} (least : List (Option W)) (first names next : List ℕ)
    (moves : List (TableArc V h)) (b : TableArc V h) (k s : ℕ) → NamesTargets least first names moves
    → Grows names next k s → b.target ≡ k → IsSome (get_or least s None)
    → NamesTargets least first next (moves ++ b ∷ [])
keep-names {W} {V} {h} least first names next moves b k s old grows target some = record {
  stays = λ j t n. grows.stays j t (old.stays j t n);
  others = λ j t n. elim (grows.others j t n) [
    | inl before ↦ elim (old.others j t before) [
      | inl was ↦ inl was
      | inr new ↦ inr (new.0, Contains-append_left moves (b ∷ []) new.0 new.1, new.2, new.3)
    ]
    | inr here ↦ (let P : ℕ → Type 0 = λ x. IsSome (get_or least x None) in inr
        (b, Contains-push moves b, target ∙ sym here.0, subst P (sym here.1) some))
  ];
}
