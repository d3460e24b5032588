-- Kinds with the same numbers are the same.
use Rattle.std.proofs.Common.{◌≡◌, ℕ, Bool, true, false, ◌&&◌, nat_eq, refl, ap, subst, ◌∙◌, bit_and, eq-eqb}
use Rattle.std.proofs.{Props.props, lemmas.Bool.{eqb-true, and_parts}}
use Rattle.std.specs.Prelude.{Decides}
use Rattle.tier_core.specs.declared.kind.Kind.{Kind}

pub same_fields : (k l : Kind) → k.place ≡ l.place → k.opened ≡ l.opened → k.unmet ≡ l.unmet → k.met ≡ l.met → k ≡ l
same_fields k l place opened unmet met =
    let Unmet : ℕ → Type 0 = λ u. (a : bit_and u k.met ≡ 0) → k
    ≡ record { place = k.place; opened = k.opened; unmet = u; met = k.met; apart = a } in
    let own : Unmet k.unmet = λ a. let one : IsProp (bit_and k.unmet k.met ≡ 0) = hlevel props in
    ap (λ (x : bit_and k.unmet k.met ≡ 0). let r : Kind = record {
      place = k.place;
      opened = k.opened;
      unmet = k.unmet;
      met = k.met;
      apart = x;
    } in r) (one k.apart a) in
    let Met : ℕ → Type 0 = λ m. (a : bit_and l.unmet m ≡ 0) → k
    ≡ record { place = k.place; opened = k.opened; unmet = l.unmet; met = m; apart = a } in
    let masks : Met l.met = subst Met met (subst Unmet unmet own) in
    masks l.apart
    ∙ ap (λ (x : ℕ). let r : Kind = record {
      place = x;
      opened = k.opened;
      unmet = l.unmet;
      met = l.met;
      apart = l.apart;
    } in r) place
    ∙ ap (λ (x : ℕ). let r : Kind = record {
      place = l.place;
      opened = x;
      unmet = l.unmet;
      met = l.met;
      apart = l.apart;
    } in r) opened

-- what `==` says of two kinds
abbrev pub kind_eq : Kind → Kind → Bool
kind_eq a b = nat_eq a.place b.place && (nat_eq a.opened b.opened && (nat_eq a.unmet b.unmet && nat_eq a.met b.met))

all_true : (w x y z : Bool) → w ≡ true → x ≡ true → y ≡ true → z ≡ true → (w && (x && (y && z))) ≡ true
all_true true true true true a b c d = refl
all_true true true true false a b c d = d
all_true true true false z a b c d = c
all_true true false y z a b c d = b
all_true false x y z a b c d = a

pub kind_eq-Decides : (a b : Kind) → Decides (kind_eq a b) (a ≡ b)
kind_eq-Decides a b = (same, λ e. subst (λ (x : Kind). kind_eq a x ≡ true) e itself)
  where
    same : kind_eq a b ≡ true → a ≡ b
    same e =
        let p = and_parts (nat_eq a.place b.place)
        (nat_eq a.opened b.opened && (nat_eq a.unmet b.unmet && nat_eq a.met b.met)) e in
        let o = and_parts (nat_eq a.opened b.opened) (nat_eq a.unmet b.unmet && nat_eq a.met b.met) p.1 in
        let m = and_parts (nat_eq a.unmet b.unmet) (nat_eq a.met b.met) o.1 in
        same_fields a b (eqb-true a.place b.place p.0) (eqb-true a.opened b.opened o.0)
        (eqb-true a.unmet b.unmet m.0) (eqb-true a.met b.met m.1)

    itself : kind_eq a a ≡ true
    itself = all_true (nat_eq a.place a.place) (nat_eq a.opened a.opened) (nat_eq a.unmet a.unmet)
        (nat_eq a.met a.met) (eq-eqb a.place a.place refl) (eq-eqb a.opened a.opened refl)
        (eq-eqb a.unmet a.unmet refl) (eq-eqb a.met a.met refl)
