-- The sets of all symbols, of none, and of those that are no edge.
use Rattle.std.proofs.Common.{◌≡◌, not, true, false, refl}
use Rattle.tier_core.specs.{declared.sym.Sym.Sym, declared.sym.Sym.TheVariants.{Outside, Inside, Start, End, Both}}
use Rattle.tier_core.specs.{Sets.is_in, Timelines.is_edge}

pub in_all : (s : Sym) → is_in 31 s ≡ true
in_all Outside = refl
in_all Inside = refl
in_all Start = refl
in_all End = refl
in_all Both = refl

pub in_none : (s : Sym) → is_in 0 s ≡ false
in_none Outside = refl
in_none Inside = refl
in_none Start = refl
in_none End = refl
in_none Both = refl

pub in_edgeless : (s : Sym) → is_in 3 s ≡ not (is_edge s)
in_edgeless Outside = refl
in_edgeless Inside = refl
in_edgeless Start = refl
in_edgeless End = refl
in_edgeless Both = refl
