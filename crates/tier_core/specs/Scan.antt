-- Reading a word from left to right.
use Rattle.std.specs.Prelude.{Bool, true, false}
use Rattle.tier_core.specs.declared.sym.Sym.{Sym}
use Rattle.tier_core.specs.declared.sym.Sym.TheVariants.{Outside, Inside, Start, End, Both}

-- whether a symbol may come next, given whether the tier is open
abbrev pub fits : Bool → Sym → Bool
fits true Outside = false
fits true Inside = true
fits true Start = false
fits true End = true
fits true Both = true
fits false Outside = true
fits false Inside = false
fits false Start = true
fits false End = false
fits false Both = false

-- whether the tier is open after a symbol
abbrev pub opens : Sym → Bool
opens Outside = false
opens Inside = true
opens Start = true
opens End = false
opens Both = true
