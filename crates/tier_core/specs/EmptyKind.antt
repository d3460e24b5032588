-- The kind of the empty prefix.
use Rattle.std.specs.Prelude.{refl}
use Rattle.tier_core.specs.declared.kind.Kind.{Kind}

abbrev pub empty_kind : Kind
empty_kind = record { place = 0; opened = 0; unmet = 0; met = 0; apart = refl }
