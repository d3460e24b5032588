use Rattle.std.proofs.{Common.{◌≡◌, ℕ, Bool, true, false, not, Some, refl, ap, sym, ◌∙◌}, lemmas.Bool.false≢true}
use Rattle.std.specs.Bool.{beq}
use Rattle.stage_tables.proofs.listed.number_over.Goals as goal

same_bits : (a b : Bool) → not (beq a b) ≡ false → a ≡ b
same_bits true true e = refl
same_bits true false e = absurd (false≢true (sym e))
same_bits false true e = absurd (false≢true (sym e))
same_bits false false e = refl

pub returns : goal.returns
returns c = (
  c.in_ok-kind.kind,
  sym c.in_ok-kind.ensures ∙ ap (λ (x : ℕ). Some (c.in_ok-kind.kind, x)) c.if-over-state.false,
  sym c.has_bit.ensures ∙ same_bits _ _ c.if-has_bit-is_met.false,
)
