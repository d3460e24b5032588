use Rattle.std.proofs.{Common.{◌≡◌, true, false, Bool, not, refl}, lemmas.Bool.not-true}
use Rattle.comprehend.proofs.Shared.{shared, none_shared}
use Rattle.comprehend.proofs.meets.meets.Goals as goal

not_of : (b : Bool) → (b ≡ true → ⊥) → not b ≡ true
not_of true h = absurd (h refl)
not_of false h = refl

pub returns : goal.returns
returns c =
    let a = c.args.a.now in
    let b = c.args.b.now in
    let both = c.meet.result in
    let empty = c.is_empty.result in (
      λ h. shared a b both c.meet.ensures.columns empty c.is_empty.ensures.sets (not-true empty h),
      λ some. not_of empty (λ e. none_shared a b both c.meet.ensures.columns
          (c.is_empty.ensures.columns.0 e) some.0 some.1.0 some.1.1),
    )
