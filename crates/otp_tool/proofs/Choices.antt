-- A step refuses for one thing, or goes on to one thing.
use Rattle.std.proofs.Common.{◌≡◌, ◌⊎◌, inl, inr, ℕ, zero, suc, ◌<◌, ◌≤◌, refl, ap, sym, ◌∙◌, arith}
use Rattle.otp_tool.specs.{Findings.Finding, Steps.IsFindingOf}

pub one_choice : (P Q : Finding → Type 0) → ((x y : Finding) → P x → P y → x ≡ y) → ((x y : Finding) → P x → Q y → ⊥)
    → ((x y : Finding) → Q x → Q y → x ≡ y) → (x y : Finding) → P x ⊎ Q x → P y ⊎ Q y → x ≡ y
one_choice P Q ps apart qs x y (inl a) (inl b) = ps x y a b
one_choice P Q ps apart qs x y (inl a) (inr b) = absurd (apart x y a b)
one_choice P Q ps apart qs x y (inr a) (inl b) = absurd (apart y x b a)
one_choice P Q ps apart qs x y (inr a) (inr b) = qs x y a b

pub one_of : {A : Type 0} (f : A → Finding) (P : A → Type 0) → ((a b : A) → P a → P b → f a ≡ f b) → (x y : Finding)
    → IsFindingOf f P x → IsFindingOf f P y → x ≡ y
one_of f P same x y a b = a.is ∙ same a.value b.value a.fact b.fact ∙ sym b.is

pub equal_where : (a b : ℕ) → (a < b → ⊥) → (b < a → ⊥) → a ≡ b
equal_where zero zero f h = refl
equal_where zero (suc b) f h = absurd (f (omega arith))
equal_where (suc a) zero f h = absurd (h (omega arith))
equal_where (suc a) (suc b) f h = ap suc (equal_where a b (λ l. f (omega (arith, l))) (λ l. h (omega (arith, l))))

pub too_long : (limit n : ℕ) → limit < n → n ≤ limit → ⊥
too_long limit n l m = omega arith
