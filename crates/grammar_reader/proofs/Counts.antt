-- Counting tiers of a kind.
use Rattle.std.proofs.{Common.{◌≡◌, ℕ, Bool, List, map, filter, length, ap, sym, ◌∙◌}, lemmas.List.length-map}
use Rattle.std.specs.Map.{values_of}
use Rattle.tier_core.specs.declared.tier.TierKind.{TierKind}
use Rattle.grammar_reader.specs.Seen.{tier_seen, tiers_seen}
use Rattle.grammar_reader.proofs.Lists.{filter-map}
use denote.Ref.{Bor}

-- the values that pass are as many as the tiers whose kinds pass
pub count_kinds : (p : TierKind → Bool) (es : List (Bor (List ℕ) × TierKind))
    → length (filter p (values_of es)) ≡ length (filter (λ t. p t.kind) (tiers_seen es))
count_kinds p es =
    ap length (sym (filter-map p (λ e. e.1) es)) ∙ length-map (filter (λ e. p e.1) es) (λ e. e.1)
    ∙ sym (length-map (filter (λ e. p e.1) es) tier_seen) ∙ ap length (filter-map (λ t. p t.kind) tier_seen es)
