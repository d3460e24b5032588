use Rattle.std.proofs.Common.{◌≡◌, List, ℕ, map, ap, sym, ◌∙◌, subst}
use Rattle.std.specs.String.{string_bytes}
use Rattle.grammar_reader.specs.Values.{GrammarValue, NamedTier, IsGrammar}
use Rattle.grammar_reader.specs.{Seen.{tiers_seen, tiers_by, value_by, constraint_seen}, Made.made_value}
use Rattle.grammar_reader.proofs.{Ascii.tiers_back, Adding.with_tiers}
use Rattle.grammar_reader.proofs.read.finish.Goals as goal

pub invariant_of-result-2 : goal.invariant_of-result-2
invariant_of-result-2 c =
    let ts = tiers_seen c.args.made.tiers.entries in
    let e : tiers_by (map string_bytes c.in_ok-names.names.items) c.in_ok-kinds.kinds.items ≡ ts =
    ap (λ ns. tiers_by ns c.in_ok-kinds.kinds.items) c.in_ok-names.ensures
    ∙ ap (tiers_by (map (λ t. t.name) ts)) c.in_ok-kinds.ensures ∙ tiers_back ts in
    record {
      lawful = subst IsGrammar (sym
          (with_tiers _ _ c.args.made.letters.items (map constraint_seen c.args.made.constraints.items) e)) c.requires;
    }

pub returns : goal.returns
returns c =
    let ts = tiers_seen c.args.made.tiers.entries in
    let e : tiers_by (map string_bytes c.in_ok-names.names.items) c.in_ok-kinds.kinds.items ≡ ts =
    ap (λ ns. tiers_by ns c.in_ok-kinds.kinds.items) c.in_ok-names.ensures
    ∙ ap (tiers_by (map (λ t. t.name) ts)) c.in_ok-kinds.ensures ∙ tiers_back ts in
    with_tiers _ _ c.args.made.letters.items (map constraint_seen c.args.made.constraints.items) e
