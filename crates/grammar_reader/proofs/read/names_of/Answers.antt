use Rattle.std.proofs.{Common.{◌≡◌, ◌∷◌, [], ◌++◌, length, true, ap, sym, ◌∙◌, map, subst}, lemmas.Simd.map-map}
use Rattle.std.proofs.lemmas.List.{map-append}
use Rattle.std.proofs.lemmas.Iterator.Consumers.{YieldsList-turn, YieldsList-end, YieldsList-from_rest}
use Rattle.std.specs.{String.string_bytes, Map.keys_of}
use Rattle.grammar_reader.specs.{Names.is_name, Seen.tier_seen}
use Rattle.grammar_reader.proofs.Ascii.{name_utf8, key_name}
use Rattle.grammar_reader.proofs.read.names_of.Goals as goal

pub returns : goal.returns
returns c =
    let e = (YieldsList-end (YieldsList-from_rest (keys_of c.args.tiers.now.entries)
    (cc)) c.loop-name.yielded _ c.loop-name.yielded_by _ _ c.in-None.is c.next.ensures.steps).0 in
    c.loop-name.invariant ∙ sym (map-map (λ k. k.now) (λ x. x.now) c.loop-name.yielded) ∙ ap (map (λ k. k.now)) e
    ∙ map-map (λ k. k.now) (λ e. e.0) c.args.tiers.now.entries
    ∙ sym (map-map (λ t. t.name) tier_seen c.args.tiers.now.entries)

pub loop-name-preserved : goal.loop-name-preserved
loop-name-preserved c =
    let t = YieldsList-turn (YieldsList-from_rest (keys_of c.args.tiers.now.entries)
    (cc)) c.loop-name.yielded _ c.loop-name.yielded_by _ _ _ c.in-Some.is c.next.ensures.steps in
    let named : is_name c.in-Some.name.now.now ≡ true = ap (λ k. is_name k.now) t.1
    ∙ key_name c.args.tiers.now.entries (length c.loop-name.yielded) c.in-Some.name.now t.0 c.requires in
    ap (map string_bytes) c.in_ok-push.ensures.items
    ∙ map-append string_bytes c.loop-name.names.items (c.in_ok-from_utf8_lossy.field-0 ∷ [])
    ∙ ap (λ xs. xs ++ string_bytes c.in_ok-from_utf8_lossy.field-0 ∷ []) c.loop-name.invariant
    ∙ ap (λ x. map (λ y. y.now.now) c.loop-name.yielded ++ x ∷ [])
    (c.in_ok-from_utf8_lossy.ensures.ok (name_utf8 c.in-Some.name.now.now named))
    ∙ sym (map-append (λ y. y.now.now) c.loop-name.yielded (c.in-Some.name ∷ []))
