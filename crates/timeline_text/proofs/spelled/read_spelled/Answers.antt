use Rattle.std.proofs.Common.{◌≡◌, ℕ, ◌-◌, ◌<◌, ◌≤◌, List, length, take, drop, None, ap, sym, arith, ◌∙◌}
use Rattle.std.proofs.{lemmas.Bool.Decides.nat_tests, lemmas.Grind.common_steps}
use Rattle.tier_core.specs.Timelines.{IsReduced}
use Rattle.timeline_text.specs.{Spelling.{unknown_letter, sounds_of, IsSpelledBy}, Between.columns_after}
use Rattle.timeline_text.proofs.Spell.{spelled_by, spelled_edges, ok_at}
use Rattle.timeline_text.proofs.spelled.read_spelled.Goals as goal

rest : (bytes : List ℕ) → take (length bytes - 1) (drop 1 bytes) ≡ drop 1 bytes
rest bytes = grind (arith, common_steps)

pub returns-clause-ok : goal.returns-clause-ok
returns-clause-ok c =
    let same = rest c.args.bytes.now in
    let m = rw same at c.columns_of.ensures in
    let known : unknown_letter c.args.letters.now (drop 1 c.args.bytes.now)
    ≡ None = sym (ap (unknown_letter c.args.letters.now) same) ∙ sym c.unknown_letter.ensures ∙ c.in_default.is in
    let few : length (drop 1 c.args.bytes.now) ≤ 63 = rw same at c.if-word-gt63.false in
    let some : 0 < length (drop 1 c.args.bytes.now) = let e = rw same at
    (sym c.is_empty.ensures ∙ c.if-is_empty.false) in grind (arith, nat_tests) in
    ok_at (columns_after c.args.inputs 0 (sounds_of c.args.letters.now c.args.bytes.now)) _
    (IsSpelledBy c.args.letters.now c.args.inputs c.args.bytes.now) c.columns_of.result m
    (spelled_by c.args.letters.now c.args.inputs c.args.bytes.now known few some)

pub returns-clause-reduced : goal.returns-clause-reduced
returns-clause-reduced c =
    let same = rest c.args.bytes.now in
    let m = rw same at c.columns_of.ensures in
    let known : unknown_letter c.args.letters.now (drop 1 c.args.bytes.now)
    ≡ None = sym (ap (unknown_letter c.args.letters.now) same) ∙ sym c.unknown_letter.ensures ∙ c.in_default.is in
    let some : 0 < length (drop 1 c.args.bytes.now) = let e = rw same at
    (sym c.is_empty.ensures ∙ c.if-is_empty.false) in grind (arith, nat_tests) in
    ok_at (columns_after c.args.inputs 0
    (sounds_of c.args.letters.now c.args.bytes.now)) _ IsReduced c.columns_of.result m
    (spelled_edges c.args.letters.now c.args.inputs c.args.bytes.now c.requires.sounds known some)
