use Rattle.std.proofs.Common.{◌≡◌, bit_xor, ap, ◌∙◌}
use Rattle.tier_core.specs.ClassWords.{set_in}
use Rattle.tier_core.proofs.ClassWordLemmas.{put_here, put_others, put_below}
use Rattle.tier_core.proofs.class_word.with_set_in.Goals as goal

pub returns : goal.returns
returns c =
    let word = c.args.word in
    let turned = c.from-turned.result in
    let set = c.args.set in
    let tier = c.args.tier in
    let is : turned ≡ bit_xor (set_in word tier) set =
    c.from-turned.ensures ∙ ap (λ x. bit_xor x set) c.set_in.ensures.value in
    record {
      here = put_here word turned set tier c.requires.tier is c.requires.set;
      others = put_others word turned set tier c.requires.tier is c.requires.set;
      below = put_below word turned set tier c.requires.tier is c.requires.set;
    }
