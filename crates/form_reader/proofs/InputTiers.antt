-- The input tiers of a grammar, and the sounds of its letters.
use Rattle.std.proofs.Common.{◌≡◌, ℕ, ◌≤◌, true, List, [], ◌∷◌, length, map, All, string_bytes, sym, ◌∙◌, subst}
use Rattle.std.proofs.{Common.arith, lemmas.Bool.{and_parts, ltb-true}, lemmas.List.Elements.All-from_recursion}
use Rattle.std.proofs.lemmas.List.{length-map}
use Rattle.std.specs.List.{AllByRecursion, list_all}
use Rattle.tier_core.specs.{Tiers.is_input, Tables.tiers_of_table}
use Rattle.tier_core.proofs.TableMasks.{length-numbers_from}
use Rattle.timeline_text.specs.{declared.letter.Letter.Letter, Spelling.HasSound}
use Rattle.grammar_reader.specs.{declared.grammar.Grammar.Grammar, Grammars.value_of, Values.{has_sound, inputs_of}}
use Rattle.grammar_reader.proofs.Shaping.{length-inputs, some_input}

letter_sounds : (n : ℕ) (letters : List Letter) → list_all (has_sound n) letters ≡ true
    → AllByRecursion (HasSound n) letters
letter_sounds n [] h = tt
letter_sounds n (letter ∷ letters) h =
    let parts = and_parts _ _ h in
    let sound = and_parts _ _ parts.0 in
    (record { some = ltb-true _ _ sound.0; within = ltb-true _ _ sound.1 }, letter_sounds n letters parts.1)

module _ (g : Grammar) where
  same_length : length (map string_bytes g.tiers.names.items) ≡ length g.tiers.kinds.items
  same_length = length-map g.tiers.names.items string_bytes ∙ g.tiers.one_length

  inputs_are : length (tiers_of_table g.tiers).input ≡ length (inputs_of (value_of g).tiers)
  inputs_are = length-numbers_from is_input 0 g.tiers.kinds.items
      ∙ sym (length-inputs (map string_bytes g.tiers.names.items) g.tiers.kinds.items same_length)

  pub some_inputs : 1 ≤ length (tiers_of_table g.tiers).input
  some_inputs =
      let n = length-numbers_from is_input 0 g.tiers.kinds.items in
      let some = some_input (map string_bytes g.tiers.names.items) g.tiers.kinds.items same_length g.lawful.input in
      omega (arith, n, some)

  pub few_inputs : length (tiers_of_table g.tiers).input ≤ 6
  few_inputs = omega (arith, inputs_are, g.lawful.made.few_inputs)

  -- each letter has a sound on the input tiers
  pub sounds : (n : ℕ) → n ≡ length (tiers_of_table g.tiers).input → All (HasSound n) g.letters.items
  sounds n e =
      subst (λ m. All (HasSound m) g.letters.items) (sym (e ∙ inputs_are))
      (All-from_recursion (HasSound (length (inputs_of (value_of g).tiers))) g.letters.items
      (letter_sounds (length (inputs_of (value_of g).tiers)) g.letters.items g.lawful.made.sounds))
