-- Rows of lines, line by line.
use Rattle.std.proofs.Common.{◌≡◌, ℕ, ◌+◌, ◌<◌, ◌≤◌, true, false, not, cond, List, [], ◌∷◌, ◌++◌, length, map, refl}
use Rattle.std.proofs.{Common.{ap, sym, ◌∙◌, subst, arith, append-nil}, lemmas.List.{length_push, map_push}}
use Rattle.std.proofs.lemmas.List.Elements.{All-nil, All-push, filter-append}
use Rattle.std.specs.Str.Lines.{lines}
use Rattle.tier_core.specs.declared.sym.Sym.{Sym}
use Rattle.timeline_text.specs.Texts.{text_of}
use Rattle.violation.specs.{Candidates.IsCandidate, Problems.Problem}
use Rattle.tableau.specs.{declared.rows_err.RowsErr.RowsErr, declared.rows_err.RowsErr.TheVariants.{At, NoMemory}}
use Rattle.tableau.specs.Rows.{AreRowsOf, IsLineCause, IsLineRefusal, IsRowOf, IsTextRefusal, filled_lines}
use Rattle.tableau.specs.Rows.{is_blank}

-- the lines so far and one more, which is passed over
pub filled_blank : (front : List (List ℕ)) (line : List ℕ) → is_blank line ≡ true
    → filled_lines (front ++ line ∷ []) ≡ filled_lines front
filled_blank front line h =
    filter-append (λ l. not (is_blank l)) front (line ∷ [])
    ∙ ap (λ b. filled_lines front ++ cond (not b) (line ∷ []) []) h ∙ append-nil (filled_lines front)

-- or is not
pub filled_more : (front : List (List ℕ)) (line : List ℕ) (behind : List (List ℕ)) → is_blank line ≡ false
    → filled_lines (front ++ line ∷ behind) ≡ filled_lines front ++ line ∷ filled_lines behind
filled_more front line behind h =
    filter-append (λ l. not (is_blank l)) front (line ∷ behind)
    ∙ ap (λ b. filled_lines front ++ cond (not b) (line ∷ filled_lines behind) (filled_lines behind)) h

-- no line has no rows
pub no_rows : (problem : Problem) → AreRowsOf problem [] []
no_rows problem = record {
  texts = refl;
  candidates = All-nil (IsCandidate problem);
  within = All-nil (λ T. length T ≤ 4096);
  few = omega arith;
}

pub blank_line : (problem : Problem) (front : List (List ℕ)) (line : List ℕ) (rows : List (List (List Sym)))
    → is_blank line ≡ true
    → AreRowsOf problem front rows → AreRowsOf problem (front ++ line ∷ []) rows
blank_line problem front line rows h a = record
    { texts = filled_blank front line h ∙ a.texts; candidates = a.candidates; within = a.within; few = a.few }

pub row_line : (problem : Problem) (front : List (List ℕ)) (line : List ℕ) (rows : List (List (List Sym)))
    (T : List (List Sym)) → is_blank line ≡ false
    → length rows < 32 → IsRowOf problem line T → AreRowsOf problem front rows
    → AreRowsOf problem (front ++ line ∷ []) (rows ++ T ∷ [])
row_line problem front line rows T h l r a = record {
  texts = filled_more front line [] h ∙ ap (λ ts. ts ++ line ∷ []) a.texts
      ∙ ap (λ t. map text_of rows ++ t ∷ []) r.text.text ∙ sym (map_push text_of rows T);
  candidates = All-push (IsCandidate problem) rows T a.candidates r.candidate;
  within = All-push (λ U. length U ≤ 4096) rows T a.within r.text.within;
  few = omega (arith, length_push rows T);
}

-- a line that is refused behind these lines
pub refused_line : (problem : Problem) (front : List (List ℕ)) (line : List ℕ) (behind : List (List ℕ))
    (rows : List (List (List Sym))) (number before : ℕ) (e : RowsErr) → is_blank line ≡ false
    → length front + 1 ≡ number → before ≡ length rows → AreRowsOf problem front rows
    → IsLineRefusal problem number before line e → IsTextRefusal problem (front ++ line ∷ behind) e
refused_line problem front line behind rows number before NoMemory h n b a r = tt
refused_line problem front line behind rows number before (At row cause) h n b a r = record {
  front = front;
  line = line;
  behind = behind;
  whole = refl;
  counted = n ∙ sym r.0;
  rows = rows;
  read = a;
  has_row = h;
  comes = subst (λ (m : ℕ). IsLineCause problem m line cause) b r.1;
}

-- The lines in front of the rest have these rows.
pub record IsReadTo (problem : Problem) (bytes rest : List ℕ) (number : ℕ)
    (rows : List (List (List Sym))) : Type 0 where
  pub front : List (List ℕ)
  pub whole : lines bytes ≡ front ++ lines rest
  pub read : AreRowsOf problem front rows
  pub counted : length front ≡ number
  pub left : number + length rest ≤ length bytes

-- the lines of the text, with the first line of the rest on its own
pub next_line : (bytes rest behind line : List ℕ) (front : List (List ℕ)) → lines bytes ≡ front ++ lines rest
    → lines rest ≡ line ∷ lines behind → lines bytes ≡ front ++ line ∷ lines behind
next_line bytes rest behind line front w e = w ∙ ap (λ ls. front ++ ls) e
