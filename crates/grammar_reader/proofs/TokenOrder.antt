-- Tokens come in the order of their source.
use Rattle.std.proofs.Common.{◌≡◌, ℕ, ◌+◌, ◌<◌, ◌≤◌, Bool, true, false, cond, List, [], ◌∷◌, ◌++◌, length, filter}
use Rattle.std.proofs.{Common.{subst, ap, sym, ◌∙◌, arith, length-append}, lemmas.List.Elements.All-from_recursion}
use Rattle.std.proofs.{lemmas.List.Kept.AllPairs-cons, lemmas.List.Sums.take_while-cons}
use Rattle.std.specs.{Prelude.take_while, List.{AllByRecursion, AllPairs, concat}}
use Rattle.grammar_reader.specs.{Ascending.{AreAscending, Precedes}, Pieces.{content, goes_on, is_no_spacing}}
use Rattle.grammar_reader.specs.Pieces.{is_token, Mark, marks_of, onto_piece, token_pieces, marks_along, tokens_of}
use Rattle.timeline_text.specs.Bytes.{lines_of}
use Rattle.grammar_reader.proofs.SliceLaw.{concat_pieces, content_after}

-- ---- walks ----
-- from a line and a place over marks to a line and a place: each mark begins where the walk is, or later, and has bytes
abbrev Walk : ℕ → ℕ → List Mark → ℕ → ℕ → Type 0
Walk line at [] last end = (line ≤ last) × (at ≤ end)
Walk line at (m ∷ ms) last end =
    (line ≤ m.line) × (at ≤ m.at) × (0 < length m.text) × Walk m.line (m.at + length m.text) ms last end

sooner : (line at line' at' : ℕ) (ms : List Mark) (last end : ℕ) → line' ≤ line → at' ≤ at
    → Walk line at ms last end → Walk line' at' ms last end
sooner line at line' at' [] last end p q w = (omega (arith, p, w.0), omega (arith, q, w.1))
sooner line at line' at' (m ∷ ms) last end p q w = (omega (arith, p, w.0), omega (arith, q, w.1), w.2, w.3)

later : (line at : ℕ) (ms : List Mark) (last end last' end' : ℕ) → last ≤ last' → end ≤ end'
    → Walk line at ms last end → Walk line at ms last' end'
later line at [] last end last' end' p q w = (omega (arith, p, w.0), omega (arith, q, w.1))
later line at (m ∷ ms) last end last' end' p q w =
    (w.0, w.1, w.2, later m.line (m.at + length m.text) ms last end last' end' p q w.3)

-- one walk and then another
both : (line at : ℕ) (ms : List Mark) (mid place : ℕ) (ns : List Mark) (last end : ℕ)
    → Walk line at ms mid place → Walk mid place ns last end → Walk line at (ms ++ ns) last end
both line at [] mid place ns last end w v = sooner mid place line at ns last end w.0 w.1 v
both line at (m ∷ ms) mid place ns last end w v =
    (w.0, w.1, w.2, both m.line (m.at + length m.text) ms mid place ns last end w.3 v)

filtered : (line at : ℕ) (ms : List Mark) (last end : ℕ)
    → Walk line at ms last end → Walk line at (filter is_no_spacing ms) last end
filtered line at [] last end w = w
filtered line at (m ∷ ms) last end w =
    let rest = filtered m.line (m.at + length m.text) ms last end w.3 in
    elim (is_no_spacing m) as
    (λ t. Walk line at (cond t (m ∷ filter is_no_spacing ms) (filter is_no_spacing ms)) last end) [
      | true ↦ (w.0, w.1, w.2, rest)
      | false ↦ sooner m.line (m.at + length m.text) line at (filter is_no_spacing ms) last end w.0
          (omega (arith, w.1)) rest
    ]

-- ---- over the pieces of a line ----
abbrev HasBytes : List ℕ → Type 0
HasBytes piece = 0 < length piece

bytes_onto : (a : ℕ) (ps : List (List ℕ)) → AllByRecursion HasBytes ps → AllByRecursion HasBytes (onto_piece a ps)
bytes_onto a [] h = (omega arith, tt)
bytes_onto a (p ∷ ps) h = elim (goes_on a p) as
    (λ t. AllByRecursion HasBytes (cond t ((a ∷ p) ∷ ps) ((a ∷ []) ∷ p ∷ ps)))
    [ true ↦ (omega arith, h.1) | false ↦ (omega arith, h) ]

pieces_have_bytes : (q : List ℕ) → AllByRecursion HasBytes (token_pieces q)
pieces_have_bytes [] = tt
pieces_have_bytes (a ∷ q) = bytes_onto a (token_pieces q) (pieces_have_bytes q)

over_pieces : (line at : ℕ) (ps : List (List ℕ)) → AllByRecursion HasBytes ps
    → Walk line at (marks_along line at ps) line (at + length (concat ps))
over_pieces line at [] h = (omega arith, omega arith)
over_pieces line at (p ∷ ps) h =
    let joined : length (concat (p ∷ ps)) ≡ length p + length (concat ps) = length-append p (concat ps) in
    let end : at + length p + length (concat ps) ≡ at + length (concat (p ∷ ps)) = omega (arith, joined) in (
      omega arith,
      omega arith,
      h.0,
      subst (λ end. Walk line (at + length p) (marks_along line (at + length p) ps) line end) end
          (over_pieces line (at + length p) ps h.1),
    )

-- a line's content is no longer than the line
content_within : (text : List ℕ) → length (content text) ≤ length text
content_within text =
    let a = content_after text in
    let e : length text ≡ length (content text) + length a.tail = ap length a.is
    ∙ length-append (content text) a.tail in
    omega (arith, e)

over_line : (line at : ℕ) (text : List ℕ)
    → Walk line at (filter is_no_spacing (marks_along line at (token_pieces (content text)))) (line + 1)
    (at + length text + 1)
over_line line at text =
    let ps = token_pieces (content text) in
    let e : length (concat ps) ≡ length (content text) = ap length (concat_pieces (content text)) in
    filtered line at (marks_along line at ps) (line + 1) (at + length text + 1)
    (later line at (marks_along line at ps) line (at + length (concat ps)) (line + 1) (at + length text + 1)
    (omega arith) (omega (arith, e, content_within text)) (over_pieces line at ps (pieces_have_bytes (content text))))

-- ---- over a source ----
record Walks (line at : ℕ) (ms : List Mark) : Type 0 where
  last : ℕ
  end : ℕ
  walk : Walk line at ms last end

over_lines : (line at : ℕ) (texts : List (List ℕ)) → Walks line at (marks_of line at texts)
over_lines line at [] = record { last = line; end = at; walk = (omega arith, omega arith) }
over_lines line at (text ∷ texts) =
    let rest = over_lines (line + 1) (at + length text + 1) texts in record {
      last = rest.last;
      end = rest.end;
      walk = both line at (filter is_no_spacing (marks_along line at (token_pieces (content text)))) (line + 1)
          (at + length text + 1) (marks_of (line + 1) (at + length text + 1) texts) rest.last rest.end
          (over_line line at text) rest.walk;
    }

first_at : (line at : ℕ) (m : Mark) (ms : List Mark) (t : Bool) → line ≤ m.line → at ≤ m.at → 0 < length m.text
    → Walks m.line (m.at + length m.text) ms → Walks line at (cond t (m ∷ ms) [])
first_at line at m ms true p q r rest = record { last = rest.last; end = rest.end; walk = (p, q, r, rest.walk) }
first_at line at m ms false p q r rest = record { last = line; end = at; walk = (omega arith, omega arith) }

first_tokens : (line at : ℕ) (ms : List Mark) (last end : ℕ) → Walk line at ms last end
    → Walks line at (take_while is_token ms)
first_tokens line at [] last end w = record { last = last; end = end; walk = w }
first_tokens line at (m ∷ ms) last end w = subst (Walks line at) (sym (take_while-cons is_token m ms))
    (first_at line at m (take_while is_token ms) (is_token m) w.0 w.1 w.2
    (first_tokens m.line (m.at + length m.text) ms last end w.3))

-- ---- what a walk shows of its marks ----
abbrev IsFrom : ℕ → ℕ → Mark → Type 0
IsFrom line at m = (line ≤ m.line) × (at ≤ m.at)

all_from : (line at : ℕ) (ms : List Mark) (last end : ℕ) → Walk line at ms last end → AllByRecursion (IsFrom line at) ms
all_from line at [] last end w = tt
all_from line at (m ∷ ms) last end w = (
  (w.0, w.1),
  all_from line at ms last end (sooner m.line (m.at + length m.text) line at ms last end w.0 (omega (arith, w.1)) w.3),
)

all_later : (m : Mark) (ms : List Mark) → 0 < length m.text
    → AllByRecursion (IsFrom m.line (m.at + length m.text)) ms → AllByRecursion (Precedes m) ms
all_later m [] has h = tt
all_later m (n ∷ ms) has h = (
  record { begins = omega (arith, has, h.0.1); ends = h.0.1; line = h.0.0 },
  all_later m ms has h.1,
)

ascending : (line at : ℕ) (ms : List Mark) (last end : ℕ) → Walk line at ms last end → AreAscending ms
ascending line at [] last end w = λ i j d l within. absurd (omega arith)
ascending line at (m ∷ ms) last end w =
    AllPairs-cons Precedes m ms
    (All-from_recursion (Precedes m) ms
    (all_later m ms w.2 (all_from m.line (m.at + length m.text) ms last end w.3)))
    (ascending m.line (m.at + length m.text) ms last end w.3)

pub tokens_ascending : (source : List ℕ) → AreAscending (tokens_of source)
tokens_ascending source =
    let marks = over_lines 1 0 (lines_of source) in
    let tokens = first_tokens 1 0 (marks_of 1 0 (lines_of source)) marks.last marks.end marks.walk in
    ascending 1 0 (tokens_of source) tokens.last tokens.end tokens.walk
