-- Lines have rows, or one of them is the first with a cause, and never both.
use Rattle.std.proofs.Common.{◌≡◌, ◌⊎◌, inl, inr, ⊎_elim, ℕ, ◌+◌, ◌<◌, ◌≤◌, false, List, [], ◌∷◌, ◌++◌, length, map}
use Rattle.std.proofs.Common.{nat_lt, All, refl, ap, sym, ◌∙◌, subst, arith, append_assoc, append-nil}
use Rattle.std.proofs.{lemmas.Bool.false≢true, lemmas.Bool.Decides.nat_tests, lemmas.List.length-map}
use Rattle.std.proofs.{lemmas.List.Elements.{All-head, All-tail}, lemmas.Slice.Eq.bytes_eq-Decides}
use Rattle.std.specs.Str.{bytes_eq}
use Rattle.tier_core.specs.{declared.sym.Sym.Sym, Tiers.Tiers, Timelines.{project, squeeze}}
use Rattle.timeline_text.specs.{declared.form_err.FormErr.FormErr, Texts.{text_of, IsTextOf}}
use Rattle.timeline_text.specs.Causes.{columns_of, IsCause}
use Rattle.timeline_text.proofs.{Searches.by_test, Cuts.{columns_back, no_word}}
use Rattle.timeline_text.proofs.Deciding.{has_reading, not_both, not_the_word, one_value}
use Rattle.violation.specs.{Candidates.IsCandidate, Problems.Problem}
use Rattle.tableau.specs.declared.rows_err.RowsCause.{RowsCause}
use Rattle.tableau.specs.declared.rows_err.RowsCause.TheVariants.{Form, NotCandidate, TooMany}
use Rattle.tableau.specs.Rows.{AreRowsOf, HasRows, IsLineCause, IsRefusedAt, IsRowOf, filled_lines, is_blank}
use Rattle.tableau.proofs.RowLemmas.{blank_line, filled_more, no_rows, row_line}

-- two timelines with one text are one
same_text : (T U : List (List Sym)) → text_of T ≡ text_of U → T ≡ U
same_text [] [] e = refl
same_text [] (d ∷ U) e = absurd (not_the_word (text_of (d ∷ U)) (no_word d U) (sym e))
same_text (c ∷ T) [] e = absurd (not_the_word (text_of (c ∷ T)) (no_word c T) e)
same_text (c ∷ T) (d ∷ U) e = sym (columns_back c T) ∙ ap columns_of e ∙ columns_back d U

same_texts : (rows others : List (List (List Sym))) → map text_of rows ≡ map text_of others → rows ≡ others
same_texts [] [] e = refl
same_texts [] (U ∷ others) e = cc
same_texts (T ∷ rows) [] e = cc
same_texts (T ∷ rows) (U ∷ others) e =
    let first : text_of T ≡ text_of U = cc in
    let rest : map text_of rows ≡ map text_of others = cc in
    ap (λ x. x ∷ rows) (same_text T U first) ∙ ap (λ xs. U ∷ xs) (same_texts rows others rest)

pub one_list : (problem : Problem) (lines : List (List ℕ)) (rows others : List (List (List Sym)))
    → AreRowsOf problem lines rows → AreRowsOf problem lines others → rows ≡ others
one_list problem lines rows others a b = same_texts rows others (sym a.texts ∙ b.texts)

-- ---- a line with a cause has no row

-- the row whose text stands behind so many others
pub record IsFoundRow (problem : Problem) (before : ℕ) (rows : List (List (List Sym))) (line : List ℕ) : Type 0 where
  pub timeline : List (List Sym)
  pub text : line ≡ text_of timeline
  pub candidate : IsCandidate problem timeline
  pub within : length timeline ≤ 4096
  pub fewer : before < length rows

found : (problem : Problem) (texts : List (List ℕ)) (line : List ℕ) (more : List (List ℕ))
    (rows : List (List (List Sym))) → texts ++ line ∷ more ≡ map text_of rows
    → All (IsCandidate problem) rows → All (λ T. length T ≤ 4096) rows → IsFoundRow problem (length texts) rows line
found problem [] line more [] e c w = cc
found problem (t ∷ texts) line more [] e c w = cc
found problem [] line more (T ∷ rows) e c w = record {
  timeline = T;
  text = cc;
  candidate = All-head (IsCandidate problem) T rows c;
  within = All-head (λ U. length U ≤ 4096) T rows w;
  fewer = omega arith;
}
found problem (t ∷ texts) line more (T ∷ rows) e c w =
    let rest : texts ++ line ∷ more ≡ map text_of rows = cc in
    let f = found problem texts line more rows rest (All-tail (IsCandidate problem) T rows c)
    (All-tail (λ U. length U ≤ 4096) T rows w) in
    record {
      timeline = f.timeline;
      text = f.text;
      candidate = f.candidate;
      within = f.within;
      fewer = let l = f.fewer in omega arith;
    }

found_line : (problem : Problem) (front : List (List ℕ)) (line : List ℕ) (behind : List (List ℕ))
    (rows more : List (List (List Sym))) → is_blank line ≡ false
    → AreRowsOf problem front rows → AreRowsOf problem (front ++ line ∷ behind) more
    → IsFoundRow problem (length rows) more line
found_line problem front line behind rows more h a b =
    subst (λ n. IsFoundRow problem n more line) (length-map rows text_of)
    (found problem (map text_of rows) line (filled_lines behind) more
    (ap (λ ts. ts ++ line ∷ filled_lines behind) (sym a.texts) ∙ sym (filled_more front line behind h)
    ∙ b.texts) b.candidates b.within)

text_is : (problem : Problem) (before : ℕ) (rows : List (List (List Sym))) (line : List ℕ)
    (f : IsFoundRow problem before rows line) → IsTextOf problem.tiers.width 4096 line f.timeline
text_is problem before rows line f = record
    { text = f.text; form = f.candidate.well_formed; reduced = f.candidate.reduced; within = f.within }

no_row : (problem : Problem) (before : ℕ) (rows : List (List (List Sym))) (line : List ℕ) (cause : RowsCause)
    → length rows ≤ 32 → IsLineCause problem before line cause → IsFoundRow problem before rows line → ⊥
no_row problem before rows line TooMany few l f = let m = f.fewer in omega arith
no_row problem before rows line (Form cause) few l f = not_both problem.tiers.width 4096 line f.timeline cause
    (text_is problem before rows line f) l.1
no_row problem before rows line NotCandidate few l f =
    l.1.other (subst (IsCandidate problem)
    (one_value problem.tiers.width 4096 line f.timeline l.1.timeline
    (text_is problem before rows line f) l.1.text) f.candidate)

-- lines that go on behind a line with a cause have no rows
never_read : (problem : Problem) (front : List (List ℕ)) (line : List ℕ) (behind : List (List ℕ))
    (rows more : List (List (List Sym))) (cause : RowsCause) → is_blank line ≡ false
    → AreRowsOf problem front rows → IsLineCause problem (length rows) line cause
    → AreRowsOf problem (front ++ line ∷ behind) more → ⊥
never_read problem front line behind rows more cause h a l b = no_row problem (length rows) more line cause b.few l
    (found_line problem front line behind rows more h a b)

pub never_both : (problem : Problem) (lines : List (List ℕ)) (rows : List (List (List Sym))) (n : ℕ)
    (cause : RowsCause) → AreRowsOf problem lines rows → IsRefusedAt problem lines n cause → ⊥
never_both problem lines rows n cause a r = never_read problem r.front r.line r.behind r.rows rows cause r.has_row
    r.read r.comes (subst (λ ls. AreRowsOf problem ls rows) r.whole a)

-- ---- one line is the first with a cause

-- of two cuts of one list, one goes on behind the other, or they are one
pub record GoesOn (front other : List (List ℕ)) (line : List ℕ) : Type 0 where
  pub more : List (List ℕ)
  pub is : other ≡ front ++ line ∷ more

pub record IsOneCut (front other : List (List ℕ)) (line l : List ℕ) : Type 0 where
  pub fronts : front ≡ other
  pub lines : line ≡ l

further : (x y : List ℕ) (front other : List (List ℕ)) (line : List ℕ) → x ≡ y → GoesOn front other line
    → GoesOn (x ∷ front) (y ∷ other) line
further x y front other line e g = record { more = g.more; is = ap (λ z. z ∷ other) (sym e) ∙ ap (λ xs. x ∷ xs) g.is }

cuts : (front : List (List ℕ)) (line : List ℕ) (behind other : List (List ℕ)) (l : List ℕ) (b : List (List ℕ))
    → front ++ line ∷ behind ≡ other ++ l ∷ b
    → (GoesOn front other line ⊎ GoesOn other front l) ⊎ IsOneCut front other line l
cuts [] line behind [] l b e = inr (record { fronts = refl; lines = cc })
cuts [] line behind (y ∷ other) l b e = inl (inl (record { more = other; is = cc }))
cuts (x ∷ front) line behind [] l b e = inl (inr (record { more = front; is = cc }))
cuts (x ∷ front) line behind (y ∷ other) l b e =
    let first : x ≡ y = cc in
    let rest : front ++ line ∷ behind ≡ other ++ l ∷ b = cc in
    ⊎_elim (λ a. inl (⊎_elim (λ g. inl (further x y front other line first g))
    (λ g. inr (further y x other front l (sym first) g)) a))
    (λ o. inr (record { fronts = ap (λ z. z ∷ front) first ∙ ap (λ xs. y ∷ xs) o.fronts; lines = o.lines }))
    (cuts front line behind other l b rest)

-- of two lines with causes neither goes before the other
not_before : (problem : Problem) (lines : List (List ℕ)) (m n : ℕ) (e f : RowsCause)
    (r : IsRefusedAt problem lines m e) (s : IsRefusedAt problem lines n f) → GoesOn r.front s.front r.line → ⊥
not_before problem lines m n e f r s g = never_read problem r.front r.line g.more r.rows s.rows e r.has_row r.read
    r.comes (subst (λ ls. AreRowsOf problem ls s.rows) g.is s.read)

-- one line has one cause
line_cause : ((width limit : ℕ) (bytes : List ℕ) (e f : FormErr) → IsCause width limit bytes e
    → IsCause width limit bytes f → e ≡ f)
    → (problem : Problem) (before : ℕ) (line : List ℕ) (e f : RowsCause) → IsLineCause problem before line e
    → IsLineCause problem before line f → e ≡ f
line_cause one problem before line TooMany TooMany a b = refl
line_cause one problem before line TooMany (Form f) a b = let l = b.0 in absurd (omega arith)
line_cause one problem before line TooMany NotCandidate a b = let l = b.0 in absurd (omega arith)
line_cause one problem before line (Form e) TooMany a b = let l = a.0 in absurd (omega arith)
line_cause one problem before line (Form e) (Form f) a b = ap Form (one problem.tiers.width 4096 line e f a.1 b.1)
line_cause one problem before line (Form e) NotCandidate a b = absurd
    (not_both problem.tiers.width 4096 line b.1.timeline e b.1.text a.1)
line_cause one problem before line NotCandidate TooMany a b = let l = a.0 in absurd (omega arith)
line_cause one problem before line NotCandidate (Form f) a b = absurd
    (not_both problem.tiers.width 4096 line a.1.timeline f a.1.text b.1)
line_cause one problem before line NotCandidate NotCandidate a b = refl

pub one_refusal : ((width limit : ℕ) (bytes : List ℕ) (e f : FormErr) → IsCause width limit bytes e
    → IsCause width limit bytes f → e ≡ f)
    → (problem : Problem) (lines : List (List ℕ)) (m n : ℕ) (e f : RowsCause) → IsRefusedAt problem lines m e
    → IsRefusedAt problem lines n f → (m ≡ n) × (e ≡ f)
one_refusal one problem lines m n e f r s =
    ⊎_elim (λ a. absurd (⊎_elim (λ g. not_before problem lines m n e f r s g)
    (λ g. not_before problem lines n m f e s r g) a))
    (λ o. (
      sym r.counted ∙ ap (λ xs. length xs + 1) o.fronts
          ∙ s.counted,
      line_cause one problem (length r.rows) r.line e f r.comes (here o),
    ))
    (cuts r.front r.line r.behind s.front s.line s.behind (sym r.whole ∙ s.whole))
  where
    same_rows : IsOneCut r.front s.front r.line s.line → r.rows ≡ s.rows
    same_rows o = one_list problem r.front r.rows s.rows r.read
        (subst (λ ls. AreRowsOf problem ls s.rows) (sym o.fronts) s.read)

    here : IsOneCut r.front s.front r.line s.line → IsLineCause problem (length r.rows) r.line f
    here o =
        subst (λ (l : List ℕ). IsLineCause problem (length r.rows) l f) (sym o.lines)
        (subst (λ (rows : List (List (List Sym))). IsLineCause problem (length rows) s.line f)
        (sym (same_rows o)) s.comes)

-- ---- each text has a reading

-- whether a timeline is a candidate is decided by the texts of its input part and of the form
decide : (problem : Problem) (line : List ℕ) (T : List (List Sym)) → IsTextOf problem.tiers.width 4096 line T
    → IsCandidate problem T ⊎ (IsCandidate problem T → ⊥)
decide problem line T t =
    let same = bytes_eq-Decides (text_of (squeeze (project problem.tiers.input T))) (text_of problem.form) in
    by_test (bytes_eq (text_of (squeeze (project problem.tiers.input T))) (text_of problem.form))
    (λ h. inl (record {
      well_formed = t.form;
      reduced = t.reduced;
      input = same_text (squeeze (project problem.tiers.input T)) problem.form (same.0 h);
    }))
    (λ h. inr (λ c. false≢true (sym h ∙ same.1 (ap text_of c.input))))

-- what a line that is not passed over gives
line_read : (problem : Problem) (before : ℕ) (line : List ℕ)
    → ((before < 32) × ((T : List (List Sym)) × IsRowOf problem line T)) ⊎
    ((cause : RowsCause) × IsLineCause problem before line cause)
line_read problem before line =
    by_test (nat_lt before 32)
    (λ h. let l : before < 32 = grind (arith, nat_tests) in
    ⊎_elim (λ r. ⊎_elim (λ c. inl (l, (r.0, record { text = r.1; candidate = c })))
    (λ n. inr (NotCandidate, (l, record { timeline = r.0; text = r.1; other = n })))
    (decide problem line r.0 r.1))
    (λ r. inr (Form r.0, (l, r.1)))
    (has_reading problem.tiers.width 4096 line))
    (λ h. let m : 32 ≤ before = grind (arith, nat_tests) in inr (TooMany, m))

-- the lines from here on, where those in front of them have rows
read_on : (problem : Problem) (behind front : List (List ℕ)) (rows : List (List (List Sym)))
    → AreRowsOf problem front rows → HasRows problem (front ++ behind)
read_on problem [] front rows a = inl (rows, subst (λ ls. AreRowsOf problem ls rows) (sym (append-nil front)) a)
read_on problem (line ∷ behind) front rows a =
    subst (HasRows problem) (append_assoc front (line ∷ []) behind)
    (step (read_on problem behind (front ++ line ∷ [])))
  where
    refused : is_blank line ≡ false → (cause : RowsCause) → IsLineCause problem (length rows) line cause
        → HasRows problem ((front ++ line ∷ []) ++ behind)
    refused h cause l = inr (
      length front + 1,
      (
        cause,
        record {
          front = front;
          line = line;
          behind = behind;
          whole = append_assoc front (line ∷ []) behind;
          counted = refl;
          rows = rows;
          read = a;
          has_row = h;
          comes = l;
        },
      ),
    )

    step : ((more : List (List (List Sym))) → AreRowsOf problem (front ++ line ∷ []) more
        → HasRows problem ((front ++ line ∷ []) ++ behind)) → HasRows problem ((front ++ line ∷ []) ++ behind)
    step go =
        by_test (is_blank line)
        (λ h. go rows (blank_line problem front line rows h a))
        (λ h. ⊎_elim (λ r. go (rows ++ r.1.0 ∷ []) (row_line problem front line rows r.1.0 h r.0 r.1.1 a))
        (λ r. refused h r.0 r.1) (line_read problem (length rows) line))

pub has_rows : (problem : Problem) (lines : List (List ℕ)) → HasRows problem lines
has_rows problem lines = read_on problem lines [] [] (no_rows problem)
