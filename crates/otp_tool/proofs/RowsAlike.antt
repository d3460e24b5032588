-- Constraints have no part in what a rows file is read as: problems of the same tiers and form have the same rows.
use Rattle.std.proofs.{Common.{◌≡◌, ℕ, List, length, All, subst}, lemmas.List.Elements.All-weaker}
use Rattle.tier_core.specs.{declared.sym.Sym.Sym, declared.constraint.Constraint.Constraint, Tiers.Tiers}
use Rattle.tableau.specs.declared.rows_err.RowsCause.{RowsCause}
use Rattle.tableau.specs.declared.rows_err.RowsCause.TheVariants.{Form, NotCandidate, TooMany}
use Rattle.tableau.specs.Rows.{AreRowsOf, IsLineCause, IsRefusedAt}
use Rattle.violation.specs.{Candidates.IsCandidate, Problems.Problem}
use Rattle.cert_check.proofs.AskedAlike.{with_constraints}

module _ (problem : Problem) (cs ds : List Constraint) where
  candidate_alike : (T : List (List Sym)) → IsCandidate (with_constraints problem cs) T
      → IsCandidate (with_constraints problem ds) T
  candidate_alike T c = record { well_formed = c.well_formed; reduced = c.reduced; input = c.input }

  all_alike : (rows : List (List (List Sym))) → All (IsCandidate (with_constraints problem cs)) rows
      → All (IsCandidate (with_constraints problem ds)) rows
  all_alike rows a = All-weaker _ _ candidate_alike _ a

module _ (problem : Problem) (cs ds : List Constraint) where
  rows_of_constraints : (lines : List (List ℕ)) (rows : List (List (List Sym)))
      → AreRowsOf (with_constraints problem cs) lines rows → AreRowsOf (with_constraints problem ds) lines rows
  rows_of_constraints lines rows a = record {
    texts = a.texts;
    candidates = all_alike problem cs ds _ a.candidates;
    within = a.within;
    few = a.few;
  }

  cause_of_constraints : (before : ℕ) (line : List ℕ) (cause : RowsCause)
      → IsLineCause (with_constraints problem cs) before line cause
      → IsLineCause (with_constraints problem ds) before line cause
  cause_of_constraints before line TooMany l = l
  cause_of_constraints before line (Form cause) l = l
  cause_of_constraints before line NotCandidate l = (
    l.0,
    record {
      timeline = l.1.timeline;
      text = l.1.text;
      other = λ c. l.1.other (candidate_alike problem ds cs _ c);
    },
  )

  refused_of_constraints : (lines : List (List ℕ)) (row : ℕ) (cause : RowsCause)
      → IsRefusedAt (with_constraints problem cs) lines row cause
      → IsRefusedAt (with_constraints problem ds) lines row cause
  refused_of_constraints lines row cause r = record {
    front = r.front;
    line = r.line;
    behind = r.behind;
    whole = r.whole;
    counted = r.counted;
    rows = r.rows;
    read = rows_of_constraints _ _ r.read;
    has_row = r.has_row;
    comes = cause_of_constraints _ _ _ r.comes;
  }

-- what is asked by the constraints of p of other tiers and another form
abbrev ask : Problem → Tiers → List (List Sym) → Problem
ask p tiers u = record { tiers = tiers; constraints = p.constraints; form = u }

module _ (p q : Problem) (tiers : p.tiers ≡ q.tiers) (form : p.form ≡ q.form) where
  pub refused_alike : (lines : List (List ℕ)) (row : ℕ) (cause : RowsCause) → IsRefusedAt p lines row cause
      → IsRefusedAt q lines row cause
  refused_alike lines row cause r = refused_of_constraints q _ _ _ _ _ (rw form at (rw tiers at r))
