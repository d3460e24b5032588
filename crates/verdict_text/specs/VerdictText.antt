-- The line of a verdict.
use Rattle.std.specs.Prelude.{ℕ, Bool, true, false, Option, Some, None, List, [], ◌∷◌, ◌++◌, map, codes, slice_index_or}
use Rattle.tier_core.specs.declared.sym.Sym.{Sym}
use Rattle.tier_core.specs.Kinds.{prefix_kind}
use Rattle.tier_core.specs.Symbols.{byte_of}
use Rattle.answer_text.specs.Text.{Widths, after_space, kind_text, line, spaced_numbers}
use Rattle.cert_check.specs.declared.fault.Fault.{Fault}
use Rattle.cert_check.specs.declared.fault.Fault.TheVariants.{FormWrong, StageMissing, ExampleWrong, CountsDiffer, NodeWrong, StartMissing, FinalPotential, NotClosed, Potential, StartPotential, StateMissing, FinalsDiffer, ArcsTwice, ArcsDiffer}
use Rattle.cert_check.specs.declared.fault.Verdict.{Verdict}
use Rattle.cert_check.specs.declared.fault.Verdict.TheVariants.{Yes, No}

-- a mark is 1 or 0
abbrev pub mark_number : Bool → ℕ
mark_number true = 1
mark_number false = 0

-- a column after a space
abbrev pub column_after_space : List Sym → List ℕ
column_after_space column = codes " " ++ map byte_of column

-- a target after a space
abbrev pub target_after_space : Option ℕ → List ℕ
target_after_space None = codes " none"
target_after_space (Some target) = after_space target

-- The line of a fault, without the `No ` at its front. Its kind is written over the free tiers and the
-- stretch implications of its stage.
abbrev pub fault_text : Widths → Fault → List ℕ
fault_text widths FormWrong = codes "form" ++ spaced_numbers []
fault_text widths (StageMissing listed wanted) = codes "stages" ++ spaced_numbers (listed ∷ wanted ∷ [])
fault_text widths ExampleWrong = codes "example" ++ spaced_numbers []
fault_text widths (CountsDiffer constraint listed counted) =
    codes "counts" ++ spaced_numbers (constraint ∷ listed ∷ counted ∷ [])
fault_text widths (NodeWrong stage node) = codes "node" ++ spaced_numbers (stage ∷ node ∷ [])
fault_text widths (StartMissing stage) = codes "start" ++ spaced_numbers (stage ∷ [])
fault_text widths (FinalPotential stage node listed) =
    codes "final-potential" ++ spaced_numbers (stage ∷ node ∷ listed ∷ [])
fault_text widths (NotClosed stage node missing) =
    (codes "closed" ++ spaced_numbers (stage ∷ node ∷ [])) ++ codes " "
    ++ kind_text (prefix_kind widths.free (slice_index_or widths.stretches stage 0) missing)
fault_text widths (Potential stage node listed allowed) =
    codes "potential" ++ spaced_numbers (stage ∷ node ∷ listed ∷ allowed ∷ [])
fault_text widths (StartPotential stage listed count) =
    codes "start-potential" ++ spaced_numbers (stage ∷ listed ∷ count ∷ [])
fault_text widths (StateMissing state target) = codes "state" ++ spaced_numbers (state ∷ target ∷ [])
fault_text widths (FinalsDiffer state listed) = codes "final" ++ spaced_numbers (state ∷ mark_number listed ∷ [])
fault_text widths (ArcsTwice state column) = (codes "twice" ++ spaced_numbers (state ∷ [])) ++ column_after_space column
fault_text widths (ArcsDiffer state column listed kept) =
    (codes "arcs" ++ spaced_numbers (state ∷ [])) ++ column_after_space column
    ++ target_after_space listed ++ target_after_space kept

-- whether a fault is in a stage
abbrev pub is_in_stage : Fault → Bool
is_in_stage (NodeWrong stage node) = true
is_in_stage (StartMissing stage) = true
is_in_stage (FinalPotential stage node listed) = true
is_in_stage (NotClosed stage node missing) = true
is_in_stage (Potential stage node listed allowed) = true
is_in_stage (StartPotential stage listed count) = true
is_in_stage fault = false

-- the line of a verdict
abbrev pub verdict_text : Widths → Verdict → List ℕ
verdict_text widths Yes = line (codes "Yes")
verdict_text widths (No fault) = line (codes "No " ++ fault_text widths fault)
