-- What is right of the whole of an answer: its form, and its numbers of stages and counts; and the
-- first number that differs in two lists.
use Rattle.std.specs.Prelude.{ℕ, ◌+◌, ◌≡◌, ◌≢◌, ◌<◌, ◌≤◌, List, length, take, slice_index_or}
use Rattle.violation.specs.Candidates.{IsForm}
use Rattle.violation.specs.Problems.{Problem, last_stage, last_place}
use Rattle.answer_text.specs.declared.answer.Answer.{Answer}
use Rattle.cert_check.specs.declared.fault.Fault.{Fault}
use Rattle.cert_check.specs.declared.fault.Fault.TheVariants.{CountsDiffer}

-- The form is well formed and reduced over the input tiers with at most 64 columns.
pub record HasRightForm (problem : Problem) : Type 0 where
  pub form : IsForm problem.tiers problem.form
  pub short : last_place problem ≤ 64

-- There is one stage more than there are constraints, and a count for each of these.
pub record HasRightNumbers (problem : Problem) (answer : Answer) : Type 0 where
  pub stages : length answer.stages.items ≡ last_stage problem + 1
  pub counts : length answer.counts.items ≡ last_stage problem

-- The first numbers that differ are at this place, which is counted from 0.
pub record IsFirstCountFault (listed counted : List ℕ) (fault : Fault) : Type 0 where
  pub place : ℕ
  pub within : place < length listed
  pub is : fault ≡ CountsDiffer (place + 1) (slice_index_or listed place 0) (slice_index_or counted place 0)
  pub differs : slice_index_or listed place 0 ≢ slice_index_or counted place 0
  pub first : take place listed ≡ take place counted
