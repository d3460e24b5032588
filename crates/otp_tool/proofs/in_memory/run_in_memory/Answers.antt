use Rattle.std.proofs.Common.{inl, inr, arith}
use Rattle.outside.specs.Faults.{Rose}
use Rattle.otp_tool.proofs.in_memory.run_in_memory.Goals as goal

never_rose : Rose 0 0 → ⊥
never_rose r = absurd (omega (arith, r))

pub returns-clause-no_read_fault : goal.returns-clause-no_read_fault
returns-clause-no_read_fault c = λ word e. never_rose (c.respond.ensures.status.read_fault word e).rose

pub returns-clause-no_write_fault : goal.returns-clause-no_write_fault
returns-clause-no_write_fault c = λ e. never_rose (c.respond.ensures.status.write_fault e).1

pub returns-clause-complete : goal.returns-clause-complete
returns-clause-complete c = λ told.
    c.respond.ensures.status.complete told (λ word fault. never_rose fault.rose) never_rose

pub returns-clause-due : goal.returns-clause-due
returns-clause-due c = λ finding refused told. elim (c.respond.ensures.status.due finding refused told) [
  | inl is ↦ inl is
  | inr more ↦ elim more [
    | inl none ↦ inr none
    | inr fault ↦ absurd (never_rose (c.respond.ensures.status.read_fault fault.0 fault.1).rose)
  ]
]
