use Rattle.kind_tables.proofs.Following.{first_table, next_table}
use Rattle.kind_tables.proofs.next.named_tables_are_stage_tables.Goals as goal

pub returns-clause-first : goal.returns-clause-first
returns-clause-first c problem names states = first_table problem names states

pub returns-clause-next : goal.returns-clause-next
returns-clause-next c problem r names states = next_table problem r names states
