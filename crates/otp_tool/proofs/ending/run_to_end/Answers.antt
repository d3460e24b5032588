use Rattle.otp_tool.proofs.ending.run_to_end.Goals as goal

pub returns-clause-ending : goal.returns-clause-ending
returns-clause-ending g c = record {
  status = c.respond-status.result;
  is_status = c.respond-status.ensures.status;
  is_number = c.number.ensures;
  written = c.put_status-written.result;
  line = c.put_status-written.ensures;
}
