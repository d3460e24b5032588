use Rattle.kind_moves.proofs.tests.an_empty_form_ends_where_it_starts.Goals as goal

pub at_end-requires : goal.at_end-requires
at_end-requires g c = (c.start.ensures 0).fits.place
