use Rattle.stage_tables.proofs.exploring.Exploring.take_pieces.Goals as goal

pub pieces-requires-clause-width : goal.pieces-requires-clause-width
pieces-requires-clause-width c = c.args.self.now.wide c.args.state c.args.arc.now c.requires.arc
