use Rattle.tableau.proofs.row.is_row.Goals as goal

pub returns : goal.returns
returns c = c.is_candidate.ensures c.args.grammar.now.constraints.items
