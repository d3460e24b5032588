use Rattle.comprehend.proofs.surface.has_surface.Goals as goal

pub first_heard-requires-clause-readable : goal.first_heard-requires-clause-readable
first_heard-requires-clause-readable c = rw c.deref.ensures.value
    (record { distinct = c.requires.sound.distinct; arcs = c.requires.sound.arcs })
