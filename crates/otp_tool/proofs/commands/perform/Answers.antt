use Rattle.std.proofs.Common.{inl, inr, []}
use Rattle.otp_tool.proofs.commands.perform.Goals as goal

pub returns-in-Canon-clause-work : goal.returns-in-Canon-clause-work
returns-in-Canon-clause-work g c =
    rw c.in-Canon.is (inl (inr (record { bytes = []; holds = tt; step = c.canon.ensures.step })))

pub returns-in-Score-clause-work : goal.returns-in-Score-clause-work
returns-in-Score-clause-work g c =
    rw c.in-Score.is (inl (inr (record { bytes = []; holds = tt; step = c.score.ensures.step })))

pub returns-in-Generate-clause-work : goal.returns-in-Generate-clause-work
returns-in-Generate-clause-work g c =
    rw c.in-Generate.is (inl (inr (record { bytes = []; holds = tt; step = c.generate.ensures.step })))

pub returns-in-Show-clause-work : goal.returns-in-Show-clause-work
returns-in-Show-clause-work g c =
    rw c.in-Show.is (inl (inr (record { bytes = []; holds = tt; step = c.show.ensures.step })))

pub returns-in-Tableau-clause-work : goal.returns-in-Tableau-clause-work
returns-in-Tableau-clause-work g c = rw c.in-Tableau.is (inl c.tabulate.ensures.work)

pub returns-in-Once-clause-work : goal.returns-in-Once-clause-work
returns-in-Once-clause-work g c =
    rw c.in-Once.is (inl (inr (record { bytes = []; holds = tt; step = c.once.ensures.step })))

pub returns-in-Comprehend-clause-work : goal.returns-in-Comprehend-clause-work
returns-in-Comprehend-clause-work g c = rw c.in-Comprehend.is (inl c.listen.ensures.work)

pub returns-in-Check-clause-work : goal.returns-in-Check-clause-work
returns-in-Check-clause-work g c = rw c.in-Check.is c.check.ensures.work

pub returns-in-Sample-clause-work : goal.returns-in-Sample-clause-work
returns-in-Sample-clause-work g c =
    rw c.in-Sample.is (inl (inr (record { bytes = []; holds = tt; step = c.sample.ensures.step })))
