use Rattle.batch.proofs.batch.Batch.note.Goals as goal

pub returns-in-Step-clause-holds : goal.returns-in-Step-clause-holds
returns-in-Step-clause-holds g c = λ t h. rw c.in-Step.is (c.count_step.ensures.holds t c.in-Step.command h)
