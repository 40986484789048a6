-- `check_manifold::same_sense` meets its contract: by both cases. Assumes nothing.
use Rattle.check_manifold.proofs.same_sense.Goals as goal

pub returns-in-Positive-b : goal.returns-in-Positive-b
returns-in-Positive-b c = rw (c.in-Positive.is, c.in-Positive-b.is)

pub returns-in-Negative-b : goal.returns-in-Negative-b
returns-in-Negative-b c = rw (c.in-Positive.is, c.in-Negative-b.is)

pub returns-in-Positive-b-2 : goal.returns-in-Positive-b-2
returns-in-Positive-b-2 c = rw (c.in-Negative.is, c.in-Positive-b-2.is)

pub returns-in-Negative-b-2 : goal.returns-in-Negative-b-2
returns-in-Negative-b-2 c = rw (c.in-Negative.is, c.in-Negative-b-2.is)
