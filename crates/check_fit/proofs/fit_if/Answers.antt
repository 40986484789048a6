-- `check_fit::fit_if` meets its contract. Assumes nothing.
use Rattle.check_fit.proofs.fit_if.Goals as goal

pub returns-then-not-valid : goal.returns-then-not-valid
returns-then-not-valid c = λ x. rw (c.if-not-valid.true)

pub whole_solid-requires : goal.whole_solid-requires
whole_solid-requires c = let both = c.requires (c.if-not-valid.false) in record { lists = both.0; faced = both.1 }

pub returns : goal.returns
returns c = λ x. rw (c.if-not-valid.false) (c.whole_solid.ensures x)
