-- `memory_lookups::curve` meets its contract. Assumes nothing.
use Rattle.memory_layout.specs.Decode.{decode}
use Rattle.memory_lookups.specs.Lookup.{curve_answer}
use Rattle.memory_lookups.specs.Inner.{carrier_answer}
use borrow.Author.Rules.{rules}
use Rattle.memory_lookups.proofs.curve.Goals as goal

pub returns : goal.returns
unfolding decode carrier_answer curve_answer
returns c = c.carrier_found.ensures
