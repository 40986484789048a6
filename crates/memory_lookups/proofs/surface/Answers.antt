-- `memory_lookups::surface` meets its contract. Assumes nothing.
use Rattle.memory_layout.specs.Decode.{decode}
use Rattle.memory_lookups.specs.Lookup.{surface_answer}
use Rattle.memory_lookups.specs.Inner.{carrier_answer}
use borrow.Author.Rules.{rules}
use Rattle.memory_lookups.proofs.surface.Goals as goal

pub returns : goal.returns
unfolding decode carrier_answer surface_answer
returns c = c.carrier_found.ensures
