-- `memory_records::records::kind_of` meets its contract, tag by tag. Assumes nothing.
use Rattle.memory_records.specs.Seen.{seen_kind}
use Rattle.memory_records.specs.Laws.{general-kind}
use native.Mathlib.Omega.{arith}
use Rattle.memory_records.proofs.records.kind_of.Goals as goal

pub returns-in-0 : goal.returns-in-0
unfolding seen_kind
returns-in-0 c = rw c.in-0.is

pub returns-in-1 : goal.returns-in-1
unfolding seen_kind
returns-in-1 c = rw c.in-1.is

pub returns-in-2 : goal.returns-in-2
unfolding seen_kind
returns-in-2 c = rw c.in-2.is

pub returns-in-3 : goal.returns-in-3
unfolding seen_kind
returns-in-3 c = rw c.in-3.is

pub returns-in_default : goal.returns-in_default
unfolding seen_kind
returns-in_default c = rw (general-kind c.args.tag (omega arith))
