-- `memory_records::records::ref_at` meets its contract. Assumes nothing.
use native.Mathlib.Numerals.{add-one}
use borrow.Author.Tests.{eq-eqb, ne_eqb}
use Rattle.memory_records.specs.Seen.{seen_ref}
use borrow.Author.Rules.{rules}
use Rattle.memory_records.proofs.records.ref_at.Goals as goal

pub returns-then-w-at-eq0 : goal.returns-then-w-at-eq0
unfolding seen_ref
returns-then-w-at-eq0 c = rw (eq-eqb _ _ c.if-w-at-eq0.true)

pub returns : goal.returns
unfolding seen_ref
returns c = rw (ne_eqb _ _ c.if-w-at-eq0.false, add-one c.args.at)
