-- `split_stops::split_stop` meets its contract. Assumes nothing.
use Rattle.split_stops.specs.Laws.{stop-unreadable, stop-office, stop-tests}
use Rattle.split_stop_parts.specs.Told.{told}
use Rattle.memory_layout.specs.Limits.{limits}
use Rattle.memory_layout.specs.Laws.{fit_of, lists_of}
use Rattle.memory_layout.specs.Decode.{decode}
use Rattle.meaning_stops.specs.Splits.{split_stops}
use Rattle.meaning_stops.specs.Stops.{first_stop}
use borrow.Author.Tests.{not-true, not-false}
use Prim.Native.Nat.{ℕ}
use mathlib.Core.Path.{sym, ap, ◌∙◌}
use borrow.Author.Rules.{rules}
use Rattle.split_stops.proofs.split_stop.Goals as goal

pub returns-then-not-readable : goal.returns-then-not-readable
returns-then-not-readable c = let s = c in c.stop_at.ensures ∙ stop-unreadable s.args.room.now s.args.words.now s.args.reals.now s.args.office s.args.edge s.args.fraction (sym c.readable.ensures ∙ c.if-not-readable.true)

pub returns-then-office-gt1 : goal.returns-then-office-gt1
returns-then-office-gt1 c = let s = c in c.stop_at-then-office-gt1.ensures ∙ stop-office s.args.room.now s.args.words.now s.args.reals.now s.args.office s.args.edge s.args.fraction (sym c.readable.ensures ∙ c.if-not-readable.false) c.if-office-gt1.true

pub edge_for-own-requires : goal.edge_for-own-requires
edge_for-own-requires c = let s = c in
    lists_of s.args.room.now s.args.words.now s.args.reals.now (fit_of s.args.room.now s.args.words.now s.args.reals.now (sym c.readable.ensures ∙ c.if-not-readable.false))

pub tests_stop-requires : goal.tests_stop-requires
tests_stop-requires c = let s = c in
    fit_of s.args.room.now s.args.words.now s.args.reals.now (sym c.readable.ensures ∙ c.if-not-readable.false)

pub returns : goal.returns
returns c = let s = c in
    c.tests_stop.ensures
    ∙ ap (λ (i : ℕ). told (first_stop (split_stops (limits s.args.room.now) (decode s.args.room.now s.args.words.now s.args.reals.now) s.args.edge i s.args.fraction))) (c.edge_for-own.ensures s.args.reals.now)
    ∙ stop-tests s.args.room.now s.args.words.now s.args.reals.now s.args.office s.args.edge s.args.fraction (sym c.readable.ensures ∙ c.if-not-readable.false) c.if-office-gt1.false
