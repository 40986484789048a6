-- `walk_fin_ends::refusal` meets its contract. Assumes nothing.
use mathlib.Core.Path.{◌≡◌, sym, ◌∙◌}
use mathlib.Core.Bool.{true, false}
use borrow.Author.Tests.{not-true, not-false}
use Rattle.memory_layout.specs.Readable.{readable}
use Rattle.memory_layout.specs.Laws.{fit_of, lists_of}
use Rattle.walk_fin_ends.specs.Answers.{fin_vertices_number}
use borrow.Author.Rules.{rules}
use Rattle.walk_fin_ends.proofs.refusal.Goals as goal

pub returns-then-not-readable : goal.returns-then-not-readable
unfolding fin_vertices_number
returns-then-not-readable c =
    let s = c in
    let e : readable s.args.room.now s.args.words.now s.args.reals.now ≡ false = sym c.readable.ensures ∙ c.if-not-readable.true in
    rw e

pub readable_fin-requires : goal.readable_fin-requires
readable_fin-requires c =
    let s = c in
    lists_of s.args.room.now s.args.words.now s.args.reals.now (fit_of s.args.room.now s.args.words.now s.args.reals.now (sym c.readable.ensures ∙ c.if-not-readable.false))

pub returns-then-not-readable_fin : goal.returns-then-not-readable_fin
unfolding fin_vertices_number
returns-then-not-readable_fin c =
    let s = c in
    let e : readable s.args.room.now s.args.words.now s.args.reals.now ≡ true = sym c.readable.ensures ∙ c.if-not-readable.false in
    let f = c.if-not-readable_fin.true in
    rw (e, ← c.readable_fin.ensures s.args.reals.now, f)

pub returns : goal.returns
unfolding fin_vertices_number
returns c =
    let s = c in
    let e : readable s.args.room.now s.args.words.now s.args.reals.now ≡ true = sym c.readable.ensures ∙ c.if-not-readable.false in
    let f = c.if-not-readable_fin.false in
    rw (e, ← c.readable_fin.ensures s.args.reals.now, f)
