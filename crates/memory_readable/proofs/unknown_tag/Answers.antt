-- `memory_readable::unknown_tag` meets its contract. Assumes nothing.
use mathlib.Core.Path.{◌≡◌, sym, ◌∙◌}
use mathlib.Core.Bool.{true, false}
use Rattle.memory_layout.specs.Readable.{readable, tag_number}
use Rattle.memory_readable.proofs.unknown_tag.Goals as goal

pub returns-then-not-readable : goal.returns-then-not-readable
unfolding tag_number
returns-then-not-readable c =
    let s = c in
    let e : readable s.args.room.now s.args.words.now s.args.reals.now ≡ false = sym c.readable.ensures ∙ c.if-not-readable.true in
    rw e

pub returns : goal.returns
unfolding tag_number
returns c =
    let s = c in
    let e : readable s.args.room.now s.args.words.now s.args.reals.now ≡ true = sym c.readable.ensures ∙ c.if-not-readable.false in
    rw e
