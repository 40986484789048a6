-- `inquire_polyhedral::polyhedral_refusal` meets its contract. Assumes nothing.
use mathlib.Core.Path.{sym, ◌∙◌}
use Rattle.meaning.specs.Inquire.{require_polyhedral}
use Rattle.memory_layout.specs.Decode.{decode}
use Rattle.memory_layout.specs.Readable.{readable}
use Rattle.memory_layout.specs.Laws.{fit_of}
use Rattle.walk_answers.specs.Laws.{refused-9, refused-8, refused-not}
use Rattle.inquire_polyhedral.proofs.polyhedral_refusal.Goals as goal

pub returns-then-not-readable : goal.returns-then-not-readable
returns-then-not-readable c =
    let s = c in
    refused-9 (readable s.args.room.now s.args.words.now s.args.reals.now) s.args.enough (require_polyhedral (decode s.args.room.now s.args.words.now s.args.reals.now) s.args.body) (sym c.readable.ensures ∙ c.if-not-readable.true)

pub returns-then-not-enough : goal.returns-then-not-enough
returns-then-not-enough c =
    let s = c in
    refused-8 (readable s.args.room.now s.args.words.now s.args.reals.now) s.args.enough (require_polyhedral (decode s.args.room.now s.args.words.now s.args.reals.now) s.args.body) (sym c.readable.ensures ∙ c.if-not-readable.false) (c.if-not-enough.true)

pub require_polyhedral-requires : goal.require_polyhedral-requires
require_polyhedral-requires c =
    let s = c in
    fit_of s.args.room.now s.args.words.now s.args.reals.now (sym c.readable.ensures ∙ c.if-not-readable.false)

pub returns : goal.returns
returns c =
    let s = c in
    refused-not (readable s.args.room.now s.args.words.now s.args.reals.now) s.args.enough (require_polyhedral (decode s.args.room.now s.args.words.now s.args.reals.now) s.args.body) (sym c.readable.ensures ∙ c.if-not-readable.false) (c.if-not-enough.false) _ c.require_polyhedral.ensures
