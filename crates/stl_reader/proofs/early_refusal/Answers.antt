-- `stl_reader::early_refusal` meets its contract: each way out is the first test that fails. Assumes nothing.
use mathlib.Core.Path.{◌≡◌, sym, ◌∙◌}
use mathlib.Core.Bool.{true, false}
use lib.Dec.{leb}
use borrow.Author.Tests.{not-true, not-false, le-leb, lt-leb}
use Rattle.memory_layout.specs.Readable.{readable}
use Rattle.stl_body.specs.Read.{length_fits}
use Rattle.stl_reader.specs.Facts.{early_number}
use borrow.Author.Rules.{rules}
use Rattle.stl_reader.proofs.early_refusal.Goals as goal

pub returns-then-not-readable : goal.returns-then-not-readable
unfolding early_number
returns-then-not-readable c =
    let s = c in
    let room = s.args.room.now in
    let w = s.args.words.now in
    let x = s.args.reals.now in
    let b = s.args.bytes.now in
    let e : readable room w x ≡ false = sym c.readable.ensures ∙ c.if-not-readable.true in
    rw e

pub returns-then-not-length_fits : goal.returns-then-not-length_fits
unfolding early_number
returns-then-not-length_fits c =
    let s = c in
    let room = s.args.room.now in
    let w = s.args.words.now in
    let x = s.args.reals.now in
    let b = s.args.bytes.now in
    let e : readable room w x ≡ true = sym c.readable.ensures ∙ c.if-not-readable.false in
    let f : length_fits b ≡ false = sym c.length_fits.ensures ∙ c.if-not-length_fits.true in
    rw (e, f)

pub returns-then-office-gt1 : goal.returns-then-office-gt1
unfolding early_number
returns-then-office-gt1 c =
    let s = c in
    let room = s.args.room.now in
    let w = s.args.words.now in
    let x = s.args.reals.now in
    let b = s.args.bytes.now in
    let e : readable room w x ≡ true = sym c.readable.ensures ∙ c.if-not-readable.false in
    let f : length_fits b ≡ true = sym c.length_fits.ensures ∙ c.if-not-length_fits.false in
    let g : leb s.args.office 1 ≡ false = lt-leb s.args.office 1 c.if-office-gt1.true in
    rw (e, f, g)

pub corners_refusal-requires : goal.corners_refusal-requires
corners_refusal-requires c =
    let s = c in
    let room = s.args.room.now in
    let w = s.args.words.now in
    let x = s.args.reals.now in
    let b = s.args.bytes.now in
    let f : length_fits b ≡ true = sym c.length_fits.ensures ∙ c.if-not-length_fits.false in
    f

pub returns : goal.returns
unfolding early_number
returns c =
    let s = c in
    let room = s.args.room.now in
    let w = s.args.words.now in
    let x = s.args.reals.now in
    let b = s.args.bytes.now in
    let e : readable room w x ≡ true = sym c.readable.ensures ∙ c.if-not-readable.false in
    let f : length_fits b ≡ true = sym c.length_fits.ensures ∙ c.if-not-length_fits.false in
    let g : leb s.args.office 1 ≡ true = le-leb s.args.office 1 c.if-office-gt1.false in
    rw (e, f, g) c.corners_refusal.ensures
