-- `image_reader::read_refusal` meets its contract: each way out is the first test that fails. Assumes nothing.
use mathlib.Core.Path.{◌≡◌, sym, ◌∙◌}
use mathlib.Core.Bool.{true, false}
use native.Mathlib.Omega.{arith}
use Rattle.memory_layout.specs.Readable.{lent_ok}
use Rattle.image_format.specs.Image.{records_in, accepted}
use Rattle.image_laws.specs.Machines.{below_all}
use Rattle.image_accepted.specs.Version.{image-found, accepted-room}
use Rattle.image_reader.specs.Answers.{room_for, read_number}
use Rattle.image_reader.proofs.read_refusal.Goals as goal

pub returns-then-not-lent_ok : goal.returns-then-not-lent_ok
unfolding read_number
returns-then-not-lent_ok c =
    let s = c in
    let room = s.args.room.now in
    let w = s.args.words.now in
    let x = s.args.reals.now in
    let image = s.args.bytes.now in
    let e : lent_ok room w x ≡ false = sym c.lent_ok.ensures ∙ c.if-not-lent_ok.true in
    rw e

pub returns-then-not-accepted : goal.returns-then-not-accepted
unfolding read_number
returns-then-not-accepted c =
    let s = c in
    let room = s.args.room.now in
    let w = s.args.words.now in
    let x = s.args.reals.now in
    let image = s.args.bytes.now in
    let e : lent_ok room w x ≡ true = sym c.lent_ok.ensures ∙ c.if-not-lent_ok.false in
    let f : accepted image ≡ false = sym c.accepted.ensures ∙ c.if-not-accepted.true in
    rw (e, f)

pub records_in-requires : goal.records_in-requires
records_in-requires c =
    let image = c.args.bytes.now in
    accepted-room image (sym c.accepted.ensures ∙ c.if-not-accepted.false)

pub room_for-requires : goal.room_for-requires
room_for-requires c =
    let image = c.args.bytes.now in
    let f : accepted image ≡ true = sym c.accepted.ensures ∙ c.if-not-accepted.false in
    rw c.records_in.ensures (image-found image (below_all 256 image (λ i. omega (arith, c.shared_slice_known-3-1.given i))) f).head

pub returns-then-not-room_for : goal.returns-then-not-room_for
unfolding read_number
returns-then-not-room_for c =
    let s = c in
    let room = s.args.room.now in
    let w = s.args.words.now in
    let x = s.args.reals.now in
    let image = s.args.bytes.now in
    let e : lent_ok room w x ≡ true = sym c.lent_ok.ensures ∙ c.if-not-lent_ok.false in
    let f : accepted image ≡ true = sym c.accepted.ensures ∙ c.if-not-accepted.false in
    let g : room_for room (records_in image) ≡ false = rw c.records_in.ensures at (sym c.room_for.ensures ∙ c.if-not-room_for.true) in
    rw (e, f, g)

pub returns : goal.returns
unfolding read_number
returns c =
    let s = c in
    let room = s.args.room.now in
    let w = s.args.words.now in
    let x = s.args.reals.now in
    let image = s.args.bytes.now in
    let e : lent_ok room w x ≡ true = sym c.lent_ok.ensures ∙ c.if-not-lent_ok.false in
    let f : accepted image ≡ true = sym c.accepted.ensures ∙ c.if-not-accepted.false in
    let g : room_for room (records_in image) ≡ true = rw c.records_in.ensures at (sym c.room_for.ensures ∙ c.if-not-room_for.false) in
    rw (e, f, g)
