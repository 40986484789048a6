-- `stl_reader::read_stl` meets its contract: a refusal writes nothing. Assumes nothing.
use Prim.Native.Nat.{◌+◌, ◌≤◌}
use native.Mathlib.Omega.{arith}
use mathlib.Core.Path.{◌≡◌, sym, ap, ◌∙◌}
use mathlib.Core.Bool.{true, false}
use borrow.Author.Tests.{not-true, not-false, leb-true}
use Rattle.memory_layout.specs.Layout.{word_strides, word}
use Rattle.memory_layout.specs.Laws.{before-tables}
use Rattle.image_laws.specs.Machines.{below_all}
use Rattle.stl_body.specs.Read.{stl_triangles, mesh_of}
use Rattle.stl_reader.specs.Facts.{early_number, slots_for}
use Rattle.stl_reader.specs.Laws.{early-open, laid-not, count-below, no-faces, read-laid, read-early, all-triangles}
use borrow.Author.Rules.{rules}
use Rattle.stl_reader.proofs.read_stl.Goals as goal

pub returns-then-early-ne0 : goal.returns-then-early-ne0
returns-then-early-ne0 c =
    let s = c in
    let room = s.args.room.now in
    let w = s.args.words.now in
    let x = s.args.reals.now in
    let b = s.args.bytes.now in
    let both = read-early room w x s.args.office b c.early_refusal-early.result c.early_refusal-early.ensures c.if-early-ne0.true in record { answer = both.0; tables = both.1.0; floats = both.1.1 }

pub triangles_in-n-requires : goal.triangles_in-n-requires
triangles_in-n-requires c =
    let s = c in
    let room = s.args.room.now in
    let w = s.args.words.now in
    let x = s.args.reals.now in
    let b = s.args.bytes.now in
    let z : early_number room w x s.args.office b ≡ 0 = sym c.early_refusal-early.ensures ∙ c.if-early-ne0.false in
    let early = early-open room w x s.args.office b z in
    early.long

pub slots_for-requires : goal.slots_for-requires
slots_for-requires c =
    let s = c in
    let room = s.args.room.now in
    let w = s.args.words.now in
    let x = s.args.reals.now in
    let b = s.args.bytes.now in
    let z : early_number room w x s.args.office b ≡ 0 = sym c.early_refusal-early.ensures ∙ c.if-early-ne0.false in
    let early = early-open room w x s.args.office b z in
    let l = early.fit.sized.words in
    let t = before-tables 11 word_strides room 10 in
    let few = count-below b (below_all 256 b (λ i. omega (arith, c.shared_slice_known-1.given i))) in
    let n = c.triangles_in-n.ensures in
    record { k_bound = omega arith; in_bounds = omega arith; n_bound = omega arith }

pub returns-then-not-slots_for : goal.returns-then-not-slots_for
returns-then-not-slots_for c =
    let s = c in
    let room = s.args.room.now in
    let w = s.args.words.now in
    let x = s.args.reals.now in
    let b = s.args.bytes.now in
    let z : early_number room w x s.args.office b ≡ 0 = sym c.early_refusal-early.ensures ∙ c.if-early-ne0.false in
    let early = early-open room w x s.args.office b z in
    let n : c.triangles_in-n.result ≡ (mesh_of (stl_triangles b)).triangles = c.triangles_in-n.ensures ∙ sym (all-triangles b) in
    let both = read-laid room w x s.args.office b _ _ _ z (laid-not room w x s.args.office (mesh_of (stl_triangles b)) (no-faces room w x (mesh_of (stl_triangles b)) (ap (slots_for room w 3) (sym n) ∙ sym c.slots_for.ensures ∙ c.if-not-slots_for.true))) in record { answer = both.0; tables = both.1.0; floats = both.1.1 }

pub read_triangles-requires : goal.read_triangles-requires
read_triangles-requires c =
    let s = c in
    let room = s.args.room.now in
    let w = s.args.words.now in
    let x = s.args.reals.now in
    let b = s.args.bytes.now in
    let z : early_number room w x s.args.office b ≡ 0 = sym c.early_refusal-early.ensures ∙ c.if-early-ne0.false in
    let early = early-open room w x s.args.office b z in
    let h : word w 3 + c.triangles_in-n.result ≤ word room 3 = leb-true _ _ (sym c.slots_for.ensures ∙ c.if-not-slots_for.false) in
    let k : word room 3 ≤ 512 = early.fit.sized.small.small 3 (omega arith) in
    record { early = early; n_value = c.triangles_in-n.ensures; n_bound = omega arith }

pub returns : goal.returns
returns c =
    let s = c in
    let room = s.args.room.now in
    let w = s.args.words.now in
    let x = s.args.reals.now in
    let b = s.args.bytes.now in
    let z : early_number room w x s.args.office b ≡ 0 = sym c.early_refusal-early.ensures ∙ c.if-early-ne0.false in
    let early = early-open room w x s.args.office b z in
    let both = read-laid room w x s.args.office b _ _ _ z c.read_triangles.ensures in record { answer = both.0; tables = both.1.0; floats = both.1.1 }
