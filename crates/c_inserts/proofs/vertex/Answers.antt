-- `c_inserts::vertex` meets its contract. Assumes nothing.
use mathlib.Core.Path.{◌≡◌, sym, ◌∙◌}
use mathlib.Core.Bool.{true, false}
use borrow.Author.Tests.{not-true, not-false}
use Rattle.c_values.specs.Given.{own_known, vertex_good}
use Rattle.c_values.specs.Laws.{put-inserted, unknown-inserted}
use borrow.Author.Rules.{rules}
use Rattle.c_inserts.proofs.vertex.Goals as goal

pub returns-then-not-own_known : goal.returns-then-not-own_known
unfolding vertex_good
returns-then-not-own_known c =
    let s = c in
    let h : own_known s.args.value.now ≡ false = sym c.own_known.ensures ∙ c.if-not-own_known.true in
    let e : vertex_good s.args.value.now s.args.floats.now ≡ false = rw h in
    let both = unknown-inserted s.args.room.now s.args.words.now s.args.reals.now 7 _ _ e c.unknown_tag.ensures _ _ _ in record { answer = both.0; slots = both.1.0; tables = both.1.1.0; floats = both.1.1.1 }

pub returns : goal.returns
unfolding vertex_good
returns c =
    let s = c in
    let h : own_known s.args.value.now ≡ true = sym c.own_known.ensures ∙ c.if-not-own_known.false in
    rw (h, ← c.point_of-point.ensures, ← c.tolerance_of-tolerance.ensures)
    (let p = put-inserted _ _ _ _ _ _ _ _ _ c.put_id.ensures c.insert_vertex.ensures.answer in
    record { answer = p.0; slots = p.1; tables = c.insert_vertex.ensures.tables; floats = c.insert_vertex.ensures.floats })
