-- `stl_mesh_rows::lower::fins_on` meets its contract: a turn of the loop is one entry more. Assumes nothing.
use Rattle.std.specs.Prelude.{◌≡◌, ◌+◌, ◌<◌, length, take}
use Rattle.std.proofs.Common.{arith, refl, sym, ◌∙◌, length-set, length-take-le, take_all}
use mathlib.Core.List.{append-nil}
use Rattle.stl_body.specs.Read.{fins_on}
use Rattle.stl_mesh_rows.specs.Flats.{fin-met, fin-passed, fin-fits}
use Rattle.stl_mesh_rows.proofs.lower.fins_on.Goals as goal
use Rattle.stl_mesh_rows.proofs.lower.fins_on.Goals.{then-edge-k, else-edge-k}

pub loop-j-init : goal.loop-j-init
unfolding fins_on
loop-j-init c = (refl, sym (append-nil (take 8 c.args.row.now)), c.requires.fin_bound.3, omega arith)

pub overflow_cast-row : goal.overflow_cast-row
overflow_cast-row c = omega (arith, c.requires.fin_bound.1, length-take-le c.args.m c.args.edges.now c.requires.fin_bound.2)

pub overflow_add-row : goal.overflow_add-row
overflow_add-row c = record { fits = omega (arith, c.requires.fin_bound.1, c.requires.fin_bound.0, length-take-le c.args.m c.args.edges.now c.requires.fin_bound.2) }

pub bounds-row-c : goal.bounds-row-c
bounds-row-c c =
    let s = c in
    let loop = c.loop-j in
    let edges = take s.args.m s.args.edges.now in
    let whole : length edges ≡ s.args.m = length-take-le s.args.m s.args.edges.now s.requires.fin_bound.2 in
    let all : take s.args.m edges ≡ edges = take_all s.args.m edges (omega arith) in
    let h = fin-fits s.args.k s.args.fin edges loop.j s.args.m c.if-edge-k.true (omega arith) (omega arith) (rw all s.requires.edges_len_bound) in
    let e = loop.invariant.0 in
    omega arith

pub loop-j-preserved : goal.loop-j-preserved
loop-j-preserved c =
    let s = c in
    let loop = c.loop-j in
    let k = s.args.k in
    let fin = s.args.fin in
    let edges = take s.args.m s.args.edges.now in
    let whole : length edges ≡ s.args.m = length-take-le s.args.m s.args.edges.now s.requires.fin_bound.2 in
    let all : take s.args.m edges ≡ edges = take_all s.args.m edges (omega arith) in
    let long : loop.j < length edges = omega arith in
    elim c.if-edge-k.branch [
      | then-edge-k w ↦
          let fits = fin-fits k fin edges loop.j s.args.m w.if-edge-k.true (omega arith) (omega arith) (rw all s.requires.edges_len_bound) in
          let e = loop.invariant.0 in
          let l = loop.invariant.2 in
          let room : 8 + loop.c < length loop.row = omega arith in
          let more = fin-met k fin edges loop.j loop.c loop.row (take 8 s.args.row.now) w.if-edge-k.true long e room loop.invariant.1 in
          rw (w.row-is, w.c-is) (more.0, more.1, length-set loop.row _ _ ∙ l, omega arith)
      | else-edge-k w ↦
          let same = fin-passed k fin edges loop.j w.if-edge-k.false long in
          rw (w.row-is, w.c-is, same) (loop.invariant.0, loop.invariant.1, loop.invariant.2, loop.invariant.3)
    ]

pub returns : goal.returns
returns c =
    let s = c in
    let loop = c.loop-j in
    let edges = take s.args.m s.args.edges.now in
    let whole : length edges ≡ s.args.m = length-take-le s.args.m s.args.edges.now s.requires.fin_bound.2 in
    let all : take loop.j edges ≡ edges = take_all loop.j edges (omega arith) in
    record { value = rw all at loop.invariant.0; row_after = rw all at loop.invariant.1; row_len = loop.invariant.2 }
