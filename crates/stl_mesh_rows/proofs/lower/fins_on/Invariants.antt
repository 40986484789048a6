-- `stl_mesh_rows::lower::fins_on` meets its contract: a turn of the loop is one entry more. Assumes nothing.
use Rattle.std.specs.Prelude.{◌≡◌, ◌++◌, ◌+◌, ◌≤◌, length, take}
use Rattle.stl_body.specs.Read.{fins_on}
use Rattle.stl_mesh_rows.proofs.lower.fins_on.Given as goal

abbrev pub invariant-loop-j : goal.invariant-loop-j
invariant-loop-j l =
    (l.c ≡ length (fins_on l.k l.fin (take l.j (take l.m l.edges)))) × (take (8 + l.c) l.row ≡ take 8 l.initial.row ++ fins_on l.k l.fin (take l.j (take l.m l.edges))) × (length l.row ≡ 16) × (l.c ≤ 8)
