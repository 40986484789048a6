-- `inquire_whole_fan::whole_polygon` meets its contract: a turn of the loop is one more triangle of the fan. Assumes nothing.
use Prim.Native.Nat.{ℕ, ◌*◌, ◌^◌, ◌≤◌, ◌-◌}
use mathlib.Core.Path.{◌≡◌}
use mathlib.Core.Bool.{Bool}
use mathlib.Core.List.{List, map}
use lib.IntN.{nat_abs, ◌+ℤ◌}
use lib.ListN.{get_or, drop}
use lib.Ieee.{Float}
use Rattle.float_vectors.specs.declared.vector.Point3.{Point3}
use Rattle.meaning_sheets.specs.Sheets.{corner, whole_fan}
use Rattle.memory_layout.specs.Decode.{decode}
use Rattle.inquire_fin_starts.specs.Starts.{start_point}
use Rattle.inquire_fan.specs.Fan.{origin_p, turned}
use Rattle.inquire_corners.specs.Seen.{seen}
use Rattle.inquire_whole_fan.proofs.whole_polygon.Given as goal

-- the points of the fan
abbrev pub points : List ℕ → List ℕ → List Float → List ℕ → Bool → List Point3
points room words reals fins back = turned back (map (start_point (decode room words reals)) fins)

abbrev pub invariant-loop-k : goal.invariant-loop-k
invariant-loop-k l = (seen l.p ≡ corner (get_or (points l.room l.words l.reals l.fins l.back) l.k origin_p))
    × (l.acc +ℤ whole_fan (seen l.o) (drop l.k (map corner (points l.room l.words l.reals l.fins l.back))) ≡ whole_fan (seen l.o) (drop 1 (map corner (points l.room l.words l.reals l.fins l.back))))
    × (nat_abs l.acc ≤ 3 * 2 ^ 48 * (l.k - 1))
