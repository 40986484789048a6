-- `stl_fan::draw_fan` meets its contract: a turn of the loop is one more triangle of the fan. Assumes nothing.
use Rattle.std.specs.Prelude.{ℕ, ◌+◌, ◌*◌, ◌-◌, ◌≡◌, Bool, ◌&&◌, List, map, get_or, drop, Float}
use Rattle.float_vectors.specs.declared.vector.Point3.{Point3}
use Rattle.memory_layout.specs.Decode.{decode}
use Rattle.inquire_fin_starts.specs.Starts.{start_point}
use Rattle.inquire_fan.specs.Fan.{origin_p, turned}
use Rattle.stl_format.specs.Stl.{fan_triangles, narrow_points}
use Rattle.stl_triangles.specs.Spots.{spot_of, drawn}
use Rattle.stl_fan.proofs.draw_fan.Given as goal

-- the points of the fan
abbrev pub points : List ℕ → List ℕ → List Float → List ℕ → Bool → List Point3
points room words reals fins back = turned back (map (start_point (decode room words reals)) fins)

abbrev pub invariant-loop-k : goal.invariant-loop-k
invariant-loop-k l = (l.p ≡ spot_of (get_or (points l.room l.words l.reals l.fins l.back) l.k origin_p))
    × (drawn (l.at + 50 * (l.k - 1)) (fan_triangles (get_or (points l.room l.words l.reals l.fins l.back) 0 origin_p) (drop l.k (points l.room l.words l.reals l.fins l.back))) l.bytes
    ≡ drawn l.at (fan_triangles (get_or (points l.room l.words l.reals l.fins l.back) 0 origin_p) (drop 1 (points l.room l.words l.reals l.fins l.back))) l.initial.bytes)
    × ((l.narrow && narrow_points (drop (l.k + 1) (points l.room l.words l.reals l.fins l.back))) ≡ narrow_points (points l.room l.words l.reals l.fins l.back))
