-- The theorems of specs/TwoTold.antt that rest on `region-sound`, `row3-sound` and `edge_row`: what is told with 2 of a split, of walks, box and volume. Assumes nothing.
use Rattle.std.specs.Prelude.{ℕ, eqb, length, Float}
use Rattle.std.proofs.Common.{arith}
use Rattle.std.proofs.Math.Path.{refl, ap₂}
use Rattle.std.proofs.Math.Bool.{◌&&◌}
use mathlib.Core.List.{[]}
use Rattle.meaning.specs.Model.{Model, Limits, has, body, edge}
use Rattle.meaning.specs.Inquire.{is_solid, solid_sides}
use Rattle.meaning.specs.Offices.{edge_for}
use Rattle.meaning_stops.specs.Splits.{split_stops, split_stop}
use Rattle.meaning_stops.specs.Bodies.{region_parts, face_parts, faces_stops, edges_stops, vertices_stops, box_stops, volume_stops, faces_stop, edges_stop, vertices_stop, box_stop, volume_stop}
use Rattle.meaning_stop_laws.specs.Parts.{Each, each_none, each_and, each-joined, rows_none, rows_more, rows-and}
use Rattle.meaning_stop_laws.specs.Absent as Absent
use Rattle.meaning_stop_laws.specs.Absent.{Sound}
use Rattle.meaning_stop_laws.proofs.Absent.{edge_row}
use Rattle.meaning_stop_laws.specs.TwoTold.{TwoTold, told, office-sound, row1-sound, ends, own, flat_sound, straight-sound}

module _ (m : Model) (o : ℕ) where
  pub split-two : (x : Limits) (e : ℕ) (t : Float) → TwoTold m o (split_stop x m o e t)
  unfolding split_stop split_stops
  split-two x e t =
      let E = edge_for m o e in
      told m o _
      (rows-and (Sound m o) (office-sound m o)
      (rows-and (Sound m o) (row1-sound m o x e t)
      (rows-and (Sound m o) (each_and (Sound m o) (record { told = λ z. ap₂ ◌&&◌ (Absent.gone m o (has m.edges E) z) refl }) (each_none (Sound m o)))
      (rows-and (Sound m o) (Absent.row3-sound m o x E t)
      (rows_more (Sound m o) (Absent.row4-sound m o x E t)
      (λ z. (rows-and (Sound m o) (Absent.row5-sound m o x E t)
      (rows-and (Sound m o) (Absent.row6-sound m o x E t (ends m o E z).0 (ends m o E z).1)
      (rows-and (Sound m o) (Absent.row7-sound m o x E t)
      (rows-and (Sound m o) (Absent.row8-sound m o x E t)
      (rows-and (Sound m o) (Absent.row9-sound m o x E t)
      (rows-and (Sound m o) (Absent.row10-sound m o x E t)
      (rows-and (Sound m o) (Absent.row11-sound m o x E t [] (edge m E).fins)
      (rows-and (Sound m o) (Absent.row12-sound m o x E t)
      (rows-and (Sound m o) (Absent.row13-sound m o x E t)
      (rows_none (Sound m o)))))))))))))))))

  -- ---- walks, box and volume

  module _ (b : ℕ) where
    faces-sound : Each (Sound m o) (face_parts m b (own m o b))
    faces-sound = (each_and (Sound m o) (record { told = λ z. ap₂ ◌&&◌ (Absent.gone m o (has m.bodies (own m o b)) z) refl })
        (each-joined (Sound m o) (region_parts m (own m o b)) (body m (own m o b)).regions (Absent.region-sound m o (own m o b))))

    pub faces-two : TwoTold m o (faces_stop m o b)
    unfolding faces_stop faces_stops
    faces-two = told m o _ (rows-and (Sound m o) (office-sound m o) (rows-and (Sound m o) faces-sound (rows_none (Sound m o))))

    pub edges-two : TwoTold m o (edges_stop m o b)
    unfolding edges_stop edges_stops
    edges-two = told m o _ (rows-and (Sound m o) (office-sound m o) (rows-and (Sound m o) faces-sound (rows-and (Sound m o) (edge_row m o (own m o b)) (rows_none (Sound m o)))))

    pub vertices-two : TwoTold m o (vertices_stop m o b)
    unfolding vertices_stop vertices_stops
    vertices-two = told m o _ (rows-and (Sound m o) (office-sound m o)
        (rows-and (Sound m o) faces-sound (rows-and (Sound m o) (edge_row m o (own m o b)) (rows-and (Sound m o) (Absent.vertex-row m o (own m o b)) (rows_none (Sound m o))))))

    pub box-two : TwoTold m o (box_stop m o b)
    unfolding box_stop box_stops
    box-two =
        told m o _
        (rows-and (Sound m o) (office-sound m o)
        (rows-and (Sound m o) faces-sound
        (rows-and (Sound m o) (flat_sound m o b)
        (rows-and (Sound m o) (edge_row m o (own m o b))
        (rows-and (Sound m o) (straight-sound m o b) (rows-and (Sound m o) (Absent.vertex-row m o (own m o b)) (rows-and (Sound m o) (Absent.box-row m o (own m o b)) (rows_none (Sound m o)))))))))

    pub volume-two : TwoTold m o (volume_stop m o b)
    unfolding volume_stop volume_stops
    volume-two =
        told m o _
        (rows-and (Sound m o) (office-sound m o)
        (rows-and (Sound m o) faces-sound
        (rows-and (Sound m o) (flat_sound m o b)
        (rows-and (Sound m o) (edge_row m o (own m o b))
        (rows-and (Sound m o) (straight-sound m o b)
        (rows-and (Sound m o) (each_and (Sound m o) (Absent.never m o 1 6 (is_solid (body m (own m o b)).kind) _ _ (omega arith)) (each_none (Sound m o)))
        (rows-and (Sound m o) (Absent.sides-row m o (solid_sides m (own m o b)))
        (rows-and (Sound m o) (each_and (Sound m o) (Absent.never-if m o 1 4 (eqb (length (solid_sides m (own m o b))) 0) _ _ (omega arith)) (each_none (Sound m o))) (rows_none (Sound m o))))))))))
