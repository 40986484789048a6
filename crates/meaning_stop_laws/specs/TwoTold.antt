-- "walks (which record is missing, on which parent)", and so every other question: where 2 is told, the record is missing, and the parent that is told names it. For all models. Assumes nothing.
use Rattle.std.specs.Prelude.{ℕ, ◌≡◌, true, leb, Float}
use Rattle.std.proofs.Common.{arith, sym, ap, ◌∙◌}
use Rattle.std.proofs.Math.Path.{refl, ap₂}
use Rattle.std.proofs.Math.Bool.{◌&&◌}
use mathlib.Core.List.{List, [], ◌∷◌}
use Rattle.std.specs.Float.Ieee.{lt}
use Rattle.std.specs.Float.Ieee.Scale.{finite}
use Rattle.interval_arithmetic.specs.Ops.{zero_f}
use Rattle.geom_lines_planes.specs.Refuse.{◌unless◌, ◌then◌}
use Rattle.meaning.specs.Lists.{joined, is_some}
use Rattle.meaning.specs.Floats.{float_of}
use Rattle.meaning.specs.Model.{Model, Limits, largest, edge}
use Rattle.meaning.specs.Refuse.{first_refusal}
use Rattle.meaning.specs.Walks.{face_walk, edge_walk}
use Rattle.meaning.specs.Offices.{office_refusal, body_for}
use Rattle.meaning_list_laws.specs.Tests.{then-zero, unless-zero}
use Rattle.meaning_stops.specs.Stops.{nothing, part, numbers, Row, Stop, first_stop}
use Rattle.meaning_stops.specs.Splits.{row1, row4, bounds_stops, bounds_stop}
use Rattle.meaning_stops.specs.Bodies.{flat_parts, straight_parts}
use Rattle.meaning_stop_laws.specs.Missing.{missing_on}
use Rattle.meaning_stop_laws.specs.Parts.{Each, each_none, each_and, each-joined, EachRow, rows_none, rows_more, rows-and, told-by}
use Rattle.meaning_stop_laws.specs.Absent as Absent
use Rattle.meaning_stop_laws.specs.Absent.{Sound}

-- what is told with 2
pub record TwoTold (m : Model) (o : ℕ) (s : Stop) : Type 0 where
  pub missing : s.number ≡ 2 → missing_on m o s.entity s.parent ≡ true

module _ (m : Model) (o : ℕ) where
  pub told : (l : List Row) → EachRow (Sound m o) l → TwoTold m o (first_stop l)
  told l a =
      record {
        missing = λ z.
            let t = told-by (Sound m o) l a 1 z in
            ap (λ (s : Stop). missing_on m o s.entity s.parent) t.stop ∙ t.holds.told (sym (ap (λ (s : Stop). s.number) t.stop) ∙ z);
      }

  pub office-sound : Each (Sound m o) (part 1 (office_refusal o) nothing nothing ∷ [])
  office-sound = (each_and (Sound m o) (Absent.never m o 1 1 (leb o 1) nothing nothing (omega arith)) (each_none (Sound m o)))

  -- ---- splits

  module _ (x : Limits) (e : ℕ) (t : Float) where
    pub row1-sound : Each (Sound m o) (row1 e t)
    row1-sound =
        (each_and (Sound m o) (Absent.never m o 1 1 (finite t) _ _ (omega arith))
        (each_and (Sound m o) (Absent.never m o 2 1 (lt zero_f t) _ _ (omega arith))
        (each_and (Sound m o) (Absent.never m o 3 1 (lt t (float_of 1)) _ _ (omega arith)) (each_none (Sound m o)))))

  -- where row 4 passes there are ends
  pub ends : (e : ℕ) → first_refusal (numbers (row4 m e)) ≡ 0 → (is_some (edge m e).start ≡ true) × (is_some (edge m e).end ≡ true)
  unfolding first_refusal
  ends e z =
      let p = then-zero (7 unless is_some (edge m e).start) (7 unless is_some (edge m e).end then 0) z in
      (unless-zero 6 (is_some (edge m e).start) p.0, unless-zero 6 (is_some (edge m e).end) (then-zero (7 unless is_some (edge m e).end) 0 p.1).0)

  pub bounds-two : (e : ℕ) → TwoTold m o (bounds_stop m e)
  unfolding bounds_stops
  bounds-two e =
      told _
      (rows-and (Sound m o) (each_and (Sound m o) (record { told = λ z. ap₂ ◌&&◌ (Absent.edge-gone m o e z) refl }) (each_none (Sound m o)))
      (rows_more (Sound m o) (Absent.row4-sound m o largest e zero_f)
      (λ z. (rows-and (Sound m o) (Absent.row5-sound m o largest e zero_f)
      (rows-and (Sound m o) (Absent.row6-sound m o largest e zero_f (ends e z).0 (ends e z).1)
      (rows-and (Sound m o) (Absent.row7-sound m o largest e zero_f)
      (rows-and (Sound m o) (Absent.row8-sound m o largest e zero_f)
      (rows_none (Sound m o)))))))))

  -- ---- walks, box and volume

  module _ (b : ℕ) where
    abbrev pub own : ℕ
    own = body_for m o b

    pub flat_sound : Each (Sound m o) (joined (flat_parts m own) (face_walk m own))
    flat_sound = each-joined (Sound m o) (flat_parts m own) (face_walk m own) (Absent.flat_sound m o own)

    pub straight-sound : Each (Sound m o) (joined (straight_parts m own) (edge_walk m own))
    straight-sound = each-joined (Sound m o) (straight_parts m own) (edge_walk m own) (Absent.straight-sound m o own)
