-- A body's file, or what refuses it, in two models that are alike from the body on (W-206): what stands in other records makes no difference. Assumes nothing.
use Rattle.std.specs.Prelude.{ℕ, ◌≡◌, Bool, true, false}
use Rattle.std.proofs.Math.Path.{refl, ap, ap₂}
use Rattle.std.proofs.Common.{sym, ◌∙◌, subst}
use Rattle.std.proofs.Math.Bool.{◌&&◌}
use mathlib.Core.List.{List, [], ◌∷◌, ◌++◌}
use Rattle.geom_lines_planes.specs.Refuse.{◌unless◌, ◌then◌}
use Rattle.meaning.specs.Lists.{member}
use Rattle.meaning.specs.Model.{Model, has}
use Rattle.meaning.specs.Refuse.{Answer, refused, answered}
use Rattle.meaning.specs.Walks.{face_walk}
use Rattle.meaning.specs.Inquire.{require_polyhedral, Side, solid_sides, side_refusal, sides_refusal, volume_refusal, sum_volumes}
use Rattle.meaning.specs.Offices.{body_for}
use Rattle.interval_arithmetic.specs.Ops.{zero_f}
use Rattle.meaning_list_laws.specs.Tests.{and_both, then-zero}
use Rattle.meaning_isolation.specs.Reached.{Alike}
use Rattle.meaning_isolation.specs.Laws.{then_same, answered-same, answered-number}
use Rattle.meaning_isolation.specs.Offices.{own, OthersDiffer}
use Rattle.meaning_isolation.specs.Asked.{there-for, own-itself, no-such-body}
use Rattle.meaning_isolation.proofs.Asked.{others-alike}
use Rattle.meaning_isolation.specs.Measured.{sides_in}
use Rattle.meaning_isolation.proofs.Measured.{sides-same, sides-walked, points-same, volume-refused, volume-given}
use Rattle.stl_format.specs.Stl.{polygon_triangles, side_triangles, triangles_of, stl_of, body_stl, narrow_points, narrow_sides, stl_refusal}

-- all that a drawing asks of the sides k in m, and of the sides l in n
record SameDrawing (m n : Model) (k l : List Side) : Type 0 where
  narrow : narrow_sides m k ≡ narrow_sides n l
  drawn : triangles_of m k ≡ triangles_of n l

module _ (m n : Model) (b : ℕ) (a : Alike m n b) where
  -- sides whose faces are walked and that are not refused
  sides-drawn : require_polyhedral m b ≡ 0 → (l : List Side) → sides_in (face_walk m b) l ≡ true → sides_refusal m l ≡ 0 → SameDrawing m n l l
  unfolding sides_refusal narrow_sides triangles_of side_triangles
  sides-drawn z [] h y = record { narrow = refl; drawn = refl }
  sides-drawn z (s ∷ l) h y =
      let t = and_both (member s.face (face_walk m b)) (sides_in (face_walk m b) l) h in
      let p = then-zero (side_refusal m s) (sides_refusal m l) y in
      let rest = sides-drawn z l t.1 p.1 in
      let points = points-same m n b a z s t.0 p.0 in
      record { narrow = ap₂ ◌&&◌ (ap narrow_points points) rest.narrow; drawn = ap₂ (λ u v. u ++ v) (ap polygon_triangles points) rest.drawn }

  -- those of a body whose volume is given
  body-drawn : volume_refusal m b ≡ 0 → SameDrawing m n (solid_sides m b) (solid_sides n b)
  body-drawn y =
      let p = volume-given m n b a y in
      subst (SameDrawing m n (solid_sides m b)) (sides-same m n b a p.0) (sides-drawn p.0 (solid_sides m b) (sides-walked m n b a p.0) p.1)

  pub alike-refused : stl_refusal m b ≡ stl_refusal n b
  unfolding stl_refusal
  alike-refused = then_same (volume_refusal m b) (volume_refusal n b) _ _ (volume-refused m n b a) (λ y. ap (λ t. 5 unless t) (body-drawn y).narrow)

  -- the same file, or the same refusal
  pub alike-file : answered (stl_refusal m b) (body_stl m b) ≡ answered (stl_refusal n b) (body_stl n b)
  unfolding stl_refusal
  alike-file = answered-same (stl_refusal m b) (stl_refusal n b) _ _ alike-refused (λ y. ap stl_of (body-drawn (then-zero (volume_refusal m b) _ y).0).drawn)

-- ---- for an office

abbrev told : Model → ℕ → Answer (List ℕ)
told m b = answered (stl_refusal m b) (body_stl m b)

-- an id that names no body
none_told : (m : Model) (b : ℕ) → has m.bodies b ≡ false → told m b ≡ refused 2
unfolding stl_refusal
none_told m b h = rw volume
  where
    volume : volume_refusal m b ≡ 2
    volume = answered-number (volume_refusal m b) 2 (sum_volumes m zero_f (solid_sides m b)) zero_f (no-such-body m b h).volume

-- "the same whatever stands in the other's records, provided that no record is reached from both" (`OthersDiffer`)
pub others-leave-the-file : (m n : Model) (o : ℕ) → OthersDiffer m n o → (b : ℕ) → told m (body_for m o b) ≡ told n (body_for n o b)
others-leave-the-file m n o d b = by (own m o b) refl
  where
    by : (t : Bool) → own m o b ≡ t → told m (body_for m o b) ≡ told n (body_for n o b)
    by true h = ap (told m) (own-itself m o b h) ∙ alike-file m n b ((others-alike m n o d).each b h) ∙ sym (ap (told n) (own-itself n o b (sym (d.own_same b) ∙ h)))
    by false h = none_told m (body_for m o b) (there-for m o b ∙ h) ∙ sym (none_told n (body_for n o b) (there-for n o b ∙ sym (d.own_same b) ∙ h))
