-- Evaluations that tell the definitions from wrong ones: each edit of must-fail/ makes one of them, or a statement, false. Assumes nothing.
use Rattle.std.specs.Prelude.{ℕ, ◌≡◌, refl, true, false, List, [], ◌∷◌, ◌++◌, map}
use Rattle.std.proofs.Math.Option.{none, some}
use Rattle.geom_lines_planes.specs.declared.tolerance.Tolerance.TheVariants.{Own}
use Rattle.meaning.specs.Floats.{◌/ᶠ◌, float_of}
use Rattle.meaning.specs.Model.{Model}
use Rattle.meaning.specs.Stone.{at}
use Rattle.meaning.specs.Blade.{blade, quarter, with_vertex, ends_are, face_is, other_curve, other_surface, tolerant_edge}
use Rattle.meaning.specs.Computing.{computing}
use Rattle.meaning_doubts.specs.Doubts.{curve_doubts, doubts, doubt_words}
use Rattle.meaning_doubts.specs.Opened.{opened}

-- geometry on, with n samples
abbrev told : ℕ → Model → List (List ℕ)
told n m = map doubt_words (doubts m (record { geometry = true; edge_samples = n }) 0)

-- a surface that is "other": of each fin both ends and the samples
other-surface : told 2 (other_surface blade)
    ≡ (2 ∷ 0 ∷ 7 ∷ 0 ∷ 0 ∷ []) ∷ (2 ∷ 0 ∷ 7 ∷ 1 ∷ 0 ∷ []) ∷ (4 ∷ 1 ∷ 6 ∷ 0 ∷ 0 ∷ []) ∷ (4 ∷ 2 ∷ 6 ∷ 0 ∷ 0 ∷ [])
    ∷ (2 ∷ 0 ∷ 7 ∷ 0 ∷ 1 ∷ []) ∷ (2 ∷ 0 ∷ 7 ∷ 1 ∷ 1 ∷ []) ∷ (4 ∷ 1 ∷ 6 ∷ 0 ∷ 1 ∷ []) ∷ (4 ∷ 2 ∷ 6 ∷ 0 ∷ 1 ∷ []) ∷ []
unfolding computing opened
other-surface = refl

-- a curve that is "other": both ends, the curve before the surface, and no sample
other-curve : told 1 (ends_are none (some 1) (other_curve (other_surface blade))) ≡ (1 ∷ 0 ∷ 6 ∷ 0 ∷ 0 ∷ []) ∷ (2 ∷ 0 ∷ 7 ∷ 1 ∷ 0 ∷ []) ∷ (1 ∷ 0 ∷ 6 ∷ 0 ∷ 1 ∷ []) ∷ (2 ∷ 0 ∷ 7 ∷ 1 ∷ 1 ∷ []) ∷ []
unfolding computing opened
other-curve = refl

-- a start just at the sum of both tolerances: off curve or not
at-the-tolerance : map doubt_words (curve_doubts (tolerant_edge quarter (with_vertex 0 (record { point = at (float_of 0) (float_of 1 /ᶠ float_of 2) (float_of 0); tolerance = Own quarter }) blade)) 1 0 0 0) ≡ (3 ∷ 0 ∷ 7 ∷ 0 ∷ 1 ∷ []) ∷ []
unfolding computing opened
at-the-tolerance = refl

-- an edge with neither end: a doubt for each fin, whatever is "other"
rings : told 3 (ends_are none none (other_curve (other_surface blade))) ≡ (5 ∷ 0 ∷ 5 ∷ 0 ∷ 0 ∷ []) ∷ (5 ∷ 0 ∷ 5 ∷ 1 ∷ 1 ∷ []) ∷ []
unfolding computing opened
rings = refl

-- none where geometry is off, and none of a face that its front shell does not list
none-of-them : map doubt_words (doubts (other_surface blade) (record { geometry = false; edge_samples = 1 }) 0) ++ told 1 (face_is (some 9) (some 0) (0 ∷ []) (some 0) (other_surface blade)) ≡ []
unfolding computing opened
none-of-them = refl
