-- The two versions of the tolerance rule (W-211), computed: own tolerances below and above the session's, none at all, and the version behind splits. Assumes nothing.
use Rattle.std.specs.Prelude.{ℕ, ◌≡◌, refl, true, false, List, [], ◌∷◌, map, Float}
use Rattle.std.specs.Float.Ieee.{neg, to_bits}
use Rattle.std.specs.Float.{binary64}
use Rattle.geom_lines_planes.specs.declared.tolerance.Tolerance.{Tolerance}
use Rattle.geom_lines_planes.specs.declared.tolerance.Tolerance.TheVariants.{Own, Session}
use Rattle.geom_lines_planes.specs.declared.tolerance.Version.{Version}
use Rattle.geom_lines_planes.specs.declared.tolerance.Version.TheVariants.{First, Second}
use Rattle.geom_lines_planes.specs.Geometry.{effective}
use Rattle.meaning.specs.Floats.{◌/ᶠ◌, float_of}
use Rattle.meaning.specs.Model.{Model, largest}
use Rattle.meaning.specs.Refuse.{given}
use Rattle.meaning.specs.Split.{split_refusal, after_all}
use Rattle.meaning.specs.Faults.{report_of, findings, sawing, fit_to_saw}
use Rattle.meaning.specs.Stone.{at, stone, plane, up, milli}
use Rattle.meaning.specs.Blade.{blade, with_version, with_vertex, with_surface, quarter, tolerant_edge}
use Rattle.meaning.specs.Computing.{computing}

-- asked of a model of either version
abbrev in_both : {A : Type 0} → (Model → A) → Model → List A
in_both f m = map (λ v. f (with_version v m)) (First ∷ Second ∷ [])

-- n ten-thousandths
abbrev parts : ℕ → Float
parts n = float_of n /ᶠ float_of 10000

-- ---- the rule: the session's is 0.0005. An own one below it, above it; a negative zero; none

abbrev told : Version → List ℕ
told v = map (λ t. to_bits binary64 (effective v t milli)) (Own (parts 1) ∷ Own (parts 9) ∷ Own (neg (float_of 0)) ∷ Session ∷ [])

rules-told : map told (First ∷ Second ∷ [])
    ≡ (0x3f1a_36e2_eb1c_432d ∷ 0x3f4d_7dbf_487f_cb92 ∷ 0x8000_0000_0000_0000 ∷ 0x3f40_624d_d2f1_a9fc ∷ [])
    ∷ (0x3f40_624d_d2f1_a9fc ∷ 0x3f4d_7dbf_487f_cb92 ∷ 0x3f40_624d_d2f1_a9fc ∷ 0x3f40_624d_d2f1_a9fc ∷ [])
    ∷ []
unfolding computing
rules-told = refl

-- ---- a stone whose vertex 0, 0.0004 above the bottom, has an own tolerance of 0.0001: below the session's. It is off the bottom in version 1, met from both edges, and not in version 2

abbrev lifted : Tolerance → Model
lifted t = with_vertex 0 (record { point = at (float_of 0) (float_of 0) (parts 4); tolerance = t }) stone

abbrev reasons : Model → List ℕ
reasons m = map (λ f. f.reason) (report_of (findings m sawing 0)).faults

small-tolerance : in_both reasons (lifted (Own (parts 1))) ≡ (23 ∷ 23 ∷ []) ∷ [] ∷ []
unfolding computing
small-tolerance = refl

small-is-fit : in_both (λ m. fit_to_saw m 0) (lifted (Own (parts 1))) ≡ given false ∷ given true ∷ []
unfolding computing
small-is-fit = refl

-- a split whose edge has the small one, on a plane 0.0004 off: test 11
small-split : in_both (λ m. split_refusal largest m 0 quarter) (tolerant_edge (parts 1) (with_surface 0 (plane (at (float_of 0) (float_of 0) (parts 4)) up) blade)) ≡ 1 ∷ 0 ∷ []
unfolding computing
small-split = refl

-- ---- equal answers where no record has its own: the same stone, sound and 0.0007 off; the trial stone; a split 0.0004 off and 0.0009 off

session-reports : in_both reasons (lifted Session) ≡ [] ∷ [] ∷ []
unfolding computing
session-reports = refl

abbrev slab : ℕ → Model
slab n = with_surface 0 (plane (at (float_of 0) (float_of 0) (parts n)) up) blade

session-splits : map (λ n. in_both (λ m. split_refusal largest m 0 quarter) (slab n)) (4 ∷ 9 ∷ []) ≡ (0 ∷ 0 ∷ []) ∷ (1 ∷ 1 ∷ []) ∷ []
unfolding computing
session-splits = refl

-- ---- "A model names its version and keeps it through splits": three of them, of the edge that is left each time

abbrev three : Model → Model
three m = after_all largest m (record { edge = 0; fraction = quarter } ∷ record { edge = 0; fraction = quarter } ∷ record { edge = 12; fraction = quarter } ∷ [])

version-kept : in_both (λ m. (three m).version) stone ≡ First ∷ Second ∷ []
unfolding computing
version-kept = refl

all-accepted : in_both (λ m. (three m).edges.used) stone ≡ 15 ∷ 15 ∷ []
unfolding computing
all-accepted = refl
