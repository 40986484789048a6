-- The rows with the office give the number of a split that names its office. Assumes nothing.
use Prim.Native.Nat.{ℕ, zero, suc}
use Rattle.std.proofs.Common.{arith, ap₂}
use Rattle.std.specs.Prelude.{◌≡◌, Bool, ◌&&◌, List, [], ◌∷◌, map, leb, get_or, drop, Float}
use Rattle.std.proofs.Math.Path.{refl, ap}
use Rattle.std.proofs.Math.Bool.{true, false, not}
use Rattle.geom_lines_planes.specs.Refuse.{◌unless◌}
use Rattle.meaning.specs.Model.{Model, Limits, has}
use Rattle.meaning.specs.Refuse.{refused, answered}
use Rattle.meaning.specs.Split.{test1, split_tests, EdgeSplit, after_split, where_accepted}
use Rattle.meaning.specs.Offices.{office_refusal, foreign_edge, office_split_refusal, office_split, office_model_after}
use Rattle.meaning_split_laws.specs.Rows.{◌when◌}
use Rattle.meaning_split_laws.specs.Refusals.{first, first_one, rows-are-tests, AllNumbered, numbered-rows}
use Rattle.meaning_office_laws.specs.Terms.{office_rows}

-- row 2: an edge that is there, and not the other's
row2 : (h b : Bool) → first (2 when not h ∷ 2 when b ∷ []) ≡ (2 unless (h && not b))
unfolding first
row2 true true = refl
row2 true false = refl
row2 false b = refl

module _ (x : Limits) (m : Model) (o e : ℕ) (t : Float) where
  -- the tests behind test 2
  abbrev pub later : List ℕ
  later = drop 2 (split_tests x m e t)

  abbrev edge_test : ℕ
  edge_test = 2 unless (has m.edges e && not (foreign_edge m o e))

  pub rows-tests : map first (office_rows x m o e t) ≡ office_refusal o ∷ test1 t ∷ edge_test ∷ later
  rows-tests =
      let tests = rows-are-tests x m e t in
      ap₂ ◌∷◌ (first_one 1 (leb o 1)) (ap₂ ◌∷◌ (ap (λ (l : List ℕ). get_or l 1 0) tests) (ap₂ ◌∷◌ (row2 (has m.edges e) (foreign_edge m o e)) (ap (drop 3) tests)))

  pub numbered : AllNumbered (office_rows x m o e t)
  numbered = (omega arith, (omega arith, (omega arith, (numbered-rows x m e t).1.1.1)))

  -- a refused split leaves the model as it was
  pub refused-keeps : (n : ℕ) → office_split x m o e t ≡ refused n → office_model_after x m o e t ≡ m
  unfolding office_model_after
  refused-keeps n h = go (office_split_refusal x m o e t) h
    where
      go : (k : ℕ) → answered {A = EdgeSplit} k (record { original_edge = e; new_edge = m.edges.used; vertex = m.vertices.used }) ≡ refused n → where_accepted k m (after_split m e t) ≡ m
      go zero h = cc
      go (suc k) h = refl
