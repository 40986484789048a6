-- Test 11 of an edge's fins (01, "Splitting: order of tests"), of the words and floats that it reads. `Laws.antt` says that it is that of `meaning`. Definitions only.
use Rattle.std.specs.Prelude.{ℕ, List, [], ◌∷◌, ◌++◌, eqb, ltb, Float}
use Rattle.geom_lines_planes.specs.Refuse.{◌unless◌, ◌then◌}
use Rattle.geom_lines_planes.specs.Geometry.{line_point, effective}
use Rattle.meaning.specs.Lists.{member, count}
use Rattle.meaning.specs.Model.{Model, edge}
use Rattle.meaning.specs.Refuse.{◌if◌}
use Rattle.meaning.specs.Split.{carrier, lo, hi, split_point}
use Rattle.memory_layout.specs.Names.{LOOPS, FINS, LOOP_FINS, AT_LOOP_FACE, AT_FIN_LOOP, AT_FIN_EDGE}
use Rattle.memory_layout.specs.Layout.{word, words_of}
use Rattle.memory_layout.specs.Entries.{list_of}
use Rattle.split_fin_tests.specs.declared.faces.Cut.{Cut}
use Rattle.split_fin_tests.specs.FaceTests.{face_test}

-- "then at lo, hi and the split parameter"
unfoldable pub cut_at : Model → ℕ → Float → Cut
cut_at m e t =
    record {
      lo = line_point (carrier m e) (lo m e);
      hi = line_point (carrier m e) (hi m e);
      at = split_point m e t;
      tolerance = effective m.version (edge m e).tolerance m.precision;
    }

-- each entry, in list order, that is not among those before it: "repeated 1", then its own test
unfoldable pub once_each : (ℕ → ℕ) → List ℕ → List ℕ → ℕ
once_each f seen [] = 0
once_each f seen (i ∷ l) = let rest = once_each f (seen ++ (i ∷ [])) l in 1 if member i seen then f i then rest

module _ (room w : List ℕ) (x : List Float) where
  -- one fin of test 11
  unfoldable pub fin_test : ℕ → Cut → ℕ → ℕ
  fin_test e c i =
      let l = word (words_of room w FINS i) AT_FIN_LOOP in
      1 unless eqb (word (words_of room w FINS i) AT_FIN_EDGE) e
      then 2 unless ltb l (word w LOOPS)
      then 1 unless eqb (count i (list_of room w LOOP_FINS l)) 1
      then face_test room w x c (word (words_of room w LOOPS l) AT_LOOP_FACE)
