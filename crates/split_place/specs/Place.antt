-- The tests of a split (01, "Splitting: order of tests", 1, 9, 10, 12 and 13), each of what it reads. `Laws.antt` says that they are those of `meaning`. Definitions only.
use Rattle.std.specs.Prelude.{ℕ, ◌+◌, Bool, true, cond, ◌&&◌, List, eqb, leb, length, Float}
use Rattle.std.specs.Float.Ieee.{lt}
use Rattle.std.specs.Float.Ieee.Scale.{finite}
use Rattle.interval_arithmetic.specs.Ops.{zero_f}
use Rattle.float_vectors.specs.declared.vector.Point3.{Point3}
use Rattle.float_vectors.specs.Space.{◌+ᶠ◌, ◌-ᶠ◌, ◌*ᶠ◌, finite_point}
use Rattle.geom_lines_planes.specs.Refuse.{◌unless◌, ◌then◌}
use Rattle.geom_lines_planes.specs.Geometry.{line_point, effective}
use Rattle.geom_signs.specs.Signs.{apart_s}
use Rattle.meaning.specs.Lists.{count, count_if, all, all_below}
use Rattle.meaning.specs.Floats.{float_of}
use Rattle.meaning.specs.Model.{Model, edge}
use Rattle.meaning.specs.Split.{is_positive}
use Rattle.memory_layout.specs.Names.{SHELLS, FINS, EDGES, VERTICES, SHELL_WIRES, LOOP_FINS, AT_FIN_LOOP}
use Rattle.memory_layout.specs.Layout.{word, words_of}
use Rattle.memory_layout.specs.Entries.{list_of}
use Rattle.split_segment.specs.declared.segment.Segment.{Segment}
use Rattle.split_segment.specs.Segment.{low, high}
use Rattle.split_fin_tests.specs.declared.faces.Cut.{Cut}

-- 1. "Fraction not finite, ≤ 0 or ≥ 1"
unfoldable pub fraction_ok : Float → Bool
fraction_ok t = finite t && lt zero_f t && lt t (float_of 1)

-- "The parameter is lo + (hi - lo)·fraction"
unfoldable pub along : Segment → Float → Float
along s t = low s +ᶠ (high s -ᶠ low s) *ᶠ t

unfoldable pub cut_of : Segment → Float → Float → Cut
cut_of s t tolerance =
    record {
      lo = line_point s.line (low s);
      hi = line_point s.line (high s);
      at = line_point s.line (along s t);
      tolerance = tolerance;
    }

unfoldable pub tolerance_at : Model → ℕ → Float
tolerance_at m e = effective m.version (edge m e).tolerance m.precision

-- 9. "Split point not finite: 4"; 10. "Against start, then end: .. not positive as an interval: 4"
unfoldable pub point_test : Segment → Point3 → Float → ℕ
point_test s p precision =
    4 unless finite_point p
    then 4 unless is_positive (apart_s p s.start precision)
    then 4 unless is_positive (apart_s p s.end precision)

module _ (room w : List ℕ) where
  -- 12. "A wire shell lists the edge more than once"; 13. a shell gains a wire edge where it lists the edge
  unfoldable pub wire_test : ℕ → Bool → ℕ → Bool
  wire_test e fit s = cond fit (leb (length (list_of room w SHELL_WIRES s) + count e (list_of room w SHELL_WIRES s)) 256) (leb (count e (list_of room w SHELL_WIRES s)) 1)

  -- 13. "new fins in one loop counted together": a loop gains as many fins as the edge has in it
  unfoldable pub owned_by : ℕ → ℕ → Bool
  owned_by l i = eqb (word (words_of room w FINS i) AT_FIN_LOOP) l

  unfoldable pub loop_test : List ℕ → ℕ → Bool
  loop_test fins i =
      leb (length (list_of room w LOOP_FINS (word (words_of room w FINS i) AT_FIN_LOOP)) + count_if (owned_by (word (words_of room w FINS i) AT_FIN_LOOP)) fins) 1024

  -- 13. the tables, and the new edge's own list
  unfoldable pub tables_test : List ℕ → Bool
  tables_test fins =
      leb (word w FINS + length fins) (word room FINS) && leb (word w EDGES + 1) (word room EDGES) && leb (word w VERTICES + 1) (word room VERTICES) && leb (length fins) 8

  unfoldable pub capacity_test : ℕ → List ℕ → Bool
  capacity_test e fins = tables_test fins && all (loop_test fins) fins && all_below (wire_test e true) (word w SHELLS)
