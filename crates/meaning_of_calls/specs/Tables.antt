-- The test of refusal 9 on the lent memory is the one that `meaning` makes of a model ("The tables pass the test of refusal 9"), beside the tags. Assumes nothing.
use Rattle.std.specs.Prelude.{ℕ, ◌<◌, ◌≡◌, refl, Bool, true, false, cond, ◌&&◌, ◌||◌, List, eqb, length, Float}
use Rattle.std.proofs.Common.{arith}
use Rattle.std.proofs.Math.Dec.{leb}
use Rattle.geom_lines_planes.specs.declared.tolerance.Tolerance.TheVariants.{Own, Session}
use Rattle.meaning.specs.Edits.{tolerance_ok}
use Rattle.meaning.specs.Model.{edge, vertex}
use Rattle.meaning.specs.Formed.{Readable}
use Rattle.meaning_list_laws.specs.Tests.{and_both}
use Rattle.memory_layout.specs.Names.{EDGES, VERTICES, FLOAT_EDGE_TOLERANCE, FLOAT_VERTEX_TOLERANCE}
use Rattle.memory_layout.specs.Layout.{word, real, words_of, reals_of}
use Rattle.memory_layout.specs.Decode.{decode}
use Rattle.memory_layout.specs.Readable.{own_ok, record_ok, readable}
use Rattle.memory_layout.specs.Entries.{list_of}
use Rattle.memory_layout.specs.Fit.{Fit, Lists}
use Rattle.memory_layout.specs.Laws.{fit_of, lists_of}
use Rattle.memory_layout.proofs.Laws.{listed_le}
use Rattle.memory_layout.specs.Limits.{limits}

own-or-none : (b : Bool) (t : Float) → (b || tolerance_ok (Own t)) ≡ true → tolerance_ok (cond b Session (Own t)) ≡ true
own-or-none true t h = refl
own-or-none false t h = h

module _ (room w : List ℕ) (x : List Float) where
  tolerance-of-edge : Fit room w x → (i : ℕ) → i < word w EDGES → tolerance_ok (edge (decode room w x) i).tolerance ≡ true
  unfolding record_ok decode
  tolerance-of-edge f i h =
      let s = words_of room w EDGES i in
      own-or-none (eqb (word s 6) 0) (real (reals_of room x EDGES i) FLOAT_EDGE_TOLERANCE)
      (and_both (leb (word s 0) 1 && leb (word s 2) 1 && leb (word s 4) 1 && leb (word s 6) 1 && leb (word s 7) 8) (own_ok (word s 6) (real (reals_of room x EDGES i) FLOAT_EDGE_TOLERANCE))
      (f.rows 6 i (omega arith) h)).1

  tolerance-of-vertex : Fit room w x → (i : ℕ) → i < word w VERTICES → tolerance_ok (vertex (decode room w x) i).tolerance ≡ true
  unfolding record_ok decode
  tolerance-of-vertex f i h =
      let s = words_of room w VERTICES i in
      own-or-none (eqb (word s 0) 0) (real (reals_of room x VERTICES i) FLOAT_VERTEX_TOLERANCE)
      (and_both (leb (word s 0) 1) (own_ok (word s 0) (real (reals_of room x VERTICES i) FLOAT_VERTEX_TOLERANCE)) (f.rows 7 i (omega arith) h)).1

  -- a memory that is not refused with 9 holds a model within the lent capacities and 01's lists, whose precision and tolerances an insert would take
  pub tables-readable : readable room w x ≡ true → Readable (limits room) (decode room w x)
  unfolding decode list_of
  tables-readable r =
      let f : Fit room w x = fit_of room w x r in
      let l : Lists room w = lists_of room w x f in
      record {
        bodies = l.counts 0 (omega arith);
        regions = l.counts 1 (omega arith);
        shells = l.counts 2 (omega arith);
        faces = l.counts 3 (omega arith);
        loops = l.counts 4 (omega arith);
        fins = l.counts 5 (omega arith);
        edges = l.counts 6 (omega arith);
        vertices = l.counts 7 (omega arith);
        curves = l.counts 8 (omega arith);
        surfaces = l.counts 9 (omega arith);
        body-regions = λ i h. listed_le room w 0 i l (omega arith) h;
        region-shells = λ i h. listed_le room w 1 i l (omega arith) h;
        shell-faces = λ i h. listed_le room w 2 i l (omega arith) h;
        shell-wire-edges = λ i h. listed_le room w 3 i l (omega arith) h;
        shell-acorn-vertices = λ i h. listed_le room w 4 i l (omega arith) h;
        face-loops = λ i h. listed_le room w 5 i l (omega arith) h;
        loop-fins = λ i h. listed_le room w 6 i l (omega arith) h;
        edge-fins = λ i h. listed_le room w 7 i l (omega arith) h;
        precision = f.precision;
        edge-tolerance = tolerance-of-edge f;
        vertex-tolerance = tolerance-of-vertex f;
      }
