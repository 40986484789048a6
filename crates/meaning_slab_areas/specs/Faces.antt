-- Of an accepted body, the ways from a face's corner to the next are along the axes in sixteenths. Assumes nothing.
use Rattle.std.specs.Prelude.{ℕ, ◌≡◌, length, get_or}
use Rattle.std.proofs.Common.{arith}
use Rattle.std.proofs.Math.Bool.{true}
use Rattle.std.proofs.lemmas.Bool.{false≢true}
use Rattle.std.proofs.Math.Option.{Option, none, some}
use borrow.Author.Tests.{eqb-true}
use Rattle.meaning.specs.Lists.{member, the, is}
use Rattle.meaning.specs.Model.{Model, has, face, point_of}
use Rattle.meaning.specs.Walks.{face_walk, vertex_walk}
use Rattle.meaning_list_laws.specs.Tests.{and_both}
use Rattle.meaning_list_laws.specs.Lists.{member-nth, all-member}
use Rattle.meaning_sheets.specs.Sheets.{grid_point}
use Rattle.meaning_slabs.specs.Slabs.{one_loop, grid_vertex, face_axis, corner_at, Spot, spot}
use Rattle.meaning_slab_laws.specs.Verdicts.{Rules}

-- the next fin's start is this one's end
pub next_start : (o : Option ℕ) (v : ℕ) → is o v ≡ true → the o ≡ v
next_start none v h = absurd (false≢true h)
next_start (some w) v h = eqb-true w v h

module _ (m : Model) (b : ℕ) (r : Rules m b) where
  pub on-the-grid : (v : ℕ) → member v (vertex_walk m b) ≡ true → grid_point (point_of m v) ≡ true
  unfolding grid_vertex
  on-the-grid v h = (and_both (has m.vertices v) (grid_point (point_of m v)) (all-member (grid_vertex m) (vertex_walk m b) v r.grid h)).1

  module _ (f : ℕ) (h : member f (face_walk m b) ≡ true) where
    pub loop-listed : member (get_or (face m f).loops 0 0) (face m f).loops ≡ true
    loop-listed = member-nth (face m f).loops 0 (omega (arith, one))
      where
        one : length (face m f).loops ≡ 1
        one = unfold one_loop in eqb-true (length (face m f).loops) 1 (all-member (one_loop m) (face_walk m b) f r.loops h)

    abbrev pub at : ℕ → Spot
    at i = spot (face_axis m f) (corner_at m i)
