-- The theorems of specs/Faces.antt that rest on those of specs/ that the edits of must-fail/ make fail. Assumes nothing.
use Rattle.std.specs.Prelude.{ℕ, ◌≡◌, ◌&&◌, eqb, get_or, pos}
use Rattle.std.proofs.Common.{sym, subst}
use Rattle.std.proofs.Math.Bool.{true}
use mathlib.Core.List.{List, [], ◌∷◌, ◌++◌, map}
use borrow.Author.Tests.{eqb-true}
use Rattle.meaning.specs.Lists.{member, every, listed, the, is_some, is}
use Rattle.meaning.specs.Model.{Model, Sense, positive, negative, has, face, fin, edge, point_of}
use Rattle.meaning.specs.Walks.{face_walk, edge_walk, directed, ends_of}
use Rattle.meaning.specs.Inquire.{rim, start_of}
use Rattle.meaning_list_laws.specs.Tests.{and_both}
use Rattle.meaning_list_laws.specs.Lists.{member-head, member-tail, all-member}
use Rattle.meaning_isolation.specs.Laws.{in-front, behind, the-listed}
use Rattle.meaning_sheets.specs.Sheets.{grid_point}
use Rattle.meaning_shift.specs.Met.{fin-edge-walked, end-walked}
use Rattle.meaning_slabs.specs.Slabs.{steps, closed, ends_at, standing, differing, along_axis, face_axis, spot}
use Rattle.meaning_slab_laws.specs.Verdicts.{Rules, closed_face}
use Rattle.meaning_slab_areas.specs.Usual.{corners_of, bend, Straight}
use Rattle.meaning_slab_areas.specs.Grid.{Stays, stays-straight, stays-back}
use Rattle.meaning_slab_areas.proofs.Grid.{one-differs}
use Rattle.meaning_slab_areas.specs.Faces.{next_start, on-the-grid, loop-listed, at}

module _ (m : Model) (b : ℕ) (r : Rules m b) where
  -- of one edge, in either direction: of the two coordinates across an axis one stays
  edge_stays : (a e : ℕ) → member e (edge_walk m b) ≡ true → (s : Sense) → Stays (spot a (point_of m (the (directed s (edge m e)).start))) (spot a (point_of m (the (directed s (edge m e)).end)))
  edge_stays a e h s = by s
    where
      from : ℕ
      from = the (edge m e).start

      to : ℕ
      to = the (edge m e).end

      rule : ((standing m (edge m e).start && standing m (edge m e).end) ≡ true) × (eqb (differing (point_of m from) (point_of m to)) 1 ≡ true)
      rule = unfold along_axis in and_both (standing m (edge m e).start && standing m (edge m e).end) (eqb (differing (point_of m from) (point_of m to)) 1) (all-member (along_axis m) (edge_walk m b) e r.edges h)

      ends : (standing m (edge m e).start ≡ true) × (standing m (edge m e).end ≡ true)
      ends = and_both (standing m (edge m e).start) (standing m (edge m e).end) rule.0

      from-grid : grid_point (point_of m from) ≡ true
      from-grid =
          on-the-grid m b r from
          (end-walked m b e from h
          (in-front from (listed (edge m e).start) (listed (edge m e).end) (the-listed (edge m e).start (and_both (is_some (edge m e).start) (has m.vertices from) ends.0).0)))

      to-grid : grid_point (point_of m to) ≡ true
      to-grid =
          on-the-grid m b r to
          (end-walked m b e to h
          (behind to (listed (edge m e).start) (listed (edge m e).end) (the-listed (edge m e).end (and_both (is_some (edge m e).end) (has m.vertices to) ends.1).0)))

      forth : Stays (spot a (point_of m from)) (spot a (point_of m to))
      forth = one-differs a (point_of m from) (point_of m to) from-grid to-grid (eqb-true (differing (point_of m from) (point_of m to)) 1 rule.1)

      by : (s : Sense) → Stays (spot a (point_of m (the (directed s (edge m e)).start))) (spot a (point_of m (the (directed s (edge m e)).end)))
      by positive = forth
      by negative = stays-back (spot a (point_of m from)) (spot a (point_of m to)) forth

  module _ (f : ℕ) (h : member f (face_walk m b) ≡ true) where
    -- a fin, and the one that starts where it ends
    way : (i j : ℕ) → member i (rim m f) ≡ true → ends_at m i j ≡ true → bend (at m b r f h i) (at m b r f h j) ≡ pos 0
    way i j g e =
        subst (λ (v : ℕ). bend (at m b r f h i) (spot (face_axis m f) (point_of m v)) ≡ pos 0) (sym next)
        (stays-straight (at m b r f h i) (spot (face_axis m f) (point_of m (the (ends_of m i).end)))
        (edge_stays (face_axis m f) (fin m i).edge (fin-edge-walked m b f (get_or (face m f).loops 0 0) i h (loop-listed m b r f h) g) (fin m i).sense))
      where
        next : the (start_of m j) ≡ the (ends_of m i).end
        next = unfold ends_at in next_start (start_of m j) (the (ends_of m i).end) (and_both (is_some (ends_of m i).end) (is (start_of m j) (the (ends_of m i).end)) e).1

    ways : (i : ℕ) (l : List ℕ) (z : ℕ) → ((j : ℕ) → member j (i ∷ l) ≡ true → member j (rim m f) ≡ true) → every (steps (ends_at m) (i ∷ (l ++ (z ∷ [])))) ≡ true
        → Straight (at m b r f h i ∷ (map (at m b r f h) l ++ (at m b r f h z ∷ [])))
    unfolding steps every
    ways i [] z g e = (way i z (g i (member-head i [])) (and_both (ends_at m i z) true e).0, tt)
    ways i (j ∷ l) z g e =
        let both = and_both (ends_at m i j) (every (steps (ends_at m) (j ∷ (l ++ (z ∷ []))))) e in
        (way i j (g i (member-head i (j ∷ l))) both.0, ways j l z (λ k q. g k (member-tail k i (j ∷ l) q)) both.1)

    pub face-straight : Straight (closed (corners_of m f))
    face-straight = by (rim m f) (λ j q. q) (all-member (closed_face m) (face_walk m b) f r.fins h)
      where
        by : (l : List ℕ) → ((j : ℕ) → member j l ≡ true → member j (rim m f) ≡ true) → every (steps (ends_at m) (closed l)) ≡ true → Straight (closed (map (at m b r f h) l))
        by [] g e = tt
        by (i ∷ l) g e = ways i l i g e
