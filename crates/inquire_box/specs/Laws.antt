-- The box of a walk as the code makes it. Assumes nothing.
use Rattle.std.specs.Prelude.{ℕ, ◌+◌, ◌<◌, ◌≡◌, Bool, ◌&&◌, List, [], ◌∷◌, ◌++◌, map, ltb, length, get_or, take, Float}
use Rattle.std.proofs.Common.{arith, sym, ◌∙◌}
use Rattle.std.proofs.Math.Path.{ap}
use Rattle.std.proofs.Math.Bool.{true, false}
use Rattle.std.proofs.lemmas.List.{length-map}
use Rattle.float_vectors.specs.declared.vector.Point3.{Point3}
use Rattle.geom_lines_planes.specs.Refuse.{◌unless◌, ◌then◌, answer}
use Rattle.meaning.specs.Lists.{all, firsts}
use Rattle.meaning.specs.Model.{has, point_of}
use Rattle.meaning.specs.Walks.{vertex_walk, vertices_refusal}
use Rattle.meaning.specs.Inquire.{require_polyhedral, box_of, box_refusal}
use Rattle.meaning_list_laws.specs.Tests.{refused-answer}
use Rattle.memory_layout.specs.Layout.{word}
use Rattle.memory_layout.specs.Decode.{decode}
use Rattle.memory_layout.specs.Readable.{readable}
use Rattle.inquire_bbox.specs.declared.bbox.Extent.{Extent}
use Rattle.inquire_bbox.specs.Boxes.{seen_box, extent_of}
use Rattle.inquire_bbox.specs.Laws.{finite-map}
use Rattle.walk_answers.specs.Calls.{reach}
use Rattle.walk_answers.specs.Decoded.{refused_by}
use Rattle.walk_answers.specs.Laws.{all-firsts-same, refused-before}
use Rattle.walk_marks.specs.Laws.{map-turn}
use Rattle.inquire_polyhedral.specs.Laws.{polyhedral-vertices}
use Rattle.station_answers.specs.declared.BoxFound.{BoxFound}
use Rattle.station_answers.specs.declared.BoxFound.TheVariants.{Is, Refused}
use Rattle.inquire_box.specs.Answers.{box_number, box_answer}
use Rattle.inquire_box.specs.Walked.{extent_box, walk_number, walk_box}

-- ---- the points

-- a turn of a loop over vertices
pub extent-turn : (f : ℕ → Point3) (l : List ℕ) (k : ℕ) (e next : Extent) (p : Point3) → k < length l → p ≡ f (get_or l k 0) → e ≡ extent_of (map f (take k l))
    → ((s : List Point3) → e ≡ extent_of s → next ≡ extent_of (s ++ (p ∷ []))) → next ≡ extent_of (map f (take (k + 1) l))
extent-turn f l k e next p h q s more =
    more (map f (take k l)) s
    ∙ ap (λ t. extent_of (map f (take k l) ++ (t ∷ []))) q
    ∙ ap extent_of (sym (map-turn f l k h))

pub box-empty : (e : Extent) → e.empty ≡ true → Refused 4 ≡ extent_box e
unfolding extent_box
box-empty e h = rw h

pub box-infinite : (e : Extent) → e.empty ≡ false → e.finite ≡ false → Refused 4 ≡ extent_box e
unfolding extent_box
box-infinite e h g = rw (h, g)

pub box-given : (e : Extent) → e.empty ≡ false → e.finite ≡ true → Is e.bounds ≡ extent_box e
unfolding extent_box
box-given e h g = rw (h, g)

-- ---- the walk

pub box-missing : (room w : List ℕ) (x : List Float) (ids : List ℕ) → all (λ v. ltb v (word w 7)) ids ≡ false → Refused 2 ≡ walk_box (decode room w x) (firsts ids)
unfolding walk_box decode
box-missing room w x ids e = rw (all-firsts-same (λ v. ltb v (word w 7)) ids, e)

pub box-walked : (room w : List ℕ) (x : List Float) (walk : List ℕ) → all (λ v. ltb v (word w 7)) walk ≡ true
    → extent_box (extent_of (map (point_of (decode room w x)) walk)) ≡ walk_box (decode room w x) walk
unfolding extent_box extent_of walk_box
box-walked room w x walk e =
    rw (there, length-map walk (point_of (decode room w x)), finite-map (point_of (decode room w x)) walk)
  where
    there : all (has (decode room w x).vertices) walk ≡ true
    there = unfold decode in e

-- ---- the call

module _ (room w : List ℕ) (x : List Float) (b : ℕ) (face_marks edge_marks vertex_marks : List ℕ) where
  abbrev enough : Bool
  enough = reach room 3 face_marks && reach room 6 edge_marks && reach room 7 vertex_marks

  pub box-refused : (n : ℕ) → n ≡ refused_by (readable room w x) enough (require_polyhedral (decode room w x) b) → (n ≡ 0 → ⊥) → Refused n ≡ box_answer room w x b face_marks edge_marks vertex_marks
  unfolding box_answer box_number box_refusal refused_by
  box-refused n e z =
      let number : n ≡ box_number room w x b face_marks edge_marks vertex_marks =
      refused-before (readable room w x) enough (require_polyhedral (decode room w x) b) n e z (vertices_refusal (decode room w x) b then walk_number (decode room w x) (vertex_walk (decode room w x) b)) in
      refused-answer Is Refused n (seen_box (box_of (map (point_of (decode room w x)) (vertex_walk (decode room w x) b)))) z
      ∙ ap (λ k. answer Is Refused k (seen_box (box_of (map (point_of (decode room w x)) (vertex_walk (decode room w x) b))))) number

  pub box-answered : (r : BoxFound) → refused_by (readable room w x) enough (require_polyhedral (decode room w x) b) ≡ 0 → r ≡ walk_box (decode room w x) (vertex_walk (decode room w x) b)
      → r ≡ box_answer room w x b face_marks edge_marks vertex_marks
  unfolding box_answer box_number box_refusal walk_box
  box-answered r e h = h ∙ ap (λ k. answer Is Refused k (seen_box (box_of (map (point_of (decode room w x)) (vertex_walk (decode room w x) b))))) (sym number)
    where
      number : (9 unless readable room w x then 8 unless enough then (require_polyhedral (decode room w x) b then vertices_refusal (decode room w x) b then walk_number (decode room w x) (vertex_walk (decode room w x) b)))
          ≡ walk_number (decode room w x) (vertex_walk (decode room w x) b)
      number = passed (readable room w x) enough (require_polyhedral (decode room w x) b) (unfold refused_by in e) (polyhedral-vertices room w x b)
        where
          passed : (t m : Bool) (p : ℕ) → (9 unless t then 8 unless m then p) ≡ 0 → (p ≡ 0 → vertices_refusal (decode room w x) b ≡ 0)
              → (9 unless t then 8 unless m then (p then vertices_refusal (decode room w x) b then walk_number (decode room w x) (vertex_walk (decode room w x) b))) ≡ walk_number (decode room w x) (vertex_walk (decode room w x) b)
          passed false m p q v = absurd (omega arith)
          passed true false p q v = absurd (omega arith)
          passed true true p q v = rw (q, v q)
