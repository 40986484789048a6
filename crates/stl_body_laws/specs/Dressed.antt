-- Surfaces and curves set: where every face of a body has a surface, its topological report is the one of before without reason 9, and nothing else changes. In any model. Assumes nothing.
use Rattle.std.specs.Prelude.{ℕ, ◌≡◌, Bool, true, false, not, ◌&&◌, ◌||◌, length}
use Rattle.std.proofs.Math.Path.{refl, sym, ap, ap₂}
use Rattle.std.proofs.Common.{◌∙◌}
use Rattle.std.proofs.Math.Bool.{cond}
use mathlib.Core.List.{List, [], ◌∷◌, ◌++◌}
use Rattle.std.proofs.Math.Option.{Option}
use Rattle.std.proofs.Math.Dec.{eqb}
use Rattle.geom_carriers.specs.declared.Carrier.{Carrier}
use Rattle.meaning.specs.Lists.{all, joined, same, is, is_some, member, rotated}
use Rattle.meaning.specs.Model.{Model, Table, Sense, positive, negative, changed, has, body, region, shell, face, loop, fin, edge}
use Rattle.meaning.specs.Walks.{Ends, directed, ends_of, edge_vertices, readable_fin, face_walk, faces_refusal, edge_walk, edges_refusal}
use Rattle.meaning.specs.Inquire.{is_solid}
use Rattle.meaning.specs.Faults.{Finding, fault_on, fault, only_if, fin_findings, meets_next, open_at, opens, loop_findings, checked_from, face_findings, shell_findings, region_findings, layout, same_sense, manifold, manifold_edge, manifold_edges, findings}
use Rattle.meaning_list_laws.specs.Lists.{fold-in, joined-none, joined-cons, joined_same}
use Rattle.stl_body.specs.Sound.{topology}
use Rattle.stl_body_laws.specs.Terms.{on_curve, dressed, surfaced, is_nine, without_nine}

-- ---- lists without reason 9

pub nine-append : (k l : List Finding) → without_nine (k ++ l) ≡ without_nine k ++ without_nine l
unfolding without_nine
nine-append [] l = refl
nine-append (f ∷ k) l = by (is_nine f) (nine-append k l)
  where
    by : (b : Bool) → without_nine (k ++ l) ≡ without_nine k ++ without_nine l → cond b (without_nine (k ++ l)) (f ∷ without_nine (k ++ l)) ≡ cond b (without_nine k) (f ∷ without_nine k) ++ without_nine l
    by true h = h
    by false h = ap (λ r. f ∷ r) h

nine-joined : (f : ℕ → List Finding) (l : List ℕ) → without_nine (joined f l) ≡ joined (λ y. without_nine (f y)) l
unfolding joined
nine-joined f [] = unfold without_nine in refl
nine-joined f (y ∷ l) = nine-append (f y) (joined f l) ∙ ap (λ r. without_nine (f y) ++ r) (nine-joined f l)

-- a list that has none
pub record Free (l : List Finding) : Type 0 where
  pub none : without_nine l ≡ l

free-nothing : Free []
free-nothing = record { none = unfold without_nine in refl }

free-append : (k l : List Finding) → Free k → Free l → Free (k ++ l)
free-append k l a b = record { none = nine-append k l ∙ ap₂ ◌++◌ a.none b.none }

pub free-joined : (f : ℕ → List Finding) (l : List ℕ) → ((y : ℕ) → Free (f y)) → Free (joined f l)
free-joined f l h = record { none = nine-joined f l ∙ fold-in joined ◌++◌ [] joined-none joined-cons (λ y. without_nine (f y)) f l (λ y q. (h y).none) }

pub free-cond : (b : Bool) (k l : List Finding) → Free k → Free l → Free (cond b k l)
free-cond true k l a b = a
free-cond false k l a b = b

pub free_one : (n i : ℕ) → eqb n 9 ≡ false → Free (fault n i ∷ [])
free_one n i h = record { none = unfold without_nine fault_on in rw h }

pub free-if : (b : Bool) (n i : ℕ) → eqb n 9 ≡ false → Free (only_if b (fault n i))
free-if true n i h = free_one n i h
free-if false n i h = free-nothing

nine-if : (b : Bool) (i : ℕ) → without_nine (only_if b (fault 9 i)) ≡ []
unfolding without_nine fault_on
nine-if true i = refl
nine-if false i = refl

-- ---- what is found of a loop, of a body's layout and of an edge is never reason 9

fin-free : (m : Model) (l i : ℕ) → Free (fin_findings m l i)
unfolding fin_findings
fin-free m l i =
    let e = (fin m i).edge in
    free-cond (has m.fins i) _ _
    (free-append _ _ (free-if (not (eqb (fin m i).owner l)) 14 i refl)
    (free-cond (has m.edges e) _ _
    (free-append _ _ (free-if (not (member i (edge m e).fins)) 16 e refl) (free-joined _ (edge_vertices (edge m e)) (λ v. free-if (not (has m.vertices v)) 17 e refl)))
    (free_one 15 i refl)))
    (free_one 13 l refl)

opens-free : (m : Model) (k l : List ℕ) → Free (opens m k l)
unfolding opens
opens-free m [] l = free-nothing
opens-free m (i ∷ k) [] = free-nothing
opens-free m (i ∷ k) (j ∷ l) = free-append (open_at m i j) (opens m k l) (free-if (readable_fin m i && readable_fin m j && not (meets_next m i j)) 18 i refl) (opens-free m k l)

loop-free : (m : Model) (f l : ℕ) → Free (loop_findings m topology f l)
unfolding loop_findings
loop-free m f l =
    let fins = (loop m l).fins in
    free-cond (has m.loops l) _ _
    (free-append _ _ (free-if (not (eqb (loop m l).face f)) 11 l refl)
    (free-cond (eqb (length fins) 0) _ _ (free_one 12 l refl)
    (free-append _ _ (free-append _ _ (free-joined (fin_findings m l) fins (fin-free m l)) (opens-free m fins (rotated fins))) free-nothing)))
    (free_one 10 f refl)

layout-free : (m : Model) (b : ℕ) (l : List ℕ) → Free (layout m b l)
layout-free m b [] = free_one 1 b refl
layout-free m b (r ∷ l) = free-if (has m.regions r && (region m r).solid) 2 b refl

manifold-free : (m : Model) (e : ℕ) (l : List ℕ) → Free (manifold m e l)
unfolding manifold
manifold-free m e [] = free_one 19 e refl
manifold-free m e (i ∷ []) = free_one 19 e refl
manifold-free m e (i ∷ j ∷ []) = free-if (has m.fins i && has m.fins j && same_sense (fin m i).sense (fin m j).sense) 20 e refl
manifold-free m e (i ∷ j ∷ k ∷ l) = free_one 19 e refl

edges-free : (m : Model) (b : ℕ) → Free (manifold_edges m b)
unfolding manifold_edges manifold_edge
edges-free m b = free-cond (is_solid (body m b).kind && eqb (edges_refusal m b) 0) (joined (manifold_edge m) (edge_walk m b)) [] (free-joined (manifold_edge m) (edge_walk m b) (λ e. free-cond (has m.edges e) _ [] (manifold-free m e (edge m e).fins) free-nothing)) free-nothing

-- ---- what is the same

module _ (m : Model) (curves surfaces : Table Carrier) (along on : ℕ → Option ℕ) where
  abbrev after : Model
  after = dressed m curves surfaces along on

  pub same_ends : (i : ℕ) → ends_of after i ≡ ends_of m i
  unfolding dressed changed
  same_ends i = by (fin m i).sense
    where
      by : (s : Sense) → directed s (on_curve (along (fin m i).edge) (edge m (fin m i).edge)) ≡ directed s (edge m (fin m i).edge)
      by positive = refl
      by negative = refl

  same-open : (i j : ℕ) → open_at after i j ≡ open_at m i j
  same-open i j = ap₂ (λ (d e : Ends). only_if (readable_fin after i && readable_fin after j && not (same d.end e.start)) (fault 18 i)) (same_ends i) (same_ends j) ∙ (unfold dressed changed in refl)

  same-opens : (k l : List ℕ) → opens after k l ≡ opens m k l
  unfolding opens
  same-opens [] l = refl
  same-opens (i ∷ k) [] = refl
  same-opens (i ∷ k) (j ∷ l) = ap₂ ◌++◌ (same-open i j) (same-opens k l)

  same-fin : (l i : ℕ) → fin_findings after l i ≡ fin_findings m l i
  unfolding fin_findings dressed changed
  same-fin l i = refl

  same-loop : (f l : ℕ) → loop_findings after topology f l ≡ loop_findings m topology f l
  unfolding loop_findings dressed
  same-loop f l =
      ap₂ (λ a b. cond (has m.loops l) (only_if (not (eqb (loop m l).face f)) (fault 11 l) ++ cond (eqb (length (loop m l).fins) 0) (fault 12 l ∷ []) (a ++ b ++ [])) (fault 10 f ∷ []))
      (fold-in joined ◌++◌ [] joined-none joined-cons (fin_findings after l) (fin_findings m l) (loop m l).fins (λ i q. same-fin l i))
      (same-opens (loop m l).fins (rotated (loop m l).fins))

  same-manifold : (e : ℕ) (l : List ℕ) → manifold after e l ≡ manifold m e l
  unfolding manifold dressed changed
  same-manifold e [] = refl
  same-manifold e (i ∷ []) = refl
  same-manifold e (i ∷ j ∷ []) = refl
  same-manifold e (i ∷ j ∷ k ∷ l) = refl

  same-edge : (e : ℕ) → manifold_edge after e ≡ manifold_edge m e
  unfolding manifold_edge dressed changed
  same-edge e = ap (λ l. cond (has m.edges e) l []) (same-manifold e (edge m e).fins)

  pub same-faces : (b : ℕ) → face_walk after b ≡ face_walk m b
  unfolding face_walk dressed changed
  same-faces b = refl

  pub same-walk : (b : ℕ) → edge_walk after b ≡ edge_walk m b
  unfolding edge_walk face_walk dressed changed
  same-walk b = refl

  pub same-faces-refusal : (b : ℕ) → faces_refusal after b ≡ faces_refusal m b
  unfolding faces_refusal dressed changed
  same-faces-refusal b = refl

  pub same-refusal : (b : ℕ) → edges_refusal after b ≡ edges_refusal m b
  unfolding edges_refusal faces_refusal face_walk dressed changed
  same-refusal b = refl

  same_edges : (b : ℕ) → manifold_edges after b ≡ manifold_edges m b
  unfolding manifold_edges
  same_edges b =
      ap₂ (λ k l. cond (is_solid (body after b).kind && eqb k 0) l []) (same-refusal b)
      (ap (joined (manifold_edge after)) (same-walk b) ∙ fold-in joined ◌++◌ [] joined-none joined-cons (manifold_edge after) (manifold_edge m) (edge_walk m b) (λ e q. same-edge e))
      ∙ (unfold dressed in refl)

  same_layout : (b : ℕ) (l : List ℕ) → layout after b l ≡ layout m b l
  unfolding dressed
  same_layout b [] = refl
  same_layout b (r ∷ l) = refl

  -- ---- from the inside out

  -- what stands in front is free, and what follows is without reason 9
  within : (b : Bool) (k l r e : List Finding) → Free k → Free e → r ≡ without_nine l → cond b (k ++ r) e ≡ without_nine (cond b (k ++ l) e)
  within true k l r e f g h = ap₂ ◌++◌ (sym f.none) h ∙ sym (nine-append k l)
  within false k l r e f g h = sym g.none

  set-face : (s f : ℕ) → is_some (on f) ≡ true → face_findings after topology s f ≡ without_nine (face_findings m topology s f)
  unfolding face_findings dressed changed
  set-face s f h =
      rw h
      (within (has m.faces f) (only_if (not (is (face m f).front s || is (face m f).back s)) (fault 8 f)) _ _ (fault 7 s ∷ []) (free-if (not (is (face m f).front s || is (face m f).back s)) 8 f refl) (free_one 7 s refl)
      (checked (checked_from (face m f).front s)))
    where
      loops : joined (loop_findings after topology f) (face m f).loops ≡ without_nine (joined (loop_findings m topology f) (face m f).loops)
      loops =
          fold-in joined ◌++◌ [] joined-none joined-cons (loop_findings after topology f) (loop_findings m topology f) (face m f).loops (λ l q. same-loop f l)
          ∙ sym (free-joined (loop_findings m topology f) (face m f).loops (loop-free m f)).none

      checked : (b : Bool) → cond b ([] ++ joined (loop_findings after topology f) (face m f).loops) []
          ≡ without_nine (cond b (only_if (not (is_some (face m f).surface)) (fault 9 f) ++ joined (loop_findings m topology f) (face m f).loops) [])
      checked true = loops ∙ ap (λ k. k ++ without_nine (joined (loop_findings m topology f) (face m f).loops)) (sym (nine-if (not (is_some (face m f).surface)) f)) ∙ sym (nine-append (only_if (not (is_some (face m f).surface)) (fault 9 f)) (joined (loop_findings m topology f) (face m f).loops))
      checked false = sym free-nothing.none

  set-shell : (r s : ℕ) → all (λ f. is_some (on f)) (shell m s).faces ≡ true → shell_findings after topology r s ≡ without_nine (shell_findings m topology r s)
  unfolding shell_findings dressed
  set-shell r s h =
      within (has m.shells s) (only_if (not (eqb (shell m s).region r)) (fault 6 s)) (joined (face_findings m topology s) (shell m s).faces) (joined (face_findings after topology s) (shell m s).faces) (fault 5 r ∷ [])
      (free-if (not (eqb (shell m s).region r)) 6 s refl) (free_one 5 r refl)
      (joined_same (face_findings after topology s) (λ f. without_nine (face_findings m topology s f)) (λ f. is_some (on f)) (shell m s).faces (set-face s) h ∙ sym (nine-joined (face_findings m topology s) (shell m s).faces))

  set-region : (b r : ℕ) → all (λ s. all (λ f. is_some (on f)) (shell m s).faces) (region m r).shells ≡ true → region_findings after topology b r ≡ without_nine (region_findings m topology b r)
  unfolding region_findings dressed
  set-region b r h =
      within (has m.regions r) (only_if (not (eqb (region m r).body b)) (fault 4 r)) (joined (shell_findings m topology r) (region m r).shells) (joined (shell_findings after topology r) (region m r).shells) (fault 3 b ∷ [])
      (free-if (not (eqb (region m r).body b)) 4 r refl) (free_one 3 b refl)
      (joined_same (shell_findings after topology r) (λ s. without_nine (shell_findings m topology r s)) (λ s. all (λ f. is_some (on f)) (shell m s).faces) (region m r).shells (set-shell r) h
      ∙ sym (nine-joined (shell_findings m topology r) (region m r).shells))

  -- all that setting the surfaces of a body's faces changes in its topological report
  pub set-report : (b : ℕ) → surfaced after b ≡ true → findings after topology b ≡ without_nine (findings m topology b)
  unfolding findings surfaced dressed changed
  set-report b h =
      ap₂ ◌++◌
      (ap₂ ◌++◌ (same_layout b (body m b).regions ∙ sym (layout-free m b (body m b).regions).none)
      (joined_same (region_findings after topology b) (λ r. without_nine (region_findings m topology b r)) (λ r. all (λ s. all (λ f. is_some (on f)) (shell m s).faces) (region m r).shells) (body m b).regions (set-region b) h
      ∙ sym (nine-joined (region_findings m topology b) (body m b).regions))
      ∙ sym (nine-append (layout m b (body m b).regions) (joined (region_findings m topology b) (body m b).regions)))
      (same_edges b ∙ sym (edges-free m b).none)
      ∙ sym (nine-append (layout m b (body m b).regions ++ joined (region_findings m topology b) (body m b).regions) (manifold_edges m b))
