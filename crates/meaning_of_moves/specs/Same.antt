-- A body is movable in a model with the same records in use as one in which it is: so in the memory that holds such a model. Assumes nothing.
use Rattle.std.specs.Prelude.{ℕ, suc, ◌<◌, ◌≡◌, refl, Bool, true, not, cond, ◌&&◌, List, eqb, leb, ltb, length, get_or}
use Rattle.std.proofs.Common.{ap, ap₂, ◌∙◌, ltb-true, lt-ltb}
use Rattle.std.proofs.Math.Option.{Option, none, some}
use Rattle.meaning.specs.Lists.{all, member, count_if, is_some}
use Rattle.meaning.specs.Model.{Model, Limits, Body, Region, Shell, Face, Loop, Fin, Edge, has, body, region, shell, face, loop, fin, edge}
use Rattle.meaning.specs.Walks.{face_walk, edge_walk}
use Rattle.meaning.specs.Inquire.{is_solid, rim}
use Rattle.meaning.specs.Formed.{below_maybe, empty_report}
use Rattle.meaning_list_laws.specs.Lists.{all-member, fold-in}
use Rattle.meaning_split_laws.specs.Terms.{SameWalks}
use Rattle.meaning_split_laws.specs.Walked.{faces-there, edges-there}
use Rattle.meaning_shift.specs.Moving.{one_of, outside, one_loop_each, backs_within, fronts_outside, fins_own, ends_there, Movable}
use Rattle.meaning_shift.specs.Fins.{region-below, loop-below}
use Rattle.meaning_shift.specs.Splits.{all_in}
use Rattle.memory_writes.specs.Change.{SameModel}
use Rattle.split_sequences.specs.Same.{same_in, same-formed}
use Rattle.split_sequences.specs.Walked.{report-same, walks_same}

-- two tests that agree on a list count the same entries of it
count_same : (p q : ℕ → Bool) (l : List ℕ) → ((i : ℕ) → member i l ≡ true → p i ≡ q i) → count_if p l ≡ count_if q l
count_same = fold-in count_if (λ c n. cond c (suc n) n) 0 (λ p. unfold count_if in refl) (λ p i l. unfold count_if in refl)

module _ (y : Limits) (m n : Model) (s : SameModel m n) (b r : ℕ) (k : Movable y n b r) where
  walks : SameWalks n m b
  walks = walks_same m n s b y k.formed k.there

  body_same : body m b ≡ body n b
  body_same = same_in s.bodies (λ (a : Body). a) b (lt-ltb b n.bodies.used k.there)

  region-same : (q : ℕ) → q < n.regions.used → region m q ≡ region n q
  region-same q h = same_in s.regions (λ (a : Region). a) q (lt-ltb q n.regions.used h)

  loop-same : (l : ℕ) → l < n.loops.used → loop m l ≡ loop n l
  loop-same l h = same_in s.loops (λ (a : Loop). a) l (lt-ltb l n.loops.used h)

  -- ---- a face of the body

  face-there : (f : ℕ) → member f (face_walk n b) ≡ true → ltb f n.faces.used ≡ true
  face-there f q = all-member (λ f. ltb f n.faces.used) (face_walk n b) f (faces-there y n k.formed b k.there) q

  face-same : (f : ℕ) → member f (face_walk n b) ≡ true → face m f ≡ face n f
  face-same f q = same_in s.faces (λ (a : Face). a) f (face-there f q)

  -- what holds of each
  each-face : (P Q : ℕ → Bool) → ((f : ℕ) → member f (face_walk n b) ≡ true → P f ≡ Q f) → all Q (face_walk n b) ≡ true → all P (face_walk m b) ≡ true
  each-face P Q e h = ap (all P) walks.faces ∙ all_in P (face_walk n b) (λ f q. e f q ∙ all-member Q (face_walk n b) f h q)

  loops-too : one_loop_each m b ≡ true
  loops-too =
      each-face (λ f. eqb (length (face m f).loops) 1 && leb 3 (length (rim m f))) (λ f. eqb (length (face n f).loops) 1 && leb 3 (length (rim n f)))
      (λ f q. ap (λ (a : Face). eqb (length a.loops) 1 && leb 3 (length (loop m (get_or a.loops 0 0)).fins)) (face-same f q)
      ∙ ap (λ (a : Loop). eqb (length (face n f).loops) 1 && leb 3 (length a.fins)) (loop-same (get_or (face n f).loops 0 0) (loop-below y n b r k f q))) k.loops

  backs-too : backs_within m b r ≡ true
  backs-too =
      each-face (λ f. one_of (face m f).back (region m r).shells) (λ f. one_of (face n f).back (region n r).shells)
      (λ f q. ap₂ (λ (a : Face) (c : Region). one_of a.back c.shells) (face-same f q) (region-same r (region-below y n b r k r k.own))) k.backs

  outside-same : (o : Option ℕ) → below_maybe n.shells.used o ≡ true → outside m o ≡ outside n o
  outside-same none h = refl
  outside-same (some u) h =
      ap (λ (a : Shell). outside_of m a) (same_in s.shells (λ (a : Shell). a) u h)
      ∙ ap (λ (a : Region). not a.solid) (region-same (shell n u).region (k.formed.ids.shell-region u (ltb-true u n.shells.used h)))
    where
      outside_of : Model → Shell → Bool
      outside_of a u = not (region a u.region).solid

  fronts-too : fronts_outside m b ≡ true
  fronts-too =
      each-face (λ f. outside m (face m f).front) (λ f. outside n (face n f).front)
      (λ f q. ap (λ (a : Face). outside m a.front) (face-same f q) ∙ outside-same (face n f).front (k.formed.ids.face-front f (ltb-true f n.faces.used (face-there f q)))) k.fronts

  -- ---- an edge of the body

  edge-there : (e : ℕ) → member e (edge_walk n b) ≡ true → ltb e n.edges.used ≡ true
  edge-there e q = all-member (λ e. ltb e n.edges.used) (edge_walk n b) e (edges-there y n k.formed b k.there) q

  edge_same : (e : ℕ) → member e (edge_walk n b) ≡ true → edge m e ≡ edge n e
  edge_same e q = same_in s.edges (λ (a : Edge). a) e (edge-there e q)

  each-edge : (P Q : ℕ → Bool) → ((e : ℕ) → member e (edge_walk n b) ≡ true → P e ≡ Q e) → all Q (edge_walk n b) ≡ true → all P (edge_walk m b) ≡ true
  each-edge P Q e h = ap (all P) walks.edges ∙ all_in P (edge_walk n b) (λ i q. e i q ∙ all-member Q (edge_walk n b) i h q)

  abbrev own_fin : Model → ℕ → Bool
  own_fin a i = member (loop a (fin a i).owner).face (face_walk a b)

  fin-owned : (i : ℕ) → ltb i n.fins.used ≡ true → own_fin m i ≡ own_fin n i
  fin-owned i h =
      ap₂ (λ (a : Fin) (l : List ℕ). member (loop m a.owner).face l) (same_in s.fins (λ (a : Fin). a) i h) walks.faces
      ∙ ap (λ (a : Loop). member a.face (face_walk n b)) (loop-same (fin n i).owner (k.formed.ids.fin-owner i (ltb-true i n.fins.used h)))

  fins-too : fins_own m b ≡ true
  fins-too =
      each-edge (λ e. all (own_fin m) (edge m e).fins) (λ e. all (own_fin n) (edge n e).fins)
      (λ e q. ap (λ (a : Edge). all (own_fin m) a.fins) (edge_same e q)
      ∙ fold-in all ◌&&◌ true (λ p. unfold all in refl) (λ p i l. unfold all in refl) (own_fin m) (own_fin n) (edge n e).fins
      (λ i g. fin-owned i (all-member (has n.fins) (edge n e).fins i (k.formed.ids.edge-fins e (ltb-true e n.edges.used (edge-there e q))) g))) k.fins

  ends-too : ends_there m b ≡ true
  ends-too =
      each-edge (λ e. is_some (edge m e).start && is_some (edge m e).end) (λ e. is_some (edge n e).start && is_some (edge n e).end)
      (λ e q. ap (λ (a : Edge). is_some a.start && is_some a.end) (edge_same e q)) k.ends

  pub same-movable : Movable y m b r
  same-movable =
      record {
        formed = same-formed y m n s k.formed;
        there = rw s.bodies.used k.there;
        solid = ap (λ (a : Body). is_solid a.kind) body_same ∙ k.solid;
        clean = ap empty_report (report-same m n s b k.there) ∙ k.clean;
        one =
            ap (λ (a : Body). count_if (λ q. (region m q).solid) a.regions) body_same
            ∙ count_same (λ q. (region m q).solid) (λ q. (region n q).solid) (body n b).regions (λ q h. ap (λ (a : Region). a.solid) (region-same q (region-below y n b r k q h)))
            ∙ k.one;
        own = ap (λ (a : Body). member r a.regions) body_same ∙ k.own;
        filled = ap (λ (a : Region). a.solid) (region-same r (region-below y n b r k r k.own)) ∙ k.filled;
        loops = loops-too;
        backs = backs-too;
        fronts = fronts-too;
        fins = fins-too;
        ends = ends-too;
      }
