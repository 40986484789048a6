-- Where a body's walks are not refused, all that its volume follows exists. Assumes nothing.
use Prim.Native.Nat.{ℕ}
use Rattle.std.specs.Prelude.{◌≡◌, refl, Bool, true, ◌&&◌, Float}
use Rattle.std.proofs.Math.Path.{sym}
use Rattle.std.proofs.Common.{ap, ◌∙◌}
use mathlib.Core.List.{List, [], ◌∷◌, ◌++◌, map}
use Rattle.std.proofs.Math.Dec.{ltb}
use Rattle.meaning.specs.Lists.{all, joined, firsts}
use Rattle.meaning.specs.Model.{shell}
use Rattle.meaning.specs.Walks.{shells_of, face_walk, face_edges, edge_walk}
use Rattle.meaning_list_laws.specs.Tests.{and_both}
use Rattle.meaning_list_laws.specs.Lists.{all_both, all-imply}
use Rattle.memory_layout.specs.Layout.{word}
use Rattle.memory_layout.specs.Decode.{decode}
use Rattle.memory_layout.specs.Entries.{list_of}
use Rattle.memory_layout.specs.Fit.{Lists}
use Rattle.walk_sources.specs.Sources.{fin_edge, followed}
use Rattle.walk_paths.specs.Paths.{face_list, loop_list, Edged}
use Rattle.walk_paths.specs.Laws.{faces-exist, edges-exist}
use Rattle.walk_answers.specs.Laws.{face-list, edge-list, all-firsts-same}
use Rattle.inquire_fin_starts.specs.Starts.{fin_whole}
use Rattle.inquire_sides.specs.Sides.{loop_whole, face_whole}
use Rattle.inquire_regions.specs.Regions.{faces_whole, region_whole}

-- ---- tests of lists of lists

all-of-joined : (p : ℕ → Bool) (g : ℕ → List ℕ) (l : List ℕ) → all p (joined g l) ≡ all (λ y. all p (g y)) l
unfolding all joined
all-of-joined p g [] = refl
all-of-joined p g (y ∷ l) = all_both p (g y) (joined g l) ∙ ap (λ t. all p (g y) && t) (all-of-joined p g l)

all_of_map : (p : ℕ → Bool) (e : ℕ → ℕ) (l : List ℕ) → all p (map e l) ≡ all (λ y. p (e y)) l
unfolding all
all_of_map p e [] = refl
all_of_map p e (y ∷ l) = ap (λ t. p (e y) && t) (all_of_map p e l)

all-with : (p q r : ℕ → Bool) (l : List ℕ) → ((y : ℕ) → p y ≡ true → q y ≡ true → r y ≡ true) → all p l ≡ true → all q l ≡ true → all r l ≡ true
unfolding all
all-with p q r [] h a b = refl
all-with p q r (y ∷ l) h a b =
    let c = and_both (p y) (all p l) a in
    let d = and_both (q y) (all q l) b in
    rw (h y c.0 d.0) (all-with p q r l h c.1 d.1)

-- ---- fins, loops, faces

module _ (room w : List ℕ) where
  abbrev named : ℕ → Bool
  named i = ltb (fin_edge room w i) (word w 6)

  loop-whole : (l : ℕ) → followed room w 6 l ≡ true → all named (list_of room w 6 l) ≡ true → loop_whole room w l ≡ true
  unfolding followed loop_whole
  loop-whole l a b =
      let c = and_both (ltb l (word w 4)) (all (λ x. ltb x (word w 5)) (list_of room w 6 l)) a in
      rw c.0 (all-with (λ x. ltb x (word w 5)) named (fin_whole room w) (list_of room w 6 l) (λ y p q. unfold fin_whole in rw (p, q)) c.1 b)

  face-whole : (f : ℕ) → ltb f (word w 3) ≡ true → all (followed room w 6) (list_of room w 5 f) ≡ true → all (λ l. all named (list_of room w 6 l)) (list_of room w 5 f) ≡ true → face_whole room w f ≡ true
  unfolding face_whole
  face-whole f a b c = rw a (all-with (followed room w 6) (λ l. all named (list_of room w 6 l)) (loop_whole room w) (list_of room w 5 f) loop-whole b c)

  edges-named : (f : ℕ) → all (λ e. ltb e (word w 6)) (map (fin_edge room w) (joined (list_of room w 6) (list_of room w 5 f))) ≡ all (λ l. all named (list_of room w 6 l)) (list_of room w 5 f)
  edges-named f = all_of_map (λ e. ltb e (word w 6)) (fin_edge room w) (joined (list_of room w 6) (list_of room w 5 f)) ∙ all-of-joined named (list_of room w 6) (list_of room w 5 f)

-- ---- the body's

module _ (room w : List ℕ) (x : List Float) (b : ℕ) (lists : Lists room w) (d : Edged room w b) where
  abbrev walk : List ℕ
  walk = face_walk (decode room w x) b

  faces-there : all (λ f. ltb f (word w 3)) walk ≡ true
  faces-there = ap (all (λ f. ltb f (word w 3))) (face-list room w x b) ∙ faces-exist room w b lists d.looped.faced

  loops-there : all (λ f. all (followed room w 6) (list_of room w 5 f)) walk ≡ true
  loops-there =
      ap (all (λ f. all (followed room w 6) (list_of room w 5 f))) (face-list room w x b)
      ∙ sym (all-of-joined (followed room w 6) (list_of room w 5) (face_list room w b))
      ∙ (unfold loop_list in d.looped.loops)

  edges-there : all (λ f. all (λ l. all (named room w) (list_of room w 6 l)) (list_of room w 5 f)) walk ≡ true
  edges-there =
      all-imply (λ f. all (λ l. all (named room w) (list_of room w 6 l)) (list_of room w 5 f)) (λ f. all (λ e. ltb e (word w 6)) (face_edges (decode room w x) f)) walk
      (λ f e. sym (edges-named room w f) ∙ (unfold decode list_of in e))
      (sym (all-of-joined (λ e. ltb e (word w 6)) (face_edges (decode room w x)) walk) ∙ (and_both (all (λ e. ltb e (word w 6)) (joined (face_edges (decode room w x)) walk)) _ (sym (all_both (λ e. ltb e (word w 6)) (joined (face_edges (decode room w x)) walk) wires) ∙ named-all)).0)
    where
      wires : List ℕ
      wires = joined (λ s. (shell (decode room w x) s).wire_edges) (shells_of (decode room w x) b)

      once : all (λ e. ltb e (word w 6)) (edge_walk (decode room w x) b) ≡ true
      once = ap (all (λ e. ltb e (word w 6))) (edge-list room w x b) ∙ edges-exist room w b lists d

      firsts-named : all (λ e. ltb e (word w 6)) (firsts (joined (face_edges (decode room w x)) walk ++ wires)) ≡ true
      firsts-named = unfold edge_walk in once

      named-all : all (λ e. ltb e (word w 6)) (joined (face_edges (decode room w x)) walk ++ wires) ≡ true
      named-all = sym (all-firsts-same (λ e. ltb e (word w 6)) (joined (face_edges (decode room w x)) walk ++ wires)) ∙ firsts-named

  pub walk-whole : all (face_whole room w) walk ≡ true
  walk-whole =
      all-with (λ f. ltb f (word w 3)) (λ f. all (followed room w 6) (list_of room w 5 f) && all (λ l. all (named room w) (list_of room w 6 l)) (list_of room w 5 f)) (face_whole room w) walk
      (λ f p q. let both = and_both (all (followed room w 6) (list_of room w 5 f)) _ q in face-whole room w f p both.0 both.1)
      faces-there
      (all-with (λ f. all (followed room w 6) (list_of room w 5 f)) (λ f. all (λ l. all (named room w) (list_of room w 6 l)) (list_of room w 5 f))
      (λ f. all (followed room w 6) (list_of room w 5 f) && all (λ l. all (named room w) (list_of room w 6 l)) (list_of room w 5 f)) walk (λ f p q. rw (p, q)) loops-there edges-there)

  abbrev shells : List ℕ
  shells = joined (list_of room w 1) (list_of room w 0 b)

  listed-whole : all (face_whole room w) (joined (list_of room w 2) shells) ≡ true
  listed-whole = sym (all-firsts-same (face_whole room w) (joined (list_of room w 2) shells)) ∙ once
    where
      once : all (face_whole room w) (firsts (joined (list_of room w 2) shells)) ≡ true
      once = unfold face_walk decode list_of in walk-whole

  shells-whole : all (λ r. all (faces_whole room w) (list_of room w 1 r)) (list_of room w 0 b) ≡ true
  unfolding faces_whole
  shells-whole =
      sym (all-of-joined (λ s. all (face_whole room w) (list_of room w 2 s)) (list_of room w 1) (list_of room w 0 b))
      ∙ sym (all-of-joined (face_whole room w) (list_of room w 2) shells)
      ∙ listed-whole

  pub regions-whole : all (region_whole room w) (list_of room w 0 b) ≡ true
  regions-whole =
      all-with (followed room w 1) (λ r. all (faces_whole room w) (list_of room w 1 r)) (region_whole room w) (list_of room w 0 b)
      (λ r p q. unfold region_whole in rw (p, q)) d.looped.faced.shelled.regions shells-whole
