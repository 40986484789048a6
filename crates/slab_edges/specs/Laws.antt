-- Edges and vertices by their rules, off the lent words, are those of the model. Assumes nothing.
use Rattle.std.specs.Prelude.{ℕ, suc, ◌+◌, ◌<◌, ◌≤◌, ◌≡◌, Bool, cond, ◌&&◌, List, eqb, Float, length, get_or, take}
use Rattle.std.proofs.Common.{add-one, sym, ◌∙◌, subst}
use Rattle.std.proofs.Math.Path.{refl, ap}
use Rattle.std.proofs.Math.Bool.{true, false, not}
use Rattle.std.proofs.Math.Option.{none, some}
use Rattle.std.proofs.Math.Dec.{ltb}
use borrow.Author.Tests.{ltb-true, eq-eqb, ne_eqb, lt-ltb, le-ltb}
use Rattle.float_vectors.specs.declared.vector.Point3.{Point3}
use Rattle.geom_lines_planes.specs.Refuse.{◌unless◌, ◌then◌}
use Rattle.meaning.specs.Lists.{joined, the, is_some}
use Rattle.meaning.specs.Model.{Model, point_of}
use Rattle.meaning.specs.Refuse.{first_of}
use Rattle.meaning_list_laws.specs.Tests.{and_both, the-given, first_of-append}
use Rattle.meaning_slabs.specs.Slabs.{standing, differing, along_axis, grid_vertex}
use Rattle.memory_layout.specs.Layout.{word, words_of}
use Rattle.memory_layout.specs.Decode.{maybe_at, decode}
use Rattle.walk_marks.specs.Laws.{joined-turn}
use Rattle.slab_edges.specs.Tested.{stands_at, id_tested}

-- ---- an edge

module _ (room w : List ℕ) (x : List Float) (e : ℕ) where
  abbrev m : Model
  m = decode room w x

  abbrev own : List ℕ
  own = words_of room w 6 e

  stands-is : (at : ℕ) → stands_at own at (word w 7) ≡ standing m (maybe_at own at)
  unfolding stands_at decode
  stands-is at = ap (λ k. not (eqb (word own at) 0) && ltb (word own k) (word w 7)) (add-one at) ∙ by (eqb (word own at) 0) (word own (suc at))
    where
      by : (b : Bool) (i : ℕ) → (not b && ltb i (word w 7)) ≡ (is_some (cond b none (some i)) && ltb (the (cond b none (some i))) (word w 7))
      by true i = refl
      by false i = refl

  along-words : along_axis m e ≡ (stands_at own 0 (word w 7) && stands_at own 2 (word w 7) && eqb (differing (point_of m (the (maybe_at own 0))) (point_of m (the (maybe_at own 2)))) 1)
  unfolding along_axis
  along-words = rw (stands-is 0, stands-is 2) (unfold decode in refl)

  -- what the code read: the edge's words v, and whether its two ends stand
  module _ (v : List ℕ) (a b : Bool) (same : v ≡ own) (start : a ≡ stands_at v 0 (word w 7)) (end : b ≡ stands_at v 2 (word w 7)) where
    tests : (a && b) ≡ (stands_at own 0 (word w 7) && stands_at own 2 (word w 7))
    tests = rw (start, end, same)

    pub ends-missing : (a && b) ≡ false → false ≡ along_axis m e
    ends-missing h = sym (along-words ∙ ap (λ t. t && eqb (differing (point_of m (the (maybe_at own 0))) (point_of m (the (maybe_at own 2)))) 1) (sym tests ∙ h))

    module _ (h : (a && b) ≡ true) where
      both : (stands_at own 0 (word w 7) ≡ true) × (stands_at own 2 (word w 7) ≡ true)
      both = and_both (stands_at own 0 (word w 7)) (stands_at own 2 (word w 7)) (sym tests ∙ h)

      -- an end that stands is its vertex
      there : (at : ℕ) → stands_at own at (word w 7) ≡ true → word own (at + 1) < word w 7
      unfolding stands_at
      there at t = ltb-true (word own (at + 1)) (word w 7) (and_both (not (eqb (word own at) 0)) _ t).1

      named : (at : ℕ) → stands_at own at (word w 7) ≡ true → word own (at + 1) ≡ the (maybe_at own at)
      unfolding stands_at
      named at t = ap (word own) (add-one at) ∙ the-given (eqb (word own at) 0) (word own (suc at)) (and_both (not (eqb (word own at) 0)) _ t).0

      pub start-there : word v 1 < word w 7
      start-there = subst (λ (l : List ℕ). word l 1 < word w 7) (sym same) (there 0 both.0)

      pub end-there : word v 3 < word w 7
      end-there = subst (λ (l : List ℕ). word l 3 < word w 7) (sym same) (there 2 both.1)

      pub ends-compared : (p q : Point3) (d : ℕ) → p ≡ point_of m (word v 1) → q ≡ point_of m (word v 3) → d ≡ differing p q → eqb d 1 ≡ along_axis m e
      ends-compared p q d ep eq ed =
          let first = ep ∙ ap (λ (l : List ℕ). point_of m (word l 1)) same ∙ ap (point_of m) (named 0 both.0) in
          let last = eq ∙ ap (λ (l : List ℕ). point_of m (word l 3)) same ∙ ap (point_of m) (named 2 both.1) in
          ap (λ k. eqb k 1) (ed ∙ ap (λ t. differing t q) first ∙ ap (differing (point_of m (the (maybe_at own 0)))) last)
          ∙ sym (along-words ∙ ap (λ t. t && eqb (differing (point_of m (the (maybe_at own 0))) (point_of m (the (maybe_at own 2)))) 1) (sym tests ∙ h))

-- ---- one id

module _ (m : Model) (rule i : ℕ) where
  pub grid-tested : rule ≡ 5 → (suc i unless grid_vertex m i) ≡ id_tested m rule i
  unfolding id_tested
  grid-tested e = rw (eq-eqb rule 5 e)

  pub edge-lacks : (rule ≡ 5 → ⊥) → m.edges.used ≤ i → 0 ≡ id_tested m rule i
  unfolding id_tested
  edge-lacks e h = rw (ne_eqb rule 5 e, le-ltb i m.edges.used h)

  pub edge-tested : (rule ≡ 5 → ⊥) → i < m.edges.used → (suc i unless along_axis m i) ≡ id_tested m rule i
  unfolding id_tested
  edge-tested e h = rw (ne_eqb rule 5 e, lt-ltb i m.edges.used h)

-- ---- one source more

pub first-source : (f : ℕ → ℕ) (g : ℕ → List ℕ) (path : List ℕ) (q n t r : ℕ) (l : List ℕ) → q < length path → n ≡ first_of f (joined g (take q path)) → t ≡ first_of f l → l ≡ g (get_or path q 0)
    → r ≡ (n then t) → r ≡ first_of f (joined g (take (q + 1) path))
first-source f g path q n t r l h e s same next =
    next
    ∙ ap (λ k. k then t) e
    ∙ ap (λ k. first_of f (joined g (take q path)) then k) (s ∙ ap (first_of f) same)
    ∙ sym (ap (first_of f) (joined-turn g path q h) ∙ first_of-append f (joined g (take q path)) (g (get_or path q 0)))
