-- Test 11 of an edge's fins: fin by fin, and as that of `meaning`. Assumes nothing.
use Rattle.std.specs.Prelude.{ℕ, zero, suc, ◌+◌, ◌≤◌, ◌<◌, ◌≡◌, Bool, not, cond, ◌||◌, length, get_or, take, drop, Float}
use Rattle.std.proofs.Common.{add-one, arith, ◌∙◌, take-append-drop, take-suc, drop-cons}
use Rattle.std.proofs.Math.Path.{refl, sym, ap}
use Rattle.std.proofs.Math.Bool.{true, false}
use mathlib.Core.List.{List, [], ◌∷◌, ◌++◌}
use Rattle.std.proofs.Math.Option.{none, some}
use Rattle.std.proofs.Math.Dec.{eqb, ltb}
use borrow.Author.Tests.{ltb-true, eq-eqb, ne_eqb}
use Rattle.geom_lines_planes.specs.Refuse.{◌unless◌, ◌then◌}
use Rattle.meaning.specs.Lists.{member, count, the, is_some}
use Rattle.meaning.specs.Model.{Model, surface, edge}
use Rattle.meaning.specs.Refuse.{◌if◌}
use Rattle.geom_carriers.specs.Queries.{plane_refusal, the_plane}
use Rattle.meaning.specs.Split.{lo, hi, parameter, split_point, on_plane, test11, test11-fin, test11-fins}
use Rattle.meaning_list_laws.specs.Tests.{then-zero, then-assoc, unless-zero}
use Rattle.meaning_list_laws.specs.Lists.{count-append, member-cons, member-snoc, drop-end}
use Rattle.memory_layout.specs.Layout.{word, words_of}
use Rattle.memory_layout.specs.Decode.{decode}
use Rattle.memory_layout.specs.Entries.{list_of}
use Rattle.split_segment.specs.Laws.{refuses}
use Rattle.split_fin_tests.specs.declared.faces.Cut.{Cut}
use Rattle.split_fin_tests.specs.FaceTests.{on_planes, plane_test, face_test}
use Rattle.split_fins.specs.Fins.{use_test}
use Rattle.split_fin_tests.specs.FinTests.{cut_at, once_each, fin_test}

-- ---- parts of a list

-- a part counts no more than the whole
pub count-part : (i j : ℕ) (l : List ℕ) → count i (take j l) ≤ count i l
count-part i j l = let e = count-append i (take j l) (drop j l) in let g = ap (count i) (take-append-drop j l) in omega arith

-- ---- test 11, fin by fin

once-turn : (f : ℕ → ℕ) (l : List ℕ) (k : ℕ) → k < length l
    → once_each f (take k l) (drop k l) ≡ (1 if member (get_or l k 0) (take k l) then f (get_or l k 0) then once_each f (take (k + 1) l) (drop (k + 1) l))
unfolding once_each
once-turn f l k h = rw (drop-cons l k 0, add-one, take-suc l k 0)

row : (a b c d g r : ℕ) → (a then (b then c then d then g) then r) ≡ ((a then b then c) then d then g then r)
row zero zero zero d g r = then-assoc d g r
row zero zero (suc c) d g r = refl
row zero (suc b) c d g r = refl
row (suc a) b c d g r = refl

module _ (room w : List ℕ) (x : List Float) (e : ℕ) (cut : Cut) (l : List ℕ) where
  abbrev pub from : ℕ → ℕ
  from k = once_each (fin_test room w x e cut) (take k l) (drop k l)

  abbrev pub used : ℕ → ℕ
  used k = use_test room w e (take k l) (get_or l k 0)

  abbrev pub owner : ℕ → ℕ
  owner k = word (words_of room w 5 (get_or l k 0)) 0

  abbrev pub times : ℕ → ℕ
  times k = count (get_or l k 0) (list_of room w 6 (owner k))

  abbrev pub held : ℕ → ℕ
  held k = face_test room w x cut (word (words_of room w 4 (owner k)) 0)

  fin-row : (k : ℕ) → k < length l → from k ≡ (used k then 1 unless eqb (times k) 1 then held k then from (k + 1))
  unfolding use_test fin_test
  fin-row k h =
      once-turn (fin_test room w x e cut) l k h
      ∙ row (1 if member (get_or l k 0) (take k l)) (1 unless eqb (word (words_of room w 5 (get_or l k 0)) 1) e) (2 unless ltb (owner k) (word w 4))
      (1 unless eqb (times k) 1) (held k) (from (k + 1))

  -- where the loop of the fin k is left, and where it goes on
  module _ (k : ℕ) (h : k < length l) (so_far : from 0 ≡ from k) where
    pub at-use : (n : ℕ) → n ≡ used k → (n ≡ 0 → ⊥) → n ≡ from 0
    at-use n u z = rw (so_far, fin-row k h, ← u) (refuses n _ z)

    pub owner-there : used k ≡ 0 → owner k < word w 4
    unfolding use_test
    owner-there u =
        let a = then-zero (1 if member (get_or l k 0) (take k l)) _ u in
        let b = then-zero (1 unless eqb (word (words_of room w 5 (get_or l k 0)) 1) e) (2 unless ltb (owner k) (word w 4)) a.1 in
        ltb-true (owner k) (word w 4) (unless-zero 1 (ltb (owner k) (word w 4)) b.1)

    pub at_count : used k ≡ 0 → (times k ≡ 1 → ⊥) → 1 ≡ from 0
    at_count u t = rw (so_far, fin-row k h, u, ne_eqb (times k) 1 t)

    pub at-face : (n : ℕ) → used k ≡ 0 → times k ≡ 1 → n ≡ held k → (n ≡ 0 → ⊥) → n ≡ from 0
    at-face n u t f z = rw (so_far, fin-row k h, u, eq-eqb (times k) 1 t, ← f) (refuses n _ z)

    pub next-fin : used k ≡ 0 → times k ≡ 1 → held k ≡ 0 → from 0 ≡ from (k + 1)
    next-fin u t f = so_far ∙ fin-row k h ∙ rw (u, eq-eqb (times k) 1 t, f)

  pub no-fin-left : (k : ℕ) → from 0 ≡ from k → length l ≤ k → 0 ≡ from 0
  unfolding once_each
  no-fin-left k so_far h = rw (so_far, drop-end k l h)

-- ---- test 11 is that of `meaning`

or_swap : (a b : Bool) → (a || b) ≡ (b || a)
or_swap true true = refl
or_swap true false = refl
or_swap false true = refl
or_swap false false = refl

module _ (room w : List ℕ) (x : List Float) (e : ℕ) (t : Float) where
  abbrev m : Model
  m = decode room w x

  -- an optional surface, as its tag's test and its id
  surface-test : (b : Bool) (i : ℕ)
      → (1 unless is_some (cond b none (some i))
      then plane_refusal (surface m (the (cond b none (some i))))
      then on_plane m e (the_plane (surface m (the (cond b none (some i))))) (lo m e)
      then on_plane m e (the_plane (surface m (the (cond b none (some i))))) (hi m e)
      then on_plane m e (the_plane (surface m (the (cond b none (some i))))) (parameter m e t))
      ≡ (1 unless not b then plane_test (surface m i) (cut_at m e t))
  unfolding plane_test on_planes on_plane cut_at split_point
  surface-test true i = refl
  surface-test false i = refl

  fin-test : (i : ℕ) → test11-fin m e t i ≡ fin_test room w x e (cut_at m e t) i
  unfolding test11-fin fin_test face_test list_of decode
  fin-test i =
      let l = word (words_of room w 5 i) 0 in
      let f = word (words_of room w 4 l) 0 in
      ap
      (λ (n : ℕ).
      1 unless eqb (word (words_of room w 5 i) 1) e
      then 2 unless ltb l (word w 4)
      then 1 unless eqb (count i (list_of room w 6 l)) 1
      then 2 unless ltb f (word w 3)
      then n)
      (surface-test (eqb (word (words_of room w 3 f) 4) 0) (word (words_of room w 3 f) 5))

  fin-tests : (l s r : List ℕ) → ((y : ℕ) → member y s ≡ member y r) → test11-fins m e t s l ≡ once_each (fin_test room w x e (cut_at m e t)) r l
  unfolding test11-fins once_each
  fin-tests [] s r h = refl
  fin-tests (i ∷ l) s r h =
      ap (λ (b : Bool). 1 if b then test11-fin m e t i then test11-fins m e t (i ∷ s) l) (h i)
      ∙ ap (λ (n : ℕ). 1 if member i r then n then test11-fins m e t (i ∷ s) l) (fin-test i)
      ∙ ap (λ (n : ℕ). 1 if member i r then fin_test room w x e (cut_at m e t) i then n)
      (fin-tests l (i ∷ s) (r ++ (i ∷ [])) (λ y. member-cons y i s ∙ or_swap (eqb y i) (member y s) ∙ ap (λ (b : Bool). b || eqb y i) (h y) ∙ sym (member-snoc y r i)))

  pub fins-tests : once_each (fin_test room w x e (cut_at m e t)) [] (edge m e).fins ≡ test11 m e t
  fins-tests = sym (fin-tests (edge m e).fins [] [] (λ y. refl))
