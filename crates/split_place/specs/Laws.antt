-- The tests of a split: turn by turn, and as those of `meaning`. Assumes nothing.
use Rattle.std.specs.Prelude.{ℕ, zero, suc, ◌+◌, ◌≤◌, ◌<◌, ◌≡◌, Bool, true, false, cond, length, take, Float}
use Rattle.std.proofs.Common.{add-one, arith, sym, ◌∙◌, take-suc}
use Rattle.std.proofs.Math.Path.{refl, ap}
use mathlib.Core.List.{List, [], ◌∷◌, ◌++◌}
use Rattle.std.proofs.Math.Dec.{eqb, ltb}
use Rattle.std.proofs.Math.ListN.{get_or}
use Rattle.std.specs.Float.{binary64}
use Rattle.std.specs.Float.Ieee.{of_bits, of_int}
use borrow.Author.Tests.{ltb-true}
use Rattle.float_vectors.specs.Space.{finite_point}
use Rattle.geom_signs.specs.Signs.{apart_s}
use Rattle.geom_lines_planes.specs.Refuse.{◌unless◌, ◌then◌}
use Rattle.meaning.specs.Lists.{member, count, count_if, all_below}
use Rattle.meaning.specs.Floats as Floats
use Rattle.meaning.specs.Model.{Model, Limits, edge}
use Rattle.meaning.specs.Refuse.{◌if◌, first_refusal, first_of}
use Rattle.meaning.specs.Split.{is_positive, start_point, end_point, lo, hi, parameter, split_point, test1, test2, test3, test4, test5, test6, test7, test8, test9, test10, test11, test12, test13, bounds_refusal, split_refusal}
use Rattle.meaning_list_laws.specs.Tests.{then-zero, then-none, then-assoc, unless-zero}
use Rattle.meaning_list_laws.specs.Lists.{count_if-snoc}
use Rattle.memory_layout.specs.Layout.{word, real, words_of}
use Rattle.memory_layout.specs.Decode.{decode}
use Rattle.memory_layout.specs.Entries.{list_of}
use Rattle.split_segment.specs.Segment.{segment_at, low, high, span_refusal}
use Rattle.split_bounds.specs.Ends.{ends_refusal}
use Rattle.split_bounds.specs.Laws.{bounds-tests}
use Rattle.split_fins.specs.Fins.{pcurve_test}
use Rattle.split_fins.specs.Facts.{Present}
use Rattle.split_fins.specs.Laws.{pcurve-tests}
use Rattle.split_fin_tests.specs.FinTests.{cut_at, once_each, fin_test}
use Rattle.split_fin_tests.specs.Laws.{fins-tests}
use Rattle.split_place.specs.Place.{fraction_ok, along, cut_of, tolerance_at, point_test, wire_test, owned_by, loop_test, tables_test, capacity_test}
use Rattle.split_place.specs.Facts.{Owned}
use Rattle.memory_layout.specs.Limits.{limits}
use Rattle.split_place.specs.SplitNumber.{edge_row, place_row, room_row}

-- ---- one entry more

pub count_if-turn : (p : ℕ → Bool) (l : List ℕ) (j n q : ℕ) → j < length l → n ≡ count_if p (take j l) → q ≡ cond (p (get_or l j 0)) 1 0
    → n + q ≡ count_if p (take (j + 1) l)
count_if-turn p l j n q h e g = rw (add-one, take-suc l j 0, count_if-snoc, e, g)

pub count_if-le : (p : ℕ → Bool) (l : List ℕ) → count_if p l ≤ length l
unfolding count_if
count_if-le p [] = omega arith
count_if-le p (y ∷ l) = let h = count_if-le p l in go (p y) h
  where
    go : (b : Bool) → count_if p l ≤ length l → cond b (suc (count_if p l)) (count_if p l) ≤ suc (length l)
    go true h = omega arith
    go false h = omega arith

pub count-le : (i : ℕ) (l : List ℕ) → count i l ≤ length l
unfolding count
count-le i [] = omega arith
count-le i (y ∷ l) = let h = count-le i l in go (eqb i y) h
  where
    go : (b : Bool) → count i l ≤ length l → cond b (suc (count i l)) (count i l) ≤ suc (length l)
    go true h = omega arith
    go false h = omega arith

-- ---- rows of tests that pass

first_of-at : (f : ℕ → ℕ) (l : List ℕ) → first_of f l ≡ 0 → (k : ℕ) → k < length l → f (get_or l k 0) ≡ 0
unfolding first_of
first_of-at f [] e k h = absurd (omega arith)
first_of-at f (i ∷ l) e zero h = (then-zero (f i) (first_of f l) e).0
first_of-at f (i ∷ l) e (suc k) h = first_of-at f l (then-zero (f i) (first_of f l) e).1 k (omega arith)

pub once-at : (f : ℕ → ℕ) (s l : List ℕ) → once_each f s l ≡ 0 → (k : ℕ) → k < length l → f (get_or l k 0) ≡ 0
unfolding once_each
once-at f s [] e k h = absurd (omega arith)
once-at f s (i ∷ l) e zero h = (then-zero (f i) _ (then-zero (1 if member i s) _ e).1).0
once-at f s (i ∷ l) e (suc k) h = once-at f (s ++ (i ∷ [])) l (then-zero (f i) _ (then-zero (1 if member i s) _ e).1).1 k (omega arith)

refusal-append : (k l : List ℕ) → first_refusal (k ++ l) ≡ (first_refusal k then first_refusal l)
unfolding first_refusal
refusal-append [] l = refl
refusal-append (n ∷ k) l = ap (λ (r : ℕ). n then r) (refusal-append k l) ∙ sym (then-assoc n (first_refusal k) (first_refusal l))

-- ---- the three rows are the thirteen tests

pub split_rows : (y : Limits) (m : Model) (e : ℕ) (t : Float) → (edge_row m e t then place_row m e t then room_row y m e) ≡ split_refusal y m e t
unfolding edge_row place_row room_row split_refusal
split_rows y m e t =
    let a : List ℕ = test1 t ∷ test2 m e ∷ test3 m e ∷ test4 m e ∷ test5 m e ∷ test6 m e ∷ test7 m e ∷ test8 m e ∷ [] in
    let b : List ℕ = test9 m e t ∷ test10 m e t ∷ test11 m e t ∷ [] in
    let d : List ℕ = test12 m e ∷ test13 y m e ∷ [] in
    sym (refusal-append a (b ++ d) ∙ ap (λ (n : ℕ). first_refusal a then n) (refusal-append b d))

-- ---- tests 1 to 8

again : (a b c d : ℕ) → (a then b then c then b then d) ≡ (a then b then c then d)
again zero zero zero d = refl
again zero zero (suc c) d = refl
again zero (suc b) c d = refl
again (suc a) b c d = refl

pub record Opened (room w : List ℕ) (x : List Float) (e : ℕ) : Type 0 where
  pub there : e < word w 6
  pub ends : ends_refusal (decode room w x) e ≡ 0
  pub fins : Present w (list_of room w 7 e)

module _ (room w : List ℕ) (x : List Float) (e : ℕ) (t : Float) where
  abbrev m : Model
  m = decode room w x

  pub pcurve-row : first_of (pcurve_test room w) (list_of room w 7 e) ≡ test3 m e
  unfolding list_of decode
  pcurve-row = pcurve-tests room w x e

  pub edge-rows : (1 unless fraction_ok t then test2 m e then test3 m e then bounds_refusal m e) ≡ edge_row m e t
  unfolding fraction_ok edge_row bounds_refusal first_refusal
  edge-rows = again (test1 t) (test2 m e) (test3 m e) (test4 m e then test5 m e then test6 m e then test7 m e then test8 m e then 0)

  pub opened : edge_row m e t ≡ 0 → Opened room w x e
  unfolding decode pcurve_test
  opened z =
      let a = then-zero (1 unless fraction_ok t) _ (edge-rows ∙ z) in
      let b = then-zero (test2 m e) _ a.1 in
      let d = then-zero (test3 m e) (bounds_refusal m e) b.1 in
      let f = then-zero (ends_refusal m e) (span_refusal (segment_at m e)) (bounds-tests m e ∙ d.1) in
      let g = first_of-at (pcurve_test room w) (list_of room w 7 e) (pcurve-row ∙ d.0) in
      record {
        there = ltb-true e (word w 6) (unless-zero 1 (ltb e (word w 6)) b.0);
        ends = f.0;
        fins = record { there = λ k h. ltb-true _ (word w 5) (unless-zero 1 (ltb (get_or (list_of room w 7 e) k 0) (word w 5)) (then-zero (2 unless ltb (get_or (list_of room w 7 e) k 0) (word w 5)) _ (g k h)).0) };
      }

  -- ---- tests 9 to 11

  pub cut-same : cut_of (segment_at m e) t (tolerance_at m e) ≡ cut_at m e t
  unfolding cut_of segment_at tolerance_at along low high lo hi parameter split_point cut_at
  cut-same = refl

  three : (a b c d : ℕ) → ((a then b then c) then d) ≡ (a then (b then c) then d then 0)
  three zero zero zero d = sym (then-none d)
  three zero zero (suc c) d = refl
  three zero (suc b) c d = refl
  three (suc a) b c d = refl

  pub place-rows : (point_test (segment_at m e) (cut_at m e t).at (real x 0) then once_each (fin_test room w x e (cut_at m e t)) [] (list_of room w 7 e)) ≡ place_row m e t
  unfolding point_test segment_at cut_at place_row first_refusal test9 test10 list_of decode
  place-rows =
      three (4 unless finite_point (split_point m e t)) (4 unless is_positive (apart_s (split_point m e t) (start_point m e) m.precision))
      (4 unless is_positive (apart_s (split_point m e t) (end_point m e) m.precision)) (once_each (fin_test room w x e (cut_at m e t)) [] (edge m e).fins)
      ∙ ap (λ (n : ℕ). test9 m e t then test10 m e t then n then 0) (fins-tests room w x e t)

  pub owned : Present w (list_of room w 7 e) → place_row m e t ≡ 0 → Owned room w (list_of room w 7 e)
  unfolding fin_test
  owned p z =
      let a = then-zero (point_test (segment_at m e) (cut_at m e t).at (real x 0)) _ (place-rows ∙ z) in
      let g = once-at (fin_test room w x e (cut_at m e t)) [] (list_of room w 7 e) a.1 in
      record {
        there = p.there;
        owner = λ k h.
            let i = get_or (list_of room w 7 e) k 0 in
            let b = then-zero (1 unless eqb (word (words_of room w 5 i) 1) e) _ (g k h) in
            let d = then-zero (2 unless ltb (word (words_of room w 5 i) 0) (word w 4)) _ b.1 in
            ltb-true (word (words_of room w 5 i) 0) (word w 4) (unless-zero 1 _ d.0);
      }

  -- ---- tests 12 and 13

  pub room-rows : (1 unless all_below (wire_test room w e false) (word w 2) then 8 unless capacity_test room w e (list_of room w 7 e)) ≡ room_row (limits room) m e
  unfolding room_row first_refusal test12 test13 wire_test capacity_test tables_test loop_test owned_by list_of decode
  room-rows = ap (λ (n : ℕ). test12 m e then n) (sym (then-none (test13 (limits room) m e)))

-- the number 1, by its bits
pub one-bits : of_bits binary64 0x3ff0_0000_0000_0000 ≡ Floats.float_of 1
unfolding of_bits of_int
one-bits = refl
