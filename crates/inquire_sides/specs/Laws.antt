-- The tests of a side, and what they leave known. Assumes nothing.
use Prim.Native.Nat.{ℕ, suc, ◌≤◌, ◌<◌}
use Rattle.std.proofs.Common.{arith, add-one, ◌∙◌}
use Rattle.std.specs.Prelude.{◌≡◌, Bool, not, cond, ◌&&◌, length, Float}
use Rattle.std.proofs.Math.Path.{refl, ap}
use Rattle.std.proofs.Math.Bool.{true, false}
use mathlib.Core.List.{List, [], ◌∷◌, map}
use Rattle.std.proofs.Math.Option.{none, some}
use Rattle.std.proofs.Math.Dec.{eqb, ltb}
use borrow.Author.Tests.{ltb-true, ltb-false, eqb-true}
use Rattle.geom_lines_planes.specs.Refuse.{◌unless◌, ◌then◌}
use Rattle.meaning.specs.Lists.{all, is}
use Rattle.meaning.specs.Refuse.{◌if◌, first_of}
use Rattle.meaning.specs.Inquire.{Side, alike, start_refusal, side_refusal, polygon_volume, side_volume}
use Rattle.meaning_list_laws.specs.Tests.{and_both, then-zero, then-assoc, unless-zero}
use Rattle.memory_layout.specs.Layout.{word, words_of}
use Rattle.memory_layout.specs.Decode.{flag_at, maybe_at, decode}
use Rattle.memory_layout.specs.Entries.{list_of}
use Rattle.memory_layout.specs.Fit.{Lists}
use Rattle.walk_marks.specs.Laws.{all-nth}
use Rattle.walk_sources.specs.Laws.{list-short}
use Rattle.inquire_fan.specs.Fan.{turned}
use Rattle.inquire_fin_starts.specs.Starts.{start_number, start_point, fin_whole, Rim}
use Rattle.inquire_fin_starts.specs.Laws.{start-number}
use Rattle.inquire_sides.specs.Sides.{is_at, bound_number, rim_of, rim_number, side_number, loop_whole, face_whole}

-- ---- as the definitions say it

pub is-words : (w : List ℕ) (at y : ℕ) → is_at w at y ≡ is (maybe_at w at) y
unfolding is_at
is-words w at y = ap (λ k. flag_at w at && eqb (word w k) y) (add-one at) ∙ by (eqb (word w at) 0) (word w (suc at))
  where
    by : (b : Bool) (i : ℕ) → (not b && eqb i y) ≡ is (cond b none (some i)) y
    by true i = refl
    by false i = refl

first-same : (f g : ℕ → ℕ) (l : List ℕ) → ((y : ℕ) → f y ≡ g y) → first_of f l ≡ first_of g l
unfolding first_of
first-same f g [] h = refl
first-same f g (y ∷ l) h = rw (h y, first-same f g l h)

module _ (room w : List ℕ) (x : List Float) (s f : ℕ) where
  abbrev side : Side
  side = record { shell = s; face = f }

  pub side-number : side_number room w s f ≡ side_refusal (decode room w x) side
  unfolding side_number bound_number rim_number rim_of side_refusal
  side-number =
      then-assoc (1 if alike (is_at (words_of room w 3 f) 2 s) (is_at (words_of room w 3 f) 0 s)) _ _
      ∙ ap (λ a. 1 if alike a (is_at (words_of room w 3 f) 0 s) then more) (is-words (words_of room w 3 f) 2 s)
      ∙ ap (λ a. 1 if alike (is (maybe_at (words_of room w 3 f) 2) s) a then more) (is-words (words_of room w 3 f) 0 s)
      ∙ ap (λ n. 1 if alike (is (maybe_at (words_of room w 3 f) 2) s) (is (maybe_at (words_of room w 3 f) 0) s) then 7 unless eqb (length (list_of room w 5 f)) 1 then 4 if ltb (length fins) 3 then n)
      (first-same (start_number room w) (start_refusal (decode room w x)) fins (start-number room w x))
      ∙ (unfold decode list_of in refl)
    where
      fins : List ℕ
      fins = list_of room w 6 (word (list_of room w 5 f) 0)

      more : ℕ
      more = 7 unless eqb (length (list_of room w 5 f)) 1 then 4 if ltb (length fins) 3 then first_of (start_number room w) fins

  pub side-volume : polygon_volume (turned (is_at (words_of room w 3 f) 0 s) (map (start_point (decode room w x)) (rim_of room w f))) ≡ side_volume (decode room w x) side
  unfolding side_volume turned
  side-volume =
      ap (λ a. polygon_volume (turned a (map (start_point (decode room w x)) (rim_of room w f)))) (is-words (words_of room w 3 f) 0 s)
      ∙ (unfold decode list_of rim_of start_point in refl)

-- ---- behind the first tests there is one loop, behind all of them the starts are there

module _ (room w : List ℕ) (s f : ℕ) where
  pub one-loop : bound_number (words_of room w 3 f) (length (list_of room w 5 f)) s ≡ 0 → length (list_of room w 5 f) ≡ 1
  unfolding bound_number
  one-loop e = eqb-true (length (list_of room w 5 f)) 1 (unless-zero 6 (eqb (length (list_of room w 5 f)) 1) (then-zero (1 if alike (is_at (words_of room w 3 f) 2 s) (is_at (words_of room w 3 f) 0 s)) _ e).1)

  pub passed : side_number room w s f ≡ 0 → (length (list_of room w 5 f) ≡ 1) × (3 ≤ length (rim_of room w f)) × (first_of (start_number room w) (rim_of room w f) ≡ 0)
  unfolding side_number rim_number
  passed e =
      let a = then-zero (bound_number (words_of room w 3 f) (length (list_of room w 5 f)) s) _ e in
      let b = then-zero (4 if ltb (length (rim_of room w f)) 3) _ a.1 in
      (one-loop a.0, ltb-false (length (rim_of room w f)) 3 (enough (ltb (length (rim_of room w f)) 3) b.0), b.1)
    where
      enough : (t : Bool) → (4 if t) ≡ 0 → t ≡ false
      enough true q = absurd (omega arith)
      enough false q = refl

-- ---- a face that is whole, and its rim

module _ (room w : List ℕ) (f : ℕ) (h : face_whole room w f ≡ true) where
  parts : (ltb f (word w 3) ≡ true) × (all (loop_whole room w) (list_of room w 5 f) ≡ true)
  parts = unfold face_whole in and_both (ltb f (word w 3)) (all (loop_whole room w) (list_of room w 5 f)) h

  pub face-there : f < word w 3
  face-there = ltb-true f (word w 3) parts.0

  module _ (one : length (list_of room w 5 f) ≡ 1) where
    loop-whole : (ltb (word (list_of room w 5 f) 0) (word w 4) ≡ true) × (all (fin_whole room w) (list_of room w 6 (word (list_of room w 5 f) 0)) ≡ true)
    loop-whole =
        unfold loop_whole in
        and_both (ltb (word (list_of room w 5 f) 0) (word w 4)) (all (fin_whole room w) (list_of room w 6 (word (list_of room w 5 f) 0)))
        (all-nth (loop_whole room w) (list_of room w 5 f) 0 parts.1 (omega arith))

    pub loop-there : word (list_of room w 5 f) 0 < word w 4
    loop-there = ltb-true (word (list_of room w 5 f) 0) (word w 4) loop-whole.0

    pub rim-whole : all (fin_whole room w) (rim_of room w f) ≡ true
    unfolding rim_of
    rim-whole = loop-whole.1

    pub rim-short : Lists room w → length (rim_of room w f) ≤ 1024
    unfolding rim_of
    rim-short l = list-short room w 6 (word (list_of room w 5 f) 0) l (omega arith) loop-there

    pub rim-of : first_of (start_number room w) (rim_of room w f) ≡ 0 → Rim room w (rim_of room w f)
    rim-of e = record { whole = rim-whole; starts = e }
