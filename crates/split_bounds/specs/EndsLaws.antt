-- The tests of an edge as the code makes them, and what they leave known. Assumes nothing.
use Rattle.std.specs.Prelude.{ℕ, ◌<◌, ◌≡◌, refl, Bool, true, false, not, cond, ◌&&◌, List, eqb, Float}
use Rattle.std.proofs.Common.{sym, ◌∙◌}
use Rattle.std.proofs.Math.Path.{ap}
use Rattle.std.proofs.Math.Option.{none, some}
use borrow.Author.Tests.{ltb-true}
use Rattle.geom_lines_planes.specs.Refuse.{◌unless◌, ◌then◌}
use Rattle.geom_carriers.specs.Queries.{line_refusal, the_line}
use Rattle.meaning.specs.Lists.{the, is_some}
use Rattle.meaning.specs.Model.{Model, has, curve, point_of}
use Rattle.meaning.specs.Refuse.{first_refusal}
use Rattle.meaning.specs.Split.{carrier, start_point, end_point, test2}
use Rattle.meaning_list_laws.specs.Tests.{and_both, then-zero, then-none, unless-zero, the-given}
use Rattle.memory_layout.specs.Layout.{word, words_of}
use Rattle.memory_layout.specs.Decode.{flag_at, decode}
use Rattle.split_bounds.specs.Ends.{carrier_refusal, ends_refusal}

-- ---- an optional id, as its tag's test and its id

tests : (m : Model) (a b c : Bool) (i j k : ℕ)
    → (7 unless is_some (cond a none (some i)) && is_some (cond b none (some j))
    then (1 unless is_some (cond c none (some k)) then line_refusal (curve m (the (cond c none (some k)))))
    then (2 unless has m.vertices (the (cond a none (some i))) then 2 unless has m.vertices (the (cond b none (some j))))
    then 0)
    ≡ (7 unless not a && not b
    then 1 unless not c
    then line_refusal (curve m k)
    then 2 unless has m.vertices i
    then 2 unless has m.vertices j)
tests m true b c i j k = refl
tests m false true c i j k = refl
tests m false false true i j k = refl
tests m false false false i j k =
    ap (λ (n : ℕ). line_refusal (curve m k) then n) (then-none (2 unless has m.vertices i then 2 unless has m.vertices j))

-- ---- tests 2 and 4 to 6, and what they leave known

pub record Ended (room w : List ℕ) (x : List Float) (e : ℕ) : Type 0 where
  pub there : e < word w 6
  pub start : word (words_of room w 6 e) 1 < word w 7
  pub end : word (words_of room w 6 e) 3 < word w 7
  pub line : the_line (curve (decode room w x) (word (words_of room w 6 e) 5)) ≡ carrier (decode room w x) e
  pub start-point : point_of (decode room w x) (word (words_of room w 6 e) 1) ≡ start_point (decode room w x) e
  pub end-point : point_of (decode room w x) (word (words_of room w 6 e) 3) ≡ end_point (decode room w x) e

module _ (room w : List ℕ) (x : List Float) (e : ℕ) where
  pub ends-tests : test2 (decode room w x) e then carrier_refusal (decode room w x) (words_of room w 6 e) ≡ ends_refusal (decode room w x) e
  unfolding ends_refusal carrier_refusal first_refusal decode
  ends-tests =
      ap (λ (n : ℕ). test2 (decode room w x) e then n)
      (sym (tests (decode room w x) (eqb (word (words_of room w 6 e) 0) 0) (eqb (word (words_of room w 6 e) 2) 0) (eqb (word (words_of room w 6 e) 4) 0)
      (word (words_of room w 6 e) 1) (word (words_of room w 6 e) 3) (word (words_of room w 6 e) 5)))

  pub ended : ends_refusal (decode room w x) e ≡ 0 → Ended room w x e
  unfolding carrier_refusal decode
  ended z =
      let m = decode room w x in
      let s = words_of room w 6 e in
      let a = then-zero (test2 m e) (carrier_refusal m s) (ends-tests ∙ z) in
      let b = then-zero (7 unless flag_at s 0 && flag_at s 2) _ a.1 in
      let f = and_both (flag_at s 0) (flag_at s 2) (unless-zero 6 _ b.0) in
      let d = then-zero (1 unless flag_at s 4) _ b.1 in
      let g = then-zero (line_refusal (curve m (word s 5))) _ d.1 in
      let h = then-zero (2 unless has m.vertices (word s 1)) (2 unless has m.vertices (word s 3)) g.1 in
      record {
        there = ltb-true e (word w 6) (unless-zero 1 _ a.0);
        start = ltb-true (word s 1) (word w 7) (unless-zero 1 _ h.0);
        end = ltb-true (word s 3) (word w 7) (unless-zero 1 _ h.1);
        line = ap (λ (i : ℕ). the_line (curve m i)) (the-given (eqb (word s 4) 0) (word s 5) (unless-zero 0 _ d.0));
        start-point = ap (point_of m) (the-given (eqb (word s 0) 0) (word s 1) f.0);
        end-point = ap (point_of m) (the-given (eqb (word s 2) 0) (word s 3) f.1);
      }
