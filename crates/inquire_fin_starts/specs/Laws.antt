-- The starts of fins off the lent words are those of the model. Assumes nothing.
use Rattle.std.specs.Prelude.{ℕ, zero, suc, ◌+◌, ◌<◌, ◌≡◌, Bool, not, List, [], ◌∷◌, eqb, length, get_or, Float}
use Rattle.std.proofs.Common.{arith, add-one, sym, ◌∙◌}
use Rattle.std.proofs.Math.Path.{refl, ap}
use Rattle.std.proofs.Math.Bool.{true, false, cond}
use Rattle.std.proofs.Math.Option.{none, some}
use Rattle.std.proofs.Math.Dec.{ltb}
use borrow.Author.Tests.{ltb-true}
use Rattle.geom_lines_planes.specs.Refuse.{◌unless◌, ◌then◌}
use Rattle.meaning.specs.Lists.{the, is_some}
use Rattle.meaning.specs.Model.{Edge, positive, negative, edge, point_of}
use Rattle.meaning.specs.Walks.{directed}
use Rattle.meaning.specs.Refuse.{first_of}
use Rattle.meaning.specs.Inquire.{start_of, start_refusal}
use Rattle.meaning_list_laws.specs.Tests.{and_both, then-zero, unless-zero, the-given}
use Rattle.memory_layout.specs.Layout.{word, words_of}
use Rattle.memory_layout.specs.Decode.{flag_at, maybe_at, decode}
use Rattle.walk_sources.specs.Sources.{fin_edge}
use Rattle.walk_marks.specs.Laws.{all-nth}
use Rattle.inquire_fin_starts.specs.Starts.{start_place, end_number, start_number, start_id, start_point, fin_whole, Whole, Rim}

pub whole_of : (room w : List ℕ) (i : ℕ) → fin_whole room w i ≡ true → Whole room w i
unfolding fin_whole
whole_of room w i e =
    let both = and_both (ltb i (word w 5)) (ltb (fin_edge room w i) (word w 6)) e in
    record { fin = ltb-true i (word w 5) both.0; edge = ltb-true (fin_edge room w i) (word w 6) both.1 }

-- ---- the start of a fin

-- which end it is, by the sense
start-end : (b : Bool) (e : Edge) → (directed (cond b positive negative) e).start ≡ cond b e.start e.end
start-end true e = refl
start-end false e = refl

module _ (room w : List ℕ) (x : List Float) (i : ℕ) where
  pub start-words : start_of (decode room w x) i ≡ maybe_at (words_of room w 6 (fin_edge room w i)) (start_place (word (words_of room w 5 i) 2))
  unfolding decode start_place
  start-words = start-end (eqb (word (words_of room w 5 i) 2) 0) (edge (decode room w x) (fin_edge room w i)) ∙ by (eqb (word (words_of room w 5 i) 2) 0)
    where
      by : (b : Bool) → cond b (maybe_at (words_of room w 6 (fin_edge room w i)) 0) (maybe_at (words_of room w 6 (fin_edge room w i)) 2) ≡ maybe_at (words_of room w 6 (fin_edge room w i)) (cond b 0 2)
      by true = refl
      by false = refl

  abbrev at : ℕ
  at = start_place (word (words_of room w 5 i) 2)

  abbrev ends : List ℕ
  ends = words_of room w 6 (fin_edge room w i)

  optional : (b : Bool) (v n : ℕ) → (7 unless not b then 2 unless ltb v n) ≡ (7 unless is_some (cond b none (some v)) then 2 unless ltb (the (cond b none (some v))) n)
  optional true v n = refl
  optional false v n = refl

  pub start-number : start_number room w i ≡ start_refusal (decode room w x) i
  unfolding start_number end_number
  start-number =
      ap (λ k. 7 unless flag_at ends at then 2 unless ltb (word ends k) (word w 7)) (add-one at)
      ∙ optional (eqb (word ends at) 0) (word ends (suc at)) (word w 7)
      ∙ ap (λ o. 7 unless is_some o then 2 unless ltb (the o) (word w 7)) (sym start-words)
      ∙ (unfold decode in refl)

  -- behind the test, the vertex is there, and is the start
  pub start-there : start_number room w i ≡ 0 → start_id room w i < word w 7
  unfolding start_number end_number start_id
  start-there e = ltb-true (word ends (at + 1)) (word w 7) (unless-zero 1 (ltb (word ends (at + 1)) (word w 7)) (then-zero (7 unless flag_at ends at) _ e).1)

  pub start_is : start_number room w i ≡ 0 → point_of (decode room w x) (start_id room w i) ≡ start_point (decode room w x) i
  unfolding start_number end_number start_id start_point
  start_is e =
      ap (point_of (decode room w x))
      (ap (word ends) (add-one at) ∙ the-given (eqb (word ends at) 0) (word ends (suc at)) (unless-zero 6 (flag_at ends at) (then-zero (7 unless flag_at ends at) _ e).0) ∙ ap the (sym start-words))

-- ---- all starts

-- none of the starts is refused
first-at : (f : ℕ → ℕ) (l : List ℕ) (k : ℕ) → first_of f l ≡ 0 → k < length l → f (get_or l k 0) ≡ 0
unfolding first_of
first-at f [] k e h = absurd (omega arith)
first-at f (y ∷ l) zero e h = (then-zero (f y) (first_of f l) e).0
first-at f (y ∷ l) (suc k) e h = first-at f l k (then-zero (f y) (first_of f l) e).1 (omega arith)

-- a fin of a rim
module _ (room w fins : List ℕ) (k : ℕ) (h : k < length fins) (r : Rim room w fins) where
  pub rim-whole : Whole room w (get_or fins k 0)
  rim-whole = whole_of room w (get_or fins k 0) (all-nth (fin_whole room w) fins k r.whole h)

  pub rim-start : start_number room w (get_or fins k 0) ≡ 0
  rim-start = first-at (start_number room w) fins k r.starts h
