-- The ends of fins off the lent words are those of the model. Assumes nothing.
use Rattle.std.specs.Prelude.{ℕ, suc, ◌+◌, ◌-◌, ◌<◌, ◌≡◌, Bool, ◌&&◌, Float, length, get_or}
use Rattle.std.proofs.Common.{arith, add-one, sym, ◌∙◌, eqb-true, eq-eqb, ne_eqb}
use Rattle.std.proofs.Math.Decide.{dec_lt}
use Rattle.std.proofs.Math.Path.{refl, ap}
use Rattle.std.proofs.Math.Bool.{true, false, not, cond}
use mathlib.Core.List.{List}
use Rattle.std.proofs.Math.Option.{Option, none, some}
use Rattle.std.proofs.Math.Dec.{eqb}
use Rattle.meaning.specs.Lists.{all, the, is_some, is}
use Rattle.meaning.specs.Model.{Edge, positive, negative, edge}
use Rattle.meaning.specs.Walks.{directed, ends_of}
use Rattle.meaning.specs.Inquire.{start_of}
use Rattle.meaning_list_laws.specs.Tests.{both_ways}
use Rattle.meaning_slabs.specs.Slabs.{closed, ends_at}
use Rattle.meaning_slab_laws.specs.Steps.{closed_at, closed-last}
use Rattle.memory_layout.specs.Layout.{word, words_of}
use Rattle.memory_layout.specs.Decode.{maybe_at, decode}
use Rattle.walk_marks.specs.Laws.{all-nth}
use Rattle.walk_sources.specs.Sources.{fin_edge}
use Rattle.inquire_fin_starts.specs.Starts.{start_place, fin_whole, Whole}
use Rattle.inquire_fin_starts.specs.Laws.{whole_of, start-words}
use Rattle.slab_fins.specs.Ends.{numbered}

-- ---- an end as a number

pub number-none : (w : List ℕ) (at : ℕ) → word w at ≡ 0 → 0 ≡ numbered (maybe_at w at)
unfolding numbered
number-none w at e = rw (eq-eqb (word w at) 0 e)

pub number-some : (w : List ℕ) (at : ℕ) → (word w at ≡ 0 → ⊥) → word w (at + 1) + 1 ≡ numbered (maybe_at w at)
unfolding numbered
number-some w at e = rw (ne_eqb (word w at) 0 e) (add-one (word w (at + 1)) ∙ ap (λ k. suc (word w k)) (add-one at))

-- two ends: there is one, and the other is it
compared : (end start : Option ℕ) → (not (eqb (numbered end) 0) && eqb (numbered start) (numbered end)) ≡ (is_some end && is start (the end))
unfolding numbered
compared none start = refl
compared (some a) none = rw (ne_eqb (suc a) 0 (λ e. omega arith), ne_eqb 0 (suc a) (λ e. omega arith))
compared (some a) (some b) =
    rw (ne_eqb (suc a) 0 (λ e. omega arith))
    (both_ways (eqb (suc b) (suc a)) (eqb b a)
    (λ h. let e : suc b ≡ suc a = eqb-true (suc b) (suc a) h in eq-eqb b a (omega arith))
    (λ h. let e : b ≡ a = eqb-true b a h in eq-eqb (suc b) (suc a) (omega arith)))

-- ---- which end of the edge it is

-- the end is at the other place
end-end : (b : Bool) (e : Edge) → (directed (cond b positive negative) e).end ≡ cond b e.end e.start
end-end true e = refl
end-end false e = refl

module _ (room w : List ℕ) (x : List Float) where
  end-words : (i : ℕ) → (ends_of (decode room w x) i).end ≡ maybe_at (words_of room w 6 (fin_edge room w i)) (2 - start_place (word (words_of room w 5 i) 2))
  unfolding decode start_place
  end-words i = end-end (eqb (word (words_of room w 5 i) 2) 0) (edge (decode room w x) (fin_edge room w i)) ∙ by (eqb (word (words_of room w 5 i) 2) 0)
    where
      by : (b : Bool) → cond b (maybe_at (words_of room w 6 (fin_edge room w i)) 2) (maybe_at (words_of room w 6 (fin_edge room w i)) 0) ≡ maybe_at (words_of room w 6 (fin_edge room w i)) (2 - cond b 0 2)
      by true = refl
      by false = refl

  pub ends-told : (i j end start at place : ℕ) (p q : List ℕ) → at ≡ start_place (word (words_of room w 5 i) 2) → p ≡ words_of room w 6 (fin_edge room w i) → end ≡ numbered (maybe_at p (2 - at))
      → place ≡ start_place (word (words_of room w 5 j) 2) → q ≡ words_of room w 6 (fin_edge room w j) → start ≡ numbered (maybe_at q place)
      → (not (eqb end 0) && eqb start end) ≡ ends_at (decode room w x) i j
  unfolding ends_at
  ends-told i j end start at place p q ea ep ee eb eq es =
      let last : end ≡ numbered (ends_of (decode room w x) i).end =
      ee ∙ ap (λ (l : List ℕ). numbered (maybe_at l (2 - at))) ep ∙ ap (λ k. numbered (maybe_at (words_of room w 6 (fin_edge room w i)) (2 - k))) ea ∙ ap numbered (sym (end-words i)) in
      let first : start ≡ numbered (start_of (decode room w x) j) =
      es ∙ ap (λ (l : List ℕ). numbered (maybe_at l place)) eq ∙ ap (λ k. numbered (maybe_at (words_of room w 6 (fin_edge room w j)) k)) eb ∙ ap numbered (sym (start-words room w x j)) in
      ap (λ a. not (eqb a 0) && eqb start a) last
      ∙ ap (λ a. not (eqb (numbered (ends_of (decode room w x) i).end) 0) && eqb a (numbered (ends_of (decode room w x) i).end)) first
      ∙ compared (ends_of (decode room w x) i).end (start_of (decode room w x) j)

-- ---- the next fin

pub next-whole : (room w fins : List ℕ) (k : ℕ) → all (fin_whole room w) fins ≡ true → k < length fins → Whole room w (get_or (closed fins) (k + 1) 0)
next-whole room w fins k a h = elim (dec_lt (k + 1) (length fins)) [
  | yes l ↦ rw (closed_at 0 fins (k + 1) l) (whole_of room w (get_or fins (k + 1) 0) (all-nth (fin_whole room w) fins (k + 1) a l))
  | no g ↦ rw (closed-last 0 fins k h (omega arith)) (whole_of room w (get_or fins 0 0) (all-nth (fin_whole room w) fins 0 a (omega arith)))
]
