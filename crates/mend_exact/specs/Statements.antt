-- The walk of a body lists the changes of its mending (`meaning_mends`), where all of the body is there, each record is listed once and the tables are no larger than the largest. Assumes nothing.
use Rattle.std.specs.Prelude.{ℕ, ◌+◌, ◌*◌, ◌≤◌, ◌<◌, ◌≡◌, refl, Bool, true, false, ◌&&◌, List, [], ◌++◌, map, leb, length, drop, replicate}
use Rattle.std.proofs.Common.{arith, sym, ap, ◌∙◌, leb-true, leb-false}
use Rattle.std.proofs.lemmas.Bool.{lt-leb}
use Rattle.meaning.specs.Lists.{every}
use Rattle.meaning.specs.Model.{Model}
use Rattle.meaning_list_laws.specs.Tests.{and_both}
use Rattle.meaning_mends.specs.Mends.{meetings, changes, body_there, once, fits}
use Rattle.meaning_mends.specs.Words.{changes_words}
use Rattle.memory_layout.specs.Decode.{decode}
use Rattle.memory_layout.specs.Fit.{Lists}
use Rattle.mend_meetings.specs.Machine.{FULL, MARKS, held}
use Rattle.mend_meetings.specs.Facts.{model_of}
use Rattle.mend_exact.specs.Entries.{entries_put, walk_of, Small}
use Rattle.mend_exact.specs.Put.{put-words}
use Rattle.mend_exact.specs.Telling.{tell_all, told, told-unfit, told_fit, told-many}
use Rattle.mend_exact.specs.Steps.{walk-tells}
use Rattle.mend_exact.specs.Present.{known, kept-first}

module _ (m : Model) (b : ℕ) (there : body_there m b ≡ true) (single : every (map (once m) (meetings m b)) ≡ true) (small : Small m) (d : List ℕ) (n : ℕ) (marks : MARKS ≤ n) where
  tells : told (walk_of m b d n) ≡ tell_all (changes m b) (held d [] 0)
  tells = walk-tells m (meetings m b) m (held d (replicate n 0) 0) (kept-first m n marks) (known m small b there single)

  -- an edge without a slot makes the count FULL, whatever comes behind it
  pub walk-full : every (map fits (changes m b)) ≡ false → (walk_of m b d n).count ≡ FULL
  walk-full h = ap (λ s. s.count) tells ∙ told-unfit (changes m b) (held d [] 0) h

  module _ (fit : every (map fits (changes m b)) ≡ true) (few : length (changes m b) ≤ FULL) where
    fitting : told (walk_of m b d n) ≡ held (entries_put d 0 (changes m b)) [] (0 + length (changes m b))
    fitting = tells ∙ told_fit (changes m b) (held d [] 0) fit (omega arith)

    -- else the count is that of the changes, and each is put in as the entry of its number
    pub walk-counted : (walk_of m b d n).count ≡ length (changes m b)
    walk-counted = ap (λ s. s.count) fitting ∙ omega arith

    pub walk_put : (walk_of m b d n).list ≡ entries_put d 0 (changes m b)
    walk_put = ap (λ s. s.list) fitting

    -- where the list has the entries: the words of the changes, and the rest as it was
    pub walk-told : 6 * length (changes m b) ≤ length d → (walk_of m b d n).list ≡ changes_words (changes m b) ++ drop (6 * length (changes m b)) d
    walk-told h = walk_put ∙ put-words (changes m b) d h

  -- "then 8 for an edge or change list without a slot", from the count alone; k is how many changes the list takes
  pub walk_refused : (k : ℕ) → k < FULL → leb (walk_of m b d n).count k ≡ (every (map fits (changes m b)) && leb (length (changes m b)) k)
  walk_refused k h = by (every (map fits (changes m b))) (leb (length (changes m b)) FULL) refl refl
    where
      by : (f x : Bool) → every (map fits (changes m b)) ≡ f → leb (length (changes m b)) FULL ≡ x → leb (walk_of m b d n).count k ≡ (f && leb (length (changes m b)) k)
      by false x e q = rw (walk-full e) (lt-leb FULL k h)
      by true true e q = ap (λ c. leb c k) (walk-counted e (leb-true (length (changes m b)) FULL q))
      by true false e q =
          let many : FULL < length (changes m b) = leb-false (length (changes m b)) FULL q in
          rw (ap (λ s. s.count) tells ∙ told-many (changes m b) (held d [] 0) e (omega arith) (omega arith), lt-leb FULL k h, lt-leb (length (changes m b)) k (omega arith))

  -- so where it is no more than k, each change has its slot; that the list d plays no part lets one walk count and another write
  pub walk-accepted : (k : ℕ) → k < FULL → leb (walk_of m b d n).count k ≡ true → (every (map fits (changes m b)) ≡ true) × (length (changes m b) ≤ k)
  walk-accepted k h e = let both = and_both (every (map fits (changes m b))) (leb (length (changes m b)) k) (sym (walk_refused k h) ∙ e) in (both.0, leb-true (length (changes m b)) k both.1)

-- the tables of lent memory are no larger than the largest
pub small-lent : (room w : List ℕ) → Lists room w → Small (model_of room w)
unfolding decode
small-lent room w l =
    record {
      regions = omega (arith, l.counts 1 (omega arith), l.small.small 1 (omega arith));
      shells = omega (arith, l.counts 2 (omega arith), l.small.small 2 (omega arith));
      loops = omega (arith, l.counts 4 (omega arith), l.small.small 4 (omega arith));
      fins = omega (arith, l.counts 5 (omega arith), l.small.small 5 (omega arith));
      edges = omega (arith, l.counts 6 (omega arith), l.small.small 6 (omega arith));
    }
