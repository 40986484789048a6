-- A record is good just where the code's tests pass, and ends where its lists do. Assumes nothing.
use Prim.Native.Nat.{ℕ, suc, ◌+◌, ◌-◌, ◌*◌, ◌≤◌, ◌<◌}
use Rattle.std.proofs.Common.{add_assoc, sym, ap₂, ◌∙◌, length-append, drop-drop}
use native.Mathlib.Omega.{arith}
use Rattle.std.specs.Prelude.{◌≡◌, Bool, true, false, cond, ◌&&◌, drop, get_or, Float}
use Rattle.std.proofs.Math.Path.{refl, ap}
use Rattle.std.proofs.Math.Bool.{and_comm}
use mathlib.Core.List.{List, [], ◌∷◌, ◌++◌}
use Rattle.std.proofs.Math.Dec.{eqb, leb}
use Rattle.std.proofs.Math.ListN.{length, length-drop}
use borrow.Author.Tests.{ne_eqb, leb-true, le-leb, eqb-true}
use Rattle.meaning.specs.Lists.{all_below}
use Rattle.meaning_list_laws.specs.Tests.{and_both, and_assoc, and-true, and-false, both_ways, all_below-at}
use Rattle.memory_layout.specs.Layout.{word}
use Rattle.image_format.specs.Bytes.{little, words, floats, lists, number, words_in, floats_in, lists_in, same_bytes}
use Rattle.image_format.specs.Fields.{list_limits_of, Fields, mark_of, word_counts, float_counts, list_counts, record_image, office_in, fields_in}
use Rattle.image_laws.specs.Numbers.{Bytes, below-drop, patterns, words-in, length-little, length-words, length-words_in, length-floats, length-floats_in, length-lists, flat, same-itself}
use Rattle.image_laws.specs.Machines.{words-below}
use Rattle.image_laws.specs.Starts.{exchange, starts, starts-both}
use Rattle.image_laws.proofs.Starts.{starts-little, starts-words, starts-floats}
use Rattle.image_record_test.specs.Good.{spelled, record_good, record_size, record_end}
use Rattle.image_record_test.specs.Parts.{fixed_size, mark_good, fixed_good, list_end, lists_end}
use Rattle.image_record_test.specs.Explicit.{numbers_at, numbers-at, fields_here, fields-here}
use Rattle.image_record_test.specs.Spelled.{within, tolerance_held, all-spelled}

-- ---- the lists

-- each within its limit, and bytes for all of them
unfoldable pub lists_good : List ℕ → List ℕ → Bool
lists_good [] s = true
lists_good (limit ∷ l) s = (leb (number 4 s) limit && leb (4 * suc (number 4 s)) (length s)) && lists_good l (drop (4 * suc (number 4 s)) s)

-- numbers that were read are there if the bytes are
pub words-start : (n : ℕ) (s : List ℕ) → Bytes s → starts (words (words_in n s)) s ≡ leb (4 * n) (length s)
words-start n s b =
    starts-words (words_in n s) s (words-below n s b) b
    ∙ rw (length-words_in n s, same-itself (words_in n s), and-true (leb (4 * n) (length s)))

-- at 0 there is none
no-list : (l b : List ℕ) → lists_end l b 0 ≡ 0
unfolding lists_end list_end
no-list [] b = refl
no-list (limit ∷ l) b = no-list l b

pub lists-size : (c : ℕ) (s : List ℕ) → length (flat (lists_in (suc c) s)) ≡ suc (number 4 s) + length (flat (lists_in c (drop (4 * suc (number 4 s)) s)))
unfolding lists_in flat
lists-size c s =
    let n : ℕ = number 4 s in
    let one : List ℕ = length (words_in n (drop 4 s)) ∷ words_in n (drop 4 s) in
    length-append one (flat (lists_in c (drop (4 * suc n) s))) ∙ rw (length-words_in n (drop 4 s))

-- the first list, and those behind it
list-passed : (limit : ℕ) (b : List ℕ) (at : ℕ) (t : Bool) → 0 < at
    → (leb (number 4 (drop at b)) limit && leb (4 * suc (number 4 (drop at b))) (length (drop at b))) ≡ t
    → list_end limit b at ≡ cond t (at + 4 * suc (number 4 (drop at b))) 0
unfolding list_end
list-passed limit b at t h e = rw (ne_eqb at 0 (λ q. omega arith), e)

pub lists-end : (l b : List ℕ) (at : ℕ) → 0 < at → at ≤ length b
    → lists_end l b at ≡ cond (lists_good l (drop at b)) (at + 4 * length (flat (lists_in (length l) (drop at b)))) 0
unfolding lists_end lists_good
lists-end [] b at h g = unfold lists_in flat in omega arith
lists-end (limit ∷ l) b at h g = go (λ p q r. lists-end l b p q r) _ refl
  where
    n : ℕ
    n = number 4 (drop at b)

    go : ((p : ℕ) → 0 < p → p ≤ length b → lists_end l b p ≡ cond (lists_good l (drop p b)) (p + 4 * length (flat (lists_in (length l) (drop p b)))) 0)
        → (t : Bool) → (leb n limit && leb (4 * suc n) (length (drop at b))) ≡ t
        → lists_end l b (list_end limit b at)
        ≡ cond ((leb n limit && leb (4 * suc n) (length (drop at b))) && lists_good l (drop (4 * suc n) (drop at b))) (at + 4 * length (flat (lists_in (suc (length l)) (drop at b)))) 0
    go rest true e =
        let long : 4 * suc n ≤ length (drop at b) = leb-true (4 * suc n) (length (drop at b)) (and_both (leb n limit) (leb (4 * suc n) (length (drop at b))) e).1 in
        let left : length (drop at b) ≡ length b - at = length-drop at b in
        let d : drop (4 * suc n) (drop at b) ≡ drop (at + 4 * suc n) b = drop-drop (4 * suc n) at b in
        let sum : (at + 4 * suc n) + 4 * length (flat (lists_in (length l) (drop (4 * suc n) (drop at b)))) ≡ at + 4 * length (flat (lists_in (suc (length l)) (drop at b))) =
        rw (lists-size (length l) (drop at b)) (omega arith) in
        ap (lists_end l b) (list-passed limit b at true h e)
        ∙ rest (at + 4 * suc n) (omega arith) (omega arith)
        ∙ rw (← d, e, sum)
    go rest false e = ap (lists_end l b) (list-passed limit b at false h e) ∙ no-list l b ∙ rw e

lists-start : (l s : List ℕ) → Bytes s → (within l (lists_in (length l) s) && starts (lists (lists_in (length l) s)) s) ≡ lists_good l s
unfolding within lists lists_in lists_good
lists-start [] s b = unfold starts in refl
lists-start (limit ∷ l) s b =
    let n : ℕ = number 4 s in
    let one : List ℕ = words_in n (drop 4 s) in
    let rest : List ℕ = lists (lists_in (length l) (drop (4 * suc n) s)) in
    let e : words (length one ∷ one) ≡ words (words_in (suc n) s) = ap words (rw (length-words_in n (drop 4 s)) (unfold words_in in refl)) in
    let first : starts (words (length one ∷ one)) s ≡ leb (4 * suc n) (length s) = ap (λ (a : List ℕ). starts a s) e ∙ words-start (suc n) s b in
    let long : length (words (length one ∷ one)) ≡ 4 * suc n = length-words (length one ∷ one) ∙ rw (length-words_in n (drop 4 s)) in
    let both : starts (words (length one ∷ one) ++ rest) s ≡ (leb (4 * suc n) (length s) && starts rest (drop (4 * suc n) s)) =
    starts-both (words (length one ∷ one)) rest s ∙ rw (first, long) in
    rw (both, length-words_in n (drop 4 s), ← lists-start l (drop (4 * suc n) s) (below-drop 256 (4 * suc n) s b))
    (exchange (leb n limit) (within l (lists_in (length l) (drop (4 * suc n) s))) (leb (4 * suc n) (length s)) (starts rest (drop (4 * suc n) s)))

-- ---- the fixed part

module _ (k : ℕ) (h : k < 10) where
  pub limits-many : length (get_or list_limits_of k []) ≡ word list_counts k
  unfolding all_below
  limits-many =
      eqb-true (length (get_or list_limits_of k [])) (word list_counts k) (all_below-at (λ j. eqb (length (get_or list_limits_of j [])) (word list_counts j)) 10 k refl h)

-- the image of fields, part by part
pub starts-record : (k : ℕ) (g : Fields) (s : List ℕ) → length g.words ≡ word word_counts k → length g.floats ≡ word float_counts k
    → starts (record_image k g) s
    ≡ (starts (little 2 (mark_of k g.office)) s && starts (words g.words) (drop 2 s) && starts (floats g.floats) (drop (2 + 4 * word word_counts k) s) && starts (lists g.lists) (drop (fixed_size k) s))
unfolding record_image
starts-record k g s w f =
    let m : List ℕ = little 2 (mark_of k g.office) in
    let a : length m ≡ 2 = length-little 2 (mark_of k g.office) in
    let b : length (words g.words) ≡ 4 * word word_counts k = length-words g.words ∙ ap (λ (n : ℕ). 4 * n) w in
    let c : length (floats g.floats) ≡ 8 * word float_counts k = length-floats g.floats ∙ ap (λ (n : ℕ). 8 * n) f in
    let mw : length (m ++ words g.words) ≡ 2 + 4 * word word_counts k = length-append m (words g.words) ∙ ap₂ ◌+◌ a b in
    let mwf : length (m ++ words g.words ++ floats g.floats) ≡ fixed_size k = length-append (m ++ words g.words) (floats g.floats) ∙ ap₂ ◌+◌ mw c in
    starts-both (m ++ words g.words ++ floats g.floats) (lists g.lists) s
    ∙ rw (starts-both (m ++ words g.words) (floats g.floats) s, starts-both m (words g.words) s, a, mw, mwf)

-- room for the parts is room for all of them
room : (a c long : ℕ) → (leb 2 long && leb (4 * a) (long - 2) && leb (8 * c) (long - (2 + 4 * a))) ≡ leb (2 + 4 * a + 8 * c) long
room a c long =
    both_ways _ _
    (λ e. let f = and_both (leb 2 long && leb (4 * a) (long - 2)) (leb (8 * c) (long - (2 + 4 * a))) e in
    let g = and_both (leb 2 long) (leb (4 * a) (long - 2)) f.0 in
    let p : 2 ≤ long = leb-true 2 long g.0 in
    let q : 4 * a ≤ long - 2 = leb-true (4 * a) (long - 2) g.1 in
    let r : 8 * c ≤ long - (2 + 4 * a) = leb-true (8 * c) (long - (2 + 4 * a)) f.1 in
    le-leb (2 + 4 * a + 8 * c) long (omega arith))
    (λ e. let p : 2 + 4 * a + 8 * c ≤ long = leb-true (2 + 4 * a + 8 * c) long e in
    rw (le-leb 2 long (omega arith), le-leb (4 * a) (long - 2) (omega arith)) (le-leb (8 * c) (long - (2 + 4 * a)) (omega arith)))

-- all tests, in the order in which the definition has them and in that of the code
reorder : (w t d m e x g y l : Bool) → ((w && t) && ((d && m) && (e && x) && (g && y) && l)) ≡ (((d && e && g) && (m && ((x && y) && t))) && (w && l))
reorder w t false m e x g y l = and-false (w && t)
reorder w t true m false x g y l = rw (and-false m) (and-false (w && t))
reorder w t true m true x false y l = rw (and-false (m && x)) (and-false (w && t))
reorder w t true false true x true y l = and-false (w && t)
reorder w t true true true false true y l = and-false (w && t)
reorder w t true true true true true false l = and-false (w && t)
reorder w t true true true true true true l = ap (λ (v : Bool). v && l) (and_comm w t) ∙ and_assoc t w l

module _ (k : ℕ) (h : k < 10) (s : List ℕ) (b : Bytes s) where
  abbrev g : Fields
  g = spelled k (fields_here k s)

  abbrev rest : List ℕ
  rest = drop (fixed_size k) s

  its-words : starts (words g.words) (drop 2 s) ≡ (leb (4 * word word_counts k) (length s - 2) && same_bytes g.words (fields_here k s).words)
  unfolding fields_here
  its-words =
      let p = all-spelled s b k h in
      starts-words g.words (drop 2 s) p.fits.small (below-drop 256 2 s b)
      ∙ rw (p.fits.words, length-drop 2 s, words-in (word word_counts k) (drop 2 s), numbers-at 4 (word word_counts k) 2 s)

  its-floats : starts (floats g.floats) (drop (2 + 4 * word word_counts k) s)
      ≡ (leb (8 * word float_counts k) (length s - (2 + 4 * word word_counts k)) && same_bytes (patterns g.floats) (numbers_at 8 (word float_counts k) (2 + 4 * word word_counts k) s))
  its-floats =
      let p = all-spelled s b k h in
      let n : ℕ = 2 + 4 * word word_counts k in
      starts-floats g.floats (drop n s) p.fits.double (below-drop 256 n s b)
      ∙ rw (p.fits.floats, length-drop n s, numbers-at 8 (word float_counts k) n s)

  its-lists : (within (get_or list_limits_of k []) (fields_here k s).lists && starts (lists g.lists) rest) ≡ lists_good (get_or list_limits_of k []) rest
  unfolding fields_here
  its-lists =
      let p = all-spelled s b k h in
      rw (p.lists-same, ← limits-many k h) (lists-start (get_or list_limits_of k []) rest (below-drop 256 (fixed_size k) s b))

  pub record-good : record_good k s ≡ ((leb (fixed_size k) (length s) && fixed_good k s) && lists_good (get_or list_limits_of k []) (drop (fixed_size k) s))
  unfolding record_good fixed_good
  record-good =
      let p = all-spelled s b k h in
      rw (
        fields-here k s,
        p.held,
        starts-record k g s p.fits.words p.fits.floats,
        starts-little 2 (mark_of k g.office) s p.fits.mark.narrow b,
        p.marked,
        its-words,
        its-floats,
        ← its-lists,
        ← p.kept,
        ← room (word word_counts k) (word float_counts k) (length s),
      )
      (reorder
      (within (get_or list_limits_of k []) (fields_here k s).lists)
      (tolerance_held k (fields_here k s))
      (leb 2 (length s))
      (mark_good k (number 2 s))
      (leb (4 * word word_counts k) (length s - 2))
      (same_bytes g.words (fields_here k s).words)
      (leb (8 * word float_counts k) (length s - (2 + 4 * word word_counts k)))
      (same_bytes (patterns g.floats) (numbers_at 8 (word float_counts k) (2 + 4 * word word_counts k) s))
      (starts (lists g.lists) rest))

-- ---- where it ends

pub record-size : (k : ℕ) (s : List ℕ) → record_size k s ≡ fixed_size k + 4 * length (flat (lists_in (word list_counts k) (drop (fixed_size k) s)))
unfolding record_size record_image fields_in
record-size k s =
    let a : ℕ = word word_counts k in
    let c : ℕ = word float_counts k in
    let m : List ℕ = little 2 (mark_of k (office_in k (number 2 s))) in
    let w : List ℕ = words_in a (drop 2 s) in
    let f : List Float = floats_in c (drop (2 + 4 * a) s) in
    let l : List (List ℕ) = lists_in (word list_counts k) (drop (fixed_size k) s) in
    let p : length (words w) ≡ 4 * a = length-words w ∙ ap (λ (n : ℕ). 4 * n) (length-words_in a (drop 2 s)) in
    let q : length (floats f) ≡ 8 * c = length-floats f ∙ ap (λ (n : ℕ). 8 * n) (length-floats_in c (drop (2 + 4 * a) s)) in
    length-append (m ++ words w ++ floats f) (lists l)
    ∙ ap₂ ◌+◌ (length-append (m ++ words w) (floats f) ∙ ap₂ ◌+◌ (length-append m (words w) ∙ ap₂ ◌+◌ (length-little 2 (mark_of k (office_in k (number 2 s)))) p) q) (length-lists l)

pub record-end : (k : ℕ) → k < 10 → (b : List ℕ) → Bytes b → (at : ℕ) → 0 < at → at ≤ length b
    → record_end k b at
    ≡ cond (leb (fixed_size k) (length (drop at b)) && fixed_good k (drop at b)) (lists_end (get_or list_limits_of k []) b (at + fixed_size k)) 0
unfolding record_end
record-end k h b bytes at p q = rw (ne_eqb at 0 (λ e. omega arith), record-good k h (drop at b) (below-drop 256 at b bytes)) (go (leb n (length (drop at b)) && fixed_good k (drop at b)) refl)
  where
    n : ℕ
    n = fixed_size k

    l : List ℕ
    l = get_or list_limits_of k []

    go : (t : Bool) → (leb n (length (drop at b)) && fixed_good k (drop at b)) ≡ t
        → cond (t && lists_good l (drop n (drop at b))) (at + record_size k (drop at b)) 0 ≡ cond t (lists_end l b (at + n)) 0
    go true e =
        let long : n ≤ length (drop at b) = leb-true n (length (drop at b)) (and_both (leb n (length (drop at b))) (fixed_good k (drop at b)) e).0 in
        let left : length (drop at b) ≡ length b - at = length-drop at b in
        sym (lists-end l b (at + n) (omega arith) (omega arith)
        ∙ rw (← drop-drop n at b, limits-many k h, record-size k (drop at b)) (ap (λ (z : ℕ). cond (lists_good l (drop n (drop at b))) z 0) (add_assoc at n _)))
    go false e = refl
