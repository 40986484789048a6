-- Laws of sources and their parts. Assumes nothing.
use Rattle.std.specs.Prelude.{ℕ, ◌+◌, ◌*◌, ◌/◌, ◌%◌, ◌≤◌, ◌<◌, ◌≡◌, refl, Bool, true, false, cond, List, [], ◌∷◌, ◌++◌, map, eqb, ltb, length, get_or, set, take}
use Rattle.std.proofs.Common.{arith, le_trans, zero-add, add-zero, mod-lt, mod-eq_of_lt, sym, ap, ◌∙◌, subst, length-append}
use Rattle.std.proofs.Math.Nat.{mul-add-div, mul-add-mod_self_left, div-eq_of_lt}
use Rattle.std.proofs.lemmas.List.{length-map}
use borrow.Author.Tests.{ltb-true, eq-eqb, ne_eqb}
use Rattle.meaning.specs.Lists.{all, joined, all_below}
use Rattle.meaning_list_laws.specs.Tests.{and_both, all_below-at}
use Rattle.meaning_list_laws.specs.Lists.{all-weaken}
use Rattle.memory_layout.specs.Layout.{word_strides, word, words_of}
use Rattle.memory_layout.specs.Entries.{list_tables, list_of}
use Rattle.memory_layout.specs.Fit.{Lists}
use Rattle.memory_layout.specs.Laws.{capacity-le, before-tables, limit-le}
use Rattle.memory_layout.proofs.Laws.{listed_le}
use Rattle.walk_marks.specs.Marks.{puts}
use Rattle.walk_marks.specs.Laws.{joined-turn, puts_none, puts-append}
use Rattle.walk_sources.specs.Sources.{entry_tables, fin_edge, end_of, ends_in, part_in, part_of, sourced, followed, Source, Took}

-- ---- a used record lies within the words

pub used-words : (room w : List ℕ) (k : ℕ) → Lists room w → k < 10 → k < length w
used-words room w k f h =
    let b = before-tables 11 word_strides room 10 in
    omega (arith, f.words)

pub entry-table : (j : ℕ) → j < 8 → word entry_tables j < 10
unfolding all_below
entry-table j h = ltb-true (word entry_tables j) 10 (all_below-at (λ i. ltb (word entry_tables i) 10) 8 j refl h)

-- ---- how long a list is

pub list-short : (room w : List ℕ) (j i : ℕ) → Lists room w → j < 8 → i < word w (word list_tables j) → length (list_of room w j i) ≤ 1024
list-short room w j i f h g = le_trans (listed_le room w j i f h g) (limit-le j h)

-- ---- what is followed

pub followed-slot : (room w : List ℕ) (j i : ℕ) → followed room w j i ≡ true → i < word w (word list_tables j)
unfolding followed
followed-slot room w j i e = ltb-true i (word w (word list_tables j)) (and_both (ltb i (word w (word list_tables j))) (all (λ x. ltb x (word w (word entry_tables j))) (list_of room w j i)) e).0

pub followed-entries : (room w : List ℕ) (j i : ℕ) → followed room w j i ≡ true → all (λ x. ltb x (word w (word entry_tables j))) (list_of room w j i) ≡ true
unfolding followed
followed-entries room w j i e = (and_both (ltb i (word w (word list_tables j))) (all (λ x. ltb x (word w (word entry_tables j))) (list_of room w j i)) e).1

pub followed-small : (room w : List ℕ) (j i : ℕ) → Lists room w → j < 8 → followed room w j i ≡ true → all (λ x. ltb x 4096) (list_of room w j i) ≡ true
followed-small room w j i f h e =
    all-weaken (word w (word entry_tables j)) 4096 (list_of room w j i)
    (le_trans (f.counts (word entry_tables j) (entry-table j h)) (capacity-le room f.small (word entry_tables j) (entry-table j h)))
    (followed-entries room w j i e)

-- ---- sources

pub sourced-append : (k : ℕ) (a b : List ℕ) → sourced k (a ++ b) ≡ sourced k a ++ sourced k b
unfolding sourced
sourced-append k [] b = refl
sourced-append k (x ∷ a) b = ap (λ l. (8 * x + k) ∷ l) (sourced-append k a b)

pub sourced-length : (k : ℕ) (l : List ℕ) → length (sourced k l) ≡ length l
unfolding sourced
sourced-length k l = length-map l (λ i. 8 * i + k)

pub source-list : (i k : ℕ) → k < 8 → (8 * i + k) % 8 ≡ k
source-list i k h = mul-add-mod_self_left 8 i k ∙ mod-eq_of_lt h

pub source-record : (i k : ℕ) → k < 8 → (8 * i + k) / 8 ≡ i
source-record i k h = mul-add-div (omega arith) i k ∙ ap (λ n. i + n) (div-eq_of_lt h) ∙ add-zero i

-- one more record's list behind those gathered
pub gather-turn : (f : ℕ → List ℕ) (d ids : List ℕ) (m k i n : ℕ) (out next b : List ℕ) → i < length ids → b ≡ f (get_or ids i 0) → n ≡ m + length (joined f (take i ids))
    → out ≡ puts d m (sourced k (joined f (take i ids))) → next ≡ puts out n (sourced k b)
    → (n + length b ≡ m + length (joined f (take (i + 1) ids))) × (next ≡ puts d m (sourced k (joined f (take (i + 1) ids))))
gather-turn f d ids m k i n out next b h same e o q =
    let a : List ℕ = joined f (take i ids) in
    let more : joined f (take (i + 1) ids) ≡ a ++ b = joined-turn f ids i h ∙ ap (λ l. a ++ l) (sym same) in
    let place : n ≡ m + length (sourced k a) = e ∙ ap (λ n. m + n) (sym (sourced-length k a)) in (
      omega (arith, ap length more, length-append a b),
      q
          ∙ ap (λ t. puts t n (sourced k b)) o
          ∙ ap (λ i. puts (puts d m (sourced k a)) i (sourced k b)) place
          ∙ sym (puts-append d m (sourced k a) (sourced k b))
          ∙ ap (puts d m) (sym (sourced-append k a b) ∙ ap (sourced k) (sym more)),
    )

-- ---- the part of a source

module _ (room w : List ℕ) (source : ℕ) where
  pub part-ends : source % 8 ≡ 7 → part_of room w source ≡ ends_in (words_of room w 6 (source / 8))
  unfolding part_of part_in
  part-ends e = rw e

  pub part-fins : source % 8 ≡ 6 → part_of room w source ≡ map (fin_edge room w) (list_of room w (source % 8) (source / 8))
  unfolding part_of part_in
  part-fins e = rw e

  pub part-list : (source % 8 ≡ 7 → ⊥) → (source % 8 ≡ 6 → ⊥) → part_of room w source ≡ list_of room w (source % 8) (source / 8)
  unfolding part_of part_in
  part-list e f = rw (ne_eqb (source % 8) 7 e, ne_eqb (source % 8) 6 f)

  pub source-slot : (k : ℕ) → Source room w source → source % 8 ≡ k → source / 8 < word w (word list_tables k)
  source-slot k s e = subst (λ j. source / 8 < word w (word list_tables j)) e s.slot

  pub source-fins : (ids : List ℕ) → Source room w source → source % 8 ≡ 6 → ids ≡ list_of room w (source % 8) (source / 8) → all (λ x. ltb x (word w 5)) ids ≡ true
  source-fins ids s e q = ap (all (λ x. ltb x (word w 5))) (q ∙ ap (λ j. list_of room w j (source / 8)) e) ∙ s.fins e

  pub source-kind : source % 8 < 8
  source-kind = mod-lt source (omega arith)

-- ---- what was put into a buffer

pub took-same : (p q d buf : List ℕ) (n : ℕ) → p ≡ q → Took p d buf n → Took q d buf n
took-same p q d buf n e t = subst (λ l. Took l d buf n) e t

pub took-ids : (p ids d buf : List ℕ) → p ≡ ids → length ids ≤ 1024 → buf ≡ puts d 0 ids → Took p d buf (length ids)
took-ids p ids d buf e h q = record { count = ap length (sym e); short = h; list = q ∙ ap (puts d 0) (sym e) }

pub took-fins : (room w p fins d buf : List ℕ) → p ≡ map (fin_edge room w) fins → length fins ≤ 1024 → buf ≡ puts d 0 (map (fin_edge room w) fins) → Took p d buf (length fins)
took-fins room w p fins d buf e h q =
    record { count = sym (ap length e ∙ length-map fins (fin_edge room w)); short = h; list = q ∙ ap (puts d 0) (sym e) }

-- an end, none or some
pub end_none : (tag x n : ℕ) (d : List ℕ) → tag ≡ 0 → (n ≡ n + length (end_of tag x)) × (d ≡ puts d n (end_of tag x))
end_none tag x n d e = rw (eq-eqb tag 0 e) (omega arith, sym (puts_none d n))

pub end-some : (tag x n : ℕ) (d next : List ℕ) → (tag ≡ 0 → ⊥) → next ≡ set d n x → (n + 1 ≡ n + length (end_of tag x)) × (next ≡ puts d n (end_of tag x))
unfolding puts
end-some tag x n d next e q = rw (ne_eqb tag 0 e) (omega arith, q)

pub end_short : (tag x : ℕ) → length (end_of tag x) ≤ 1
end_short tag x = by (eqb tag 0)
  where
    by : (b : Bool) → length (cond b [] (x ∷ [])) ≤ 1
    by true = omega arith
    by false = omega arith

pub took-ends : (s d one two : List ℕ) (n r : ℕ) → (n ≡ 0 + length (end_of (word s 0) (word s 1))) × (one ≡ puts d 0 (end_of (word s 0) (word s 1)))
    → (r ≡ n + length (end_of (word s 2) (word s 3))) × (two ≡ puts one n (end_of (word s 2) (word s 3))) → Took (ends_in s) d two r
took-ends s d one two n r a b =
    let f : List ℕ = end_of (word s 0) (word s 1) in
    let g : List ℕ = end_of (word s 2) (word s 3) in
    record {
      count = b.0 ∙ ap (λ k. k + length g) (a.0 ∙ zero-add (length f)) ∙ sym (length-append f g);
      short = omega (arith, a.0, b.0, end_short (word s 0) (word s 1), end_short (word s 2) (word s 3));
      list = b.1 ∙ ap (λ t. puts t n g) a.1 ∙ ap (λ k. puts (puts d 0 f) k g) a.0 ∙ sym (puts-append d 0 f g);
    }
