-- What editing a list does to the model. `Records.antt` says which record a list makes; here, that nothing else changes, and that the memory stays readable.
-- Assumes nothing.
use Prim.Native.Nat.{ℕ, suc, ◌+◌, ◌≤◌, ◌<◌}
use Rattle.std.proofs.Common.{le_trans, arith, sym, ap, ◌∙◌, subst, length-drop, take-append-drop}
use Rattle.std.specs.Prelude.{◌≡◌, true, take, drop, set, Float}
use mathlib.Core.List.{List, [], ◌∷◌, ◌++◌}
use Rattle.std.proofs.Math.ListN.{length, length-set, length-append}
use Rattle.meaning.specs.Edits.{appended}
use Rattle.memory_layout.specs.Layout.{word_strides, real_strides, word, real_at, reals_needed, words_of, reals_of}
use Rattle.memory_layout.specs.Decode.{decode}
use Rattle.memory_layout.specs.Readable.{readable}
use Rattle.memory_layout.specs.Entries.{list_tables, list_places, list_limits, list_of, entry_refusal}
use Rattle.memory_layout.specs.Fit.{Inside, Fit}
use Rattle.memory_layout.specs.Laws.{record-inside, used-inside, list-table, list-room, lists_of, entry-standing}
use Rattle.memory_layout.proofs.Laws.{listed_le}
use Rattle.memory_layout.proofs.Laws.{words-length, reals-length}
use Rattle.memory_writes.specs.Put.{put_words, put_reals}
use Rattle.memory_writes.specs.Over.{length_over, over-same}
use Rattle.memory_writes.specs.Change.{SameModel, with_record}
use Rattle.memory_writes.specs.Kept.{readable_of, model-put, fit-put}
use Rattle.edit_lists.specs.Place.{struck, with_list}
use Rattle.edit_lists.specs.Answers.{list_words, put_entry_words, append_number, append_entry_words}
use Rattle.edit_lists.specs.Laws.{list_put, append-open}
use Rattle.edit_lists.specs.Records.{still-ok}

-- record i is the one with l as its list j, every other record is as it was; and the memory stays readable
pub record Relisted (room w w' : List ℕ) (x : List Float) (j i : ℕ) (l : List ℕ) : Type 0 where
  pub model : SameModel (decode room w' x)
      (with_record (word list_tables j) i (with_list (word list_places j) l (words_of room w (word list_tables j) i)) (reals_of room x (word list_tables j) i) (decode room w x))
  pub readable : readable room w' x ≡ true

list-whole : (at : ℕ) (l w : List ℕ) (n : ℕ) → length w ≡ n → at + suc (length l) ≤ n → length (with_list at l w) ≡ n
unfolding with_list
list-whole at l w n e h = length_over at (length l ∷ l) w (omega arith) ∙ e

reals-same : (room : List ℕ) (x : List Float) (k i : ℕ) → Inside (reals_needed room) (length x) room k i → put_reals room k i (reals_of room x k i) x ≡ x
unfolding put_reals reals_of
reals-same room x k i a =
    over-same (real_at room k i) (word real_strides k) x (le_trans (record-inside 1 real_strides room k i a.table a.slot) a.enough)

pub relisted : (room w : List ℕ) (x : List Float) (j i : ℕ) (l : List ℕ) → Fit room w x → j < 8 → i < word w (word list_tables j) → length l ≤ word list_limits j
    → Relisted room w (list_words room w j i l) x j i l
relisted room w x j i l f h g n =
    let k : ℕ = word list_tables j in
    let old : List ℕ = words_of room w k i in
    let r : List ℕ = with_list (word list_places j) l old in
    let s : List Float = reals_of room x k i in
    let t : k < 10 = list-table j h in
    let a = used-inside room w x k i f.sized t g in
    let e : length old ≡ word word_strides k = words-length room w k i a.0 in
    let d : length s ≡ word real_strides k = reals-length room x k i a.1 in
    let c : length r ≡ word word_strides k = list-whole (word list_places j) l old (word word_strides k) e (let q = list-room j h in omega arith) in
    let same : put_reals room k i s x ≡ x = reals-same room x k i a.1 in
    let put : list_words room w j i l ≡ put_words room k i r w = list_put room w j i (lists_of room w x f) h g l n in
    let slot : i < word room k = a.0.slot in
    subst (λ (w' : List ℕ). Relisted room w w' x j i l) (sym put)
    (record {
      model =
          subst (λ (x' : List Float). SameModel (decode room (put_words room k i r w) x') (with_record k i r s (decode room w x))) same
          (model-put room w r x s k i f t slot c d g);
      readable =
          subst (λ (x' : List Float). readable room (put_words room k i r w) x' ≡ true) same
          (readable_of room (put_words room k i r w) (put_reals room k i s x) (fit-put room w r x s k i f t slot c d g (still-ok j l old s h e n (f.rows k i t g))));
    })

-- ---- the three calls, where they do not refuse

pub struck-le : (l : List ℕ) (place : ℕ) → length (struck l place) ≤ length l
unfolding struck
struck-le l place =
    let a = length-append (take place l) (drop (suc place) l) in
    let b = length-append (take place l) (drop place l) in
    let c = length-drop (suc place) l in
    let d = length-drop place l in
    let e : length (take place l ++ drop place l) ≡ length l = ap length (take-append-drop place l) in
    omega arith

module _ (room w : List ℕ) (x : List Float) (j i : ℕ) where
  pub entry-put : (place id : ℕ) → entry_refusal room w x j i place ≡ 0
      → Relisted room w (put_entry_words room w x j i place id) x j i (set (list_of room w j i) place id)
  unfolding put_entry_words
  entry-put place id z =
      let t = entry-standing room w x j i place z in
      let l : List ℕ = list_of room w j i in
      let a = listed_le room w j i (lists_of room w x t.fit) t.list t.record-there in
      let b : length (set l place id) ≡ length l = length-set l place id in
      rw z (relisted room w x j i (set l place id) t.fit t.list t.record-there (omega arith))

  pub entry-appended : (id : ℕ) → append_number room w x j i ≡ 0
      → Relisted room w (append_entry_words room w x j i id) x j i (appended (list_of room w j i) id)
  unfolding append_entry_words
  entry-appended id z =
      let t = append-open room w x j i z in
      let l : List ℕ = list_of room w j i in
      let a = t.room-there in
      let b = length-append l (id ∷ []) in
      rw z (relisted room w x j i (appended l id) t.fit t.list t.record-there (omega arith))
