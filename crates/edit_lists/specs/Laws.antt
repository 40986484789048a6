-- List j of record i, among all words. Assumes nothing.
use Prim.Native.Nat.{ℕ, suc, ◌+◌, ◌≤◌, ◌<◌}
use native.Mathlib.Omega.{arith}
use Rattle.std.specs.Prelude.{◌≡◌, length, ltb, Float}
use Rattle.std.proofs.Math.Path.{sym, ap}
use Rattle.std.proofs.Common.{◌∙◌, drop-drop, get_or-take, ltb-true}
use mathlib.Core.List.{List, ◌∷◌}
use Rattle.std.proofs.Math.ListN.{take, drop}
use Rattle.std.proofs.Math.Seq.{get_or-drop}
use Rattle.geom_lines_planes.specs.Refuse.{◌unless◌, ◌then◌}
use Rattle.meaning_list_laws.specs.Tests.{then-zero, unless-zero}
use Rattle.memory_layout.specs.Layout.{word_strides, word, word_at, words_of}
use Rattle.memory_layout.specs.Decode.{list_at}
use Rattle.memory_layout.specs.Entries.{list_tables, list_places, list_limits, list_of}
use Rattle.memory_layout.specs.Readable.{readable}
use Rattle.memory_layout.specs.Fit.{Held, Fit, Lists}
use Rattle.memory_layout.specs.Laws.{capacity-le, record-inside, list-room, list_inside, held-length, limit-le, fit_of}
use Rattle.memory_layout.proofs.Laws.{words-length, list_held}
use Rattle.memory_writes.specs.Put.{put_words}
use Rattle.memory_writes.specs.Over.{over-within, part-within}
use Rattle.edit_lists.specs.Place.{with_list}
use Rattle.edit_lists.specs.Answers.{list_start, list_words, append_number}

next : (at p : ℕ) → suc (at + p) ≡ at + suc p
next at p = omega arith

module _ (room w : List ℕ) (j i : ℕ) (f : Lists room w) (list-there : j < 8) (there : i < word w (word list_tables j)) where
  abbrev k : ℕ
  k = word list_tables j

  abbrev p : ℕ
  p = word list_places j

  inside : word_at room k i + word word_strides k ≤ length w
  inside =
      let a = list_inside room w j i f list-there there in
      let b = record-inside 11 word_strides room k i a.table a.slot in
      omega (arith, a.enough)

  in-record : Held (words_of room w k i) p
  in-record = list_held room w j i f list-there there

  record-long : length (words_of room w k i) ≡ word word_strides k
  record-long = words-length room w k i (list_inside room w j i f list-there there)

  pub start-length : word w (list_start room j i) ≡ word (words_of room w k i) p
  unfolding list_start words_of
  start-length =
      let e = record-long in
      let r = in-record in
      sym (get_or-take (word word_strides k) (drop (word_at room k i) w) p 0 (omega (arith, r.place)) ∙ get_or-drop (word_at room k i) w p 0)

  pub start-held : Held w (list_start room j i)
  unfolding list_start
  start-held =
      let e = record-long in
      let b = inside in
      let r = in-record in
      let c = r.whole in
      let d = r.place in
      let g = start-length in
      record { place = omega arith; whole = omega arith }

  pub start-list : list_at w (list_start room j i) ≡ list_of room w j i
  unfolding list_at list_of words_of list_start
  start-list =
      let e = record-long in
      let r = in-record in
      let c = r.whole in
      let d : List ℕ = drop (word_at room k i) w in
      let m : ℕ = word (words_of room w k i) p in
      ap (λ (n : ℕ). take n (drop (suc (word_at room k i + p)) w)) start-length
      ∙ ap (λ (q : ℕ). take m (drop q w)) (next (word_at room k i) p)
      ∙ ap (take m) (sym (drop-drop (suc p) (word_at room k i) w))
      ∙ sym (part-within (word word_strides k) (suc p) m d (omega arith))

  -- the write of a list is the write of its record
  pub list_put : (new : List ℕ) → length new ≤ word list_limits j
      → list_words room w j i new ≡ put_words room k i (with_list p new (words_of room w k i)) w
  unfolding list_words with_list put_words words_of list_start
  list_put new h =
      let r = list-room j list-there in
      sym (over-within (word_at room k i) p (word word_strides k) (length new ∷ new) w (omega arith) inside)

  -- and within the record
  pub start_small : (i ≤ 4096)
  start_small =
      let a = list_inside room w j i f list-there there in
      let c = capacity-le room f.small k a.table in
      let b = a.slot in
      omega arith

  pub start-entries : length (list_of room w j i) ≡ word w (list_start room j i)
  start-entries = ap length (sym start-list) ∙ held-length w (list_start room j i) start-held

  pub start-room : word w (list_start room j i) < word list_limits j → (list_start room j i + 1 + word w (list_start room j i) < length w) × (word w (list_start room j i) < 1024)
  unfolding list_start
  start-room h =
      let b = inside in
      let r = list-room j list-there in
      let l = limit-le j list-there in
      (omega arith, omega arith)

-- an entry more is not refused
pub record Room (room w : List ℕ) (x : List Float) (j i : ℕ) : Type 0 where
  pub fit : Fit room w x
  pub list : j < 8
  pub record-there : i < word w (word list_tables j)
  pub room-there : length (list_of room w j i) < word list_limits j

pub append-open : (room w : List ℕ) (x : List Float) (j i : ℕ) → append_number room w x j i ≡ 0 → Room room w x j i
unfolding append_number
append-open room w x j i e =
    let t : ℕ = word w (word list_tables j) in
    let n : ℕ = length (list_of room w j i) in
    let m : ℕ = word list_limits j in
    let a = then-zero (9 unless readable room w x) (1 unless ltb j 8 then 2 unless ltb i t then 8 unless ltb n m) e in
    let b = then-zero (1 unless ltb j 8) (2 unless ltb i t then 8 unless ltb n m) a.1 in
    let c = then-zero (2 unless ltb i t) (8 unless ltb n m) b.1 in
    record {
      fit = fit_of room w x (unless-zero 8 (readable room w x) a.0);
      list = ltb-true j 8 (unless-zero 0 (ltb j 8) b.0);
      record-there = ltb-true i t (unless-zero 1 (ltb i t) c.0);
      room-there = ltb-true n m (unless-zero 7 (ltb n m) c.1);
    }
