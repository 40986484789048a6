-- A record with another list: that list is the one, and every other field and list of the record is as it was. Assumes nothing.
use Prim.Native.Nat.{ℕ, zero, suc, ◌+◌, ◌≤◌, ◌<◌}
use Rattle.std.proofs.Common.{add-zero, add-one, arith, sym, ◌∙◌, drop-drop, le-leb}
use Rattle.std.specs.Prelude.{◌≡◌, true, ◌&&◌, leb, length, drop, Float}
use Rattle.std.proofs.Math.Path.{ap}
use mathlib.Core.List.{List, ◌∷◌}
use Rattle.std.proofs.Math.ListN.{take}
use Rattle.std.proofs.Math.Seq.{take-append_seam}
use Rattle.meaning_list_laws.specs.Tests.{and_both}
use Rattle.memory_layout.specs.Layout.{word_strides, word, real}
use Rattle.memory_layout.specs.Decode.{list_at, body_of, region_of, shell_of, face_of, loop_of, edge_of}
use Rattle.memory_layout.specs.Readable.{own_ok, record_ok}
use Rattle.memory_layout.specs.Entries.{list_tables, list_places, list_limits}
use Rattle.memory_writes.specs.Put.{over}
use Rattle.memory_writes.specs.Over.{entry-before, entry-behind, entry-written, drop-at-over, part-before, part-behind}
use Rattle.edit_lists.specs.Place.{with_list}

module _ (at : ℕ) (l w : List ℕ) (fits : at + suc (length l) ≤ length w) where
  -- the words before and behind the list, and its length
  pub word-before : (q : ℕ) → q < at → word (with_list at l w) q ≡ word w q
  unfolding with_list
  word-before q h = entry-before at q (length l ∷ l) w 0 h (omega arith)

  pub word-behind : (q : ℕ) → at + suc (length l) ≤ q → word (with_list at l w) q ≡ word w q
  unfolding with_list
  word-behind q h = entry-behind at q (length l ∷ l) w 0 h fits

  pub word-length : word (with_list at l w) at ≡ length l
  unfolding with_list
  word-length = ap (word (over at (length l ∷ l) w)) (sym (add-zero at)) ∙ entry-written at 0 (length l ∷ l) w 0 (omega arith) (omega arith)

  -- the list, and the lists before and behind it
  entries-there : take (length l) (drop (suc at) (with_list at l w)) ≡ l
  unfolding with_list
  entries-there =
      ap (λ (q : ℕ). take (length l) (drop q (over at (length l ∷ l) w))) (sym (add-one at))
      ∙ ap (take (length l)) (sym (drop-drop 1 at (over at (length l ∷ l) w)))
      ∙ ap (λ (r : List ℕ). take (length l) (drop 1 r)) (drop-at-over at (length l ∷ l) w (omega arith))
      ∙ take-append_seam l (drop (at + suc (length l)) w)

  pub list-there : list_at (with_list at l w) at ≡ l
  unfolding list_at
  list-there = ap (λ (n : ℕ). take n (drop (suc at) (with_list at l w))) word-length ∙ entries-there

  pub list-before : (q : ℕ) → q + suc (word w q) ≤ at → list_at (with_list at l w) q ≡ list_at w q
  unfolding list_at with_list
  list-before q h =
      ap (λ (n : ℕ). take n (drop (suc q) (over at (length l ∷ l) w))) (word-before q (omega arith))
      ∙ part-before at (suc q) (word w q) (length l ∷ l) w (omega arith) (omega arith)

  pub list-behind : (q : ℕ) → at + suc (length l) ≤ q → list_at (with_list at l w) q ≡ list_at w q
  unfolding list_at with_list
  list-behind q h =
      ap (λ (n : ℕ). take n (drop (suc q) (over at (length l ∷ l) w))) (word-behind q h)
      ∙ part-behind at (suc q) (word w q) (length l ∷ l) w (omega arith) fits

-- ---- each of the eight lists: 0 a body's regions, 1 a region's shells, 2 a shell's faces, 3 its wire edges, 4 its acorn vertices, 5 a face's loops, 6 a loop's fins,
-- 7 an edge's fins

module _ (l w : List ℕ) where
  pub body-list : length w ≡ 19 → length l ≤ 16 → body_of (with_list 2 l w) ≡ record { kind = (body_of w).kind; office = (body_of w).office; regions = l }
  body-list e h = rw (word-before 2 l w (omega arith) 0 (omega arith), word-before 2 l w (omega arith) 1 (omega arith), list-there 2 l w (omega arith))

  pub region-list : length w ≡ 19 → length l ≤ 16 → region_of (with_list 2 l w) ≡ record { body = (region_of w).body; solid = (region_of w).solid; shells = l }
  region-list e h =
      rw (word-before 2 l w (omega arith) 0 (omega arith), word-before 2 l w (omega arith) 1 (omega arith), list-there 2 l w (omega arith))

  pub shell-faces : length w ≡ 836 → length l ≤ 512
      → shell_of (with_list 1 l w) ≡ record { region = (shell_of w).region; faces = l; wire_edges = (shell_of w).wire_edges; acorn_vertices = (shell_of w).acorn_vertices }
  shell-faces e h =
      rw (
        word-before 1 l w (omega arith) 0 (omega arith),
        list-there 1 l w (omega arith),
        list-behind 1 l w (omega arith) 514 (omega arith),
        list-behind 1 l w (omega arith) 771 (omega arith),
      )

  pub shell-wires : length w ≡ 836 → word w 1 ≤ 512 → length l ≤ 256
      → shell_of (with_list 514 l w) ≡ record { region = (shell_of w).region; faces = (shell_of w).faces; wire_edges = l; acorn_vertices = (shell_of w).acorn_vertices }
  shell-wires e f h =
      rw (
        word-before 514 l w (omega arith) 0 (omega arith),
        list-before 514 l w (omega arith) 1 (omega arith),
        list-there 514 l w (omega arith),
        list-behind 514 l w (omega arith) 771 (omega arith),
      )

  pub shell-acorns : length w ≡ 836 → word w 1 ≤ 512 → word w 514 ≤ 256 → length l ≤ 64
      → shell_of (with_list 771 l w) ≡ record { region = (shell_of w).region; faces = (shell_of w).faces; wire_edges = (shell_of w).wire_edges; acorn_vertices = l }
  shell-acorns e f g h =
      rw (
        word-before 771 l w (omega arith) 0 (omega arith),
        list-before 771 l w (omega arith) 1 (omega arith),
        list-before 771 l w (omega arith) 514 (omega arith),
        list-there 771 l w (omega arith),
      )

  pub face-list : length w ≡ 24 → length l ≤ 16
      → face_of (with_list 7 l w)
      ≡ record { front = (face_of w).front; back = (face_of w).back; loops = l; surface = (face_of w).surface; sense = (face_of w).sense }
  face-list e h =
      let before : (q : ℕ) → q < 7 → word (with_list 7 l w) q ≡ word w q = word-before 7 l w (omega arith) in
      rw (
        before 0 (omega arith),
        before 1 (omega arith),
        before 2 (omega arith),
        before 3 (omega arith),
        before 4 (omega arith),
        before 5 (omega arith),
        before 6 (omega arith),
        list-there 7 l w (omega arith),
      )

  pub loop-list : length w ≡ 1026 → length l ≤ 1024 → loop_of (with_list 1 l w) ≡ record { face = (loop_of w).face; fins = l }
  loop-list e h = rw (word-before 1 l w (omega arith) 0 (omega arith), list-there 1 l w (omega arith))

  pub edge-list : (x : List Float) → length w ≡ 16 → length l ≤ 8
      → edge_of (with_list 7 l w) x
      ≡ record { fins = l; start = (edge_of w x).start; end = (edge_of w x).end; curve = (edge_of w x).curve; tolerance = (edge_of w x).tolerance }
  edge-list x e h =
      let before : (q : ℕ) → q < 7 → word (with_list 7 l w) q ≡ word w q = word-before 7 l w (omega arith) in
      rw (
        before 0 (omega arith),
        before 1 (omega arith),
        before 2 (omega arith),
        before 3 (omega arith),
        before 4 (omega arith),
        before 5 (omega arith),
        before 6 (omega arith),
        list-there 7 l w (omega arith),
      )

-- the record's own test passes as before, if the list is within its limit
pub still-ok : (j : ℕ) (l w : List ℕ) (x : List Float) → j < 8 → length w ≡ word word_strides (word list_tables j) → length l ≤ word list_limits j → record_ok (word list_tables j) w x ≡ true
    → record_ok (word list_tables j) (with_list (word list_places j) l w) x ≡ true
unfolding record_ok
still-ok zero l w x i e h ok =
    let a = and_both (leb (word w 0) 4) (leb (word w 1) 1) (and_both (leb (word w 0) 4 && leb (word w 1) 1) (leb (word w 2) 16) ok).0 in
    rw (word-before 2 l w (omega arith) 0 (omega arith), word-before 2 l w (omega arith) 1 (omega arith), word-length 2 l w (omega arith), le-leb (length l) 16 h, a.0, a.1)
still-ok (suc zero) l w x i e h ok =
    rw (word-before 2 l w (omega arith) 1 (omega arith), word-length 2 l w (omega arith), le-leb (length l) 16 h, (and_both (leb (word w 1) 1) (leb (word w 2) 16) ok).0)
still-ok (suc (suc zero)) l w x i e h ok =
    let a = and_both (leb (word w 1) 512 && leb (word w 514) 256) (leb (word w 771) 64) ok in
    let b = and_both (leb (word w 1) 512) (leb (word w 514) 256) a.0 in
    rw (
      word-length 1 l w (omega arith),
      word-behind 1 l w (omega arith) 514 (omega arith),
      word-behind 1 l w (omega arith) 771 (omega arith),
      le-leb (length l) 512 h,
      b.1,
      a.1,
    )
still-ok (suc (suc (suc zero))) l w x i e h ok =
    let a = and_both (leb (word w 1) 512 && leb (word w 514) 256) (leb (word w 771) 64) ok in
    let b = and_both (leb (word w 1) 512) (leb (word w 514) 256) a.0 in
    rw (
      word-before 514 l w (omega arith) 1 (omega arith),
      word-length 514 l w (omega arith),
      word-behind 514 l w (omega arith) 771 (omega arith),
      le-leb (length l) 256 h,
      b.0,
      a.1,
    )
still-ok (suc (suc (suc (suc zero)))) l w x i e h ok =
    let a = and_both (leb (word w 1) 512 && leb (word w 514) 256) (leb (word w 771) 64) ok in
    rw (
      word-before 771 l w (omega arith) 1 (omega arith),
      word-before 771 l w (omega arith) 514 (omega arith),
      word-length 771 l w (omega arith),
      le-leb (length l) 64 h,
      a.0,
    )
still-ok (suc (suc (suc (suc (suc zero))))) l w x i e h ok =
    let before : (q : ℕ) → q < 7 → word (with_list 7 l w) q ≡ word w q = word-before 7 l w (omega arith) in
    let a = and_both (leb (word w 0) 1 && leb (word w 2) 1 && leb (word w 4) 1 && leb (word w 6) 1) (leb (word w 7) 16) ok in
    rw (
      before 0 (omega arith),
      before 2 (omega arith),
      before 4 (omega arith),
      before 6 (omega arith),
      word-length 7 l w (omega arith),
      le-leb (length l) 16 h,
      a.0,
    )
still-ok (suc (suc (suc (suc (suc (suc zero)))))) l w x i e h ok = rw (word-length 1 l w (omega arith)) (le-leb (length l) 1024 h)
still-ok (suc (suc (suc (suc (suc (suc (suc zero))))))) l w x i e h ok =
    let before : (q : ℕ) → q < 7 → word (with_list 7 l w) q ≡ word w q = word-before 7 l w (omega arith) in
    let a =
    and_both (leb (word w 0) 1 && leb (word w 2) 1 && leb (word w 4) 1 && leb (word w 6) 1 && leb (word w 7) 8) (own_ok (word w 6) (real x 0)) ok in
    let b = and_both (leb (word w 0) 1 && leb (word w 2) 1 && leb (word w 4) 1 && leb (word w 6) 1) (leb (word w 7) 8) a.0 in
    rw (
      before 0 (omega arith),
      before 2 (omega arith),
      before 4 (omega arith),
      before 6 (omega arith),
      word-length 7 l w (omega arith),
      le-leb (length l) 8 h,
      b.0,
      a.1,
    )
still-ok (suc (suc (suc (suc (suc (suc (suc (suc j)))))))) l w x i e h ok = absurd (omega arith)
