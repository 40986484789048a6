-- What the tests of a split leave known: there is room for all that it writes. Assumes nothing.
use Rattle.std.specs.Prelude.{ℕ, ◌+◌, ◌≤◌, ◌<◌, ◌≡◌, refl, Bool, true, false, cond, ◌&&◌, leb, Float}
use Rattle.std.proofs.Math.Nat.{le_trans}
use native.Mathlib.Omega.{arith}
use Rattle.std.proofs.Math.Decide.{dec_lt}
use Rattle.std.proofs.Common.{sym, ap, ◌∙◌}
use mathlib.Core.List.{List, [], ◌∷◌}
use Rattle.std.proofs.Math.Dec.{eqb, ltb}
use Rattle.std.proofs.Math.ListN.{length, get_or, length-map}
use borrow.Author.Tests.{leb-true, eqb-true, ltb-true}
use Rattle.geom_lines_planes.specs.Refuse.{◌unless◌, ◌then◌}
use Rattle.meaning.specs.Lists.{member, count, count_if, all, all_below, joined, place}
use Rattle.meaning.specs.Model.{Model}
use Rattle.meaning.specs.Split.{split_tests, split_refusal}
use Rattle.meaning.specs.Offices.{office_refusal, foreign_edge, edge_for, office_split_refusal}
use Rattle.meaning_list_laws.specs.Tests.{then-zero, unless-zero, and_both, all_below-at, none-refused}
use Rattle.meaning_list_laws.specs.Lists.{bound_of}
use Rattle.memory_layout.specs.Layout.{word, real, words_of}
use Rattle.memory_layout.specs.Decode.{sense_of, decode}
use Rattle.memory_layout.specs.Entries.{list_tables, list_places, list_limits, list_of}
use Rattle.memory_layout.specs.Readable.{readable}
use Rattle.memory_layout.specs.Fit.{Fit, Lists}
use Rattle.memory_layout.specs.Laws.{fit_of, lists_of, list_inside, list-room, limit-le}
use Rattle.memory_layout.proofs.Laws.{listed_le}
use Rattle.memory_layout.proofs.Laws.{words-length, list_held}
use Rattle.split_lists.specs.Beside.{entries_for}
use Rattle.split_lists.specs.BesideFacts.{Longer}
use Rattle.split_segment.specs.Segment.{segment_at}
use Rattle.split_fins.specs.Laws.{counts-listed}
use Rattle.split_fin_tests.specs.FinTests.{cut_at, fin_test}
use Rattle.split_place.specs.Place.{point_test, wire_test, owned_by, loop_test, tables_test, capacity_test}
use Rattle.split_place.specs.Facts.{Owned}
use Rattle.memory_layout.specs.Limits.{limits}
use Rattle.split_place.specs.SplitNumber.{split_number, office_split_number, edge_row, place_row, room_row}
use Rattle.split_place.specs.Laws.{Opened, opened, owned, place-rows, room-rows, split_rows, once-at}
use Rattle.split_pieces.specs.Pieces.{fin_word, fin_words}
use Rattle.split_pieces.specs.Facts.{Slots}
use Rattle.split_writes.specs.Facts.{Ready, Listing}
use Rattle.split_edge.specs.Facts.{Open}
use Rattle.split_edge.specs.Named.{entries-fin, entries-wire, eqb_swap, joined_length, beside-length, count_if-count, among}

-- the rows of an accepted split
pub record Accepted (room w : List ℕ) (x : List Float) (e : ℕ) (t : Float) : Type 0 where
  pub fit : Fit room w x
  pub opens : Opened room w x e
  pub owns : Owned room w (list_of room w 7 e)
  pub once : (k : ℕ) → k < length (list_of room w 7 e) → count (get_or (list_of room w 7 e) k 0) (list_of room w 6 (fin_word room w 0 (get_or (list_of room w 7 e) k 0))) ≡ 1
  pub capacity : capacity_test room w e (list_of room w 7 e) ≡ true

-- what an office's call has tested, where it is accepted, is the edge itself: the id of a foreign one would have failed test 2
pub office-accepted : (room w : List ℕ) (x : List Float) (o e : ℕ) (t : Float) → office_split_number room w x o e t ≡ 0 → (edge_for (decode room w x) o e ≡ e) × (split_number room w x e t ≡ 0)
unfolding office_split_number office_split_refusal edge_for split_number split_refusal
office-accepted room w x o e t z =
    let m = decode room w x in
    let a = then-zero (9 unless readable room w x) (office_split_refusal (limits room) m o e t) z in
    let b = then-zero (office_refusal o) (split_refusal (limits room) m (edge_for m o e) t) a.1 in
    let there = ltb-true (edge_for m o e) m.edges.used (unless-zero 1 _ (none-refused (split_tests (limits room) m (edge_for m o e) t) b.1 1)) in
    by (foreign_edge m o e) a.0 b.1 there
  where
    by : (f : Bool) → (9 unless readable room w x) ≡ 0 → split_refusal (limits room) (decode room w x) (cond f (decode room w x).edges.used e) t ≡ 0
        → cond f (decode room w x).edges.used e < (decode room w x).edges.used → (cond f (decode room w x).edges.used e ≡ e) × (split_number room w x e t ≡ 0)
    by true r n h = absurd (omega arith)
    by false r n h = (refl, rw (r, n))

module _ (room w : List ℕ) (x : List Float) (e : ℕ) (t : Float) (z : split_number room w x e t ≡ 0) where
  abbrev m : Model
  m = decode room w x

  abbrev fins : List ℕ
  fins = list_of room w 7 e

  rows : (readable room w x ≡ true) × (edge_row m e t ≡ 0) × (place_row m e t ≡ 0) × (room_row (limits room) m e ≡ 0)
  unfolding split_number
  rows =
      let a = then-zero (9 unless readable room w x) (split_refusal (limits room) m e t) z in
      let b = then-zero (edge_row m e t) (place_row m e t then room_row (limits room) m e) (split_rows (limits room) m e t ∙ a.1) in
      let c = then-zero (place_row m e t) (room_row (limits room) m e) b.1 in
      (unless-zero 8 (readable room w x) a.0, b.0, c.0, c.1)

  pub accepted : Accepted room w x e t
  unfolding fin_test fin_word
  accepted =
      let r = rows in
      let o = opened room w x e t r.1 in
      let a = then-zero (point_test (segment_at m e) (cut_at m e t).at (real x 0)) _ (place-rows room w x e t ∙ r.2) in
      let g = once-at (fin_test room w x e (cut_at m e t)) [] fins a.1 in
      let c = then-zero (1 unless all_below (wire_test room w e false) (word w 2)) _ (room-rows room w x e t ∙ r.3) in
      record {
        fit = fit_of room w x r.0;
        opens = o;
        owns = owned room w x e t o.fins r.2;
        once = λ k h.
            let i = get_or fins k 0 in
            let b = then-zero (1 unless eqb (word (words_of room w 5 i) 1) e) _ (g k h) in
            let d = then-zero (2 unless ltb (word (words_of room w 5 i) 0) (word w 4)) _ b.1 in
            let q = then-zero (1 unless eqb (count i (list_of room w 6 (word (words_of room w 5 i) 0))) 1) _ d.1 in
            eqb-true _ 1 (unless-zero 0 _ q.0);
        capacity = unless-zero 7 _ c.1;
      }

-- ---- room for what the split writes

module _ (room w : List ℕ) (x : List Float) (e : ℕ) (t : Float) (a : Accepted room w x e t) where
  abbrev fins' : List ℕ
  fins' = list_of room w 7 e

  lists : Lists room w
  lists = lists_of room w x a.fit

  tests : (tables_test room w fins' ≡ true) × (all (loop_test room w fins') fins' ≡ true) × (all_below (wire_test room w e true) (word w 2) ≡ true)
  unfolding capacity_test
  tests =
      let b = and_both (tables_test room w fins' && all (loop_test room w fins') fins') _ a.capacity in
      let c = and_both (tables_test room w fins') _ b.0 in
      (c.0, c.1, b.1)

  pub slots : Slots room w (length fins')
  unfolding tables_test
  slots =
      let f = a.fit.sized in
      let b = and_both _ (leb (length fins') 8) tests.0 in
      let c = and_both _ (leb (word w 7 + 1) (word room 7)) b.0 in
      let d = and_both (leb (word w 5 + length fins') (word room 5)) (leb (word w 6 + 1) (word room 6)) c.0 in
      let p = leb-true (word w 6 + 1) (word room 6) d.1 in
      let q = leb-true (word w 7 + 1) (word room 7) c.1 in
      record {
        small = f.small;
        enough = f.words;
        counts = counts-listed room w lists;
        few = leb-true (length fins') 8 b.1;
        fins = leb-true (word w 5 + length fins') (word room 5) d.0;
        edges = omega arith;
        vertices = omega arith;
        most-fins = f.small.small 5 (omega arith);
        most-edges = f.small.small 6 (omega arith);
        most-vertices = f.small.small 7 (omega arith);
      }

  -- ---- a loop

  module _ (l : ℕ) (there : l < word w 4) where
    abbrev entries : List ℕ
    entries = list_of room w 6 l

    abbrev new : ℕ → List ℕ
    new = entries_for fins' (fin_words room w 0 fins') (fin_words room w 2 fins') l (word w 5)

    abbrev theirs : ℕ → Bool
    theirs i = member i fins' && eqb (fin_word room w 0 i) l

    loop-length : length (joined new entries) ≡ length entries + count_if theirs entries
    loop-length =
        joined_length new theirs entries
        (λ i. ap length (entries-fin room w fins' l (word w 5) i) ∙ beside-length (theirs i) (sense_of (fin_word room w 2 i)) i (word w 5 + place i fins'))

    gained : count_if theirs entries ≤ count_if (λ i. eqb (fin_word room w 0 i) l) fins'
    gained =
        among (λ i. eqb (fin_word room w 0 i) l) entries fins'
        (λ k h q.
        let i = get_or fins' k 0 in
        let n : count i (list_of room w 6 l) ≡ 1 = ap (λ (n : ℕ). count i (list_of room w 6 n)) (sym (eqb-true (fin_word room w 0 i) l q)) ∙ a.once k h in
        omega arith)

    -- "new fins in one loop counted together"
    together : 1 ≤ count_if (λ i. eqb (fin_word room w 0 i) l) fins' → length entries + count_if (λ i. eqb (fin_word room w 0 i) l) fins' ≤ 1024
    unfolding loop_test owned_by fin_word
    together h = bound_of (fin_word room w 0) (λ n. length (list_of room w 6 n) + count_if (λ i. eqb (fin_word room w 0 i) n) fins') 1024 l fins' tests.1 h

    pub loop-fits : length (joined new entries) ≤ 1024
    loop-fits =
        let b = loop-length in
        let g = gained in
        let n = listed_le room w 6 l lists (omega arith) there in
        elim (dec_lt 0 (count_if (λ i. eqb (fin_word room w 0 i) l) fins')) [
          | yes h ↦ let f = together h in omega arith
          | no h ↦ omega arith
        ]

  -- ---- a shell

  module _ (s : ℕ) (there : s < word w 2) where
    abbrev wires : List ℕ
    wires = list_of room w 3 s

    abbrev new-wire : ℕ → List ℕ
    new-wire = entries_for (e ∷ []) (0 ∷ []) (0 ∷ []) 0 (word w 6)

    wire-length : (i : ℕ) → length (new-wire i) ≡ 1 + cond (eqb e i) 1 0
    wire-length i = ap length (entries-wire e (word w 6) i) ∙ ap (λ (b : Bool). length (cond b (e ∷ word w 6 ∷ []) (i ∷ []))) (eqb_swap i e) ∙ go (eqb e i)
      where
        go : (b : Bool) → length (cond b (e ∷ word w 6 ∷ []) (i ∷ [])) ≡ 1 + cond b 1 0
        go true = refl
        go false = refl

    pub shell-fits : length (joined new-wire wires) ≤ 256
    unfolding wire_test
    shell-fits =
        let b = joined_length new-wire (λ i. eqb e i) wires wire-length in
        let n = count_if-count e wires in
        let f = leb-true (length wires + count e wires) 256 (all_below-at (wire_test room w e true) (word w 2) s tests.2 there) in
        omega arith

  -- ---- all of them

  longer : (j i : ℕ) (f : ℕ → List ℕ) → j < 8 → i < word w (word list_tables j) → length (joined f (list_of room w j i)) ≤ word list_limits j
      → Longer (words_of room w (word list_tables j) i) (word list_places j) f
  unfolding list_of
  longer j i f h g n =
      let r = words-length room w (word list_tables j) i (list_inside room w j i lists h g) in
      let q = list_held room w j i lists h g in
      let c = list-room j h in
      let d = limit-le j h in
      record {
        place = q.place;
        whole = q.whole;
        short = le_trans (lists.short j i h g) d;
        long = le_trans n d;
        room = omega arith;
      }

  pub ready : Ready room w e fins' (fin_words room w 0 fins') (fin_words room w 2 fins')
  unfolding fin_words
  ready =
      let f = a.fit.sized in
      let s = slots in
      let o = length-map fins' (fin_word room w 0) in
      let q = length-map fins' (fin_word room w 2) in
      record {
        there = a.opens.there;
        slots = rw o s;
        olds = record { own = o; sense = q; few = s.few; ids = omega (arith, s.fins, s.most-fins) };
        loops = record {
          enough = f.words;
          table = omega arith;
          slots = f.counts 4 (omega arith);
          each = λ l h. longer 6 l (entries_for fins' (fin_words room w 0 fins') (fin_words room w 2 fins') l (word w 5)) (omega arith) h (loop-fits l h);
        };
        wires = record {
          enough = f.words;
          table = omega arith;
          slots = f.counts 2 (omega arith);
          each = λ i h. longer 3 i (entries_for (e ∷ []) (0 ∷ []) (0 ∷ []) 0 (word w 6)) (omega arith) h (shell-fits i h);
        };
      }

  pub listing : Listing room w e
  listing = record { lists = lists; present = a.opens.fins; ready = ready }

  pub opening : Open room w x e
  opening = let s = slots in record { fit = a.fit; ends = a.opens.ends; counts = s.counts; there = a.opens.there; edges = s.edges; vertices = s.vertices }
