-- The fields that an image keeps of a record, as the code builds them, and how long they are. Assumes nothing.
use Rattle.std.specs.Prelude.{ℕ, zero, suc, ◌+◌, ◌*◌, ◌-◌, ◌≤◌, ◌<◌, ◌≡◌, Bool, true, false, not, cond, ◌&&◌, ◌||◌, eqb, ltb, length, get_or, drop, replicate, Float}
use Rattle.std.proofs.Common.{le_of_eq, eq-or-lt_of_le, add-one, sym, ◌∙◌, subst, inl, inr, length-append, length-drop, length-take-le, drop-cons}
use native.Mathlib.Omega.{arith}
use Rattle.std.proofs.Math.Path.{refl, ap, ap₂}
use mathlib.Core.List.{List, [], ◌∷◌, ◌++◌, map, map-append, append-nil, append_assoc}
use Rattle.std.proofs.Math.Option.{none, some}
use Rattle.std.proofs.Math.Dec.{leb}
use Rattle.std.proofs.Math.ListN.{take}
use Rattle.std.proofs.Math.Seq.{take-suc}
use Rattle.std.specs.Float.{nan, binary64}
use Rattle.std.specs.Float.Ieee.{to_bits}
use borrow.Author.Tests.{eqb-true, leb-true, ltb-true}
use Rattle.interval_arithmetic.specs.Ops.{zero_f}
use Rattle.meaning.specs.Lists.{all_below}
use Rattle.meaning_list_laws.specs.Tests.{and_both, all_below-at}
use Rattle.memory_layout.specs.Layout.{word_strides, word, real}
use Rattle.memory_layout.specs.Decode.{list_at, kind_of, sense_of, tolerance_of, carrier_of}
use Rattle.memory_layout.specs.Laid.{bit, sense, kind, maybe, tag, own, carrier_tag, carrier_reals}
use Rattle.memory_layout.specs.Readable.{own_ok, record_ok}
use Rattle.memory_layout.specs.Fit.{Held}
use Rattle.memory_layout.specs.Entries.{list_tables, list_places, list_limits}
use Rattle.memory_layout.specs.Laws.{list-room, short-list, limit-le, held-length}
use Rattle.memory_writes.specs.Put.{over}
use Rattle.memory_writes.specs.Over.{over-behind}
use Rattle.image_format.specs.Bytes.{little, words, floats, lists}
use Rattle.image_format.specs.Fields.{mark_of, word_counts, float_counts, list_counts, record_image}
use Rattle.image_laws.specs.Numbers.{length-little, length-words, length-floats}
use Rattle.image_laws.specs.Sizes.{numbers_fit, all-floats}
use Rattle.image_records.specs.Kept.{fields_of, Kept, office_here, id_behind, three_ids, head_of, tag_places, quiet_tags, quiet_floats, unsaid, tail_of, places_of, lists_of, record_length, first_lists, Listed}

-- ---- tags that are known stand as they are

kind-known : (n : ℕ) → n ≤ 4 → kind (kind_of n) ≡ n
kind-known zero h = refl
kind-known (suc zero) h = refl
kind-known (suc (suc zero)) h = refl
kind-known (suc (suc (suc zero))) h = refl
kind-known (suc (suc (suc (suc n)))) h = omega arith

bit-known : (n : ℕ) → n ≤ 1 → bit (not (eqb n 0)) ≡ n
bit-known zero h = refl
bit-known (suc zero) h = refl
bit-known (suc (suc n)) h = absurd (omega arith)

sense-known : (n : ℕ) → n ≤ 1 → sense (sense_of n) ≡ n
sense-known zero h = refl
sense-known (suc zero) h = refl
sense-known (suc (suc n)) h = absurd (omega arith)

tag-known : (n : ℕ) (t : Float) → n ≤ 1 → tag (tolerance_of n t) ≡ n
tag-known zero t h = refl
tag-known (suc zero) t h = refl
tag-known (suc (suc n)) t h = absurd (omega arith)

maybe-known : (n i : ℕ) → n ≤ 1 → maybe (cond (eqb n 0) none (some i)) ≡ n ∷ cond (eqb n 0) 0 i ∷ []
maybe-known zero i h = refl
maybe-known (suc zero) i h = refl
maybe-known (suc (suc n)) i h = absurd (omega arith)

-- ---- the first entries of a list, written out

unfoldable pub entries : {A : Type 0} → A → List A → ℕ → List A
entries d l zero = []
entries d l (suc n) = entries d l n ++ (get_or l n d ∷ [])

pub written_out : {A : Type 0} (d : A) (l : List A) (n : ℕ) → n ≤ length l → entries d l n ≡ take n l
unfolding entries
written_out d l zero h = refl
written_out d l (suc n) h = ap (λ (r : List _). r ++ (get_or l n d ∷ [])) (written_out d l n (omega arith)) ∙ sym (take-suc l n d h)

-- ---- the floats, with what is not said zero

no_floats : (b : Bool) (x : List Float) → [] ≡ take (0 - cond b 0 0) x ++ take (cond b 0 0) (replicate 6 zero_f)
no_floats true x = refl
no_floats false x = refl

one_float : (n : ℕ) (x : List Float) → n ≤ 1 → length x ≡ 1
    → own (tolerance_of n (real x 0)) ∷ [] ≡ take (1 - cond (eqb n 0) 1 0) x ++ take (cond (eqb n 0) 1 0) (replicate 6 zero_f)
unfolding entries
one_float zero x h l = refl
one_float (suc zero) x h l = written_out nan x 1 (omega arith) ∙ sym (append-nil (take 1 x))
one_float (suc (suc n)) x h l = absurd (omega arith)

four-floats : (n : ℕ) (x : List Float) → n ≤ 1 → length x ≡ 4
    → real x 0 ∷ real x 1 ∷ real x 2 ∷ own (tolerance_of n (real x 3)) ∷ [] ≡ take (4 - cond (eqb n 0) 1 0) x ++ take (cond (eqb n 0) 1 0) (replicate 6 zero_f)
unfolding entries
four-floats zero x h l = ap (λ (r : List Float). r ++ (zero_f ∷ [])) (written_out nan x 3 (omega arith))
four-floats (suc zero) x h l = written_out nan x 4 (omega arith) ∙ sym (append-nil (take 4 x))
four-floats (suc (suc n)) x h l = absurd (omega arith)

carrier-floats : (n : ℕ) (x : List Float) → n ≤ 2 → length x ≡ 6
    → carrier_reals (carrier_of (n ∷ []) x) ≡ take (6 - cond (eqb n 2) 6 0) x ++ take (cond (eqb n 2) 6 0) (replicate 6 zero_f)
unfolding entries
carrier-floats zero x h l = written_out nan x 6 (omega arith) ∙ sym (append-nil (take 6 x))
carrier-floats (suc zero) x h l = written_out nan x 6 (omega arith) ∙ sym (append-nil (take 6 x))
carrier-floats (suc (suc zero)) x h l = refl
carrier-floats (suc (suc (suc n))) x h l = absurd (omega arith)

carrier-tag : (n : ℕ) (x : List Float) → n ≤ 2 → carrier_tag (carrier_of (n ∷ []) x) ≡ n ∷ []
carrier-tag zero x h = refl
carrier-tag (suc zero) x h = refl
carrier-tag (suc (suc zero)) x h = refl
carrier-tag (suc (suc (suc n))) x h = absurd (omega arith)

-- ---- the fields of a record that passes its test

pub record Parts (k : ℕ) (w : List ℕ) (x : List Float) : Type 0 where
  pub mark : (fields_of k w x).office ≡ office_here k w
  pub head : (fields_of k w x).words ≡ head_of k w
  pub tail : (fields_of k w x).floats ≡ tail_of k w x
  pub lists : (fields_of k w x).lists ≡ map (list_at w) (take (word list_counts k) (places_of k))

abbrev three : (w : List ℕ) → Bool
three w = leb (word w 0) 1 && leb (word w 2) 1 && leb (word w 4) 1 && leb (word w 6) 1

-- the fields of a face and of an edge before their lists
three-known : (w : List ℕ) → three w ≡ true → (word w 0 ≤ 1) × (word w 2 ≤ 1) × (word w 4 ≤ 1) × (word w 6 ≤ 1)
three-known w e =
    let a = and_both (leb (word w 0) 1 && leb (word w 2) 1 && leb (word w 4) 1) (leb (word w 6) 1) e in
    let b = and_both (leb (word w 0) 1 && leb (word w 2) 1) (leb (word w 4) 1) a.0 in
    let d = and_both (leb (word w 0) 1) (leb (word w 2) 1) b.0 in
    (leb-true (word w 0) 1 d.0, leb-true (word w 2) 1 d.1, leb-true (word w 4) 1 b.1, leb-true (word w 6) 1 a.1)

-- three optional ids and a tag
three-kept : (w : List ℕ) (n : ℕ) → three w ≡ true → n ≡ word w 6
    → maybe (cond (eqb (word w 0) 0) none (some (word w 1))) ++ maybe (cond (eqb (word w 2) 0) none (some (word w 3))) ++ maybe (cond (eqb (word w 4) 0) none (some (word w 5))) ++ (n ∷ []) ≡ three_ids w
unfolding three_ids id_behind
three-kept w n e f =
    let h = three-known w e in
    rw (maybe-known (word w 0) (word w 1) h.0, maybe-known (word w 2) (word w 3) h.1, maybe-known (word w 4) (word w 5) h.2, f)

module _ (w : List ℕ) (x : List Float) where
  body_kept : Kept 0 w x → Parts 0 w x
  unfolding fields_of office_here head_of tail_of unsaid record_ok entries
  body_kept p =
      let l = p.whole.words in
      let a = and_both (leb (word w 0) 4 && leb (word w 1) 1) (leb (word w 2) 16) p.ok in
      let b = and_both (leb (word w 0) 4) (leb (word w 1) 1) a.0 in
      record {
        mark = refl;
        head = ap (λ (n : ℕ). n ∷ []) (kind-known (word w 0) (leb-true (word w 0) 4 b.0)) ∙ written_out 0 w 1 (omega arith);
        tail = no_floats (eqb (word w 0) 0) x;
        lists = refl;
      }

  region-kept : Kept 1 w x → Parts 1 w x
  unfolding fields_of office_here head_of tail_of unsaid record_ok entries
  region-kept p =
      let l = p.whole.words in
      let a = and_both (leb (word w 1) 1) (leb (word w 2) 16) p.ok in
      record {
        mark = refl;
        head = ap (λ (n : ℕ). word w 0 ∷ n ∷ []) (bit-known (word w 1) (leb-true (word w 1) 1 a.0)) ∙ written_out 0 w 2 (omega arith);
        tail = no_floats (eqb (word w 0) 0) x;
        lists = refl;
      }

  shell-kept : Kept 2 w x → Parts 2 w x
  unfolding fields_of office_here head_of tail_of unsaid entries
  shell-kept p =
      let l = p.whole.words in
      record { mark = refl; head = written_out 0 w 1 (omega arith); tail = no_floats (eqb (word w 0) 0) x; lists = refl }

  face-kept : Kept 3 w x → Parts 3 w x
  unfolding fields_of office_here head_of tail_of unsaid record_ok
  face-kept p =
      let a = and_both (three w) (leb (word w 7) 16) p.ok in
      record {
        mark = refl;
        head = three-kept w _ a.0 (sense-known (word w 6) (three-known w a.0).3);
        tail = no_floats (eqb (word w 0) 0) x;
        lists = refl;
      }

  loop-kept : Kept 4 w x → Parts 4 w x
  unfolding fields_of office_here head_of tail_of unsaid entries
  loop-kept p =
      let l = p.whole.words in
      record { mark = refl; head = written_out 0 w 1 (omega arith); tail = no_floats (eqb (word w 0) 0) x; lists = refl }

  fin-kept : Kept 5 w x → Parts 5 w x
  unfolding fields_of office_here head_of tail_of unsaid record_ok entries
  fin-kept p =
      let l = p.whole.words in
      let a = and_both (leb (word w 2) 1) (leb (word w 3) 1) p.ok in
      record {
        mark = refl;
        head = ap₂ (λ (m n : ℕ). word w 0 ∷ word w 1 ∷ m ∷ n ∷ []) (sense-known (word w 2) (leb-true (word w 2) 1 a.0)) (bit-known (word w 3) (leb-true (word w 3) 1 a.1))
            ∙ written_out 0 w 4 (omega arith);
        tail = no_floats (eqb (word w 0) 0) x;
        lists = refl;
      }

  edge_kept : Kept 6 w x → Parts 6 w x
  unfolding fields_of office_here head_of tail_of unsaid record_ok
  edge_kept p =
      let m = p.whole.reals in
      let a = and_both (three w && leb (word w 7) 8) (own_ok (word w 6) (real x 0)) p.ok in
      let b = and_both (three w) (leb (word w 7) 8) a.0 in
      let h = (three-known w b.0).3 in
      record {
        mark = refl;
        head = three-kept w _ b.0 (tag-known (word w 6) (real x 0) h);
        tail = one_float (word w 6) x h m;
        lists = refl;
      }

  vertex-kept : Kept 7 w x → Parts 7 w x
  unfolding fields_of office_here head_of tail_of unsaid record_ok entries
  vertex-kept p =
      let l = p.whole.words in
      let h = leb-true (word w 0) 1 (and_both (leb (word w 0) 1) (own_ok (word w 0) (real x 3)) p.ok).0 in
      record {
        mark = refl;
        head = ap (λ (n : ℕ). n ∷ []) (tag-known (word w 0) (real x 3) h) ∙ written_out 0 w 1 (omega arith);
        tail = four-floats (word w 0) x h p.whole.reals;
        lists = refl;
      }

  curve-kept : Kept 8 w x → Parts 8 w x
  unfolding fields_of office_here head_of tail_of unsaid record_ok entries
  curve-kept p =
      let l = p.whole.words in
      let h = leb-true (word w 0) 2 p.ok in
      record {
        mark = refl;
        head = carrier-tag (word w 0) x h ∙ written_out 0 w 1 (omega arith);
        tail = carrier-floats (word w 0) x h p.whole.reals;
        lists = refl;
      }

  surface-kept : Kept 9 w x → Parts 9 w x
  unfolding fields_of office_here head_of tail_of unsaid record_ok entries
  surface-kept p =
      let l = p.whole.words in
      let h = leb-true (word w 0) 2 p.ok in
      record {
        mark = refl;
        head = carrier-tag (word w 0) x h ∙ written_out 0 w 1 (omega arith);
        tail = carrier-floats (word w 0) x h p.whole.reals;
        lists = refl;
      }

  pub fields-kept : (k : ℕ) → Kept k w x → Parts k w x
  fields-kept zero p = body_kept p
  fields-kept (suc zero) p = region-kept p
  fields-kept (suc (suc zero)) p = shell-kept p
  fields-kept (suc (suc (suc zero))) p = face-kept p
  fields-kept (suc (suc (suc (suc zero)))) p = loop-kept p
  fields-kept (suc (suc (suc (suc (suc zero))))) p = fin-kept p
  fields-kept (suc (suc (suc (suc (suc (suc zero)))))) p = edge_kept p
  fields-kept (suc (suc (suc (suc (suc (suc (suc zero))))))) p = vertex-kept p
  fields-kept (suc (suc (suc (suc (suc (suc (suc (suc zero)))))))) p = curve-kept p
  fields-kept (suc (suc (suc (suc (suc (suc (suc (suc (suc zero))))))))) p = surface-kept p
  fields-kept (suc (suc (suc (suc (suc (suc (suc (suc (suc (suc k)))))))))) p = let t = p.whole.table in absurd (omega arith)

-- ---- facts about the tables

pub seven-words : (k : ℕ) → k < 10 → word word_counts k ≤ 7
unfolding all_below
seven-words k h = leb-true (word word_counts k) 7 (all_below-at (λ i. leb (word word_counts i) 7) 10 k refl h)

pub six-floats : (k : ℕ) → k < 10 → word float_counts k ≤ 6
unfolding all_below
six-floats k h = leb-true (word float_counts k) 6 (all_below-at (λ i. leb (word float_counts i) 6) 10 k refl h)

pub three-lists : (k : ℕ) → k < 10 → word list_counts k ≤ 3
unfolding all_below
three-lists k h = leb-true (word list_counts k) 3 (all_below-at (λ i. leb (word list_counts i) 3) 10 k refl h)

pub tag-there : (k : ℕ) → k < 10 → word tag_places k < word word_strides k
unfolding all_below
tag-there k h = ltb-true (word tag_places k) (word word_strides k) (all_below-at (λ i. ltb (word tag_places i) (word word_strides i)) 10 k refl h)

quiet-few : (k : ℕ) → k < 10 → word quiet_floats k ≤ word float_counts k
unfolding all_below
quiet-few k h = leb-true (word quiet_floats k) (word float_counts k) (all_below-at (λ i. leb (word quiet_floats i) (word float_counts i)) 10 k refl h)

every-place : (k : ℕ) → k < 10 → word list_counts k ≡ length (places_of k)
unfolding all_below
every-place k h = eqb-true (word list_counts k) (length (places_of k)) (all_below-at (λ i. eqb (word list_counts i) (length (places_of i))) 10 k refl h)

-- list j of a record, by its number
pub record Numbered (k j m : ℕ) : Type 0 where
  pub list : m < 8
  pub table : word list_tables m ≡ k
  pub place : word list_places m ≡ word (places_of k) j

pub numbered : (k j : ℕ) → k < 10 → j < word list_counts k → Numbered k j (word first_lists k + j)
unfolding all_below
numbered k j h g =
    let m : ℕ = word first_lists k + j in
    let t = all_below-at (λ q. ltb (word first_lists k + q) 8 && eqb (word list_tables (word first_lists k + q)) k && eqb (word list_places (word first_lists k + q)) (word (places_of k) q)) (word list_counts k) j
    (all_below-at
    (λ i. all_below
    (λ q. ltb (word first_lists i + q) 8 && eqb (word list_tables (word first_lists i + q)) i && eqb (word list_places (word first_lists i + q)) (word (places_of i) q))
    (word list_counts i))
    10 k refl h) g in
    let a = and_both (ltb m 8 && eqb (word list_tables m) k) (eqb (word list_places m) (word (places_of k) j)) t in
    let b = and_both (ltb m 8) (eqb (word list_tables m) k) a.0 in
    record { list = ltb-true m 8 b.0; table = eqb-true (word list_tables m) k b.1; place = eqb-true (word list_places m) (word (places_of k) j) a.1 }

-- the lists of a record that passes its test stand whole
pub listed_of : (k : ℕ) (w : List ℕ) (x : List Float) → Kept k w x → Listed k w
listed_of k w x p =
    record {
      table = p.whole.table;
      words = p.whole.words;
      held = λ j h.
          let n = numbered k j p.whole.table h in
          let r : word list_places (word first_lists k + j) + word list_limits (word first_lists k + j) < word word_strides k = rw n.table at (list-room (word first_lists k + j) n.list) in
          let s = limit j h n in
          let l = p.whole.words in
          let e = n.place in
          record { place = omega arith; whole = omega arith };
      short = λ j h.
          let n = numbered k j p.whole.table h in
          let s = limit j h n in
          let m = limit-le (word first_lists k + j) n.list in
          omega arith;
    }
  where
    limit : (j : ℕ) → j < word list_counts k → Numbered k j (word first_lists k + j) → word w (word (places_of k) j) ≤ word list_limits (word first_lists k + j)
    limit j h n = rw n.place at (short-list (word first_lists k + j) w x n.list (rw n.table p.ok))

-- ---- how long the parts are

-- a face and an edge have seven numbers
pub seven-there : (k : ℕ) → k < 10 → (eqb k 3 || eqb k 6) ≡ true → (word word_counts k ≡ 7) × (16 ≤ word word_strides k)
unfolding all_below
seven-there k h e =
    let t = all_below-at (λ i. cond (eqb i 3 || eqb i 6) (eqb (word word_counts i) 7 && leb 16 (word word_strides i)) true) 10 k refl h in
    let a = and_both (eqb (word word_counts k) 7) (leb 16 (word word_strides k)) (rw e at t) in
    (eqb-true (word word_counts k) 7 a.0, leb-true 16 (word word_strides k) a.1)

pub head_three : (k : ℕ) (w : List ℕ) → (eqb k 3 || eqb k 6) ≡ true → head_of k w ≡ three_ids w
unfolding head_of
head_three k w e = rw e

pub head_plain : (k : ℕ) (w : List ℕ) → (eqb k 3 || eqb k 6) ≡ false → head_of k w ≡ take (word word_counts k) w
unfolding head_of
head_plain k w e = rw e

pub head-length : (k : ℕ) (w : List ℕ) → Listed k w → length (head_of k w) ≡ word word_counts k
unfolding head_of three_ids
head-length k w l = go (eqb k 3 || eqb k 6) (seven-there k l.table)
  where
    go : (b : Bool) → (b ≡ true → (word word_counts k ≡ 7) × (16 ≤ word word_strides k)) → length (cond b (three_ids w) (take (word word_counts k) w)) ≡ word word_counts k
    go true h = sym (h refl).0
    go false h = let e = l.words in let f = numbers_fit k l.table in length-take-le (word word_counts k) w (omega arith)

pub unsaid-few : (k : ℕ) (w : List ℕ) → k < 10 → unsaid k w ≤ word float_counts k
unfolding unsaid
unsaid-few k w h = go (eqb (word w (word tag_places k)) (word quiet_tags k))
  where
    go : (b : Bool) → cond b (word quiet_floats k) 0 ≤ word float_counts k
    go true = quiet-few k h
    go false = omega arith

pub tail-length : (k : ℕ) (w : List ℕ) (x : List Float) → k < 10 → length x ≡ word float_counts k → length (tail_of k w x) ≡ word float_counts k
unfolding tail_of
tail-length k w x h e =
    let u = unsaid-few k w h in
    let s = six-floats k h in
    let z : List Float = replicate 6 zero_f in
    let a = length-take-le (word float_counts k - unsaid k w) x (omega arith) in
    let b = length-take-le (unsaid k w) z (omega arith) in
    let d = length-append (take (word float_counts k - unsaid k w) x) (take (unsaid k w) z) in
    omega arith

-- ---- the lists, one behind the other

lists-append : (a b : List (List ℕ)) → lists (a ++ b) ≡ lists a ++ lists b
unfolding lists
lists-append [] b = refl
lists-append (l ∷ a) b = ap (λ (r : List ℕ). words (length l ∷ l) ++ r) (lists-append a b) ∙ sym (append_assoc (words (length l ∷ l)) (lists a) (lists b))

one_list : (l : List ℕ) → lists (l ∷ []) ≡ words (length l ∷ l)
unfolding lists
one_list l = append-nil (words (length l ∷ l))

-- a list with its count, as it stands in the record
counted-list : (w : List ℕ) (at : ℕ) → Held w at → length (list_at w at) ∷ list_at w at ≡ take (suc (word w at)) (drop at w)
counted-list w at h =
    ap (λ (n : ℕ). n ∷ list_at w at) (held-length w at h)
    ∙ (unfold list_at in ap (take (suc (word w at))) (sym (drop-cons w at 0 h.place)))

pub lists-none : (k : ℕ) (w : List ℕ) → lists_of k w 0 ≡ []
unfolding lists_of lists
lists-none k w = refl

module _ (k : ℕ) (w : List ℕ) (l : Listed k w) where
  -- one more list
  pub lists-turn : (j : ℕ) → j < word list_counts k
      → lists_of k w (j + 1) ≡ lists_of k w j ++ words (take (suc (word w (word (places_of k) j))) (drop (word (places_of k) j) w))
  unfolding lists_of
  lists-turn j h =
      let e = every-place k l.table in
      ap (λ (r : List ℕ). lists (map (list_at w) r)) (ap (λ (n : ℕ). take n (places_of k)) (add-one j) ∙ take-suc (places_of k) j 0 (omega arith))
      ∙ ap lists (map-append (list_at w) (take j (places_of k)) (word (places_of k) j ∷ []))
      ∙ lists-append (map (list_at w) (take j (places_of k))) (list_at w (word (places_of k) j) ∷ [])
      ∙ ap (λ (r : List ℕ). lists (map (list_at w) (take j (places_of k))) ++ r)
      (one_list (list_at w (word (places_of k) j)) ∙ ap words (counted-list w (word (places_of k) j) (l.held j h)))

  pub lists-longer : (j : ℕ) → j < word list_counts k → length (lists_of k w (j + 1)) ≡ length (lists_of k w j) + 4 * (word w (word (places_of k) j) + 1)
  lists-longer j h =
      let p : ℕ = word (places_of k) j in
      let g = l.held j h in
      let e : length (take (suc (word w p)) (drop p w)) ≡ suc (word w p) = length-take-le (suc (word w p)) (drop p w) (simp length-drop (omega arith)) in
      let a = length-words (take (suc (word w p)) (drop p w)) in
      let b = length-append (lists_of k w j) (words (take (suc (word w p)) (drop p w))) in
      let d = ap length (lists-turn j h) in
      omega arith

  pub lists-small : (j : ℕ) → j ≤ word list_counts k → length (lists_of k w j) ≤ 4100 * j
  lists-small zero h = rw (lists-none k w) (omega arith)
  lists-small (suc j) h =
      let a = lists-small j (omega arith) in
      let b = rw (add-one j) at (lists-longer j (omega arith)) in
      let c = l.short j (omega arith) in
      omega arith

  lists-mono : (j n : ℕ) → j ≤ n → n ≤ word list_counts k → length (lists_of k w j) ≤ length (lists_of k w n)
  lists-mono j zero h g = le_of_eq (ap (λ (m : ℕ). length (lists_of k w m)) (omega arith))
  lists-mono j (suc n) h g = elim (eq-or-lt_of_le h) [
    | inl e ↦ le_of_eq (ap (λ (m : ℕ). length (lists_of k w m)) e)
    | inr q ↦
        let a = lists-mono j n (omega arith) (omega arith) in
        let b = rw (add-one n) at (lists-longer n (omega arith)) in
        omega arith
  ]

-- a turn of a loop over the lists: list j stands at p
pub record Turn (k : ℕ) (w : List ℕ) (j p : ℕ) : Type 0 where
  pub held : Held w p
  pub short : word w p ≤ 1024
  pub counted : length (take (suc (word w p)) (drop p w)) ≡ suc (word w p)
  pub more : lists_of k w (j + 1) ≡ lists_of k w j ++ words (take (suc (word w p)) (drop p w))
  pub longer : length (lists_of k w (j + 1)) ≡ length (lists_of k w j) + 4 * (word w p + 1)
  pub within : length (lists_of k w (j + 1)) ≤ length (lists_of k w (word list_counts k))
  pub small : length (lists_of k w (j + 1)) ≤ 12300

pub turn : (k : ℕ) (w : List ℕ) (j p : ℕ) → Listed k w → j < word list_counts k → p ≡ word (places_of k) j → Turn k w j p
turn k w j p l h e = subst (Turn k w j) (sym e) at_place
  where
    at_place : Turn k w j (word (places_of k) j)
    at_place =
        let g = l.held j h in
        let s = lists-small k w l (j + 1) (omega arith) in
        let t = three-lists k l.table in
        record {
          held = g;
          short = l.short j h;
          counted = length-take-le (suc (word w (word (places_of k) j))) (drop (word (places_of k) j) w) (simp length-drop (omega arith));
          more = lists-turn k w l j h;
          longer = lists-longer k w l j h;
          within = lists-mono k w l (j + 1) (word list_counts k) (omega arith) (omega arith);
          small = omega arith;
        }

-- ---- written one behind the other

pub over-turn : (at to : ℕ) (a b m l : List ℕ) → to ≡ at + length a → m ≡ over at a l → at + length a + length b ≤ length l → over to b m ≡ over at (a ++ b) l
over-turn at to a b m l e f h = ap (λ (n : ℕ). over n b m) e ∙ ap (over (at + length a) b) f ∙ over-behind at a b l (let e = length-append a b in omega arith)

pub floats-append : (a b : List Float) → floats (a ++ b) ≡ floats a ++ floats b
unfolding floats
floats-append [] b = refl
floats-append (v ∷ a) b = ap (λ (r : List ℕ). little 8 (to_bits binary64 v) ++ r) (floats-append a b) ∙ sym (append_assoc (little 8 (to_bits binary64 v)) (floats a) (floats b))

-- the floats that are said and those that are not, q of them
pub record Tail (k : ℕ) (w : List ℕ) (x : List Float) (q : ℕ) : Type 0 where
  pub few : q ≤ length x
  pub small : length x ≤ 6
  pub said : length (take (length x - q) x) ≡ length x - q
  pub quiet : length (take q (replicate 6 zero_f)) ≡ q
  pub said-bytes : length (floats (take (length x - q) x)) ≡ 8 * (length x - q)
  pub quiet-bytes : length (floats (take q (replicate 6 zero_f))) ≡ 8 * q
  pub long : length (floats (tail_of k w x)) ≡ 8 * length x
  pub both : floats (tail_of k w x) ≡ floats (take (length x - q) x) ++ floats (take q (replicate 6 zero_f))

parted : (k : ℕ) (w : List ℕ) (x : List Float) (q : ℕ) → length x ≡ word float_counts k → q ≡ unsaid k w → tail_of k w x ≡ take (length x - q) x ++ take q (replicate 6 zero_f)
unfolding tail_of
parted k w x q e f = ap₂ (λ (m n : ℕ). take (m - n) x ++ take n (replicate 6 zero_f)) (sym e) (sym f)

pub tail-parts : (k : ℕ) (w : List ℕ) (x : List Float) (q : ℕ) → k < 10 → length x ≡ word float_counts k → q ≡ unsaid k w → Tail k w x q
tail-parts k w x q h e f =
    let u = unsaid-few k w h in
    let s = six-floats k h in
    let z : List Float = replicate 6 zero_f in
    let a = length-take-le (length x - q) x (omega arith) in
    let b = length-take-le q z (omega arith) in
    let l = tail-length k w x h e in
    record {
      few = omega arith;
      small = omega arith;
      said = a;
      quiet = b;
      said-bytes = length-floats (take (length x - q) x) ∙ ap (λ (n : ℕ). 8 * n) a;
      quiet-bytes = length-floats (take q z) ∙ ap (λ (n : ℕ). 8 * n) b;
      long = length-floats (tail_of k w x) ∙ ap (λ (n : ℕ). 8 * n) (l ∙ sym e);
      both = ap floats (parted k w x q e f) ∙ floats-append (take (length x - q) x) (take q z);
    }

-- ---- the record

pub image-kept : (k : ℕ) (w : List ℕ) (x : List Float) → Kept k w x
    → record_image k (fields_of k w x) ≡ little 2 (mark_of k (office_here k w)) ++ words (head_of k w) ++ floats (tail_of k w x) ++ lists_of k w (word list_counts k)
unfolding record_image lists_of
image-kept k w x p = let f = fields-kept w x k p in rw (f.mark, f.head, f.tail, f.lists)

pub record-small : (k : ℕ) (w : List ℕ) → Listed k w → record_length k w ≤ 12378
unfolding record_length
record-small k w l =
    let a = seven-words k l.table in
    let b = six-floats k l.table in
    let c = three-lists k l.table in
    let d = lists-small k w l (word list_counts k) (omega arith) in
    omega arith

-- ---- its parts, written one behind the other

module _ (k : ℕ) (w : List ℕ) (x : List Float) (p : Kept k w x) where
  -- a mark, then the rest
  pub parts-long : length (record_image k (fields_of k w x)) ≡ 2 + length (words (head_of k w)) + length (floats (tail_of k w x)) + length (lists_of k w (word list_counts k))
  parts-long =
      let m : List ℕ = little 2 (mark_of k (office_here k w)) in
      let h : List ℕ = words (head_of k w) in
      let t : List ℕ = floats (tail_of k w x) in
      let a = ap length (image-kept k w x p) in
      let b = length-append (m ++ h ++ t) (lists_of k w (word list_counts k)) in
      let d = length-append (m ++ h) t in
      let e = length-append m h in
      let f = length-little 2 (mark_of k (office_here k w)) in
      omega arith

  -- the floats begin at q, the lists at s
  pub record-written : (at q s : ℕ) (b : List ℕ) → q ≡ at + 2 + length (words (head_of k w)) → s ≡ q + length (floats (tail_of k w x))
      → at + length (record_image k (fields_of k w x)) ≤ length b
      → over s (lists_of k w (word list_counts k)) (over q (floats (tail_of k w x)) (over (at + 2) (words (head_of k w)) (over at (little 2 (mark_of k (office_here k w))) b)))
      ≡ over at (record_image k (fields_of k w x)) b
  record-written at q s b i j room =
      let l = parts-long in
      let m : List ℕ = little 2 (mark_of k (office_here k w)) in
      let h : List ℕ = words (head_of k w) in
      let t : List ℕ = floats (tail_of k w x) in
      let r : List ℕ = lists_of k w (word list_counts k) in
      let f = length-little 2 (mark_of k (office_here k w)) in
      let d = length-append m h in
      let e = length-append (m ++ h) t in
      let u : over (at + 2) h (over at m b) ≡ over at (m ++ h) b = over-turn at (at + 2) m h (over at m b) b (omega arith) refl (omega arith) in
      let v : over q t (over (at + 2) h (over at m b)) ≡ over at (m ++ h ++ t) b = over-turn at q (m ++ h) t (over (at + 2) h (over at m b)) b (omega arith) u (omega arith) in
      over-turn at s (m ++ h ++ t) r (over q t (over (at + 2) h (over at m b))) b (omega arith) v (omega arith)
      ∙ ap (λ (a : List ℕ). over at a b) (sym (image-kept k w x p))

  pub image-length : length (record_image k (fields_of k w x)) ≡ record_length k w
  unfolding record_length
  image-length =
      let t = p.whole.table in
      let a = parts-long in
      let b = length-words (head_of k w) in
      let c = head-length k w (listed_of k w x p) in
      let d = length-floats (tail_of k w x) in
      let e = tail-length k w x t (p.whole.reals ∙ all-floats k t) in
      omega arith
