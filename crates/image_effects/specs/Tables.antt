-- The records of an image laid over the lent memory: each used record has the image's fields, the counts and the precision are the image's, and the version and slots that are not used stay. Assumes nothing.
use Prim.Native.Nat.{ℕ, zero, suc, ◌+◌, ◌≤◌, ◌<◌}
use Rattle.std.proofs.Common.{zero-add, sym, ◌∙◌, length-drop, length-take-le}
use Rattle.std.proofs.Math.Nat.{lt_of_lt_of_le}
use native.Mathlib.Omega.{arith}
use Rattle.std.proofs.Math.Decide.{dec_lt}
use Rattle.std.specs.Prelude.{◌≡◌, true, get_or, take, drop, Float}
use Rattle.std.proofs.Math.Path.{refl, ap, subst}
use mathlib.Core.List.{List, []}
use Rattle.std.proofs.Math.ListN.{length}
use Rattle.std.specs.Float.Ieee.{nan}
use Rattle.memory_layout.specs.Names.{VERSION, PRECISION}
use Rattle.memory_layout.specs.Layout.{word_strides, real_strides, word, real, base, record_at, word_at, real_at, words_of, reals_of}
use Rattle.memory_layout.specs.Fit.{Inside}
use Rattle.memory_layout.specs.Laws.{before-tables, record-inside}
use Rattle.memory_layout.proofs.Laws.{words-length}
use Rattle.memory_writes.specs.Put.{over, put_words, put_reals}
use Rattle.memory_writes.specs.Over.{length_over, part-behind, entry-behind, entry-written}
use Rattle.memory_writes.specs.Frame.{length-put, put-there, put-elsewhere, put-before}
use Rattle.image_format.specs.Fields.{list_limits_of, PRECISION_RECORD, word_counts, float_counts, fields_in}
use Rattle.image_format.specs.Image.{count_in, fields_at}
use Rattle.image_laws.specs.Numbers.{length-words_in, length-floats_in}
use Rattle.image_record_test.specs.Spelled.{within}
use Rattle.image_loading.specs.Laid.{record_laid, records_laid, floats_laid, words_laid, reals_laid}
use Rattle.image_loading.specs.Facts.{Loadable}
use Rattle.image_laws.specs.Sizes.{all-floats}
use Rattle.image_effects.specs.Records.{Laid, record-laid}

part-long : {A : Type 0} (at n : ℕ) (l : List A) → at + n ≤ length l → length (take n (drop at l)) ≡ n
part-long at n l h = length-take-le n (drop at l) (simp length-drop (omega arith))

-- ---- one memory, of words or of floats: each record of table k of the first c k is changed by g, in its place

module _ {A : Type 0} (from : ℕ) (strides room : List ℕ) (g : ℕ → ℕ → List A → List A) (c : ℕ → ℕ) where
  abbrev part : List A → ℕ → ℕ → List A
  part l k i = take (word strides k) (drop (record_at from strides room k i) l)

  -- the first n records of table k
  unfoldable some : ℕ → ℕ → List A → List A
  some k zero l = l
  some k (suc i) l = let v = some k i l in over (record_at from strides room k i) (g k i (part v k i)) v

  -- the first k tables
  unfoldable first : ℕ → List A → List A
  first zero l = l
  first (suc k) l = some k (c k) (first k l)

  module _ (room_for : (k : ℕ) → k < 10 → c k ≤ word room k)
      (whole : (k i : ℕ) (r : List A) → k < 10 → i < c k → length r ≡ word strides k → length (g k i r) ≡ word strides k) where
    -- the memory v is l with the first n records of table k changed
    record Some (k n : ℕ) (l v : List A) : Type 0 where
      pub long : length v ≡ length l
      pub before : (q : ℕ) (d : A) → q < from → get_or v q d ≡ get_or l q d
      pub else : (m j : ℕ) → j < word room m → (m ≡ k → n ≤ j) → part v m j ≡ part l m j
      pub there : (j : ℕ) → j < n → part v k j ≡ g k j (part l k j)

    some-laid : (k n : ℕ) (l : List A) → k < 10 → n ≤ c k → base from strides room 10 ≤ length l → Some k n l (some k n l)
    unfolding some
    some-laid k zero l h u e = record { long = refl; before = λ q d p. refl; else = λ m j p z. refl; there = λ j p. absurd (omega arith) }
    some-laid k (suc i) l h u e =
        let v : List A = some k i l in
        let s = some-laid k i l h (omega arith) e in
        let slot : i < word room k = lt_of_lt_of_le u (room_for k h) in
        let long : length v ≡ length l = s.long in
        let a : Inside (base from strides room 10) (length v) room k i = record { enough = omega arith; table = h; slot = slot } in
        let r : List A = g k i (part v k i) in
        let full : length r ≡ word strides k =
        whole k i (part v k i) h u (part-long (record_at from strides room k i) (word strides k) v (let b = record-inside from strides room k i h slot in omega arith)) in
        let last : part (over (record_at from strides room k i) r v) k i ≡ g k i (part l k i) =
        put-there from strides room v r k i a full ∙ ap (g k i) (s.else k i slot (λ x. omega arith)) in
        record {
          long = length-put from strides room v r k i a full ∙ long;
          before = λ q d p. put-before from strides room v r k i a full q d p ∙ s.before q d p;
          else = λ m j p z.
              put-elsewhere from strides room v r k i a full m j p (λ x y. let b = z (sym x) in omega arith)
              ∙ s.else m j p (λ x. let y = z x in omega arith);
          there = λ j p. elim (dec_lt j i) [
            | yes b ↦ put-elsewhere from strides room v r k i a full k j (let d = slot in omega arith) (λ x y. omega arith) ∙ s.there j b
            | no b ↦ let d : j ≡ i = omega arith in rw d last
          ];
        }

    -- the memory v is l with the records of the first n tables changed
    record First (n : ℕ) (l v : List A) : Type 0 where
      pub long : length v ≡ length l
      pub before : (q : ℕ) (d : A) → q < from → get_or v q d ≡ get_or l q d
      pub else : (m j : ℕ) → j < word room m → (m < n → c m ≤ j) → part v m j ≡ part l m j
      pub there : (m j : ℕ) → m < n → j < c m → part v m j ≡ g m j (part l m j)

    first-laid : (n : ℕ) (l : List A) → n ≤ 10 → base from strides room 10 ≤ length l → First n l (first n l)
    unfolding first
    first-laid zero l h e = record { long = refl; before = λ q d p. refl; else = λ m j p z. refl; there = λ m j p q. absurd (omega arith) }
    first-laid (suc k) l h e =
        let v : List A = first k l in
        let f = first-laid k l (omega arith) e in
        let long : length v ≡ length l = f.long in
        let s = some-laid k (c k) v h (omega arith) (omega arith) in
        record {
          long = s.long ∙ long;
          before = λ q d p. s.before q d p ∙ f.before q d p;
          else = λ m j p z. s.else m j p (λ x. subst (λ (n : ℕ). c n ≤ j) x (z (omega arith))) ∙ f.else m j p (λ x. z (omega arith));
          there = λ m j p q. elim (dec_lt m k) [
            | yes b ↦ s.else m j (lt_of_lt_of_le q (room_for m (omega arith))) (λ x. absurd (omega arith)) ∙ f.there m j b q
            | no b ↦ let d : m ≡ k = omega arith in
                subst (λ (n : ℕ). part (some k (c k) v) n j ≡ g n j (part l n j)) (sym d)
                (let u : j < c k = subst (λ (n : ℕ). j < c n) d q in
                s.there j u ∙ ap (g k j) (f.else k j (lt_of_lt_of_le u (room_for k h)) (λ x. absurd (omega arith))))
          ];
        }

-- ---- the lent memory

-- the words v and the floats y have an image's records b, and else read as w and x
pub record Read (room w v : List ℕ) (x y : List Float) (b : List ℕ) : Type 0 where
  pub words_long : length v ≡ length w
  pub reals-long : length y ≡ length x
  pub version : word v VERSION ≡ word w VERSION
  pub precision : real y PRECISION ≡ real (fields_in PRECISION_RECORD b).floats PRECISION
  pub counts : (k : ℕ) → k < 10 → word v k ≡ count_in b k
  pub words : (k i : ℕ) → k < 10 → i < count_in b k → Laid k (fields_at b k i) (words_of room w k i) (words_of room v k i)
  pub reals : (k i : ℕ) → k < 10 → i < count_in b k → reals_of room y k i ≡ (fields_at b k i).floats
  pub words-stay : (k i : ℕ) → k < 10 → count_in b k ≤ i → i < word room k → words_of room v k i ≡ words_of room w k i
  pub reals-stay : (k i : ℕ) → k < 10 → count_in b k ≤ i → i < word room k → reals_of room y k i ≡ reals_of room x k i

module _ (room b : List ℕ) where
  -- what is laid over the words and the floats of record i of table k
  abbrev new_words : ℕ → ℕ → List ℕ → List ℕ
  new_words k i r = record_laid k (fields_at b k i) r

  abbrev new_reals : ℕ → ℕ → List Float → List Float
  new_reals k i r = (fields_at b k i).floats

  abbrev head : List ℕ
  head = (fields_in PRECISION_RECORD b).words

  abbrev precision : List Float
  precision = (fields_in PRECISION_RECORD b).floats

  some_words : (k n : ℕ) (l : List ℕ) → records_laid room b k n l ≡ some 11 word_strides room new_words (count_in b) k n l
  unfolding records_laid some put_words words_of
  some_words k zero l = refl
  some_words k (suc i) l =
      ap (λ (v : List ℕ). over (word_at room k i) (new_words k i (take (word word_strides k) (drop (word_at room k i) v))) v) (some_words k i l)

  all_words : (n : ℕ) (l : List ℕ) → words_laid room b n l ≡ first 11 word_strides room new_words (count_in b) n (over 0 head l)
  unfolding words_laid first
  all_words zero l = refl
  all_words (suc k) l = some_words k (count_in b k) (words_laid room b k l) ∙ ap (some 11 word_strides room new_words (count_in b) k (count_in b k)) (all_words k l)

  some-reals : (k n : ℕ) (l : List Float) → floats_laid room b k n l ≡ some 1 real_strides room new_reals (count_in b) k n l
  unfolding floats_laid some put_reals
  some-reals k zero l = refl
  some-reals k (suc i) l = ap (λ (v : List Float). over (real_at room k i) (fields_at b k i).floats v) (some-reals k i l)

  all-reals : (n : ℕ) (l : List Float) → reals_laid room b n l ≡ first 1 real_strides room new_reals (count_in b) n (over 0 precision l)
  unfolding reals_laid first
  all-reals zero l = refl
  all-reals (suc k) l = some-reals k (count_in b k) (reals_laid room b k l) ∙ ap (some 1 real_strides room new_reals (count_in b) k (count_in b k)) (all-reals k l)

  head-many : length head ≡ 10
  unfolding fields_in
  head-many = length-words_in 10 (drop 2 b)

  precision-one : length precision ≡ 1
  unfolding fields_in
  precision-one = length-floats_in 1 (drop 42 b)

  words-many : (k i : ℕ) → length (fields_at b k i).words ≡ word word_counts k
  unfolding fields_at fields_in
  words-many k i = length-words_in (word word_counts k) _

  floats-many : (k i : ℕ) → length (fields_at b k i).floats ≡ word float_counts k
  unfolding fields_at fields_in
  floats-many k i = length-floats_in (word float_counts k) _

module _ (room w : List ℕ) (x : List Float) (b : List ℕ) (load : Loadable room w x b) where
  -- a record of the image laid over a whole record
  laid-whole : (k i : ℕ) (r : List ℕ) → k < 10 → i < count_in b k → length r ≡ word word_strides k → Laid k (fields_at b k i) r (record_laid k (fields_at b k i) r)
  laid-whole k i r h g e = record-laid k (fields_at b k i) r h (words-many room b k i) short e
    where
      short : within (get_or list_limits_of k []) (fields_at b k i).lists ≡ true
      short = unfold fields_at in (load.lies k i h g).short

  reals-whole : (k i : ℕ) (r : List Float) → k < 10 → i < count_in b k → length r ≡ word real_strides k → length (fields_at b k i).floats ≡ word real_strides k
  reals-whole k i r h g e = floats-many room b k i ∙ sym (all-floats k h)

  -- the front of the words and of the floats, in front of the tables
  head-fits : 0 + length (head room b) ≤ length w
  head-fits = let n = head-many room b in let t = before-tables 11 word_strides room 10 in omega (arith, load.lent.words)

  precision-fits : 0 + length (precision room b) ≤ length x
  precision-fits = let n = precision-one room b in let t = before-tables 1 real_strides room 10 in omega (arith, load.lent.reals)

  head-long : length (over 0 (head room b) w) ≡ length w
  head-long = length_over 0 (head room b) w head-fits

  precision-long : length (over 0 (precision room b) x) ≡ length x
  precision-long = length_over 0 (precision room b) x precision-fits

  head_apart : (k i : ℕ) → words_of room (over 0 (head room b) w) k i ≡ words_of room w k i
  unfolding words_of
  head_apart k i =
      let n = head-many room b in
      let t = before-tables 11 word_strides room k in
      part-behind 0 (word_at room k i) (word word_strides k) (head room b) w (omega arith) head-fits

  precision-apart : (k i : ℕ) → reals_of room (over 0 (precision room b) x) k i ≡ reals_of room x k i
  unfolding reals_of
  precision-apart k i =
      let n = precision-one room b in
      let t = before-tables 1 real_strides room k in
      part-behind 0 (real_at room k i) (word real_strides k) (precision room b) x (omega arith) precision-fits

  slot-long : (k i : ℕ) → k < 10 → i < count_in b k → length (words_of room w k i) ≡ word word_strides k
  slot-long k i h g = words-length room w k i (record { enough = load.lent.words; table = h; slot = lt_of_lt_of_le g (load.counts k h) })

  count-there : (k : ℕ) → k < 10 → word (over 0 (head room b) w) k ≡ count_in b k
  unfolding count_in
  count-there k h =
      let n = head-many room b in
      ap (word (over 0 (head room b) w)) (sym (zero-add k)) ∙ entry-written 0 k (head room b) w 0 (omega arith) (omega arith)

  pub read : Read room w (words_laid room b 10 w) x (reals_laid room b 10 x) b
  unfolding words_of reals_of
  read =
      let f = first-laid 11 word_strides room (new_words room b) (count_in b) load.counts (λ k i r h g e. (laid-whole k i r h g e).long) 10 (over 0 (head room b) w)
      (omega arith) (let l = head-long in omega (arith, load.lent.words)) in
      let g = first-laid 1 real_strides room (new_reals room b) (count_in b) load.counts reals-whole 10 (over 0 (precision room b) x)
      (omega arith) (let l = precision-long in omega (arith, load.lent.reals)) in
      let n = precision-one room b in
      let m = head-many room b in
      rw (all_words room b 10 w, all-reals room b 10 x)
      (record {
        words_long = f.long ∙ head-long;
        reals-long = g.long ∙ precision-long;
        version = f.before 10 0 (omega arith) ∙ entry-behind 0 10 (head room b) w 0 (omega arith) head-fits;
        precision = g.before 0 nan (omega arith) ∙ entry-written 0 0 (precision room b) x nan (omega arith) (omega arith);
        counts = λ k h. f.before k 0 (omega arith) ∙ count-there k h;
        words = λ k i h u.
            subst (λ (r : List ℕ). Laid k (fields_at b k i) (words_of room w k i) r) (sym (f.there k i h u ∙ ap (new_words room b k i) (head_apart k i)))
            (laid-whole k i (words_of room w k i) h u (slot-long k i h u));
        reals = λ k i h u. g.there k i h u;
        words-stay = λ k i h u v. f.else k i v (λ _. u) ∙ head_apart k i;
        reals-stay = λ k i h u v. g.else k i v (λ _. u) ∙ precision-apart k i;
      })
