-- How each record reads behind an accepted split: the loops and shells with their longer lists, the two halves, the new fins and the new vertex, and all others as they were.
-- Assumes nothing.
use Rattle.std.specs.Prelude.{ℕ, zero, suc, ◌+◌, ◌-◌, ◌≤◌, ◌<◌, ◌≡◌, ◌⊎◌, false, List, [], ◌∷◌, eqb, length, Float}
use Rattle.std.proofs.Common.{arith, ◌∙◌, eq-eqb, ne_eqb, lt-ltb, le-ltb, le-leb}
use Rattle.std.proofs.Math.Path.{refl, ap}
use Rattle.std.proofs.Math.Logic.{inl, inr}
use Rattle.std.proofs.Math.ListN.{length-map}
use Rattle.std.specs.Float.Ieee.{nan}
use Rattle.std.proofs.lemmas.Bool.{lt-leb}
use Rattle.float_vectors.specs.declared.vector.Point3.{Point3}
use Rattle.meaning.specs.Lists.{joined}
use Rattle.meaning.specs.Split.{split_point}
use Rattle.memory_layout.specs.Layout.{word_strides, real_strides, word, real, word_at, reals_needed, words_of, reals_of}
use Rattle.memory_layout.specs.Decode.{decode}
use Rattle.memory_layout.specs.Entries.{list_of}
use Rattle.memory_layout.specs.Fit.{Inside}
use Rattle.memory_layout.specs.Laws.{before-tables, used-inside}
use Rattle.memory_layout.proofs.Laws.{words-length}
use Rattle.memory_writes.specs.Put.{over, put_reals}
use Rattle.memory_writes.specs.Over.{length_over, part-behind, entry-before, entry-behind, entry-written}
use Rattle.memory_writes.specs.Frame.{length-put, put-there, put-elsewhere, put-before}
use Rattle.edit_lists.specs.Place.{with_list}
use Rattle.edit_lists.specs.Records.{word-length, word-behind}
use Rattle.split_lists.specs.Beside.{entries_for, doubled}
use Rattle.split_pieces.specs.Pieces.{fin_words, new_fin_words, second_fields, counts_put, floats_put}
use Rattle.split_pieces.specs.Facts.{Slots}
use Rattle.split_pieces.specs.Laws.{edge-long, second-long}
use Rattle.split_pieces.specs.Steps.{Stage}
use Rattle.split_writes.specs.Written.{lists_put, records_put, split_put, words_split}
use Rattle.split_edge.specs.After.{reals_split}
use Rattle.split_edge.specs.Rooms.{Accepted, ready, loop-fits, shell-fits}
use Rattle.split_writes.specs.Chain.{now_all, all-stage}

-- ---- a record's floats, behind a write of others

module _ (room : List ℕ) (x s : List Float) (k i : ℕ) (inside : Inside (reals_needed room) (length x) room k i) (whole : length s ≡ word real_strides k) where
  floats-there : reals_of room (put_reals room k i s x) k i ≡ s
  unfolding put_reals reals_of
  floats-there = put-there 1 real_strides room x s k i inside whole

  floats-else : (m j : ℕ) → j < word room m → (k ≡ m → i ≡ j → ⊥) → reals_of room (put_reals room k i s x) m j ≡ reals_of room x m j
  unfolding put_reals reals_of
  floats-else = put-elsewhere 1 real_strides room x s k i inside whole

  floats-long : length (put_reals room k i s x) ≡ length x
  unfolding put_reals
  floats-long = length-put 1 real_strides room x s k i inside whole

  floats-first : real (put_reals room k i s x) 0 ≡ real x 0
  unfolding put_reals
  floats-first = put-before 1 real_strides room x s k i inside whole 0 nan (omega arith)

module _ (room w : List ℕ) (x : List Float) (e : ℕ) (t : Float) (a : Accepted room w x e t) where
  abbrev pub fins : List ℕ
  fins = list_of room w 7 e

  abbrev pub owners : List ℕ
  owners = fin_words room w 0 fins

  abbrev pub senses : List ℕ
  senses = fin_words room w 2 fins

  abbrev pub n : ℕ
  n = length owners

  pub fins-long : length owners ≡ length fins
  unfolding fin_words
  fins-long = length-map fins _

  -- a record of before is whole
  pub record-long : (k i : ℕ) → k < 10 → i < word w k → length (words_of room w k i) ≡ word word_strides k
  record-long k i h g = words-length room w k i (used-inside room w x k i a.fit.sized h g).0

  -- ---- the words

  abbrev v : List ℕ
  v = records_put room e owners senses (lists_put room e fins owners senses w)

  abbrev pub now : ℕ → ℕ → List ℕ
  now = now_all room w e fins owners senses (ready room w x e t a)

  stage : Stage room w v now
  stage = all-stage room w e fins owners senses (ready room w x e t a)

  abbrev pub w' : List ℕ
  w' = words_split room w e

  pub room-kept : Slots room w n
  room-kept = (ready room w x e t a).slots

  pub words_long : length w' ≡ length w
  unfolding words_split split_put counts_put
  words_long =
      let l = stage.long in
      let c = room-kept.counts in
      length_over 5 ((word v 5 + n) ∷ (word v 6 + 1) ∷ (word v 7 + 1) ∷ []) v (omega arith) ∙ l

  -- the used counts, and the version
  pub head-else : (q : ℕ) → q < 11 → (q < 5) ⊎ (7 < q) → word w' q ≡ word w q
  unfolding words_split split_put counts_put
  head-else q h o =
      let l = stage.long in
      let c = room-kept.counts in
      elim o [
        | inl b ↦ entry-before 5 q ((word v 5 + n) ∷ (word v 6 + 1) ∷ (word v 7 + 1) ∷ []) v 0 b (omega arith) ∙ stage.counts q h
        | inr b ↦ entry-behind 5 q ((word v 5 + n) ∷ (word v 6 + 1) ∷ (word v 7 + 1) ∷ []) v 0 (omega arith) (omega arith) ∙ stage.counts q h
      ]

  pub used-else : (q : ℕ) → q < 10 → (q < 5) ⊎ (7 < q) → word w' q ≡ word w q
  used-else q h o = head-else q (omega arith) o

  pub used-fins : word w' 5 ≡ word w 5 + n
  unfolding words_split split_put counts_put
  used-fins =
      let l = stage.long in
      let c = room-kept.counts in
      entry-written 5 0 ((word v 5 + n) ∷ (word v 6 + 1) ∷ (word v 7 + 1) ∷ []) v 0 (omega arith) (omega arith) ∙ ap (λ (k : ℕ). k + n) (stage.counts 5 (omega arith))

  pub used-edges : word w' 6 ≡ word w 6 + 1
  unfolding words_split split_put counts_put
  used-edges =
      let l = stage.long in
      let c = room-kept.counts in
      entry-written 5 1 ((word v 5 + n) ∷ (word v 6 + 1) ∷ (word v 7 + 1) ∷ []) v 0 (omega arith) (omega arith) ∙ ap (λ (k : ℕ). k + 1) (stage.counts 6 (omega arith))

  pub used-vertices : word w' 7 ≡ word w 7 + 1
  unfolding words_split split_put counts_put
  used-vertices =
      let l = stage.long in
      let c = room-kept.counts in
      entry-written 5 2 ((word v 5 + n) ∷ (word v 6 + 1) ∷ (word v 7 + 1) ∷ []) v 0 (omega arith) (omega arith) ∙ ap (λ (k : ℕ). k + 1) (stage.counts 7 (omega arith))

  -- no record's words hold a used count
  pub reads : (m j : ℕ) → j < word room m → words_of room w' m j ≡ now m j
  unfolding words_split split_put counts_put words_of
  reads m j h =
      let l = stage.long in
      let c = room-kept.counts in
      let b = before-tables 11 word_strides room m in
      part-behind 5 (word_at room m j) (word word_strides m) ((word v 5 + n) ∷ (word v 6 + 1) ∷ (word v 7 + 1) ∷ []) v (omega arith) (omega arith)
      ∙ stage.reads m j h

  -- a used record has a slot
  pub in_use : (k j : ℕ) → k < 10 → j < word w k → j < word room k
  in_use k j h g = let c = a.fit.sized.counts k h in omega arith

  -- a shell's wire edges, and a loop's fins
  pub shell-words : (j : ℕ) → j < word w 2
      → words_of room w' 2 j ≡ with_list 514 (joined (entries_for (e ∷ []) (0 ∷ []) (0 ∷ []) 0 (word w 6)) (list_of room w 3 j)) (words_of room w 2 j)
  unfolding with_list doubled list_of
  shell-words j h = reads 2 j (in_use 2 j (omega arith) h) ∙ rw (lt-ltb j (word w 2) h) refl

  pub loop-words : (j : ℕ) → j < word w 4
      → words_of room w' 4 j ≡ with_list 1 (joined (entries_for fins owners senses j (word w 5)) (list_of room w 6 j)) (words_of room w 4 j)
  unfolding with_list doubled list_of
  loop-words j h = reads 4 j (in_use 4 j (omega arith) h) ∙ rw (lt-ltb j (word w 4) h) refl

  -- the fins
  pub old-fin : (j : ℕ) → j < word w 5 → words_of room w' 5 j ≡ words_of room w 5 j
  old-fin j h = reads 5 j (in_use 5 j (omega arith) h) ∙ rw (lt-leb (word w 5) j h) refl

  pub new-fin : (j : ℕ) → word w 5 ≤ j → j < word w 5 + n → words_of room w' 5 j ≡ new_fin_words owners senses (word w 6) (j - word w 5)
  new-fin j h g = let f = room-kept.fins in reads 5 j (omega arith) ∙ rw (le-leb (word w 5) j h, lt-ltb j (word w 5 + n) g) refl

  -- the edges
  abbrev pub first-half : List ℕ
  first-half = over 2 (1 ∷ word w 7 ∷ []) (words_of room w 6 e)

  abbrev pub second-half : List ℕ
  second-half = over 0 (second_fields (words_of room w 6 e) (word w 7) (word w 5) n) (words_of room w 6 (word w 6))

  pub there : e < word w 6
  there = a.opens.there

  apart : eqb e (word w 6) ≡ false
  apart = let h = there in ne_eqb e (word w 6) (λ q. omega arith)

  pub old-edge : (j : ℕ) → j < word w 6 → (j ≡ e → ⊥) → words_of room w' 6 j ≡ words_of room w 6 j
  old-edge j h o = reads 6 j (in_use 6 j (omega arith) h) ∙ rw (ne_eqb j e o, ne_eqb j (word w 6) (λ q. omega arith)) refl

  pub first_edge : words_of room w' 6 e ≡ first-half
  first_edge = reads 6 e (in_use 6 e (omega arith) there) ∙ rw (eq-eqb e e refl, apart) refl

  pub second-edge : words_of room w' 6 (word w 6) ≡ second-half
  second-edge =
      let h = there in
      reads 6 (word w 6) room-kept.edges ∙ rw (ne_eqb (word w 6) e (λ q. omega arith), eq-eqb (word w 6) (word w 6) refl) refl

  -- the vertices
  pub old-vertex : (j : ℕ) → j < word w 7 → words_of room w' 7 j ≡ words_of room w 7 j
  old-vertex j h = reads 7 j (in_use 7 j (omega arith) h) ∙ rw (ne_eqb j (word w 7) (λ q. omega arith)) refl

  pub new-vertex : words_of room w' 7 (word w 7) ≡ word first-half 6 ∷ []
  new-vertex = reads 7 (word w 7) room-kept.vertices ∙ rw (eq-eqb (word w 7) (word w 7) refl, eq-eqb e e refl, apart) refl

  -- ---- what the split does not use

  -- a place behind the entries of a loop, of a shell, of the new edge holds what it held
  pub loop-place : (j q : ℕ) → j < word w 4 → 1 + word (words_of room w' 4 j) 1 < q → word (words_of room w' 4 j) q ≡ word (words_of room w 4 j) q
  loop-place j q h g =
      let r = words-length room w 4 j (used-inside room w x 4 j a.fit.sized (omega arith) h).0 in
      let new : List ℕ = joined (entries_for fins owners senses j (word w 5)) (list_of room w 6 j) in
      let f = loop-fits room w x e t a j h in
      let c = ap (λ (l : List ℕ). word l 1) (loop-words j h) ∙ word-length 1 new (words_of room w 4 j) (omega arith) in
      ap (λ (l : List ℕ). word l q) (loop-words j h) ∙ word-behind 1 new (words_of room w 4 j) (omega arith) q (omega arith)

  pub shell-place : (j q : ℕ) → j < word w 2 → 514 + word (words_of room w' 2 j) 514 < q → word (words_of room w' 2 j) q ≡ word (words_of room w 2 j) q
  shell-place j q h g =
      let r = words-length room w 2 j (used-inside room w x 2 j a.fit.sized (omega arith) h).0 in
      let new : List ℕ = joined (entries_for (e ∷ []) (0 ∷ []) (0 ∷ []) 0 (word w 6)) (list_of room w 3 j) in
      let f = shell-fits room w x e t a j h in
      let c = ap (λ (l : List ℕ). word l 514) (shell-words j h) ∙ word-length 514 new (words_of room w 2 j) (omega arith) in
      ap (λ (l : List ℕ). word l q) (shell-words j h) ∙ word-behind 514 new (words_of room w 2 j) (omega arith) q (omega arith)

  pub edge-place : (q : ℕ) → 7 + length fins < q → word (words_of room w' 6 (word w 6)) q ≡ word (words_of room w 6 (word w 6)) q
  edge-place q g =
      let s = room-kept in
      let f = s.few in
      let k = fins-long in
      let r = edge-long room w n s (word w 6) (omega arith) in
      let l = second-long (words_of room w 6 e) (word w 7) (word w 5) n in
      ap (λ (l : List ℕ). word l q) second-edge
      ∙ entry-behind 0 q (second_fields (words_of room w 6 e) (word w 7) (word w 5) n) (words_of room w 6 (word w 6)) 0 (omega arith) (omega arith)

  -- a slot that is not used, before the split nor behind it, holds what it held
  pub slot-words : (m j : ℕ) → m < 10 → word w' m ≤ j → j < word room m → words_of room w' m j ≡ words_of room w m j
  slot-words zero j h u g = reads 0 j g
  slot-words (suc zero) j h u g = reads 1 j g
  slot-words (suc (suc zero)) j h u g = let d = used-else 2 h (inl (omega arith)) in reads 2 j g ∙ rw (le-ltb j (word w 2) (omega arith)) refl
  slot-words (suc (suc (suc zero))) j h u g = reads 3 j g
  slot-words (suc (suc (suc (suc zero)))) j h u g = let d = used-else 4 h (inl (omega arith)) in reads 4 j g ∙ rw (le-ltb j (word w 4) (omega arith)) refl
  slot-words (suc (suc (suc (suc (suc zero))))) j h u g =
      let d = used-fins in
      reads 5 j g ∙ rw (le-leb (word w 5) j (omega arith), le-ltb j (word w 5 + n) (omega arith)) refl
  slot-words (suc (suc (suc (suc (suc (suc zero)))))) j h u g =
      let d = used-edges in
      let o = there in
      reads 6 j g ∙ rw (ne_eqb j e (λ q. omega arith), ne_eqb j (word w 6) (λ q. omega arith)) refl
  slot-words (suc (suc (suc (suc (suc (suc (suc zero))))))) j h u g = let d = used-vertices in reads 7 j g ∙ rw (ne_eqb j (word w 7) (λ q. omega arith)) refl
  slot-words (suc (suc (suc (suc (suc (suc (suc (suc zero)))))))) j h u g = reads 8 j g
  slot-words (suc (suc (suc (suc (suc (suc (suc (suc (suc zero))))))))) j h u g = reads 9 j g
  slot-words (suc (suc (suc (suc (suc (suc (suc (suc (suc (suc m)))))))))) j h u g = absurd (omega arith)

  -- ---- the floats

  abbrev pub tolerance : Float
  tolerance = real (reals_of room x 6 e) 0

  abbrev pub point : Point3
  point = split_point (decode room w x) e t

  abbrev pub vertex-reals : List Float
  vertex-reals = point.x ∷ point.y ∷ point.z ∷ tolerance ∷ []

  abbrev x₁ : List Float
  x₁ = put_reals room 6 (word w 6) (tolerance ∷ []) x

  abbrev pub x' : List Float
  x' = reals_split room w x e t

  edge-slot : Inside (reals_needed room) (length x) room 6 (word w 6)
  edge-slot = record { enough = a.fit.sized.reals; table = omega arith; slot = room-kept.edges }

  vertex-slot : Inside (reals_needed room) (length x₁) room 7 (word w 7)
  vertex-slot =
      let l = floats-long room x (tolerance ∷ []) 6 (word w 6) edge-slot refl in
      let g = a.fit.sized.reals in
      record { enough = omega arith; table = omega arith; slot = room-kept.vertices }

  pub reals-long : length x' ≡ length x
  unfolding reals_split floats_put
  reals-long = floats-long room x₁ vertex-reals 7 (word w 7) vertex-slot refl ∙ floats-long room x (tolerance ∷ []) 6 (word w 6) edge-slot refl

  pub precision-same : real x' 0 ≡ real x 0
  unfolding reals_split floats_put
  precision-same = floats-first room x₁ vertex-reals 7 (word w 7) vertex-slot refl ∙ floats-first room x (tolerance ∷ []) 6 (word w 6) edge-slot refl

  pub floats_same : (m j : ℕ) → j < word room m → (6 ≡ m → word w 6 ≡ j → ⊥) → (7 ≡ m → word w 7 ≡ j → ⊥) → reals_of room x' m j ≡ reals_of room x m j
  unfolding reals_split floats_put
  floats_same m j h o q =
      floats-else room x₁ vertex-reals 7 (word w 7) vertex-slot refl m j h q
      ∙ floats-else room x (tolerance ∷ []) 6 (word w 6) edge-slot refl m j h o

  pub edge-floats : reals_of room x' 6 (word w 6) ≡ tolerance ∷ []
  unfolding reals_split floats_put
  edge-floats =
      floats-else room x₁ vertex-reals 7 (word w 7) vertex-slot refl 6 (word w 6) room-kept.edges (λ d _. omega arith)
      ∙ floats-there room x (tolerance ∷ []) 6 (word w 6) edge-slot refl

  pub vertex-floats : reals_of room x' 7 (word w 7) ≡ vertex-reals
  unfolding reals_split floats_put
  vertex-floats = floats-there room x₁ vertex-reals 7 (word w 7) vertex-slot refl

  pub slot-floats : (m j : ℕ) → m < 10 → word w' m ≤ j → j < word room m → reals_of room x' m j ≡ reals_of room x m j
  slot-floats m j h u g =
      floats_same m j g (λ d q. let c : word w' 6 ≡ word w' m = ap (word w') d in let k = used-edges in omega arith)
      (λ d q. let c : word w' 7 ≡ word w' m = ap (word w') d in let k = used-vertices in omega arith)
