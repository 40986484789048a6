-- Laws of the writers: turns of their loops, and records written whole. Assumes nothing.
use Prim.Native.Nat.{ℕ, zero, suc, ◌+◌, ◌≤◌, ◌<◌}
use Rattle.std.proofs.Common.{add-zero, lt_of_le_of_lt, add-one, arith, ◌∙◌, take-suc, length-take-le, take_all}
use Rattle.std.specs.Prelude.{◌≡◌, refl, get_or, take, set}
use Rattle.std.proofs.Math.Path.{sym, ap}
use mathlib.Core.List.{List, [], ◌∷◌, ◌++◌, map}
use Rattle.std.proofs.Math.ListN.{length}
use Rattle.std.proofs.lemmas.List.{length-map}
use Rattle.meaning.specs.Lists.{run}
use Rattle.meaning_list_laws.specs.Lists.{length_run}
use Rattle.memory_layout.specs.Layout.{word, words_needed, words_of}
use Rattle.memory_layout.specs.Fit.{Inside}
use Rattle.memory_layout.proofs.Laws.{words-length}
use Rattle.memory_writes.specs.Put.{over, put_words}
use Rattle.memory_writes.specs.Over.{length_over, over_none, over-whole, over-behind, one_store}
use Rattle.split_lists.specs.Pass.{put_all}
use Rattle.split_lists.specs.Laws.{all-long}
use Rattle.split_pieces.specs.Pieces.{new_fin_words, second_fields}
use Rattle.split_pieces.specs.Facts.{Slots, second_room}

-- ---- word p of each fin

map_snoc : (f : ℕ → ℕ) (l : List ℕ) (y : ℕ) → map f (l ++ (y ∷ [])) ≡ map f l ++ (f y ∷ [])
map_snoc f [] y = refl
map_snoc f (z ∷ l) y = ap (λ (r : List ℕ). f z ∷ r) (map_snoc f l y)

module _ (f : ℕ → ℕ) (l out : List ℕ) (same : length out ≡ length l) where
  pub mapped-none : out ≡ over 0 (map f (take 0 l)) out
  mapped-none = sym (over_none 0 out)

  pub mapped-turn : (k : ℕ) → k < length l → set (over 0 (map f (take k l)) out) k (f (get_or l k 0)) ≡ over 0 (map f (take (k + 1) l)) out
  mapped-turn k h =
      let a : List ℕ = map f (take k l) in
      let v : ℕ = f (get_or l k 0) in
      let n : length a ≡ k = length-map (take k l) f ∙ length-take-le k l (omega arith) in
      let e : map f (take (k + 1) l) ≡ a ++ (v ∷ []) = rw (add-one, take-suc l k 0) (map_snoc f (take k l) (get_or l k 0)) in
      let m : length (a ++ (v ∷ [])) ≡ k + 1 = sym (ap length e) ∙ length-map (take (k + 1) l) f ∙ length-take-le (k + 1) l (omega arith) in
      let z : 0 + length a ≡ k = omega arith in
      one_store (over 0 a out) k v (let q = length_over 0 a out (omega arith) in omega arith)
      ∙ ap (λ (q : ℕ). over q (v ∷ []) (over 0 a out)) (sym z)
      ∙ over-behind 0 a (v ∷ []) out (omega arith)
      ∙ ap (λ (r : List ℕ). over 0 r out) (sym e)

  pub mapped-all : (k : ℕ) → length l ≤ k → over 0 (map f (take k l)) out ≡ map f l
  mapped-all k h = ap (λ (r : List ℕ). over 0 (map f r) out) (take_all k l h) ∙ over-whole (map f l) out (length-map l f ∙ sym same)

-- ---- the new edge's words

pub second-part : (s : List ℕ) (vertex first n : ℕ) → n ≤ 8 → take (8 + n) (second_room s vertex first n) ≡ second_fields s vertex first n
unfolding second_room second_fields run
second-part s vertex first n h =
    let e : 8 + n ≡ suc (suc (suc (suc (suc (suc (suc (suc n))))))) = omega arith in
    ap (λ (k : ℕ). take k (second_room s vertex first n)) e
    ∙ ap (λ (r : List ℕ). 1 ∷ vertex ∷ word s 2 ∷ word s 3 ∷ word s 4 ∷ word s 5 ∷ word s 6 ∷ n ∷ r) (ap (ids n) (sym (add-zero first)) ∙ in_order n h)
  where
    ids : ℕ → ℕ → List ℕ
    ids n u = take n (u ∷ (first + 1) ∷ (first + 2) ∷ (first + 3) ∷ (first + 4) ∷ (first + 5) ∷ (first + 6) ∷ (first + 7) ∷ [])

    in_order : (n : ℕ) → n ≤ 8 → ids n (first + 0) ≡ run first n
    in_order zero h = refl
    in_order (suc zero) h = refl
    in_order (suc (suc zero)) h = refl
    in_order (suc (suc (suc zero))) h = refl
    in_order (suc (suc (suc (suc zero)))) h = refl
    in_order (suc (suc (suc (suc (suc zero))))) h = refl
    in_order (suc (suc (suc (suc (suc (suc zero)))))) h = refl
    in_order (suc (suc (suc (suc (suc (suc (suc zero))))))) h = refl
    in_order (suc (suc (suc (suc (suc (suc (suc (suc zero)))))))) h = refl
    in_order (suc (suc (suc (suc (suc (suc (suc (suc (suc n))))))))) h = absurd (omega arith)

pub second-long : (s : List ℕ) (vertex first n : ℕ) → length (second_fields s vertex first n) ≡ 8 + n
unfolding second_fields
second-long s vertex first n = let e = length_run first n in omega arith

-- ---- records within the memory

module _ (room w : List ℕ) (n : ℕ) (s : Slots room w n) where
  pub edge-inside : (i : ℕ) → i ≤ word w 6 → Inside (words_needed room) (length w) room 6 i
  edge-inside i h = record { enough = s.enough; table = omega arith; slot = lt_of_le_of_lt h s.edges }

  pub edge-long : (i : ℕ) → i ≤ word w 6 → length (words_of room w 6 i) ≡ 16
  edge-long i h = words-length room w 6 i (edge-inside i h)

  pub vertex-inside : Inside (words_needed room) (length w) room 7 (word w 7)
  vertex-inside = record { enough = s.enough; table = omega arith; slot = s.vertices }

  -- a vertex is one word
  pub vertex-whole : (t : ℕ) → over 0 (t ∷ []) (words_of room w 7 (word w 7)) ≡ t ∷ []
  vertex-whole t = over-whole (t ∷ []) (words_of room w 7 (word w 7)) (sym (words-length room w 7 (word w 7) vertex-inside))

-- ---- new fins

pub new-fin-long : (owners senses : List ℕ) (e k : ℕ) → length (new_fin_words owners senses e k) ≡ 4
unfolding new_fin_words
new-fin-long owners senses e k = refl

module _ (room w owners senses : List ℕ) (s : Slots room w (length owners)) where
  abbrev pub fins_up_to : ℕ → List ℕ
  fins_up_to k = put_all room 5 (word w 5) (new_fin_words owners senses (word w 6)) k w

  pub fins-long : (k : ℕ) → k ≤ length owners → length (fins_up_to k) ≡ length w
  fins-long k h =
      let f = s.fins in
      all-long room 5 (word w 5) (new_fin_words owners senses (word w 6)) w (omega arith) s.enough k (omega arith) (λ j g. new-fin-long owners senses (word w 6) j)

  pub fin-inside : (k : ℕ) → k < length owners → (v : List ℕ) → length v ≡ length w → Inside (words_needed room) (length v) room 5 (word w 5 + k)
  fin-inside k h v l = let f = s.fins in let e = s.enough in record { enough = omega arith; table = omega arith; slot = omega arith }

  pub fins-turn : (k : ℕ) → k < length owners → (v : List ℕ) → v ≡ fins_up_to k
      → put_words room 5 (word w 5 + k) (over 0 (word owners k ∷ word w 6 ∷ word senses k ∷ 0 ∷ []) (words_of room v 5 (word w 5 + k))) v ≡ fins_up_to (k + 1)
  unfolding put_all new_fin_words
  fins-turn k h v e =
      let l : length v ≡ length w = ap length e ∙ fins-long k (omega arith) in
      let new : List ℕ = word owners k ∷ word w 6 ∷ word senses k ∷ 0 ∷ [] in
      ap (λ (r : List ℕ). put_words room 5 (word w 5 + k) r v)
      (over-whole new (words_of room v 5 (word w 5 + k)) (sym (words-length room v 5 (word w 5 + k) (fin-inside k h v l))))
      ∙ ap (put_words room 5 (word w 5 + k) new) e
      ∙ sym (ap fins_up_to (add-one k))
