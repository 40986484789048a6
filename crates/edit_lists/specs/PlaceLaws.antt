-- A list at a place of the words, and the stores that edit it. Assumes nothing.
use Prim.Native.Nat.{ℕ, suc, ◌+◌, ◌-◌, ◌≤◌, ◌<◌}
use Rattle.std.proofs.Common.{add-zero, add-one, ◌∙◌, length-set, length-drop, drop_of_length-le, drop-cons}
use native.Mathlib.Omega.{arith}
use Rattle.std.specs.Prelude.{◌≡◌}
use Rattle.std.proofs.Math.Path.{sym, ap}
use mathlib.Core.List.{List, [], ◌∷◌, ◌++◌}
use Rattle.std.proofs.Math.ListN.{length, take, drop, set, length-append}
use Rattle.std.proofs.Math.Seq.{length-take-le, get_or-drop, get_or-append-add, set-append_seam, take-length, paste, paste-zero, paste-suc, length_paste_head}
use Rattle.std.proofs.lemmas.List.Edits.{length-paste}
use Rattle.memory_layout.specs.Layout.{word}
use Rattle.memory_layout.specs.Decode.{list_at}
use Rattle.memory_layout.specs.Fit.{Held}
use Rattle.memory_layout.specs.Laws.{held-length}
use Rattle.meaning.specs.Edits.{appended}
use Rattle.memory_writes.specs.Put.{over}
use Rattle.memory_writes.specs.Over.{entry-written, over-same, set-over, over_last}
use Rattle.edit_lists.specs.Place.{struck, with_list}

-- of the entries behind a place, m are moved one down
unfoldable pub moved : List ℕ → ℕ → ℕ → ℕ → List ℕ
moved w at place m = over at (word w at ∷ paste (list_at w at) place (drop (suc place) (list_at w at)) m) w

module _ (w : List ℕ) (at : ℕ) (h : Held w at) where
  abbrev n : ℕ
  n = word w at

  abbrev l : List ℕ
  l = list_at w at

  -- the record is what its list stands in
  whole : over at (n ∷ l) w ≡ w
  unfolding list_at
  whole =
      ap (λ (r : List ℕ). over at (take (suc n) r) w) (sym (drop-cons w at 0 h.place))
      ∙ over-same at (suc n) w (omega (arith, h.whole))

  -- a store of an entry
  pub put-turn : (place id : ℕ) → place < n → set w (at + 1 + place) id ≡ with_list at (set l place id) w
  unfolding with_list
  put-turn place id g =
      let e : length l ≡ n = held-length w at h in
      let p : at + 1 + place ≡ at + suc place = omega arith in
      ap (λ (q : ℕ). set w q id) p
      ∙ ap (λ (r : List ℕ). set r (at + suc place) id) (sym whole)
      ∙ set-over at (suc place) (n ∷ l) w id (omega arith) (omega (arith, h.whole))
      ∙ ap (λ (q : ℕ). over at (q ∷ set l place id) w) (sym (length-set l place id ∙ e))

  -- a store behind the last entry, and of the length
  pub append-turn : (id : ℕ) → at + 1 + n < length w → set (set w (at + 1 + n) id) at (n + 1) ≡ with_list at (appended l id) w
  unfolding with_list
  append-turn id g =
      let e : length l ≡ n = held-length w at h in
      let v : ℕ = word w (at + 1 + n) in
      let p : at + 1 + n ≡ at + suc n = omega arith in
      let q : at + length (n ∷ l) ≡ at + 1 + n = omega arith in
      let a : over at (n ∷ (l ++ (v ∷ []))) w ≡ w = over_last at (n ∷ l) w v 0 (omega arith) (ap (word w) q) ∙ whole in
      let t : length (l ++ (v ∷ [])) ≡ length l + 1 = length-append l (v ∷ []) in
      let u : length (l ++ (id ∷ [])) ≡ n + 1 = length-append l (id ∷ []) ∙ ap (λ (k : ℕ). k + 1) e in
      let z : set (l ++ (v ∷ [])) n id ≡ l ++ (id ∷ []) = ap (λ (k : ℕ). set (l ++ (v ∷ [])) k id) (sym e) ∙ set-append_seam l v [] id in
      ap (λ (k : ℕ). set (set w k id) at (n + 1)) p
      ∙ ap (λ (r : List ℕ). set (set r (at + suc n) id) at (n + 1)) (sym a)
      ∙ ap (λ (r : List ℕ). set r at (n + 1)) (set-over at (suc n) (n ∷ (l ++ (v ∷ []))) w id (omega arith) (omega arith))
      ∙ ap (λ (r : List ℕ). set (over at (n ∷ r) w) at (n + 1)) z
      ∙ ap (λ (k : ℕ). set (over at (n ∷ (l ++ (id ∷ []))) w) k (n + 1)) (sym (add-zero at))
      ∙ set-over at 0 (n ∷ (l ++ (id ∷ []))) w (n + 1) (omega arith) (omega arith)
      ∙ ap (λ (k : ℕ). over at (k ∷ (l ++ (id ∷ []))) w) (sym u)

  -- the entries behind a place, moved one down one after the other
  module _ (place : ℕ) (g : place < n) where
    abbrev behind : List ℕ
    behind = drop (suc place) l

    pub strike-none : w ≡ moved w at place 0
    unfolding moved
    strike-none = sym whole ∙ ap (λ (r : List ℕ). over at (n ∷ r) w) (paste-zero l place behind)

    pub length-behind : length behind ≡ n - 1 - place
    length-behind = let e : length l ≡ n = held-length w at h in let b = length-drop (suc place) l in omega arith

    pub moved-entries : (m : ℕ) → m ≤ n - 1 - place → length (n ∷ paste l place behind m) ≡ suc n
    moved-entries m k =
        let e : length l ≡ n = held-length w at h in
        let b = length-behind in
        let d = length-paste l place behind m (omega arith) (omega arith) in
        omega arith

    -- the next of them stands where it stood
    next-read : (m : ℕ) → m < n - 1 - place → word (moved w at place m) (at + 1 + place + 1 + m) ≡ word behind m
    unfolding moved
    next-read m k =
        let e : length l ≡ n = held-length w at h in
        let b = length-behind in
        let c = moved-entries m (omega arith) in
        let q : at + 1 + place + 1 + m ≡ at + suc (place + m + 1) = omega arith in
        let f : length (take place l ++ take m behind) ≡ place + m = length_paste_head l place behind m (omega arith) (omega arith) in
        let i : place + m + 1 ≡ suc place + m = omega arith in
        ap (word (moved w at place m)) q
        ∙ entry-written at (suc (place + m + 1)) (n ∷ paste l place behind m) w 0 (omega arith) (omega (arith, h.place))
        ∙ ap (λ (j : ℕ). word (paste l place behind m) (j + 1)) (sym f)
        ∙ get_or-append-add (take place l ++ take m behind) (drop (place + m) l) 1 0
        ∙ get_or-drop (place + m) l 1 0
        ∙ ap (word l) i
        ∙ sym (get_or-drop (suc place) l m 0)

    stored : (m : ℕ) → m < n - 1 - place → set (moved w at place m) (at + 1 + place + m) (word behind m) ≡ moved w at place (suc m)
    unfolding moved
    stored m k =
        let e : length l ≡ n = held-length w at h in
        let b = length-behind in
        let c = moved-entries m (omega arith) in
        let q : at + 1 + place + m ≡ at + suc (place + m) = omega arith in
        ap (λ (j : ℕ). set (over at (n ∷ paste l place behind m) w) j (word behind m)) q
        ∙ set-over at (suc (place + m)) (n ∷ paste l place behind m) w (word behind m) (omega arith) (omega (arith, h.whole))
        ∙ ap (λ (r : List ℕ). over at (n ∷ r) w) (paste-suc l place behind m 0 (omega arith) (omega arith))

    pub strike-turn : (m : ℕ) → m < n - 1 - place
        → set (moved w at place m) (at + 1 + place + m) (word (moved w at place m) (at + 1 + place + 1 + m)) ≡ moved w at place (m + 1)
    strike-turn m k = ap (set (moved w at place m) (at + 1 + place + m)) (next-read m k) ∙ stored m k ∙ ap (moved w at place) (sym (add-one m))

    -- all of them are: the last entry stands twice
    pub all_moved : paste l place behind (n - 1 - place) ≡ struck l place ++ (word l (n - 1) ∷ [])
    unfolding struck
    all_moved =
        let e : length l ≡ n = held-length w at h in
        let b = length-behind in
        let p : place + (n - 1 - place) ≡ n - 1 = omega arith in
        ap (λ (k : ℕ). take place l ++ take k behind ++ drop (place + (n - 1 - place)) l) (sym b)
        ∙ ap (λ (r : List ℕ). take place l ++ r ++ drop (place + (n - 1 - place)) l) (take-length behind)
        ∙ ap (λ (k : ℕ). take place l ++ behind ++ drop k l) p
        ∙ ap (λ (r : List ℕ). take place l ++ behind ++ r)
        (drop-cons l (n - 1) 0 (omega arith) ∙ ap (λ (r : List ℕ). word l (n - 1) ∷ r) (drop_of_length-le l {i = suc (n - 1)} (omega arith)))

    pub struck-length : length (struck l place) ≡ n - 1
    unfolding struck
    struck-length =
        let e : length l ≡ n = held-length w at h in
        let b = length-behind in
        let t = length-take-le place l (omega arith) in
        let a = length-append (take place l) behind in
        omega arith
