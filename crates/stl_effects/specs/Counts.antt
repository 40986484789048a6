-- No body of lent memory has as many triangles as 32 bits count: a record has so many words, whatever stands in them. Assumes nothing.
use Prim.Native.Nat.{ℕ, zero, suc, ◌+◌, ◌-◌, ◌*◌, ◌≤◌, ◌<◌}
use Rattle.std.proofs.Math.Nat.{le_trans}
use Rattle.std.proofs.Common.{le_of_eq, mul-suc, length-append}
use native.Mathlib.Omega.{arith}
use Rattle.std.specs.Prelude.{Bool, true, false, take, drop, Float}
use Rattle.std.proofs.Math.Bool.{cond}
use mathlib.Core.List.{List, [], ◌∷◌}
use Rattle.std.proofs.Math.ListN.{length}
use Rattle.std.proofs.lemmas.List.{length-map}
use Rattle.meaning.specs.Lists.{joined}
use Rattle.meaning.specs.Model.{Model, body, region, shell, face}
use Rattle.meaning.specs.Inquire.{Side, sides_of, solid_sides, rim}
use Rattle.meaning_sheets.specs.Sheets.{triangles}
use Rattle.memory_layout.specs.Layout.{word, word_at, words_of}
use Rattle.memory_layout.specs.Decode.{list_at, decode}

take-few : {A : Type 0} (n : ℕ) (l : List A) → length (take n l) ≤ n
take-few zero l = omega arith
take-few (suc n) [] = omega arith
take-few (suc n) (x ∷ l) = let r = take-few n l in omega arith

take-shorter : {A : Type 0} (n : ℕ) (l : List A) → length (take n l) ≤ length l
take-shorter zero l = omega arith
take-shorter (suc n) [] = omega arith
take-shorter (suc n) (x ∷ l) = let r = take-shorter n l in omega arith

drop-shorter : {A : Type 0} (n : ℕ) (l : List A) → length (drop n l) ≤ length l
drop-shorter zero l = omega arith
drop-shorter (suc n) [] = omega arith
drop-shorter (suc n) (x ∷ l) = let r = drop-shorter n l in omega arith

-- a list is no longer than its record
list-few : (n at : ℕ) (l : List ℕ) → length (list_at (take n l) at) ≤ n
unfolding list_at
list-few n at l =
    le_trans (take-shorter (word (take n l) at) (drop (suc at) (take n l)))
    (le_trans (drop-shorter (suc at) (take n l)) (take-few n l))

joined-few : (f : ℕ → List Side) (k : ℕ) (l : List ℕ) → ((y : ℕ) → length (f y) ≤ k) → length (joined f l) ≤ k * length l
unfolding joined
joined-few f k [] h = omega arith
joined-few f k (y ∷ l) h =
    let a = length-append (f y) (joined f l) in
    let b = joined-few f k l h in
    let c = mul-suc k (length l) in
    let d = h y in
    omega arith

module _ (room w : List ℕ) (x : List Float) where
  abbrev m : Model
  m = decode room w x

  regions-few : (b : ℕ) → length (body m b).regions ≤ 19
  unfolding decode words_of
  regions-few b = list-few 19 2 (drop (word_at room 0 b) w)

  shells-few : (r : ℕ) → length (region m r).shells ≤ 19
  unfolding decode words_of
  shells-few r = list-few 19 2 (drop (word_at room 1 r) w)

  faces-few : (s : ℕ) → length (sides_of m s) ≤ 836
  unfolding decode words_of
  faces-few s = le_trans (le_of_eq (length-map (shell m s).faces (λ f. record { shell = s; face = f }))) (list-few 836 1 (drop (word_at room 2 s) w))

  rim-few : (f : ℕ) → length (rim m f) ≤ 1026
  unfolding decode words_of
  rim-few f = list-few 1026 1 (drop (word_at room 4 (word (face m f).loops 0)) w)

  sides-few : (b : ℕ) → length (solid_sides m b) ≤ 301796
  unfolding solid_sides
  sides-few b =
      let all : length (joined solid (body m b).regions) ≤ 15884 * length (body m b).regions = joined-few solid 15884 (body m b).regions each in
      let few = regions-few b in
      omega arith
    where
      solid : ℕ → List Side
      solid r = cond (region m r).solid (joined (sides_of m) (region m r).shells) []

      each : (r : ℕ) → length (solid r) ≤ 15884
      each r = by (region m r).solid
        where
          by : (t : Bool) → length (cond t (joined (sides_of m) (region m r).shells) []) ≤ 15884
          by true = let all = joined-few (sides_of m) 836 (region m r).shells faces-few in let few = shells-few r in omega arith
          by false = omega arith

  triangles-few : (l : List Side) → triangles m l ≤ 1026 * length l
  unfolding triangles
  triangles-few [] = omega arith
  triangles-few (s ∷ l) = let r = triangles-few l in let k = rim-few s.face in omega arith

  -- 19 regions of 19 shells of 836 faces of 1,026 fins, at the very most
  pub count_fits : (b : ℕ) → triangles m (solid_sides m b) < 4294967296
  count_fits b = let a = triangles-few (solid_sides m b) in let s = sides-few b in omega arith
