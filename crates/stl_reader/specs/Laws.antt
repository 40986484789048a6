-- The tests of a reading, as facts. Assumes nothing.
use Prim.Native.Nat.{ℕ, zero, suc, ◌+◌, ◌*◌, ◌^◌, ◌≤◌, ◌<◌}
use Rattle.std.proofs.Common.{arith, sym, ap, ◌∙◌}
use Rattle.std.specs.Prelude.{◌≡◌, Bool, ◌&&◌, List, map, leb, length, take, drop, Float}
use Rattle.std.proofs.Math.Path.{refl}
use Rattle.std.proofs.Math.Bool.{true, false}
use Rattle.std.proofs.lemmas.List.{length-map}
use borrow.Author.Tests.{leb-true, le-leb}
use Rattle.float_vectors.specs.declared.vector.Point3.{Point3}
use Rattle.geom_lines_planes.specs.Refuse.{◌unless◌, ◌then◌, answer}
use Rattle.meaning.specs.Lists.{all_below, every, count}
use Rattle.meaning.specs.Offices.{office_refusal}
use Rattle.meaning_list_laws.specs.Tests.{then-zero, then-assoc, unless-zero, and-true, and_assoc}
use Rattle.memory_layout.specs.Names.{BODIES}
use Rattle.memory_layout.specs.Layout.{word}
use Rattle.memory_layout.specs.Decode.{decode}
use Rattle.memory_layout.specs.Readable.{readable}
use Rattle.memory_layout.specs.Laws.{fit_of}
use Rattle.memory_writes.specs.Put.{unless_refused}
use Rattle.memory_writes.specs.Over.{length_over}
use Rattle.memory_layout.specs.Limits.{limits}
use Rattle.image_laws.specs.Numbers.{Bytes, below-drop, number-below}
use Rattle.stl_body.proofs.Meshes.{corners-length}
use Rattle.stl_body.proofs.Statements.{triangles-length}
use Rattle.stl_body.specs.Flat.{steps_in, flat_points, flat_steps}
use Rattle.stl_body.specs.Read.{Mesh, which_of, all_met, same_point, same_step, edge_of, stl_triangles, count_in, length_fits, corners, mesh_of, all_finite, all_apart, has_room, triangles_refusal, read_refusal}
use Rattle.stl_corners.specs.Laws.{fit_length}
use Rattle.stl_numbers.specs.Numbered.{numbers_of, Numbered, few, CornersRead, StepsRead}
use Rattle.stl_numbers.specs.Meshes.{read_held, read-points, read-edges}
use Rattle.edit_core.specs.declared.Inserted.{Inserted}
use Rattle.edit_core.specs.declared.Inserted.TheVariants.{At, Refused}
use Rattle.stl_rows.specs.Rows.{read_words, read_reals}
use Rattle.stl_rows.specs.Facts.{Flattened}
use Rattle.stl_reader.specs.Answers.{read_stl_number, read_stl_answer, read_stl_words, read_stl_reals}
use Rattle.stl_reader.specs.Facts.{early_number, slots_for, tables_fit, Early, Laid}

module _ (room w : List ℕ) (x : List Float) (o : ℕ) (b : List ℕ) where
  -- the room is what is asked last
  pub number_is : read_stl_number room w x o b ≡ (early_number room w x o b then 8 unless has_room (limits room) (decode room w x) (mesh_of (stl_triangles b)))
  unfolding read_stl_number read_refusal triangles_refusal early_number
  number_is = by (readable room w x) (length_fits b) (office_refusal o) (all_finite (corners (stl_triangles b))) (1 unless all_apart (stl_triangles b)) (8 unless has_room (limits room) (decode room w x) (mesh_of (stl_triangles b)))
    where
      by : (r l : Bool) (n : ℕ) (f : Bool) (a h : ℕ)
          → (9 unless r then 9 unless l then n then 5 unless f then a then h) ≡ ((9 unless r then 9 unless l then n then 5 unless f then a) then h)
      by true true zero true a h = refl
      by true true zero false a h = refl
      by true true (suc n) f a h = refl
      by true false n f a h = refl
      by false l n f a h = refl

  pub early-open : early_number room w x o b ≡ 0 → Early room w x o b
  unfolding early_number
  early-open e =
      let l = stl_triangles b in
      let p = then-zero (9 unless readable room w x) (9 unless length_fits b then office_refusal o then 5 unless all_finite (corners l) then 1 unless all_apart l) e in
      let q = then-zero (9 unless length_fits b) (office_refusal o then 5 unless all_finite (corners l) then 1 unless all_apart l) p.1 in
      let r = then-zero (office_refusal o) (5 unless all_finite (corners l) then 1 unless all_apart l) q.1 in
      let s = then-zero (5 unless all_finite (corners l)) (1 unless all_apart l) r.1 in
      record {
        fit = fit_of room w x (unless-zero 8 (readable room w x) p.0);
        long = unless-zero 8 (length_fits b) q.0;
        office = leb-true o 1 (unless-zero 0 (leb o 1) r.0);
        finite = unless-zero 4 (all_finite (corners l)) s.0;
        apart = unless-zero 0 (all_apart l) s.1;
      }

module _ (room w : List ℕ) (x : List Float) where
  -- where a shell takes so many faces, the lists have room but for the edges' fins
  room-is : (t : Mesh) → t.triangles ≤ 512
      → has_room (limits room) (decode room w x) t ≡ (tables_fit room w t.triangles (length t.edges) (length t.points) && all_below (λ e. leb (count e t.edge_numbers) 8) (length t.edges))
  unfolding has_room every tables_fit decode
  room-is t h = rw (le-leb t.triangles 512 h) (simp (and-true, and_assoc))

  -- as the flat lists tell it
  pub room-flat : (t : Mesh) (n v e : ℕ) (numbers : List ℕ) (points : List Float) (along pairs : List ℕ) → Flattened t n v e numbers points along pairs → n ≤ 512
      → has_room (limits room) (decode room w x) t ≡ (tables_fit room w n e v && all_below (few (take (3 * n) along)) e)
  room-flat t n v e numbers points along pairs f h =
      let many = f.triangles in
      rw (f.triangles, f.points, f.edges, f.held.edges) (room-is t (omega arith))

  module _ (o : ℕ) (t : Mesh) where
    pub laid-not : has_room (limits room) (decode room w x) t ≡ false → Laid room o t w w x x (Refused 8)
    laid-not h = record { number = rw h; words = rw h; floats = rw h }

    pub laid-there : (w' : List ℕ) (x' : List Float) → has_room (limits room) (decode room w x) t ≡ true → w' ≡ read_words room w o t → x' ≡ read_reals room w x t → Laid room o t w w' x x' (At (word w BODIES))
    laid-there w' x' h e f = record { number = rw h; words = rw h e; floats = rw h f }

-- ---- what is not refused early is numbered, in lists as long as 512 triangles ask for

numbers-length : (l : List Point3) → length (numbers_of same_point l) ≡ length l
unfolding numbers_of
numbers-length l = length-map l (λ p. which_of same_point p (all_met same_point l))

pub count-below : (b : List ℕ) → Bytes b → count_in b < 256 ^ 4
unfolding count_in
count-below b h = number-below 4 (drop 80 b) (below-drop 256 80 b h)

how-many : (b : List ℕ) → length (stl_triangles b) ≡ count_in b
unfolding stl_triangles
how-many b = triangles-length (count_in b) (drop 84 b)

pub all-triangles : (b : List ℕ) → (mesh_of (stl_triangles b)).triangles ≡ count_in b
unfolding mesh_of
all-triangles b = how-many b

module _ (room w : List ℕ) (x : List Float) (o : ℕ) (b : List ℕ) (early : Early room w x o b) (n : ℕ) (counted : n ≡ count_in b) (small : n ≤ 512) where
  pub corners-read : (c₀ : List ℕ) (x₀ : List Float) → length c₀ ≡ 1536 → length x₀ ≡ 4608 → CornersRead b n c₀ x₀
  corners-read c₀ x₀ p q =
      let long = fit_length b early.long in
      record { counted = counted; long = omega arith; finite = early.finite; small = small; numbers-long = omega arith; points-long = omega arith }

  module _ (c₀ c : List ℕ) (x₀ x₁ : List Float) (v : ℕ) (p : length c₀ ≡ 1536) (q : length x₀ ≡ 4608)
      (vertices : Numbered same_point flat_points (corners (stl_triangles b)) c₀ c x₀ x₁ v) where
    long-still : length c ≡ 1536
    long-still =
        let many = corners-length (stl_triangles b) in
        let all = how-many b in
        let named = numbers-length (corners (stl_triangles b)) in
        ap length vertices.numbers ∙ length_over 0 (numbers_of same_point (corners (stl_triangles b))) c₀ (omega arith) ∙ p

    pub steps-read : (e₀ d₀ : List ℕ) → length e₀ ≡ 1536 → length d₀ ≡ 3072 → StepsRead c n e₀ d₀
    steps-read e₀ d₀ r t = let l = long-still in record { small = small; numbers-long = omega arith; edges-long = omega arith; ends-long = omega arith }

    pub flattened : (e₀ e d₀ d : List ℕ) (k : ℕ) → length e₀ ≡ 1536 → length d₀ ≡ 3072 → Numbered same_step flat_steps (map edge_of (steps_in n c)) e₀ e d₀ d k
        → Flattened (mesh_of (stl_triangles b)) n v k c x₁ e d
    flattened e₀ e d₀ d k r t edges =
        let read = corners-read c₀ x₀ p q in
        let steps = steps-read e₀ d₀ r t in
        record {
          held = read_held b n c₀ c x₀ x₁ e₀ e d₀ d v k read steps vertices edges;
          triangles = counted ∙ sym (all-triangles b);
          points = read-points b n c₀ c x₀ x₁ e₀ e d₀ d v k read steps vertices edges;
          edges = read-edges b n c₀ c x₀ x₁ e₀ e d₀ d v k read steps vertices edges;
        }

-- where the faces have no slots there is no room
module _ (room w : List ℕ) (x : List Float) (t : Mesh) where
  pub no-faces : slots_for room w 3 t.triangles ≡ false → has_room (limits room) (decode room w x) t ≡ false
  unfolding has_room every decode
  no-faces h = rw h (by (slots_for room w 0 1) (slots_for room w 1 2) (slots_for room w 2 2))
    where
      by : (a b c : Bool) → (a && (b && (c && false))) ≡ false
      by true true true = refl
      by true true false = refl
      by true false c = refl
      by false b c = refl

-- a reading by its parts
module _ (room w : List ℕ) (x : List Float) (o : ℕ) (b : List ℕ) where
  abbrev read : ℕ → List ℕ → List Float → Inserted → Type 0
  read n w' x' r = (r ≡ answer At Refused n (word w BODIES)) × ((w' ≡ unless_refused n (read_words room w o (mesh_of (stl_triangles b))) w) × (x' ≡ unless_refused n (read_reals room w x (mesh_of (stl_triangles b))) x))

  pub read-laid : (w' : List ℕ) (x' : List Float) (r : Inserted) → early_number room w x o b ≡ 0 → Laid room o (mesh_of (stl_triangles b)) w w' x x' r
      → (r ≡ read_stl_answer room w x o b) × ((w' ≡ read_stl_words room w x o b) × (x' ≡ read_stl_reals room w x o b))
  unfolding read_stl_answer read_stl_words read_stl_reals
  read-laid w' x' r e l = rw (number_is room w x o b, e) (l.number, (l.words, l.floats))

  pub read-early : (n : ℕ) → n ≡ early_number room w x o b → (n ≡ 0 → ⊥) → (Refused n ≡ read_stl_answer room w x o b) × ((w ≡ read_stl_words room w x o b) × (x ≡ read_stl_reals room w x o b))
  unfolding read_stl_answer read_stl_words read_stl_reals
  read-early n e h = rw (number_is room w x o b, ← e) (by n h)
    where
      by : (n : ℕ) → (n ≡ 0 → ⊥) → read (n then 8 unless has_room (limits room) (decode room w x) (mesh_of (stl_triangles b))) w x (Refused n)
      by zero h = absurd (h refl)
      by (suc n) h = (refl, (refl, refl))
