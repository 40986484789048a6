-- The length and the bytes as the code tells them. Assumes nothing.
use Prim.Native.Nat.{ℕ, zero, suc, ◌+◌, ◌*◌, ◌≤◌}
use Rattle.std.proofs.Common.{arith, ap₂, ◌∙◌, length-append, leb-true}
use Rattle.std.specs.Prelude.{◌≡◌, true, false, length, replicate, Float}
use Rattle.std.proofs.Math.Path.{refl, sym, ap}
use mathlib.Core.List.{List, [], ◌∷◌, ◌++◌, append_assoc}
use Rattle.std.proofs.Math.Dec.{leb}
use Rattle.geom_lines_planes.specs.Refuse.{◌unless◌, ◌then◌, answer}
use Rattle.meaning.specs.Lists.{joined}
use Rattle.meaning.specs.Model.{Model, body}
use Rattle.meaning.specs.Inquire.{Side, require_polyhedral, is_solid, solid_sides, sides_refusal, volume_refusal}
use Rattle.meaning_list_laws.specs.Tests.{then-zero, then-assoc, unless-zero, refused-answer}
use Rattle.memory_layout.specs.Decode.{decode}
use Rattle.memory_layout.specs.Entries.{list_of}
use Rattle.memory_layout.specs.Readable.{readable}
use Rattle.memory_layout.specs.Laws.{fit_of}
use Rattle.memory_writes.specs.Put.{over, unless_refused}
use Rattle.memory_writes.specs.Over.{over-behind, length_over}
use Rattle.walk_answers.specs.Calls.{reach}
use Rattle.inquire_polyhedral.specs.Laws.{polyhedral-edged}
use Rattle.inquire_regions.specs.Regions.{region_sides}
use Rattle.inquire_volume.specs.Answers.{volume_number}
use Rattle.image_format.specs.Bytes.{little, words}
use Rattle.stl_format.specs.Stl.{Triangle, triangles_of, triangles_bytes, stl_of, body_stl, narrow_sides, stl_refusal, write_refusal}
use Rattle.stl_format.specs.Laws.{triangles-length, stl-length}
use Rattle.stl_triangles.specs.Spots.{drawn}
use Rattle.stl_triangles.specs.Laws.{drawn-over}
use Rattle.stl_fan.specs.declared.Pen.{Pen}
use Rattle.stl_fan.specs.Pens.{Drawn}
use Rattle.stl_writer.specs.declared.StlLength.{StlLength}
use Rattle.stl_writer.specs.declared.StlLength.TheVariants.{Is, Refused}
use Rattle.stl_writer.specs.declared.Sketch.{Sketch}
use Rattle.stl_writer.specs.Answers.{length_number, length_answer, write_number, write_answer, written_bytes}
use Rattle.stl_writer.specs.Sketches.{Drawable, sketch_of}

abbrev pub fresh : Pen
fresh = record { narrow = true; count = 0 }

module _ (room w : List ℕ) (x : List Float) (b : ℕ) where
  abbrev m : Model
  m = decode room w x

  abbrev sides : List Side
  sides = solid_sides m b

  pub sides-are : joined (region_sides m) (list_of room w 0 b) ≡ sides
  unfolding region_sides solid_sides decode list_of
  sides-are = refl

  module _ (face_marks : List ℕ) where
    -- the volume's number, then 5
    parts : length_number room w x b face_marks ≡ (volume_number room w x b face_marks then 5 unless narrow_sides m sides)
    unfolding length_number volume_number stl_refusal
    parts =
        sym (then-assoc (9 unless readable room w x) (8 unless reach room 3 face_marks then volume_refusal m b) (5 unless narrow_sides m sides)
        ∙ ap (λ n. 9 unless readable room w x then n) (then-assoc (8 unless reach room 3 face_marks) (volume_refusal m b) (5 unless narrow_sides m sides)))

    pub drawable : volume_number room w x b face_marks ≡ 0 → Drawable room w x b
    unfolding volume_number volume_refusal
    drawable z =
        let a = then-zero (9 unless readable room w x) _ z in
        let v = (then-zero (8 unless reach room 3 face_marks) _ a.1).1 in
        let p = then-zero (require_polyhedral m b) _ v in
        record {
          fit = fit_of room w x (unless-zero 8 (readable room w x) a.0);
          edged = polyhedral-edged room w x b p.0;
          sides = (then-zero (sides_refusal m sides) _ (then-zero (6 unless is_solid (body m b).kind) _ p.1).1).0;
        }

    -- ---- the sketch

    pub refused-sketch : (n : ℕ) → n ≡ volume_number room w x b face_marks → (n ≡ 0 → ⊥) → record { refused = n; count = 0 } ≡ sketch_of room w x b face_marks
    unfolding sketch_of
    refused-sketch zero e z = absurd (z refl)
    refused-sketch (suc n) e z = rw (parts, ← e)

    module _ (v w' : List ℕ) (pen : Pen) (z : volume_number room w x b face_marks ≡ 0) (d : Drawn m sides fresh pen v w') where
      pub wide-sketch : pen.narrow ≡ false → record { refused = 5; count = 0 } ≡ sketch_of room w x b face_marks
      unfolding sketch_of
      wide-sketch e = rw (parts, z, sym d.narrow ∙ e)

      pub narrow-sketch : pen.narrow ≡ true → record { refused = 0; count = pen.count } ≡ sketch_of room w x b face_marks
      unfolding sketch_of
      narrow-sketch e = rw (parts, z, sym d.narrow ∙ e) (ap (λ n. record { refused = 0; count = n }) (d.count ∙ omega arith))

    -- ---- the answers

    module _ (s : Sketch) (e : s ≡ sketch_of room w x b face_marks) where
      refused-is : s.refused ≡ length_number room w x b face_marks
      refused-is = ap (λ (k : Sketch). k.refused) e ∙ (unfold sketch_of in refl)

      pub count-is : s.refused ≡ 0 → s.count ≡ length (triangles_of m sides)
      count-is z = ap (λ (k : Sketch). k.count) e ∙ counted
        where
          none : length_number room w x b face_marks ≡ 0
          none = sym refused-is ∙ z

          counted : (sketch_of room w x b face_marks).count ≡ length (triangles_of m sides)
          counted = unfold sketch_of in ap (λ n. unless_refused n (length (triangles_of m sides)) 0) none

      long-is : s.refused ≡ 0 → 84 + 50 * s.count ≡ length (body_stl m b)
      long-is z = let a = count-is z in let l = stl-length (triangles_of m sides) in omega arith

      pub accepted : s.refused ≡ 0 → Drawable room w x b
      accepted z = drawable (then-zero (volume_number room w x b face_marks) _ (sym parts ∙ sym refused-is ∙ z)).0

      pub length-refused : (s.refused ≡ 0 → ⊥) → Refused s.refused ≡ length_answer room w x b face_marks
      unfolding length_answer
      length-refused z = refused-answer Is Refused s.refused (length (body_stl m b)) z ∙ ap (λ n. answer Is Refused n (length (body_stl m b))) refused-is

      pub length-given : s.refused ≡ 0 → Is (84 + 50 * s.count) ≡ length_answer room w x b face_marks
      unfolding length_answer
      length-given z = ap Is (long-is z) ∙ ap (λ n. answer Is Refused n (length (body_stl m b))) (sym z ∙ refused-is)

      module _ (bytes : List ℕ) (n : ℕ) (told : n ≡ (s.refused then 8 unless leb (84 + 50 * s.count) (length bytes))) where
        number : n ≡ write_number room w x b face_marks bytes
        number = told ∙ by s.refused refl ∙ ap (λ k. k then 8 unless leb (length (body_stl m b)) (length bytes)) refused-is ∙ sym grouped
          where
            by : (k : ℕ) → s.refused ≡ k → (k then 8 unless leb (84 + 50 * s.count) (length bytes)) ≡ (k then 8 unless leb (length (body_stl m b)) (length bytes))
            by zero z = ap (λ l. 8 unless leb l (length bytes)) (long-is z)
            by (suc k) z = refl

            grouped : write_number room w x b face_marks bytes ≡ (length_number room w x b face_marks then 8 unless leb (length (body_stl m b)) (length bytes))
            grouped =
                unfold write_number length_number write_refusal in
                sym (then-assoc (9 unless readable room w x) (8 unless reach room 3 face_marks then stl_refusal m b) (8 unless leb (length (body_stl m b)) (length bytes))
                ∙ ap (λ k. 9 unless readable room w x then k) (then-assoc (8 unless reach room 3 face_marks) (stl_refusal m b) (8 unless leb (length (body_stl m b)) (length bytes))))

        pub write-refused : (n ≡ 0 → ⊥) → (Refused n ≡ write_answer room w x b face_marks bytes) × (bytes ≡ written_bytes room w x b face_marks bytes)
        unfolding write_answer written_bytes
        write-refused z =
            (refused-answer Is Refused n (length (body_stl m b)) z ∙ ap (λ k. answer Is Refused k (length (body_stl m b))) number, kept n z ∙ ap (λ k. unless_refused k (over 0 (body_stl m b) bytes) bytes) number)
          where
            kept : (k : ℕ) → (k ≡ 0 → ⊥) → bytes ≡ unless_refused k (over 0 (body_stl m b) bytes) bytes
            kept zero q = absurd (q refl)
            kept (suc k) q = refl

        module _ (z : n ≡ 0) where
          both : (s.refused ≡ 0) × ((8 unless leb (84 + 50 * s.count) (length bytes)) ≡ 0)
          both = then-zero s.refused _ (sym told ∙ z)

          pub not-refused : s.refused ≡ 0
          not-refused = both.0

          pub fits : 84 + 50 * s.count ≤ length bytes
          fits = leb-true (84 + 50 * s.count) (length bytes) (unless-zero 7 (leb (84 + 50 * s.count) (length bytes)) both.1)

          pub write-given : (v : List ℕ) → v ≡ over 0 (body_stl m b) bytes → (Is (84 + 50 * s.count) ≡ write_answer room w x b face_marks bytes) × (v ≡ written_bytes room w x b face_marks bytes)
          unfolding write_answer written_bytes
          write-given v q = (ap Is (long-is not-refused) ∙ ap (λ k. answer Is Refused k (length (body_stl m b))) (sym z ∙ number), q ∙ ap (λ k. unless_refused k (over 0 (body_stl m b) bytes) bytes) (sym z ∙ number))

-- ---- the bytes

pub head_bytes : (n : ℕ) (l : List ℕ) → 84 ≤ length l → over 80 (words (n ∷ [])) (over 0 (words (replicate 20 0)) l) ≡ over 0 (replicate 80 0 ++ little 4 n) l
head_bytes n l h = ap (λ (k : ℕ). over k (words (n ∷ [])) (over 0 (words (replicate 20 0)) l)) front ∙ over-behind 0 (words (replicate 20 0)) (words (n ∷ [])) l (omega (arith, long)) ∙ ap (λ a. over 0 a l) same
  where
    front : 80 ≡ 0 + length (words (replicate 20 0))
    front = unfold joined little in refl

    long : length (words (replicate 20 0) ++ words (n ∷ [])) ≡ 84
    long = unfold joined little in refl

    same : words (replicate 20 0) ++ words (n ∷ []) ≡ replicate 80 0 ++ little 4 n
    same = unfold joined little in refl

-- the triangles behind them
pub whole-bytes : (l : List Triangle) (w v u : List ℕ) → 84 + 50 * length l ≤ length w → v ≡ over 0 (replicate 80 0 ++ little 4 (length l)) w → u ≡ drawn (84 + 50 * 0) l v → u ≡ over 0 (stl_of l) w
whole-bytes l w v u h e f =
    f ∙ drawn-over (84 + 50 * 0) l v (omega (arith, kept)) ∙ ap₂ (λ n t. over n (triangles_bytes l) t) front e
    ∙ over-behind 0 (replicate 80 0 ++ little 4 (length l)) (triangles_bytes l) w (omega (arith, all))
    ∙ ap (λ t. over 0 t w) grouped
  where
    head : length (replicate 80 0 ++ little 4 (length l)) ≡ 84
    head = unfold little in refl

    front : 84 + 50 * 0 ≡ 0 + length (replicate 80 0 ++ little 4 (length l))
    front = omega (arith, head)

    kept : length v ≡ length w
    kept = ap length e ∙ length_over 0 (replicate 80 0 ++ little 4 (length l)) w (omega (arith, head))

    all : length ((replicate 80 0 ++ little 4 (length l)) ++ triangles_bytes l) ≡ 84 + 50 * length l
    all = length-append (replicate 80 0 ++ little 4 (length l)) (triangles_bytes l) ∙ omega (arith, head, triangles-length l)

    grouped : (replicate 80 0 ++ little 4 (length l)) ++ triangles_bytes l ≡ stl_of l
    grouped = unfold stl_of in append_assoc (replicate 80 0) (little 4 (length l)) (triangles_bytes l)
