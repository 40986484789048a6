-- The volume as the code tells it. Assumes nothing.
use Prim.Native.Nat.{ℕ, zero, suc}
use Rattle.std.proofs.Common.{arith, sym, ◌∙◌}
use Rattle.std.specs.Prelude.{◌≡◌, Bool, cond, List, eqb, length, Float}
use Rattle.std.proofs.Math.Path.{refl, ap}
use Rattle.std.proofs.Math.Bool.{true, false}
use Rattle.interval_arithmetic.specs.Ops.{zero_f}
use Rattle.geom_lines_planes.specs.Refuse.{◌unless◌, ◌then◌, answer}
use Rattle.meaning.specs.Model.{Model, body}
use Rattle.meaning.specs.Refuse.{◌if◌}
use Rattle.meaning.specs.Inquire.{require_polyhedral, is_solid, solid_sides, sides_refusal, sum_volumes, volume_refusal}
use Rattle.meaning_list_laws.specs.Tests.{refused-answer}
use Rattle.memory_layout.specs.Decode.{decode}
use Rattle.memory_layout.specs.Readable.{readable}
use Rattle.walk_answers.specs.Calls.{reach}
use Rattle.walk_answers.specs.Decoded.{refused_by}
use Rattle.walk_answers.specs.Laws.{refused-before}
use Rattle.inquire_regions.specs.declared.Tally.{Tally}
use Rattle.inquire_regions.specs.Regions.{tally_of}
use Rattle.inquire_tally.specs.Tallies.{refused_tally, solid_tally}
use Rattle.station_answers.specs.declared.Volume.{Volume}
use Rattle.station_answers.specs.declared.Volume.TheVariants.{Is, Refused}
use Rattle.inquire_volume.specs.Answers.{volume_number, volume_answer}
use Rattle.inquire_volume.specs.Told.{told_volume, solid_number, solid_volume}

-- ---- from the sides

pub told-refused : (t : Tally) (n : ℕ) → n ≡ (t.refused then 4 if t.empty) → (n ≡ 0 → ⊥) → Refused n ≡ told_volume t
unfolding told_volume
told-refused t n e z = refused-answer Is Refused n t.volume z ∙ ap (λ k. answer Is Refused k t.volume) e

pub told-given : (t : Tally) (n : ℕ) → n ≡ (t.refused then 4 if t.empty) → n ≡ 0 → Is t.volume ≡ told_volume t
unfolding told_volume
told-given t n e z = ap (λ k. answer Is Refused k t.volume) (sym z ∙ e)

-- ---- of the body

pub solid-told : (m : Model) (b : ℕ) → told_volume (solid_tally false m b) ≡ solid_volume m b
unfolding solid_tally solid_volume
solid-told m b = by (is_solid (body m b).kind)
  where
    value : Float
    value = sum_volumes m zero_f (solid_sides m b)

    rest : ℕ
    rest = sides_refusal m (solid_sides m b) then 4 if eqb (length (solid_sides m b)) 0

    told : (n : ℕ) → sides_refusal m (solid_sides m b) ≡ n → told_volume (tally_of false m (solid_sides m b)) ≡ answer Is Refused rest value
    told zero q = unfold told_volume tally_of in rw q
    told (suc n) q = unfold told_volume tally_of in rw q

    by : (k : Bool) → told_volume (cond k (tally_of false m (solid_sides m b)) (refused_tally 6)) ≡ answer Is Refused (6 unless k then rest) value
    by true = told (sides_refusal m (solid_sides m b)) refl
    by false = unfold told_volume in refl

-- ---- the call

module _ (room w : List ℕ) (x : List Float) (b : ℕ) (face_marks : List ℕ) where
  abbrev value : Float
  value = sum_volumes (decode room w x) zero_f (solid_sides (decode room w x) b)

  pub volume-refused : (n : ℕ) → n ≡ refused_by (readable room w x) (reach room 3 face_marks) (require_polyhedral (decode room w x) b) → (n ≡ 0 → ⊥) → Refused n ≡ volume_answer room w x b face_marks
  unfolding volume_answer volume_number volume_refusal refused_by
  volume-refused n e z =
      let number : n ≡ volume_number room w x b face_marks =
      refused-before (readable room w x) (reach room 3 face_marks) (require_polyhedral (decode room w x) b) n e z (solid_number (decode room w x) b) in
      refused-answer Is Refused n value z ∙ ap (λ k. answer Is Refused k value) number

  pub volume-answered : (r : Volume) → refused_by (readable room w x) (reach room 3 face_marks) (require_polyhedral (decode room w x) b) ≡ 0 → r ≡ solid_volume (decode room w x) b → r ≡ volume_answer room w x b face_marks
  unfolding volume_answer volume_number volume_refusal solid_volume
  volume-answered r e h = h ∙ ap (λ k. answer Is Refused k value) (sym number)
    where
      passed : (t m : Bool) (p : ℕ) → (9 unless t then 8 unless m then p) ≡ 0 → (9 unless t then 8 unless m then (p then solid_number (decode room w x) b)) ≡ solid_number (decode room w x) b
      passed false m p q = absurd (omega arith)
      passed true false p q = absurd (omega arith)
      passed true true p q = rw q

      number : (9 unless readable room w x then 8 unless reach room 3 face_marks then (require_polyhedral (decode room w x) b then solid_number (decode room w x) b)) ≡ solid_number (decode room w x) b
      number = passed (readable room w x) (reach room 3 face_marks) (require_polyhedral (decode room w x) b) (unfold refused_by in e)
