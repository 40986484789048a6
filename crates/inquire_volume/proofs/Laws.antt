-- The theorems of specs/Laws.antt that rest on volume-answered. Assumes nothing.
use Prim.Native.Nat.{ℕ, zero, suc}
use Rattle.std.proofs.Common.{arith, sym, ◌∙◌}
use Rattle.std.specs.Prelude.{◌≡◌, List, Float}
use Rattle.std.proofs.Math.Path.{refl}
use Rattle.std.proofs.Math.Bool.{false}
use Rattle.memory_layout.specs.Decode.{decode}
use Rattle.inquire_tally.specs.Tallies.{refused_tally, solid_tally, unless_walked, walked, body_tally}
use Rattle.station_answers.specs.declared.Volume.TheVariants.{Refused}
use Rattle.inquire_volume.specs.Answers.{volume_answer}
use Rattle.inquire_volume.specs.Told.{told_volume}
use Rattle.inquire_volume.specs.Laws.{solid-told, volume-refused, volume-answered}

-- ---- the call

module _ (room w : List ℕ) (x : List Float) (b : ℕ) (face_marks : List ℕ) where
  pub volume-told : told_volume (body_tally false room w x b face_marks) ≡ volume_answer room w x b face_marks
  unfolding body_tally
  volume-told = go (walked false room w x b face_marks) refl
    where
      go : (n : ℕ) → walked false room w x b face_marks ≡ n → told_volume (unless_walked n (solid_tally false (decode room w x) b)) ≡ volume_answer room w x b face_marks
      go zero e = volume-answered room w x b face_marks (told_volume (solid_tally false (decode room w x) b)) e (solid-told (decode room w x) b)
      go (suc n) e = let told : told_volume (refused_tally (suc n)) ≡ Refused (suc n) = unfold told_volume in refl in told ∙ volume-refused room w x b face_marks (suc n) (sym e) (λ q. omega arith)
