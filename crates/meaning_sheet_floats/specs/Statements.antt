-- Float and whole volume beside each other (W-201): for coordinates on the grid that are small enough that no float step rounds, six times the float volume is the whole number of cubic sixteenths. Assumes nothing.
use Rattle.std.specs.Prelude.{ℕ, ◌*◌, ◌^◌, pos}
use Rattle.std.proofs.Common.{zero-add}
use Rattle.std.proofs.Math.IntN.{+ℤ_idl}
use Rattle.interval_arithmetic.specs.Ops.{zero_f}
use Rattle.meaning.specs.Model.{Model}
use Rattle.meaning.specs.Inquire.{solid_sides, sum_volumes}
use Rattle.meaning_sheets.specs.Sheets.{six_volume, whole_sum, triangles}
use Rattle.meaning_sheet_floats.specs.Exactly.{Exactly}
use Rattle.meaning_sheet_floats.specs.Terms.{NothingRounds}
use Rattle.meaning_sheet_floats.specs.Fans.{most}
use Rattle.meaning_sheet_floats.specs.Bodies.{sixth-zero, sixth-renamed, sixth-exact, sixth-sides}

-- the float that `body_volume` answers is the stone sheet's number over 6 · 16 ^ 3, with nothing lost
pub float-volume-exact : (m : Model) (b c : ℕ) → NothingRounds m b c → Exactly (sum_volumes m zero_f (solid_sides m b)) (6 * 16 ^ 3) (six_volume m b)
float-volume-exact m b c h =
    let l = solid_sides m b in
    sixth-exact
    (sixth-renamed (+ℤ_idl (whole_sum m l)) (zero-add (most c * triangles m l))
    (sixth-sides c m l zero_f (pos 0) 0 h.on-grid h.small h.threes (rw (zero-add (most c * triangles m l)) h.room) sixth-zero))
