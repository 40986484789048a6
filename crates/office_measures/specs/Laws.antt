-- What an office is told is what the call of before tells of the body that the id is for it; above 1, 9 or 1. Assumes nothing.
use Rattle.std.specs.Prelude.{ℕ, ◌<◌, ◌≤◌, ◌≡◌, List, [], Float}
use Rattle.std.proofs.Common.{sym, ◌∙◌}
use Rattle.std.proofs.Math.Path.{ap}
use Rattle.meaning.specs.Faults.{CheckOptions, sawing}
use Rattle.memory_layout.specs.Readable.{tag_number}
use Rattle.walk_answers.specs.Calls.{in_front}
use Rattle.inquire_box.specs.Answers.{box_number, box_answer}
use Rattle.inquire_volume.specs.Answers.{volume_number, volume_answer}
use Rattle.check_report.specs.Calls.{told, check_number, check_answer, check_words, first_answer, fit_answer}
use Rattle.check_report.specs.declared.FirstFault.TheVariants as Firsts
use Rattle.memory_offices.specs.Sight.{body_asked}
use Rattle.memory_offices.proofs.Laws.{answer-there, answer-above}
use Rattle.office_walks.specs.Laws.{handed-there, handed-above}
use Rattle.station_answers.specs.declared.BoxFound.TheVariants as Boxes
use Rattle.station_answers.specs.declared.Volume.TheVariants as Volumes
use Rattle.station_answers.specs.declared.Checked.TheVariants as Checks
use Rattle.station_answers.specs.declared.Sawable.TheVariants as Saws
use Rattle.office_measures.specs.Answers.{office_box_number, office_box, office_volume_number, office_volume, office_check_number, office_report, office_faults, office_first, office_fit}

-- an office that there is
module _ (room w : List ℕ) (x : List Float) (o b id : ℕ) (e : id ≡ body_asked room w x o b) (h : o ≤ 1) where
  pub box-there : (f g v : List ℕ) → box_answer room w x id f g v ≡ office_box room w x o b f g v
  unfolding box_number box_answer office_box_number office_box
  box-there f g v = rw e (answer-there room w x o Boxes.Is Boxes.Refused _ _ h)

  pub volume-there : (f : List ℕ) → volume_answer room w x id f ≡ office_volume room w x o b f
  unfolding volume_number volume_answer office_volume_number office_volume
  volume-there f = rw e (answer-there room w x o Volumes.Is Volumes.Refused _ _ h)

  pub report-there : (c : CheckOptions) (f g nums : List ℕ) → check_answer room w x id c f g nums ≡ office_report room w x o b c f g nums
  unfolding check_number check_answer office_check_number office_report
  report-there c f g nums = rw e (answer-there room w x o Checks.Is Checks.Refused _ _ h)

  pub faults-there : (c : CheckOptions) (f g nums : List ℕ) → check_words room w x id c f g nums ≡ office_faults room w x o b c f g nums
  unfolding check_number check_words office_check_number office_faults
  faults-there c f g nums = rw e (ap (λ l. in_front l nums) (handed-there room w x o _ _ h))

  pub first-there : (c : CheckOptions) (f g : List ℕ) → first_answer room w x id c f g ≡ office_first room w x o b c f g
  unfolding check_number first_answer office_check_number office_first
  first-there c f g = rw e (answer-there room w x o told Firsts.Refused _ _ h)

  pub fit-there : (f g : List ℕ) → fit_answer room w x id f g ≡ office_fit room w x o b f g
  unfolding check_number fit_answer office_check_number office_fit
  fit-there f g = rw e (answer-there room w x o Saws.Is Saws.Refused _ _ h)

-- an office above 1
module _ (room w : List ℕ) (x : List Float) (o b k : ℕ) (h : 1 < o) (e : k ≡ tag_number room w x) where
  pub box-above : (f g v : List ℕ) → Boxes.Refused k ≡ office_box room w x o b f g v
  unfolding office_box_number office_box
  box-above f g v = answer-above room w x o Boxes.Is Boxes.Refused _ k _ h e

  pub volume-above : (f : List ℕ) → Volumes.Refused k ≡ office_volume room w x o b f
  unfolding office_volume_number office_volume
  volume-above f = answer-above room w x o Volumes.Is Volumes.Refused _ k _ h e

  pub report-above : (c : CheckOptions) (f g nums : List ℕ) → Checks.Refused k ≡ office_report room w x o b c f g nums
  unfolding office_check_number office_report
  report-above c f g nums = answer-above room w x o Checks.Is Checks.Refused _ k _ h e

  pub faults-above : (c : CheckOptions) (f g nums : List ℕ) → nums ≡ office_faults room w x o b c f g nums
  unfolding office_check_number office_faults in_front
  faults-above c f g nums = ap (λ l. in_front l nums) (handed-above room w x o _ _ h)

  pub first_above : (c : CheckOptions) (f g : List ℕ) → Firsts.Refused k ≡ office_first room w x o b c f g
  unfolding office_check_number office_first
  first_above c f g = answer-above room w x o told Firsts.Refused _ k _ h e

  pub fit-above : (f g : List ℕ) → Saws.Refused k ≡ office_fit room w x o b f g
  unfolding office_check_number office_fit
  fit-above f g = answer-above room w x o Saws.Is Saws.Refused _ k _ h e
