-- `check_body` and fit to saw over lent memory: which number, which report, which words. Definitions only.
-- What is found, and when 1 and 2 are given, stands in `meaning`, Faults.antt.
use Rattle.std.specs.Prelude.{ℕ, ◌/◌, Bool, ◌&&◌, List, [], ◌∷◌, length, Float}
use Rattle.std.proofs.Math.Option.{Option, none, some}
use Rattle.geom_lines_planes.specs.Refuse.{◌unless◌, ◌then◌, answer}
use Rattle.meaning.specs.Faults as Faults
use Rattle.meaning.specs.Faults.{Fault, CheckOptions, Report, report_of, findings, check_refusal, kept, counts, sawing, sawable}
use Rattle.memory_layout.specs.Names.{FACES, EDGES}
use Rattle.memory_layout.specs.Decode.{decode}
use Rattle.memory_layout.specs.Readable.{readable}
use Rattle.check_reasons.specs.Log.{class_number, faults_words}
use Rattle.walk_answers.specs.Calls.{reach, handed, in_front}
use Rattle.station_answers.specs.declared.Counts.{Counts}
use Rattle.station_answers.specs.declared.Checked.{Checked}
use Rattle.station_answers.specs.declared.Checked.TheVariants as Checks
use Rattle.check_report.specs.declared.FaultFound.{FaultFound}
use Rattle.check_report.specs.declared.FirstFault.{FirstFault}
use Rattle.check_report.specs.declared.FirstFault.TheVariants as Firsts
use Rattle.station_answers.specs.declared.Sawable.{Sawable}
use Rattle.station_answers.specs.declared.Sawable.TheVariants as Saws

-- whether geometry is checked, and with how many samples to an edge
abbrev pub asked : Bool → ℕ → CheckOptions
asked geometry samples = record { geometry = geometry; edge_samples = samples }

-- "the report gives the full number of faults, how many were kept (..), and `unchecked`", as the answer holds them
abbrev pub seen_counts : Faults.Counts → Counts
seen_counts c = record { faults = c.faults; kept = c.kept; unchecked = c.unchecked }

-- a fault as the answer holds it, its class by its table; and the first of a list
abbrev pub seen_fault : Fault → FaultFound
seen_fault f = record { kind = f.kind; class = class_number f.class; id = f.id; reason = f.reason }

abbrev pub first_of : List Fault → Option FaultFound
first_of [] = none
first_of (f ∷ l) = some (seen_fault f)

abbrev pub told : Option FaultFound → FirstFault
told none = Firsts.None
told (some f) = Firsts.Is f

module _ (room w : List ℕ) (x : List Float) (b : ℕ) where
  -- the report of the body that the memory holds
  unfoldable pub report_on : CheckOptions → Report
  report_on o = report_of (findings (decode room w x) o b)

  -- 01, "Every call tests 9 first", "Marks shorter than their table's capacity give 8, right after 9", "`check_body` gives 1 (samples), then 2"
  unfoldable pub check_number : CheckOptions → List ℕ → List ℕ → ℕ
  check_number o face_marks edge_marks =
      9 unless readable room w x
      then 8 unless reach room FACES face_marks && reach room EDGES edge_marks
      then check_refusal (decode room w x) o b

  -- `check_body`: the lent list has an entry for every four words
  unfoldable pub check_answer : CheckOptions → List ℕ → List ℕ → List ℕ → Checked
  check_answer o face_marks edge_marks nums = answer Checks.Is Checks.Refused (check_number o face_marks edge_marks) (seen_counts (counts (length nums / 4) (report_on o)))

  -- 01, "Entries beyond those kept are unchanged", and "A refusal .. alters no .. fault entry"
  unfoldable pub check_words : CheckOptions → List ℕ → List ℕ → List ℕ → List ℕ
  check_words o face_marks edge_marks nums = in_front (handed (check_number o face_marks edge_marks) (faults_words (kept (length nums / 4) (report_on o)))) nums

  -- W-207, "it gives the first entry of the full list for the same options, and "none" exactly where that list has no entry. It gives no `unchecked`. Refusals: those of the full check"
  unfoldable pub first_answer : CheckOptions → List ℕ → List ℕ → FirstFault
  first_answer o face_marks edge_marks = answer told Firsts.Refused (check_number o face_marks edge_marks) (first_of (report_on o).faults)

  -- 01, "Fit to saw (added): geometry on, three samples, no fault, `unchecked` 0"; W-203, "must also mean that the body is solid, that some solid region has a face, .."
  unfoldable pub fit_answer : List ℕ → List ℕ → Sawable
  fit_answer face_marks edge_marks = answer Saws.Is Saws.Refused (check_number sawing face_marks edge_marks) (sawable (decode room w x) b)
