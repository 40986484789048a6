-- The report of all that is found, or of what is found up to the first fault (W-207). No reader of a public promise needs this file. Definitions only.
use Rattle.std.specs.Prelude.{ℕ, ◌+◌, ◌/◌, Bool, true, false, List, [], ◌∷◌, length, Float}
use Rattle.geom_lines_planes.specs.Refuse.{answer}
use Rattle.meaning.specs.Faults.{CheckOptions, Finding, found, skipped, faults_of, skipped_of, Report, report_of, findings, kept, counts}
use Rattle.memory_layout.specs.Decode.{decode}
use Rattle.check_reasons.specs.Log.{FIRST, faults_words}
use Rattle.walk_answers.specs.Calls.{handed, in_front}
use Rattle.station_answers.specs.declared.Checked.{Checked}
use Rattle.station_answers.specs.declared.Checked.TheVariants as Checks
use Rattle.check_report.specs.Calls.{seen_counts, check_number}

unfoldable pub through_first : List Finding → List Finding
through_first [] = []
through_first (found f ∷ l) = found f ∷ []
through_first (skipped ∷ l) = skipped ∷ through_first l

-- what the tally has of them: up to the first fault, the checks not made are counted from FIRST
abbrev pub report_from : Bool → List Finding → Report
report_from true l = record { faults = faults_of (through_first l); unchecked = FIRST + skipped_of (through_first l) }
report_from false l = report_of l

module _ (room w : List ℕ) (x : List Float) (b : ℕ) (first : Bool) where
  unfoldable pub report_up : CheckOptions → Report
  report_up o = report_from first (findings (decode room w x) o b)

  unfoldable pub answer_up : CheckOptions → List ℕ → List ℕ → List ℕ → Checked
  answer_up o face_marks edge_marks nums = answer Checks.Is Checks.Refused (check_number room w x b o face_marks edge_marks) (seen_counts (counts (length nums / 4) (report_up o)))

  unfoldable pub words_up : CheckOptions → List ℕ → List ℕ → List ℕ → List ℕ
  words_up o face_marks edge_marks nums = in_front (handed (check_number room w x b o face_marks edge_marks) (faults_words (kept (length nums / 4) (report_up o)))) nums
