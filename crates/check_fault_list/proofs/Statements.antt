-- The theorems of specs/Statements.antt that rest on written-split. Assumes nothing.
use Rattle.std.specs.Prelude.{ℕ, ◌/◌, ◌≤◌, min, ◌≡◌, Float, length, take}
use Rattle.std.proofs.Common.{arith, ◌∙◌}
use Rattle.std.proofs.Math.Path.{ap}
use mathlib.Core.List.{List, ◌++◌, map}
use Rattle.std.proofs.Math.ListN.{drop}
use Rattle.meaning.specs.Faults as Faults
use Rattle.meaning.specs.Faults.{CheckOptions, kept}
use Rattle.check_reasons.specs.Log.{faults_words}
use Rattle.walk_answers.specs.Calls.{handed, in_front}
use Rattle.check_report.specs.Calls.{report_on, check_number, check_words}
use Rattle.check_fault_list.specs.declared.Fault.{Fault}
use Rattle.check_fault_list.specs.List.{written}
use Rattle.check_fault_list.specs.Statements.{entry_of, written-split, first-words, fitting}

-- numbers with the words of the faults l in front fill the first k entries of a list
entries-told : (list : List Fault) (l : List Faults.Fault) (nums : List ℕ) (k : ℕ) → k ≤ length l → k ≤ length list
    → written list (in_front (faults_words l) nums) k ≡ map entry_of (take k l) ++ drop k list
unfolding in_front
entries-told list l nums k h g =
    written-split list (faults_words l ++ drop (length (faults_words l)) nums) k g
    ∙ ap (λ d. d ++ drop k list) (first-words l (drop (length (faults_words l)) nums) k h)

module _ (room w : List ℕ) (x : List Float) (b : ℕ) (o : CheckOptions) (faces edges nums : List ℕ) (list : List Fault) (r : ℕ) where
  -- how many faults both lists have room for
  abbrev space : ℕ
  space = min (length list) (length nums / 4)

  -- `faults_fill` with the number of faults kept, on the numbers that `check_body` left: the first faults of the report that fit, the entries beyond them unchanged
  pub filled-after-check : check_number room w x b o faces edges ≡ 0 → r ≡ min (length (kept (length nums / 4) (report_on room w x b o))) space
      → written list (check_words room w x b o faces edges nums) r ≡ map entry_of (kept space (report_on room w x b o)) ++ drop r list
  unfolding check_words handed
  filled-after-check e q =
      let l : List Faults.Fault = kept (length nums / 4) (report_on room w x b o) in
      let words : in_front (handed (check_number room w x b o faces edges) (faults_words l)) nums ≡ in_front (faults_words l) nums = ap (λ n. in_front (handed n (faults_words l)) nums) e in
      ap (λ d. written list d r) words
      ∙ entries-told list l nums r (omega arith) (omega arith)
      ∙ ap (λ d. map entry_of d ++ drop r list) (fitting (report_on room w x b o).faults (length nums / 4) space r (omega arith) q)
