-- `check_report::check` meets its contract: the whole entries of the list are lent. Assumes nothing.
use native.Mathlib.Omega.{arith}
use mathlib.Core.Path.{sym, subst}
use Prim.Native.Nat.{◌*◌, ◌/◌}
use lib.ListN.{length}
use lib.Seq.{length-take-le}
use Rattle.meaning.specs.Faults.{findings}
use Rattle.memory_layout.specs.Decode.{decode}
use Rattle.memory_layout.specs.Laws.{fit_of, lists_of}
use Rattle.check_reasons.specs.declared.Tally.{Tally}
use Rattle.check_reasons.specs.Log.{Enough}
use Rattle.check_findings.specs.Laws.{enough-findings}
use Rattle.check_report.specs.Calls.{asked}
use Rattle.check_report.specs.Up.{report_up}
use Rattle.check_report.specs.Laws.{quarter, words-kept, counts-told}
use borrow.Author.Rules.{rules}
use Rattle.check_report.proofs.check.Goals as goal

pub overflow_mul-end : goal.overflow_mul-end
overflow_mul-end c = omega (arith, quarter (length c.args.nums.now))

pub slice_bounds-body_findings-end : goal.slice_bounds-body_findings-end
slice_bounds-body_findings-end c = quarter (length c.args.nums.now)

pub slice_bounds-body_findings-end-2 : goal.slice_bounds-body_findings-end-2
slice_bounds-body_findings-end-2 c =
    let d = c.args.nums.now in
    sym (length-take-le (4 * (length d / 4)) d (quarter (length d)))

pub body_findings-t-requires : goal.body_findings-t-requires
body_findings-t-requires c =
    let s = c in
    let m = decode s.args.room.now s.args.words.now s.args.reals.now in
    let few = enough-findings s.args.first s.args.room.now s.args.words.now s.args.reals.now s.args.geometry s.args.n s.args.body (lists_of _ _ _ (fit_of _ _ _ s.requires.reals_value)) s.requires.n_bound.0 s.requires.n_bound.1 in
    record { reals_value = s.requires.reals_value; n_bound = s.requires.n_bound; faces_value = s.requires.faces_value; edges_value = s.requires.edges_value; enough = subst (λ (t : Tally). Enough t (findings m (asked s.args.geometry s.args.n) s.args.body)) (sym c.start-nothing.ensures) few }

pub returns : goal.returns
unfolding report_up
returns c =
    let s = c in
    let d = s.args.nums.now in
    let all = findings (decode s.args.room.now s.args.words.now s.args.reals.now) (asked s.args.geometry s.args.n) s.args.body in
    let start = c.start-nothing.ensures in
    let few = subst (λ (t : Tally). Enough t all) (sym start) (enough-findings s.args.first s.args.room.now s.args.words.now s.args.reals.now s.args.geometry s.args.n s.args.body (lists_of _ _ _ (fit_of _ _ _ s.requires.reals_value)) s.requires.n_bound.0 s.requires.n_bound.1) in
    let found = c.body_findings-t.ensures in record { value = counts-told d _ (length d / 4) s.args.first all _ _ start few found.noted _ c.kept_of.ensures; nums_after = words-kept d _ (length d / 4) s.args.first all _ _ start few found.noted (quarter (length d)); faces_after = found.faces_after; edges_after = found.edges_after }
