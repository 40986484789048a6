-- `course_edits::course_entry` meets its contract. Assumes nothing.
use Prim.Native.Nat.{ℕ}
use mathlib.Core.List.{List}
use Rattle.memory_layout.specs.Layout.{word}
use mathlib.Core.Bool.{true}
use mathlib.Core.Path.{sym, ap, ◌∙◌}
use lib.ListN.{length}
use Rattle.memory_layout.specs.Laws.{held-length}
use Rattle.memory_writes.specs.Kept.{refused-keeps}
use Rattle.course_edits.specs.Laws.{is_open, place-open, place-there, read-body, read-course}
use native.Mathlib.Omega.{arith}
use borrow.Author.Rules.{rules}
use Rattle.course_edits.proofs.course_entry.Goals as goal

pub returns-then-n-ne0 : goal.returns-then-n-ne0
returns-then-n-ne0 c = record { answer = c.place_refusal-n.ensures; slots = refused-keeps c.place_refusal-n.result _ _ c.if-n-ne0.true }

pub entries-requires : goal.entries-requires
entries-requires c = let o = is_open c.args.courses.now true c.args.course (place-open c.args.courses.now true c.args.course c.args.place (sym c.place_refusal-n.ensures ∙ c.if-n-ne0.false)) in record { lies = o.lies; c_bound = o.short }

pub offset_bounds-entries-place : goal.offset_bounds-entries-place
offset_bounds-entries-place c =
    let p = place-there c.args.courses.now true c.args.course c.args.place (sym c.place_refusal-n.ensures ∙ c.if-n-ne0.false) in
    let o = is_open c.args.courses.now true c.args.course (place-open c.args.courses.now true c.args.course c.args.place (sym c.place_refusal-n.ensures ∙ c.if-n-ne0.false)) in
    let s = o.short in
    record { fits = omega arith }

pub bounds-entries-place : goal.bounds-entries-place
bounds-entries-place c =
    let p = place-there c.args.courses.now true c.args.course c.args.place (sym c.place_refusal-n.ensures ∙ c.if-n-ne0.false) in
    let l = (ap length c.entries.ensures ∙ held-length _ _ (is_open c.args.courses.now true c.args.course (place-open c.args.courses.now true c.args.course c.args.place (sym c.place_refusal-n.ensures ∙ c.if-n-ne0.false))).held) in
    omega arith

pub returns-then-e-lt-COURSE : goal.returns-then-e-lt-COURSE
returns-then-e-lt-COURSE c = record { answer = sym (sym c.place_refusal-n.ensures ∙ c.if-n-ne0.false); slots = read-body _ _ (ap (λ (l : List ℕ). word l c.args.place) c.entries.ensures) c.if-e-lt-COURSE.true }

pub returns : goal.returns
returns c = record { answer = sym (sym c.place_refusal-n.ensures ∙ c.if-n-ne0.false); slots = read-course _ _ (ap (λ (l : List ℕ). word l c.args.place) c.entries.ensures) c.if-e-lt-COURSE.false }
