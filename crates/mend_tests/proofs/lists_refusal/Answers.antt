-- `mend_tests::lists_refusal` meets its contract. Assumes nothing.
use native.Mathlib.Omega.{arith}
use mathlib.Core.Path.{refl, sym, ap₂, ◌∙◌}
use Rattle.memory_layout.specs.Laws.{version-there}
use Rattle.split_foreign.specs.Status.{greatest}
use Rattle.split_foreign.specs.Laws.{fresh-of, row_fits, rows-read}
use Rattle.mend_tests.specs.Graded.{refused_as, body-missing}
use Rattle.mend_tests.proofs.lists_refusal.Goals as goal

pub bounds-words-0 : goal.bounds-words-0
bounds-words-0 c = let s = c in let n = version-there s.args.room.now s.args.words.now s.requires.words in omega arith

pub overflow_cast-words : goal.overflow_cast-words
overflow_cast-words c = omega (arith, c.type_inv.words 0)

pub returns-then-words-body : goal.returns-then-words-body
returns-then-words-body c = let s = c in λ x. sym (body-missing s.args.room.now s.args.words.now x s.args.body c.if-words-body.true)

pub slice_bounds-region_statuses-end : goal.slice_bounds-region_statuses-end
slice_bounds-region_statuses-end c = refl

pub region_statuses-requires : goal.region_statuses-requires
region_statuses-requires c = let s = c in record { lists = s.requires; fresh = fresh-of _ _ (row_fits s.args.room.now s.args.words.now 1 s.requires (omega arith)) }

pub list-requires : goal.list-requires
list-requires c = let s = c in record { lists = s.requires; j_bound = (omega arith, c.if-words-body.false) }

pub returns : goal.returns
returns c =
    let s = c in
    λ x.
    c.list_status.ensures
    ∙ ap₂ greatest (rows-read _ _ _ c.region_statuses.ensures) c.list.ensures
    ∙ refused_as s.args.room.now s.args.words.now x s.args.body c.if-words-body.false
