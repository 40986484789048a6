-- `split_foreign::body_statuses` meets its contract. Assumes nothing.
use native.Mathlib.Omega.{arith}
use mathlib.Core.Path.{refl}
use Rattle.split_foreign.specs.Laws.{fresh-of, row_fits, rows-read}
use Rattle.split_foreign.specs.Status.{body_status}
use Rattle.split_foreign.proofs.body_statuses.Goals as goal

pub slice_bounds-mark_fins-end : goal.slice_bounds-mark_fins-end
slice_bounds-mark_fins-end c = refl

pub mark_fins-requires : goal.mark_fins-requires
mark_fins-requires c = let s = c in record { lists = s.requires.lists; fresh = fresh-of _ _ (row_fits s.args.room.now s.args.words.now 5 s.requires.lists (omega arith)) }

pub slice_bounds-raise-end-2 : goal.slice_bounds-raise-end-2
slice_bounds-raise-end-2 c = refl

pub raise-requires : goal.raise-requires
raise-requires c = let s = c in record { lists = s.requires.lists; j_bound = omega arith; fresh = fresh-of _ _ (row_fits s.args.room.now s.args.words.now 4 s.requires.lists (omega arith)) }

pub slice_bounds-raise-end-4 : goal.slice_bounds-raise-end-4
slice_bounds-raise-end-4 c = refl

pub raise-requires-2 : goal.raise-requires-2
raise-requires-2 c = let s = c in record { lists = s.requires.lists; j_bound = omega arith; fresh = fresh-of _ _ (row_fits s.args.room.now s.args.words.now 3 s.requires.lists (omega arith)) }

pub slice_bounds-raise-end-6 : goal.slice_bounds-raise-end-6
slice_bounds-raise-end-6 c = refl

pub raise-requires-3 : goal.raise-requires-3
raise-requires-3 c = let s = c in record { lists = s.requires.lists; j_bound = omega arith; fresh = fresh-of _ _ (row_fits s.args.room.now s.args.words.now 2 s.requires.lists (omega arith)) }

pub slice_bounds-raise-end-8 : goal.slice_bounds-raise-end-8
slice_bounds-raise-end-8 c = refl

pub raise-requires-4 : goal.raise-requires-4
raise-requires-4 c = let s = c in record { lists = s.requires.lists; j_bound = omega arith; fresh = fresh-of _ _ (row_fits s.args.room.now s.args.words.now 1 s.requires.lists (omega arith)) }

pub raise-requires-5 : goal.raise-requires-5
raise-requires-5 c = let s = c in record { lists = s.requires.lists; j_bound = omega arith; fresh = s.requires.fresh }

pub returns : goal.returns
unfolding body_status
returns c =
    let s = c in
    rw (
      ← rows-read _ _ _ c.mark_fins.ensures,
      ← rows-read _ _ _ c.raise.ensures,
      ← rows-read _ _ _ c.raise-2.ensures,
      ← rows-read _ _ _ c.raise-3.ensures,
      ← rows-read _ _ _ c.raise-4.ensures,
    ) c.raise-5.ensures
