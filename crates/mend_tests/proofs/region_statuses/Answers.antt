-- `mend_tests::region_statuses` meets its contract. Assumes nothing.
use native.Mathlib.Omega.{arith}
use mathlib.Core.Path.{refl}
use Rattle.split_foreign.specs.Laws.{fresh-of, row_fits, rows-read}
use Rattle.mend_tests.specs.Status.{region_status}
use Rattle.mend_tests.proofs.region_statuses.Goals as goal

pub slice_bounds-raise_once-end : goal.slice_bounds-raise_once-end
slice_bounds-raise_once-end c = refl

pub slice_bounds-raise_once-end-2 : goal.slice_bounds-raise_once-end-2
slice_bounds-raise_once-end-2 c = refl

pub raise_once-requires : goal.raise_once-requires
raise_once-requires c = let s = c in record { lists = s.requires.lists; le_k = (omega arith, omega arith); fresh = fresh-of _ _ (row_fits s.args.room.now s.args.words.now 5 s.requires.lists (omega arith)) }

pub slice_bounds-raise_once-end-4 : goal.slice_bounds-raise_once-end-4
slice_bounds-raise_once-end-4 c = refl

pub raise_once-requires-2 : goal.raise_once-requires-2
raise_once-requires-2 c = let s = c in record { lists = s.requires.lists; le_k = (omega arith, omega arith); fresh = fresh-of _ _ (row_fits s.args.room.now s.args.words.now 4 s.requires.lists (omega arith)) }

pub slice_bounds-raise-end : goal.slice_bounds-raise-end
slice_bounds-raise-end c = refl

pub slice_bounds-raise-end-3 : goal.slice_bounds-raise-end-3
slice_bounds-raise-end-3 c = refl

pub raise-requires : goal.raise-requires
raise-requires c = let s = c in record { lists = s.requires.lists; k_bound = omega arith; fresh = fresh-of _ _ (row_fits s.args.room.now s.args.words.now 3 s.requires.lists (omega arith)) }

pub slice_bounds-raise_once-end-6 : goal.slice_bounds-raise_once-end-6
slice_bounds-raise_once-end-6 c = refl

pub raise_once-requires-3 : goal.raise_once-requires-3
raise_once-requires-3 c = let s = c in record { lists = s.requires.lists; le_k = (omega arith, omega arith); fresh = fresh-of _ _ (row_fits s.args.room.now s.args.words.now 2 s.requires.lists (omega arith)) }

pub raise_once-requires-4 : goal.raise_once-requires-4
raise_once-requires-4 c = let s = c in record { lists = s.requires.lists; le_k = (omega arith, omega arith); fresh = s.requires.fresh }

pub returns : goal.returns
unfolding region_status
returns c =
    rw (
      ← rows-read _ _ _ c.raise_once.ensures,
      ← rows-read _ _ _ c.raise_once-2.ensures,
      ← rows-read _ _ _ c.raise.ensures,
      ← rows-read _ _ _ c.raise_once-3.ensures,
    ) c.raise_once-4.ensures
