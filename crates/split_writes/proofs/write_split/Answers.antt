use Prim.Native.Nat.{ℕ}
use mathlib.Core.List.{[], ◌∷◌}
use lib.Seq.{length-take-le}
use lib.ListN.{length}
use mathlib.Core.Path.{sym, ap, ◌∙◌}
use native.Mathlib.Omega.{arith}
use borrow.Author.Rules.{rules}
use Rattle.split_writes.proofs.write_split.Goals as goal

pub slice_bounds-fins-end : goal.slice_bounds-fins-end
slice_bounds-fins-end c = let s = c in let e = ap length c.list-n.ensures in let f = s.requires.ready.olds.few in omega arith

pub slice_bounds-write_read-end : goal.slice_bounds-write_read-end
slice_bounds-write_read-end c = let s = c in let e = ap length c.list-n.ensures in let f = s.requires.ready.olds.few in sym (length-take-le _ _ (omega arith))

pub slice_bounds-owners-end : goal.slice_bounds-owners-end
slice_bounds-owners-end c = let s = c in let e = ap length c.list-n.ensures in let f = s.requires.ready.olds.few in omega arith

pub slice_bounds-write_read-end-2 : goal.slice_bounds-write_read-end-2
slice_bounds-write_read-end-2 c = let s = c in let e = ap length c.list-n.ensures in let f = s.requires.ready.olds.few in sym (length-take-le _ _ (omega arith))

pub slice_bounds-senses-end : goal.slice_bounds-senses-end
slice_bounds-senses-end c = let s = c in let e = ap length c.list-n.ensures in let f = s.requires.ready.olds.few in omega arith

pub slice_bounds-write_read-end-3 : goal.slice_bounds-write_read-end-3
slice_bounds-write_read-end-3 c = let s = c in let e = ap length c.list-n.ensures in let f = s.requires.ready.olds.few in sym (length-take-le _ _ (omega arith))

pub write_read-requires : goal.write_read-requires
write_read-requires c =
    let s = c in
    let e = ap length c.list-n.ensures in
    let f = s.requires.ready.olds.few in
    let l = length-take-le {A = ℕ} (length c.list-n.result.now) (0 ∷ 0 ∷ 0 ∷ 0 ∷ 0 ∷ 0 ∷ 0 ∷ 0 ∷ []) (omega arith) ∙ e in
    record { listing = s.requires; fins_len = l; owners_len = l; senses_len = l }

pub returns : goal.returns
returns c = c.write_read.ensures
