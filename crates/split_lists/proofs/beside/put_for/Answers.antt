-- `split_lists::beside::put_for` meets its contract. Assumes nothing.
use Prim.Native.Nat.{◌<◌}
use native.Mathlib.Omega.{arith}
use mathlib.Core.Path.{◌≡◌, refl, sym}
use lib.ListN.{length, length-set}
use Rattle.meaning.specs.Lists.{place}
use Rattle.memory_writes.specs.Over.{one_store, two-stores}
use Rattle.split_lists.specs.BesideLaws.{not-old, not_own, after-it, before-it}
use Rattle.split_lists.proofs.beside.put_for.Goals as goal

pub bounds-w-q : goal.bounds-w-q
bounds-w-q c =
    let s = c in
    let p : place s.args.i s.args.olds.now ≡ c.place_of-k.result = sym c.place_of-k.ensures in
    let e = not-old s.args.olds.now s.args.owners.now s.args.senses.now s.args.owner s.args.first s.args.i (rw p c.if-olds-k.true) in
    let g = rw e at s.requires.i_in_bounds in
    omega arith

pub returns-then-olds-k : goal.returns-then-olds-k
returns-then-olds-k c =
    let s = c in
    let p : place s.args.i s.args.olds.now ≡ c.place_of-k.result = sym c.place_of-k.ensures in
    let e = not-old s.args.olds.now s.args.owners.now s.args.senses.now s.args.owner s.args.first s.args.i (rw p c.if-olds-k.true) in
    let g = rw e at s.requires.i_in_bounds in
    rw e record { behind = refl; list = one_store s.args.w.now s.args.q s.args.i g }

pub bounds-w-q-then-owners-k : goal.bounds-w-q-then-owners-k
bounds-w-q-then-owners-k c =
    let s = c in
    let p : place s.args.i s.args.olds.now ≡ c.place_of-k.result = sym c.place_of-k.ensures in
    let h : place s.args.i s.args.olds.now < length s.args.olds.now = rw p c.if-olds-k.false in
    let e = not_own s.args.olds.now s.args.owners.now s.args.senses.now s.args.owner s.args.first s.args.i h (rw p c.if-owners-k.true) in
    let g = rw e at s.requires.i_in_bounds in
    omega arith

pub returns-then-owners-k : goal.returns-then-owners-k
returns-then-owners-k c =
    let s = c in
    let p : place s.args.i s.args.olds.now ≡ c.place_of-k.result = sym c.place_of-k.ensures in
    let h : place s.args.i s.args.olds.now < length s.args.olds.now = rw p c.if-olds-k.false in
    let e = not_own s.args.olds.now s.args.owners.now s.args.senses.now s.args.owner s.args.first s.args.i h (rw p c.if-owners-k.true) in
    let g = rw e at s.requires.i_in_bounds in
    rw e record { behind = refl; list = one_store s.args.w.now s.args.q s.args.i g }

pub bounds-w-q-then-senses-k-eq0 : goal.bounds-w-q-then-senses-k-eq0
bounds-w-q-then-senses-k-eq0 c =
    let s = c in
    let p : place s.args.i s.args.olds.now ≡ c.place_of-k.result = sym c.place_of-k.ensures in
    let h : place s.args.i s.args.olds.now < length s.args.olds.now = rw p c.if-olds-k.false in
    let e = after-it s.args.olds.now s.args.owners.now s.args.senses.now s.args.owner s.args.first s.args.i h (rw p c.if-owners-k.false) (rw p c.if-senses-k-eq0.true) in
    let g = rw e at s.requires.i_in_bounds in
    omega arith

pub bounds-w-q-then-senses-k-eq0-2 : goal.bounds-w-q-then-senses-k-eq0-2
bounds-w-q-then-senses-k-eq0-2 c =
    let s = c in
    let p : place s.args.i s.args.olds.now ≡ c.place_of-k.result = sym c.place_of-k.ensures in
    let h : place s.args.i s.args.olds.now < length s.args.olds.now = rw p c.if-olds-k.false in
    let e = after-it s.args.olds.now s.args.owners.now s.args.senses.now s.args.owner s.args.first s.args.i h (rw p c.if-owners-k.false) (rw p c.if-senses-k-eq0.true) in
    let g = rw e at s.requires.i_in_bounds in
    rw length-set (omega arith)

pub returns-then-senses-k-eq0 : goal.returns-then-senses-k-eq0
returns-then-senses-k-eq0 c =
    let s = c in
    let p : place s.args.i s.args.olds.now ≡ c.place_of-k.result = sym c.place_of-k.ensures in
    let h : place s.args.i s.args.olds.now < length s.args.olds.now = rw p c.if-olds-k.false in
    let e = after-it s.args.olds.now s.args.owners.now s.args.senses.now s.args.owner s.args.first s.args.i h (rw p c.if-owners-k.false) (rw p c.if-senses-k-eq0.true) in
    let g = rw e at s.requires.i_in_bounds in
    rw (e, p) record { behind = refl; list = two-stores s.args.w.now s.args.q s.args.i _ g }

pub bounds-w-q-2 : goal.bounds-w-q-2
bounds-w-q-2 c =
    let s = c in
    let p : place s.args.i s.args.olds.now ≡ c.place_of-k.result = sym c.place_of-k.ensures in
    let h : place s.args.i s.args.olds.now < length s.args.olds.now = rw p c.if-olds-k.false in
    let e = before-it s.args.olds.now s.args.owners.now s.args.senses.now s.args.owner s.args.first s.args.i h (rw p c.if-owners-k.false) (rw p c.if-senses-k-eq0.false) in
    let g = rw e at s.requires.i_in_bounds in
    omega arith

pub bounds-w-q-3 : goal.bounds-w-q-3
bounds-w-q-3 c =
    let s = c in
    let p : place s.args.i s.args.olds.now ≡ c.place_of-k.result = sym c.place_of-k.ensures in
    let h : place s.args.i s.args.olds.now < length s.args.olds.now = rw p c.if-olds-k.false in
    let e = before-it s.args.olds.now s.args.owners.now s.args.senses.now s.args.owner s.args.first s.args.i h (rw p c.if-owners-k.false) (rw p c.if-senses-k-eq0.false) in
    let g = rw e at s.requires.i_in_bounds in
    rw length-set (omega arith)

pub returns : goal.returns
returns c =
    let s = c in
    let p : place s.args.i s.args.olds.now ≡ c.place_of-k.result = sym c.place_of-k.ensures in
    let h : place s.args.i s.args.olds.now < length s.args.olds.now = rw p c.if-olds-k.false in
    let e = before-it s.args.olds.now s.args.owners.now s.args.senses.now s.args.owner s.args.first s.args.i h (rw p c.if-owners-k.false) (rw p c.if-senses-k-eq0.false) in
    let g = rw e at s.requires.i_in_bounds in
    rw (e, p) record { behind = refl; list = two-stores s.args.w.now s.args.q _ s.args.i g }
