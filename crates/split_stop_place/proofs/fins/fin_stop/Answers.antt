-- `split_stop_place::fins::fin_stop` meets its contract. Assumes nothing.
use Rattle.split_stop_place.specs.Laws.{owner-there}
use Rattle.split_stop_place.specs.FinRows.{use_told, loop_told, fin_told}
use Rattle.split_stop_parts.specs.Laws.{stops-here, goes_on}
use Rattle.split_stop_parts.specs.Told.{first_told}
use Rattle.split_stop_parts.specs.declared.Stop.{Stop}
use Rattle.memory_layout.specs.Laws.{lists_of}
use Rattle.memory_layout.specs.Layout.{word, words_of}
use lib.ListN.{length, get_or, take}
use Prim.Native.Nat.{◌<◌}
use mathlib.Core.Path.{sym, ap, ◌∙◌}
use native.Mathlib.Omega.{arith}
use Rattle.split_stop_place.proofs.fins.fin_stop.Goals as goal

pub use_stop-used-requires : goal.use_stop-used-requires
use_stop-used-requires c = let s = c in record { lists = lists_of s.args.room.now s.args.words.now s.args.reals.now s.requires.fit; present = s.requires.present; k_in_bounds = s.requires.k_in_bounds }

pub returns-then-used-ne0 : goal.returns-then-used-ne0
unfolding fin_told
returns-then-used-ne0 c = let s = c in
    let z : Stop = loop_told s.args.room.now s.args.words.now s.args.reals.now (get_or s.args.fins.now s.args.k 0) (word (words_of s.args.room.now s.args.words.now 5 (get_or s.args.fins.now s.args.k 0)) 0) s.args.cut in
    stops-here c.use_stop-used.result z c.if-used-ne0.true ∙ ap (λ (a : Stop). first_told a z) c.use_stop-used.ensures

pub offset_bounds-fins-k : goal.offset_bounds-fins-k
offset_bounds-fins-k c = let s = c in let h : s.args.k < length s.args.fins.now = s.requires.k_in_bounds in omega arith

pub bounds-fins-k : goal.bounds-fins-k
bounds-fins-k c = c.requires.k_in_bounds

pub owner_of-owner-requires : goal.owner_of-owner-requires
owner_of-owner-requires c = let s = c in record { lists = lists_of s.args.room.now s.args.words.now s.args.reals.now s.requires.fit; fin_bound = s.requires.present.there s.args.k s.requires.k_in_bounds }

pub loop_stop-requires : goal.loop_stop-requires
loop_stop-requires c = let s = c in
    record { fit = s.requires.fit; owner_bound = rw c.owner_of-owner.ensures (owner-there s.args.room.now s.args.words.now s.args.edge (take s.args.k s.args.fins.now) (get_or s.args.fins.now s.args.k 0) (sym (ap (λ (a : Stop). a.number) c.use_stop-used.ensures) ∙ c.if-used-ne0.false)) }

pub returns : goal.returns
unfolding fin_told
returns c = let s = c in
    c.loop_stop.ensures
    ∙ rw c.owner_of-owner.ensures (goes_on (use_told s.args.room.now s.args.words.now s.args.edge (take s.args.k s.args.fins.now) (get_or s.args.fins.now s.args.k 0)) _ (sym (ap (λ (a : Stop). a.number) c.use_stop-used.ensures) ∙ c.if-used-ne0.false))
