-- `check_fin::fin_geometry` meets its contract: by whether the fin and its edge are there. Assumes nothing.
use native.Mathlib.Omega.{arith}
use mathlib.Core.Path.{sym, ◌∙◌}
use borrow.Author.Tests.{le-ltb, lt-ltb}
use Rattle.memory_records.specs.Laws.{counts-there}
use Rattle.memory_layout.specs.Decode.{decode}
use Rattle.memory_layout.specs.Laws.{lists_of}
use Rattle.check_reasons.specs.Laws.{enough-same, noted-none, noted-same, noted-over}
use Rattle.check_ends.specs.Ends.{ref_of}
use Rattle.check_fin.specs.Laws.{no-fin, no_edge, fin-edge}
use borrow.Author.Rules.{rules}
use Rattle.check_fin.proofs.fin_geometry.Goals as goal

pub returns-then-done : goal.returns-then-done
returns-then-done c = noted-over _ _ _ (sym c.done.ensures ∙ c.if-done.true)

pub bounds-words-5 : goal.bounds-words-5
bounds-words-5 c = omega (arith, counts-there _ _ _ c.requires.fit.sized)

pub returns-then-words-i : goal.returns-then-words-i
unfolding decode
returns-then-words-i c = noted-same (sym (no-fin (decode c.args.room.now c.args.words.now c.args.reals.now) c.args.n (ref_of c.args.surface) c.args.i (le-ltb _ _ c.if-words-i.true))) (noted-none _ _)

pub fin_at-e-requires : goal.fin_at-e-requires
fin_at-e-requires c = record { lists = lists_of _ _ _ c.requires.fit; i_bound = c.if-words-i.false }

pub bounds-words-6 : goal.bounds-words-6
bounds-words-6 c = omega (arith, counts-there _ _ _ c.requires.fit.sized)

pub returns-then-words-e : goal.returns-then-words-e
unfolding decode
returns-then-words-e c = noted-same (sym (no_edge (decode c.args.room.now c.args.words.now c.args.reals.now) c.args.n (ref_of c.args.surface) c.args.i _ (lt-ltb _ _ c.if-words-i.false) (c.fin_at-e.ensures c.args.reals.now) (le-ltb _ _ c.if-words-e.true))) (noted-none _ _)

pub edge_geometry-requires : goal.edge_geometry-requires
unfolding decode
edge_geometry-requires c = record { fit = c.requires.fit; n_bound = (c.requires.n_bound, c.if-words-e.false); enough = enough-same (fin-edge (decode c.args.room.now c.args.words.now c.args.reals.now) c.args.n (ref_of c.args.surface) c.args.i _ (lt-ltb _ _ c.if-words-i.false) (c.fin_at-e.ensures c.args.reals.now) (lt-ltb _ _ c.if-words-e.false)) c.requires.enough }

pub returns : goal.returns
unfolding decode
returns c = noted-same (sym (fin-edge (decode c.args.room.now c.args.words.now c.args.reals.now) c.args.n (ref_of c.args.surface) c.args.i _ (lt-ltb _ _ c.if-words-i.false) (c.fin_at-e.ensures c.args.reals.now) (lt-ltb _ _ c.if-words-e.false))) c.edge_geometry.ensures
