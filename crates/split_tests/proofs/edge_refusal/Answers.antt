-- `split_tests::edge_refusal` meets its contract. Assumes nothing.
use borrow.Author.Rules.{rules}
use native.Mathlib.Omega.{arith}
use mathlib.Core.Path.{◌≡◌, sym, ◌∙◌}
use mathlib.Core.Bool.{true, false}
use borrow.Author.Tests.{not-true, not-false, lt-ltb, le-ltb}
use lib.Dec.{ltb}
use Rattle.memory_layout.specs.Layout.{word}
use Rattle.memory_layout.specs.Decode.{decode}
use Rattle.memory_layout.specs.Laws.{lists_of}
use Rattle.memory_records.specs.Laws.{counts-there}
use Rattle.split_place.specs.Place.{fraction_ok}
use Rattle.split_place.specs.Laws.{pcurve-row, edge-rows}
use Rattle.split_tests.proofs.edge_refusal.Goals as goal

pub returns-then-not-fraction_ok : goal.returns-then-not-fraction_ok
returns-then-not-fraction_ok c =
    let s = c in
    let f : fraction_ok s.args.fraction ≡ false = sym c.fraction_ok.ensures ∙ c.if-not-fraction_ok.true in
    rw (← edge-rows s.args.room.now s.args.words.now s.args.reals.now s.args.edge s.args.fraction, f)

pub bounds-words-6 : goal.bounds-words-6
bounds-words-6 c = let s = c in let n = counts-there s.args.room.now s.args.words.now s.args.reals.now s.requires.sized in omega arith

pub overflow_cast-words : goal.overflow_cast-words
overflow_cast-words c = omega (arith, c.type_inv.words 6)

pub returns-then-words-edge : goal.returns-then-words-edge
unfolding decode
returns-then-words-edge c =
    let s = c in
    let f : fraction_ok s.args.fraction ≡ true = sym c.fraction_ok.ensures ∙ c.if-not-fraction_ok.false in
    let e : ltb s.args.edge (word s.args.words.now 6) ≡ false = le-ltb _ _ c.if-words-edge.true in
    rw (← edge-rows s.args.room.now s.args.words.now s.args.reals.now s.args.edge s.args.fraction, f, e)

pub list-requires : goal.list-requires
list-requires c = let s = c in record { lists = lists_of s.args.room.now s.args.words.now s.args.reals.now s.requires; j_bound = (omega arith, c.if-words-edge.false) }

pub pcurves_refusal-pcurves-requires : goal.pcurves_refusal-pcurves-requires
pcurves_refusal-pcurves-requires c = let s = c in lists_of s.args.room.now s.args.words.now s.args.reals.now s.requires

pub bounds_refusal-requires : goal.bounds_refusal-requires
bounds_refusal-requires c = c.requires

pub returns : goal.returns
unfolding decode
returns c =
    let s = c in
    let f : fraction_ok s.args.fraction ≡ true = sym c.fraction_ok.ensures ∙ c.if-not-fraction_ok.false in
    let e : ltb s.args.edge (word s.args.words.now 6) ≡ true = lt-ltb _ _ c.if-words-edge.false in
    rw (← edge-rows s.args.room.now s.args.words.now s.args.reals.now s.args.edge s.args.fraction, f, e, ← pcurve-row s.args.room.now s.args.words.now s.args.reals.now s.args.edge s.args.fraction, c.then.ensures, c.bounds_refusal.ensures, c.pcurves_refusal-pcurves.ensures, c.list.ensures)
