-- `split_tests::split_refusal` meets its contract. Assumes nothing.
use borrow.Author.Rules.{rules}
use mathlib.Core.Path.{◌≡◌, sym, ◌∙◌}
use mathlib.Core.Bool.{true, false}
use borrow.Author.Tests.{not-true, not-false, lt-leb, le-leb}
use lib.Dec.{leb}
use Rattle.meaning.specs.Offices.{office_split_refusal}
use Rattle.memory_layout.specs.Readable.{readable}
use Rattle.memory_layout.specs.Laws.{fit_of, lists_of}
use Rattle.split_place.specs.SplitNumber.{office_split_number}
use Rattle.split_tests.proofs.split_refusal.Goals as goal

pub returns-then-not-readable : goal.returns-then-not-readable
unfolding office_split_number
returns-then-not-readable c =
    let s = c in
    let e : readable s.args.room.now s.args.words.now s.args.reals.now ≡ false = sym c.readable.ensures ∙ c.if-not-readable.true in
    rw e

pub returns-then-office-gt1 : goal.returns-then-office-gt1
unfolding office_split_number office_split_refusal
returns-then-office-gt1 c =
    let s = c in
    let e : readable s.args.room.now s.args.words.now s.args.reals.now ≡ true = sym c.readable.ensures ∙ c.if-not-readable.false in
    let f : leb s.args.office 1 ≡ false = lt-leb s.args.office 1 c.if-office-gt1.true in
    rw (e, f)

pub edge_for-own-requires : goal.edge_for-own-requires
edge_for-own-requires c =
    let s = c in
    lists_of s.args.room.now s.args.words.now s.args.reals.now (fit_of s.args.room.now s.args.words.now s.args.reals.now (sym c.readable.ensures ∙ c.if-not-readable.false))

pub tests_refusal-requires : goal.tests_refusal-requires
tests_refusal-requires c =
    let s = c in
    fit_of s.args.room.now s.args.words.now s.args.reals.now (sym c.readable.ensures ∙ c.if-not-readable.false)

pub returns : goal.returns
unfolding office_split_number office_split_refusal
returns c =
    let s = c in
    let e : readable s.args.room.now s.args.words.now s.args.reals.now ≡ true = sym c.readable.ensures ∙ c.if-not-readable.false in
    let f : leb s.args.office 1 ≡ true = le-leb s.args.office 1 c.if-office-gt1.false in
    rw (e, f, ← c.edge_for-own.ensures s.args.reals.now) c.tests_refusal.ensures
