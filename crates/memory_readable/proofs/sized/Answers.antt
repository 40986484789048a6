-- `memory_readable::sized` meets its contract: each way out is the first test that fails. Assumes nothing.
use mathlib.Core.Path.{sym, ◌∙◌}
use native.Mathlib.Omega.{arith}
use Rattle.meaning_list_laws.specs.Tests.{shut, opened}
use Rattle.memory_layout.specs.Layout.{word_strides}
use Rattle.memory_layout.specs.Readable.{lent_ok, counts_ok, sized_ok}
use Rattle.memory_layout.specs.Laws.{lent_of, before-tables}
use Rattle.memory_readable.proofs.sized.Goals as goal

pub returns-then-not-lent_ok : goal.returns-then-not-lent_ok
unfolding sized_ok
returns-then-not-lent_ok c =
    let s = c in
    let a = sym c.lent_ok.ensures ∙ c.if-not-lent_ok.true in
    shut (lent_ok s.args.room.now s.args.words.now s.args.reals.now) (counts_ok s.args.room.now s.args.words.now) a

pub counts_ok-requires : goal.counts_ok-requires
counts_ok-requires c =
    let s = c in
    let r = s.args.room.now in
    let a = sym c.lent_ok.ensures ∙ c.if-not-lent_ok.false in
    let b = (lent_of r s.args.words.now s.args.reals.now a).words in
    let f = before-tables 11 word_strides r 10 in
    omega arith

pub returns : goal.returns
unfolding sized_ok
returns c =
    let s = c in
    let a = sym c.lent_ok.ensures ∙ c.if-not-lent_ok.false in
    opened (lent_ok s.args.room.now s.args.words.now s.args.reals.now) (counts_ok s.args.room.now s.args.words.now) _ a
    c.counts_ok.ensures
