-- `memory_record_test::record_ok` meets its contract, table by table. Assumes nothing.
use mathlib.Core.Path.{◌≡◌, ap, ◌∙◌}
use native.Mathlib.Omega.{arith}
use Rattle.memory_layout.specs.Layout.{word_strides, real_strides, word}
use Rattle.memory_layout.specs.Readable.{record_ok}
use Rattle.memory_layout.specs.Laws.{upper-words}
use Rattle.memory_record_test.proofs.record_ok.Goals as goal

pub upper_ok-requires : goal.upper_ok-requires
upper_ok-requires c = (c.if-k-lt5.true, c.requires.words)

pub returns-then-k-lt5 : goal.returns-then-k-lt5
returns-then-k-lt5 c =
    let s = c in
    c.upper_ok.ensures ∙ upper-words s.args.k s.args.w.now s.args.x.now c.if-k-lt5.true

pub fin_ok-requires : goal.fin_ok-requires
fin_ok-requires c = let s = c in s.requires.words ∙ ap (word word_strides) c.in-5.is

pub edge_ok-requires : goal.edge_ok-requires
edge_ok-requires c =
    let s = c in
    (s.requires.words ∙ ap (word word_strides) c.in-6.is, s.requires.reals ∙ ap (word real_strides) c.in-6.is)

pub vertex_ok-requires : goal.vertex_ok-requires
vertex_ok-requires c =
    let s = c in
    (s.requires.words ∙ ap (word word_strides) c.in-7.is, s.requires.reals ∙ ap (word real_strides) c.in-7.is)

pub carrier_ok-requires : goal.carrier_ok-requires
carrier_ok-requires c = let s = c in s.requires.words ∙ ap (word word_strides) c.in-8.is

pub carrier_ok-requires-in_default : goal.carrier_ok-requires-in_default
carrier_ok-requires-in_default c =
    let s = c in
    let e : s.args.k ≡ 9 = omega (arith, s.requires.table) in
    s.requires.words ∙ ap (word word_strides) e

pub returns-in-5 : goal.returns-in-5
unfolding record_ok
returns-in-5 c = rw c.in-5.is c.fin_ok.ensures

pub returns-in-6 : goal.returns-in-6
unfolding record_ok
returns-in-6 c = rw c.in-6.is c.edge_ok.ensures

pub returns-in-7 : goal.returns-in-7
unfolding record_ok
returns-in-7 c = rw c.in-7.is c.vertex_ok.ensures

pub returns-in-8 : goal.returns-in-8
unfolding record_ok
returns-in-8 c = rw c.in-8.is c.carrier_ok.ensures

pub returns-in_default : goal.returns-in_default
unfolding record_ok
returns-in_default c =
    let s = c in
    let e : s.args.k ≡ 9 = omega (arith, s.requires.table) in
    rw e c.carrier_ok-in_default.ensures
