-- `memory_record_test::upper_ok` meets its contract, table by table. Assumes nothing.
use mathlib.Core.Path.{◌≡◌, ap, ◌∙◌}
use native.Mathlib.Omega.{arith}
use Rattle.memory_layout.specs.Layout.{word_strides, word}
use Rattle.memory_layout.specs.Readable.{record_ok}
use Rattle.memory_record_test.proofs.upper_ok.Goals as goal

pub body_ok-requires : goal.body_ok-requires
body_ok-requires c = c.requires.1 ∙ ap (word word_strides) c.in-0.is

pub region_ok-requires : goal.region_ok-requires
region_ok-requires c = c.requires.1 ∙ ap (word word_strides) c.in-1.is

pub shell_ok-requires : goal.shell_ok-requires
shell_ok-requires c = c.requires.1 ∙ ap (word word_strides) c.in-2.is

pub face_ok-requires : goal.face_ok-requires
face_ok-requires c = c.requires.1 ∙ ap (word word_strides) c.in-3.is

pub loop_ok-requires : goal.loop_ok-requires
loop_ok-requires c = let e : c.args.k ≡ 4 = omega arith in c.requires.1 ∙ ap (word word_strides) e

pub returns-in-0 : goal.returns-in-0
unfolding record_ok
returns-in-0 c = rw c.in-0.is c.body_ok.ensures

pub returns-in-1 : goal.returns-in-1
unfolding record_ok
returns-in-1 c = rw c.in-1.is c.region_ok.ensures

pub returns-in-2 : goal.returns-in-2
unfolding record_ok
returns-in-2 c = rw c.in-2.is c.shell_ok.ensures

pub returns-in-3 : goal.returns-in-3
unfolding record_ok
returns-in-3 c = rw c.in-3.is c.face_ok.ensures

pub returns-in_default : goal.returns-in_default
unfolding record_ok
returns-in_default c = let e : c.args.k ≡ 4 = omega arith in rw e c.loop_ok.ensures
