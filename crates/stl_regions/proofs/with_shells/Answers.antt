-- `stl_regions::with_shells` meets its contract: a turn of the loop is one shell more. Assumes nothing.
use Rattle.std.specs.Prelude.{List, [], get_or, take}
use Rattle.std.proofs.Common.{arith, ap, subst, take_all}
use Rattle.meaning.specs.Lists.{joined}
use Rattle.meaning.specs.Inquire.{Side, sides_of}
use Rattle.meaning_list_laws.specs.Lists.{below-nth}
use Rattle.walk_marks.specs.Laws.{all-nth}
use Rattle.memory_layout.specs.Layout.{word}
use Rattle.memory_layout.specs.Decode.{decode}
use Rattle.inquire_regions.specs.Regions.{faces_whole}
use Rattle.inquire_regions.specs.Laws.{shells-turn}
use Rattle.stl_fan.specs.Pens.{Drawn}
use Rattle.stl_fan.specs.Laws.{drawn-none, drawn-more}
use Rattle.stl_regions.specs.Laws.{shell-none}
use Rattle.stl_regions.proofs.with_shells.Goals as goal

pub loop-shell-init : goal.loop-shell-init
unfolding joined
loop-shell-init c =
    let s = c in
    (omega arith, drawn-none (decode s.args.room.now s.args.words.now s.args.reals.now) s.args.before s.args.bytes.now)

pub with_shell-t-requires : goal.with_shell-t-requires
with_shell-t-requires c =
    let s = c in
    let k = c.loop-shell.shell-index in
    let few = c.loop-shell.invariant.0 in
    let start = s.requires.shells_len_bound in
    record { fit = s.requires.fit; shell_bound = below-nth (word s.args.words.now 2) s.args.shells.now k s.requires.shells_value (omega arith); shell_value = all-nth (faces_whole s.args.room.now s.args.words.now) s.args.shells.now k s.requires.shells_value_2 (omega arith); shell_value_2 = shell-none (decode s.args.room.now s.args.words.now s.args.reals.now) s.args.shells.now k (omega arith) s.requires.shells_value_3; count_bound = omega (arith, start.0, start.1) }

pub loop-shell-preserved : goal.loop-shell-preserved
loop-shell-preserved c =
    let s = c in
    let turn = c.loop-shell in
    let few = turn.invariant.0 in
    let more = c.with_shell-t.ensures.few in (
      omega arith,
      subst (λ (l : List Side). Drawn (decode s.args.room.now s.args.words.now s.args.reals.now) l s.args.before c.with_shell-t.result s.args.bytes.now c.with_shell-t.new.bytes) (shells-turn (decode s.args.room.now s.args.words.now s.args.reals.now) [] s.args.shells.now turn.shell-index (omega arith))
          (drawn-more (decode s.args.room.now s.args.words.now s.args.reals.now) (joined (sides_of (decode s.args.room.now s.args.words.now s.args.reals.now)) (take turn.shell-index s.args.shells.now)) (sides_of (decode s.args.room.now s.args.words.now s.args.reals.now) (get_or s.args.shells.now turn.shell-index 0)) turn.invariant.1 c.with_shell-t.ensures.drawn),
    )

pub returns : goal.returns
returns c =
    let s = c in
    let turn = c.loop-shell in
    let few = turn.invariant.0 in
    let start = s.requires.shells_len_bound.0 in record { drawn = subst (λ (l : List Side). Drawn (decode s.args.room.now s.args.words.now s.args.reals.now) l s.args.before turn.t s.args.bytes.now turn.bytes) (ap (joined (sides_of (decode s.args.room.now s.args.words.now s.args.reals.now))) (take_all turn.shell-index s.args.shells.now (omega arith))) turn.invariant.1; few = omega arith }
