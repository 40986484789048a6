-- `check_open_loop::open_between` meets its contract: by whether both fins can be read. Assumes nothing.
use mathlib.Core.Path.{sym, ◌∙◌}
use Rattle.memory_layout.specs.Decode.{decode}
use Rattle.memory_layout.specs.Laws.{lists_of}
use Rattle.check_open_loop.specs.Laws.{open_told, open-not, open-next-not}
use Rattle.check_open_loop.proofs.open_between.Goals as goal

pub readable_fin-requires : goal.readable_fin-requires
readable_fin-requires c = lists_of _ _ _ c.requires

pub returns-then-not-readable_fin : goal.returns-then-not-readable_fin
returns-then-not-readable_fin c = open-not (decode c.args.room.now c.args.words.now c.args.reals.now) c.args.i c.args.next (sym (c.readable_fin.ensures c.args.reals.now) ∙ c.if-not-readable_fin.true)

pub readable_fin-requires-2 : goal.readable_fin-requires-2
readable_fin-requires-2 c = lists_of _ _ _ c.requires

pub returns-then-not-readable_fin-2 : goal.returns-then-not-readable_fin-2
returns-then-not-readable_fin-2 c = open-next-not (decode c.args.room.now c.args.words.now c.args.reals.now) c.args.i c.args.next (sym (c.readable_fin.ensures c.args.reals.now) ∙ c.if-not-readable_fin.false) (sym (c.readable_fin-2.ensures c.args.reals.now) ∙ c.if-not-readable_fin-2.true)

pub fin_ends-this-requires : goal.fin_ends-this-requires
fin_ends-this-requires c = record { fit = c.requires; i_value = (sym (c.readable_fin.ensures c.args.reals.now) ∙ c.if-not-readable_fin.false) }

pub fin_ends-that-requires : goal.fin_ends-that-requires
fin_ends-that-requires c = record { fit = c.requires; i_value = (sym (c.readable_fin-2.ensures c.args.reals.now) ∙ c.if-not-readable_fin-2.false) }

pub returns : goal.returns
returns c = open_told (decode c.args.room.now c.args.words.now c.args.reals.now) c.args.i c.args.next _ _ _ (sym (c.readable_fin.ensures c.args.reals.now) ∙ c.if-not-readable_fin.false) (sym (c.readable_fin-2.ensures c.args.reals.now) ∙ c.if-not-readable_fin-2.false) c.fin_ends-this.ensures c.fin_ends-that.ensures c.same_ref.ensures
