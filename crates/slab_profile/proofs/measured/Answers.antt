-- `slab_profile::measured` meets its contract. Assumes nothing.
use Rattle.memory_layout.specs.Decode.{decode}
use Rattle.slab_profile.specs.Laws.{told-broken, verdict-accepts, told-short, told-area}
use borrow.Author.Rules.{rules}
use Rattle.slab_profile.proofs.measured.Goals as goal

pub returns-then-rule-ne0 : goal.returns-then-rule-ne0
returns-then-rule-ne0 c = let s = c in told-broken (decode s.args.room.now s.args.words.now s.args.reals.now) s.args.body s.args.v s.requires.v_value s.args.areas.now c.if-rule-ne0.true

pub returns-then-areas-list : goal.returns-then-areas-list
returns-then-areas-list c = let s = c in told-short (decode s.args.room.now s.args.words.now s.args.reals.now) s.args.body s.args.v s.requires.v_value s.args.areas.now _ s.requires.list_value c.if-rule-ne0.false c.if-areas-list.true

pub write_areas-requires : goal.write_areas-requires
write_areas-requires c = let s = c in record { fit = s.requires.fit; faces_value = s.requires.list_value_2 (verdict-accepts (decode s.args.room.now s.args.words.now s.args.reals.now) s.args.body s.args.v s.requires.v_value s.args.areas.now c.if-rule-ne0.false); faces_len_bound = (s.requires.list_len_bound, c.if-areas-list.false) }

pub returns : goal.returns
returns c = let s = c in told-area (decode s.args.room.now s.args.words.now s.args.reals.now) s.args.body s.args.v s.requires.v_value s.args.areas.now _ s.requires.list_value c.if-rule-ne0.false _ _ c.if-areas-list.false c.write_areas.ensures.value c.write_areas.ensures.areas_after
