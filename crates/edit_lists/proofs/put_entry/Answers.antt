-- `edit_lists::put_entry` meets its contract: a refusal writes nothing. Assumes nothing.
use Prim.Native.Nat.{ℕ}
use mathlib.Core.Path.{◌≡◌, sym, ap, ◌∙◌}
use mathlib.Core.List.{List}
use lib.ListN.{set}
use Rattle.memory_layout.specs.Entries.{entry_refusal}
use Rattle.memory_layout.specs.Laws.{lists_of, entry-standing}
use Rattle.memory_writes.specs.Kept.{refused-keeps}
use Rattle.edit_lists.specs.Place.{with_list}
use Rattle.edit_lists.specs.Answers.{list_start, list_words, put_entry_words}
use Rattle.edit_lists.specs.Laws.{start-held, start-list, start_small, start-entries}
use Rattle.edit_lists.proofs.put_entry.Goals as goal

pub returns-then-n-ne0 : goal.returns-then-n-ne0
unfolding put_entry_words
returns-then-n-ne0 c =
    let e = c.entry_refusal-n.ensures in
    record { answer = e; tables = rw (← e) (refused-keeps c.entry_refusal-n.result _ _ c.if-n-ne0.true) }

pub start-requires : goal.start-requires
start-requires c =
    let s = c in
    let room = s.args.room.now in
    let w = s.args.words.now in
    let x = s.args.reals.now in
    let j = s.args.j in
    let i = s.args.i in
    let z : entry_refusal room w x j i s.args.place ≡ 0 = sym c.entry_refusal-n.ensures ∙ c.if-n-ne0.false in
    let t = entry-standing room w x j i s.args.place z in
    let f = lists_of room w x t.fit in
    record { small = f.small; j_bound = (t.list, start_small room w j i f t.list t.record-there) }

pub put_at-requires : goal.put_at-requires
put_at-requires c =
    let s = c in
    let room = s.args.room.now in
    let w = s.args.words.now in
    let x = s.args.reals.now in
    let j = s.args.j in
    let i = s.args.i in
    let z : entry_refusal room w x j i s.args.place ≡ 0 = sym c.entry_refusal-n.ensures ∙ c.if-n-ne0.false in
    let t = entry-standing room w x j i s.args.place z in
    let f = lists_of room w x t.fit in
    let entries = start-entries room w j i f t.list t.record-there in
    let held = start-held room w j i f t.list t.record-there in
    rw c.start.ensures (held, rw (← entries) t.entry)

pub returns : goal.returns
unfolding put_entry_words list_words
returns c =
    let s = c in
    let room = s.args.room.now in
    let w = s.args.words.now in
    let x = s.args.reals.now in
    let j = s.args.j in
    let i = s.args.i in
    let z : entry_refusal room w x j i s.args.place ≡ 0 = sym c.entry_refusal-n.ensures ∙ c.if-n-ne0.false in
    let t = entry-standing room w x j i s.args.place z in
    let f = lists_of room w x t.fit in
    let e = c.start.ensures in record {
      answer = sym z;
      tables = rw z
          (c.put_at.ensures
          ∙ rw e (ap (λ (l : List ℕ). with_list (list_start room j i) (set l s.args.place s.args.id) w) (start-list room w j i f t.list t.record-there)));
    }
