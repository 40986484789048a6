-- `edit_lists::append_entry` meets its contract: a refusal writes nothing. Assumes nothing.
use Prim.Native.Nat.{ℕ}
use mathlib.Core.Path.{◌≡◌, sym, ap, ◌∙◌}
use mathlib.Core.List.{List}
use Rattle.meaning.specs.Edits.{appended}
use Rattle.memory_layout.specs.Laws.{lists_of}
use Rattle.memory_writes.specs.Kept.{refused-keeps}
use Rattle.edit_lists.specs.Place.{with_list}
use Rattle.edit_lists.specs.Answers.{list_start, list_words, append_number, append_entry_words}
use Rattle.edit_lists.specs.Laws.{start-held, start-list, start_small, start-entries, start-room, append-open}
use Rattle.edit_lists.proofs.append_entry.Goals as goal

pub returns-then-n-ne0 : goal.returns-then-n-ne0
unfolding append_entry_words
returns-then-n-ne0 c =
    let e = c.append_refusal-n.ensures in
    record { answer = e; tables = rw (← e) (refused-keeps c.append_refusal-n.result _ _ c.if-n-ne0.true) }

pub start-requires : goal.start-requires
start-requires c =
    let s = c in
    let room = s.args.room.now in
    let w = s.args.words.now in
    let x = s.args.reals.now in
    let j = s.args.j in
    let i = s.args.i in
    let z : append_number room w x j i ≡ 0 = sym c.append_refusal-n.ensures ∙ c.if-n-ne0.false in
    let t = append-open room w x j i z in
    let f = lists_of room w x t.fit in
    record { small = f.small; j_bound = (t.list, start_small room w j i f t.list t.record-there) }

pub append_at-requires : goal.append_at-requires
append_at-requires c =
    let s = c in
    let room = s.args.room.now in
    let w = s.args.words.now in
    let x = s.args.reals.now in
    let j = s.args.j in
    let i = s.args.i in
    let z : append_number room w x j i ≡ 0 = sym c.append_refusal-n.ensures ∙ c.if-n-ne0.false in
    let t = append-open room w x j i z in
    let f = lists_of room w x t.fit in
    let entries = start-entries room w j i f t.list t.record-there in
    let held = start-held room w j i f t.list t.record-there in
    let more = start-room room w j i f t.list t.record-there (rw (← entries) t.room-there) in
    rw c.start.ensures (held, more.0, more.1)

pub returns : goal.returns
unfolding append_entry_words list_words
returns c =
    let s = c in
    let room = s.args.room.now in
    let w = s.args.words.now in
    let x = s.args.reals.now in
    let j = s.args.j in
    let i = s.args.i in
    let z : append_number room w x j i ≡ 0 = sym c.append_refusal-n.ensures ∙ c.if-n-ne0.false in
    let t = append-open room w x j i z in
    let f = lists_of room w x t.fit in
    let e = c.start.ensures in record {
      answer = sym z;
      tables = rw z
          (c.append_at.ensures
          ∙ rw e (ap (λ (l : List ℕ). with_list (list_start room j i) (appended l s.args.id) w) (start-list room w j i f t.list t.record-there)));
    }
