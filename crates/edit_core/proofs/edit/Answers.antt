-- `edit_core::edit` meets its contract: a refusal writes nothing. Assumes nothing.
use mathlib.Core.Path.{◌≡◌, sym, ◌∙◌}
use native.Mathlib.Nat.{lt_of_lt_of_le}
use Rattle.memory_writes.specs.Kept.{refused-keeps}
use Rattle.edit_core.specs.Answers.{edit_number, edit_words, edit_reals}
use Rattle.edit_core.specs.Laws.{edit-open}
use borrow.Author.Rules.{rules}
use Rattle.edit_core.proofs.edit.Goals as goal

pub returns-then-n-ne0 : goal.returns-then-n-ne0
unfolding edit_words edit_reals
returns-then-n-ne0 c =
    let e = c.edit_refusal-n.ensures in
    let n = c.edit_refusal-n.result in
    record { answer = e; tables = rw (← e) (refused-keeps n _ _ c.if-n-ne0.true); floats = rw (← e) (refused-keeps n _ _ c.if-n-ne0.true) }

pub put_words-requires : goal.put_words-requires
put_words-requires c =
    let s = c in
    let room = s.args.room.now in
    let w = s.args.words.now in
    let x = s.args.reals.now in
    let z : edit_number room w x s.args.ok s.args.k s.args.i ≡ 0 = sym c.edit_refusal-n.ensures ∙ c.if-n-ne0.false in
    let got = edit-open room w x s.args.ok s.args.k s.args.i z in
    let slot = lt_of_lt_of_le got.1 (got.0.sized.counts s.args.k s.requires.table) in
    record { small = got.0.sized.small; inside = record { enough = got.0.sized.words; table = s.requires.table; slot = slot }; a_bound = s.requires.words }

pub put_reals-requires : goal.put_reals-requires
put_reals-requires c =
    let s = c in
    let room = s.args.room.now in
    let w = s.args.words.now in
    let x = s.args.reals.now in
    let z : edit_number room w x s.args.ok s.args.k s.args.i ≡ 0 = sym c.edit_refusal-n.ensures ∙ c.if-n-ne0.false in
    let got = edit-open room w x s.args.ok s.args.k s.args.i z in
    let slot = lt_of_lt_of_le got.1 (got.0.sized.counts s.args.k s.requires.table) in
    record { small = got.0.sized.small; inside = record { enough = got.0.sized.reals; table = s.requires.table; slot = slot }; a_len = s.requires.reals }

pub returns : goal.returns
unfolding edit_words edit_reals
returns c =
    let s = c in
    let room = s.args.room.now in
    let w = s.args.words.now in
    let x = s.args.reals.now in
    let z : edit_number room w x s.args.ok s.args.k s.args.i ≡ 0 = sym c.edit_refusal-n.ensures ∙ c.if-n-ne0.false in
    record { answer = sym z; tables = rw z c.put_words.ensures; floats = rw z c.put_reals.ensures }
