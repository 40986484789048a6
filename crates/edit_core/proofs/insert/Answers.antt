-- `edit_core::insert` meets its contract: a refusal writes nothing. Assumes nothing.
use native.Mathlib.Omega.{arith}
use Prim.Native.Nat.{◌+◌, ◌≤◌}
use mathlib.Core.Path.{◌≡◌, refl, sym, ap, ◌∙◌}
use lib.ListN.{length, set}
use Rattle.meaning_list_laws.specs.Tests.{refused-answer}
use Rattle.memory_layout.specs.Layout.{word_strides, word, words_needed, reals_needed}
use Rattle.memory_layout.specs.Fit.{Inside}
use Rattle.memory_layout.specs.Laws.{capacity-le, before-tables}
use Rattle.memory_writes.specs.Put.{put_words, new_words, counted}
use Rattle.memory_writes.specs.Frame.{counts-kept, new-length}
use Rattle.memory_writes.specs.Kept.{refused-keeps}
use Rattle.edit_core.specs.declared.Inserted.TheVariants.{At, Refused}
use Rattle.edit_core.specs.Answers.{insert_number, insert_answer, insert_words, insert_reals}
use Rattle.edit_core.specs.Laws.{insert-open}
use borrow.Author.Rules.{rules}
use Rattle.edit_core.proofs.insert.Goals as goal

pub returns-then-n-ne0 : goal.returns-then-n-ne0
unfolding insert_answer insert_words insert_reals
returns-then-n-ne0 c =
    let e = c.insert_refusal-n.ensures in
    let n = c.insert_refusal-n.result in record { answer = rw (← e) (refused-answer At Refused n _ c.if-n-ne0.true); tables = rw (← e) (refused-keeps n _ _ c.if-n-ne0.true); floats = rw (← e) (refused-keeps n _ _ c.if-n-ne0.true) }

pub bounds-words-k : goal.bounds-words-k
bounds-words-k c =
    let s = c in
    let room = s.args.room.now in
    let w = s.args.words.now in
    let x = s.args.reals.now in
    let z : insert_number room w x s.args.ok s.args.k ≡ 0 = sym c.insert_refusal-n.ensures ∙ c.if-n-ne0.false in
    let got = insert-open room w x s.args.ok s.args.k z in
    let l = got.0.sized.words in
    let b = before-tables 11 word_strides room 10 in
    omega (arith, s.requires.table)

pub put_new-requires : goal.put_new-requires
put_new-requires c =
    let s = c in
    let room = s.args.room.now in
    let w = s.args.words.now in
    let x = s.args.reals.now in
    let z : insert_number room w x s.args.ok s.args.k ≡ 0 = sym c.insert_refusal-n.ensures ∙ c.if-n-ne0.false in
    let got = insert-open room w x s.args.ok s.args.k z in
    let f = s.requires.words in
    record { small = got.0.sized.small; inside = record { enough = got.0.sized.words; table = s.requires.table; slot = got.1 }; a_len_bound = omega arith }

pub put_reals-requires : goal.put_reals-requires
put_reals-requires c =
    let s = c in
    let room = s.args.room.now in
    let w = s.args.words.now in
    let x = s.args.reals.now in
    let z : insert_number room w x s.args.ok s.args.k ≡ 0 = sym c.insert_refusal-n.ensures ∙ c.if-n-ne0.false in
    let got = insert-open room w x s.args.ok s.args.k z in
    record { small = got.0.sized.small; inside = record { enough = got.0.sized.reals; table = s.requires.table; slot = got.1 }; a_len = s.requires.reals }

pub overflow_add-words : goal.overflow_add-words
overflow_add-words c =
    let s = c in
    let room = s.args.room.now in
    let w = s.args.words.now in
    let x = s.args.reals.now in
    let z : insert_number room w x s.args.ok s.args.k ≡ 0 = sym c.insert_refusal-n.ensures ∙ c.if-n-ne0.false in
    let got = insert-open room w x s.args.ok s.args.k z in
    let h = got.1 in
    let g = capacity-le room got.0.sized.small s.args.k s.requires.table in
    record { fits = omega arith }

pub bounds-words-k-2 : goal.bounds-words-k-2
bounds-words-k-2 c =
    let s = c in
    let room = s.args.room.now in
    let w = s.args.words.now in
    let x = s.args.reals.now in
    let z : insert_number room w x s.args.ok s.args.k ≡ 0 = sym c.insert_refusal-n.ensures ∙ c.if-n-ne0.false in
    let got = insert-open room w x s.args.ok s.args.k z in
    let l = got.0.sized.words in
    let b = before-tables 11 word_strides room 10 in
    omega (arith, s.requires.table)

pub returns : goal.returns
unfolding insert_answer insert_words insert_reals counted
returns c =
    let s = c in
    let room = s.args.room.now in
    let w = s.args.words.now in
    let x = s.args.reals.now in
    let k = s.args.k in
    let z : insert_number room w x s.args.ok s.args.k ≡ 0 = sym c.insert_refusal-n.ensures ∙ c.if-n-ne0.false in
    let got = insert-open room w x s.args.ok s.args.k z in
    let i = word w k in
    let f = s.args.fields.now in
    let a : Inside (words_needed room) (length w) room k i = record { enough = got.0.sized.words; table = s.requires.table; slot = got.1 } in
    let b : Inside (reals_needed room) (length x) room k i = record { enough = got.0.sized.reals; table = s.requires.table; slot = got.1 } in
    let n : length f ≤ word word_strides k = omega (arith, s.requires.words) in
    let kept = counts-kept room w (new_words k f) x s.args.floats.now k i a b (new-length k f n) s.requires.reals k s.requires.table in record { answer = rw z refl; tables = rw z (ap (λ l. set l k (i + 1)) c.put_new.ensures ∙ ap (λ m. set (put_words room k i (new_words k f) w) k (m + 1)) (sym kept)); floats = rw z c.put_reals.ensures }
