-- `image_records::put_head` meets its contract. Assumes nothing.
use Prim.Native.Nat.{ℕ}
use native.Mathlib.Omega.{arith}
use mathlib.Core.Path.{◌≡◌, sym, ap, ◌∙◌}
use mathlib.Core.List.{List}
use lib.ListN.{length, take}
use Rattle.memory_writes.specs.Put.{over}
use Rattle.image_format.specs.Bytes.{words}
use Rattle.image_laws.specs.Numbers.{length-words}
use Rattle.image_records.specs.Kept.{three_ids, head_of}
use Rattle.image_records.specs.Laws.{seven-there, head-length, head_three, head_plain}
use Rattle.image_records.proofs.put_head.Goals as goal

pub overflow_mul-end : goal.overflow_mul-end
overflow_mul-end c =
    let s = c in
    let k = s.args.k in
    let w = s.args.w.now in
    let l = length-words (head_of k w) in
    let h = head-length k w s.requires.listed in
    let n = c.word_count-n.ensures in
    omega (arith, s.requires.w_in_bounds)

pub overflow_add-end : goal.overflow_add-end
overflow_add-end c =
    let s = c in
    let k = s.args.k in
    let w = s.args.w.now in
    let l = length-words (head_of k w) in
    let h = head-length k w s.requires.listed in
    let n = c.word_count-n.ensures in
    omega (arith, s.requires.w_in_bounds)

pub three_ids-head-requires : goal.three_ids-head-requires
three_ids-head-requires c =
    let s = c in
    let k = s.args.k in
    let w = s.args.w.now in
    let l = length-words (head_of k w) in
    let h = head-length k w s.requires.listed in
    let t = (seven-there k s.requires.listed.table c.if-k.true).1 in
    let e = s.requires.listed.words in
    omega arith

pub slice_bounds-put_words-end : goal.slice_bounds-put_words-end
unfolding three_ids
slice_bounds-put_words-end c = ap length (sym c.three_ids-head.ensures)

pub put_words-requires : goal.put_words-requires
put_words-requires c =
    let s = c in
    let k = s.args.k in
    let w = s.args.w.now in
    let l = length-words (head_of k w) in
    let h = head-length k w s.requires.listed in
    let f = ap length (head_three k w c.if-k.true ∙ sym c.three_ids-head.ensures) in
    omega (arith, s.requires.w_in_bounds)

pub returns-then-k : goal.returns-then-k
returns-then-k c =
    let s = c in
    let k = s.args.k in
    let w = s.args.w.now in
    let l = length-words (head_of k w) in
    let h = head-length k w s.requires.listed in
    let e : c.three_ids-head.result ≡ head_of k w = c.three_ids-head.ensures ∙ sym (head_three k w c.if-k.true) in
    let n = c.word_count-n.ensures in
    record { end = omega arith; written = c.put_words.ensures ∙ ap (λ (l : List ℕ). over s.args.at (words l) s.args.bytes.now) e }

pub slice_bounds-put_words-end-2 : goal.slice_bounds-put_words-end-2
slice_bounds-put_words-end-2 c =
    let s = c in
    let k = s.args.k in
    let w = s.args.w.now in
    let l = length-words (head_of k w) in
    let h = head-length k w s.requires.listed in
    let n = c.word_count-n.ensures in
    let f = ap length (ap (λ (m : ℕ). take m w) n ∙ sym (head_plain k w c.if-k.false)) in
    omega arith

pub put_words-requires-2 : goal.put_words-requires-2
put_words-requires-2 c =
    let s = c in
    let k = s.args.k in
    let w = s.args.w.now in
    let l = length-words (head_of k w) in
    let h = head-length k w s.requires.listed in
    let n = c.word_count-n.ensures in
    let f = ap length (ap (λ (m : ℕ). take m w) n ∙ sym (head_plain k w c.if-k.false)) in
    omega (arith, s.requires.w_in_bounds)

pub returns : goal.returns
returns c =
    let s = c in
    let k = s.args.k in
    let w = s.args.w.now in
    let l = length-words (head_of k w) in
    let h = head-length k w s.requires.listed in
    let n = c.word_count-n.ensures in
    let e : take c.word_count-n.result w ≡ head_of k w = ap (λ (m : ℕ). take m w) n ∙ sym (head_plain k w c.if-k.false) in
    record { end = omega arith; written = c.put_words-2.ensures ∙ ap (λ (l : List ℕ). over s.args.at (words l) s.args.bytes.now) e }
