-- `image_loading::lay_words` meets its contract: the record lies within the memory. Assumes nothing.
use Prim.Native.Nat.{ℕ, ◌+◌, ◌-◌}
use native.Mathlib.Omega.{arith}
use mathlib.Core.Path.{◌≡◌, sym, ap, ap₂, ◌∙◌}
use mathlib.Core.List.{List}
use lib.ListN.{length, take, drop}
use Rattle.memory_layout.specs.Layout.{word_strides, word, word_at, words_of}
use Rattle.memory_layout.specs.Laws.{capacity-le, record-inside}
use Rattle.memory_layout.proofs.Laws.{words-length}
use Rattle.memory_writes.specs.Put.{over, put_words}
use Rattle.memory_writes.specs.Over.{taken_back}
use Rattle.image_format.specs.Fields.{fields_in}
use Rattle.image_loading.specs.Laid.{record_laid}
use Rattle.image_loading.proofs.lay_words.Goals as goal

pub word_at-from-requires : goal.word_at-from-requires
word_at-from-requires c =
    let s = c in
    let g = capacity-le s.args.room.now s.requires.small s.args.k s.requires.inside.table in
    record { small = s.requires.small; k_bound = (s.requires.inside.table, omega (arith, s.requires.inside.slot)) }

pub overflow_add-end : goal.overflow_add-end
overflow_add-end c =
    let s = c in
    let n = record-inside 11 word_strides s.args.room.now s.args.k s.args.i s.requires.inside.table s.requires.inside.slot in
    let e = c.word_at-from.ensures in
    let f = c.word_stride.ensures in
    record { fits = omega (arith, s.requires.inside.enough) }

pub offset_bounds-words-from : goal.offset_bounds-words-from
offset_bounds-words-from c =
    let s = c in
    let n = record-inside 11 word_strides s.args.room.now s.args.k s.args.i s.requires.inside.table s.requires.inside.slot in
    let e = c.word_at-from.ensures in
    let f = c.word_stride.ensures in
    record { fits = omega (arith, s.requires.inside.enough) }

pub slice_bounds-load_words-end : goal.slice_bounds-load_words-end
slice_bounds-load_words-end c =
    let s = c in
    let n = record-inside 11 word_strides s.args.room.now s.args.k s.args.i s.requires.inside.table s.requires.inside.slot in
    let e = c.word_at-from.ensures in
    let f = c.word_stride.ensures in
    omega (arith, s.requires.inside.enough)

pub load_words-requires : goal.load_words-requires
unfolding words_of
load_words-requires c =
    let s = c in
    let at = c.word_at-from.result in
    let n = c.word_stride.result in
    let e : at + n - at ≡ n = omega arith in
    record { lies = s.requires.lies; at_in_bounds = s.requires.at_in_bounds; w_len = rw (e, c.word_at-from.ensures, c.word_stride.ensures) (words-length s.args.room.now s.args.words.now s.args.k s.args.i s.requires.inside) }

pub returns : goal.returns
unfolding words_of put_words
returns c =
    let s = c in
    let room = s.args.room.now in
    let x : List ℕ = s.args.words.now in
    let k = s.args.k in
    let i = s.args.i in
    let at = c.word_at-from.result in
    let n = c.word_stride.result in
    let from : at ≡ word_at room k i = c.word_at-from.ensures in
    let many : at + n - at ≡ word word_strides k = let e = c.word_stride.ensures in omega arith in
    let here : take (at + n - at) (drop at x) ≡ words_of room x k i = ap₂ (λ (m q : ℕ). take m (drop q x)) many from in
    let loaded = c.load_words in
    let long : length loaded.new.w ≡ at + n - at = loaded.auto.w ∙ ap length here ∙ words-length room x k i s.requires.inside ∙ sym many in record {
      words_after = taken_back at (at + n - at) loaded.new.w x long
          ∙ ap₂ (λ (q : ℕ) (a : List ℕ). over q a x) from
          (loaded.ensures.w_after ∙ ap (record_laid k (fields_in k (drop s.args.at s.args.bytes.now))) here);
      value = loaded.ensures.value;
    }
