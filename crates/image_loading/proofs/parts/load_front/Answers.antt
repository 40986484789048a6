-- `image_loading::parts::load_front` meets its contract: a body's numbers, and those of all other records. Assumes nothing.
use Prim.Native.Nat.{ℕ, ◌+◌}
use native.Mathlib.Omega.{arith}
use mathlib.Core.Path.{◌≡◌, sym, ap, ◌∙◌}
use mathlib.Core.List.{List}
use lib.ListN.{get_or, drop, length-drop}
use lib.Seq.{length-take-le}
use Rattle.memory_layout.specs.Names.{BODIES}
use Rattle.memory_layout.specs.Layout.{word_strides, word}
use Rattle.memory_writes.specs.Put.{over}
use Rattle.memory_writes.specs.Over.{taken_back}
use Rattle.image_format.specs.Bytes.{words_in}
use Rattle.image_format.specs.Fields.{word_counts, fields_in}
use Rattle.image_laws.specs.Sizes.{numbers_fit}
use Rattle.image_record_test.specs.Parts.{fixed_size}
use Rattle.image_loading.specs.Laid.{front_of}
use Rattle.image_loading.specs.Laws.{ten_counts, its-count, fixed-there, plain-front}
use Rattle.image_loading.proofs.parts.load_front.Goals as goal

pub load_body-requires : goal.load_body-requires
load_body-requires c =
    let s = c in
    let e : s.args.k ≡ BODIES = c.if-k-eq-BODIES.true in
    let size = ap (λ (n : ℕ). fixed_size n) e in
    let fixed = fixed-there s.args.k _ s.requires.lies in
    let left = length-drop s.args.at s.args.bytes.now in
    record { at_in_bounds = omega arith; w_len = s.requires.w_len ∙ ap (word word_strides) e }

pub returns-then-k-eq-BODIES : goal.returns-then-k-eq-BODIES
returns-then-k-eq-BODIES c =
    let s = c in
    let e : s.args.k ≡ BODIES = c.if-k-eq-BODIES.true in
    c.load_body.ensures ∙ ap (λ (n : ℕ). over 0 (front_of n (fields_in n (drop s.args.at s.args.bytes.now))) s.args.w.now) (sym e)

pub slice_bounds-get_words-end : goal.slice_bounds-get_words-end
slice_bounds-get_words-end c =
    let s = c in
    let count = its-count s.args.k s.requires.lies.table in
    let fits = numbers_fit s.args.k s.requires.lies.table in
    omega arith

pub slice_bounds-get_words-end-2 : goal.slice_bounds-get_words-end-2
slice_bounds-get_words-end-2 c =
    let s = c in
    let count = its-count s.args.k s.requires.lies.table in
    let fits = numbers_fit s.args.k s.requires.lies.table in
    sym (length-take-le (get_or ten_counts s.args.k 0) s.args.w.now (omega arith))

pub get_words-requires : goal.get_words-requires
get_words-requires c =
    let s = c in
    let count = its-count s.args.k s.requires.lies.table in
    let fits = numbers_fit s.args.k s.requires.lies.table in
    let front = length-take-le (get_or ten_counts s.args.k 0) s.args.w.now (omega arith) in
    let fixed = fixed-there s.args.k _ s.requires.lies in
    let left = length-drop s.args.at s.args.bytes.now in
    omega arith

pub returns : goal.returns
returns c =
    let s = c in
    let k = s.args.k in
    let b : List ℕ = s.args.bytes.now in
    let at = s.args.at in
    let w : List ℕ = s.args.w.now in
    let n : ℕ = get_or ten_counts k 0 in
    let count = its-count k s.requires.lies.table in
    let fits = numbers_fit k s.requires.lies.table in
    let got = c.get_words in
    let gw : List ℕ = got.new.w in
    let long = length-take-le n w (omega arith) in
    let read : gw ≡ words_in (word word_counts k) (drop (at + 2) b) = got.ensures ∙ ap (λ (j : ℕ). words_in j (drop (at + 2) b)) (long ∙ count) in
    taken_back 0 n gw w (got.auto.w ∙ long) ∙ ap (λ (a : List ℕ). over 0 a w) (read ∙ sym (plain-front k b at c.if-k-eq-BODIES.false))
