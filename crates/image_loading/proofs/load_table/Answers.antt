-- `image_loading::load_table` meets its contract: a turn of the loop is one record more. Assumes nothing.
use Rattle.std.specs.Prelude.{◌<◌, ◌≡◌}
use Rattle.std.proofs.Common.{arith, refl, ap, ◌∙◌}
use Rattle.image_format.specs.Image.{count_in, behind_records, table_bytes}
use Rattle.image_loading.specs.Laid.{records_laid, floats_laid}
use Rattle.image_laws.specs.Sizes.{count_at}
use Rattle.image_loading.specs.Laws.{next-record}
use Rattle.image_loading.proofs.load_table.Goals as goal

pub word_in-n-requires : goal.word_in-n-requires
word_in-n-requires c = omega (arith, c.requires.loadable.head)

pub loop-i-init : goal.loop-i-init
unfolding records_laid floats_laid behind_records
loop-i-init c =
    let s = c in
    record { place = s.requires.stands; words = refl; floats = refl; words_long = refl; floats-long = refl }

pub lay_floats-requires : goal.lay_floats-requires
lay_floats-requires c =
    let s = c in
    let k = s.args.k in
    let h = s.requires.k_bound in
    let i = c.loop-i.i in
    let so_far = c.loop-i.invariant in
    let count : c.word_in-n.result ≡ count_in s.args.bytes.now k = c.word_in-n.ensures ∙ count_at s.args.bytes.now k h in
    let used : i < count_in s.args.bytes.now k = omega arith in
    let fits = s.requires.loadable.counts k h in record { small = s.requires.loadable.lent.small; inside = record { enough = rw so_far.floats-long s.requires.loadable.lent.reals; table = h; slot = omega arith }; lies = rw so_far.place.rest (s.requires.loadable.lies k i h used); at_in_bounds = so_far.place.inside }

pub lay_words-here-requires : goal.lay_words-here-requires
lay_words-here-requires c =
    let s = c in
    let k = s.args.k in
    let h = s.requires.k_bound in
    let i = c.loop-i.i in
    let so_far = c.loop-i.invariant in
    let count : c.word_in-n.result ≡ count_in s.args.bytes.now k = c.word_in-n.ensures ∙ count_at s.args.bytes.now k h in
    let used : i < count_in s.args.bytes.now k = omega arith in
    let fits = s.requires.loadable.counts k h in record { small = s.requires.loadable.lent.small; inside = record { enough = rw so_far.words_long s.requires.loadable.lent.words; table = h; slot = omega arith }; lies = rw so_far.place.rest (s.requires.loadable.lies k i h used); at_in_bounds = so_far.place.inside }

pub loop-i-preserved : goal.loop-i-preserved
loop-i-preserved c =
    let s = c in
    let k = s.args.k in
    let h = s.requires.k_bound in
    let b = s.args.bytes.now in
    let loop = c.loop-i in
    let count : c.word_in-n.result ≡ count_in b k = c.word_in-n.ensures ∙ count_at b k h in
    let used : loop.i < count_in b k = omega arith in
    let words = c.lay_words-here in
    let floats = c.lay_floats in
    next-record s.args.room.now b k loop.i loop.here loop.words s.args.words.now loop.reals s.args.reals.now loop.invariant (s.requires.loadable.lies k loop.i h used)
    words.result words.ensures.value words.new.words words.ensures.words_after words.auto.words floats.new.reals floats.ensures floats.auto.reals

pub returns : goal.returns
unfolding table_bytes
returns c =
    let s = c in
    let k = s.args.k in
    let b = s.args.bytes.now in
    let so_far = c.loop-i.invariant in
    let count = c.word_in-n.ensures ∙ count_at b k s.requires.k_bound in
    let all : c.loop-i.i ≡ count_in b k = omega arith in record { words_after = so_far.words ∙ ap (λ n. records_laid s.args.room.now b k n s.args.words.now) all; reals_after = so_far.floats ∙ ap (λ n. floats_laid s.args.room.now b k n s.args.reals.now) all; stands_2 = rw all at so_far.place }
