-- `image_reader::read_image` meets its contract: a refusal writes nothing. Assumes nothing.
use Prim.Native.Nat.{ℕ}
use mathlib.Core.Path.{◌≡◌, refl, sym, ap, ap₂, ◌∙◌}
use mathlib.Core.List.{List}
use lib.ListN.{set, length-set}
use native.Mathlib.Omega.{arith}
use Rattle.memory_layout.specs.Laid.{version_tag}
use Rattle.memory_writes.specs.Kept.{refused-keeps}
use Rattle.memory_writes.specs.Over.{one_store}
use Rattle.image_format.specs.Image.{version_in, records_in}
use Rattle.image_laws.specs.Machines.{below_all}
use Rattle.image_accepted.specs.Version.{accepted-room}
use Rattle.image_loading.specs.Laid.{words_laid, reals_laid}
use Rattle.image_loading.specs.Laws.{still-loadable}
use Rattle.image_reader.specs.Answers.{version_laid, read_number, read_words, read_reals}
use Rattle.image_reader.specs.Laws.{taken, read-open, version-room}
use Rattle.image_reader.proofs.read_image.Goals as goal

pub returns-then-n-ne0 : goal.returns-then-n-ne0
unfolding read_words read_reals
returns-then-n-ne0 c =
    let e = c.read_refusal-n.ensures in
    let n = c.read_refusal-n.result in
    record { answer = e; tables = rw (← e) (refused-keeps n _ _ c.if-n-ne0.true); floats = rw (← e) (refused-keeps n _ _ c.if-n-ne0.true) }

pub bounds-words-10 : goal.bounds-words-10
bounds-words-10 c =
    let s = c.args in
    let z : read_number s.room.now s.words.now s.reals.now s.bytes.now ≡ 0 = sym c.read_refusal-n.ensures ∙ c.if-n-ne0.false in
    let n = version-room s.room.now s.words.now s.reals.now s.bytes.now z in
    omega arith

pub records_in-requires : goal.records_in-requires
records_in-requires c =
    let s = c.args in
    let z : read_number s.room.now s.words.now s.reals.now s.bytes.now ≡ 0 = sym c.read_refusal-n.ensures ∙ c.if-n-ne0.false in
    accepted-room s.bytes.now (taken s.room.now s.words.now s.reals.now s.bytes.now z).image

pub load-requires : goal.load-requires
load-requires c =
    let s = c.args in
    let image = s.bytes.now in
    let z : read_number s.room.now s.words.now s.reals.now image ≡ 0 = sym c.read_refusal-n.ensures ∙ c.if-n-ne0.false in
    let loads = read-open s.room.now s.words.now s.reals.now image (below_all 256 image (λ i. omega (arith, c.shared_slice_known-1.given i))) z in
    rw c.records_in.ensures (still-loadable s.room.now s.words.now _ s.reals.now s.reals.now (records_in image) loads (simp length-set) refl)

pub shape_of-words : goal.shape_of-words
shape_of-words c = c.load.auto.words ∙ simp length-set

pub returns : goal.returns
unfolding read_words read_reals
returns c =
    let s = c.args in
    let w = s.words.now in
    let image = s.bytes.now in
    let z : read_number s.room.now w s.reals.now image ≡ 0 = sym c.read_refusal-n.ensures ∙ c.if-n-ne0.false in
    let n = version-room s.room.now w s.reals.now image z in
    let v : set w 10 c.version_in.result ≡ version_laid image w = ap (set w 10) c.version_in.ensures ∙ one_store w 10 (version_tag (version_in image)) (omega arith) in
    let r = c.records_in.ensures in
    let l = c.load.ensures in
    record { answer = sym z; tables = rw z (l.words_after ∙ ap₂ (λ (b a : List ℕ). words_laid s.room.now b 10 a) r v); floats = rw z (l.reals_after ∙ ap (λ (b : List ℕ). reals_laid s.room.now b 10 s.reals.now) r) }
