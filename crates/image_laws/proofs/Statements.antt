-- The theorems of specs/Statements.antt that rest on accepted-is-written and numbers-read. Assumes nothing.
use Rattle.std.proofs.Common.{arith, length-append, sym, ap, ◌∙◌, subst, append-nil}
use Rattle.std.specs.Prelude.{length, drop, ◌≡◌, true, List, [], ◌∷◌, ◌++◌, ℕ, Float}
use Rattle.std.proofs.Math.Path.{refl}
use Rattle.geom_lines_planes.specs.declared.tolerance.Version.TheVariants.{Second}
use Rattle.meaning.specs.Lists.{joined}
use Rattle.meaning.specs.Model.{Model}
use Rattle.memory_layout.specs.Layout.{word}
use Rattle.memory_layout.specs.Decode.{decode}
use Rattle.memory_layout.specs.Readable.{readable}
use Rattle.memory_layout.specs.Laws.{fit_of}
use Rattle.memory_writes.specs.Change.{SameModel}
use Rattle.image_format.specs.Bytes.{little, floats, lists, number}
use Rattle.image_format.specs.Fields.{VERSION_RECORD, marks, record_image}
use Rattle.image_format.specs.Image.{records_image, version_image, image_of, model_of, version_in, model_in, held, accepted}
use Rattle.image_laws.specs.Numbers.{Bytes, Words, Doubles, same-itself}
use Rattle.image_laws.specs.Models as Models
use Rattle.image_laws.proofs.Models.{model-read}
use Rattle.image_laws.specs.Models.{Machine}
use Rattle.image_laws.specs.Machines.{machine-in, machine-lent, image-bytes}
use Rattle.image_laws.specs.Held.{lent-held}
use Rattle.image_laws.specs.Statements.{accepted-is-written, second-has-one-more}

-- "Reading what was written gives the same model"
pub written-is-read : (m : Model) → Machine m → SameModel (model_in (image_of m)) m
written-is-read m w = subst (λ (b : List ℕ). SameModel (model_in b) m) (append-nil (image_of m)) (model-read m w [])

-- as of all lent memory: its words are of 32 bits, its floats of 64
pub lent-is-read : (room w : List ℕ) (x : List Float) → Words w → Doubles x → SameModel (model_in (image_of (decode room w x))) (decode room w x)
lent-is-read room w x p q = written-is-read (decode room w x) (machine-lent room w x p q)

-- and the reader accepts it, where 01's tables hold the model
pub written-is-accepted : (m : Model) → held m ≡ true → Machine m → accepted (image_of m) ≡ true
unfolding accepted
written-is-accepted m h w =
    let s = written-is-read m w in
    rw (Models.held_same (model_in (image_of m)) m s, h, Models.image-same (model_in (image_of m)) m s) (same-itself (image_of m))

pub lent-is-accepted : (room w : List ℕ) (x : List Float) → readable room w x ≡ true → Words w → Doubles x → accepted (image_of (decode room w x)) ≡ true
lent-is-accepted room w x r p q = written-is-accepted (decode room w x) (lent-held room w x (fit_of room w x r)) (machine-lent room w x p q)

pub accepted-is-bytes : (b : List ℕ) → accepted b ≡ true → Bytes b
accepted-is-bytes b h = subst (λ (c : List ℕ). Bytes c) (accepted-is-written b h) (image-bytes (model_in b))

-- so the images that the reader accepts are those of such models, and of bytes
pub accepted-is-machine : (b : List ℕ) → accepted b ≡ true → Machine (model_in b)
accepted-is-machine b h = machine-in b (accepted-is-bytes b h)

-- "A short image .. or bytes left over are refused": of an image and the same with bytes behind it the reader accepts one alone, wherever it was cut
pub nothing-behind : (b c : List ℕ) → accepted b ≡ true → accepted (b ++ c) ≡ true → c ≡ []
nothing-behind b c p q =
    let m : Model = model_in b in
    let same : SameModel (model_in (image_of m ++ c)) m = model-read m (accepted-is-machine b p) c in
    let again : image_of (model_in (b ++ c)) ≡ image_of m =
    Models.image-same (model_in (b ++ c)) m (subst (λ (a : List ℕ). SameModel (model_in (a ++ c)) m) (accepted-is-written b p) same) in
    no_more b c (sym (accepted-is-written (b ++ c) q) ∙ again ∙ accepted-is-written b p)
  where
    no_more : (b c : List ℕ) → b ++ c ≡ b → c ≡ []
    no_more b [] e = refl
    no_more b (y ∷ c) e = let l = length-append b (y ∷ c) in let k = ap length e in absurd (omega arith)

-- and one image is that of one model
pub images-tell-models : (m n : Model) → Machine m → Machine n → image_of m ≡ image_of n → SameModel m n
images-tell-models m n v w e =
    Models.same-models (model_in (image_of n)) m n (subst (λ (b : List ℕ). SameModel (model_in b) m) e (written-is-read m v)) (written-is-read n w)

pub models-tell-images : (b c : List ℕ) → accepted b ≡ true → accepted c ≡ true → SameModel (model_in b) (model_in c) → b ≡ c
models-tell-images b c p q s = sym (accepted-is-written b p) ∙ Models.image-same (model_in b) (model_in c) s ∙ accepted-is-written c q

-- "9 for an image whose version record names anything but 2": one that is accepted and begins with that record's mark has a 2 behind it
pub version-record-names-2 : (b : List ℕ) → accepted b ≡ true → number 2 b ≡ word marks VERSION_RECORD → number 4 (drop 2 b) ≡ 2
version-record-names-2 b h e =
    ap (λ (c : List ℕ). number 4 (drop 2 c)) (sym (accepted-is-written b h) ∙ second-has-one-more (model_in b) second) ∙ named
  where
    second : (model_in b).version ≡ Second
    second = unfold model_in model_of version_in in rw e

    named : number 4 (drop 2 (version_image Second ++ records_image (model_in b))) ≡ 2
    named = unfold version_image record_image little joined floats lists number in refl
