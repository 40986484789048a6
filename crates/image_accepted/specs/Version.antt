-- An image is the version's record, where the version has one, and the records behind it. Assumes nothing.
use Rattle.std.specs.Prelude.{ℕ, ◌+◌, ◌-◌, ◌≤◌, ◌<◌, ◌≡◌, refl, Bool, true, false, cond, ◌&&◌, List, [], ◌∷◌, eqb, leb, length, drop}
use Rattle.std.proofs.Common.{arith, sym, ap, ap₂, ◌∙◌, leb-true, le-leb, eq-eqb, ne_eqb}
use Rattle.std.proofs.Math.ListN.{length-drop}
use Rattle.geom_lines_planes.specs.declared.tolerance.Version.{Version}
use Rattle.geom_lines_planes.specs.declared.tolerance.Version.TheVariants.{First, Second}
use Rattle.meaning.specs.Lists.{all, joined}
use Rattle.meaning.specs.Model.{office-0}
use Rattle.meaning_list_laws.specs.Tests.{and_both, and-true, and-false, both_ways}
use Rattle.memory_layout.specs.Layout.{word}
use Rattle.memory_layout.specs.Laid.{version_tag}
use Rattle.image_format.specs.Bytes.{little, floats, lists, number, words_in, same_bytes}
use Rattle.image_format.specs.Fields.{VERSION_RECORD, marks, record_image}
use Rattle.image_format.specs.Image.{records_image, version_image, image_of, model_of, version_in, records_in, model_in, held, accepted}
use Rattle.image_laws.specs.Numbers.{Bytes, below-first, below-drop}
use Rattle.image_laws.specs.Machines.{records-bytes}
use Rattle.image_laws.specs.Starts.{starts, same-both, eqb-sym}
use Rattle.image_laws.proofs.Starts.{starts-little, starts-words}
use Rattle.image_record_test.specs.Tested.{starts-record}
use Rattle.image_accepted.specs.Ends.{starts-long}
use Rattle.image_accepted.specs.Whole.{records_accepted, Found, records-found}

-- the bytes begin with the record of their version
unfoldable pub version_good : List ℕ → Bool
version_good b = starts (version_image (version_in b)) b

-- what is read behind the version is the same for both
held_any : (b : List ℕ) (v : Version) → held (model_of b v) ≡ held (model_of b First)
unfolding held model_of
held_any b v = refl

image-any : (b : List ℕ) (v : Version) → records_image (model_of b v) ≡ records_image (model_of b First)
unfolding records_image model_of
image-any b v = refl

in-front : (h s t : Bool) → (h && (s && t)) ≡ (s && (h && t))
in-front true s t = refl
in-front false s t = sym (and-false s)

pub accepted-parts : (b : List ℕ) → accepted b ≡ (version_good b && records_accepted (records_in b))
unfolding accepted records_accepted version_good image_of model_in model_of records_in
accepted-parts b =
    let v : Version = version_in b in
    let r : List ℕ = records_in b in
    ap₂ ◌&&◌ (held_any r v) (same-both (version_image v) (records_image (model_of r v)) b ∙ ap (λ (l : List ℕ). starts (version_image v) b && same_bytes l r) (image-any r v))
    ∙ in-front (held (model_of r First)) (starts (version_image v) b) (same_bytes (records_image (model_of r First)) r)

pub image-found : (b : List ℕ) → Bytes b → accepted b ≡ true → Found (records_in b)
image-found b h e = records-found (records_in b) (records-bytes b h) (and_both (version_good b) (records_accepted (records_in b)) (sym (accepted-parts b) ∙ e)).1

-- ---- as the code tests it

pub good-room : (b : List ℕ) → version_good b ≡ true → length (version_image (version_in b)) ≤ length b
unfolding version_good
good-room b e = starts-long (version_image (version_in b)) b e

pub accepted-room : (b : List ℕ) → accepted b ≡ true → length (version_image (version_in b)) ≤ length b
accepted-room b e = good-room b (and_both (version_good b) (records_accepted (records_in b)) (sym (accepted-parts b) ∙ e)).0

pub first_of : (v : Version) → version_tag v ≡ 1 → v ≡ First
first_of First e = refl
first_of Second e = absurd (omega arith)

pub second-of : (v : Version) → (version_tag v ≡ 1 → ⊥) → v ≡ Second
second-of First e = absurd (e refl)
second-of Second e = refl

pub first-long : length (version_image First) ≡ 0
unfolding version_image
first-long = refl

pub second-long : length (version_image Second) ≡ 6
unfolding version_image record_image little joined floats lists
second-long = refl

-- the mark
pub marked : (b : List ℕ) → number 2 b ≡ word marks VERSION_RECORD → version_in b ≡ Second
unfolding version_in
marked b e = rw (eq-eqb (number 2 b) (word marks VERSION_RECORD) e)

pub unmarked : (b : List ℕ) → (number 2 b ≡ word marks VERSION_RECORD → ⊥) → version_in b ≡ First
unfolding version_in
unmarked b e = rw (ne_eqb (number 2 b) (word marks VERSION_RECORD) e)

-- two bytes that are not there make none
pub too_short : (b : List ℕ) → Bytes b → length b < 2 → version_in b ≡ First
unfolding version_in number
too_short [] h l = refl
too_short (x ∷ []) h l = let s = (below-first 256 x [] h).0 in rw (ne_eqb (x + 0) 0x4e56 (λ e. omega arith))
too_short (x ∷ y ∷ b) h l = absurd (omega arith)

pub first_good : (b : List ℕ) → version_in b ≡ First → version_good b ≡ true
unfolding version_good version_image starts
first_good b e = rw e

pub second-good : (b : List ℕ) → Bytes b → version_in b ≡ Second → version_good b ≡ (leb 6 (length b) && eqb (number 4 (drop 2 b)) 2)
unfolding version_good version_image starts floats lists same_bytes words_in
second-good b h e = rw e (begins ∙ tests)
  where
    named : (t : Bool) → cond t Second First ≡ Second → t ≡ true
    named true q = refl
    named false q = let z : ◌≡◌ {A = ℕ} 0 1 = cc in absurd (omega arith)

    mark : eqb (number 2 b) (word marks VERSION_RECORD) ≡ true
    mark = named _ (unfold version_in in e)

    begins : starts (version_image Second) b ≡ ((leb 2 (length b) && eqb (number 2 b) (word marks VERSION_RECORD)) && (leb 4 (length b - 2) && eqb (number 4 (drop 2 b)) 2))
    begins =
        starts-record VERSION_RECORD (record { office = office-0; words = 2 ∷ []; floats = []; lists = [] }) b refl refl
        ∙ rw (starts-little 2 (word marks VERSION_RECORD) b (omega arith) h, starts-words (2 ∷ []) (drop 2 b) (unfold all in refl) (below-drop 256 2 b h), length-drop 2 b)
        (simp (and-true, eqb-sym 2))

    tests : ((leb 2 (length b) && eqb (number 2 b) (word marks VERSION_RECORD)) && (leb 4 (length b - 2) && eqb (number 4 (drop 2 b)) 2)) ≡ (leb 6 (length b) && eqb (number 4 (drop 2 b)) 2)
    tests =
        both_ways _ _
        (λ q. let p = and_both (leb 2 (length b) && eqb (number 2 b) (word marks VERSION_RECORD)) (leb 4 (length b - 2) && eqb (number 4 (drop 2 b)) 2) q in
        let r = and_both (leb 4 (length b - 2)) (eqb (number 4 (drop 2 b)) 2) p.1 in
        let n : 4 ≤ length b - 2 = leb-true 4 (length b - 2) r.0 in
        rw (le-leb 6 (length b) (omega arith)) r.1)
        (λ q. let p = and_both (leb 6 (length b)) (eqb (number 4 (drop 2 b)) 2) q in
        let n : 6 ≤ length b = leb-true 6 (length b) p.0 in
        rw (le-leb 2 (length b) (omega arith), mark, le-leb 4 (length b - 2) (omega arith)) p.1)
