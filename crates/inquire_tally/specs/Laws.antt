-- The tally of a body as the code makes it. Assumes nothing.
use Prim.Native.Nat.{ℕ, zero, suc, ◌≤◌}
use Rattle.std.specs.Prelude.{◌≡◌, Bool, true, false, List, Float}
use Rattle.std.proofs.Math.Path.{refl, ap}
use Rattle.std.proofs.Common.{sym, ◌∙◌}
use Rattle.std.proofs.Math.Bool.{cond}
use Rattle.interval_arithmetic.specs.Ops.{zero_f}
use Rattle.meaning.specs.Lists.{joined}
use Rattle.meaning.specs.Model.{body}
use Rattle.meaning.specs.Inquire.{is_solid, solid_sides}
use Rattle.memory_layout.specs.Layout.{word, words_of}
use Rattle.memory_layout.specs.Decode.{decode, kind_of}
use Rattle.memory_layout.specs.Entries.{list_of}
use Rattle.memory_records.specs.Laws.{general-kind}
use Rattle.inquire_weight.specs.declared.Weight.{Weight}
use Rattle.inquire_weight.specs.Weights.{no_weight}
use Rattle.inquire_regions.specs.declared.Tally.{Tally}
use Rattle.inquire_regions.specs.Regions.{tally_of, region_sides}
use Rattle.inquire_tally.specs.Tallies.{refused_tally, solid_tally, unless_walked, walked, body_tally}

pub other-kind : (n : ℕ) → 4 ≤ n → false ≡ is_solid (kind_of n)
other-kind n h = sym (ap is_solid (general-kind n h))

pub nothing-weighed : (n : ℕ) (w : Weight) → w ≡ no_weight → record { refused = n; empty = false; volume = zero_f; weight = w } ≡ refused_tally n
nothing-weighed n w e = ap (λ k. record { refused = n; empty = false; volume = zero_f; weight = k }) e

module _ (whole : Bool) (room w : List ℕ) (x : List Float) (b : ℕ) where
  pub not-solid : is_solid (kind_of (word (words_of room w 0 b) 0)) ≡ false → refused_tally 6 ≡ solid_tally whole (decode room w x) b
  unfolding solid_tally decode
  not-solid e = rw e

  pub solid-tallied : is_solid (kind_of (word (words_of room w 0 b) 0)) ≡ true → tally_of whole (decode room w x) (joined (region_sides (decode room w x)) (list_of room w 0 b)) ≡ solid_tally whole (decode room w x) b
  solid-tallied e = ap (tally_of whole (decode room w x)) sides ∙ sym (unfold solid_tally in ap (λ t. cond t (tally_of whole (decode room w x) (solid_sides (decode room w x) b)) (refused_tally 6)) kind)
    where
      sides : joined (region_sides (decode room w x)) (list_of room w 0 b) ≡ solid_sides (decode room w x) b
      sides = unfold region_sides solid_sides decode list_of in refl

      kind : is_solid (body (decode room w x) b).kind ≡ true
      kind = unfold decode in e

  module _ (face_marks : List ℕ) where
    pub tally-refused : (n : ℕ) → n ≡ walked whole room w x b face_marks → (n ≡ 0 → ⊥) → refused_tally n ≡ body_tally whole room w x b face_marks
    unfolding body_tally
    tally-refused zero e z = absurd (z refl)
    tally-refused (suc n) e z = ap (λ k. unless_walked k (solid_tally whole (decode room w x) b)) e

    pub tally-given : (t : Tally) → walked whole room w x b face_marks ≡ 0 → t ≡ solid_tally whole (decode room w x) b → t ≡ body_tally whole room w x b face_marks
    unfolding body_tally
    tally-given t e h = h ∙ ap (λ k. unless_walked k (solid_tally whole (decode room w x) b)) (sym e)
