-- What the proofs of `fin_vertices` cite. Assumes nothing.
use Rattle.std.specs.Prelude.{ℕ, ◌<◌, ◌≡◌, refl, Bool, true, false, List, ltb, Float}
use Rattle.std.proofs.Common.{sym, ◌∙◌, arith, ltb-true}
use Rattle.geom_lines_planes.specs.Refuse.{◌unless◌, ◌then◌}
use Rattle.meaning.specs.Model as Model
use Rattle.meaning.specs.Walks.{directed, readable_fin}
use Rattle.meaning_list_laws.specs.Tests.{and_both, then-zero, unless-zero}
use Rattle.memory_layout.specs.Layout.{word}
use Rattle.memory_layout.specs.Decode.{decode}
use Rattle.memory_layout.specs.Readable.{readable}
use Rattle.memory_layout.specs.Fit.{Fit}
use Rattle.memory_layout.specs.Laws.{fit_of}
use Rattle.memory_records.specs.Seen.{Ref}
use Rattle.memory_records.specs.declared.records.Sense.{Sense}
use Rattle.memory_records.specs.declared.records.Sense.TheVariants.{Positive, Negative}
use Rattle.memory_records.specs.Seen.{seen_ref, seen_sense}
use Rattle.walk_fin_ends.specs.declared.Tips.{Tips}
use Rattle.walk_fin_ends.specs.Answers.{seen_ends, fin_vertices_number}

-- two ends, exchanged for a negative sense
abbrev pub turned : Sense → Ref → Ref → Tips
turned Positive a b = record { start = a; end = b }
turned Negative a b = record { start = b; end = a }

-- and so of what is seen of a fin and its edge
pub turned-seen : (s : Model.Sense) (e : Model.Edge) → turned (seen_sense s) (seen_ref e.start) (seen_ref e.end) ≡ seen_ends (directed s e)
unfolding seen_sense seen_ends
turned-seen Model.positive e = refl
turned-seen Model.negative e = refl

-- a fin that is not refused: the memory is readable, the fin and its edge are used
pub record Standing (room w : List ℕ) (x : List Float) (i : ℕ) : Type 0 where
  pub fit : Fit room w x
  pub fin-there : i < word w 5
  pub edge-there : (Model.fin (decode room w x) i).edge < word w 6

pub standing : (room w : List ℕ) (x : List Float) (i : ℕ) → fin_vertices_number room w x i ≡ 0 → Standing room w x i
unfolding fin_vertices_number decode
standing room w x i e =
    let n : ℕ = (Model.fin (decode room w x) i).edge in
    let a = then-zero (9 unless readable room w x) (2 unless readable_fin (decode room w x) i) e in
    let b = and_both (ltb i (word w 5)) (ltb n (word w 6)) (unless-zero 1 (readable_fin (decode room w x) i) a.1) in
    record {
      fit = fit_of room w x (unless-zero 8 (readable room w x) a.0);
      fin-there = ltb-true i (word w 5) b.0;
      edge-there = ltb-true n (word w 6) b.1;
    }
