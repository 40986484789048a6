-- What is written again for the fields of a record, table by table: as many numbers and floats, the same lists; and the same numbers and bits just where the code's test passes. Assumes nothing.
use Rattle.std.specs.Prelude.{ℕ, zero, suc, ◌+◌, ◌*◌, ◌<◌, ◌≡◌, Bool, false, cond, ◌&&◌, eqb, leb, length, drop, get_or}
use Rattle.std.proofs.Common.{arith, ap, ◌∙◌, subst}
use Rattle.std.proofs.Math.Path.{refl, sym}
use Rattle.std.proofs.Math.Bool.{true}
use mathlib.Core.List.{List, [], ◌∷◌, ◌++◌, map, append_assoc}
use Rattle.std.proofs.Math.Option.{none, some}
use Rattle.std.specs.Float.Ieee.{binary64, fits, of_bits, top}
use borrow.Author.Tests.{eq-eqb, ne_eqb, lt-leb}
use Rattle.geom_carriers.specs.declared.Carrier.{Carrier}
use Rattle.meaning.specs.Edits.{tolerance_ok}
use Rattle.meaning_list_laws.specs.Tests.{and-true, and_assoc}
use Rattle.memory_layout.specs.Layout.{word}
use Rattle.memory_layout.specs.Decode.{sense_of, tolerance_of, carrier_of}
use Rattle.memory_layout.specs.Laid.{sense, maybe, tag, carrier_tag, carrier_reals}
use Rattle.image_format.specs.Bytes.{number, lists_in, same_bytes}
use Rattle.image_format.specs.Fields.{list_limits_of, Fields, mark_of, word_counts, float_counts, edge_in, vertex_in}
use Rattle.image_laws.specs.Numbers.{Bytes, patterns, number-below, below-drop}
use Rattle.image_laws.specs.Records.{Fitting}
use Rattle.image_laws.specs.Machines.{Whole, whole_in, body-fits, region-fits, shell-fits, face-fits, loop-fits, fin-fits, edge-fits, vertex-fits, carrier-fits}
use Rattle.image_laws.specs.Starts.{eqb-sym}
use Rattle.image_record_test.specs.Good.{spelled, holds}
use Rattle.image_record_test.specs.Parts.{mark_good, optional_good, marked_good, bits_good, carrier_bits, vertex_good, carrier_good, fields_good}
use Rattle.image_record_test.specs.Kept.{mark-kept, kind-kept, bit_kept, sense-kept, tag-kept, maybe-kept, zero_bits, tolerance-kept}
use Rattle.image_record_test.specs.Explicit.{numbers_at, fields_here, fields-here}

-- each list is within its limit
unfoldable pub within : List ℕ → List (List ℕ) → Bool
within [] ls = true
within (limit ∷ l) [] = true
within (limit ∷ l) (x ∷ ls) = leb (length x) limit && within l ls

-- an own tolerance is one
abbrev pub tolerances : List (Fields → Bool)
tolerances =
    (λ _. true)
    ∷ (λ _. true)
    ∷ (λ _. true)
    ∷ (λ _. true)
    ∷ (λ _. true)
    ∷ (λ _. true)
    ∷ (λ f. tolerance_ok (edge_in f).tolerance)
    ∷ (λ f. tolerance_ok (vertex_in f).tolerance)
    ∷ []

unfoldable pub tolerance_held : ℕ → Fields → Bool
tolerance_held k f = get_or tolerances k (λ _. true) f

-- the fields f, read from the bytes s, and the fields g that are written for them
pub record Spelled (k : ℕ) (s : List ℕ) (f g : Fields) : Type 0 where
  pub fits : Fitting k g
  pub marked : eqb (number 2 s) (mark_of k g.office) ≡ mark_good k (number 2 s)
  pub lists-same : g.lists ≡ f.lists
  pub held : holds k f ≡ (within (get_or list_limits_of k []) f.lists && tolerance_held k f)
  pub kept : ((same_bytes g.words f.words && same_bytes (patterns g.floats) (numbers_at 8 (word float_counts k) (2 + 4 * word word_counts k) s)) && tolerance_held k f)
      ≡ fields_good k s

-- ---- parts

-- an optional id in front of other numbers
in-front : (b : Bool) (i t j : ℕ) (l r : List ℕ)
    → same_bytes (maybe (cond b none (some i)) ++ l) (t ∷ j ∷ r) ≡ (same_bytes (maybe (cond b none (some i))) (t ∷ j ∷ []) && same_bytes l r)
unfolding same_bytes
in-front true i t j l r = simp (and-true, and_assoc)
in-front false i t j l r = simp (and-true, and_assoc)

-- three of them, and one number
three-kept : (t i u j v k x n : ℕ)
    → same_bytes (maybe (cond (eqb t 0) none (some i)) ++ maybe (cond (eqb u 0) none (some j)) ++ maybe (cond (eqb v 0) none (some k)) ++ (x ∷ [])) (t ∷ i ∷ u ∷ j ∷ v ∷ k ∷ n ∷ [])
    ≡ (optional_good t i && optional_good u j && optional_good v k && eqb x n)
three-kept t i u j v k x n =
    let a : List ℕ = maybe (cond (eqb t 0) none (some i)) in
    let b : List ℕ = maybe (cond (eqb u 0) none (some j)) in
    let c : List ℕ = maybe (cond (eqb v 0) none (some k)) in
    ap (λ (l : List ℕ). same_bytes l (t ∷ i ∷ u ∷ j ∷ v ∷ k ∷ n ∷ [])) (append_assoc (a ++ b) c (x ∷ []) ∙ append_assoc a b (c ++ (x ∷ [])))
    ∙ in-front (eqb t 0) i t i (b ++ (c ++ (x ∷ []))) (u ∷ j ∷ v ∷ k ∷ n ∷ [])
    ∙ rw (
      maybe-kept t i,
      in-front (eqb u 0) j u j (c ++ (x ∷ [])) (v ∷ k ∷ n ∷ []),
      maybe-kept u j,
      in-front (eqb v 0) k v k (x ∷ []) (n ∷ []),
      maybe-kept v k,
      last-kept,
    ) (simp and_assoc)
  where
    last-kept : same_bytes (x ∷ []) (n ∷ []) ≡ eqb x n
    last-kept = unfold same_bytes in and-true (eqb x n)

-- a carrier's tag and its six floats, by their bits
abbrev six_of : (a b c d e g : ℕ) → List ℕ
six_of a b c d e g = a ∷ b ∷ c ∷ d ∷ e ∷ g ∷ []

abbrev carrier_here : ℕ → List ℕ → Carrier
carrier_here t l = carrier_of (t ∷ []) (map (of_bits binary64) l)

carrier-kept : (t a b c d e g : ℕ)
    → (same_bytes (carrier_tag (carrier_here t (six_of a b c d e g))) (t ∷ []) && same_bytes (patterns (carrier_reals (carrier_here t (six_of a b c d e g)))) (six_of a b c d e g))
    ≡ (leb t 2 && ((carrier_bits t a && carrier_bits t b && carrier_bits t c) && (carrier_bits t d && carrier_bits t e && carrier_bits t g)))
unfolding same_bytes carrier_bits bits_good
carrier-kept zero a b c d e g = simp (and-true, and_assoc)
carrier-kept (suc zero) a b c d e g = simp (and-true, and_assoc)
carrier-kept (suc (suc zero)) a b c d e g = simp (zero_bits, eqb-sym 0, and-true, and_assoc)
carrier-kept (suc (suc (suc t))) a b c d e g =
    rw (
      ne_eqb (suc (suc (suc t))) 0 (λ q. omega arith),
      ne_eqb (suc (suc (suc t))) 1 (λ q. omega arith),
      ne_eqb 2 (suc (suc (suc t))) (λ q. omega arith),
      lt-leb (suc (suc (suc t))) 2 (omega arith),
    )

module _ (s : List ℕ) (b : Bytes s) where
  bits_below : (q : ℕ) → number 8 (drop q s) < 2 * top binary64
  bits_below q = number-below 8 (drop q s) (below-drop 256 q s b)

  abbrev n4 : ℕ → ℕ
  n4 q = number 4 (drop q s)

  abbrev f : ℕ → Fields
  f k = fields_here k s

  -- they are of their widths
  here : (k : ℕ) → Whole (f k)
  here k = subst Whole (fields-here k s) (whole_in k s b)

  body_spelled : Spelled 0 s (f 0) (spelled 0 (f 0))
  unfolding spelled fields_here numbers_at holds within tolerance_held fields_good same_bytes lists_in
  body_spelled =
      record {
        fits = body-fits (f 0) (here 0);
        marked = mark-kept (number 2 s);
        lists-same = refl;
        held = sym (rw (and-true, and-true));
        kept = rw (kind-kept (n4 2), and-true, and-true, and-true);
      }

  region-spelled : Spelled 1 s (f 1) (spelled 1 (f 1))
  unfolding spelled mark_good fields_here numbers_at holds within tolerance_held fields_good same_bytes lists_in
  region-spelled =
      record {
        fits = region-fits (f 1) (here 1);
        marked = refl;
        lists-same = refl;
        held = sym (rw (and-true, and-true));
        kept = rw (eq-eqb (n4 2) (n4 2) refl, bit_kept (n4 6), and-true, and-true, and-true);
      }

  shell-spelled : Spelled 2 s (f 2) (spelled 2 (f 2))
  unfolding spelled mark_good fields_here numbers_at holds within tolerance_held fields_good same_bytes lists_in
  shell-spelled =
      record {
        fits = shell-fits (f 2) (here 2);
        marked = refl;
        lists-same = refl;
        held = simp (and-true, and_assoc);
        kept = rw (eq-eqb (n4 2) (n4 2) refl);
      }

  loop-spelled : Spelled 4 s (f 4) (spelled 4 (f 4))
  unfolding spelled mark_good fields_here numbers_at holds within tolerance_held fields_good same_bytes lists_in
  loop-spelled =
      record {
        fits = loop-fits (f 4) (here 4);
        marked = refl;
        lists-same = refl;
        held = sym (rw (and-true, and-true));
        kept = rw (eq-eqb (n4 2) (n4 2) refl);
      }

  fin-spelled : Spelled 5 s (f 5) (spelled 5 (f 5))
  unfolding spelled mark_good fields_here numbers_at holds within tolerance_held fields_good same_bytes lists_in
  fin-spelled =
      record {
        fits = fin-fits (f 5) (here 5);
        marked = refl;
        lists-same = refl;
        held = refl;
        kept = rw (eq-eqb (n4 2) (n4 2) refl, eq-eqb (n4 6) (n4 6) refl, sense-kept (n4 10), bit_kept (n4 14), and-true, and-true, and-true);
      }

  face-spelled : Spelled 3 s (f 3) (spelled 3 (f 3))
  unfolding spelled mark_good fields_here numbers_at holds within tolerance_held fields_good lists_in marked_good
  face-spelled =
      record {
        fits = face-fits (f 3) (here 3);
        marked = refl;
        lists-same = refl;
        held = sym (rw (and-true, and-true));
        kept = rw (three-kept (n4 2) (n4 6) (n4 10) (n4 14) (n4 18) (n4 22) (sense (sense_of (n4 26))) (n4 26), sense-kept (n4 26), same_none, and-true, and-true);
      }
    where
      same_none : same_bytes [] [] ≡ true
      same_none = unfold same_bytes in refl

  abbrev n8 : ℕ → ℕ
  n8 q = number 8 (drop q s)

  edge-spelled : Spelled 6 s (f 6) (spelled 6 (f 6))
  unfolding spelled mark_good fields_here numbers_at holds within tolerance_held fields_good lists_in marked_good same_bytes
  edge-spelled =
      record {
        fits = edge-fits (f 6) (here 6);
        marked = refl;
        lists-same = refl;
        held = simp and-true;
        kept = rw (three-kept (n4 2) (n4 6) (n4 10) (n4 14) (n4 18) (n4 22) (tag (tolerance_of (n4 26) (of_bits binary64 (n8 30)))) (n4 26), tag-kept (n4 26) (of_bits binary64 (n8 30)), ← tolerance-kept (n4 26) (n8 30) (bits_below 30)) (simp (and-true, and_assoc));
      }

  vertex-spelled : Spelled 7 s (f 7) (spelled 7 (f 7))
  unfolding spelled mark_good fields_here numbers_at holds within tolerance_held fields_good lists_in same_bytes vertex_good bits_good
  vertex-spelled =
      record {
        fits = vertex-fits (f 7) (here 7);
        marked = refl;
        lists-same = refl;
        held = refl;
        kept = rw (tag-kept (n4 2) (of_bits binary64 (n8 30)), ← tolerance-kept (n4 2) (n8 30) (bits_below 30)) (simp (and-true, and_assoc));
      }

  abbrev six : List ℕ
  six = six_of (n8 6) (n8 14) (n8 22) (n8 30) (n8 38) (n8 46)

  curve-spelled : Spelled 8 s (f 8) (spelled 8 (f 8))
  unfolding spelled mark_good fields_here numbers_at holds within tolerance_held fields_good lists_in carrier_good
  curve-spelled =
      record {
        fits = carrier-fits (f 8) (here 8) 8 (omega arith) refl refl refl;
        marked = refl;
        lists-same = refl;
        held = refl;
        kept = rw and-true (carrier-kept (n4 2) (n8 6) (n8 14) (n8 22) (n8 30) (n8 38) (n8 46));
      }

  surface-spelled : Spelled 9 s (f 9) (spelled 9 (f 9))
  unfolding spelled mark_good fields_here numbers_at holds within tolerance_held fields_good lists_in carrier_good
  surface-spelled =
      record {
        fits = carrier-fits (f 9) (here 9) 9 (omega arith) refl refl refl;
        marked = refl;
        lists-same = refl;
        held = refl;
        kept = rw and-true (carrier-kept (n4 2) (n8 6) (n8 14) (n8 22) (n8 30) (n8 38) (n8 46));
      }

  -- ---- by table

  pub all-spelled : (k : ℕ) → k < 10 → Spelled k s (fields_here k s) (spelled k (fields_here k s))
  all-spelled zero h = body_spelled
  all-spelled (suc zero) h = region-spelled
  all-spelled (suc (suc zero)) h = shell-spelled
  all-spelled (suc (suc (suc zero))) h = face-spelled
  all-spelled (suc (suc (suc (suc zero)))) h = loop-spelled
  all-spelled (suc (suc (suc (suc (suc zero))))) h = fin-spelled
  all-spelled (suc (suc (suc (suc (suc (suc zero)))))) h = edge-spelled
  all-spelled (suc (suc (suc (suc (suc (suc (suc zero))))))) h = vertex-spelled
  all-spelled (suc (suc (suc (suc (suc (suc (suc (suc zero)))))))) h = curve-spelled
  all-spelled (suc (suc (suc (suc (suc (suc (suc (suc (suc zero))))))))) h = surface-spelled
  all-spelled (suc (suc (suc (suc (suc (suc (suc (suc (suc (suc k)))))))))) h = absurd (omega arith)
