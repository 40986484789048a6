-- The profile behind its verdict, and behind what refuses it. Assumes nothing.
use Prim.Native.Nat.{ℕ, zero, suc, ◌≤◌, ◌<◌}
use Rattle.std.proofs.Common.{arith, ◌∙◌, subst}
use Rattle.std.specs.Prelude.{◌≡◌, Bool, ◌&&◌, Float}
use Rattle.std.proofs.Math.Path.{refl, sym, ap}
use Rattle.std.proofs.Math.Bool.{true, false}
use Rattle.std.proofs.lemmas.Bool.{false≢true}
use mathlib.Core.List.{List, [], ◌∷◌, map}
use Rattle.std.proofs.Math.Dec.{eqb}
use Rattle.std.proofs.Math.ListN.{length, length-map}
use borrow.Author.Tests.{lt-ltb, le-ltb, eq-eqb}
use Rattle.geom_lines_planes.specs.Refuse.{◌unless◌, ◌then◌}
use Rattle.meaning.specs.Lists.{all, the, is_some}
use Rattle.meaning.specs.Model.{Model, has, body}
use Rattle.meaning.specs.Refuse.{first_of}
use Rattle.meaning.specs.Walks.{face_walk}
use Rattle.meaning.specs.Inquire.{is_solid, require_polyhedral, start_of, rim}
use Rattle.meaning_list_laws.specs.Tests.{and_both}
use Rattle.meaning_slabs.specs.Slabs.{accepted, profile, verdict, one_loop, level_face, standing, face_area, areas, area_sum, short_list, profile_refusal}
use Rattle.meaning_slab_laws.specs.Verdicts.{accepted-holds}
use Rattle.memory_layout.specs.Decode.{decode}
use Rattle.memory_layout.specs.Entries.{list_of}
use Rattle.memory_layout.specs.Readable.{readable}
use Rattle.memory_layout.specs.Fit.{Lists}
use Rattle.memory_writes.specs.Put.{over}
use Rattle.walk_answers.specs.Calls.{reach}
use Rattle.walk_answers.specs.Decoded.{refused_by}
use Rattle.walk_answers.specs.Laws.{refused-before, face-list}
use Rattle.walk_paths.specs.Paths.{face_list, Edged}
use Rattle.walk_paths.specs.Laws.{faces-short}
use Rattle.inquire_fin_starts.specs.Starts.{start_number}
use Rattle.inquire_fin_starts.specs.Laws.{start-number}
use Rattle.inquire_sides.specs.Sides.{rim_of, face_whole}
use Rattle.inquire_regions.specs.Whole.{walk-whole}
use Rattle.slab_areas.specs.Measured.{measurable}
use Rattle.slab_rules.specs.declared.Verdict.{Verdict}
use Rattle.slab_rules.specs.Judged.{verdict_of, named}
use Rattle.slab_profile.specs.declared.Profile.{Profile}
use Rattle.slab_profile.specs.declared.Profile.TheVariants as Profiles
use Rattle.slab_profile.specs.Answers.{told, profile_number, profile_answer, profile_list}
use Rattle.slab_profile.specs.Told.{Told, solid_number}

-- ---- refused, and told with another number that is the same

module _ (m : Model) (b : ℕ) where
  pub told-refused : (n : ℕ) (l : List ℕ) → (n ≡ 0 → ⊥) → Told m b n l l (Profiles.Refused n)
  told-refused zero l h = absurd (h refl)
  told-refused (suc n) l h = record { told = refl; list = refl }

  pub told_same : (n k : ℕ) (l out : List ℕ) (r : Profile) → n ≡ k → Told m b n l out r → Told m b k l out r
  told_same n k l out r e t = subst (λ i. Told m b i l out r) e t

  -- ---- behind the verdict

  module _ (v : Verdict) (e : verdict_of v ≡ verdict m b) (l : List ℕ) where
    by-rule : (r x : ℕ) → named r x ≡ verdict m b → (r ≡ 0 → ⊥) → Told m b (short_list m b (length l)) l l (Profiles.Broken (record { rule = r; entity = x }))
    unfolding short_list profile
    by-rule zero x q h = absurd (h refl)
    by-rule (suc k) x q h = record { told = rw (← q) refl; list = rw (← q) refl }

    pub told-broken : (v.rule ≡ 0 → ⊥) → Told m b (short_list m b (length l)) l l (Profiles.Broken (record { rule = v.rule; entity = v.entity }))
    told-broken h = by-rule v.rule v.entity e h

    is-accepted : (r x : ℕ) → named r x ≡ verdict m b → r ≡ 0 → verdict m b ≡ accepted
    is-accepted zero x q h = sym q
    is-accepted (suc k) x q h = absurd (omega arith)

    pub verdict-accepts : v.rule ≡ 0 → verdict m b ≡ accepted
    verdict-accepts h = is-accepted v.rule v.entity e h

    module _ (walk : List ℕ) (w : walk ≡ face_walk m b) (z : v.rule ≡ 0) where
      long : length (areas m b) ≡ length walk
      unfolding areas
      long = length-map (face_walk m b) (face_area m) ∙ ap length (sym w)

      pub told-short : length l < length walk → Told m b (short_list m b (length l)) l l (Profiles.Refused 8)
      unfolding short_list
      told-short h = let less = lt-ltb (length l) (length (areas m b)) (omega (arith, long)) in record { told = rw (verdict-accepts z, less) refl; list = rw (verdict-accepts z, less) refl }

      pub told-area : (n : ℕ) (out : List ℕ) → length walk ≤ length l → n ≡ area_sum (map (face_area m) walk) → out ≡ over 0 (map (face_area m) walk) l → Told m b (short_list m b (length l)) l out (Profiles.Accepted n)
      unfolding short_list profile
      told-area n out h en eo =
          let walked : map (face_area m) walk ≡ areas m b = unfold areas in ap (map (face_area m)) w in
          let fits = le-ltb (length l) (length (areas m b)) (omega (arith, long)) in
          record {
            told = rw (verdict-accepts z, fits) (ap Profiles.Accepted (en ∙ ap area_sum walked));
            list = rw (verdict-accepts z, fits) (eo ∙ ap (λ t. over 0 t l) walked);
          }

-- ---- an accepted body's faces can be measured

module _ (room w : List ℕ) (x : List Float) where
  start-there : (i : ℕ) → standing (decode room w x) (start_of (decode room w x) i) ≡ true → start_number room w i ≡ 0
  start-there i h = by (is_some (start_of (decode room w x) i)) (has (decode room w x).vertices (the (start_of (decode room w x) i))) (start-number room w x i) h
    where
      by : (a b : Bool) → start_number room w i ≡ (7 unless a then 2 unless b) → (a && b) ≡ true → start_number room w i ≡ 0
      by true true e h = e
      by true false e h = absurd (false≢true h)
      by false b e h = absurd (false≢true h)

  starts-there : (l : List ℕ) → all (λ i. standing (decode room w x) (start_of (decode room w x) i)) l ≡ true → first_of (start_number room w) l ≡ 0
  unfolding all first_of
  starts-there [] h = refl
  starts-there (i ∷ l) h =
      let both = and_both (standing (decode room w x) (start_of (decode room w x) i)) (all (λ i. standing (decode room w x) (start_of (decode room w x) i)) l) h in
      rw (start-there i both.0) (starts-there l both.1)

  face-measurable : (f : ℕ) → face_whole room w f ≡ true → one_loop (decode room w x) f ≡ true → level_face (decode room w x) f ≡ true → measurable room w f ≡ true
  unfolding measurable one_loop level_face
  face-measurable f h o l =
      let stand = (and_both (all (λ i. standing (decode room w x) (start_of (decode room w x) i)) (rim (decode room w x) f)) _ l).0 in
      let rims : rim (decode room w x) f ≡ rim_of room w f = unfold decode rim_of list_of in refl in
      let starts : first_of (start_number room w) (rim_of room w f) ≡ 0 = ap (first_of (start_number room w)) (sym rims) ∙ starts-there (rim (decode room w x) f) stand in
      let one : eqb (length (list_of room w 5 f)) 1 ≡ true = unfold decode list_of in o in
      rw (h, one, eq-eqb (first_of (start_number room w) (rim_of room w f)) 0 starts)

  both-measurable : (l : List ℕ) → all (face_whole room w) l ≡ true → all (one_loop (decode room w x)) l ≡ true → all (level_face (decode room w x)) l ≡ true → all (measurable room w) l ≡ true
  unfolding all
  both-measurable [] h o v = refl
  both-measurable (f ∷ l) h o v =
      let a = and_both (face_whole room w f) (all (face_whole room w) l) h in
      let c = and_both (one_loop (decode room w x) f) (all (one_loop (decode room w x)) l) o in
      let d = and_both (level_face (decode room w x) f) (all (level_face (decode room w x)) l) v in
      rw (face-measurable f a.0 c.0 d.0) (both-measurable l a.1 c.1 d.1)

  pub faces-measurable : (b : ℕ) (walk : List ℕ) → Lists room w → Edged room w b → walk ≡ face_walk (decode room w x) b → verdict (decode room w x) b ≡ accepted → all (measurable room w) walk ≡ true
  faces-measurable b walk lists d e v =
      let r = accepted-holds (decode room w x) b v in
      ap (all (measurable room w)) e ∙ both-measurable (face_walk (decode room w x) b) (walk-whole room w x b lists d) r.loops r.corners

-- ---- by its kind, and behind the walks

pub solid-not : (m : Model) (b n : ℕ) → is_solid (body m b).kind ≡ false → 6 ≡ solid_number m b n
unfolding solid_number
solid-not m b n e = rw e

pub solid-is : (m : Model) (b n : ℕ) → is_solid (body m b).kind ≡ true → short_list m b n ≡ solid_number m b n
unfolding solid_number
solid-is m b n e = rw e

module _ (room w : List ℕ) (x : List Float) (b : ℕ) (face_marks edge_marks list : List ℕ) where
  abbrev m : Model
  m = decode room w x

  abbrev enough : Bool
  enough = reach room 3 face_marks && reach room 6 edge_marks

  number_is : profile_number room w x b face_marks edge_marks list ≡ (9 unless readable room w x then 8 unless enough then (require_polyhedral m b then solid_number m b (length list)))
  unfolding profile_number profile_refusal solid_number
  number_is = refl

  -- all that is told, with the call's number
  pub profile-told : (r : Profile) (out : List ℕ) → Told m b (profile_number room w x b face_marks edge_marks list) list out r → (r ≡ profile_answer room w x b face_marks edge_marks list) × (out ≡ profile_list room w x b face_marks edge_marks list)
  unfolding profile_answer profile_list
  profile-told r out t = (t.told, t.list)

  pub profile-refused : (n : ℕ) → n ≡ refused_by (readable room w x) enough (require_polyhedral m b) → (n ≡ 0 → ⊥) → n ≡ profile_number room w x b face_marks edge_marks list
  unfolding refused_by
  profile-refused n e z = refused-before (readable room w x) enough (require_polyhedral m b) n e z (solid_number m b (length list)) ∙ sym number_is

  pub profile-passed : refused_by (readable room w x) enough (require_polyhedral m b) ≡ 0 → solid_number m b (length list) ≡ profile_number room w x b face_marks edge_marks list
  unfolding refused_by
  profile-passed z = sym (number_is ∙ by (readable room w x) enough z)
    where
      by : (r t : Bool) → (9 unless r then 8 unless t then require_polyhedral m b) ≡ 0 → (9 unless r then 8 unless t then (require_polyhedral m b then solid_number m b (length list))) ≡ solid_number m b (length list)
      by true true h = rw h
      by true false h = absurd (omega arith)
      by false t h = absurd (omega arith)

-- what is there is few
pub walk-short : (room w : List ℕ) (x : List Float) (b : ℕ) → Lists room w → Edged room w b → (walk : List ℕ) → walk ≡ face_walk (decode room w x) b → length walk ≤ 512
unfolding face_list
walk-short room w x b lists d walk e = subst (λ (l : List ℕ). length l ≤ 512) (sym (e ∙ face-list room w x b)) (faces-short room w b lists d.looped.faced)
