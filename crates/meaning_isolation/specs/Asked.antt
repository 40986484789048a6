-- Which id a body is for an office, what is told of an id that names no body, and that tables agree under what is met from an own body in both models. Assumes nothing.
use Rattle.std.specs.Prelude.{ℕ, ◌<◌, ◌≡◌, Bool, cond, ◌&&◌, eqb, leb}
use Rattle.std.proofs.Common.{arith, sym, ◌∙◌}
use Rattle.std.proofs.Math.Path.{refl, ap₂}
use Rattle.std.proofs.Math.Bool.{true, false, not}
use Rattle.std.proofs.lemmas.Bool.{false≢true}
use mathlib.Core.List.{List}
use borrow.Author.Tests.{ltb-true, le-ltb}
use Rattle.geom_lines_planes.specs.Refuse.{◌unless◌, ◌then◌}
use Rattle.meaning.specs.Lists.{run, member}
use Rattle.meaning.specs.Model.{Model, Table, has, body}
use Rattle.meaning.specs.Refuse.{refused, answered}
use Rattle.meaning.specs.Walks.{faces_refusal, edges_refusal, vertices_refusal}
use Rattle.meaning.specs.Inquire.{require_polyhedral, box_refusal, volume_refusal}
use Rattle.meaning.specs.Faults.{CheckOptions, findings, report_of, check_refusal, check_body, fit_to_saw}
use Rattle.meaning.specs.Offices.{office_number, foreign, body_for}
use Rattle.meaning_sheets.specs.Sheets.{stone_refusal}
use Rattle.meaning_list_laws.specs.Tests.{and_both}
use Rattle.meaning_isolation.specs.Reached.{Agree}
use Rattle.meaning_isolation.specs.Laws.{any-in, member-run}
use Rattle.meaning_isolation.specs.Told.{SameAnswers, NoSuchBody}
use Rattle.meaning_isolation.specs.Offices.{own, ours, OnlyTheirs}

-- ---- the id that a body is for an office

module _ (m : Model) (o b : ℕ) where
  -- the body is there for its office alone
  pub there-for : has m.bodies (body_for m o b) ≡ own m o b
  unfolding body_for
  there-for = go (has m.bodies b) (eqb (office_number (body m b).office) o) refl
    where
      go : (h e : Bool) → has m.bodies b ≡ h → has m.bodies (cond (h && not e) m.bodies.used b) ≡ (h && e)
      go true true q = q
      go true false q = le-ltb m.bodies.used m.bodies.used (omega arith)
      go false e q = q

  -- the other's body is not its own
  pub foreign-other : foreign m o b ≡ true → own m o b ≡ false
  foreign-other h =
      let p = and_both (has m.bodies b) (not (eqb (office_number (body m b).office) o)) h in
      rw p.0 (go (eqb (office_number (body m b).office) o) p.1)
    where
      go : (t : Bool) → not t ≡ true → t ≡ false
      go true q = absurd (false≢true q)
      go false q = refl

  pub own-itself : own m o b ≡ true → body_for m o b ≡ b
  unfolding body_for
  own-itself h =
      let p = and_both (has m.bodies b) (eqb (office_number (body m b).office) o) h in
      rw (p.0, p.1)

-- ---- an id that names no body

module _ (m : Model) (b : ℕ) (gone : has m.bodies b ≡ false) where
  faces-none : faces_refusal m b ≡ 2
  unfolding faces_refusal
  faces-none = rw gone

  edges_none : edges_refusal m b ≡ 2
  unfolding edges_refusal
  edges_none = rw faces-none

  vertices-none : vertices_refusal m b ≡ 2
  unfolding vertices_refusal
  vertices-none = rw edges_none

  polyhedral-none : require_polyhedral m b ≡ 2
  unfolding require_polyhedral
  polyhedral-none = rw faces-none

  box-none : box_refusal m b ≡ 2
  unfolding box_refusal
  box-none = rw polyhedral-none

  volume-none : volume_refusal m b ≡ 2
  unfolding volume_refusal
  volume-none = rw polyhedral-none

  stone-none : stone_refusal m b ≡ 2
  unfolding stone_refusal
  stone-none = rw volume-none

  report-none : (c : CheckOptions) → check_body m c b ≡ refused (1 unless leb c.edge_samples 255 then 2)
  unfolding check_refusal
  report-none c = rw gone (go (leb c.edge_samples 255))
    where
      go : (t : Bool) → answered (1 unless t then 2) (report_of (findings m c b)) ≡ refused (1 unless t then 2)
      go true = refl
      go false = refl

  fit_none : fit_to_saw m b ≡ refused 2
  unfolding check_refusal
  fit_none = rw gone

  pub no-such-body : NoSuchBody m b
  no-such-body =
      record {
        faces = rw faces-none;
        edges = rw edges_none;
        vertices = rw vertices-none;
        box = rw box-none;
        volume = rw volume-none;
        stone = rw stone-none;
        report = report-none;
        fit = fit_none;
      }

-- two ids that name no body
gone_same : (m n : Model) (b c : ℕ) → NoSuchBody m b → NoSuchBody n c → SameAnswers m n b c
gone_same m n b c g h =
    record {
      faces = g.faces ∙ sym h.faces;
      edges = g.edges ∙ sym h.edges;
      vertices = g.vertices ∙ sym h.vertices;
      box = g.box ∙ sym h.box;
      volume = g.volume ∙ sym h.volume;
      stone = g.stone ∙ sym h.stone;
      report = λ o. g.report o ∙ sym (h.report o);
      fit = g.fit ∙ sym h.fit;
    }

-- where the office's own bodies are the same ones, it is enough that of these the same is told
pub told-by : (m n : Model) (o b : ℕ) → own m o b ≡ own n o b → (own m o b ≡ true → SameAnswers m n b b) → SameAnswers m n (body_for m o b) (body_for n o b)
told-by m n o b e f = by (own m o b) refl
  where
    by : (t : Bool) → own m o b ≡ t → SameAnswers m n (body_for m o b) (body_for n o b)
    by true h = rw (own-itself m o b h, own-itself n o b (sym e ∙ h)) (f h)
    by false h =
        gone_same m n (body_for m o b) (body_for n o b)
        (no-such-body m (body_for m o b) (there-for m o b ∙ h))
        (no-such-body n (body_for n o b) (there-for n o b ∙ sym e ∙ h))

-- ---- models that differ in the other's records only

-- what is met from a body of the office is the office's
met-ours : (met : Model → ℕ → List ℕ) (m : Model) (o b i : ℕ) → own m o b ≡ true → member i (met m b) ≡ true → ours met m o i ≡ true
unfolding ours
met-ours met m o b i h g =
    let below : b < m.bodies.used = ltb-true b m.bodies.used (and_both (has m.bodies b) (eqb (office_number (body m b).office) o) h).0 in
    any-in (λ c. own m o c && member i (met m c)) (run 0 m.bodies.used) b
    (member-run m.bodies.used b below) (ap₂ ◌&&◌ h g)

-- where ids are met from an own body in both models, the tables agree under them
pub agreed : {A : Type 0} (table : Model → Table A) (met : Model → ℕ → List ℕ) (m n : Model) (o b : ℕ) → OnlyTheirs table met m n o → own m o b ≡ true → own n o b ≡ true
    → (l : List ℕ) → ((i : ℕ) → member i l ≡ true → member i (met m b) ≡ true) → ((i : ℕ) → member i l ≡ true → member i (met n b) ≡ true) → Agree l (table m) (table n)
agreed table met m n o b d h g l p q =
    record {
      there = λ i a. d.there i (met-ours met m o b i h (p i a));
      same = λ i a t.
          let here = met-ours met m o b i h (p i a) in
          let too : has (table n) i ≡ true = sym (d.there i here) ∙ t in
          d.same i t too (d.apart i t here) (d.apart-too i too (met-ours met n o b i g (q i a)));
    }
