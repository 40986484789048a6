-- The theorems of specs/Alone.antt that rest on those of specs/ that the edits of must-fail/ make fail. Assumes nothing.
use Rattle.std.specs.Prelude.{ℕ, ◌≡◌, refl, List, [], ◌∷◌, Float}
use Rattle.std.proofs.Common.{sym, ap, ◌∙◌}
use Rattle.std.proofs.lemmas.Bool.{false≢true}
use Rattle.meaning.specs.Model.{Model, Limits, body}
use Rattle.meaning.specs.Split.{split_line_edge, model_after, Cut, after_all}
use Rattle.meaning.specs.Offices.{body_for, edge_for, office_split, office_model_after, office_after_all}
use Rattle.meaning_isolation.specs.Told.{SameAnswers}
use Rattle.meaning_isolation.specs.Apart.{alike-itself}
use Rattle.meaning_isolation.proofs.Statements.{alike-answers}
use Rattle.meaning_office_laws.specs.Terms.{OneOffice, made_by, AsBefore}
use Rattle.meaning_office_laws.specs.Passed.{none_in, passed-number, passed-after}
use Rattle.meaning_office_laws.specs.Alone.{none-foreign, alone-after}

module _ (m : Model) (o : ℕ) (a : OneOffice m o) where
  pub body-alone : (b : ℕ) → body_for m o b ≡ b
  unfolding body_for
  body-alone b = rw (none-foreign m o a b)

  pub edge-alone : (e : ℕ) → edge_for m o e ≡ e
  unfolding edge_for
  edge-alone e = rw (none_in m o e (λ c h. absurd (false≢true (sym (none-foreign m o a c) ∙ h))))

  pub answers-alone : (b : ℕ) → SameAnswers m m (body_for m o b) b
  answers-alone b = rw (body-alone b) (alike-answers m m b (alike-itself m b))

  module _ (x : Limits) (e : ℕ) (t : Float) where
    pub split-alone : office_split x m o e t ≡ split_line_edge x m e t
    split-alone = rw (passed-number x m o e t a.office, edge-alone e)

    pub after-alone : office_model_after x m o e t ≡ model_after x m e t
    after-alone = passed-after x m o e t a.office ∙ ap (λ k. model_after x m k t) (edge-alone e)

pub all-alone : (x : Limits) (m : Model) (o : ℕ) → OneOffice m o → (l : List Cut) → office_after_all x m (made_by o l) ≡ after_all x m l
unfolding office_after_all after_all
all-alone x m o a [] = refl
all-alone x m o a (c ∷ l) =
    ap (λ (k : Model). office_after_all x k (made_by o l)) (after-alone m o a x c.edge c.fraction)
    ∙ all-alone x (model_after x m c.edge c.fraction) o (alone-after m o a x c.edge c.fraction) l

pub as_before : (m : Model) (o : ℕ) → OneOffice m o → AsBefore m o
as_before m o a =
    record {
      not-refused = rw a.office;
      body = body-alone m o a;
      edge = edge-alone m o a;
      answers = answers-alone m o a;
      split = split-alone m o a;
      after = after-alone m o a;
      after-all = λ x. all-alone x m o a;
    }
