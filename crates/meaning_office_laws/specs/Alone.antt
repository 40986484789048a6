-- A model whose bodies are all of one office: for that office every body and every edge is itself. Assumes nothing.
use Rattle.std.specs.Prelude.{ℕ, ◌≡◌, refl, Bool, true, false, not, ◌&&◌, eqb, Float}
use Rattle.std.proofs.Common.{sym, ap, ◌∙◌, eq-eqb}
use Rattle.meaning.specs.Model.{Model, Body, Table, Limits, has, body}
use Rattle.meaning.specs.Split.{model_after}
use Rattle.meaning.specs.Offices.{office_number, foreign}
use Rattle.meaning_split_laws.specs.After.{bodies_kept}
use Rattle.meaning_office_laws.specs.Terms.{OneOffice}

module _ (m : Model) (o : ℕ) (a : OneOffice m o) where
  pub none-foreign : (b : ℕ) → foreign m o b ≡ false
  none-foreign b = by (has m.bodies b) (a.every_body b)
    where
      by : (h : Bool) → (h ≡ true → office_number (body m b).office ≡ o) → (h && not (eqb (office_number (body m b).office) o)) ≡ false
      by true f = rw (eq-eqb (office_number (body m b).office) o (f refl))
      by false f = refl

  module _ (x : Limits) (e : ℕ) (t : Float) where
    -- a split leaves a model of one office
    pub alone-after : OneOffice (model_after x m e t) o
    alone-after =
        record {
          office = a.office;
          every_body = λ b h. ap (λ (k : Table Body). office_number (k.slot b).office) (bodies_kept x m e t) ∙ a.every_body b (sym (ap (λ (k : Table Body). has k b) (bodies_kept x m e t)) ∙ h);
        }
