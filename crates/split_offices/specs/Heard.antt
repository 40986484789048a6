-- Calls by offices leave what the calls without offices leave that `heard` says, in any memory: `calls-heard`. Assumes nothing.
use Rattle.std.specs.Prelude.{ℕ, zero, suc, ◌≡◌, refl, Bool, true, false, cond, List, [], ◌∷◌, eqb, leb, Float}
use Rattle.std.proofs.Common.{arith, sym, ap₂, ◌∙◌, ne_eqb}
use Rattle.std.proofs.Math.Path.{ap}
use Rattle.geom_lines_planes.specs.Refuse.{◌unless◌, ◌then◌}
use Rattle.meaning.specs.Split.{Cut}
use Rattle.meaning.specs.Offices.{edge_for, office_split_refusal, OfficeCut}
use Rattle.memory_layout.specs.Decode.{decode}
use Rattle.memory_layout.specs.Readable.{readable}
use Rattle.memory_writes.specs.Put.{unless_refused}
use Rattle.split_writes.specs.Written.{words_split}
use Rattle.split_place.specs.SplitNumber.{split_number, office_split_number}
use Rattle.split_edge.specs.After.{reals_split, split_words, split_reals, office_split_words, office_split_reals}
use Rattle.split_edge.specs.Rooms.{office-accepted}
use Rattle.split_sequences.specs.Sequence.{calls_words, calls_reals, calls_edges}
use Rattle.split_offices.specs.Calls.{office_calls_words, office_calls_reals, office_calls_edges, heard}

-- the same number, and what is written the same where it is 0
same_left : {A : Type 0} (n k : ℕ) (a b l : A) → n ≡ k → (n ≡ 0 → a ≡ b) → unless_refused n a l ≡ unless_refused k b l
same_left zero k a b l q h = rw (← q) (h refl)
same_left (suc n) k a b l q h = rw (← q)

same-listed : (n k e f : ℕ) (a b : List ℕ) → n ≡ k → (n ≡ 0 → e ≡ f) → a ≡ b → cond (eqb n 0) (e ∷ a) a ≡ cond (eqb k 0) (f ∷ b) b
same-listed zero k e f a b q h p = rw (← q, h refl, p)
same-listed (suc n) k e f a b q h p = rw (← q, ne_eqb (suc n) 0 (λ z. omega arith)) p

-- ---- one call

module _ (room w : List ℕ) (x : List Float) (o e : ℕ) (t : Float) where
  module _ (h : leb o 1 ≡ true) where
    pub heard-number : office_split_number room w x o e t ≡ split_number room w x (edge_for (decode room w x) o e) t
    unfolding office_split_number office_split_refusal split_number
    heard-number = rw h

    pub heard-words : office_split_words room w x o e t ≡ split_words room w x (edge_for (decode room w x) o e) t
    unfolding office_split_words split_words
    heard-words = same_left _ _ _ _ w heard-number (λ z. ap (words_split room w) (sym (office-accepted room w x o e t z).0))

    pub heard-reals : office_split_reals room w x o e t ≡ split_reals room w x (edge_for (decode room w x) o e) t
    unfolding office_split_reals split_reals
    heard-reals = same_left _ _ _ _ x heard-number (λ z. ap (λ i. reals_split room w x i t) (sym (office-accepted room w x o e t z).0))

  -- a refused one leaves every word and float as it was
  pub refused-left : (n : ℕ) → office_split_number room w x o e t ≡ suc n → (office_split_words room w x o e t ≡ w) × (office_split_reals room w x o e t ≡ x)
  unfolding office_split_words office_split_reals
  refused-left n z = rw z (refl, refl)

  -- "1 for an office above 1, right after 9"
  pub above-number : leb o 1 ≡ false → office_split_number room w x o e t ≡ (9 unless readable room w x then 1)
  unfolding office_split_number office_split_refusal
  above-number h = rw h

  pub above-refused : leb o 1 ≡ false → (n : ℕ) × (office_split_number room w x o e t ≡ suc n)
  above-refused h = by (readable room w x) (above-number h)
    where
      by : (b : Bool) → office_split_number room w x o e t ≡ (9 unless b then 1) → (n : ℕ) × (office_split_number room w x o e t ≡ suc n)
      by true q = (0, q)
      by false q = (8, q)

-- ---- a sequence

pub record Heard (room w : List ℕ) (x : List Float) (l : List OfficeCut) (k : List Cut) : Type 0 where
  pub words : office_calls_words room w x l ≡ calls_words room w x k
  pub reals : office_calls_reals room w x l ≡ calls_reals room w x k
  pub edges : office_calls_edges room w x l ≡ calls_edges room w x k

pub calls-heard : (room w : List ℕ) (x : List Float) (l : List OfficeCut) → Heard room w x l (heard room w x l)
unfolding office_calls_words office_calls_reals office_calls_edges calls_words calls_reals calls_edges heard
calls-heard room w x [] = record { words = refl; reals = refl; edges = refl }
calls-heard room w x (c ∷ l) = by (leb o 1) refl (calls-heard room w' x' l)
  where
    o : ℕ
    o = c.office

    e : ℕ
    e = c.edge

    t : Float
    t = c.fraction

    w' : List ℕ
    w' = office_split_words room w x o e t

    x' : List Float
    x' = office_split_reals room w x o e t

    rest : List Cut
    rest = heard room w' x' l

    by : (b : Bool) → leb o 1 ≡ b → Heard room w' x' l rest → Heard room w x (c ∷ l) (cond b (record { edge = edge_for (decode room w x) o e; fraction = t } ∷ rest) rest)
    by true h r =
        let p = heard-words room w x o e t h in
        let q = heard-reals room w x o e t h in
        record {
          words = r.words ∙ ap₂ (λ v y. calls_words room v y rest) p q;
          reals = r.reals ∙ ap₂ (λ v y. calls_reals room v y rest) p q;
          edges =
              same-listed _ _ e (edge_for (decode room w x) o e) _ _ (heard-number room w x o e t h) (λ z. sym (office-accepted room w x o e t z).0)
              (r.edges ∙ ap₂ (λ v y. calls_edges room v y rest) p q);
        }
    by false h r =
        let n = above-refused room w x o e t h in
        let s = refused-left room w x o e t n.0 n.1 in
        record {
          words = r.words ∙ ap₂ (λ v y. calls_words room v y rest) s.0 s.1;
          reals = r.reals ∙ ap₂ (λ v y. calls_reals room v y rest) s.0 s.1;
          edges = rw (n.1, ne_eqb (suc n.0) 0 (λ z. omega arith)) (r.edges ∙ ap₂ (λ v y. calls_edges room v y rest) s.0 s.1);
        }
