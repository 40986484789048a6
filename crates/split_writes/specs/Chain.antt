-- The steps of a split one after the other: what each leaves, and what the next asks. Assumes nothing.
use Rattle.std.specs.Prelude.{ℕ, ◌+◌, ◌-◌, ◌<◌, ◌≡◌, refl, false, ◌&&◌, List, [], ◌∷◌, eqb, ltb, leb, length}
use Rattle.std.proofs.Common.{arith}
use Rattle.memory_layout.specs.Layout.{word, words_of}
use Rattle.memory_writes.specs.Put.{over}
use Rattle.split_lists.specs.Beside.{entries_for, doubled}
use Rattle.split_lists.specs.Facts.{Roomy}
use Rattle.split_pieces.specs.Pieces.{new_fin_words, second_fields, loops_put, fins_put, second_put, first_put}
use Rattle.split_pieces.specs.Facts.{Slots}
use Rattle.split_pieces.specs.Steps.{Stage, with, slots_kept, slots-fewer, roomy-kept, stage-loops, stage-wires, stage-fins, stage-second, stage-first, stage-vertex}
use Rattle.split_writes.specs.Written.{lists_put, records_put}
use Rattle.split_writes.specs.Facts.{Ready}

-- what a step asks holds behind the one before it
go_on : (room w₀ v : List ℕ) (now : ℕ → ℕ → List ℕ) (n e : ℕ) → Stage room w₀ v now → Slots room w₀ n → e < word w₀ 6 → Slots room v n × (e < word v 6)
go_on room w₀ v now n e s f h = let c = s.counts 6 (omega arith) in (slots_kept room w₀ v now n s f, omega arith)

-- ---- how the records of w₀ read behind each step

module _ (w₀ : List ℕ) (old : ℕ → ℕ → List ℕ) where
  abbrev pub with_wires : ℕ → ℕ → ℕ → List ℕ
  with_wires e = with 2 (λ j. ltb j (word w₀ 2)) (λ j. doubled (entries_for (e ∷ []) (0 ∷ []) (0 ∷ []) 0 (word w₀ 6)) 514 (old 2 j)) old

  abbrev pub with_fins : List ℕ → List ℕ → ℕ → ℕ → List ℕ
  with_fins owners senses = with 5 (λ j. leb (word w₀ 5) j && ltb j (word w₀ 5 + length owners)) (λ j. new_fin_words owners senses (word w₀ 6) (j - word w₀ 5)) old

  abbrev pub with_second : ℕ → ℕ → ℕ → ℕ → List ℕ
  with_second e n = with 6 (λ j. eqb j (word w₀ 6)) (λ _. over 0 (second_fields (old 6 e) (word w₀ 7) (word w₀ 5) n) (old 6 (word w₀ 6))) old

  abbrev pub with_first : ℕ → ℕ → ℕ → List ℕ
  with_first e = with 6 (λ j. eqb j e) (λ _. over 2 (1 ∷ word w₀ 7 ∷ []) (old 6 e)) old

  abbrev pub with_vertex : ℕ → ℕ → ℕ → List ℕ
  with_vertex e = with 7 (λ j. eqb j (word w₀ 7)) (λ _. word (old 6 e) 6 ∷ []) old

-- ---- the records

module _ (room w₀ w : List ℕ) (e : ℕ) (owners senses : List ℕ) (old : ℕ → ℕ → List ℕ) (s : Stage room w₀ w old) (f : Slots room w₀ (length owners)) (there : e < word w₀ 6) where
  abbrev n : ℕ
  n = length owners

  abbrev w₁ : List ℕ
  w₁ = fins_put room owners senses w

  abbrev old₁ : ℕ → ℕ → List ℕ
  old₁ = with_fins w₀ old owners senses

  stage₁ : Stage room w₀ w₁ old₁
  stage₁ = stage-fins room w₀ w old s n (slots_kept room w₀ w old n s f) owners senses refl

  abbrev w₂ : List ℕ
  w₂ = second_put room e n w₁

  abbrev old₂ : ℕ → ℕ → List ℕ
  old₂ = with_second w₀ old₁ e n

  stage₂ : Stage room w₀ w₂ old₂
  stage₂ = let g = go_on room w₀ w₁ old₁ n e stage₁ f there in stage-second room w₀ w₁ old₁ stage₁ n g.0 e g.1

  abbrev w₃ : List ℕ
  w₃ = first_put room e w₂

  abbrev old₃ : ℕ → ℕ → List ℕ
  old₃ = with_first w₀ old₂ e

  stage₃ : Stage room w₀ w₃ old₃
  stage₃ = let g = go_on room w₀ w₂ old₂ n e stage₂ f there in stage-first room w₀ w₂ old₂ stage₂ n g.0 e g.1

  pub records-stage : Stage room w₀ (records_put room e owners senses w) (with_vertex w₀ old₃ e)
  unfolding records_put
  records-stage = let g = go_on room w₀ w₃ old₃ n e stage₃ f there in stage-vertex room w₀ w₃ old₃ stage₃ n g.0 e g.1

  pub behind-fins : (v : List ℕ) → v ≡ w₁ → Slots room v n × (e < word v 6)
  behind-fins v q = rw q (go_on room w₀ w₁ old₁ n e stage₁ f there)

  pub behind-second : (v : List ℕ) → v ≡ w₂ → Slots room v 0 × (e < word v 6)
  behind-second v q = let g = go_on room w₀ w₂ old₂ n e stage₂ f there in rw q (slots-fewer room w₂ n g.0, g.1)

  pub behind-first : (v : List ℕ) → v ≡ w₃ → Slots room v 0 × (e < word v 6)
  behind-first v q = let g = go_on room w₀ w₃ old₃ n e stage₃ f there in rw q (slots-fewer room w₃ n g.0, g.1)

-- ---- the lists

module _ (room w : List ℕ) (e : ℕ) (fins owners senses : List ℕ) (g : Ready room w e fins owners senses) where
  abbrev now₁ : ℕ → ℕ → List ℕ
  now₁ = with 4 (λ j. ltb j (word w 4)) (λ j. doubled (entries_for fins owners senses j (word w 5)) 1 (words_of room w 4 j)) (words_of room w)

  abbrev v₁ : List ℕ
  v₁ = loops_put room fins owners senses w

  loops-stage : Stage room w v₁ now₁
  loops-stage = stage-loops room w fins owners senses g.loops

  wires-room : Roomy room v₁ 2 514 (word w 2) (e ∷ []) (0 ∷ []) (0 ∷ []) false (word w 6)
  wires-room = roomy-kept room w v₁ now₁ 2 514 (word w 2) (e ∷ []) (0 ∷ []) (0 ∷ []) false (word w 6) loops-stage (λ i. refl) g.wires

  pub behind-loops : (v : List ℕ) → v ≡ v₁ → Slots room v 0 × (e < word v 6 × Roomy room v 2 514 (word v 2) (e ∷ []) (0 ∷ []) (0 ∷ []) false (word v 6))
  behind-loops v q =
      let h = go_on room w v₁ now₁ (length owners) e loops-stage g.slots g.there in
      rw q (slots-fewer room v₁ (length owners) h.0, (h.1, rw (loops-stage.counts 2 (omega arith), loops-stage.counts 6 (omega arith)) wires-room))

  abbrev now₂ : ℕ → ℕ → List ℕ
  now₂ = with_wires w now₁ e

  pub lists-stage : Stage room w (lists_put room e fins owners senses w) now₂
  unfolding lists_put
  lists-stage =
      let h = go_on room w v₁ now₁ (length owners) e loops-stage g.slots g.there in
      stage-wires room w v₁ now₁ loops-stage (length owners) h.0 e wires-room

  pub behind-lists : (v : List ℕ) → v ≡ lists_put room e fins owners senses w → Slots room v (length owners) × (e < word v 6)
  behind-lists v q = rw q (go_on room w (lists_put room e fins owners senses w) now₂ (length owners) e lists-stage g.slots g.there)

  -- ---- all records

  abbrev pub now_all : ℕ → ℕ → List ℕ
  now_all = with_vertex w (with_first w (with_second w (with_fins w now₂ owners senses) e (length owners)) e) e

  pub all-stage : Stage room w (records_put room e owners senses (lists_put room e fins owners senses w)) now_all
  all-stage = records-stage room w (lists_put room e fins owners senses w) e owners senses now₂ lists-stage g.slots g.there

  pub behind-records : (v : List ℕ) → v ≡ records_put room e owners senses (lists_put room e fins owners senses w) → Slots room v (length owners)
  behind-records v q = rw q (slots_kept room w (records_put room e owners senses (lists_put room e fins owners senses w)) now_all (length owners) all-stage g.slots)
