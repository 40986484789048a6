-- Demand 3 over a night (W-202): splits, an image of what they left, its reading into any lent memory of the same capacities, and more splits. Assumes nothing.
-- (The ids of a well-formed model are small numbers; that the floats are of 64 bits holds of all lent memory.)
use Rattle.std.specs.Prelude.{ℕ, ◌<◌, ◌≡◌, refl, Bool, true, false, cond, List, [], ◌∷◌, ◌++◌, eqb, Float}
use Rattle.std.proofs.Common.{ap, ap₂, ◌∙◌}
use Rattle.geom_lines_planes.specs.Refuse.{answer}
use Rattle.meaning.specs.Model.{Model, Limits}
use Rattle.meaning.specs.Split.{split_refusal, model_after, Cut, after_all}
use Rattle.meaning.specs.Formed.{WellFormed}
use Rattle.memory_layout.specs.Names.{EDGES, VERTICES}
use Rattle.memory_layout.specs.Layout.{word}
use Rattle.memory_layout.specs.Decode.{decode}
use Rattle.memory_layout.specs.Readable.{lent_ok}
use Rattle.memory_layout.specs.Laws.{fit_of}
use Rattle.image_format.specs.Image.{image_of}
use Rattle.image_laws.specs.Numbers.{Doubles}
use Rattle.image_laws.specs.Models.{Machine}
use Rattle.image_reader.specs.Answers.{read_number, read_words, read_reals}
use Rattle.image_effects.specs.Fits.{machine-sound, calls-double}
use Rattle.image_effects.specs.Statements.{image-taken, image-read}
use Rattle.meaning_split_laws.specs.Terms.{split_edges}
use Rattle.meaning_split_laws.specs.Statements.{stays-well-formed}
use Rattle.meaning_split_laws.proofs.Statements.{gives-back-any}
use Rattle.memory_layout.specs.Limits.{limits}
use Rattle.split_edge.specs.After.{split_answer}
use Rattle.split_effect.specs.Statements.{HoldsModel}
use Rattle.station_answers.specs.declared.Split.TheVariants.{Is, Refused}
use Rattle.split_sequences.specs.Sequence.{calls_words, calls_reals}
use Rattle.split_sequences.specs.Same.{same-trans}
use Rattle.split_sequences.specs.Tested.{refusal-same}
use Rattle.split_sequences.specs.Followed.{Followed, number_read, followed}
use Rattle.split_sequences.specs.Statements.{Sound}
use Rattle.split_sequences.proofs.Statements.{calls-model}
use Rattle.split_sequences.proofs.Memory.{memory-stays-well-formed}

-- ---- two rows of splits, one behind the other

after_both : (m : Model) (l k : List Cut) (x : Limits) → after_all x m (l ++ k) ≡ after_all x (after_all x m l) k
unfolding after_all
after_both m [] k x = refl
after_both m (c ∷ l) k x = after_both (model_after x m c.edge c.fraction) l k x

pub edges-both : (m : Model) (l k : List Cut) (x : Limits) → split_edges x m (l ++ k) ≡ split_edges x m l ++ split_edges x (after_all x m l) k
unfolding split_edges after_all
edges-both m [] k x = refl
edges-both m (c ∷ l) k x = rw (edges-both (model_after x m c.edge c.fraction) l k x) (first (eqb (split_refusal x m c.edge c.fraction) 0))
  where
    rest : List ℕ
    rest = split_edges x (model_after x m c.edge c.fraction) l

    last : List ℕ
    last = split_edges x (after_all x (model_after x m c.edge c.fraction) l) k

    first : (b : Bool) → cond b (c.edge ∷ (rest ++ last)) (rest ++ last) ≡ cond b (c.edge ∷ rest) rest ++ last
    first true = refl
    first false = refl

-- a call answers what the model says
pub answer-held : (room w : List ℕ) (x : List Float) (m : Model) → HoldsModel room w x m → WellFormed (limits room) m → (e : ℕ) (t : Float)
    → split_answer room w x e t
    ≡ answer Is Refused (split_refusal (limits room) m e t) (record { original_edge = e; new_edge = m.edges.used; vertex = m.vertices.used })
unfolding split_answer decode
answer-held room w x m h f e t =
    ap (λ (n : ℕ). answer Is Refused n (record { original_edge = e; new_edge = word w EDGES; vertex = word w VERTICES }))
    (number_read room w x e t h.readable ∙ refusal-same (limits room) (decode room w x) m h.model f e t)
    ∙ ap₂ (λ (p q : ℕ). answer Is Refused (split_refusal (limits room) m e t) (record { original_edge = e; new_edge = p; vertex = q })) h.model.edges.used h.model.vertices.used

-- the words v and the floats y in the morning: behind the reading of the image of what the splits l left
abbrev pub morning_words : List ℕ → List ℕ → List Float → List Cut → List ℕ → List Float → List ℕ
morning_words room w x l v y = read_words room v y (image_of (decode room (calls_words room w x l) (calls_reals room w x l)))

abbrev pub morning_reals : List ℕ → List ℕ → List Float → List Cut → List ℕ → List Float → List Float
morning_reals room w x l v y = read_reals room v y (image_of (decode room (calls_words room w x l) (calls_reals room w x l)))

-- and behind the splits k of the morning
abbrev pub night_words : List ℕ → List ℕ → List Float → List Cut → List ℕ → List Float → List Cut → List ℕ
night_words room w x l v y k = calls_words room (morning_words room w x l v y) (morning_reals room w x l v y) k

abbrev pub night_reals : List ℕ → List ℕ → List Float → List Cut → List ℕ → List Float → List Cut → List Float
night_reals room w x l v y k = calls_reals room (morning_words room w x l v y) (morning_reals room w x l v y) k

module _ (room w : List ℕ) (x : List Float) (l k : List Cut) (s : Sound room w x) (double : Doubles x) (v : List ℕ) (y : List Float) (lent : lent_ok room v y ≡ true) where
  abbrev evening : Model
  evening = decode room (calls_words room w x l) (calls_reals room w x l)

  -- what all the splits make of the model, without a night
  abbrev whole : Model
  whole = after_all (limits room) (decode room w x) (l ++ k)

  evening-sound : Sound room (calls_words room w x l) (calls_reals room w x l)
  evening-sound = memory-stays-well-formed room w x l s

  evening-fits : Machine evening
  evening-fits =
      machine-sound room (calls_words room w x l) (calls_reals room w x l) (fit_of room (calls_words room w x l) (calls_reals room w x l) evening-sound.readable) evening-sound.formed.ids
      (calls-double room w x l double)

  -- the reader takes the image
  pub night-is-read : read_number room v y (image_of (decode room (calls_words room w x l) (calls_reals room w x l))) ≡ 0
  night-is-read =
      image-taken room (calls_words room w x l) (calls_reals room w x l) evening-sound.readable evening-fits room v y lent
      (fit_of room (calls_words room w x l) (calls_reals room w x l) evening-sound.readable).sized.counts

  morning-holds : HoldsModel room (morning_words room w x l v y) (morning_reals room w x l v y) evening
  morning-holds =
      image-read room (calls_words room w x l) (calls_reals room w x l) evening-sound.readable evening-fits room v y lent
      (fit_of room (calls_words room w x l) (calls_reals room w x l) evening-sound.readable).sized.counts

  pub all-formed : (c : List Cut) → WellFormed (limits room) (after_all (limits room) (decode room w x) c)
  all-formed c = stays-well-formed (limits room) (decode room w x) c s.formed

  pub morning : Followed room (morning_words room w x l v y) (morning_reals room w x l v y) (after_all (limits room) (decode room w x) l) k
  morning =
      followed room (morning_words room w x l v y) (morning_reals room w x l v y) (after_all (limits room) (decode room w x) l) k morning-holds.readable
      (same-trans _ evening _ morning-holds.model (calls-model room w x l s).model) (all-formed l)

  -- the memory holds the model that all the splits make, as without the night
  pub night-keeps-model : HoldsModel room (night_words room w x l v y k) (night_reals room w x l v y k) (after_all (limits room) (decode room w x) (l ++ k))
  night-keeps-model = rw (after_both (decode room w x) l k (limits room)) morning.holds

  abbrev behind : Model
  behind = decode room (night_words room w x l v y k) (night_reals room w x l v y k)

  pub still-there : (b : ℕ) → b < (decode room w x).bodies.used → b < whole.bodies.used
  still-there b hb = rw (gives-back-any (limits room) (decode room w x) (l ++ k)).bodies hb
