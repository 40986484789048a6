-- What an accepted call answers, read back, and walks that are the same as those that gained one. Assumes nothing.
use Rattle.std.specs.Prelude.{ℕ, ◌≡◌, true, List, Float}
use Rattle.std.proofs.Common.{sym, ◌∙◌}
use Rattle.geom_lines_planes.specs.Refuse.{answer}
use Rattle.meaning.specs.Model.{Model}
use Rattle.meaning.specs.Split.{split_refusal}
use Rattle.memory_layout.specs.Names.{EDGES, VERTICES}
use Rattle.memory_layout.specs.Layout.{word}
use Rattle.memory_layout.specs.Decode.{decode}
use Rattle.memory_layout.specs.Readable.{readable}
use Rattle.memory_layout.specs.Limits.{limits}
use Rattle.split_place.specs.SplitNumber.{split_number}
use Rattle.station_answers.specs.declared.EdgeSplit.{EdgeSplit}
use Rattle.station_answers.specs.declared.Split.TheVariants.{Is, Refused}
use Rattle.split_edge.specs.After.{split_answer}
use Rattle.meaning_split_laws.specs.Terms.{OneMore, SameWalks}
use Rattle.geom_lines_planes.specs.Laws.{Cases, read-value, read-refusal}

split-cases : Cases Is Refused
split-cases = record { apart = λ b m e. cc; values = λ a b e. cc; numbers = λ m n e. cc }

pub number-given : (k : ℕ) (v r : EdgeSplit) → answer Is Refused k v ≡ Is r → k ≡ 0
number-given k v r q = (read-value split-cases k v r q).number

pub number-refused : (k : ℕ) (v : EdgeSplit) (n : ℕ) → answer Is Refused k v ≡ Refused n → k ≡ n
number-refused k v n q = let d = read-refusal split-cases k n v q in d.number ∙ sym d.given

value-given : (k : ℕ) (v r : EdgeSplit) → answer Is Refused k v ≡ Is r → v ≡ r
value-given k v r q = (read-value split-cases k v r q).value

module _ (room w : List ℕ) (x : List Float) (e : ℕ) (t : Float) (r : EdgeSplit) (a : split_answer room w x e t ≡ Is r) where
  pub call-accepted : readable room w x ≡ true → split_refusal (limits room) (decode room w x) e t ≡ 0
  unfolding split_answer split_number
  call-accepted h = rw h at (number-given (split_number room w x e t) _ r a)

  pub call-value : record { original_edge = e; new_edge = word w EDGES; vertex = word w VERTICES } ≡ r
  unfolding split_answer
  call-value = value-given (split_number room w x e t) _ r a

pub walks-trans : (m n o : Model) (b : ℕ) → SameWalks m n b → SameWalks n o b → SameWalks m o b
walks-trans m n o b a s = record { faces = s.faces ∙ a.faces; edges = s.edges ∙ a.edges; vertices = s.vertices ∙ a.vertices }

pub more_same : (m n o : Model) (b p q : ℕ) → OneMore m n b p q → SameWalks n o b → OneMore m o b p q
more_same m n o b p q a s =
    record {
      faces = s.faces ∙ a.faces;
      new-edge = rw s.edges a.new-edge;
      old-edges = rw s.edges a.old-edges;
      edges = rw s.edges a.edges;
      new-vertex = rw s.vertices a.new-vertex;
      old-vertices = λ v d. rw s.vertices (a.old-vertices v d);
      vertices = rw s.vertices a.vertices;
    }
