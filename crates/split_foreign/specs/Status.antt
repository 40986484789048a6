-- What the pass from the fins up gives each record, for one edge e: 0 where the edge walk that goes on from it does not meet e, 1 where it does, 2 where a record that
-- the walk follows is missing. A body has the edge exactly where its status is 1 (`has-edge` in Met.antt). Definitions only.
use Rattle.std.specs.Prelude.{ℕ, Bool, cond, not, ◌&&◌, List, [], ◌∷◌, eqb, ltb, get_or}
use Rattle.meaning.specs.Lists.{run, any, member}
use Rattle.meaning.specs.Formed.{bit}
use Rattle.meaning.specs.Offices.{body_for}
use Rattle.memory_layout.specs.Names.{BODIES, REGIONS, SHELLS, FACES, LOOPS, FINS, BODY_REGIONS, REGION_SHELLS, SHELL_FACES, SHELL_WIRES, FACE_LOOPS, LOOP_FINS, AT_FIN_EDGE}
use Rattle.memory_layout.specs.Layout.{word, words_of}
use Rattle.memory_layout.specs.Decode.{decode}
use Rattle.memory_layout.specs.Entries.{list_of}

unfoldable pub greater : ℕ → ℕ → ℕ
greater a b = cond (ltb a b) b a

-- the greatest of what the entries lead to
unfoldable pub greatest : (ℕ → ℕ) → List ℕ → ℕ
greatest f [] = 0
greatest f (i ∷ l) = greater (f i) (greatest f l)

-- what an entry leads to: the status of its record, and 2 where it names none of n records; and so in a row of statuses
abbrev pub entry : ℕ → (ℕ → ℕ) → ℕ → ℕ
entry n f i = cond (ltb i n) (f i) 2

abbrev pub standing : List ℕ → ℕ → ℕ
standing s i = get_or s i 2

module _ (room w : List ℕ) where
  module _ (e : ℕ) where
    unfoldable pub fin_status : ℕ → ℕ
    fin_status i = bit (eqb e (word (words_of room w FINS i) AT_FIN_EDGE))

    -- by list j of the record, whose entries lead to f; a shell's wire edges are listed by the walk, not followed
    unfoldable pub record_status : ℕ → (ℕ → ℕ) → ℕ → ℕ
    record_status j f i =
        let s = greatest f (list_of room w j i) in
        cond (eqb j SHELL_FACES) (greater s (bit (member e (list_of room w SHELL_WIRES i)))) s

    unfoldable pub body_status : ℕ → ℕ
    body_status =
        record_status BODY_REGIONS (entry (word w REGIONS)
        (record_status REGION_SHELLS (entry (word w SHELLS)
        (record_status SHELL_FACES (entry (word w FACES)
        (record_status FACE_LOOPS (entry (word w LOOPS)
        (record_status LOOP_FINS (entry (word w FINS) fin_status)))))))))

  -- the body is the other office's: its id is another for the office (of `decode` the floats make no difference)
  abbrev pub others : ℕ → ℕ → Bool
  others o b = not (eqb (body_for (decode room w []) o b) b)

  -- one of the other office's bodies has the status 1
  unfoldable pub others_with : ℕ → (ℕ → ℕ) → Bool
  others_with o f = any (λ b. others o b && eqb (f b) 1) (run 0 (word w BODIES))
