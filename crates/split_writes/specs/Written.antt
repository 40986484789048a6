-- What an accepted split leaves in the lent words (euler.rs, `split_line_edge`; 01, "Splitting", from "The parameter is" on). Each step reads and writes what the one before it
-- left; `split_pieces` says what each is. Definitions only.
use Rattle.std.specs.Prelude.{ℕ, List, length}
use Rattle.memory_layout.specs.Names.{EDGE_FINS, AT_FIN_LOOP, AT_FIN_SENSE}
use Rattle.memory_layout.specs.Entries.{list_of}
use Rattle.split_pieces.specs.Pieces.{fin_words, loops_put, wires_put, fins_put, second_put, first_put, vertex_put, counts_put}

-- the lists: those of the loops, then those of the shells
unfoldable pub lists_put : List ℕ → ℕ → List ℕ → List ℕ → List ℕ → List ℕ → List ℕ
lists_put room e fins owners senses w = wires_put room e (loops_put room fins owners senses w)

-- the records: the new fins, the new edge, the old one, the new vertex
unfoldable pub records_put : List ℕ → ℕ → List ℕ → List ℕ → List ℕ → List ℕ
records_put room e owners senses w = vertex_put room e (first_put room e (second_put room e (length owners) (fins_put room owners senses w)))

-- and their counts
unfoldable pub split_put : List ℕ → ℕ → List ℕ → List ℕ → List ℕ → List ℕ → List ℕ
split_put room e fins owners senses w = counts_put (length owners) (records_put room e owners senses (lists_put room e fins owners senses w))

-- all words behind an accepted split of the edge e: of its fins in its own order, with the loop and the sense of each
unfoldable pub words_split : List ℕ → List ℕ → ℕ → List ℕ
words_split room w e = split_put room e (list_of room w EDGE_FINS e) (fin_words room w AT_FIN_LOOP (list_of room w EDGE_FINS e)) (fin_words room w AT_FIN_SENSE (list_of room w EDGE_FINS e)) w
