-- How many lines of refused texts are taken, by computing it. Assumes nothing.
use mathlib.Core.Path.{◌≡◌, refl}
use mathlib.Core.List.{List, ◌++◌}
use Prim.Native.Nat.{ℕ}
use Rattle.text.specs.Ascii.{ascii}
use Rattle.text.specs.Lines.{put_byte, lines, line_at, put_first, fields, field, equal, begins, line_is}
use Rattle.text.specs.Numbers.{is_digit, all_digits, no_leading_zero, is_number, value_from, value, all_numbers, numbers_line, number_at}
use Rattle.model.specs.CaseFile.{refuse, first_of, other_version, counts_good, vertex_good, vertices_refusal, edge_of, edge_good, rises, edges_refusal, case_refusal}
use Rattle.casefile.specs.Judging.{head_refusal, counts_in, before_edges}
use Rattle.casefile.specs.Tables.{right_lines, rows_taken, pairs_taken}

-- a text's refusal, and how many vertex and edge lines are taken of it
record Takes (bs : List ℕ) (refusal rows pairs : ℕ) : Type 0 where
  refused : case_refusal bs ≡ refusal
  vertices : rows_taken bs ≡ rows
  edges : pairs_taken bs ≡ pairs

unfoldable computed : ℕ → ℕ
unfolding put_byte lines line_at put_first fields field equal begins line_is is_digit all_digits no_leading_zero is_number value_from value all_numbers numbers_line number_at refuse first_of other_version counts_good vertex_good vertices_refusal edge_of edge_good rises edges_refusal case_refusal head_refusal counts_in before_edges right_lines rows_taken pairs_taken
computed n = n

abbrev head : List ℕ
head = ascii "version vertices edges source workers\n1 3 4 0 2\nvertex accepting owner\n0 0 0\n"

-- an edge that does not rise: its line is the third of four
edge_again : Takes (head ++ ascii "1 1 1\n2 0 0\nfrom to\n0 1\n1 2\n1 2\n2 1\n") 8 3 2
unfolding computed
edge_again = record { refused = refl; vertices = refl; edges = refl }

-- an owner too large: no line of an edge is taken, though they would be right
owner_2 : Takes (head ++ ascii "1 1 2\n2 0 0\nfrom to\n0 1\n1 2\n2 0\n2 1\n") 6 1 0
unfolding computed
owner_2 = record { refused = refl; vertices = refl; edges = refl }

-- a wrong name of a line: no line at all
names : Takes (ascii "version vertices edges source workers\n1 3 4 0 2\nvertex owner\n0 0 0\n") 4 0 0
unfolding computed
names = record { refused = refl; vertices = refl; edges = refl }

-- one byte too many: all lines, though the text is refused
bytes_after : Takes (head ++ ascii "1 1 1\n2 0 0\nfrom to\n0 1\n1 2\n2 0\n2 1\n ") 4 3 4
unfolding computed
bytes_after = record { refused = refl; vertices = refl; edges = refl }
