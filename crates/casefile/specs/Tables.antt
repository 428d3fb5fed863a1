-- What the reader of a case file puts into tables: values of its lines, in their order, up to the first fault. Assumes
-- nothing: these are definitions.
use Rattle.std.specs.Prelude.{◌≡◌, cond, List, ℕ, zero, suc, ◌+◌, ◌≤◌, ◌<◌, eqb, length, get_or, drop, Result}
use Rattle.std.proofs.Math.Option.{none}
use Rattle.text.specs.Lines.{lines, line_at}
use Rattle.text.specs.Numbers.{number_at}
use Rattle.model.specs.Graph.{mark, edge}
use Rattle.model.specs.Case as model
use Rattle.model.specs.Case.{owner}
use Rattle.model.specs.CaseFile.{vertices_refusal, edges_refusal}
use Rattle.casefile.specs.Judging.{judged, head_refusal, counts_in, before_edges, block_says}
use Rattle.model.specs.declared.refusal.Refusal.{Refusal}
use Rattle.casefile.specs.declared.Case as code
use Rattle.casefile.specs.declared.CaseTables.{CaseTables}

-- the first k values stand at a table's front, as far as it has room, and the rest is as it was
pub record Took (k : ℕ) (value : ℕ → ℕ) (before after : List ℕ) : Type 0 where
  pub front : (i : ℕ) → i < k → i < length before → get_or after i 0 ≡ value i
  pub rest : (i : ℕ) → k ≤ i → get_or after i 0 ≡ get_or before i 0

-- number i of line j from a place on
unfoldable pub line_number : (text : List ℕ) → (at j i : ℕ) → ℕ
line_number s at j i = number_at (line_at (lines (drop at s)) j) i

-- how many lines in front are right, of so many, where `refusal k` is the refusal of the first k: the most that have none
unfoldable pub right_lines : (refusal : ℕ → ℕ) → (many : ℕ) → ℕ
right_lines refusal zero = 0
right_lines refusal (suc k) = cond (eqb (refusal (suc k)) 0) (suc k) (right_lines refusal k)

-- A BLOCK of so many lines: its answer, and the numbers i and j of the lines before the first fault in two tables
pub record BlockRead (refusal : ℕ → ℕ) (many : ℕ) (s : List ℕ) (at i j : ℕ) (r : Result ℕ Refusal) (a a' b b' : List ℕ) : Type 0 where
  pub answer : r ≡ block_says (refusal many) many s at
  pub one : Took (right_lines refusal many) (λ k. line_number s at k i) a a'
  pub two : Took (right_lines refusal many) (λ k. line_number s at k j) b b'

-- THE WHOLE FILE: how many vertex lines are taken, none where a line before them has a fault; and edge lines likewise
unfoldable pub rows_taken : (file : List ℕ) → ℕ
rows_taken bs =
    let c = counts_in bs in
    cond (eqb (head_refusal bs) 0) (right_lines (λ k. vertices_refusal k 0 c.workers (drop 3 (lines bs))) c.vertices) 0

unfoldable pub pairs_taken : (file : List ℕ) → ℕ
pairs_taken bs =
    let c = counts_in bs in
    cond (eqb (before_edges bs) 0) (right_lines (λ k. edges_refusal k c.vertices none (drop (4 + c.vertices) (lines bs))) c.edges) 0

-- the judge's answer; marks and owners of the vertex lines taken, and both ends of the edge lines taken
pub record CaseRead (s : List ℕ) (r : Result code.Case Refusal) (old new : CaseTables) : Type 0 where
  pub answer : r ≡ judged s
  pub mark_table : Took (rows_taken s) (λ v. line_number s 0 (3 + v) 1) old.marks.now new.marks.now
  pub owner_table : Took (rows_taken s) (λ v. line_number s 0 (3 + v) 2) old.owners.now new.owners.now
  pub from_table : Took (pairs_taken s) (λ e. line_number s 0 (4 + (counts_in s).vertices + e) 0) old.froms.now new.froms.now
  pub to_table : Took (pairs_taken s) (λ e. line_number s 0 (4 + (counts_in s).vertices + e) 1) old.tos.now new.tos.now

-- tables that lend the same memory
abbrev pub SameTables : (old new : CaseTables) → Type 0
SameTables old new =
    (new.marks.ghost_name ≡ old.marks.ghost_name) × (new.owners.ghost_name ≡ old.owners.ghost_name) × (new.froms.ghost_name ≡ old.froms.ghost_name)
    × (new.tos.ghost_name ≡ old.tos.ghost_name)

-- a case in tables that have room for it
pub record Holds (c : model.Case) (marks owners froms tos : List ℕ) : Type 0 where
  pub mark_at : (v : ℕ) → v < c.graph.vertices → get_or marks v 0 ≡ mark c.graph v
  pub owner_at : (v : ℕ) → v < c.graph.vertices → get_or owners v 0 ≡ owner c v
  pub from_at : (e : ℕ) → e < length c.graph.edges → get_or froms e 0 ≡ (edge c.graph e).from
  pub to_at : (e : ℕ) → e < length c.graph.edges → get_or tos e 0 ≡ (edge c.graph e).to
