-- The case that the reader gives, and its tables. Assumes nothing.
use mathlib.Core.Path.{◌≡◌, refl, sym, ap, ◌∙◌}
use mathlib.Core.Bool.{true}
use mathlib.Core.List.{List}
use Prim.Native.Nat.{ℕ, ◌≤◌}
use native.Mathlib.Omega.{arith}
use lib.ListN.{length}
use Rattle.std.specs.Prelude.{Result, Ok}
use Rattle.model.specs.Graph.{Graph, edge}
use Rattle.model.specs.Case.{most_vertices, most_edges, most_run_edges, Sound, Within}
use Rattle.model.specs.CaseFile.{accepted, case_in}
use Rattle.model.specs.Promise.{FilesSound}
use Rattle.model.proofs.Accepting.{files_sound}
use Rattle.casefile.specs.Judging.{header, judged}
use Rattle.casefile.specs.Tables.{CaseRead}
use Rattle.casefile.specs.declared.Case.{Case}
use Rattle.casefile.specs.declared.CaseTables.{CaseTables}
use Rattle.model.specs.declared.refusal.Refusal.{Refusal}
use Rattle.casefile.proofs.Whole.{taken}
use Rattle.casefile.proofs.Tables.{mark_held, from_held, to_held}
use Rattle.checker.specs.Checking.{Room, Stands}

-- THE CASE that the judge gives
pub record CaseOf (s : List ℕ) (c : Case) : Type 0 where
  pub is_accepted : accepted s ≡ true
  pub vertices : (case_in s).graph.vertices ≡ c.vertices
  pub edges : length (case_in s).graph.edges ≡ c.edges
  pub source : (case_in s).graph.source ≡ c.source

pub case_of : {s : List ℕ} {c : Case} → judged s ≡ Ok c → CaseOf s c
unfolding header
case_of {s} {c} h =
    let r = taken s refl h in
    record {
      is_accepted = r.0;
      vertices = ap (λ (x : Case). x.vertices) (sym r.1);
      edges = ap (λ (x : Case). x.edges) (sym r.1);
      source = ap (λ (x : Case). x.source) (sym r.1);
    }

sound : (s : List ℕ) → accepted s ≡ true → Sound (case_in s) × Within (case_in s)
unfolding FilesSound
sound s a = files_sound s a

few : (s : List ℕ) → Within (case_in s) → length (case_in s).graph.edges ≤ most_edges
unfolding case_in
few s w = w.file

-- it has room in tables, and stands in them
pub room : {s : List ℕ} {c : Case} {froms tos : List ℕ} → CaseOf s c → most_run_edges ≤ length froms → most_run_edges ≤ length tos → Room c.vertices c.edges froms tos
room {s} {c} o f t = let r = (sound s o.is_accepted).1 in record { few_vertices = rw (← o.vertices) r.vertices; few_edges = rw (← o.edges) (few s r); from_room = f; to_room = t }

pub stands : {s : List ℕ} {r : Result Case Refusal} {old new : CaseTables} (g : CaseRead s r old new) {c : Case} → r ≡ Ok c →
    most_vertices ≤ length old.marks.now → most_edges ≤ length old.froms.now → most_edges ≤ length old.tos.now → Stands (case_in s).graph c new.marks.now new.froms.now new.tos.now
unfolding edge
stands {s} g {c} e a b d =
    let o : CaseOf s c = case_of (sym g.answer ∙ e) in
    let r = sound s o.is_accepted in
    let m : length (case_in s).graph.edges ≤ most_edges = few s r.1 in
    record {
      vertices = o.vertices;
      source = o.source;
      ends = record { many = o.edges; from_at = λ k h. from_held g e (omega arith) k (rw o.edges h); to_at = λ k h. to_held g e (omega arith) k (rw o.edges h) };
      below = r.0.from;
      mark_at = mark_held g e (omega (arith, r.1.vertices));
      small = r.0.mark;
    }

-- and in the arrays that the tables lend
pub stands_in : {g : Graph} {c : Case} {marks marks' froms froms' tos tos' : List ℕ} → Stands g c marks froms tos → marks' ≡ marks → froms' ≡ froms → tos' ≡ tos → Stands g c marks' froms' tos'
stands_in s a b d = rw (a, b, d) s
