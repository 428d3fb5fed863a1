-- What is promised: the three demands, as statements about any sound case, about accepted files, and about what the
-- entries return. A statement is a type; docs/PROOF-MAP.md names its proof. Assumes nothing: these are definitions.
use Rattle.std.specs.Prelude.{◌≡◌, true, false, List, [], ◌∷◌, ◌++◌, ◌⊎◌, ◌↔◌, ℕ, zero, suc, ◌+◌, ◌^◌, ◌≤◌, ◌<◌, leb, eqb, length, get_or, set, take, drop, ℤ, pos, neg_ℤ}
use Rattle.std.proofs.Math.Option.{Option, none, some}
use Rattle.std.specs.Int.Signed.{le_z, lt_z}
use Rattle.text.specs.Lines.{lines, line_at}
use Rattle.text.specs.Numbers.{number_at}
use Rattle.model.specs.Graph.{Graph, edge, mark, leaves, rested, edge_depth, accepting_count, walk_end, Reaches, is_lasso, HasLasso, NoLasso, HasWalk, Distance, Fewest}
use Rattle.model.specs.Case.{Case, resting, Sound, Within, owner, answer_version, most_acts, most_sent, least_output}
use Rattle.model.specs.CaseFile.{accepted, case_in, run_case}
use Rattle.model.specs.Run.{Tallies, no_tallies, State, distance, is_some, ended_lasso, has_ended, fresh, with_queues, depth_or, scan_from, no_vertex, no_message, full_cells, idle, does_something, act, acts_done, round_acts, by_list, by_rounds, Moment}
use Rattle.model.specs.Answer.{cycle_start, cycle, stem, lasso_text, empty_text, lasso_verdict, empty_verdict, answer}
use Rattle.model.specs.Passing.{answer_refusal, older_refusal, meant, check_refusal, answer_verdict}
use Rattle.model.specs.Entry.{ListSays, RoundsSay, CheckSays, list_refusal, verdict, zeros, tallies_of}
use Rattle.model.specs.declared.Outcome.{Outcome}
use Rattle.model.specs.declared.Checked.{Checked}

-- ANY SOUND CASE

-- a run of a case that has ended, by a list or by rounds
pub record Ended (c : Case) (x : State) : Type 0 where
  pub ended : has_ended x ≡ true
  pub run : Moment c x ⊎ (x ≡ by_rounds c)

-- demand 2, of an ended run: "says lasso exactly if a cycle through an accepting vertex can be reached from the
-- source, and shows one; otherwise empty, with each reachable vertex's least walk length". The stem is the one that
-- 01 names
pub record Finding (g : Graph) (x : State) : Type 0 where
  pub shown : (b : ℕ) → x.broken ≡ some b → is_lasso g (stem g (cycle_start g x.parents b)) (cycle g x.parents b) ≡ true
  pub fewest : (b : ℕ) → x.broken ≡ some b → Fewest g (cycle_start g x.parents b) (stem g (cycle_start g x.parents b))
  pub none_there : x.broken ≡ none → NoLasso g
  pub distances : x.broken ≡ none → (v d : ℕ) → get_or x.depths v none ≡ some d → Distance g v (distance d)
  pub reached : x.broken ≡ none → (v : ℕ) (es : List ℕ) → Reaches g v es → is_some (get_or x.depths v none) ≡ true

-- so many whole rounds, as a list of acts
unfoldable pub whole_rounds : (many : ℕ) → Case → List ℕ
whole_rounds zero c = []
whole_rounds (suc k) c = round_acts c ++ whole_rounds k c

-- every run of one case: demand 2 at its end; of demand 3, that "at most (n + m) × (A + 1) acts do something, and
-- once that many have, the run has ended", for any list, in range or not, and that rounds end, are a list of enough
-- whole rounds, and join no message
pub record RunsKept (c : Case) : Type 0 where
  pub finds : (x : State) → Ended c x → Finding c.graph x
  pub few_acts : (xs : List ℕ) → (by_list c xs).count ≤ most_acts c
  pub then_ended : (xs : List ℕ) → (by_list c xs).count ≡ most_acts c → has_ended (by_list c xs) ≡ true
  pub rounds_end : has_ended (by_rounds c) ≡ true
  pub rounds_listed : (k : ℕ) → most_acts c ≤ k → by_rounds c ≡ by_list c (whole_rounds k c)
  pub rounds_join_none : (by_rounds c).tallies.joined ≡ 0

-- "A run ends as lasso as soon as a try, done whole, has left a distance below −A": a vertex whose distance is
pub record BelowFloor (c : Case) (x : State) : Type 0 where
  pub vertex : ℕ
  pub depth : ℕ
  pub at : get_or x.depths vertex none ≡ some depth
  pub below : lt_z (distance depth) (neg_ℤ (pos (accepting_count c.graph))) ≡ true

-- "It ends as empty when, after a whole act, all queues and cells are empty"
pub record NothingWaits (x : State) : Type 0 where
  pub queues : no_vertex x.queues ≡ true
  pub cells : no_message x.cells ≡ true

-- the act rules, in their own words, at a moment x of a run: "idle: it changes nothing and isn't counted"; when a run
-- has ended; "an edge that has no cell", within one owner, never has a message
pub record RulesKept (c : Case) (x : State) : Type 0 where
  pub idle_changes_nothing : (a : ℕ) → idle c a x ≡ true → act c a x ≡ x
  pub not_done_after_end : (a : ℕ) → has_ended x ≡ true → act c a x ≡ x
  pub counted_once : (a : ℕ) → does_something c a x ≡ true → (act c a x).count ≡ suc x.count
  pub lasso_only : ended_lasso x ≡ true → BelowFloor c x
  pub lasso_always : BelowFloor c x → ended_lasso x ≡ true
  pub empty_only : x.ended_empty ≡ true → (1 ≤ x.count) × NothingWaits x
  pub empty_always : NothingWaits x → has_ended x ≡ true
  pub no_cell : (e : ℕ) → owner c (edge c.graph e).to ≡ owner c (edge c.graph e).from → get_or x.cells e none ≡ none

-- "At any moment sent equals delivered plus joined plus cells still full"
abbrev pub Balanced : Tallies → (full : ℕ) → Type 0
Balanced t k = t.sent ≡ (t.delivered + t.joined) + k

pub record Tallied (c : Case) (x : State) : Type 0 where
  pub balanced : Balanced x.tallies (full_cells x.cells)
  pub few_sent : x.tallies.sent ≤ most_sent c

-- at every moment, ended or not: the act rules hold, and the acts counted are those that did something; each distance
-- and each waiting offer is the length of a real walk; further acts never raise a distance; an offer that joins a waiting
-- message is always the lower of the two, so "the lower remains" and "the newer remains" agree; the tallies are right,
-- also inside a scan, after any number of edges
pub record MomentsKept (c : Case) : Type 0 where
  pub rules : (x : State) → Moment c x → RulesKept c x
  pub counts : (xs : List ℕ) → (by_list c xs).count ≡ acts_done c xs (fresh c)
  pub real_distances : (xs : List ℕ) (v d : ℕ) → get_or (by_list c xs).depths v none ≡ some d → HasWalk c.graph v (distance d)
  pub real_offers : (xs : List ℕ) (e o : ℕ) → get_or (by_list c xs).cells e none ≡ some o → HasWalk c.graph (edge c.graph e).to (distance o)
  pub never_raised :
      (xs ys : List ℕ) (v d : ℕ) → get_or (by_list c xs).depths v none ≡ some d →
      (k : ℕ) × (get_or (by_list c (xs ++ ys)).depths v none ≡ some k) × (le_z (distance k) (distance d) ≡ true)
  pub joins_lower :
      (xs : List ℕ) (w v : ℕ) (q : List ℕ) (e waiting : ℕ) → let x = by_list c xs in let d = depth_or (get_or x.depths v none) in
      has_ended x ≡ false → get_or x.queues w [] ≡ v ∷ q → (edge c.graph e).from ≡ v →
      get_or (scan_from e 0 c v d (with_queues (set x.queues w q) x)).cells e none ≡ some waiting → waiting < d + edge_depth c.graph e
  pub tallied : (xs : List ℕ) → Tallied c (by_list c xs)
  pub tallied_inside :
      (xs : List ℕ) (w v : ℕ) (q : List ℕ) (k : ℕ) → let x = by_list c xs in has_ended x ≡ false → get_or x.queues w [] ≡ v ∷ q → k ≤ length c.graph.edges →
      Tallied c (scan_from k 0 c v (depth_or (get_or x.depths v none)) (with_queues (set x.queues w q) x))

-- within the limits: an answer fits the least output, a count and a tally fit 32 bits; the checker "passes all that our
-- finished runs write", against each graph whose graph with rest loops the run was of; "an older checker refuses 2 by
-- number 3"
pub record LimitsKept (c : Case) : Type 0 where
  pub answers_fit : (x : State) → Ended c x → length (answer c.graph x) ≤ least_output
  pub counts_fit : most_acts c < 2 ^ 32
  pub tallies_fit : most_sent c < 2 ^ 32
  pub passes :
      (g : Graph) → rested g ≡ c.graph → (x : State) → Ended c x →
      (answer_refusal g (answer c.graph x) ≡ 0) × (answer_verdict (answer c.graph x) ≡ verdict x)
  pub older : (g : Graph) (x : State) → Ended c x → older_refusal g (answer c.graph x) ≡ 3

unfoldable pub OfCases : Type 0
OfCases = (c : Case) → Sound c → RunsKept c × MomentsKept c × (Within c → LimitsKept c)

-- there is one stem only
unfoldable pub OneStem : Type 0
OneStem = (g : Graph) (v : ℕ) (ss es : List ℕ) → Fewest g v ss → Fewest g v es → ss ≡ es

-- demand 3: "Any two ended runs on one graph, whatever their acts, workers and owners, by list or by rounds, have the
-- same finding, and where it is empty their answer files are equal byte for byte"
unfoldable pub Agree : Case → Case → Type 0
Agree c d =
    (x y : State) → Ended c x → Ended d y →
    (ended_lasso x ≡ ended_lasso y) × (ended_lasso x ≡ false → answer c.graph x ≡ answer d.graph y)

unfoldable pub SameFinding : Type 0
SameFinding = (c d : Case) → Sound c → Sound d → c.graph ≡ d.graph → Agree c d

-- demand 2: "The answer checker passes no answer whose finding is false", of the graph that its version means
unfoldable pub CheckerSound : Type 0
CheckerSound =
    (g : Graph) (ts : List ℕ) → answer_refusal g ts ≡ 0 →
    (answer_verdict ts ≡ lasso_verdict → HasLasso (meant g ts)) × (answer_verdict ts ≡ empty_verdict → NoLasso (meant g ts))

-- "The checker judges version 1 answers by the old meaning": every text that does not say version 2 gets what 01's checker
-- gave it
unfoldable pub AsBefore : Type 0
AsBefore =
    (g : Graph) (ts : List ℕ) → eqb (number_at (line_at (lines ts) 1) 0) answer_version ≡ false → answer_refusal g ts ≡ older_refusal g ts

-- REST LOOPS, of any graph. "Numbered after the file's edges in vertex order": file edges keep their numbers; each edge after
-- them is the loop of a vertex that no file edge leaves, in rising order; and an edge leaves every vertex
pub record IsRestLoop (g : Graph) (e : ℕ) : Type 0 where
  pub loop : (edge (rested g) e).to ≡ (edge (rested g) e).from
  pub below : (edge (rested g) e).from < g.vertices
  pub rests : leaves g.edges (edge (rested g) e).from ≡ false

pub record LoopsOnly (g : Graph) : Type 0 where
  pub kept : (e : ℕ) → e < length g.edges → edge (rested g) e ≡ edge g e
  pub loops : (e : ℕ) → length g.edges ≤ e → e < length (rested g).edges → IsRestLoop g e
  pub rising : (d e : ℕ) → length g.edges ≤ d → d < e → e < length (rested g).edges → (edge (rested g) d).from < (edge (rested g) e).from
  pub every : (v : ℕ) → v < g.vertices → leaves (rested g).edges v ≡ true
  pub few : length (rested g).edges ≤ length g.edges + g.vertices

unfoldable pub RestLoops : Type 0
RestLoops = (g : Graph) → LoopsOnly g

-- so a sound case stays sound, and one within the limits of a file is within those of a run
unfoldable pub RestingSound : Type 0
RestingSound = (c : Case) → Sound c → Sound (resting c) × (Within c → c.file_edges ≡ length c.graph.edges → Within (resting c))

-- "A reachable accepting dead end is then a lasso", and no other lasso comes with the rest loops
pub record DeadEnd (g : Graph) : Type 0 where
  pub vertex : ℕ
  pub below : vertex < g.vertices
  pub walk : List ℕ
  pub reaches : Reaches g vertex walk
  pub accepting : leb 1 (mark g vertex) ≡ true
  pub rests : leaves g.edges vertex ≡ false

unfoldable pub RestLasso : Type 0
RestLasso = (g : Graph) → HasLasso (rested g) ↔ (HasLasso g ⊎ DeadEnd g)

-- ACCEPTED FILES: each gives a sound case within the limits, and so is the case of its runs: all of the above holds of it
unfoldable pub FilesSound : Type 0
FilesSound = (bs : List ℕ) → accepted bs ≡ true → Sound (case_in bs) × Within (case_in bs)

unfoldable pub OfFiles : Type 0
OfFiles = (bs : List ℕ) → accepted bs ≡ true → let c = run_case bs in RunsKept c × MomentsKept c × LimitsKept c

unfoldable pub FilesAgree : Type 0
FilesAgree =
    (bs ds : List ℕ) → accepted bs ≡ true → accepted ds ≡ true → (case_in bs).graph ≡ (case_in ds).graph → Agree (run_case bs) (run_case ds)

-- THE ENTRIES: what holds of each outcome that meets its entry's contract. A run's entry is by a list or by rounds
unfoldable pub Says : (case : List ℕ) → Outcome → (output output_now : List ℕ) → (work work_now : List ℤ) → Type 0
Says bs r o z w v = ((xs : List ℕ) × ListSays bs xs r o z w v) ⊎ RoundsSay bs r o z w v

-- demand 1: "a result or a listed refusal"; "A refused call leaves the output buffer untouched, and the work buffer
-- too, save that refusal 10 leaves the latter all zeros"; "After a result the answer is at the front of the output, the
-- rest unchanged, and the work buffer all zeros"; of the tallies, that "other refusals return zeros"
pub record Definite (r : Outcome) (o z : List ℕ) (w v : List ℤ) : Type 0 where
  pub listed : r.refusal ≤ 11
  pub output : (r.refusal ≡ 0 → ⊥) → z ≡ o
  pub work : (r.refusal ≡ 0 → ⊥) → (r.refusal ≡ 10 → ⊥) → v ≡ w
  pub zeroed : r.refusal ≡ 10 → v ≡ zeros w
  pub length_zero : (r.refusal ≡ 0 → ⊥) → r.written ≡ 0
  pub acts_zero : (r.refusal ≡ 0 → ⊥) → (r.refusal ≡ 10 → ⊥) → r.acts ≡ 0
  pub tallies_zero : (r.refusal ≡ 0 → ⊥) → (r.refusal ≡ 10 → ⊥) → tallies_of r ≡ no_tallies
  pub rest : r.refusal ≡ 0 → drop r.written z ≡ drop r.written o
  pub cleared : r.refusal ≡ 0 → v ≡ zeros w

unfoldable pub RunsDefinite : Type 0
RunsDefinite = (bs : List ℕ) (r : Outcome) (o z : List ℕ) (w v : List ℤ) → Says bs r o z w v → Definite r o z w v

-- the checker never gives 9, 10 or 11
unfoldable pub ChecksDefinite : Type 0
ChecksDefinite = (bs ts : List ℕ) (r : Checked) → CheckSays bs ts r → (r.refusal ≤ 8) ⊎ ((r.refusal ≡ 12) ⊎ (r.refusal ≡ 13))

-- demand 2: the verdict returned is the finding, and the output shows why
pub record TrueVerdict (g : Graph) (v : ℕ) : Type 0 where
  pub lasso : v ≡ lasso_verdict → HasLasso g
  pub empty : v ≡ empty_verdict → NoLasso g
  pub either : (v ≡ lasso_verdict) ⊎ (v ≡ empty_verdict)

pub record ShowsLasso (g : Graph) (shown : List ℕ) : Type 0 where
  pub stem : List ℕ
  pub cycle : List ℕ
  pub bytes : shown ≡ lasso_text stem cycle
  pub lasso : is_lasso g stem cycle ≡ true
  pub fewest : Fewest g (walk_end g g.source stem) stem

pub record ShowsDistances (g : Graph) (shown : List ℕ) : Type 0 where
  pub depths : List (Option ℕ)
  pub bytes : shown ≡ empty_text depths
  pub distances : (v d : ℕ) → get_or depths v none ≡ some d → Distance g v (distance d)
  pub reached : (v : ℕ) (es : List ℕ) → Reaches g v es → is_some (get_or depths v none) ≡ true

-- the tallies of a result, with so many cells still full: none where it is "empty"
pub record ResultTallied (c : Case) (r : Outcome) : Type 0 where
  pub full : ℕ
  pub balanced : Balanced (tallies_of r) full
  pub none_full : r.verdict ≡ empty_verdict → full ≡ 0
  pub few_sent : r.sent ≤ most_sent c

pub record ResultRight (bs : List ℕ) (r : Outcome) (z : List ℕ) : Type 0 where
  pub verdict : TrueVerdict (rested (case_in bs).graph) r.verdict
  pub lasso : r.verdict ≡ lasso_verdict → ShowsLasso (rested (case_in bs).graph) (take r.written z)
  pub empty : r.verdict ≡ empty_verdict → ShowsDistances (rested (case_in bs).graph) (take r.written z)
  pub acts : r.acts ≤ most_acts (run_case bs)
  pub tallies : ResultTallied (run_case bs) r
  pub passes : (check_refusal bs (take r.written z) ≡ 0) × (answer_verdict (take r.written z) ≡ r.verdict)
  pub older : older_refusal (case_in bs).graph (take r.written z) ≡ 3

unfoldable pub RunsRight : Type 0
RunsRight = (bs : List ℕ) (r : Outcome) (o z : List ℕ) (w v : List ℤ) → Says bs r o z w v → r.refusal ≡ 0 → ResultRight bs r z

unfoldable pub CheckRight : Type 0
CheckRight = (bs ts : List ℕ) (r : Checked) → CheckSays bs ts r → r.refusal ≡ 0 → TrueVerdict (meant (case_in bs).graph ts) r.verdict

-- demand 3: two results on one graph agree, and where they say "empty" the same bytes were written
unfoldable pub RunsAgree : Type 0
RunsAgree =
    (bs ds : List ℕ) (r s : Outcome) (o z p y : List ℕ) (w v u t : List ℤ) → Says bs r o z w v → Says ds s p y u t → (case_in bs).graph ≡ (case_in ds).graph →
    r.refusal ≡ 0 → s.refusal ≡ 0 → (r.verdict ≡ s.verdict) × (r.verdict ≡ empty_verdict → take r.written z ≡ take s.written y)

-- "The run by rounds gives the result, count and answer file that a list of enough whole rounds gives"
unfoldable pub RoundsAsList : Type 0
RoundsAsList =
    (bs : List ℕ) (k : ℕ) (r : Outcome) (o z : List ℕ) (w v : List ℤ) → most_acts (run_case bs) ≤ k → RoundsSay bs r o z w v →
    ListSays bs (whole_rounds k (run_case bs)) r o z w v

-- "Refusal 10 is given exactly when the list leaves the run unended and no other refusal applies"; so it comes only
-- with fewer acts than the bound, and never by rounds; "10 returns the acts counted", and the tallies are in balance
-- "also when 10 is returned"
pub record Ten (bs xs : List ℕ) (r : Outcome) (output work : ℕ) : Type 0 where
  pub only : r.refusal ≡ 10 → (list_refusal bs xs output work ≡ 0) × (has_ended (by_list (run_case bs) xs) ≡ false)
  pub always : list_refusal bs xs output work ≡ 0 → has_ended (by_list (run_case bs) xs) ≡ false → r.refusal ≡ 10
  pub below : r.refusal ≡ 10 → r.acts < most_acts (run_case bs)
  pub counted : r.refusal ≡ 10 → r.acts ≡ acts_done (run_case bs) xs (fresh (run_case bs))
  pub balanced : r.refusal ≡ 10 → Balanced (tallies_of r) (full_cells (by_list (run_case bs) xs).cells)
  pub few_sent : r.refusal ≡ 10 → r.sent ≤ most_sent (run_case bs)

unfoldable pub TenExactly : Type 0
TenExactly = (bs xs : List ℕ) (r : Outcome) (o z : List ℕ) (w v : List ℤ) → ListSays bs xs r o z w v → Ten bs xs r (length o) (length w)

unfoldable pub RoundsNeverTen : Type 0
RoundsNeverTen = (bs : List ℕ) (r : Outcome) (o z : List ℕ) (w v : List ℤ) → RoundsSay bs r o z w v → r.refusal ≡ 10 → ⊥

-- by rounds every cell is empty when a round begins and gets one offer at most in it, so no message joins
unfoldable pub RoundsJoinNone : Type 0
RoundsJoinNone = (bs : List ℕ) (r : Outcome) (o z : List ℕ) (w v : List ℤ) → RoundsSay bs r o z w v → r.joined ≡ 0
