-- Examples of building and listing: the refusal of each call, and what is written, as tables with tests that compute.
-- proofs/ProductRows.antt proves them. Assumes nothing: these are definitions.
use Rattle.std.specs.Prelude.{Bool, true, ◌&&◌, List, [], ◌∷◌, ◌++◌, ℕ, eqb, replicate}
use Prim.Native.String.{String}
use Rattle.text.specs.Ascii.{ascii, space}
use Rattle.text.specs.Lines.{equal}
use Rattle.model.specs.CaseFile.{case_refusal}
use Rattle.model.specs.CaseText.{case_file}
use Rattle.model.specs.Product.{built_case, build_refusal}
use Rattle.model.specs.Steps.{listing, steps_refusal}

-- A MISSION: on flag 0 it climbs, else it holds, from either mode
abbrev mission : List ℕ
mission = ascii "version modes start flags\n1 2 0 2\nname\nHold\nClimb\nmode care value next\n0 1 1 1\n0 1 0 0\n1 1 1 1\n1 1 0 0\n"

-- A CLAIM by its propositions and its body: from some time on flag 1 stays off
abbrev claim : (propositions body : String) → List ℕ
claim ps b = ascii "HOA: v1\nStates: 2\nStart: 0\nAP: " ++ ascii ps ++ ascii "\nAcceptance: 1 Inf(0)\n--BODY--\n" ++ ascii b ++ ascii "--END--\n"

abbrev never_again : List ℕ
never_again = claim "2 \"climb\" \"photo\"" "State: 0 \"watch\"\n[t] 0\n[!1] 1\nState: 1 {0}\n[!1] 1\n"

-- flag 1 stays off: a claim that stops where it comes on, in a state that accepts and has no edge
abbrev stops : List ℕ
stops = claim "2 \"climb\" \"photo\"" "State: 0 {0}\n[!1] 0\n[1] 1\nState: 1 {0}\n"

-- WHAT IS WRITTEN
abbrev case : List ℕ
case =
    ascii "version vertices edges source workers\n1 4 12 0 2\nvertex accepting owner\n0 0 0\n1 1 1\n2 0 0\n3 1 1\nfrom to\n"
    ++ ascii "0 0\n0 1\n0 2\n0 3\n1 1\n1 3\n2 0\n2 1\n2 2\n2 3\n3 1\n3 3\n"

-- "accepting 0 for a product vertex with no edge": vertices 1 and 3, in whichever mode the claim has stopped
abbrev stopped : List ℕ
stopped =
    ascii "version vertices edges source workers\n1 4 8 0 2\nvertex accepting owner\n0 1 0\n1 0 1\n2 1 0\n3 0 1\nfrom to\n"
    ++ ascii "0 0\n0 1\n0 2\n0 3\n2 0\n2 1\n2 2\n2 3\n"

abbrev answer : (rest : String) → List ℕ
answer s = ascii "version verdict stem cycle reached\n" ++ ascii s

unfoldable pub builds_to : (chart claim : List ℕ) → (workers : ℕ) → (case : List ℕ) → Bool
builds_to h k p bs = equal (case_file (built_case h k p)) bs && eqb (case_refusal bs) 0

unfoldable pub built : Bool
built = builds_to mission never_again 2 case && builds_to mission stops 2 stopped

pub record Listed : Type 0 where
  pub chart : List ℕ
  pub claim : List ℕ
  pub answer : List ℕ
  pub shown : List ℕ

unfoldable pub all_listed : List Listed → Bool
all_listed [] = true
all_listed (r ∷ rs) =
    (eqb (steps_refusal r.chart r.claim r.answer 65536) 0 && equal (listing r.chart r.claim r.answer) r.shown) && all_listed rs

abbrev of_mission : (answer shown : String) → Listed
of_mission ts s = record { chart = mission; claim = never_again; answer = answer ts; shown = ascii s }

-- one mode, and one state of this name, in which any flags leave both
abbrev one_mode : List ℕ
one_mode = ascii "version modes start flags\n1 1 0 1\nname\na\nmode care value next\n0 0 0 0\n"

abbrev one_state : (name : String) → List ℕ
one_state w = ascii "HOA: v1 States: 1 Start: 0 AP: 1 \"p\" Acceptance: 1 Inf(0) --BODY-- State: 0 " ++ ascii w ++ ascii " {0} [t] 0 --END--"

abbrev named : (name shown : String) → Listed
named w s = record { chart = one_mode; claim = one_state w; answer = answer "1 lasso 0 1 0\nedge\n0\n"; shown = ascii s }

-- each edge of the answer has a line, also one that comes again; a name is as stored, also an empty one; where no accepting
-- cycle can be reached "the listing has length 0"
abbrev pub listed : List Listed
listed =
    of_mission "1 lasso 1 1 0\nedge\n1\n4\n" "Hold watch\nHold 1\n"
    ∷ of_mission "1 lasso 3 2 0\nedge\n2\n6\n1\n5\n10\n" "Hold watch\nClimb watch\nHold watch\nHold 1\nClimb 1\n"
    ∷ of_mission "1 lasso 1 2 0\nedge\n1\n4\n4\n" "Hold watch\nHold 1\nHold 1\n"
    ∷ of_mission "2 lasso 1 1 0\nedge\n1\n4\n" "Hold watch\nHold 1\n"
    ∷ record { chart = mission; claim = stops; answer = answer "2 lasso 1 2 0\nedge\n2\n4\n2\n"; shown = ascii "Hold 0\nClimb 0\nHold 0\n" }
    ∷ named "" "a 0\n"
    ∷ named "\"\"" "a \n"
    ∷ named "\"low fuel\"" "a low fuel\n"
    ∷ named "\"\\\"q\\\"\"" "a \\\"q\\\"\n"
    ∷ record {
      chart = one_mode;
      claim = ascii "HOA: v1 States: 1 Start: 0 AP: 1 \"p\" Acceptance: 1 Inf(0) --BODY-- State: 0 [t] 0 --END--";
      answer = answer "1 empty 0 0 1\nvertex distance\n0 0\n";
      shown = [];
    }
    ∷ []

-- THE ORDER OF REFUSALS: each row has the reasons of the rows after it as well, as far as they go together
pub record Refused : Type 0 where
  pub refusal : ℕ
  pub chart : List ℕ
  pub claim : List ℕ
  pub workers : ℕ
  pub answer : List ℕ
  pub output : ℕ

unfoldable pub all_builds : List Refused → Bool
all_builds [] = true
all_builds (r ∷ rs) = eqb (build_refusal r.chart r.claim r.workers r.output) r.refusal && all_builds rs

unfoldable pub all_steps : List Refused → Bool
all_steps [] = true
all_steps (r ∷ rs) = eqb (steps_refusal r.chart r.claim r.answer r.output) r.refusal && all_steps rs

abbrev building : (refusal : ℕ) → (chart claim : List ℕ) → (workers output : ℕ) → Refused
building k h c p o = record { refusal = k; chart = h; claim = c; workers = p; answer = []; output = o }

abbrev listing_of : (refusal : ℕ) → (chart claim answer : List ℕ) → (output : ℕ) → Refused
listing_of k h c ts o = record { refusal = k; chart = h; claim = c; workers = 0; answer = ts; output = o }

abbrev gap : List ℕ
gap = ascii "version modes start flags\n1 1 0 1\nname\na\nmode care value next\n0 1 0 0\n"

abbrev twice : List ℕ
twice = ascii "version modes start flags\n1 1 0 1\nname\na\nmode care value next\n0 0 0 0\n0 1 0 0\n"

-- claims of other counts than the mission's flags, and with a fault
abbrev three : List ℕ
three = claim "3 \"climb\" \"photo\" \"land\"" "State: 0\n[t] 0\nState: 1\n"

abbrev no_propositions : List ℕ
no_propositions = ascii "HOA: v1 States: 1 Start: 0 Acceptance: 1 Inf(0) --BODY-- State: 0 [t] 0 --END--"

abbrev torn : List ℕ
torn = ascii "HOA: v1 States: 2"

abbrev commented : List ℕ
commented = ascii "HOA: v1 /* watch */"

abbrev pub builds : List Refused
builds =
    building 11 [] [] 0 65535
    ∷ building 5 [] [] 0 65536
    ∷ building 5 [] [] 17 65536
    ∷ building 17 [] [] 16 65536
    ∷ building 17 [] never_again 1 65536
    ∷ building 18 gap [] 16 65536
    ∷ building 19 twice [] 1 65536
    ∷ building 14 mission [] 1 65536
    ∷ building 15 mission torn 1 65536
    ∷ building 16 mission commented 1 65536
    ∷ building 20 mission three 1 65536
    ∷ building 20 mission no_propositions 1 65536
    ∷ building 0 mission never_again 1 65536
    ∷ building 0 mission never_again 16 70000
    ∷ []

-- the listing has no worker count, and says of the answer what the checker says; edge 8 is the rest loop of vertex 1, in which
-- the claim has stopped
abbrev pub steps : List Refused
steps =
    listing_of 11 [] [] [] 65535
    ∷ listing_of 17 [] [] [] 65536
    ∷ listing_of 18 gap [] [] 65536
    ∷ listing_of 14 mission [] [] 65536
    ∷ listing_of 20 mission three (replicate 65537 space) 65536
    ∷ listing_of 1 mission never_again (replicate 65537 space) 65536
    ∷ listing_of 12 mission never_again [] 65536
    ∷ listing_of 3 mission never_again (answer "9 lasso 1 1 0\nedge\n1\n4\n") 65536
    ∷ listing_of 12 mission never_again (answer "1 open 1 1 0\nedge\n1\n4\n") 65536
    ∷ listing_of 13 mission never_again (answer "1 lasso 1 1 0\nedge\n1\n12\n") 65536
    ∷ listing_of 13 mission never_again (answer "1 lasso 1 1 0\nedge\n1\n5\n") 65536
    ∷ listing_of 13 mission stops (answer "2 lasso 1 1 0\nedge\n1\n8\n") 65536
    ∷ listing_of 13 mission never_again (answer "1 empty 0 0 4\nvertex distance\n0 0\n1 0\n2 0\n3 0\n") 65536
    ∷ listing_of 0 mission never_again (answer "1 lasso 1 1 0\nedge\n1\n4\n") 65536
    ∷ []
