-- Examples of texts and what is printed of them, with a test that computes. proofs/Rows.antt proves it. Assumes nothing:
-- these are definitions.
use Rattle.std.specs.Prelude.{Bool, true, ◌&&◌, List, [], ◌∷◌, ℕ}
use Rattle.text.specs.Ascii.{ascii}
use Rattle.text.specs.Lines.{equal}
use Rattle.claimcheck.specs.Printing.{printed}

pub record Row : Type 0 where
  pub text : List ℕ
  pub prints : List ℕ

unfoldable pub all_print : List Row → Bool
all_print [] = true
all_print (r ∷ rs) = equal (printed r.text) r.prints && all_print rs

-- a named state and one without a name; an empty name; refusals
abbrev pub rows : List Row
rows =
    record {
      text = ascii "HOA: v1\nStates: 2\nStart: 0\nAP: 2 \"low\" \"late\"\nAcceptance: 1 Inf(0)\n--BODY--\nState: 0 \"hold\" {0}\n[0 & !1] 0\n[1] 1\nState: 1\n[t] 1\n--END--\n";
      prints = ascii "states start propositions\n2 0 2\nstate accepting name\n0 1 hold\n1 0\n";
    }
    ∷ record {
      text = ascii "HOA: v1 States: 1 Start: 0 Acceptance: 1 Inf(0) --BODY-- State: 0 \"\" [t] 0 --END--";
      prints = ascii "states start propositions\n1 0 0\nstate accepting name\n0 0 \n";
    }
    ∷ record { text = []; prints = ascii "refused 14\n" }
    ∷ record { text = ascii "HOA: v1 /**/"; prints = ascii "refused 16\n" }
    ∷ []
