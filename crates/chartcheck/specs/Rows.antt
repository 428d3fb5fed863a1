-- Examples of charts and what is printed of them, with a test that computes. proofs/Rows.antt proves it. Assumes nothing:
-- these are definitions.
use Rattle.std.specs.Prelude.{Bool, true, ◌&&◌, List, [], ◌∷◌, ◌++◌, ℕ}
use Prim.Native.String.{String}
use Rattle.text.specs.Ascii.{ascii}
use Rattle.text.specs.Lines.{equal}
use Rattle.chartcheck.specs.Printing.{printed, told}

pub record Row : Type 0 where
  pub text : List ℕ
  pub prints : String
  pub tells : String

unfoldable pub all_print : List Row → Bool
all_print [] = true
all_print (r ∷ rs) = (equal (printed r.text) (ascii r.prints) && equal (told r.text) (ascii r.tells)) && all_print rs

-- hold and climb on three flags, by the rules of climb
abbrev chart : (rules : String) → List ℕ
chart rs = ascii "version modes start flags\n1 2 0 3\nname\nhold\nclimb\nmode care value next\n0 0 0 1\n" ++ ascii rs

abbrev pub rows : List Row
rows =
    record { text = chart "1 0 0 0\n"; prints = "pass\n"; tells = "" }
    ∷ record { text = chart "1 4 0 0\n1 5 5 1\n"; prints = "refused 18\nmode 1\nflags 4\n"; tells = "mode climb, flags 100: no rule\n" }
    ∷ record { text = chart "1 4 0 0\n1 4 4 0\n1 3 3 1\n"; prints = "refused 19\nmode 1\nflags 3\n"; tells = "mode climb, flags 011: more than one rule\n" }
    ∷ record { text = chart "1 8 0 0\n"; prints = "refused 17\n"; tells = "" }
    ∷ []
