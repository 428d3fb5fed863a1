-- The examples of building and listing come out as they are listed: by computation.
use mathlib.Core.Path.{◌≡◌, refl}
use mathlib.Core.Bool.{Bool, true}
use Rattle.model.specs.Graph.{table_of}
use Rattle.model.specs.CaseText.{counts_row, mark_rows, end_rows, case_file}
use Rattle.model.specs.Product.{product, chart_automaton, claim_automaton, some_letter, has_edge, edges_to, edges_from, goes_on, graph_of, product_case, product_refusal, build_refusal}
use Rattle.model.specs.Steps.{shown, step_row, step_rows, walk_in, steps_text, steps_refusal}
use Rattle.model.specs.ProductRows.{builds_to, built, all_listed, listed, all_builds, builds, all_steps, steps}
use Rattle.model.proofs.KeptRuns as R
use Rattle.model.proofs.ClaimRows as C
use Rattle.model.proofs.ChartRows as H

-- to name this on an `unfolding` line is to let every definition compute
unfoldable computed : Bool → Bool
unfolding R.computed C.computed H.computed counts_row mark_rows end_rows case_file product chart_automaton claim_automaton some_letter has_edge edges_to edges_from goes_on table_of graph_of product_case product_refusal build_refusal shown step_row step_rows walk_in steps_text steps_refusal builds_to built all_listed all_builds all_steps
computed b = b

pub built_so : built ≡ true
unfolding computed
built_so = refl

pub listed_so : all_listed listed ≡ true
unfolding computed
listed_so = refl

pub builds_so : all_builds builds ≡ true
unfolding computed
builds_so = refl

pub steps_so : all_steps steps ≡ true
unfolding computed
steps_so = refl
