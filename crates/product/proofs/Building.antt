-- `build_case`, way by way: each refusal in its place, and the file where none comes. Assumes nothing.
use mathlib.Core.Path.{◌≡◌, refl, sym, ap, ◌∙◌}
use Rattle.std.specs.Prelude.{Ok, Err, Some, unwrap_or}
use mathlib.Core.Bool.{true, false, not}
use mathlib.Core.List.{List, [], ◌∷◌}
use Prim.Native.Nat.{ℕ, ◌≤◌, ◌<◌}
use native.Mathlib.Nat.{zero-add}
use native.Mathlib.Omega.{arith}
use lib.Dec.{ltb, eqb}
use lib.ListN.{length}
use borrow.Author.Tests.{lt-ltb, le-ltb, leb-true}
use Rattle.text.specs.Writing.{Puts}
use Rattle.text.specs.declared.write.Writer.{Writer}
use Rattle.text.proofs.Tests.{and_both}
use Rattle.text.proofs.Chains.{puts_as}
use Rattle.text.proofs.Writing.{put_front}
use Rattle.model.specs.Case.{longest_file, most_edges, most_workers}
use Rattle.model.specs.CaseFile.{refuse, first_of}
use Rattle.model.specs.CaseText.{case_file}
use Rattle.model.specs.Entry.{in_front}
use Rattle.model.specs.ClaimTable.{claim_refusal}
use Rattle.model.specs.Claim.{claim_in}
use Rattle.model.specs.Chart.{chart_in, chart_says}
use Rattle.model.specs.Product.{graph_in, built_case, product_refusal, least_case_output, build_refusal}
use Rattle.model.specs.BuiltEntry.{names_pair, BuiltSays, BuildSays}
use Rattle.model.specs.Graph.{Edge}
use Rattle.model.specs.declared.refusal.Refusal.{Refusal}
use Rattle.model.specs.declared.refusal.Refusal.TheVariants.{ShortBuffer, OutOfRange}
use Rattle.model.specs.declared.Charted.{Charted}
use Rattle.model.proofs.Accepting.{first_one}
use Rattle.casefile.proofs.Refusals.{first_append, first_decides}
use Rattle.model.proofs.Products.{unrefused, right}
use Rattle.model.proofs.BuiltKept.{accepted_short}
use Rattle.product.specs.Refused.{refused_by, built_as}
use Rattle.product.specs.Both.{texts_refusal, BothHeld, BothRefused}
use Rattle.product.specs.Entries.{workers_right}
use Rattle.product.specs.declared.refused.Refused.{Refused}
use Rattle.product.specs.Edges.{EdgesFound}
use Rattle.product.specs.Written.{case_by}
use Rattle.product.specs.declared.edges.Sizes.{Sizes}
use Rattle.product.proofs.Writing.{product_is}
use Rattle.product.proofs.BothRead.{plain_says}

-- A RESULT: what a writer at the front put there, if that had room
pub record Fronted (t : List ℕ) (n : ℕ) (o z : List ℕ) : Type 0 where
  pub fits : length t ≤ length o → (n ≡ length t) × (z ≡ in_front t o)

pub fronted : {t : List ℕ} {n : ℕ} {o z : List ℕ} {w v : Writer} → w.end ≡ Some 0 → w.output.now ≡ o → Puts t w v → n ≡ unwrap_or v.end 0 → z ≡ v.output.now → Fronted t n o z
unfolding in_front
fronted {t} {n} {o} e q p a b =
    record {
      fits = λ h.
          let f = p.fits 0 e (rw q (omega arith)) in
          (a ∙ rw f.0 (zero-add (length t)), b ∙ f.1 ∙ rw q (put_front t o));
    }

pub fronted_none : (o : List ℕ) → Fronted [] 0 o o
unfolding in_front
fronted_none o = record { fits = λ h. (refl, refl) }

pub done_says : (c : Charted) (t : List ℕ) {n : ℕ} {o z : List ℕ} → Fronted t n o z → length t ≤ length o → BuiltSays 0 c t (built_as (Ok n)) o z
unfolding names_pair
done_says c t p h = let f = p.fits h in record { refusal = refl; mode = refl; combination = refl; written = f.0; output = f.1 }

-- CHART AND CLAIM: 21 comes after all their other refusals
product_last : (bs cs : List ℕ) → product_refusal bs cs ≡ first_of (texts_refusal bs cs ∷ refuse (ltb most_edges (length (graph_in bs cs).edges)) 21 ∷ [])
unfolding product_refusal texts_refusal
product_last bs cs = first_append ((chart_says bs).refusal ∷ claim_refusal cs ∷ refuse (not (eqb (claim_in cs).propositions (chart_in bs).flags)) 20 ∷ []) (refuse (ltb most_edges (length (graph_in bs cs).edges)) 21 ∷ [])

module _ (bs cs : List ℕ) where
  pub product_refused : (texts_refusal bs cs ≡ 0 → ⊥) → product_refusal bs cs ≡ texts_refusal bs cs
  product_refused n = product_last bs cs ∙ first_decides (texts_refusal bs cs) _ n

  module _ (e : texts_refusal bs cs ≡ 0) where
    pub product_many : most_edges < length (graph_in bs cs).edges → product_refusal bs cs ≡ 21
    unfolding first_of refuse
    product_many l = product_last bs cs ∙ rw (e, lt-ltb most_edges (length (graph_in bs cs).edges) l) refl

    pub product_passes : length (graph_in bs cs).edges ≤ most_edges → product_refusal bs cs ≡ 0
    unfolding first_of refuse
    product_passes l = product_last bs cs ∙ rw (e, le-ltb most_edges (length (graph_in bs cs).edges) l) refl

-- its case file fits
pub case_short : (bs cs : List ℕ) (p : ℕ) → product_refusal bs cs ≡ 0 → 1 ≤ p → p ≤ most_workers → length (case_file (built_case bs cs p)) ≤ longest_file
case_short bs cs p e s l =
    let u = unrefused bs cs e in
    accepted_short (case_file (built_case bs cs p)) (right (chart_in bs) (claim_in cs) p u.chart u.claim s l u.edges).accepted

-- BUILDING
pub workers_range : (p : ℕ) → true ≡ workers_right p → (1 ≤ p) × (p ≤ most_workers)
unfolding workers_right
workers_range p e = let b = and_both _ _ (sym e) in (leb-true 1 p b.0, leb-true p most_workers b.1)

module _ (bs cs : List ℕ) (p : ℕ) (o : List ℕ) where
  pub build_small : length o < least_case_output → BuildSays bs cs p (built_as (Err (refused_by ShortBuffer))) o o
  unfolding BuildSays build_refusal first_of refuse names_pair
  build_small l = rw (lt-ltb (length o) least_case_output l) (plain_says 11 refl refl _ _ o)

  module _ (room : least_case_output ≤ length o) where
    pub build_workers : false ≡ workers_right p → BuildSays bs cs p (built_as (Err (refused_by OutOfRange))) o o
    unfolding BuildSays build_refusal first_of refuse workers_right names_pair
    build_workers e = rw (le-ltb (length o) least_case_output room, ← e) (plain_says 5 refl refl _ _ o)

    module _ (right : true ≡ workers_right p) where
      build_is : build_refusal bs cs p (length o) ≡ product_refusal bs cs
      unfolding build_refusal first_of refuse workers_right
      build_is = rw (le-ltb (length o) least_case_output room, ← right) (first_one (product_refusal bs cs))

      pub build_refused : {r : Refused} → BothRefused bs cs r → BuildSays bs cs p (built_as (Err r)) o o
      unfolding BuildSays
      build_refused r = rw (build_is, product_refused bs cs r.fails) (r.says _ o)

      module _ {z : Sizes} {follow cells : List ℕ} (h : BothHeld bs cs z follow cells) where
        pub build_many : {k : Refusal} {es : List Edge} → EdgesFound z follow cells (Err k) es → BuildSays bs cs p (built_as (Err (refused_by k))) o o
        unfolding BuildSays names_pair
        build_many f =
            let q = f.edges (chart_in bs) (claim_in cs) h.held.given in
            rw (q.0, build_is, product_many bs cs h.passes q.1) (plain_says 21 refl refl _ _ o)

        module _ {edges : List Edge} (f : EdgesFound z follow cells (Ok tt) edges) (few : length edges ≤ most_edges) {n : ℕ} {w v : Writer}
            (start : w.end ≡ Some 0) (given : w.output.now ≡ o) (puts : Puts (case_file (case_by z p cells edges)) w v) (count : n ≡ unwrap_or v.end 0) where
          found : edges ≡ (graph_in bs cs).edges
          found = f.edges (chart_in bs) (claim_in cs) h.held.given

          passes : product_refusal bs cs ≡ 0
          passes = product_passes bs cs h.passes (rw found at few)

          short : length (case_file (built_case bs cs p)) ≤ longest_file
          short = let w = workers_range p right in case_short bs cs p passes w.0 w.1

          file : {o' : List ℕ} → o' ≡ v.output.now → Fronted (case_file (built_case bs cs p)) n o o'
          file e = fronted start given (puts_as (ap case_file (product_is (chart_in bs) (claim_in cs) z p edges h.held h.tables.some_states found)) puts) count e

          pub build_fits : n ≤ longest_file
          build_fits = omega (arith, ((file refl).fits (omega (arith, short))).0, short)

          pub build_done : {o' : List ℕ} → o' ≡ v.output.now → BuildSays bs cs p (built_as (Ok n)) o o'
          unfolding BuildSays
          build_done e = rw (build_is, passes) (done_says _ (case_file (built_case bs cs p)) (file e) (omega (arith, short)))
