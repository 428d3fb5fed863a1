-- Writes one after the other: those that have room, and a chain that perhaps has none. Assumes nothing.
use mathlib.Core.Path.{◌≡◌, refl, sym, ap, ◌∙◌}
use mathlib.Core.List.{List, [], ◌∷◌, ◌++◌, flatten}
use Prim.Native.Nat.{ℕ, ◌+◌, ◌≤◌}
use native.Mathlib.Nat.{add-zero}
use native.Mathlib.Omega.{arith}
use lib.ListN.{length, length-append}
use borrow.Author.Tests.{le-leb}
use Rattle.std.specs.Prelude.{Option, Some}
use Rattle.text.specs.Numbers.{decimal}
use Rattle.text.specs.declared.write.Writer.{Writer}
use Rattle.text.specs.Writing.{put, end_after, output_after, Writes, Puts, chain_end, chain_output, Chain}
use Rattle.text.proofs.Writing.{put_none, put_append, length_put}

-- WITH ROOM
pub puts : {bs : List ℕ} {w v : Writer} → Writes bs w v → Puts bs w v
unfolding end_after output_after
puts {bs} {w} {v} p = record { fits = λ at e h. let t = le-leb (at + length bs) (length w.output.now) h in (p.end ∙ rw (e, t) refl, p.output ∙ rw (e, t) refl) }

pub puts_none : (w : Writer) → Puts [] w w
puts_none w = record { fits = λ at e h. (e ∙ rw (add-zero at) refl, sym (put_none at w.output.now (omega arith))) }

pub puts_then : {bs cs : List ℕ} {w v u : Writer} → Puts bs w v → Puts cs v u → Puts (bs ++ cs) w u
puts_then {bs} {cs} {w} {v} {u} p q = record { fits = λ at e h. go at e h (omega (arith, length-append bs cs)) }
  where
    go : (at : ℕ) → w.end ≡ Some at → at + length (bs ++ cs) ≤ length w.output.now → at + length bs + length cs ≤ length w.output.now
        → (u.end ≡ Some (at + length (bs ++ cs))) × (u.output.now ≡ put at (bs ++ cs) w.output.now)
    go at e h k =
        let f = p.fits at e (omega arith) in
        let g = q.fits (at + length bs) f.0 (omega (arith, ap length f.1, length_put at bs w.output.now (omega arith))) in
        let s : at + length bs + length cs ≡ at + length (bs ++ cs) = omega (arith, length-append bs cs) in
        (g.0 ∙ ap Some s, g.1 ∙ rw f.1 (sym (put_append at bs cs w.output.now h)))

pub puts_as : {bs cs : List ℕ} {w v : Writer} → bs ≡ cs → Puts bs w v → Puts cs w v
puts_as e p = rw (← e) p

-- WHAT IS STILL TO PUT, in a loop of writes: whoever puts the rest here has put the whole
pub record Still (all : List ℕ) (w : Writer) (rest : List ℕ) (v : Writer) : Type 0 where
  pub whole : (u : Writer) → Puts rest v u → Puts all w u

pub still_start : (all : List ℕ) (w : Writer) → Still all w all w
still_start all w = record { whole = λ u p. p }

pub still_step : {all : List ℕ} {w : Writer} {rest : List ℕ} {v : Writer} {bs more : List ℕ} {u : Writer} → Still all w rest v → rest ≡ bs ++ more → Puts bs v u → Still all w more u
still_step l e p = record { whole = λ u t. l.whole u (puts_as (sym e) (puts_then p t)) }

pub still_end : {all : List ℕ} {w : Writer} {rest : List ℕ} {v : Writer} → Still all w rest v → rest ≡ [] → Puts all w v
still_end {v = v} l e = l.whole v (puts_as (sym e) (puts_none v))

-- A CHAIN of writes: one more in front
pub chain_none : (w : Writer) → Chain [] w w
unfolding chain_end chain_output
chain_none w = record { end = refl; output = refl }

pub chain_more : {p : List ℕ} {ps : List (List ℕ)} {w v u : Writer} → Writes p w v → Chain ps v u → Chain (p ∷ ps) w u
unfolding chain_end chain_output
chain_more {p} {ps} {w} {v} {u} f c = record { end = rw (← f.end, ← f.output) c.end; output = rw (← f.end, ← f.output) c.output }

pub chain_last : {p : List ℕ} {w v : Writer} → Writes p w v → Chain (p ∷ []) w v
chain_last {v = v} f = chain_more f (chain_none v)

-- one chain behind another
end_then : (ps qs : List (List ℕ)) (e : Option ℕ) (o : List ℕ) → chain_end (ps ++ qs) e o ≡ chain_end qs (chain_end ps e o) (chain_output ps e o)
unfolding chain_end chain_output
end_then [] qs e o = refl
end_then (p ∷ ps) qs e o = end_then ps qs (end_after e (length p) (length o)) (output_after e p o)

output_then : (ps qs : List (List ℕ)) (e : Option ℕ) (o : List ℕ) → chain_output (ps ++ qs) e o ≡ chain_output qs (chain_end ps e o) (chain_output ps e o)
unfolding chain_end chain_output
output_then [] qs e o = refl
output_then (p ∷ ps) qs e o = output_then ps qs (end_after e (length p) (length o)) (output_after e p o)

pub chain_then : {ps qs : List (List ℕ)} {w v u : Writer} → Chain ps w v → Chain qs v u → Chain (ps ++ qs) w u
chain_then {ps} {qs} {w} {v} {u} c d =
    record {
      end = d.end ∙ rw (c.end, c.output) (sym (end_then ps qs w.end w.output.now));
      output = d.output ∙ rw (c.end, c.output) (sym (output_then ps qs w.end w.output.now));
    }

-- where there is room for all its parts, they stand one behind the other
fits_all : (ps : List (List ℕ)) (at : ℕ) (o : List ℕ) → at + length (flatten ps) ≤ length o
    → (chain_end ps (Some at) o ≡ Some (at + length (flatten ps))) × (chain_output ps (Some at) o ≡ put at (flatten ps) o)
unfolding chain_end chain_output end_after output_after flatten
fits_all [] at o h = (rw (add-zero at) refl, sym (put_none at o (omega arith)))
fits_all (p ∷ ps) at o h =
    let k : at + length p + length (flatten ps) ≡ at + length (p ++ flatten ps) = omega (arith, length-append p (flatten ps)) in
    let t : at + length p ≤ length o = omega (arith, k) in
    let f = fits_all ps (at + length p) (put at p o) (omega (arith, k, length_put at p o t)) in
    rw (le-leb (at + length p) (length o) t) (f.0 ∙ ap Some k, f.1 ∙ sym (put_append at p (flatten ps) o h))

pub chain_puts : {ps : List (List ℕ)} {w v : Writer} → Chain ps w v → Puts (flatten ps) w v
chain_puts {ps} {w} {v} c = record { fits = λ at e h. let f = fits_all ps at w.output.now h in (c.end ∙ rw e f.0, c.output ∙ rw e f.1) }

-- a number and the byte that ends it
pub field_puts : (v end : ℕ) {w u : Writer} → Chain (decimal v ∷ (end ∷ []) ∷ []) w u → Puts (decimal v ++ (end ∷ [])) w u
unfolding flatten
field_puts v end c = chain_puts c
