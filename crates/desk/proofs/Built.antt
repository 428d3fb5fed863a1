-- A page after building or listing: the text, or the lines of the refusal written over it. Assumes nothing.
use mathlib.Core.Path.{◌≡◌, refl, sym, ap, ◌∙◌}
use mathlib.Core.Bool.{Bool, true, false, cond}
use mathlib.Core.List.{List, [], ◌++◌}
use Prim.Native.Nat.{ℕ, zero, suc, ◌≤◌}
use native.Mathlib.Omega.{arith}
use lib.Dec.{eqb}
use lib.ListN.{length, drop}
use borrow.Author.Tests.{ne_eqb}
use Rattle.std.specs.Prelude.{Some}
use Rattle.text.specs.declared.write.Writer.{Writer}
use Rattle.text.specs.Writing.{written}
use Rattle.model.specs.Entry.{in_front}
use Rattle.model.specs.BuiltEntry.{names_pair, BuiltSays}
use Rattle.model.specs.declared.Built.{Built}
use Rattle.model.specs.declared.Charted.{Charted}
use Rattle.desk.specs.Lines.{refused_line, pair_lines, refused_lines, Finishes}
use Rattle.desk.proofs.Writing.{front_shows, puts_shows, all_puts, all_short}

-- a refusal without a pair has no lines for one
same_lines : (k q f : ℕ) → refused_lines k (cond (names_pair k) q 0) (cond (names_pair k) f 0) ≡ refused_lines k q f
unfolding refused_lines pair_lines
same_lines k q f = go (names_pair k)
  where
    go : (b : Bool) → refused_line k ++ cond b (pair_lines (cond b q 0) (cond b f 0)) [] ≡ refused_line k ++ cond b (pair_lines q f) []
    go true = refl
    go false = refl

module _ {k : ℕ} {pair : Charted} {t : List ℕ} {b : Built} {o : List ℕ} {w v : Writer} (s : BuiltSays k pair t b o w.output.now) (f : Finishes b w v) where
  pub built_shows : b.refusal ≡ 0 → written v ≡ cond (eqb k 0) t (refused_lines k pair.mode pair.combination)
  unfolding in_front
  built_shows e =
      let n : k ≡ 0 = sym s.refusal ∙ e in
      let out : v.output.now ≡ t ++ drop (length t) o = (f.built e).1 ∙ (rw n at s.output) in
      let long : v.end ≡ Some (length t) = (f.built e).0 ∙ ap Some (rw n at s.written) in
      rw n (front_shows t (drop (length t) o) long out)

  pub refusal_shows : (b.refusal ≡ 0 → ⊥) → w.end ≡ Some 0 → 52 ≤ length o → written v ≡ cond (eqb k 0) t (refused_lines k pair.mode pair.combination)
  refusal_shows n begins room =
      let m : k ≡ 0 → ⊥ = λ e. n (s.refusal ∙ e) in
      let same : w.output.now ≡ o = rw (ne_eqb k 0 m) at s.output in
      let lines : refused_lines b.refusal b.mode b.combination ≡ refused_lines k pair.mode pair.combination = rw (s.refusal, s.mode, s.combination) (same_lines k pair.mode pair.combination) in
      rw (ne_eqb k 0 m, ← lines) (puts_shows (all_puts _ _ _ (f.refused n)) begins (omega (arith, all_short b.refusal b.mode b.combination, ap length same)))

  pub page_shows : w.end ≡ Some 0 → 52 ≤ length o → written v ≡ cond (eqb k 0) t (refused_lines k pair.mode pair.combination)
  page_shows begins room = go b.refusal refl
    where
      go : (j : ℕ) → b.refusal ≡ j → written v ≡ cond (eqb k 0) t (refused_lines k pair.mode pair.combination)
      go zero e = built_shows e
      go (suc j) e = refusal_shows (λ n. omega (arith, e, n)) begins room
