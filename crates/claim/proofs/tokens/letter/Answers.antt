-- `tokens::letter` meets its contract. Assumes nothing.
use mathlib.Core.Path.{◌≡◌, refl, sym, ◌∙◌}
use mathlib.Core.Bool.{Bool, true, false, ◌||◌}
use Rattle.model.specs.ClaimTokens.{is_letter, is_capital, is_small}
use Rattle.claim.proofs.tokens.letter.Goals as goal

small_first : (s c u : Bool) → s ≡ true → true ≡ ((c || s) || u)
small_first true true u e = refl
small_first true false u e = refl
small_first false c u e = cc

small_not : (s c u : Bool) → s ≡ false → (c || u) ≡ ((c || s) || u)
small_not s true u e = refl
small_not s false u e = rw e refl

pub returns-then-is_ascii_lowercase : goal.returns-then-is_ascii_lowercase
unfolding is_letter is_capital is_small
returns-then-is_ascii_lowercase c = c.if-is_ascii_lowercase.true ∙ small_first _ _ _ (sym c.is_ascii_lowercase.ensures.value ∙ c.if-is_ascii_lowercase.true)

pub returns-else-is_ascii_lowercase : goal.returns-else-is_ascii_lowercase
unfolding is_letter is_capital is_small
returns-else-is_ascii_lowercase c = rw c.is_ascii_uppercase.ensures.value (small_not _ _ _ (sym c.is_ascii_lowercase.ensures.value ∙ c.if-is_ascii_lowercase.false))
