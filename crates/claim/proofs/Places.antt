-- Places in a text that go ahead, or stay. Assumes nothing.
use mathlib.Core.List.{List}
use Prim.Native.Nat.{ℕ, ◌≤◌}
use native.Mathlib.Omega.{arith}
use Rattle.claim.specs.Reads.{BlanksEnd, Ahead, Onward}

pub ahead : {s : List ℕ} {a b c : ℕ} → Ahead s a b → Ahead s b c → Ahead s a c
ahead p q = record { more = omega (arith, p.more, q.more); inside = q.inside }

pub stays : {s : List ℕ} {a : ℕ} → Onward s a a
stays = record { more = omega arith; inside = λ h. h }

pub onto : {s : List ℕ} {a b : ℕ} → Ahead s a b → Onward s a b
onto p = record { more = omega (arith, p.more); inside = λ h. p.inside }

pub over_blanks : {s : List ℕ} {limit a b : ℕ} → BlanksEnd s limit a b → Onward s a b
over_blanks p = record { more = p.ahead; inside = p.inside }

pub onward : {s : List ℕ} {a b c : ℕ} → Onward s a b → Onward s b c → Onward s a c
onward p q = record { more = omega (arith, p.more, q.more); inside = λ h. q.inside (p.inside h) }

pub ahead_onward : {s : List ℕ} {a b c : ℕ} → Ahead s a b → Onward s b c → Ahead s a c
ahead_onward p q = record { more = omega (arith, p.more, q.more); inside = q.inside p.inside }

-- from a place before it
pub from_ahead : {s : List ℕ} {a b c : ℕ} → a ≤ b → Ahead s b c → Ahead s a c
from_ahead h q = record { more = omega (arith, h, q.more); inside = q.inside }
