-- Bounds: the bounds on acts and on offers sent, with the limits as parameters, and that both fit 32 bits.
use Prim.Native.Nat.{ℕ, suc, ◌+◌, ◌*◌, ◌^◌, ◌≤◌, ◌<◌}
use native.Mathlib.Omega.{arith}
use native.Mathlib.Nat.{mul-le-mul}
use lib.ListN.{length}
use Rattle.model.specs.Graph.{accepting_count}
use Rattle.model.specs.Case.{Case, most_vertices, most_edges, most_run_edges, most_acts, most_sent, Sound, Within}
use Rattle.model.proofs.Fits.{accepting_few}

-- the bound on acts, with the limits as parameters
pub most_acts_within : (c : Case) (n m : ℕ) → Sound c → c.graph.vertices ≤ n → length c.graph.edges ≤ m → most_acts c ≤ (n + m) * suc n
unfolding most_acts
most_acts_within c n m ok p q = mul-le-mul (let h : c.graph.vertices + length c.graph.edges ≤ n + m = omega arith in h) (let k : accepting_count c.graph + 1 ≤ suc n = omega (arith, accepting_few c ok) in k)

pub most_acts_small : (c : Case) → Sound c → Within c → most_acts c < 2 ^ 32
most_acts_small c ok l = omega (arith, most_acts_within c most_vertices most_run_edges ok l.vertices l.edges)

pub most_sent_within : (c : Case) (n m : ℕ) → Sound c → c.graph.vertices ≤ n → c.file_edges ≤ m → most_sent c ≤ m * suc n
unfolding most_sent
most_sent_within c n m ok p q = mul-le-mul q (let k : accepting_count c.graph + 1 ≤ suc n = omega (arith, accepting_few c ok) in k)

pub most_sent_small : (c : Case) → Sound c → Within c → most_sent c < 2 ^ 32
most_sent_small c ok l = omega (arith, most_sent_within c most_vertices most_edges ok l.vertices l.file)
