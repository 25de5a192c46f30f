use Rattle.std.proofs.Common.{◌≡◌, suc, ◌-◌, arith, rules}
use Rattle.nodes.proofs.reuse.highest_reusable.Goals as goal

pub returns-then-is_reusable_at : goal.returns-then-is_reusable_at
returns-then-is_reusable_at g c = let e : c.loop-n.n ≡ suc (c.loop-n.n - 1) = omega arith in search rules

pub loop-n-preserved : goal.loop-n-preserved
loop-n-preserved g c = let e : c.loop-n.n ≡ suc (c.loop-n.n - 1) = omega arith in search rules
