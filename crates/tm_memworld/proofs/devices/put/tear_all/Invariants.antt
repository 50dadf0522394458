use Rattle.std.proofs.Common.{◌≡◌, ℕ, ◌<◌, ◌≤◌}
use Rattle.tm_memworld.specs.Sites.{site_at, IsTorn}
use Rattle.tm_memworld.proofs.devices.put.tear_all.Given as goal

abbrev pub invariant-loop-i : goal.invariant-loop-i
invariant-loop-i l = record {
  below : (k : ℕ) → k < l.i → IsTorn l.torn l.time (site_at l.initial.sites k) (site_at l.sites k);
  above : (k : ℕ) → l.i ≤ k → site_at l.sites k ≡ site_at l.initial.sites k;
}
