-- Of a volume that was listed only the count of looks differs.
use Rattle.std.proofs.Common.{◌≡◌, ℕ, List, sym, ap, ◌∙◌, subst}
use Rattle.tm_world.specs.Disk.{Disk}
use Rattle.tm_volume.specs.Seen.{Seen, IsKept, IsReady, StandsOn, tree_on}
use Rattle.tm_backup.specs.Taking.{view_on}

abbrev pub Listed : Seen → Seen → Type 0
Listed v w = w ≡ record v { looks = w.looks }

module _ (v w : Seen) (k : ℕ) (is : w ≡ record v { looks = k }) where
  pub kept_listed : IsKept v → IsKept w
  kept_listed h = subst IsKept (sym is) (record { image = h.image; side = h.side; tag_is = h.tag_is; tagged = h.tagged; head_is = h.head_is; sound = h.sound; lengths = h.lengths })

  pub ready_listed : (blocks : ℕ) → IsReady v blocks → IsReady w blocks
  ready_listed blocks h = subst (λ (x : Seen). IsReady x blocks) (sym is) (record { settled = h.settled; space = h.space; count = h.count; unstaged = h.unstaged })

  pub stands_listed : (disk : Disk) → StandsOn v disk → StandsOn w disk
  stands_listed disk h = subst (λ (x : Seen). StandsOn x disk) (sym is) (record { stands = h.stands; good = h.good; fixed = h.fixed })

  pub tree_listed : (bytes : ℕ → List ℕ) → tree_on w bytes ≡ tree_on v bytes
  tree_listed bytes = ap (λ (x : Seen). tree_on x bytes) is

  pub view_listed : (bytes : ℕ → List ℕ) → view_on w bytes ≡ view_on v bytes
  view_listed bytes = ap (λ (x : Seen). view_on x bytes) is

  pub fixed_listed : w.fixed ≡ v.fixed
  fixed_listed = ap (λ (x : Seen). x.fixed) is

-- listed twice
pub listed_then : (u v w : Seen) → Listed u v → Listed v w → Listed u w
listed_then u v w first second = second ∙ ap (λ (x : Seen). record x { looks = w.looks }) first
